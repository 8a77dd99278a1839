-- A list whose elements have pairwise different numbers below a bound is no longer than the bound.
--     sorted-within     a relation that follows from another, in a sorted list
--     hits, total       how often a number occurs; how often the numbers below a bound do
--     pigeonhole        the law
use mathlib.Core.List.{List, [], ◌∷◌, Memᴰ}
use mathlib.Core.Path.{◌≡◌, refl, ap}
use Prim.Native.Nat.{ℕ, suc, zero, ◌+◌, ◌≤◌, ◌<◌}
use native.Mathlib.Omega.{arith}
use lib.ListN.{length}
use lib.Dec.{eqb}
use borrow.Author.Tests.{eqb-false, eqb-true, ne_eqb}
use Rattle.terms.specs.Rewriting.{StronglySorted}
use Rattle.multisets.proofs.Relations.{by_test}
use Rattle.multisets.proofs.MultisetLaws.{bit, sum}

pub sorted-within : {A : Type 0} {R S : A → A → Type 0} (l : List A) →
    ((a b : A) → Memᴰ a l → Memᴰ b l → R a b → S a b) → StronglySorted R l → StronglySorted S l
sorted-within [] h p = tt
sorted-within (a ∷ l) h (r, p) = (
  λ b m. h a b (Memᴰ.head refl) (Memᴰ.tail m) (r b m),
  sorted-within l (λ b c m k. h b c (Memᴰ.tail m) (Memᴰ.tail k)) p,
)

module _ {A : Type 0} (f : A → ℕ) where
  -- How many elements have the number n.
  abbrev pub hits : ℕ → List A → ℕ
  hits n l = sum (λ (a : A). bit (eqb n (f a))) l

  -- How many elements have a number below n.
  abbrev total : ℕ → List A → ℕ
  total zero l = 0
  total (suc n) l = hits n l + total n l

  total-tail : (n : ℕ) (a : A) (l : List A) → total n l ≤ total n (a ∷ l)
  total-tail zero a l = omega arith
  total-tail (suc n) a l = omega (arith, total-tail n a l)

  total_here : (n : ℕ) (a : A) (l : List A) → f a < n → total n l < total n (a ∷ l)
  total_here zero a l h = absurd (omega arith)
  total_here (suc n) a l h =
      by_test (eqb n (f a)) (λ e. omega (arith, ap bit e, total-tail n a l))
      λ e. let k : f a < n = omega (arith, eqb-false n (f a) e) in omega (arith, total_here n a l k)

  length-total : (n : ℕ) (l : List A) → ((a : A) → Memᴰ a l → f a < n) → length l ≤ total n l
  length-total n [] h = omega arith
  length-total n (a ∷ l) h =
      omega (arith, total_here n a l (h a (Memᴰ.head refl)), length-total n l λ b m. h b (Memᴰ.tail m))

  hits-none : (n : ℕ) (l : List A) → ((a : A) → Memᴰ a l → n ≡ f a → ⊥) → hits n l ≡ 0
  hits-none n [] h = refl
  hits-none n (a ∷ l) h =
      omega (
        arith,
        ap bit (ne_eqb n (f a) (h a (Memᴰ.head refl))),
        hits-none n l λ b m. h b (Memᴰ.tail m),
      )

  hits-once : (n : ℕ) (l : List A) → StronglySorted (λ (a b : A). f a ≡ f b → ⊥) l → hits n l ≤ 1
  hits-once n [] h = omega arith
  hits-once n (a ∷ l) (h, k) =
      by_test (eqb n (f a)) (λ e. omega (arith, ap bit e, hits-none n l λ b m. rw (eqb-true n (f a) e) (h b m)))
      λ e. omega (arith, ap bit e, hits-once n l k)

  total-once : (n : ℕ) (l : List A) → ((m : ℕ) → hits m l ≤ 1) → total n l ≤ n
  total-once zero l h = omega arith
  total-once (suc n) l h = omega (arith, h n, total-once n l h)

  pub pigeonhole : (n : ℕ) (l : List A) → ((a : A) → Memᴰ a l → f a < n) →
      StronglySorted (λ (a b : A). f a ≡ f b → ⊥) l →
      length l ≤ n
  pigeonhole n l h k = omega (arith, length-total n l h, total-once n l λ m. hits-once m l k)
