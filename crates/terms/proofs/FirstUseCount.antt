-- Node words whose variables are below a bound have at most as many variables.
--     first_uses-few     of all words
use mathlib.Core.Path.{◌≡◌, refl, sym}
use mathlib.Core.List.{List, [], ◌∷◌, ◌++◌, Memᴰ}
use mathlib.Core.Bool.{false, not}
use Prim.Native.Nat.{ℕ, suc, zero, ◌+◌, ◌≤◌, ◌<◌}
use native.Mathlib.Omega.{arith}
use lib.ListN.{length, length-append}
use lib.Dec.{eqb}
use borrow.Author.Tests.{eqb-true, eqb-false, ne_eqb}
use Rattle.multisets.specs.Multiset.{some}
use Rattle.multisets.proofs.Relations.{by_test}
use Rattle.multisets.proofs.MultisetLaws.{bit}
use Rattle.terms.specs.Words.{first_variable}
use Rattle.terms.specs.FirstUse.{see, see_all, first_uses}
use Rattle.terms.proofs.FirstUseLaws.{by_sight, see-symbol, see-known, see-new, has_last}

-- How many numbers below n are not in the list.
abbrev unseen : ℕ → List ℕ → ℕ
unseen zero l = 0
unseen (suc n) l = bit (not (some (eqb n) l)) + unseen n l

unseen-none : (n : ℕ) → unseen n [] ≡ n
unseen-none zero = refl
unseen-none (suc n) = omega (arith, unseen-none n)

some-last : (l : List ℕ) (x y : ℕ) → eqb y x ≡ false → some (eqb y) (l ++ (x ∷ [])) ≡ some (eqb y) l
some-last [] x y e = rw e
some-last (z ∷ l) x y e = by_test (eqb y z) (λ h. rw h) λ h. rw h (some-last l x y e)

unseen-above : (n : ℕ) (l : List ℕ) (x : ℕ) → n ≤ x → unseen n (l ++ (x ∷ [])) ≡ unseen n l
unseen-above zero l x h = refl
unseen-above (suc n) l x h =
    rw (some-last l x n (ne_eqb n x λ e. omega arith), unseen-above n l x (omega arith))

-- A new number below n was one of them.
unseen-new : (n : ℕ) (l : List ℕ) (x : ℕ) → x < n → some (eqb x) l ≡ false →
    suc (unseen n (l ++ (x ∷ []))) ≡ unseen n l
unseen-new zero l x h e = absurd (omega arith)
unseen-new (suc n) l x h e =
    by_test (eqb n x)
    (λ q. let p = eqb-true n x q in rw p (rw (has_last l x, e, unseen-above x l x (omega arith)) (omega arith)))
    λ q. rw (some-last l x n q) (omega (arith, unseen-new n l x (omega (arith, eqb-false n x q)) e))

module _ (n : ℕ) where
  seen_few : (ws seen : List ℕ) → ((x : ℕ) → Memᴰ (first_variable + x) ws → x < n) →
      length seen + unseen n seen ≡ n → length (see_all seen ws) ≤ n
  unfolding see_all
  seen_few [] seen below h = omega arith
  seen_few (w ∷ ws) seen below h =
      seen_few ws (see seen w) (λ x m. below x (Memᴰ.tail m))
      (by_sight seen w (λ l. rw (see-symbol seen w l) h) (λ x e k. rw (e, see-known seen x k) h)
      λ x e k. let new = unseen-new n seen x (below x (Memᴰ.head (sym e))) k in
      rw (e, see-new seen x k) (omega (arith, length-append seen (x ∷ []))))

  pub first_uses-few : (ws : List ℕ) → ((x : ℕ) → Memᴰ (first_variable + x) ws → x < n) →
      length (first_uses ws) ≤ n
  first_uses-few ws below = seen_few ws [] below (omega (arith, unseen-none n))
