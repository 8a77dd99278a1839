-- Sums over symbols, as sums over arities, and capped numbers.
--     capped-sum, capped-add, capped-times      a capped part of a sum or a product
--     sum_over, length_over          how many things numbers give
--     sum_same, sum-none            sums of the same numbers, and of zeros
--     by-arity, arity_count-le       a sum over symbols is one over arities, each times the symbols that have it
use mathlib.Core.List.{List}
use mathlib.Core.Path.{◌≡◌, refl, sym, ap, ◌∙◌}
use mathlib.Core.Bool.{Bool, true, false, cond}
use Prim.Native.Nat.{ℕ, suc, zero, ◌+◌, ◌*◌, ◌≤◌, ◌<◌}
use native.Mathlib.Nat.{zero-mul, one-mul, add-mul, mul-le-mul}
use native.Mathlib.Omega.{arith}
use lib.Dec.{eqb}
use lib.ListN.{length, length-append}
use borrow.Author.Tests.{ne_eqb}
use Rattle.multisets.proofs.Relations.{by_order, eqb-self}
use Rattle.terms.specs.Signature.{Signature, symbol_of}
use Rattle.terms.specs.Enumeration.{over_numbers}
use Rattle.enumerating.specs.Counts.{capped, arity_count}

-- ---- capped numbers

capped-low : (n : ℕ) → n ≤ 65536 → capped n ≡ n
capped-low n h = omega arith

capped-high : (n : ℕ) → 65536 ≤ n → capped n ≡ 65536
capped-high n h = omega arith

pub capped-sum : (m n : ℕ) → capped (m + capped n) ≡ capped (m + n)
capped-sum m n =
    by_order n 65536 (λ h. ap (λ k. capped (m + k)) (capped-low n (omega arith)))
    λ h. capped-high (m + capped n) (omega (arith, capped-high n h)) ∙ sym (capped-high (m + n) (omega arith))

pub capped-add : (m n k : ℕ) → capped (capped (m + capped n) + k) ≡ capped (m + (n + k))
capped-add m n k =
    let first : capped (m + capped n) + k ≡ k + capped (m + n) = omega (arith, capped-sum m n) in
    let last : k + (m + n) ≡ m + (n + k) = omega arith in
    ap capped first ∙ capped-sum k (m + n) ∙ ap capped last

pub capped-times : (m n : ℕ) → capped (m * capped n) ≡ capped (m * n)
capped-times zero n = rw (zero-mul n, zero-mul (capped n))
capped-times (suc m) n =
    by_order n 65536 (λ h. let e : capped n ≡ n = omega arith in ap (λ k. capped (suc m * k)) e)
    λ h. let e : capped n ≡ 65536 = omega arith in
    let one : 1 ≤ suc m = omega arith in
    let a : 1 * 65536 ≤ suc m * n = mul-le-mul one h in
    omega arith

-- ---- sums

abbrev pub sum_over : (ℕ → ℕ) → ℕ → ℕ → ℕ
sum_over h f zero = 0
sum_over h f (suc n) = h f + sum_over h (suc f) n

pub length_over : {A : Type 0} (g : ℕ → List A) (f n : ℕ) →
    length (over_numbers g f n) ≡ sum_over (λ (x : ℕ). length (g x)) f n
length_over g f zero = refl
length_over g f (suc n) =
    length-append (g f) (over_numbers g (suc f) n) ∙ ap (λ k. length (g f) + k) (length_over g (suc f) n)

pub sum_same : (h k : ℕ → ℕ) → ((x : ℕ) → h x ≡ k x) → (f n : ℕ) → sum_over h f n ≡ sum_over k f n
sum_same h k e f zero = refl
sum_same h k e f (suc n) = omega (arith, e f, sum_same h k e (suc f) n)

pub sum-none : (h : ℕ → ℕ) (f n : ℕ) → ((x : ℕ) → f ≤ x → x < f + n → h x ≡ 0) → sum_over h f n ≡ 0
sum-none h f zero e = refl
sum-none h f (suc n) e =
    omega (arith, e f (omega arith) (omega arith), sum-none h (suc f) n λ x i j. e x (omega arith) (omega arith))

sum-add : (h k : ℕ → ℕ) (f n : ℕ) → sum_over (λ (x : ℕ). h x + k x) f n ≡ sum_over h f n + sum_over k f n
sum-add h k f zero = refl
sum-add h k f (suc n) = omega (arith, sum-add h k (suc f) n)

-- One term of a sum, by a test on its number.
abbrev only : ℕ → (ℕ → ℕ) → ℕ → ℕ
only b h a = cond (eqb b a) 1 0 * h a

only_same : (b : ℕ) (h : ℕ → ℕ) → only b h b ≡ h b
only_same b h = rw (eqb-self b, one-mul (h b))

only-other : (b : ℕ) (h : ℕ → ℕ) (a : ℕ) → (b ≡ a → ⊥) → only b h a ≡ 0
only-other b h a d = rw (ne_eqb b a d, zero-mul (h a))

sum-only : (b : ℕ) (h : ℕ → ℕ) (f n : ℕ) → f ≤ b → b < f + n → sum_over (only b h) f n ≡ h b
sum-only b h f zero i j = absurd (omega arith)
sum-only b h f (suc n) i j =
    by_order f b
    (λ l. omega (arith, only-other b h f (λ e. omega arith), sum-only b h (suc f) n (omega arith) (omega arith)))
    λ l. let e : f ≡ b = omega arith in
    rw e (omega (
      arith,
      only_same b h,
      sum-none (only b h) (suc b) n λ x y z. only-other b h x λ d. omega arith,
    ))

module _ (σ : Signature) (h : ℕ → ℕ) (to : ℕ) (none : (a : ℕ) → to ≤ a → h a ≡ 0) where
  sum-arity : (b : ℕ) → sum_over (only b h) 0 to ≡ h b
  sum-arity b =
      by_order b to (λ l. sum-only b h 0 to (omega arith) (omega arith))
      λ l. sum-none (only b h) 0 to (λ x i j. only-other b h x λ d. omega arith) ∙ sym (none b l)

  pub by-arity : (f n : ℕ) →
      sum_over (λ (x : ℕ). h (symbol_of σ x).arity) f n ≡ sum_over (λ (a : ℕ). arity_count σ a f n * h a) 0 to
  by-arity f zero = sym (sum-none (λ a. 0 * h a) 0 to λ x i j. zero-mul (h x))
  by-arity f (suc n) =
      let b = (symbol_of σ f).arity in
      let others : ℕ → ℕ = λ a. arity_count σ a (suc f) n * h a in
      let split : sum_over (λ a. (cond (eqb b a) 1 0 + arity_count σ a (suc f) n) * h a) 0 to
      ≡ sum_over (λ a. only b h a + others a) 0 to =
      sum_same _ _ (λ a. add-mul (cond (eqb b a) 1 0) (arity_count σ a (suc f) n) (h a)) 0 to in
      omega (arith, sum-arity b, by-arity (suc f) n, split, sum-add (only b h) others 0 to)

pub arity_count-le : (σ : Signature) (a f n : ℕ) → arity_count σ a f n ≤ n
arity_count-le σ a f zero = omega arith
arity_count-le σ a f (suc n) = omega (arith, bit_le (eqb (symbol_of σ f).arity a), arity_count-le σ a (suc f) n)
  where
    bit_le : (b : Bool) → cond b 1 0 ≤ 1
    bit_le true = omega arith
    bit_le false = omega arith
