-- Occurrences of eight variables as digits of one number: comparing digits compares occurrences.
--     digits_of-small                               each digit is small
--     digits_of-first                               the first digit that is greater
--     counts-small                               the digits in the totals of a term
--     counted-low, counted-high, counted_none    the first variable that occurs oftener, by the totals of two terms
use mathlib.Core.List.{[]}
use mathlib.Core.Path.{◌≡◌, refl, ap, ◌∙◌}
use mathlib.Core.Bool.{cond}
use Prim.Native.Nat.{ℕ, suc, zero, ◌+◌, ◌*◌, ◌/◌, ◌%◌, ◌≤◌, ◌<◌}
use native.Mathlib.Omega.{arith}
use lib.Dec.{eqb, ltb}
use Rattle.multisets.proofs.Relations.{by_test}
use Rattle.terms.specs.Signature.{Signature, coefficients_of, Ones}
use Rattle.terms.specs.Term.{Term, Terms, size, sizes, measures, plain, occurrences, variable_coefficient, variable_count}
use Rattle.terms.specs.Term.Term.{var, app}
use Rattle.terms.specs.Term.Terms.{nil, cons}
use Rattle.terms.specs.Oftener.{oftener_from, first_oftener}
use Rattle.terms.proofs.MeasureLaws.{measure-ones}
use Rattle.terms.proofs.OftenerLaws.{First, oftener-first, first-oftener, first-low, first-high}
use Rattle.weights.specs.declared.totals.Totals.{Totals}
use Rattle.weights.specs.Digits.{digit, digits_of, first_greater, SmallDigits}
use Rattle.weights.specs.Totals.{Counted, Counts}

-- ---- digits are occurrences

abbrev digits_of_all : ℕ → ℕ → Terms → ℕ
digits_of_all k n ts = measures plain (λ (x : ℕ). digit k n x) (λ (f : ℕ). 0) ts []

abbrev occurrences_in : ℕ → Terms → ℕ
occurrences_in x ts = measures plain (λ (y : ℕ). cond (eqb x y) 1 0) (λ (f : ℕ). 0) ts []

mutual
  digits_of-more : (k n : ℕ) (t : Term) → digits_of k (suc n) t ≡ occurrences k t + 256 * digits_of (suc k) n t
  digits_of-more k n (var x) = refl
  digits_of-more k n (app f ts) = omega (arith, digits_of_all-more k n ts)

  digits_of_all-more : (k n : ℕ) (ts : Terms) → digits_of_all k (suc n) ts ≡ occurrences_in k ts + 256 * digits_of_all (suc k) n ts
  digits_of_all-more k n nil = refl
  digits_of_all-more k n (cons t ts) = omega (arith, digits_of-more k n t, digits_of_all-more k n ts)

mutual
  digits_of-none : (k : ℕ) (t : Term) → digits_of k 0 t ≡ 0
  digits_of-none k (var x) = refl
  digits_of-none k (app f ts) = omega (arith, digits_of_all-none k ts)

  digits_of_all-none : (k : ℕ) (ts : Terms) → digits_of_all k 0 ts ≡ 0
  digits_of_all-none k nil = refl
  digits_of_all-none k (cons t ts) = omega (arith, digits_of-none k t, digits_of_all-none k ts)

mutual
  occurrences-size : (x : ℕ) (t : Term) → occurrences x t ≤ size t
  occurrences-size x (var y) = by_test (eqb x y) (λ e. rw e (omega arith)) λ e. rw e (omega arith)
  occurrences-size x (app f ts) = omega (arith, occurrences_in-sizes x ts)

  occurrences_in-sizes : (x : ℕ) (ts : Terms) → occurrences_in x ts ≤ sizes ts
  occurrences_in-sizes x nil = omega arith
  occurrences_in-sizes x (cons t ts) = omega (arith, occurrences-size x t, occurrences_in-sizes x ts)

-- In a term of at most 128 nodes no variable occurs 128 times.
occurrences-few : (x : ℕ) (t : Term) → size t ≤ 128 → occurrences x t < 128
occurrences-few x (var y) h = by_test (eqb x y) (λ e. rw e (omega arith)) λ e. rw e (omega arith)
occurrences-few x (app f ts) h = omega (arith, occurrences_in-sizes x ts)

module _ (t : Term) (h : size t ≤ 128) where
  -- The lowest digit, and the others.
  step : (k n : ℕ) → (digits_of k (suc n) t % 256 ≡ occurrences k t) × (digits_of k (suc n) t / 256 ≡ digits_of (suc k) n t)
  step k n = omega (arith, digits_of-more k n t, occurrences-few k t h)

  pub digits_of-small : (n k : ℕ) → SmallDigits n (digits_of k n t)
  unfolding SmallDigits
  digits_of-small zero k = digits_of-none k t
  digits_of-small (suc n) k =
      let (e, d) = step k n in rw (e, d) (occurrences-few k t h, digits_of-small n (suc k))

-- Where every coefficient is 1, a variable counts as often as it occurs.
module _ (σ : Signature) (ones : Ones σ) where
  coefficient-ones : (x : ℕ) (t : Term) → variable_coefficient σ x t ≡ occurrences x t
  coefficient-ones x = measure-ones (coefficients_of σ) (λ (y : ℕ). cond (eqb x y) 1 0) (λ (f : ℕ). 0) ones

  -- The first digit that is greater is that of the first variable that occurs oftener.
  digits_of-first : (s t : Term) → size s ≤ 128 → size t ≤ 128 → (n k : ℕ) →
      k + first_greater n (digits_of k n s) (digits_of k n t) ≡ oftener_from σ k n s t
  unfolding first_greater oftener_from
  digits_of-first s t p q zero k = omega arith
  digits_of-first s t p q (suc n) k =
      let (a, b) = step s p k n in
      let (c, d) = step t q k n in
      rw (a, b, c, d, coefficient-ones k s, coefficient-ones k t)
      (by_test (ltb (occurrences k s) (occurrences k t)) (λ e. rw e (omega arith))
      λ e. rw e (omega (arith, digits_of-first s t p q n (suc k))))

-- ---- by the totals of two terms

pub counts-small : {r : Totals} → Counts r → SmallDigits 8 r.low × SmallDigits 8 r.high
counts-small (t, A) =
    (rw A.low (digits_of-small t A.short 8 0), rw A.high (digits_of-small t A.short 8 8))

module _ (σ : Signature) (ones : Ones σ) {s t : Term} {a b : Totals} (A : Counted s a) (B : Counted t b) {q : ℕ}
    (d : q ≡ first_greater 8 a.low b.low) where
  low_first : First σ s t 0 8 q
  low_first =
      let f = digits_of-first σ ones s t A.short B.short 8 0 in
      let g : q ≡ oftener_from σ 0 8 s t = rw (A.low, B.low) at d ∙ omega (arith, f) in
      rw g (oftener-first σ s t 8 0)

  pub counted-low : q < 8 → q ≡ first_oftener σ s t
  unfolding first_oftener
  counted-low l = first-oftener σ s t (first-low σ s t 8 low_first l)

  module _ {r : ℕ} (e : r ≡ first_greater 8 a.high b.high) where
    high-first : First σ s t 8 8 (8 + r)
    high-first =
        let f = digits_of-first σ ones s t A.short B.short 8 8 in
        let g : 8 + r ≡ oftener_from σ 8 8 s t = ap (λ (n : ℕ). 8 + n) (rw (A.high, B.high) at e) ∙ f in
        rw g (oftener-first σ s t 8 8)

    pub counted-high : 8 ≤ q → 8 + r ≡ first_oftener σ s t
    unfolding first_oftener
    counted-high l = first-oftener σ s t (first-high σ s t low_first l high-first)

    pub counted_none : 8 ≤ q → 8 ≤ r → variable_count ≡ first_oftener σ s t
    counted_none l m = let g : variable_count ≡ 8 + r = omega (arith, high-first.to) in g ∙ counted-high l
