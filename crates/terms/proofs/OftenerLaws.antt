-- The first variable that occurs oftener on the right.
--     oftener-first, first-oftener      what going up answers is the first, and the first is what it answers
--     first-low, first-high             the first of m + n variables is that of the first m, or of the n after them
--     oftener-some, oftener-none        the order's variable test by that answer
--     first-answer                      all of it
--     first_oftener-same, first_oftener-le     by occurrences alone; at most 16
use mathlib.Core.Bool.{true, false, false≢true}
use mathlib.Core.Path.{◌≡◌, refl, sym, ◌∙◌}
use Prim.Native.Nat.{ℕ, suc, zero, ◌+◌, ◌≤◌, ◌<◌}
use native.Mathlib.Omega.{arith}
use lib.Dec.{ltb}
use borrow.Author.Tests.{ltb-true, ltb-false}
use Rattle.multisets.proofs.Relations.{by_test, by_order, refuted}
use Rattle.terms.specs.Signature.{Signature}
use Rattle.terms.specs.Term.{Term, variable_coefficient, variable_count}
use Rattle.terms.specs.Order.{none_oftener}
use Rattle.terms.specs.Oftener.{oftener_from, first_oftener}
use Rattle.terms.specs.Statements.{IsFirstOftener}
use Rattle.terms.proofs.OrderLaws.{none_oftener-facts}

module _ (σ : Signature) (s t : Term) where
  -- r is the first of the n variables from x on that occurs oftener in t, or the one past them.
  pub record First (x n r : ℕ) : Type 0 where
    pub from : x ≤ r
    pub to : r ≤ x + n
    pub before : (y : ℕ) → x ≤ y → y < r → variable_coefficient σ y t ≤ variable_coefficient σ y s
    pub found : r < x + n → variable_coefficient σ r s < variable_coefficient σ r t

  pub oftener-first : (n x : ℕ) → First x n (oftener_from σ x n s t)
  unfolding oftener_from
  oftener-first zero x = record {
    from = omega arith;
    to = omega arith;
    before = λ y l h. absurd (omega arith);
    found = λ h. absurd (omega arith);
  }
  oftener-first (suc n) x =
      let o = ltb (variable_coefficient σ x s) (variable_coefficient σ x t) in
      by_test o
      (λ e. rw e (record {
        from = omega arith;
        to = omega arith;
        before = λ y l h. absurd (omega arith);
        found = λ h. ltb-true _ _ e;
      }))
      λ e. let rest = oftener-first n (suc x) in
      rw e (record {
        from = omega (arith, rest.from);
        to = omega (arith, rest.to);
        before = λ y l h. by_order x y (λ m. rest.before y (omega arith) h)
            λ m. let d : y ≡ x = omega arith in rw d (ltb-false _ _ e);
        found = λ h. rest.found (omega arith);
      })

  pub first-oftener : {x n r : ℕ} → First x n r → r ≡ oftener_from σ x n s t
  first-oftener {x} {n} {r} f =
      let g = oftener-first n x in
      let q = oftener_from σ x n s t in
      by_order r q
      (λ l. absurd (omega (arith, f.from, g.to, g.before r f.from l, f.found (omega (arith, g.to)))))
      λ l. by_order q r
      (λ m. absurd (omega (arith, g.from, f.to, f.before q g.from m, g.found (omega (arith, f.to)))))
      λ m. omega arith

  pub first-low : {x m r : ℕ} (n : ℕ) → First x m r → r < x + m → First x (m + n) r
  first-low n f l = record {
    from = f.from;
    to = omega (arith, f.to);
    before = f.before;
    found = λ h. f.found l;
  }

  pub first-high : {x m n q r : ℕ} → First x m q → x + m ≤ q → First (x + m) n r → First x (m + n) r
  first-high {x} {m} f l g = record {
    from = omega (arith, g.from);
    to = omega (arith, g.to);
    before = λ y k h. by_order y (x + m) (λ a. f.before y k (omega arith)) λ a. g.before y a h;
    found = λ h. g.found (omega arith);
  }

  -- ---- the order's test

  pub oftener-some : {r : ℕ} → r ≡ first_oftener σ s t → r < variable_count → false ≡ none_oftener σ variable_count s t
  unfolding first_oftener
  oftener-some {r} e l =
      let f = rw (sym e) at (oftener-first variable_count 0) in
      sym (refuted (none_oftener σ variable_count s t) λ d.
      omega (arith, (none_oftener-facts σ variable_count s t).0 d r l, f.found l))

  pub oftener-none : {r : ℕ} → r ≡ first_oftener σ s t → variable_count ≤ r → true ≡ none_oftener σ variable_count s t
  unfolding first_oftener
  oftener-none e l =
      let f = rw (sym e) at (oftener-first variable_count 0) in
      sym ((none_oftener-facts σ variable_count s t).1 λ x h. f.before x (omega arith) (omega arith))

  pub first-answer : IsFirstOftener σ s t (first_oftener σ s t)
  unfolding first_oftener
  first-answer =
      let f = oftener-first variable_count 0 in
      let x = first_oftener σ s t in
      record {
        before = λ y h. f.before y (omega arith) h;
        oftener = f.found;
        none = (
          λ e. by_order x variable_count (λ l. absurd (false≢true (oftener-some refl l ∙ e))) λ l. omega (arith, f.to),
          λ e. sym (oftener-none refl (omega arith)),
        );
      }

-- Terms with the same occurrences are not told apart.
module _ (σ : Signature) (s t s' t' : Term) (h : (y : ℕ) → variable_coefficient σ y s ≡ variable_coefficient σ y s')
    (k : (y : ℕ) → variable_coefficient σ y t ≡ variable_coefficient σ y t') where
  oftener_from-same : (n x : ℕ) → oftener_from σ x n s t ≡ oftener_from σ x n s' t'
  unfolding oftener_from
  oftener_from-same zero x = refl
  oftener_from-same (suc n) x = rw (h x, k x, oftener_from-same n (suc x))

  pub first_oftener-same : first_oftener σ s t ≡ first_oftener σ s' t'
  unfolding first_oftener
  first_oftener-same = oftener_from-same variable_count 0

pub first_oftener-le : (σ : Signature) (s t : Term) → first_oftener σ s t ≤ variable_count
unfolding first_oftener
first_oftener-le σ s t = (oftener-first σ s t variable_count 0).to
