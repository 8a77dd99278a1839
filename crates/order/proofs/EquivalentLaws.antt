-- AC-equivalent terms are not greater than each other: their mark is 9.
--     rows-level, multisets-level, flattened-level    rows, multisets and flattenings that are equal
--     root-level, mark-of-equivalent                  terms that are AC-equivalent
use mathlib.Core.List.{List, [], ◌∷◌, append-nil}
use mathlib.Core.Path.{◌≡◌, refl, sym, ◌∙◌}
use mathlib.Core.Bool.{Bool, true, false, cond, false≢true, and-eq-true_iff as both}
use Prim.Native.Nat.{ℕ}
use native.Mathlib.Omega.{arith}
use lib.Dec.{eqb}
use lib.ListN.{length}
use borrow.Author.Tests.{le-ltb, eq-eqb}
use Rattle.multisets.specs.Multiset.{is_empty, cancel, row_equal, row_greater, multiset_equal, multiset_greater}
use Rattle.multisets.proofs.Relations.{by_test, eqb-self}
use Rattle.multisets.proofs.MultisetLaws.{Respects, multiset_equal-length}
use Rattle.multisets.proofs.MultisetMaps.{multiset_equal-choose}
use Rattle.terms.specs.Signature.{Signature, symbol_of, coefficients_of, Admissible}
use Rattle.terms.specs.Term.{Term, Terms, row, weight, is_var, variable_count, flattenings, WellFormed}
use Rattle.terms.specs.Term.Term.{var, app}
use Rattle.terms.specs.Equivalence.{Equivalent, is_equivalent}
use Rattle.terms.specs.Order.{none_oftener, variables, root_above, root_below, high_part, low_part, joined_high}
use Rattle.terms.specs.Order.{flattened_mark}
use Rattle.terms.specs.Order.{root_mark, decreasing_mark, is_greater, mark}
use Rattle.terms.proofs.EquivalenceLaws.{is_equivalent-equivalence, symbol-of-is_equivalent, arguments-of-is_equivalent}
use Rattle.terms.proofs.EquivalenceMeasures.{measure-resp-equivalent}
use Rattle.terms.proofs.EquivalenceSound.{is_equivalent→Equivalent}
use Rattle.terms.proofs.OrderLaws.{none_oftener-facts}
use Rattle.equivalence.proofs.AlikeLaws.{var-app, app-var}

-- ---- rows and multisets

module _ {A : Type 0} (like greater : A → A → Bool) where
  rows-level : (l m : List A) → row_equal like l m ≡ true → row_greater like greater l m ≡ false
  unfolding row_equal row_greater
  rows-level [] m e = refl
  rows-level (a ∷ l) [] e = refl
  rows-level (a ∷ l) (b ∷ m) e =
      let h = (both (like a b) _).0 e in rw h.0 (rows-level l m h.1)

  multisets-level : (l m : List A) → multiset_equal like l m ≡ true → multiset_greater like greater l m ≡ false
  unfolding multiset_equal multiset_greater
  multisets-level l m e = rw ((both (is_empty (cancel like l m).left) _).0 e).0

  none_left : (l m : List A) → multiset_equal like l m ≡ true → (cancel like l m).right ≡ []
  unfolding multiset_equal
  none_left l m e = empty (cancel like l m).right ((both (is_empty (cancel like l m).left) _).0 e).1
    where
      empty : (l : List A) → is_empty l ≡ true → l ≡ []
      empty [] e = refl
      empty (a ∷ l) e = absurd (false≢true e)

-- ---- tests of the root

module _ (σ : Signature) where
  abbrev like : Term → Term → Bool
  like = is_equivalent σ

  by-root : {B : Type 0} (p : Term → B) → ((x y : ℕ) → p (var x) ≡ p (var y)) →
      ((f : ℕ) (ss ts : Terms) → p (app f ss) ≡ p (app f ts)) → Respects like p
  by-root p v a (var x) (var y) e = v x y
  by-root p v a (var x) (app g ts) e = absurd (false≢true (sym (var-app σ x g ts) ∙ e))
  by-root p v a (app f ss) (var y) e = absurd (false≢true (sym (app-var σ f ss y) ∙ e))
  by-root p v a (app f ss) (app g ts) e = rw (← symbol-of-is_equivalent σ f g ss ts e) (a f ss ts)

  module _ (greater : Term → Term → Bool) (f : ℕ) (ss ts : List Term) (e : multiset_equal like ss ts ≡ true) where
    same_count : length ss ≡ length ts
    same_count = multiset_equal-length like (is_equivalent-equivalence σ) ss ts e

    high-level : multiset_equal like (high_part σ f ss) (joined_high σ like f ss ts) ≡ true
    high-level =
        let E = is_equivalent-equivalence σ in
        let v = multiset_equal-choose like E is_var (by-root is_var (λ x y. refl) (λ f ss ts. refl)) ss ts e in
        rw (none_left like greater (variables ss) (variables ts) v, append-nil)
        (multiset_equal-choose like E (root_above σ f) (by-root (root_above σ f) (λ x y. refl) (λ f ss ts. refl)) ss ts e)

    low-level : multiset_equal like (low_part σ f ss) (low_part σ f ts) ≡ true
    low-level =
        multiset_equal-choose like (is_equivalent-equivalence σ) (root_below σ f)
        (by-root (root_below σ f) (λ x y. refl) (λ f ss ts. refl)) ss ts e

    flattened-level : flattened_mark σ like greater f ss ts ≡ 0
    unfolding flattened_mark
    flattened-level =
        rw (
          multisets-level like greater (high_part σ f ss) (joined_high σ like f ss ts) high-level,
          high-level,
          le-ltb (length ts) (length ss) (omega (arith, same_count)),
          eq-eqb (length ts) (length ss) (sym same_count),
          multisets-level like greater (low_part σ f ss) (low_part σ f ts) low-level,
        )

  root-level : (greater : Term → Term → Bool) (s t : Term) → like s t ≡ true → root_mark σ like greater s t ≡ 0
  unfolding root_mark
  root-level greater (var x) t e = refl
  root-level greater (app f ss) (var y) e = absurd (false≢true (sym (app-var σ f ss y) ∙ e))
  root-level greater (app f ss) (app g ts) e =
      let a = arguments-of-is_equivalent σ f g ss ts e in
      rw (
        ← symbol-of-is_equivalent σ f g ss ts e,
        le-ltb (symbol_of σ f).precedence (symbol_of σ f).precedence
            (omega arith),
        eqb-self f,
      )
      (by_test (symbol_of σ f).ac
      (λ c. rw (c, flattened-level greater f (flattenings f ss) (flattenings f ts) (rw c at a)))
      λ c. rw (c, rows-level like greater (row ss) (row ts) (rw c at a)))

  module _ (A : Admissible σ) (s t : Term) (v : WellFormed σ s) (w : WellFormed σ t) (e : like s t ≡ true) where
    derived : Equivalent σ s t
    derived = is_equivalent→Equivalent σ A.ac_binary s t v w e

    same-weight : weight σ s ≡ weight σ t
    same-weight = measure-resp-equivalent σ (coefficients_of σ) A.ac_ones _ _ derived

    none-oftener : none_oftener σ variable_count s t ≡ true
    none-oftener =
        (none_oftener-facts σ variable_count s t).1 λ x l.
        omega (arith, measure-resp-equivalent σ (coefficients_of σ) A.ac_ones (λ y. cond (eqb x y) 1 0) (λ f. 0) derived)

    pub level : (greater : Term → Term → Bool) → decreasing_mark σ like greater s t ≡ 0
    unfolding decreasing_mark
    level greater =
        rw (
          none-oftener,
          le-ltb (weight σ t) (weight σ s) (omega (arith, same-weight)),
          eq-eqb (weight σ t) (weight σ s) (sym same-weight),
          root-level greater s t e,
        )

    pub mark-of-equivalent : 9 ≡ mark σ s t
    unfolding mark
    mark-of-equivalent =
        rw (level (is_greater σ), none-oftener, le-ltb (weight σ s) (weight σ t) (omega (arith, same-weight)), e)
