-- Where every AC symbol is ranked lowest, Steinbach's order is the order: the cases of both are the same but for those
-- of flattenings, which then have no low part (FlattenedWhole). Case 1 is mark 11. Coefficients that are all 1 change
-- neither weights nor occurrences.
--     one-of-lowest, lowest-of-one     the one AC symbol is ranked lowest of all
--     greater-steinbach                the orders agree
use mathlib.Core.Path.{◌≡◌, refl, sym, ap, ◌∙◌}
use mathlib.Core.Bool.{true, false, cond, not, false≢true}
use Prim.Native.Nat.{ℕ, suc, zero, ◌≤◌, ◌<◌}
use native.Mathlib.Omega.{arith}
use lib.Dec.{eqb, ltb}
use borrow.Author.Tests.{eqb-false, eqb-true, le-ltb}
use Rattle.multisets.specs.Multiset.{row_greater}
use Rattle.terms.specs.Signature.{Signature, symbol_of, coefficients_of, IsSymbol, Ones, Admissible}
use Rattle.terms.specs.Term.{Term, Terms, row, size, is_var, flattenings, variable_count, weight, WellFormed}
use Rattle.terms.specs.Term.Term.{var, app}
use Rattle.terms.specs.Equivalence.{is_equivalent}
use Rattle.terms.specs.Order.{none_oftener, root_above, root_below, root_mark, decreasing_mark, is_greater}
use Rattle.terms.specs.Iterated.{is_power}
use Rattle.terms.specs.Steinbach.{none_more, plain_weight, steinbach_cases, steinbach_decreases, is_steinbach_greater_to}
use Rattle.terms.specs.Steinbach.{is_steinbach_greater}
use Rattle.multisets.proofs.Relations.{by_test, refuted}
use Rattle.terms.proofs.TermLaws.{size-pos, flattenings-formed, formed-parts, smaller-parts, parts-both}
use Rattle.terms.proofs.FlatteningLaws.{NotRoot, flattenings-roots}
use Rattle.terms.proofs.OrderLaws.{is_greater-unfolds}
use Rattle.terms.proofs.MeasureLaws.{measure-ones}
use Rattle.terms.proofs.SteinbachLaws.{none_more-ones, steinbach_decreases-agree}
use Rattle.theory.specs.SteinbachStatements.{AcLowest, OneAcLowest}
use Rattle.theory.proofs.RootTests.{place, root-apart}
use Rattle.theory.proofs.RootTests.Placed.{placed_above, placed_own, placed_below}
use Rattle.theory.proofs.FormedLaws.{like_formed, like_formed-equivalence, like_formed-root, like-formed}
use Rattle.theory.proofs.FormedLaws.{greater-formed, mark-formed}
use Rattle.theory.proofs.StrictOrder.{greater_formed, greater_formed-order, greater_formed-lowest}
use Rattle.theory.proofs.FlattenedWhole.{Upper, flattened_mark-whole}

module _ (σ : Signature) (A : Admissible σ) (f : ℕ) (i : IsSymbol σ f) (c : (symbol_of σ f).ac ≡ true) where
  pub one-of-lowest : AcLowest σ → OneAcLowest σ f
  one-of-lowest L g j n = elim (place σ f g A i j) [
    | placed_above l ↦ (refuted (symbol_of σ g).ac λ d. omega (arith, L g f j i d), l)
    | placed_own e ↦ absurd (n (sym e))
    | placed_below l ↦ absurd (omega (arith, L f g i j c))
  ]

  pub lowest-of-one : OneAcLowest σ f → AcLowest σ
  lowest-of-one O g h j k d =
      by_test (eqb g f)
      (λ e. rw (eqb-true g f e) (by_test (eqb h f) (λ q. rw (eqb-true h f q) (omega arith))
      λ q. omega (arith, (O h k (eqb-false h f q)).1)))
      λ e. absurd (false≢true (sym (O g j (eqb-false g f e)).0 ∙ d))

module _ (σ : Signature) (A : Admissible σ) (ones : Ones σ) (L : AcLowest σ) where
  -- A flattening for an AC symbol has no low part.
  upper : (f : ℕ) (ts : Terms) → (symbol_of σ f).ac ≡ true → WellFormed σ (app f ts) → Upper σ f (flattenings f ts)
  upper f ts c w a m = go a (flattenings-formed σ ts f w.2 a m) (flattenings-roots f ts a m)
    where
      go : (a : Term) → WellFormed σ a → NotRoot f a →
          (root_above σ f a ≡ not (is_var a)) × (root_below σ f a ≡ false)
      go (var x) v r = (refl, refl)
      go (app g us) v r =
          let b = le-ltb (symbol_of σ g).precedence (symbol_of σ f).precedence (L f g w.0 v.0 c) in
          (root-apart σ f g A w.0 v.0 r us ∙ ap not b, b)

  cases_same : (s t : Term) → WellFormed σ s → WellFormed σ t →
      ltb 0 (root_mark σ (like_formed σ) (greater_formed σ) s t) ≡ steinbach_cases σ (like_formed σ) (greater_formed σ) s t
  unfolding root_mark steinbach_cases
  cases_same (var x) t v w = refl
  cases_same (app f ss) (var y) v w = by_test (is_power f y (app f ss)) (λ a. rw a) λ a. rw a
  cases_same (app f ss) (app g ts) v w =
      by_test (ltb (symbol_of σ g).precedence (symbol_of σ f).precedence) (λ a. rw a)
      λ a. by_test (eqb f g)
      (λ b. by_test (symbol_of σ f).ac
      (λ c. rw (a, b, c) (flattened_mark-whole σ (like_formed σ) (like_formed-equivalence σ) (like_formed-root σ)
      (greater_formed σ) (greater_formed-order σ A) (greater_formed-lowest σ A) f (flattenings f ss) (flattenings f ts)
      (upper f ss c v) (upper f ts c (rw (← eqb-true f g b) at w))))
      λ c. by_test (row_greater (like_formed σ) (greater_formed σ) (row ss) (row ts)) (λ d. rw (a, b, c, d))
      λ d. rw (a, b, c, d))
      λ b. rw (a, b)

  weight-plain : (t : Term) → weight σ t ≡ plain_weight σ t
  weight-plain t = measure-ones (coefficients_of σ) (λ x. σ.w0) (λ f. (symbol_of σ f).weight) ones t

  none-plain : (s t : Term) → none_oftener σ variable_count s t ≡ none_more variable_count s t
  none-plain =
      none_more-ones σ (λ x. measure-ones (coefficients_of σ) (λ y. cond (eqb x y) 1 0) (λ f. 0) ones) variable_count

  decreases-same : (s t : Term) → WellFormed σ s → WellFormed σ t →
      ltb 0 (decreasing_mark σ (like_formed σ) (greater_formed σ) s t) ≡
      steinbach_decreases σ (like_formed σ) (greater_formed σ) s t
  unfolding decreasing_mark steinbach_decreases
  decreases-same s t v w =
      rw (none-plain s t, weight-plain s, weight-plain t) (by_test (none_more variable_count s t)
      (λ a. by_test (ltb (plain_weight σ t) (plain_weight σ s)) (λ b. rw (a, b))
      λ b. by_test (eqb (plain_weight σ t) (plain_weight σ s)) (λ c. rw (a, b, c) (cases_same s t v w))
      λ c. rw (a, b, c))
      λ a. rw a)

  by-depth : (n : ℕ) (s t : Term) → size s ≤ n → WellFormed σ s → WellFormed σ t →
      is_greater σ s t ≡ is_steinbach_greater_to σ n s t
  unfolding is_steinbach_greater_to
  by-depth zero s t l v w = absurd (omega (arith, size-pos s))
  by-depth (suc n) s t l v w =
      is_greater-unfolds σ s t
      ∙ ap (ltb 0) (mark-formed σ (is_greater σ) s t v w)
      ∙ decreases-same s t v w
      ∙ steinbach_decreases-agree σ (λ a. (size a < size s) × WellFormed σ a) (WellFormed σ) (like_formed σ)
      (is_equivalent σ) (λ a b p q. sym (like-formed σ a b p.1 q)) (greater_formed σ) (is_steinbach_greater_to σ n)
      (λ a b p q. sym (greater-formed σ (is_greater σ) a b p.1 q) ∙ by-depth n a b (omega arith) p.1 q) s t
      (parts-both (λ a. size a < size s) (WellFormed σ) s (smaller-parts s) (formed-parts σ s v)) (formed-parts σ t w)

  pub greater-steinbach : (s t : Term) → WellFormed σ s → WellFormed σ t → is_greater σ s t ≡ is_steinbach_greater σ s t
  unfolding is_steinbach_greater
  greater-steinbach s t = by-depth (size s) s t (omega arith)
