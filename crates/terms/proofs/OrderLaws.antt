-- The definitions of the order: the test of occurrences, and the order without depth. A mark asks its tests of parts of
-- the one term and parts of the other, so tests that agree there give the same mark.
--     none_oftener-facts, -resp, oftener                    the test of occurrences
--     joined_high-agree, high_equal-agree, high_greater-agree the tests of two flattenings
--     decreasing_mark-agree                                 the tests of two terms
--     is_greater_to-depth, is_greater-unfolds                 from the size on the depth does not matter
use mathlib.Core.List.Memᴰ
use mathlib.Core.List.{List, ◌++◌}
use mathlib.Core.Logic.{◌↔◌, ⊎_elim}
use mathlib.Core.Path.{◌≡◌, refl, ap, ap₂, ◌∙◌}
use mathlib.Core.Bool.{Bool, true, false, ◌&&◌, and-eq-true_iff as both, true≢false}
use Prim.Native.Nat.{ℕ, suc, zero, ◌≤◌, ◌<◌}
use native.Mathlib.Omega.{arith}
use lib.Dec.{eqb, leb, ltb}
use borrow.Author.Tests.{eqb-false, eqb-true, le-leb, leb-false, leb-true}
use Rattle.multisets.specs.Multiset.{Rest, multiset_equal, multiset_greater}
use Rattle.terms.specs.Signature.{Signature}
use Rattle.terms.specs.Term.{Term, row, size, variable_coefficient, is_var, flattenings}
use Rattle.terms.specs.Term.Term.{var, app}
use Rattle.terms.specs.Equivalence.{is_equivalent}
use Rattle.terms.specs.Order.{none_oftener, variables, root_above, root_below, high_part, low_part, joined_high}
use Rattle.terms.specs.Order.{high_equal, high_greater, flattened_mark, root_mark, decreasing_mark, is_greater_to}
use Rattle.terms.specs.Order.{is_greater}
use Rattle.multisets.proofs.Relations.{by_test}
use Rattle.multisets.proofs.Agreement.{Agree, cancel-leaves, cancel-agree, multiset_equal-agree, multiset_greater-agree}
use Rattle.multisets.proofs.Agreement.{row_greater-agree}
use Rattle.terms.proofs.TermLaws.{Each, each-choose, Parts, smaller-parts, any-parts, AgreeOn, each-agree}
use Rattle.terms.proofs.TermLaws.{AsksSmaller, depth, without-depth}

-- ---- occurrences

module _ (σ : Signature) where
  pub none_oftener-facts : (n : ℕ) (s t : Term) →
      none_oftener σ n s t ≡ true ↔ ((x : ℕ) → x < n → variable_coefficient σ x t ≤ variable_coefficient σ x s)
  unfolding none_oftener
  none_oftener-facts zero s t = (λ e x h. absurd (omega arith), λ h. refl)
  none_oftener-facts (suc n) s t = (
    λ e x h. by_test (eqb x n)
        (λ q. rw (eqb-true x n q) (leb-true (variable_coefficient σ n t) (variable_coefficient σ n s) ((both _ _).0 e).0))
        λ q. (none_oftener-facts n s t).0
        ((both (leb (variable_coefficient σ n t) (variable_coefficient σ n s)) _).0 e).1 x
        (omega (arith, eqb-false x n q)),
    λ h. (both _ _).1 (
      le-leb (variable_coefficient σ n t) (variable_coefficient σ n s) (h n (omega arith)),
      (none_oftener-facts n s t).1 λ x k. h x (omega arith),
    ),
  )

  -- The variable that occurs oftener.
  pub oftener : (n : ℕ) (s t : Term) → none_oftener σ n s t ≡ false →
      (x : ℕ) × (x < n) × (variable_coefficient σ x s < variable_coefficient σ x t)
  unfolding none_oftener
  oftener zero s t e = absurd (true≢false e)
  oftener (suc n) s t e =
      by_test (leb (variable_coefficient σ n t) (variable_coefficient σ n s))
      (λ h. let (x, k, o) = oftener n s t (rw h at e) in (x, omega arith, o))
      λ h. (n, omega arith, leb-false _ _ h)

  -- Terms with the same occurrences pass the same test of them.
  pub none_oftener-resp : (n : ℕ) (s s' t t' : Term) →
      ((x : ℕ) → variable_coefficient σ x s ≡ variable_coefficient σ x s') →
      ((x : ℕ) → variable_coefficient σ x t ≡ variable_coefficient σ x t') → none_oftener σ n s t ≡ none_oftener σ n s' t'
  unfolding none_oftener
  none_oftener-resp zero s s' t t' h k = refl
  none_oftener-resp (suc n) s s' t t' h k = ap₂ ◌&&◌ (ap₂ leb (k n) (h n)) (none_oftener-resp n s s' t t' h k)

-- ---- tests that agree

pub each-joined : (σ : Signature) (like : Term → Term → Bool) (f : ℕ) {P : Term → Type 0} (ss ts : List Term) →
    Each P ts → Each P (joined_high σ like f ss ts)
each-joined σ like f ss ts h a m =
    ⊎_elim (each-choose (root_above σ f) ts h a)
    (λ k. each-choose is_var ts h a ((cancel-leaves like (variables ss) (variables ts)).right a k))
    (Memᴰ.append_cases (high_part σ f ts) m)

module _ (σ : Signature) (P Q : Term → Type 0) (like like' : Term → Term → Bool) (h : AgreeOn P Q like like') where
  module _ (f : ℕ) (ss ts : List Term) (p : Each P ss) (q : Each Q ts) where
    pub joined_high-agree : joined_high σ like f ss ts ≡ joined_high σ like' f ss ts
    joined_high-agree =
        ap (λ (r : Rest Term). high_part σ f ts ++ r.right)
        (cancel-agree like like' (variables ss) (variables ts)
        (each-agree h (each-choose is_var ss p) (each-choose is_var ts q)))

    high-agree : {test test' : Term → Term → Bool} → AgreeOn P Q test test' →
        Agree (high_part σ f ss) (joined_high σ like f ss ts) test test'
    high-agree k = each-agree k (each-choose (root_above σ f) ss p) (each-joined σ like f ss ts q)

    low-agree : {test test' : Term → Term → Bool} → AgreeOn P Q test test' →
        Agree (low_part σ f ss) (low_part σ f ts) test test'
    low-agree k = each-agree k (each-choose (root_below σ f) ss p) (each-choose (root_below σ f) ts q)

    pub high_equal-agree : high_equal σ like f ss ts ≡ high_equal σ like' f ss ts
    high_equal-agree =
        multiset_equal-agree like like' (high_part σ f ss) (joined_high σ like f ss ts) (high-agree h)
        ∙ ap (multiset_equal like' (high_part σ f ss)) joined_high-agree

    module _ (greater greater' : Term → Term → Bool) (k : AgreeOn P Q greater greater') where
      pub high_greater-agree : high_greater σ like greater f ss ts ≡ high_greater σ like' greater' f ss ts
      high_greater-agree =
          multiset_greater-agree like like' greater greater' (high_part σ f ss) (joined_high σ like f ss ts)
          (high-agree h) (high-agree k)
          ∙ ap (multiset_greater like' greater' (high_part σ f ss)) joined_high-agree

      flattened_mark-agree : flattened_mark σ like greater f ss ts ≡ flattened_mark σ like' greater' f ss ts
      unfolding flattened_mark
      flattened_mark-agree =
          rw (
            high_greater-agree,
            high_equal-agree,
            multiset_greater-agree like like' greater greater' (low_part σ f ss) (low_part σ f ts) (low-agree h)
                (low-agree k),
          )

  module _ (greater greater' : Term → Term → Bool) (k : AgreeOn P Q greater greater') where
    root_mark-agree : (s t : Term) → Parts P s → Parts Q t →
        root_mark σ like greater s t ≡ root_mark σ like' greater' s t
    unfolding root_mark
    root_mark-agree (var x) t p q = refl
    root_mark-agree (app f ss) (var y) p q = refl
    root_mark-agree (app f ss) (app g ts) p q =
        rw (
          flattened_mark-agree f (flattenings f ss) (flattenings f ts) (p.1 f) (q.1 f) greater greater' k,
          row_greater-agree like like' greater greater' (row ss) (row ts) (each-agree h p.0 q.0)
              (each-agree k p.0 q.0),
        )

    pub decreasing_mark-agree : (s t : Term) → Parts P s → Parts Q t →
        decreasing_mark σ like greater s t ≡ decreasing_mark σ like' greater' s t
    unfolding decreasing_mark
    decreasing_mark-agree s t p q = rw (root_mark-agree s t p q)

-- ---- depth

module _ (σ : Signature) where
  abbrev step : (Term → Term → Bool) → Term → Term → Bool
  step greater s t = ltb 0 (decreasing_mark σ (is_equivalent σ) greater s t)

  asks-smaller : AsksSmaller step
  asks-smaller greater greater' s t h =
      ap (ltb 0) (decreasing_mark-agree σ (λ a. size a < size s) (λ b. Unit {0}) (is_equivalent σ) (is_equivalent σ)
      (λ a b p q. refl) greater greater' (λ a b p q. h a b p) s t (smaller-parts s) (any-parts t))

  pub is_greater_to-depth : (n : ℕ) (s t : Term) → size s ≤ n → is_greater σ s t ≡ is_greater_to σ n s t
  unfolding is_greater_to is_greater
  is_greater_to-depth n s t = depth step asks-smaller (is_greater_to σ) (λ n s t. refl) (size s) n s t (omega arith)

  pub is_greater-unfolds : (s t : Term) →
      is_greater σ s t ≡ ltb 0 (decreasing_mark σ (is_equivalent σ) (is_greater σ) s t)
  unfolding is_greater_to is_greater
  is_greater-unfolds = without-depth step asks-smaller (is_greater_to σ) λ n s t. refl
