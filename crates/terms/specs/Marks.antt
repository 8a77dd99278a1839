-- Which of the marks 1 to 11 count as falling, and what each asks of a left and a right side.
-- Renders: 01, "The order", marks 1 to 6 and "Otherwise: 7 a variable occurs oftener on the right; else 8 the left
-- weighs less; else 9 the sides are AC-equal; else 10."; 02, order 8: "Mark 11, weights equal, means that the right
-- side is a variable and the left that variable under one or more copies of the wrapper".
use Rattle.std.specs.Prelude.{◌≡◌, Bool, true, false, ◌&&◌, ◌||◌, ℕ, ◌≤◌, ◌<◌, eqb, leb, length}
use Rattle.terms.specs.Signature.{Signature, symbol_of, ZeroWeightUnary}
use Rattle.terms.specs.Term.{Term, Terms, row, weight, variable_coefficient, variable_count, flattenings}
use Rattle.terms.specs.Term.Term.{var, app}
use Rattle.multisets.specs.Multiset.{row_greater}
use Rattle.terms.specs.Equivalence.{Equivalent, is_equivalent}
use Rattle.terms.specs.Iterated.{Iterated}
use Rattle.terms.specs.Order.{high_greater, high_equal, low_greater, is_greater}

-- The marks that count as falling. 01: "s is greater than t if one of them holds", of 1 to 6; 02, order 8, of mark 11:
-- "It counts as falling".
abbrev pub is_decreasing : ℕ → Bool
is_decreasing m = (leb 1 m && leb m 6) || eqb m 11

module _ (σ : Signature) where
  -- No variable occurs oftener in t, counted with the coefficients.
  abbrev pub NoneOftener : Term → Term → Type 0
  NoneOftener s t = (x : ℕ) → x < variable_count → variable_coefficient σ x t ≤ variable_coefficient σ x s

  -- No variable occurs oftener in t, and the weights are equal.
  pub record Balanced (s t : Term) : Type 0 where
    pub none : NoneOftener s t
    pub weights : weight σ t ≡ weight σ s

  pub data Marked : ℕ → Term → Term → Type 0 where
    mark1 : {s t : Term} → NoneOftener s t → weight σ t < weight σ s → Marked 1 s t
    mark2 : {f g : ℕ} {ss ts : Terms} → Balanced (app f ss) (app g ts) →
        (symbol_of σ g).precedence < (symbol_of σ f).precedence → Marked 2 (app f ss) (app g ts)
    mark3 : {f : ℕ} {ss ts : Terms} → Balanced (app f ss) (app f ts) → (symbol_of σ f).ac ≡ false →
        row_greater (is_equivalent σ) (is_greater σ) (row ss) (row ts) ≡ true → Marked 3 (app f ss) (app f ts)
    mark4 : {f : ℕ} {ss ts : Terms} → Balanced (app f ss) (app f ts) → (symbol_of σ f).ac ≡ true →
        high_greater σ (is_equivalent σ) (is_greater σ) f (flattenings f ss) (flattenings f ts) ≡ true →
        Marked 4 (app f ss) (app f ts)
    mark5 : {f : ℕ} {ss ts : Terms} → Balanced (app f ss) (app f ts) → (symbol_of σ f).ac ≡ true →
        high_equal σ (is_equivalent σ) f (flattenings f ss) (flattenings f ts) ≡ true →
        length (flattenings f ts) < length (flattenings f ss) →
        Marked 5 (app f ss) (app f ts)
    mark6 : {f : ℕ} {ss ts : Terms} → Balanced (app f ss) (app f ts) → (symbol_of σ f).ac ≡ true →
        high_equal σ (is_equivalent σ) f (flattenings f ss) (flattenings f ts) ≡ true →
        length (flattenings f ts) ≡ length (flattenings f ss) →
        low_greater σ (is_equivalent σ) (is_greater σ) f (flattenings f ss) (flattenings f ts) ≡ true →
        Marked 6 (app f ss) (app f ts)
    mark7 : {s t : Term} (x : ℕ) → x < variable_count → variable_coefficient σ x s < variable_coefficient σ x t →
        Marked 7 s t
    mark8 : {s t : Term} → NoneOftener s t → weight σ s < weight σ t → Marked 8 s t
    mark9 : {s t : Term} → Equivalent σ s t → Marked 9 s t
    mark10 : {s t : Term} → Balanced s t → is_greater σ s t ≡ false → (Equivalent σ s t → ⊥) → Marked 10 s t
    mark11 : {f x : ℕ} {s : Term} → Balanced s (var x) → ZeroWeightUnary σ f → Iterated f s (var x) →
        Marked 11 s (var x)
