-- The theorems that no descent and no list of steps goes on for ever, as types. The proofs stand in
-- proofs/Theorems.antt.
-- Renders: 02, order 8: "For a book with a wrapper, users rely on the strict fall of every step; the ceiling on steps
-- is kept for books without one."; order 9: "Ceiling and fall cover form 3"; 000, Theorems 5.10 and 8.2.
use Rattle.std.specs.Prelude.{◌≡◌, true, ℕ, suc, ◌<◌}
use mathlib.Core.WellFounded.{Acc}
use Rattle.terms.specs.Signature.{Signature, Admissible}
use Rattle.terms.specs.Term.{Term, weight, WellFormed, Expression}
use Rattle.terms.specs.Order.{is_greater}
use Rattle.terms.specs.Rewriting.{System, WellFormedRules, AllDecreasing, Step, Derivation, step_count}

-- With a unary symbol of weight 0 or without.
module _ (σ : Signature) where
  -- No descent from s through terms of the kind P goes on for ever.
  abbrev pub AccessibleAmong : (Term → Type 0) → Term → Type 0
  AccessibleAmong P s = Acc (λ (v u : Term). P v × (is_greater σ u v ≡ true)) s

  abbrev pub OrderWellFounded : Type 0
  OrderWellFounded = Admissible σ → (s : Term) → WellFormed σ s → AccessibleAmong (WellFormed σ) s

  abbrev pub WellFoundedOnExpressions : Type 0
  WellFoundedOnExpressions = Admissible σ → (s : Term) → Expression σ s → AccessibleAmong (Expression σ) s

module _ (R : System) where
  -- Steps by rules that all fall go on for ever from no term.
  abbrev pub StepsWellFounded : Type 0
  StepsWellFounded =
      Admissible R.signature → WellFormedRules R → AllDecreasing R → (s : Term) → Acc (λ (v u : Term). Step R u v) s

  abbrev pub NoEndlessSteps : Type 0
  NoEndlessSteps =
      Admissible R.signature → WellFormedRules R → AllDecreasing R → (s : ℕ → Term) →
      ((n : ℕ) → Step R (s n) (s (suc n))) → ⊥

  -- No number that goes by the weight of the first expression bounds the count of steps.
  abbrev pub NoCeilingByWeight : Type 0
  NoCeilingByWeight =
      (ceiling : ℕ → ℕ) →
      ((s t : Term) (d : Derivation R s t) → Expression R.signature s →
      step_count R d < ceiling (weight R.signature s)) → ⊥

-- The ceiling is for systems without a unary symbol of weight 0 alone: some system whose rules all fall has none.
abbrev pub CeilingFails : Type 0
CeilingFails = (R : System) × Admissible R.signature × WellFormedRules R × AllDecreasing R × NoCeilingByWeight R
