-- The theorems of rewrite steps and derivations, as types. Their proofs stand in proofs/Theorems.antt.
-- Renders: 01, "Rewrite steps and like comparisons": "What demand 3 says of steps is one claim about the whole list";
-- 02, order 8: "For a book with a wrapper, users rely on the strict fall of every step; the ceiling on steps is kept
-- for books without one."; order 9: "Ceiling and fall cover form 3, the wrapper's exception kept, weight meaning this
-- one."
use Rattle.std.specs.Prelude.{◌≡◌, true, suc, ◌-◌, ◌*◌, ◌^◌, ◌≤◌, ◌<◌, length}
use Rattle.terms.specs.Signature.{Signature, NoZeroWeightUnary, Admissible}
use Rattle.terms.specs.Term.{Term, size, weight, WellFormed, Expression}
use Rattle.terms.specs.Order.{is_greater}
use Rattle.terms.specs.Rewriting.{System, WellFormedRules, Decreasing, AllDecreasing, Step, Derivation, step_count}
use Rattle.terms.specs.Rewriting.{along, StronglySorted}
use Rattle.terms.specs.Sample.{sample}

-- Without a unary symbol of weight 0, a term of weight W, so an expression, has at most 2 W - 1 nodes.
abbrev pub NodesBounded : Signature → Type 0
NodesBounded σ =
    Admissible σ → NoZeroWeightUnary σ → (t : Term) → WellFormed σ t → size t ≤ 2 * weight σ t - 1

module _ (R : System) where
  -- A step by a rule that falls leads to a smaller expression.
  abbrev pub StepsDecrease : Type 0
  StepsDecrease =
      Admissible R.signature → WellFormedRules R → (s t : Term) (p : Step R s t) →
      Decreasing R.signature p.rule → is_greater R.signature s t ≡ true

  -- 01: "one claim about the whole list": each expression of a derivation is greater than each later one.
  abbrev pub DerivationsDescend : Type 0
  DerivationsDescend =
      Admissible R.signature → WellFormedRules R → AllDecreasing R → (s t : Term) (d : Derivation R s t) →
      StronglySorted (λ (u v : Term). is_greater R.signature u v ≡ true) (along R d)

  -- Without a unary symbol of weight 0, from an expression of weight W, over K symbols, there are fewer than
  -- (K + 1) ^ (2 W - 1) steps.
  abbrev pub StepCeiling : Type 0
  StepCeiling =
      Admissible R.signature → NoZeroWeightUnary R.signature → WellFormedRules R → AllDecreasing R →
      (s t : Term) (d : Derivation R s t) → Expression R.signature s →
      step_count R d < suc (length R.signature.symbols) ^ (2 * weight R.signature s - 1)

-- The signature of 01's sample book is admissible.
abbrev pub SampleAdmissible : Type 0
SampleAdmissible = Admissible sample
