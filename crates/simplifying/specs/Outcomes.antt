-- What one reduction and a whole simplification are to give, in terms of 01's steps alone.
-- Renders: 02, request 14, as specs/Simplifying.antt does.
use Rattle.std.specs.Prelude.{◌≡◌, false, ℕ, ◌≤◌, ◌<◌}
use Rattle.terms.specs.Term.{Term, size}
use Rattle.terms.specs.Equivalence.{Equivalent}
use Rattle.terms.specs.Order.{is_greater}
use Rattle.terms.specs.Rewriting.{System, Step, Derivation}
use Rattle.simplifying.specs.Canonical.{Arranged}
use Rattle.simplifying.specs.Simplifying.{Reduction, Simplification}
use Rattle.simplifying.specs.Simplifying.Reduction.{irreducible, too_large, reduced}
use Rattle.simplifying.specs.Simplifying.Simplification.{normal, stuck}

module _ (R : System) where
  abbrev pub NoStep : Term → Type 0
  NoStep s = (t : Term) → Step R s t → ⊥

  -- A list of steps leads from s to what is t up to AC-equivalence.
  abbrev pub Reaches : Term → Term → Type 0
  Reaches s t = (u : Term) × Derivation R s u × Equivalent R.signature u t

  module _ (limit : ℕ) where
    -- 02: "steps exist and every result exceeds 24 nodes".
    abbrev pub AllTooLarge : Term → Type 0
    AllTooLarge s = ((t : Term) × Step R s t) × ((t : Term) → Step R s t → limit < size t)

    -- The canonical form of a smallest of the results that fit.
    pub record IsLeast (s t : Term) : Type 0 where
      pub step : Step R s t
      pub canonical : Arranged R.signature t
      pub fits : size t ≤ limit
      pub least : (u : Term) → Step R s u → size u ≤ limit → is_greater R.signature t u ≡ false

    abbrev pub Reduces : Term → Reduction → Type 0
    Reduces s irreducible = NoStep s
    Reduces s too_large = AllTooLarge s
    Reduces s (reduced t) = IsLeast s t

    -- 02: "take the smallest, and go on until no step exists".
    pub data Simplifies : Term → Simplification → Type 0 where
      ends : {s : Term} → NoStep s → Simplifies s (normal s)
      exceeds : {s : Term} → AllTooLarge s → Simplifies s stuck
      goes_on : {s t : Term} {o : Simplification} → IsLeast s t → Simplifies t o → Simplifies s o
