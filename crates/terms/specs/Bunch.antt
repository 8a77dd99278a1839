-- Terms joined under an AC symbol, grouped to the right: no term, or one.
-- Renders: 02, request 14: "Write AC arguments grouped to the right".
use Rattle.std.specs.Prelude.{List, [], ◌∷◌, ℕ}
use Rattle.terms.specs.Term.{Term}
use Rattle.terms.specs.Term.Term.{app}
use Rattle.terms.specs.Equivalence.{pair}

pub data Bunch : Type 0 where
  empty : Bunch
  full : Term → Bunch

module _ (f : ℕ) where
  abbrev pub join : Bunch → Bunch → Bunch
  join empty b = b
  join (full s) empty = full s
  join (full s) (full t) = full (app f (pair s t))

  -- The terms of a list, joined from the right.
  abbrev pub bunch_of : List Term → Bunch
  bunch_of [] = empty
  bunch_of (t ∷ l) = join (full t) (bunch_of l)
