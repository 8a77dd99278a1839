-- What the functions of the comparison answer of the terms at two offsets, of the n terms there, and of two lists.
use Rattle.std.specs.Prelude.{List, Bool, cond, ◌&&◌, ◌||◌, ◌≡◌, ℕ, leb, ltb, length, Option, Some, None}
use Rattle.multisets.specs.Multiset.{every, some, multiset_equal, multiset_greater, row_greater}
use Rattle.terms.specs.Signature.{Signature, symbol_of}
use Rattle.terms.specs.Term.{Term, variable_count, weight}
use Rattle.terms.specs.Equivalence.{is_equivalent}
use Rattle.terms.specs.Words.{first_variable}
use Rattle.terms.specs.Order.{none_oftener, variables as variables_of, high_part, low_part, joined_high, flattened_mark}
use Rattle.terms.specs.Order.{root_mark, is_greater}
use Rattle.symbols.specs.Table.{signature_of}
use Rattle.subterms.specs.Parts.{part_at, parts_at, elements_at, Stands}
use Rattle.equivalence.specs.Offsets.{AtOffsets}
use Rattle.operations.specs.declared.Mark.{Mark}
use Rattle.operations.specs.Enums.{mark_number}
use Rattle.extensions.specs.declared.parts.Parts.{Parts}
use Rattle.extensions.specs.declared.compare.Outcome.{Outcome}
use Rattle.extensions.specs.declared.compare.Outcome.TheVariants.{Above, Equivalent, Neither}

-- The parts listed of the elements ts of a flattening for f: those above f, those below f, the variables, and how many
-- elements there are.
pub record Parted (σ : Signature) (f : ℕ) (ws : List ℕ) (ts : List Term) (p : Parts) : Type 0 where
  pub high : AtOffsets σ ws p.above.bytes p.above.count (high_part σ f ts)
  pub low : AtOffsets σ ws p.below.bytes p.below.count (low_part σ f ts)
  pub vars : AtOffsets σ ws p.variables.bytes p.variables.count (variables_of ts)
  pub whole : p.all ≡ length ts

-- The number of a mark, and 0 where none holds.
abbrev pub mark_or_none : Option Mark → ℕ
mark_or_none (Some m) = mark_number m
mark_or_none None = 0

-- The number of an outcome on two multisets.
abbrev pub outcome_number : Outcome → ℕ
outcome_number Above = 2
outcome_number Equivalent = 1
outcome_number Neither = 0

-- The mark of terms of equal weight, of which the left has the higher root, by the right one's word.
abbrev pub higher_mark : ℕ → ℕ
higher_mark g = cond (leb first_variable g) 11 2

module _ (table : List ℕ) where
  abbrev σ : Signature
  σ = signature_of table

  abbrev pub weight_at : List ℕ → ℕ → ℕ
  weight_at s i = weight σ (part_at σ s i)

  abbrev pub none_oftener_at : List ℕ → ℕ → List ℕ → ℕ → Bool
  none_oftener_at s i t j = none_oftener σ variable_count (part_at σ s i) (part_at σ t j)

  -- The first word is a symbol, and the second a variable or lower in the precedence.
  unfoldable pub is_higher : ℕ → ℕ → Bool
  is_higher f g =
      ltb f first_variable
      && (leb first_variable g || ltb (symbol_of σ g).precedence (symbol_of σ f).precedence)

  abbrev pub greater_at : List ℕ → ℕ → List ℕ → ℕ → Bool
  greater_at s i t j = is_greater σ (part_at σ s i) (part_at σ t j)

  abbrev pub root_at : List ℕ → ℕ → List ℕ → ℕ → ℕ
  root_at s i t j = root_mark σ (is_equivalent σ) (is_greater σ) (part_at σ s i) (part_at σ t j)

  -- At i and at j stand n terms.
  abbrev pub BothStand : List ℕ → ℕ → List ℕ → ℕ → ℕ → Type 0
  BothStand s i t j n = Stands σ s i n × Stands σ t j n

  abbrev pub rows_greater : List ℕ → ℕ → List ℕ → ℕ → ℕ → Bool
  rows_greater s i t j n = row_greater (is_equivalent σ) (is_greater σ) (parts_at σ s i n) (parts_at σ t j n)

  abbrev pub flattened_at : ℕ → List ℕ → ℕ → List ℕ → ℕ → ℕ → ℕ
  flattened_at f s i t j n = flattened_mark σ (is_equivalent σ) (is_greater σ) f (elements_at σ f s i n)
      (elements_at σ f t j n)

  -- Each of ys has a greater one in xs.
  unfoldable pub covered : List Term → List Term → Bool
  covered xs ys = every (λ (y : Term). some (λ (x : Term). is_greater σ x y) xs) ys

  -- 2: xs is above ys as a multiset; 1: they are equivalent; 0: neither.
  unfoldable pub multiset_outcome : List Term → List Term → ℕ
  multiset_outcome xs ys = cond (multiset_greater (is_equivalent σ) (is_greater σ) xs ys) 2
      (cond (multiset_equal (is_equivalent σ) xs ys) 1 0)

  -- The outcomes on the high parts and on the low parts of two flattenings for f.
  abbrev pub high_outcome : ℕ → List Term → List Term → ℕ
  high_outcome f ss ts = multiset_outcome (high_part σ f ss) (joined_high σ (is_equivalent σ) f ss ts)

  abbrev pub low_outcome : ℕ → List Term → List Term → ℕ
  low_outcome f ss ts = multiset_outcome (low_part σ f ss) (low_part σ f ts)
