-- The numbers that variables have got so far, and the words before and after a rule is renumbered.
use Rattle.std.specs.Prelude.{◌≡◌, Some, None, List, [], ◌∷◌, cond, ℕ, ◌+◌, ◌≤◌, ◌<◌, eqb, length, get_or}
use Rattle.std.proofs.lemmas.List.Edits.{sets}
use Rattle.variables.specs.declared.Renumbering.{Renumbering}
use Rattle.multisets.specs.Multiset.{some}
use Rattle.terms.specs.Term.{variable_count}
use Rattle.terms.specs.Words.{first_variable}
use Rattle.terms.specs.FirstUse.{see, place_in, rename_word, renumbered}

-- Each word may be a node's.
abbrev pub AllNodes : List ℕ → Type 0
AllNodes [] = Unit {0}
AllNodes (w ∷ ws) = (w < first_variable + variable_count) × AllNodes ws

-- The cell of each variable seen has its new node word, every other cell none.
pub record Numbered (seen : List ℕ) (r : Renumbering) : Type 0 where
  pub room : length r.cells ≡ variable_count
  pub next : r.unused ≡ first_variable + length seen
  pub cell : (x : ℕ) → x < variable_count →
      get_or r.cells x None ≡ cond (some (eqb x) seen) (Some (first_variable + place_in seen x)) None

-- A node word, its new one, and the cells and the lowest unused node word after it.
abbrev pub WordNumbered : List ℕ → ℕ → ℕ → Renumbering → Type 0
WordNumbered seen word new r =
    (new ≡ rename_word (place_in (see seen word)) word) × Numbered (see seen word) r

-- The words before and after, where a rule's node words stand from an index up to another.
abbrev pub RuleRenumbered : ℕ → ℕ → List ℕ → List ℕ → Type 0
RuleRenumbered start end before after =
    (words nodes : List ℕ) → before ≡ sets words start nodes → start + length nodes ≡ end → end ≤ length words →
    AllNodes nodes → after ≡ sets words start (renumbered nodes)
