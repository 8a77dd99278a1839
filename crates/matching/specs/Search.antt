-- What a search along a pattern's words finds.
use mathlib.Core.List.{List, [], ◌∷◌, Memᴰ}
use Rattle.std.specs.Prelude.{◌≡◌, Bool, true, false, ℕ, ◌+◌, ◌-◌, ◌^◌, ◌≤◌, ◌<◌, length, get_or, drop}
use Rattle.terms.specs.Signature.{Signature, symbol_of}
use Rattle.terms.specs.Term.{Term}
use Rattle.terms.specs.Words.{first_variable}
use Rattle.simplifying.specs.Masks.{Within}
use Rattle.simplifying.specs.Matching.{Bindings, unbound}
use Rattle.simplifying.specs.Agenda.{Agenda, agenda, follows}
use Rattle.simplifying.specs.Pieces.{Covers}
use Rattle.subterms.specs.Parts.{part_at}
use Rattle.pieces.specs.Pieces.{elements_of, piece_at}
use Rattle.matching.specs.declared.nodes.Node.{Node}
use Rattle.matching.specs.Agenda.{ArePending}
use Rattle.matching.specs.Bindings.{AreBound, bindings_at, KeptBindings}

-- How many arguments some words call for.
abbrev pub calls_for : Signature → List ℕ → ℕ
calls_for σ [] = 0
calls_for σ (w ∷ ws) = (symbol_of σ w).arity + calls_for σ ws

module _ (σ : Signature) (ws ps : List ℕ) where
  -- The pieces that the variables of the pattern are bound to are those of a match along the words from p on.
  abbrev pub Reached : ℕ → Agenda → List ℕ → List ℕ → Type 0
  Reached p a offsets masks =
      (d : Agenda) × Memᴰ d (follows σ (drop p ps) a)
      × (d.bindings ≡ bindings_at σ ws ps (length ps) offsets masks)

  -- No match is along them.
  abbrev pub Unreached : ℕ → Agenda → Type 0
  Unreached p a = Covers σ (λ (b : Bindings). ⊥) (drop p ps) a

  -- What is asked of a search from the word at p on: so many pieces are pending, and there is room for those that are
  -- called for.
  pub record Searching (p : ℕ) (offsets masks : List ℕ) (nodes : List Node) (free head owed : ℕ) : Type 0 where
    pub inside : p ≤ length ps
    pub bound : AreBound σ ws offsets masks
    pub room : length nodes ≡ 32
    pub first : head < 65536
    pub fits : free + calls_for σ (drop p ps) ≤ 32
    pub pending : ArePending σ ws nodes owed head free

  -- What a search for the terms ts gives.
  pub record Searched (p : ℕ) (offsets masks : List ℕ) (ts : List Term) (r : Bool) (others rest : List ℕ) : Type 0 where
    pub yes : r ≡ true → Reached p (agenda ts (bindings_at σ ws ps p offsets masks)) others rest
    pub no : r ≡ false → Unreached p (agenda ts (bindings_at σ ws ps p offsets masks))
    pub kept : KeptBindings σ ws ps p offsets masks others rest
    pub bound : AreBound σ ws others rest

  -- Two pieces of the elements at i that the mask m takes: those of x, and the others.
  abbrev pub divided : ℕ → ℕ → ℕ → List Term → List Term
  divided i m x ts = piece_at σ ws i x ∷ (piece_at σ ws i (m - x) ∷ ts)

  -- What is asked where an AC symbol's elements at i are divided: the masks up to a are yet to be tried.
  pub record Dividing (p i m a : ℕ) : Type 0 where
    pub symbol : get_or ps p 0 < first_variable
    pub word : p < length ps
    pub inside : i < length ws
    pub root : get_or ws i 0 < first_variable
    pub ac : (symbol_of σ (get_or ws i 0)).ac ≡ true
    pub bound : m < 2 ^ length (elements_of σ ws i)
    pub within : Within a m
    pub below : a < m

  -- What a search by these masks gives.
  pub record Divided (p i m a : ℕ) (offsets masks : List ℕ) (ts : List Term) (r : Bool) (others rest : List ℕ) :
      Type 0 where
    pub yes : r ≡ true → (x : ℕ) × Within x m × (0 < x) × (x < m)
        × Reached (p + 1) (agenda (divided i m x ts) (bindings_at σ ws ps p offsets masks)) others rest
    pub no : r ≡ false → (x : ℕ) → Within x m → 0 < x → x ≤ a →
        Unreached (p + 1) (agenda (divided i m x ts) (bindings_at σ ws ps p offsets masks))
    pub kept : KeptBindings σ ws ps p offsets masks others rest
    pub bound : AreBound σ ws others rest

-- What a search for a match of the whole pattern with the part at i gives.
pub record Found (σ : Signature) (ws ps : List ℕ) (i : ℕ) (r : Bool) (others rest : List ℕ) : Type 0 where
  pub yes : r ≡ true → Reached σ ws ps 0 (agenda (part_at σ ws i ∷ []) unbound) others rest
  pub no : r ≡ false → Unreached σ ws ps 0 (agenda (part_at σ ws i ∷ []) unbound)
  pub bound : AreBound σ ws others rest
