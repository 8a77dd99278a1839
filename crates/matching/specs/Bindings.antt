-- What a pattern's variables are bound to.
use Rattle.std.specs.Prelude.{List, [], ◌∷◌, ◌≡◌, Bool, true, false, cond, ℕ, suc, zero, ◌+◌, ◌≤◌, ◌<◌, eqb, length, get_or}
use Rattle.terms.specs.Signature.{Signature}
use Rattle.terms.specs.Term.{Term}
use Rattle.terms.specs.Words.{first_variable}
use Rattle.simplifying.specs.Matching.{Bindings}
use Rattle.simplifying.specs.Matching.Binding.{free, bound}
use Rattle.simplifying.specs.Agenda.{agenda, advance}
use Rattle.equivalence.specs.Keys.{Prepared}
use Rattle.pieces.specs.Pieces.{image_at, IsPattern}
use Rattle.pieces.specs.Subject.{Subject}
use Rattle.matching.specs.Agenda.{IsPending}

-- The word occurs among the first n of the pattern.
unfoldable pub occurs_before : List ℕ → ℕ → ℕ → Bool
occurs_before ps w zero = false
occurs_before ps w (suc n) = cond (eqb (get_or ps n 0) w) true (occurs_before ps w n)

-- A pattern, and the term that is to be simplified, of at most 24 words, with their keys.
pub record Matching (σ : Signature) (ws keys ps : List ℕ) : Type 0 where
  pub subject : Subject σ ws
  pub prepared : Prepared σ ws keys
  pub short : length ws ≤ 24
  pub pattern : IsPattern ps

-- A piece for each variable.
pub record AreBound (σ : Signature) (ws offsets masks : List ℕ) : Type 0 where
  pub offset_room : length offsets ≡ 18
  pub mask_room : length masks ≡ 18
  pub pieces : (x : ℕ) → x < 18 → IsPending σ ws (get_or offsets x 0) (get_or masks x 0)

module _ (σ : Signature) (ws ps : List ℕ) (n : ℕ) where
  -- The variables among the first n words are bound to their pieces.
  abbrev pub bindings_at : List ℕ → List ℕ → Bindings
  bindings_at offsets masks x =
      cond (occurs_before ps (first_variable + x) n) (bound (image_at σ ws offsets masks x)) free

  -- Their pieces are as they were.
  abbrev pub KeptBindings : List ℕ → List ℕ → List ℕ → List ℕ → Type 0
  KeptBindings offsets masks others rest =
      (x : ℕ) → occurs_before ps (first_variable + x) n ≡ true →
      (get_or others x 0 ≡ get_or offsets x 0) × (get_or rest x 0 ≡ get_or masks x 0)

-- The variable at the offset p of the pattern takes the term t: it is bound to it, or to what is AC-equivalent.
pub record Takes (σ : Signature) (ws ps : List ℕ) (p : ℕ) (offsets masks : List ℕ) (t : Term) (r : Bool)
    (others rest : List ℕ) : Type 0 where
  pub yes : r ≡ true → (ts : List Term) →
      advance σ (get_or ps p 0) (t ∷ ts) (bindings_at σ ws ps p offsets masks)
      ≡ agenda ts (bindings_at σ ws ps (p + 1) others rest) ∷ []
  pub no : r ≡ false → (ts : List Term) →
      advance σ (get_or ps p 0) (t ∷ ts) (bindings_at σ ws ps p offsets masks) ≡ []
  pub kept : KeptBindings σ ws ps p offsets masks others rest
  pub bound : AreBound σ ws others rest
