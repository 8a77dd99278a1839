-- Pieces of a term: the part at an offset, or the sum of the elements that a mask takes of the flattening there.
use mathlib.Core.List.{List, flat_map}
use Rattle.std.specs.Prelude.{◌≡◌, cond, ℕ, ◌^◌, ◌≤◌, ◌<◌, eqb, length, get_or}
use Rattle.terms.specs.Signature.{Signature}
use Rattle.terms.specs.Term.{Term}
use Rattle.terms.specs.Words.{first_variable}
use Rattle.terms.specs.Rewriting.{Substitution}
use Rattle.simplifying.specs.Holes.{image_words}
use Rattle.simplifying.specs.Masks.{masked}
use Rattle.simplifying.specs.Pieces.{masked_sum}
use Rattle.subterms.specs.Parts.{part_at, elements_at}

module _ (σ : Signature) (ws : List ℕ) where
  -- The elements of the part at an offset, for its root.
  abbrev pub elements_of : ℕ → List Term
  elements_of i = elements_at σ (get_or ws i 0) ws i 1

  -- The mask 0 takes the whole part.
  unfoldable pub piece_at : ℕ → ℕ → Term
  piece_at i mask = cond (eqb mask 0) (part_at σ ws i) (masked_sum (get_or ws i 0) mask (elements_of i))

  -- The part stands there, and the mask takes no element past the last.
  pub record IsPiece (i mask : ℕ) : Type 0 where
    pub inside : i < length ws
    pub sum : 0 < mask → (get_or ws i 0 < first_variable) × (mask < 2 ^ length (elements_of i))

  -- What the pieces at some offsets, by some masks, put for the variables.
  abbrev pub image_at : List ℕ → List ℕ → Substitution
  image_at offsets masks x = piece_at (get_or offsets x 0) (get_or masks x 0)

  -- Pieces for the variables whose numbers are below 18.
  abbrev pub ArePieces : List ℕ → List ℕ → Type 0
  ArePieces offsets masks = (x : ℕ) → x < 18 → IsPiece (get_or offsets x 0) (get_or masks x 0)

-- At most 128 words, each a symbol's, or that of a variable whose number is below 18.
pub record IsPattern (ws : List ℕ) : Type 0 where
  pub short : length ws ≤ 128
  pub nodes : (k : ℕ) → k < length ws → get_or ws k 0 < 274

module _ (σ : Signature) (ws : List ℕ) (offsets masks ps : List ℕ) where
  -- The words of the instance of a pattern.
  abbrev pub instance_words : List ℕ
  instance_words = flat_map (image_words (image_at σ ws offsets masks)) ps

  -- There are pieces for the pattern's variables.
  pub record Filled : Type 0 where
    pub pieces : ArePieces σ ws offsets masks
    pub pattern : IsPattern ps

-- The same piece: a whole part, or a sum of two elements or more.
pub record IsNormal (σ : Signature) (ws : List ℕ) (i mask offset rest : ℕ) : Type 0 where
  pub same : piece_at σ ws offset rest ≡ piece_at σ ws i mask
  pub is_piece : IsPiece σ ws offset rest
  pub own : 0 < rest → offset ≡ i
  pub apart : 0 < rest → 2 ≤ length (masked rest (elements_of σ ws offset))
