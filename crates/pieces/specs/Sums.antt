-- The words of the sum of some elements of a flattening, by the offsets of the terms.
use Rattle.std.specs.Prelude.{List, ◌∷◌, map, ◌≡◌, ℕ, ◌+◌, ◌^◌, ◌≤◌, ◌<◌, length}
use Rattle.terms.specs.Signature.{Signature}
use Rattle.terms.specs.Term.{size}
use Rattle.terms.specs.Words.{words}
use Rattle.simplifying.specs.Masks.{masked}
use Rattle.simplifying.specs.Pieces.{joined_words}
use Rattle.subterms.specs.Parts.{part_at, elements_at, Stands}

-- Of the elements that the mask takes of the flattenings for f of the n terms at i.
abbrev pub sum_words : Signature → ℕ → List ℕ → ℕ → ℕ → ℕ → List ℕ
sum_words σ f ws i n mask = joined_words f (map words (masked mask (elements_at σ f ws i n)))

-- The terms stand there, and the mask takes no element past the last.
pub record Masked (σ : Signature) (f : ℕ) (ws : List ℕ) (i n mask : ℕ) : Type 0 where
  pub symbol : f < 256
  pub stands : Stands σ ws i n
  pub bound : mask < 2 ^ length (elements_at σ f ws i n)

-- The part at the offset r is the first of the elements that the mask takes, and the others are those that the mask
-- rest takes of the flattenings of the terms after it.
pub record IsTaken (σ : Signature) (f : ℕ) (ws : List ℕ) (i n mask r rest : ℕ) : Type 0 where
  pub inside : r < length ws
  pub ahead : i ≤ r
  pub next : ℕ
  pub others : Masked σ f ws (r + size (part_at σ ws r)) next rest
  pub first : masked mask (elements_at σ f ws i n)
      ≡ part_at σ ws r ∷ masked rest (elements_at σ f ws (r + size (part_at σ ws r)) next)
