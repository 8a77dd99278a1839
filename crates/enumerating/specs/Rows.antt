-- Rows of words after the front of a row, and the symbols that such rows may begin with.
use Rattle.std.specs.Prelude.{◌≡◌, List, [], ◌∷◌, ◌++◌, cond, ℕ, suc, zero, ◌+◌, ◌%◌, ◌<◌, eqb, leb, length, get_or}
use Rattle.terms.specs.Signature.{Signature, symbol_of}
use Rattle.terms.specs.Enumeration.{ground_rows}

-- The rows one after another, each after that front.
unfoldable pub prefixed : List ℕ → List (List ℕ) → List ℕ
prefixed front [] = []
prefixed front (row ∷ rows) = front ++ (row ++ prefixed front rows)

-- So many words of rows of a size, as they stand in a list from an index on, but for the front of each row.
pub record Refronted (row : List ℕ) (front size : ℕ) (out : List ℕ) (from count : ℕ) (words : List ℕ) : Type 0 where
  pub long : length words ≡ count
  pub each : (i : ℕ) → i < count →
      get_or words i 0 ≡ cond (leb front (i % size)) (get_or out (from + i) 0) (get_or row (i % size) 0)

abbrev pub count_of : Signature → ℕ
count_of σ = length σ.symbols

-- The first of n symbols from f on that so many nodes and other terms may come after; the number past them if none.
unfoldable pub next_from : Signature → ℕ → ℕ → ℕ → ℕ → ℕ
next_from σ nodes others f zero = f
next_from σ nodes others f (suc n) =
    cond (eqb (length (ground_rows σ nodes ((symbol_of σ f).arity + others))) 0) (next_from σ nodes others (suc f) n) f
