-- What reading promises of what it has decoded, and all that the order above asks of it: the table of a file's symbols,
-- and two terms under it. No offset and no field stands here.
use Rattle.std.specs.Prelude.{List, ℕ, ◌≤◌, length}
use Rattle.terms.specs.Signature.{Admissible}
use Rattle.format.specs.Statements.{Unscaled, IsTerm}
use Rattle.symbols.specs.Table.{signature_of, max_table_words}

-- The table of at most 255 symbols, which are admissible and have no coefficient but 1.
pub record IsTable (table : List ℕ) : Type 0 where
  pub short : length table ≤ max_table_words
  pub admissible : Admissible (signature_of table)
  pub unscaled : Unscaled (signature_of table)

-- Two terms by their node words: both are well formed under the table, and have at most 128 nodes.
pub record Decoded (table s t : List ℕ) : Type 0 where
  pub symbols : IsTable table
  pub left : IsTerm (signature_of table) s
  pub right : IsTerm (signature_of table) t
