-- Sums by offset, and both sides of a comparison by the order.
use Rattle.std.specs.Prelude.{List, ◌≡◌, ℕ, ◌≤◌, length, drop}
use Rattle.terms.specs.Signature.{Signature, Ones, Admissible}
use Rattle.symbols.specs.Table.{signature_of}
use Rattle.equivalence.specs.Keys.{BothPrepared}
use Rattle.weights.specs.declared.totals.Totals.{Totals}
use Rattle.weights.specs.Nodes.{stored_for}
use Rattle.weights.specs.Totals.{WordTotals}

-- How many sums are stored for the offsets in a term and the one past it.
abbrev pub sums_length : ℕ
sums_length = 129

-- sums has for each offset the sums over all words from there on, where every coefficient is 1.
pub record SummedUp (σ : Signature) (ws : List ℕ) (sums : List Totals) : Type 0 where
  pub room : length sums ≡ sums_length
  pub ones : Ones σ
  pub sum : (k : ℕ) → k ≤ length ws → WordTotals σ (drop k ws) (stored_for sums k)

-- What both sides of a comparison by the order are: prepared, with their sums, under a table that is admissible.
pub record Scale (table s skeys : List ℕ) (ssums : List Totals) (t tkeys : List ℕ) (tsums : List Totals) : Type 0 where
  pub admissible : Admissible (signature_of table)
  pub sides : BothPrepared table s skeys t tkeys
  pub left : SummedUp (signature_of table) s ssums
  pub right : SummedUp (signature_of table) t tsums
