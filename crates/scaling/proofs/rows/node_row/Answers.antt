-- The definition of a weight tests the same word.
use mathlib.Core.Path.{◌≡◌}
use Prim.Native.Nat.{◌<◌}
use borrow.Author.Tests.{lt-ltb, le-ltb}
use Rattle.symbols.specs.Table.{signature_of}
use Rattle.scaling.specs.Scaled.{own_weight}
use Rattle.scaling.proofs.RowLaws.{row_read}
use Rattle.scaling.proofs.rows.node_row.Goals as goal
use Rattle.scaling.proofs.rows.node_row.Goals.{then-word-lt-FIRST_VARIABLE, else-word-lt-FIRST_VARIABLE}

pub returns : goal.returns
returns c =
    let a = c.args in
    let own : (c.if-word-lt-FIRST_VARIABLE.weight ≡ own_weight (signature_of a.table.now) a.word)
    × (c.if-word-lt-FIRST_VARIABLE.weight < 65536) =
    elim c.if-word-lt-FIRST_VARIABLE.branch [
      | then-word-lt-FIRST_VARIABLE w ↦
          rw (w.weight-is, lt-ltb a.word 256 w.if-word-lt-FIRST_VARIABLE.true) w.weight-weight.ensures
      | else-word-lt-FIRST_VARIABLE w ↦
          rw (w.weight-is, le-ltb a.word 256 w.if-word-lt-FIRST_VARIABLE.false) w.variable_weight-weight.ensures
    ] in
    record {
      weight = own.0;
      light = own.1;
      row = row_read a.table.now _ c.row-row.ensures.0;
      arity = c.arity-arity.ensures.0;
    }
