-- A number below 10 is one digit; of another the digits before the last are pushed first.
use native.Mathlib.Omega.{arith}
use Prim.Native.Nat.{◌/◌}
use Rattle.operations.proofs.DecimalLaws.{length-decimal}
use Rattle.text.proofs.TextLaws.{pushed-digit, pushed-digits}
use Rattle.text.proofs.Text.+push_decimal.Goals as goal
use Rattle.text.proofs.Text.+push_decimal.Goals.{then-n-ge10, else-n-ge10}

pub push_byte-requires : goal.push_byte-requires
push_byte-requires t c =
    elim c.if-n-ge10.branch [
      | then-n-ge10 w ↦ rw w.self-is (omega (arith, w.push_decimal.ensures.put.0, length-decimal (c.args.n / 10)))
      | else-n-ge10 w ↦ rw w.self-is (omega arith)
    ]

pub returns : goal.returns
returns t c =
    elim c.if-n-ge10.branch [
      | then-n-ge10 w ↦ pushed-digits c.args.n w.if-n-ge10.true w.push_decimal.ensures (rw w.self-is at c.push_byte.ensures)
      | else-n-ge10 w ↦ pushed-digit c.args.n w.if-n-ge10.false (rw w.self-is at c.push_byte.ensures)
    ]
