-- A number of 64 bits has at most nineteen digits, and a sign.
use native.Mathlib.Omega.{arith}
use Rattle.operations.proofs.DecimalLaws.{decimal-few}
use Rattle.text.proofs.Text.push_signed.Goals as goal
use Rattle.text.proofs.Text.push_signed.Goals.{then-n-lt0, else-n-lt0}

pub returns-clause-upper_bound : goal.returns-clause-upper_bound
returns-clause-upper_bound c =
    let few = decimal-few 18 c.unsigned_abs.result (omega arith) in
    elim c.if-n-lt0.branch [
      | then-n-lt0 w ↦ omega (arith, few, w.push_byte.ensures.put.0, rw w.self-is at c.push_decimal.ensures.put.0)
      | else-n-lt0 w ↦ omega (arith, few, rw w.self-is at c.push_decimal.ensures.put.0)
    ]
