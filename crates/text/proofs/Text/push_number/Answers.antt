-- A number below 10 ^ 9 has at most nine digits.
use native.Mathlib.Omega.{arith}
use Rattle.operations.proofs.DecimalLaws.{decimal-few}
use Rattle.text.proofs.TextLaws.{pushed-append}
use Rattle.text.proofs.Text.push_number.Goals as goal

pub push_byte-requires : goal.push_byte-requires
push_byte-requires c = omega (arith, c.push_decimal.ensures.put.0, decimal-few 8 c.args.n (omega arith))

pub returns-clause-pushed : goal.returns-clause-pushed
returns-clause-pushed c = pushed-append c.push_decimal.ensures c.push_byte.ensures

pub returns-clause-upper_bound : goal.returns-clause-upper_bound
returns-clause-upper_bound c =
    omega (arith, c.push_decimal.ensures.put.0, c.push_byte.ensures.put.0, decimal-few 8 c.args.n (omega arith))
