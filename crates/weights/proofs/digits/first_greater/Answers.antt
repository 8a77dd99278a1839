-- 127 more than a digit, less a digit below 128, has its eighth bit exactly if the first digit is greater, and borrows
-- nothing; so the lowest of these bits is that of the first digit that is greater.
use mathlib.Core.Path.{sym, ◌∙◌}
use native.Mathlib.Omega.{arith}
use Rattle.weights.proofs.DigitLaws.{small-most, digits-first}
use Rattle.weights.proofs.digits.first_greater.Goals as goal

pub overflow_add-right : goal.overflow_add-right
overflow_add-right c = omega (arith, small-most 8 c.args.right c.requires.1)

pub overflow_sub-right : goal.overflow_sub-right
overflow_sub-right c = (digits-first 8 c.args.left c.args.right c.requires.0 c.requires.1).0

pub returns-in-8 : goal.returns-in-8
returns-in-8 c =
    let h = (digits-first 8 c.args.left c.args.right c.requires.0 c.requires.1).2 in
    record { value = sym c.in-8.is ∙ h; below = tt }

pub returns-in_default : goal.returns-in_default
returns-in_default c =
    let h = digits-first 8 c.args.left c.args.right c.requires.0 c.requires.1 in
    record { value = h.2; below = omega (arith, h.1) }
