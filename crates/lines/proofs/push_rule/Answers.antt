-- The line's three words are pushed one after another.
use mir.Syntax.{w64}
use mir.ValLaws.{to_z-of_z}
use Rattle.operations.specs.Text.{decimal, signed_decimal}
use Rattle.text.proofs.TextLaws.{pushed-append, pushed-line3}
use Rattle.lines.proofs.push_rule.Goals as goal

pub returns-clause-pushed : goal.returns-clause-pushed
returns-clause-pushed c =
    let margin = rw (to_z-of_z w64 c.args.margin c.ranges.margin) at c.push_signed.ensures.pushed in
    pushed-line3 (decimal c.args.number) (decimal c.args.mark) (signed_decimal c.args.margin)
    c.push_number.ensures.pushed c.push_number-2.ensures.pushed (pushed-append margin c.push_byte.ensures)
