-- The line's word and number are pushed one after another.
use Rattle.operations.specs.Text.{decimal}
use Rattle.text.proofs.TextLaws.{pushed-append, pushed-line2}
use Rattle.lines.proofs.push_count.Goals as goal

pub returns-clause-pushed : goal.returns-clause-pushed
returns-clause-pushed c =
    pushed-line2 c.args.word.now (decimal c.args.n) (pushed-append c.push_bytes.ensures c.push_byte.ensures)
    c.push_number.ensures.pushed
