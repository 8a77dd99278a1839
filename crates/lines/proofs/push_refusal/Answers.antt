-- The line's words are pushed one after another.
use Rattle.operations.specs.Text.{ascii, decimal}
use Rattle.text.proofs.TextLaws.{pushed-line3}
use Rattle.lines.proofs.push_refusal.Goals as goal

pub returns-clause-pushed : goal.returns-clause-pushed
returns-clause-pushed c =
    pushed-line3 (ascii "refusal") (decimal c.args.code) (decimal c.args.offset) c.push_bytes.ensures
    c.push_number.ensures.pushed c.push_number-2.ensures.pushed
