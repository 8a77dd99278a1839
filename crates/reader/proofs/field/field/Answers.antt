-- Each branch is the field of its source.
use native.Mathlib.Omega.{arith}
use Rattle.reader.specs.Source.{source_of}
use Rattle.format.proofs.PackingLaws.{one_shl}
use Rattle.reader.proofs.field.field.Goals as goal

pub returns-in-Book-clause-result_value : goal.returns-in-Book-clause-result_value
unfolding source_of
returns-in-Book-clause-result_value c = rw c.in-Book.is c.field.ensures.result_value

pub returns-in-Sheet-clause-result_value : goal.returns-in-Sheet-clause-result_value
unfolding source_of
returns-in-Sheet-clause-result_value c =
    rw (c.in-Sheet.is, c.moved.ensures)
    (rw (one_shl 64 c.args.width (omega (arith, c.requires))) at c.word_below.ensures.result_value)
