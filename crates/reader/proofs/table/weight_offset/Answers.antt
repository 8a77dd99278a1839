-- A field moves the offset on by its width in bits, and by one among words.
use native.Mathlib.Omega.{arith}
use Rattle.format.specs.Reading.{bit_source, word_source}
use Rattle.format.proofs.RankLaws.{weight-plain}
use Rattle.reader.specs.Source.{source_of}
use Rattle.reader.proofs.table.weight_offset.Goals as goal

pub returns-in-Book : goal.returns-in-Book
unfolding source_of
returns-in-Book c form ss none h =
    rw c.in-Book.is
    (omega (arith, weight-plain (bit_source c.in-Book.field-0.bytes.now) form none c.args.at ss c.args.f h))

pub returns-in-Sheet : goal.returns-in-Sheet
unfolding source_of
returns-in-Sheet c form ss none h =
    rw c.in-Sheet.is
    (omega (arith, weight-plain (word_source c.in-Sheet.field-0.now) form none c.args.at ss c.args.f h))
