-- Each branch is the call for its source.
use mathlib.Core.Bool.{false}
use Rattle.format.specs.Forms.{has_coefficients}
use Rattle.symbols.specs.Table.{form_of}
use Rattle.symbols.proofs.RankLaws.{outranked-layout}
use Rattle.reader.proofs.table.outranked_in.Goals as goal

pub returns-in-Book : goal.returns-in-Book
returns-in-Book c =
    let table = c.args.table.now in
    let same = outranked-layout (has_coefficients (form_of table)) false table c.args.count in
    rw (c.in-Book.is, ← same) c.first_outranked.ensures

pub returns-in-Sheet : goal.returns-in-Sheet
returns-in-Sheet c =
    let sheet = c.in-Sheet.sheet.now in
    let same = outranked-layout (has_coefficients (form_of sheet)) false sheet c.args.count in
    rw (c.in-Sheet.is, ← same) c.first_outranked-in-Sheet.ensures
