-- The rule that is read there is marked, the first of one.
use Rattle.format.specs.Layout.{form_number}
use Rattle.format.specs.Reading.{bit_source}
use Rattle.format.specs.Forms.{unused_of}
use Rattle.symbols.specs.Table.{signature_of}
use Rattle.bits.specs.Cursor.{told}
use Rattle.seeking.proofs.OneLaws.{first-marked}
use Rattle.seeking.proofs.mark_there.Goals as goal

pub returns : goal.returns
returns c sides next e =
    let a = c.args in
    first-marked (bit_source a.book.bytes.now) (unused_of form_number) (signature_of a.table.now) a.cursor.at sides next
    e (told c.mark_rules.result) _ _ _ _ _ c.mark_rules.ensures.all_marked
