-- What is read of a sheet does not depend on a table.
use Rattle.reader.proofs.FileLaws.{sheet-head}
use Rattle.reader.proofs.file.read_sheet_head.Goals as goal

pub returns : goal.returns
returns c table =
    sheet-head c.args.form.number c.args.sheet.now _ c.read_front.result c.read_front.new.table table c.read_front.ensures
