-- The right side is read as the definition reads it, and the rule is marked with it.
use Rattle.std.proofs.lemmas.Result.{err_from_is_err_and}
use Rattle.symbols.specs.Table.{signature_of}
use Rattle.marking.proofs.SideLaws.{side-term, right-marked}
use Rattle.marking.proofs.rule.mark_right.Goals as goal

pub mark_sides-requires : goal.mark_sides-requires
mark_sides-requires c =
    let a = c.args in
    let σ = signature_of a.under.now.weighing.table.now in
    let (e, u) = rw c.in_ok-count.was at (c.read_side.ensures.side_read σ a.under.now.cells) in
    record {
      symbols = a.under.now.decoded;
      left = c.requires.left_term;
      right = side-term a.book.bytes.now a.unused σ a.cursor.at _ _ e;
    }

pub returns-in_err-count : goal.returns-in_err-count
returns-in_err-count c =
    let σ = signature_of c.args.under.now.weighing.table.now in
    let error = err_from_is_err_and c.from_residual.result c.from_residual.ensures.1 in
    rw (error.1, error.2) (record {
      marks_read = rw c.in_err-count.was at (c.read_side.ensures.side_read σ c.args.under.now.cells);
      marked_within = tt;
    })

pub returns : goal.returns
returns c =
    let a = c.args in
    let σ = signature_of a.under.now.weighing.table.now in
    let (e, u) = rw c.in_ok-count.was at (c.read_side.ensures.side_read σ a.under.now.cells) in
    let within = rw c.in_ok-count.was at c.read_side.ensures.within in
    let x = c.mark_sides.ensures.marks in
    let same = c.mark_sides.ensures.cursor_value in
    record {
      marks_read = right-marked σ _ a.left.now _ _ c.mark_sides.result e same x;
      marked_within = rw same within.1;
    }
