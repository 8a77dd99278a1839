-- The left side is read first, and what follows is what the right side, read on with its variables, makes of the rule.
use mathlib.Core.Path.{refl}
use native.Mathlib.Omega.{arith}
use Rattle.std.proofs.lemmas.Result.{err_from_is_err_and}
use Rattle.format.specs.Layout.{form_number}
use Rattle.format.specs.Reading.{bit_source}
use Rattle.format.specs.Forms.{unused_of}
use Rattle.symbols.specs.Table.{signature_of}
use Rattle.marking.proofs.SideLaws.{side-term, left-unread, rule-marked}
use Rattle.marking.proofs.rule.mark_rule.Goals as goal

pub read_side-requires : goal.read_side-requires
read_side-requires c =
    record {
      cursor_bound = c.requires;
      words_len = (refl, c.unused_at_start-unused.ensures.1);
    }

pub mark_right-requires : goal.mark_right-requires
mark_right-requires c =
    let a = c.args in
    let σ = signature_of a.under.now.weighing.table.now in
    let (e, u) = rw c.in_ok-count.was at (c.read_side.ensures.side_read σ a.under.now.cells) in
    let (few, end) = rw c.in_ok-count.was at c.read_side.ensures.within in record {
      cursor_bound = end;
      left_term = side-term a.book.bytes.now _ σ a.cursor.at _ _ e;
      unused_bound = omega (arith, c.read_side.ensures.words_len_2.1);
    }

pub returns-in_err-count : goal.returns-in_err-count
returns-in_err-count c =
    let a = c.args in
    let σ = signature_of a.under.now.weighing.table.now in
    let e = rw (c.in_err-count.was, c.unused_at_start-unused.ensures.0)
    at (c.read_side.ensures.side_read σ a.under.now.cells) in
    let error = err_from_is_err_and c.from_residual.result c.from_residual.ensures.1 in
    rw (error.1, error.2) (record {
      marks_read = left-unread σ a.under.now.decoded.unscaled (bit_source a.book.bytes.now)
          (unused_of form_number) a.cursor.at _ _ e;
      marked_within = tt;
    })

pub returns : goal.returns
returns c =
    let a = c.args in
    let σ = signature_of a.under.now.weighing.table.now in
    let (e, u) = rw (c.in_ok-count.was, c.unused_at_start-unused.ensures.0)
    at (c.read_side.ensures.side_read σ a.under.now.cells) in record {
      marks_read = rule-marked σ a.under.now.decoded.unscaled (bit_source a.book.bytes.now)
          (unused_of form_number) a.cursor.at _ _ _
          e u c.mark_right.result
          c.mark_right.ensures.marks_read;
      marked_within = c.mark_right.ensures.marked_within;
    }
