-- The loop keeps: the rules before `i` are read, counted and listed.
use mathlib.Core.Path.{refl, ap, ◌∙◌}
use native.Mathlib.Omega.{arith}
use lib.ListN.{length, set, length-set}
use mir.Syntax.{w64}
use mir.ValLaws.{to_z-of_z}
use Rattle.std.proofs.lemmas.Result.{err_from_is_err_and}
use Rattle.format.specs.Layout.{form_number}
use Rattle.format.specs.Reading.{bit_source}
use Rattle.format.specs.Forms.{unused_of}
use Rattle.symbols.specs.Table.{signature_of}
use Rattle.marking.proofs.WalkLaws.{listed-fault, listed_more, listed-all}
use Rattle.marking.proofs.walk.mark_rules.Goals as goal

pub returns-in_err-rule-clause-all_marked : goal.returns-in_err-rule-clause-all_marked
returns-in_err-rule-clause-all_marked c =
    let a = c.args in
    let l = c.loop-i in
    let error = err_from_is_err_and c.from_residual.result c.from_residual.ensures.1 in
    rw (error.1, error.2)
    (listed-fault (bit_source a.book.bytes.now) (unused_of form_number) (signature_of a.under.now.weighing.table.now)
    a.count a.cursor.at a.marks.now a.margins.now l.i l.here.at l.decreasing l.marks l.margins l.invariant.listed
    c.loop-i-test.true _ l.marks l.margins (rw c.in_err-rule.was at c.mark_rule.ensures.marks_read))

pub returns-clause-all_marked : goal.returns-clause-all_marked
returns-clause-all_marked c =
    let a = c.args in
    let l = c.loop-i in
    listed-all (bit_source a.book.bytes.now) (unused_of form_number) (signature_of a.under.now.weighing.table.now)
    a.count a.cursor.at a.marks.now a.margins.now l.i l.here.at l.decreasing l.marks l.margins l.invariant.listed
    c.loop-i-test.false l.here.at refl

pub loop-i-preserved : goal.loop-i-preserved
loop-i-preserved c =
    let a = c.args in
    let l = c.loop-i in
    record {
      few = omega (arith, c.decreases-decreasing.ensures.upper_bound);
      marks_len = simp length-set l.invariant.marks_len;
      margins_len = ap length c.put_margin.ensures ∙ simp length-set l.invariant.margins_len;
      within = rw c.in_ok-rule.was at c.mark_rule.ensures.marked_within;
      listed = listed_more (bit_source a.book.bytes.now) (unused_of form_number)
          (signature_of a.under.now.weighing.table.now) a.count a.cursor.at a.marks.now a.margins.now l.i l.here.at l.decreasing l.marks l.margins l.invariant.listed
          c.loop-i-test.true _ c.in_ok-rule.rule _ _ (rw c.in_ok-rule.was at c.mark_rule.ensures.marks_read)
          (rw c.number-mark.ensures at c.decreases-decreasing.ensures.value)
          (ap (set l.marks l.i) c.number-mark.ensures)
          (c.put_margin.ensures ∙ ap (set l.margins l.i) (to_z-of_z w64 _ (record {
            sfits = omega arith;
          })));
    }
