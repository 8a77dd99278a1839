-- The loop keeps: the lines of the rules before this one are pushed.
use mathlib.Core.Path.{refl}
use native.Mathlib.Omega.{arith}
use native.Mathlib.Nat.{zero-add}
use lib.IntN.{pos}
use lib.ListN.{get_or}
use mir.Syntax.{w64}
use mir.ValLaws.{to_z-of_z}
use Rattle.operations.proofs.PageLaws.{length-line}
use Rattle.paging.proofs.LineLaws.{entry_at, entry-fits, lines_next, lines-all}
use Rattle.paging.proofs.push_lines.Goals as goal

pub push_line-requires : goal.push_line-requires
push_line-requires c =
    let a = c.args in
    let i = c.loop-i.i in
    let fits = entry-fits a.marks.now a.margins.now c.requires.marks_len_bound.1 c.requires.all_fit i c.loop-i-test.true in
    let margin = get_or a.margins.now i (pos 0) in
    let z = to_z-of_z w64 margin (record { sfits = omega arith }) in
    (omega arith, omega arith, rw z fits)

pub loop-i-preserved : goal.loop-i-preserved
loop-i-preserved c =
    let a = c.args in
    let i = c.loop-i.i in
    let same = c.requires.marks_len_bound.1 in
    let fits = entry-fits a.marks.now a.margins.now same c.requires.all_fit i c.loop-i-test.true in
    let z = to_z-of_z w64 (get_or a.margins.now i (pos 0)) (record { sfits = omega arith }) in
    let line = rw (zero-add i, z) at c.push_line.ensures in
    record {
      bound = omega (arith, line.put.0, length-line i (entry_at a.marks.now a.margins.now i) (omega arith) fits);
      pushed = lines_next a.marks.now a.margins.now same i i _ c.loop-i-test.true refl refl c.loop-i.invariant.pushed line;
    }

pub returns : goal.returns
returns c =
    let a = c.args in
    let all = lines-all a.marks.now a.margins.now c.requires.marks_len_bound.1 c.loop-i.i c.loop-i-test.false in
    rw all at c.loop-i.invariant.pushed
