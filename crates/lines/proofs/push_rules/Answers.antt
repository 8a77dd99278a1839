-- The loop keeps: the lines of the rules before this one are pushed.
use native.Mathlib.Omega.{arith}
use lib.IntN.{pos}
use lib.ListN.{get_or}
use mir.Syntax.{w64}
use mir.ValLaws.{to_z-of_z}
use Rattle.lines.proofs.LineLaws.{lines_next}
use Rattle.lines.proofs.push_rules.Goals as goal

pub loop-i-preserved : goal.loop-i-preserved
loop-i-preserved c =
    let margin = get_or c.args.margins.now c.loop-i.i (pos 0) in
    let z = to_z-of_z w64 margin (record { sfits = omega arith }) in
    record {
      bound = omega arith;
      pushed = lines_next c.loop-i.i c.args.marks.now c.args.margins.now c.loop-i-test.true c.requires.2
          c.loop-i.invariant.pushed (rw (c.from.ensures, z) at c.push_rule.ensures.pushed);
    }
