-- The loop keeps: the lines of the rules before this one are pushed.
use Prim.Native.Nat.{◌+◌, ◌*◌, ◌≤◌}
use lib.ListN.{take}
use Rattle.operations.specs.Report.{rule_lines}
use Rattle.text.specs.Put.{Pushed}
use Rattle.lines.proofs.push_rules.Given as goal

abbrev pub invariant-loop-i : goal.invariant-loop-i
invariant-loop-i l = record {
  bound : l.text.end ≤ l.initial.text.end + 41 * l.i;
  pushed : Pushed l.initial.text (rule_lines 0 (take l.i l.marks) (take l.i l.margins)) l.text;
}
