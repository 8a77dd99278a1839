-- The loop keeps: where a rule's words are stored, those up to i are renumbered and the variables in them have their
-- numbers; no more numbers are used than words are passed.
use Prim.Native.Nat.{◌+◌, ◌≤◌}
use Rattle.terms.specs.Words.{first_variable}
use Rattle.variables.proofs.PassLaws.{RulePassing}
use Rattle.variables.proofs.renumber.Given as goal

abbrev pub invariant-loop-i : goal.invariant-loop-i
invariant-loop-i l = record {
  few : l.renumbering.unused + l.start ≤ first_variable + l.i;
  passing : RulePassing l.start l.end l.initial.words l.words l.i l.renumbering;
}
