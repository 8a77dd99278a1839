-- The loop keeps: so many spaces are pushed.
use Rattle.operations.specs.Text.{spaces}
use Rattle.text.specs.Put.{Pushed}
use Rattle.text.proofs.Text.push_spaces.Given as goal

abbrev pub invariant-loop-i : goal.invariant-loop-i
invariant-loop-i l = Pushed l.initial.self (spaces l._i) l.self
