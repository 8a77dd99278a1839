-- Each branch is one of the definition.
use native.Mathlib.Omega.{arith}
use borrow.Author.Tests.{eq-eqb, ne_eqb}
use Rattle.extensions.proofs.compare.past.Goals as goal

pub returns-then-next-first : goal.returns-then-next-first
returns-then-next-first c = let a = c.args in
    (rw (eq-eqb a.next a.first c.if-next-first.true), omega arith, omega arith)

pub returns-else-next-first : goal.returns-else-next-first
returns-else-next-first c = let a = c.args in
    (rw (ne_eqb a.next a.first c.if-next-first.false), omega arith, omega arith)
