-- A node of f is opened; an element that the lowest bit of the mask does not take is passed over. The offset rises.
use native.Mathlib.Omega.{arith}
use Rattle.equivalence.proofs.PreparedLaws.{prepared-kept}
use Rattle.pieces.proofs.PutLaws.{walk-inside, walk-own, walk-next, walk-taken, size-some}
use Rattle.pieces.proofs.elements.first_taken.Goals as goal

pub walk-preserved-then-term-at : goal.walk-preserved-then-term-at
walk-preserved-then-term-at c =
    walk-own (prepared-kept c.args.term.now.prepared) c.walk.invariant c.if-term-at.true

pub returns-then-left-eq1 : goal.returns-then-left-eq1
returns-then-left-eq1 c =
    walk-taken (prepared-kept c.args.term.now.prepared) c.walk.invariant c.if-term-at.false c.if-left-eq1.true

pub walk-smaller : goal.walk-smaller
walk-smaller c =
    let P = prepared-kept c.args.term.now.prepared in
    let h = walk-inside P c.walk.invariant c.requires.masked in
    let s = size-some P h in
    omega (arith, c.size_at-at.ensures.0)

pub walk-preserved : goal.walk-preserved
walk-preserved c =
    let P = prepared-kept c.args.term.now.prepared in
    walk-next P c.walk.invariant c.if-term-at.false c.size_at-at.ensures.0
    (walk-inside P c.walk.invariant c.requires.masked) (omega (arith, c.if-left-eq1.false))
