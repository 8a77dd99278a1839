-- The loop keeps: the elements listed, with those of the terms ahead, are the elements of all. A node of f is opened,
-- any other is an element.
use native.Mathlib.Omega.{arith}
use Rattle.equivalence.proofs.PreparedLaws.{prepared-kept}
use Rattle.equivalence.proofs.StepLaws.{step-some}
use Rattle.equivalence.proofs.ElementLaws.{listing-own, listing-room, listing-other}
use Rattle.equivalence.proofs.keys.Keyed.elements.Goals as goal

pub loop-owed-preserved-then-self-at : goal.loop-owed-preserved-then-self-at
loop-owed-preserved-then-self-at c =
    listing-own (prepared-kept c.args.self.now.prepared)
    c.loop-owed.invariant (omega arith) c.if-self-at.true (omega arith)
    c.arity-inner.ensures.0

pub push-requires : goal.push-requires
push-requires c = (
  listing-room (prepared-kept c.args.self.now.prepared) c.loop-owed.invariant (omega arith) c.if-self-at.false
      c.requires.n_len_bound,
  omega arith,
)

pub loop-owed-smaller : goal.loop-owed-smaller
loop-owed-smaller c =
    let p = step-some (prepared-kept c.args.self.now.prepared) c.loop-owed.invariant.terms (omega arith) in
    omega (arith, c.size_at-at.ensures.0)

pub loop-owed-preserved : goal.loop-owed-preserved
loop-owed-preserved c =
    rw (c.push.ensures.bytes_after, c.push.ensures.count_after)
    (listing-other (prepared-kept c.args.self.now.prepared)
    c.loop-owed.invariant (omega arith) c.if-self-at.false c.size_at-at.ensures.0
    c.requires.n_len_bound)
