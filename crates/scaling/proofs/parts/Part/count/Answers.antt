-- The loop keeps: each count is that of the words from i to before k. It is below the limit, as the side's weight is.
use mathlib.Core.Path.{◌≡◌, refl}
use Prim.Native.Nat.{◌<◌}
use native.Mathlib.Omega.{arith}
use lib.ListN.{length, length-set}
use Rattle.symbols.specs.Table.{signature_of}
use Rattle.scaling.proofs.SideLaws.{side-kept}
use Rattle.scaling.proofs.StageLaws.{word-range}
use Rattle.scaling.proofs.StoredLaws.{part_end}
use Rattle.scaling.proofs.CountLaws.{counted_start, counted_same, own-fits, counted-more, counted}
use Rattle.scaling.proofs.parts.Part.count.Goals as goal
use Rattle.scaling.proofs.parts.Part.count.Goals.{then-word-ge-FIRST_VARIABLE, else-word-ge-FIRST_VARIABLE}

pub loop-k-init : goal.loop-k-init
loop-k-init c =
    let a = c.args in
    let v = c.args.self.now in
    let S = side-kept (signature_of v.table.now) v.side in
    let P = v.ends in
    let so = counted_start (signature_of v.table.now) v.words.now v.start in
    (rw c.requires refl, rw c.requires so)

pub offset_bounds-self-k : goal.offset_bounds-self-k
offset_bounds-self-k c =
    let v = c.args.self.now in
    let S = side-kept (signature_of v.table.now) v.side in omega (arith, part_end S v.ends, S.term.short)

pub bounds-self-k : goal.bounds-self-k
bounds-self-k c =
    let v = c.args.self.now in
    let S = side-kept (signature_of v.table.now) v.side in omega (arith, part_end S v.ends, S.term.short)

pub offset_bounds-self-k-then-word-ge-FIRST_VARIABLE : goal.offset_bounds-self-k-then-word-ge-FIRST_VARIABLE
offset_bounds-self-k-then-word-ge-FIRST_VARIABLE c =
    let v = c.args.self.now in
    let S = side-kept (signature_of v.table.now) v.side in omega (arith, part_end S v.ends, S.term.short)

pub bounds-self-k-then-word-ge-FIRST_VARIABLE : goal.bounds-self-k-then-word-ge-FIRST_VARIABLE
bounds-self-k-then-word-ge-FIRST_VARIABLE c =
    let v = c.args.self.now in
    let S = side-kept (signature_of v.table.now) v.side in omega (arith, part_end S v.ends, S.term.short)

pub bounds-counts-x : goal.bounds-counts-x
bounds-counts-x c =
    let v = c.args.self.now in
    let S = side-kept (signature_of v.table.now) v.side in
    let P = v.ends in
    omega (arith, word-range S.scaling S.term c.loop-k.k (omega (arith, part_end S P)))

pub bounds-counts-x-then-word-ge-FIRST_VARIABLE : goal.bounds-counts-x-then-word-ge-FIRST_VARIABLE
bounds-counts-x-then-word-ge-FIRST_VARIABLE c =
    let v = c.args.self.now in
    let S = side-kept (signature_of v.table.now) v.side in
    let P = v.ends in
    omega (arith, word-range S.scaling S.term c.loop-k.k (omega (arith, part_end S P)), c.loop-k.invariant.0)

pub overflow_add-counts : goal.overflow_add-counts
overflow_add-counts c =
    let v = c.args.self.now in
    let S = side-kept (signature_of v.table.now) v.side in
    let P = v.ends in
    let l = c.loop-k in
    let h : l.k < length v.words.now = omega (arith, part_end S P) in
    omega (
      arith,
      own-fits S v.start l.k l.counts h l.invariant.1 c.if-word-ge-FIRST_VARIABLE.true (word-range S.scaling S.term l.k h)
          l.invariant.0 (S.stored.factor l.k h),
    )

pub loop-k-preserved : goal.loop-k-preserved
loop-k-preserved c =
    let v = c.args.self.now in
    let S = side-kept (signature_of v.table.now) v.side in
    let P = v.ends in
    let l = c.loop-k in
    let h : l.k < length v.words.now = omega (arith, part_end S P) in
    elim c.if-word-ge-FIRST_VARIABLE.branch [
      | then-word-ge-FIRST_VARIABLE w ↦
          rw w.counts-is (
            simp length-set l.invariant.0,
            counted-more S v.start l.k l.counts h l.invariant.1 w.if-word-ge-FIRST_VARIABLE.true
                (word-range S.scaling S.term l.k h) l.invariant.0 (S.stored.factor l.k h),
          )
      | else-word-ge-FIRST_VARIABLE w ↦
          rw w.counts-is (
            l.invariant.0,
            counted_same S v.start l.k l.counts h l.invariant.1 w.if-word-ge-FIRST_VARIABLE.false,
          )
    ]

pub returns : goal.returns
returns c =
    let v = c.args.self.now in
    let S = side-kept (signature_of v.table.now) v.side in
    let P = v.ends in
    let l = c.loop-k in
    let e : l.k ≡ v.end = omega (arith, P.ends) in
    (counted S P l.counts (rw e at l.invariant.1), l.invariant.0)
