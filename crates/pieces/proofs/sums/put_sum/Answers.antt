-- The loop keeps: the words put, with those of the elements that are left, are those of the sum.
use native.Mathlib.Omega.{arith}
use mathlib.Core.Path.{◌≡◌}
use Prim.Native.Nat.{◌+◌}
use Rattle.equivalence.specs.Keys.{size_in}
use Rattle.equivalence.proofs.PreparedLaws.{prepared-kept}
use Rattle.pieces.proofs.PutLaws.{taken-fits, taken-some, summing-room-last, summing-room-more, summing-last, summing-more, summing-done}
use Rattle.pieces.proofs.sums.put_sum.Goals.{then-rest-gt0, else-rest-gt0}
use Rattle.pieces.proofs.sums.put_sum.Goals as goal

pub push-requires : goal.push-requires
push-requires g c =
    let P = prepared-kept c.args.term.now.prepared in
    let S = c.loop-left.invariant in
    let T = c.first_taken-offset.ensures S.owed S.terms in
    let r = c.first_taken-offset.result.0 in
    let d : r + size_in c.args.term.now.keys.now r ≡ r + size_in c.args.term.now.keys.now r = omega arith in
    omega (arith, summing-room-more S P T d c.if-rest-gt0.true)

pub slice_bounds-extend-end : goal.slice_bounds-extend-end
slice_bounds-extend-end g c =
    let P = prepared-kept c.args.term.now.prepared in
    let S = c.loop-left.invariant in
    let T = c.first_taken-offset.ensures S.owed S.terms in
    let r = c.first_taken-offset.result.0 in
    let d : r + c.size_at.result ≡ r + size_in c.args.term.now.keys.now r = omega (arith, c.size_at.ensures.0) in
    omega (arith, taken-fits P T d)

pub extend-requires : goal.extend-requires
extend-requires g c =
    let P = prepared-kept c.args.term.now.prepared in
    let S = c.loop-left.invariant in
    let T = c.first_taken-offset.ensures S.owed S.terms in
    let r = c.first_taken-offset.result.0 in
    let d : r + c.size_at.result ≡ r + size_in c.args.term.now.keys.now r = omega (arith, c.size_at.ensures.0) in
    elim c.if-rest-gt0.branch [
      | then-rest-gt0 w ↦ rw (w.out-is, w.push.ensures.after) (summing-room-more S P T d w.if-rest-gt0.true)
      | else-rest-gt0 w ↦ rw w.out-is (summing-room-last S P T d (omega (arith, w.if-rest-gt0.false)))
    ]

pub loop-left-smaller : goal.loop-left-smaller
loop-left-smaller g c =
    let P = prepared-kept c.args.term.now.prepared in
    let S = c.loop-left.invariant in
    let T = c.first_taken-offset.ensures S.owed S.terms in
    let r = c.first_taken-offset.result.0 in
    let d : r + c.size_at.result ≡ r + size_in c.args.term.now.keys.now r = omega (arith, c.size_at.ensures.0) in
    omega (arith, taken-fits P T d, taken-some P T d, T.ahead)

pub loop-left-preserved : goal.loop-left-preserved
loop-left-preserved g c =
    let P = prepared-kept c.args.term.now.prepared in
    let S = c.loop-left.invariant in
    let T = c.first_taken-offset.ensures S.owed S.terms in
    let r = c.first_taken-offset.result.0 in
    let d : r + c.size_at.result ≡ r + size_in c.args.term.now.keys.now r = omega (arith, c.size_at.ensures.0) in
    elim c.if-rest-gt0.branch [
      | then-rest-gt0 w ↦ summing-more S P T d w.if-rest-gt0.true w.push.ensures (rw w.out-is at c.extend.ensures)
      | else-rest-gt0 w ↦ summing-last S P T d (omega (arith, w.if-rest-gt0.false)) (rw w.out-is at c.extend.ensures)
    ]

pub returns : goal.returns
returns g c = summing-done c.loop-left.invariant (omega arith) c.loop-left.out.room
