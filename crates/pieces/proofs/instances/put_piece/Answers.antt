-- A whole part is copied as it stands; a sum is put element by element.
use native.Mathlib.Omega.{arith}
use mathlib.Core.Path.{◌≡◌}
use Prim.Native.Nat.{◌+◌, ◌<◌}
use Rattle.equivalence.specs.Keys.{size_in}
use Rattle.equivalence.proofs.PreparedLaws.{prepared-kept}
use Rattle.pieces.proofs.PieceLaws.{whole-fits, whole_room, put_whole, sum-masked, sum-words}
use Rattle.pieces.proofs.instances.put_piece.Goals as goal

pub slice_bounds-extend-end : goal.slice_bounds-extend-end
slice_bounds-extend-end c =
    let P = prepared-kept c.args.term.now.prepared in
    let i = c.args.piece.offset in
    let d : i + c.size_at.result ≡ i + size_in c.args.term.now.keys.now i = omega (arith, c.size_at.ensures.0) in
    omega (arith, whole-fits P c.requires.piece c.if-piece-eq0.true d)

pub extend-requires : goal.extend-requires
extend-requires c =
    let P = prepared-kept c.args.term.now.prepared in
    let i = c.args.piece.offset in
    let d : i + c.size_at.result ≡ i + size_in c.args.term.now.keys.now i = omega (arith, c.size_at.ensures.0) in
    whole_room P c.requires.piece c.if-piece-eq0.true d _ c.requires.room

pub put_sum-requires : goal.put_sum-requires
put_sum-requires c =
    let P = prepared-kept c.args.term.now.prepared in
    let h : 0 < c.args.piece.mask = omega (arith, c.if-piece-eq0.false) in
    (sum-masked P c.requires.piece h, rw (sum-words P c.requires.piece h) at c.requires.room)

pub returns-then-piece-eq0 : goal.returns-then-piece-eq0
returns-then-piece-eq0 c =
    let P = prepared-kept c.args.term.now.prepared in
    let i = c.args.piece.offset in
    let d : i + c.size_at.result ≡ i + size_in c.args.term.now.keys.now i = omega (arith, c.size_at.ensures.0) in
    put_whole P c.requires.piece c.if-piece-eq0.true d c.extend.ensures

pub returns-else-piece-eq0 : goal.returns-else-piece-eq0
returns-else-piece-eq0 c =
    let P = prepared-kept c.args.term.now.prepared in
    rw (sum-words P c.requires.piece (omega (arith, c.if-piece-eq0.false))) c.put_sum.ensures
