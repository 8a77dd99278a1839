-- What is left lies in the last byte, whose low bits it is.
use native.Mathlib.Omega.{arith}
use borrow.Author.Tests.{lt-ltb, le-ltb}
use mathlib.Core.Path.{◌≡◌}
use Prim.Native.Nat.{◌+◌, ◌*◌, ◌-◌, ◌%◌, ◌<◌}
use lib.ListN.{length}
use lib.Pow.{pow_pos}
use Rattle.bits.proofs.BitLaws.{field-last}
use Rattle.format.proofs.PackingLaws.{one_shl}
use Rattle.bits.proofs.BitCursor.is_padding.Goals as goal

pub returns-then-end-at : goal.returns-then-end-at
returns-then-end-at c =
    let z : 8 * length c.args.book.bytes.now - c.args.self.at ≡ 0 = omega arith in
    rw z

pub returns-then-end-at-ge8 : goal.returns-then-end-at-ge8
returns-then-end-at-ge8 c =
    rw (le-ltb (8 * length c.args.book.bytes.now - c.args.self.at) 8
    c.if-end-at-ge8.true)

pub nonzero_rem-result : goal.nonzero_rem-result
nonzero_rem-result c =
    let w : 8 * length c.args.book.bytes.now - c.args.self.at < 32 = omega arith in rw
    (one_shl 32 (8 * length c.args.book.bytes.now - c.args.self.at) w)
    (pow_pos (8 * length c.args.book.bytes.now - c.args.self.at))

pub returns : goal.returns
returns c =
    let left = 8 * length c.args.book.bytes.now - c.args.self.at in
    let w : left < 32 = omega arith in
    let e : c.args.self.at % 8 + left ≡ 8 = omega arith in
    rw (
      one_shl 32 left w,
      lt-ltb left 8 c.if-end-at-ge8.false,
      field-last c.args.book.bytes.now c.args.book.fits c.args.self.at left e,
      c.byte_at.ensures.0,
    )
