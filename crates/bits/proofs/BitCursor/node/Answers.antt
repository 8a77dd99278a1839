-- A node's nine bits are the first of the window.
use mathlib.Core.Path.{sym}
use Prim.Native.Nat.{◌/◌, ◌^◌}
use native.Mathlib.Omega.{arith}
use Rattle.bits.proofs.NodeLaws.{width-le}
use Rattle.bits.proofs.WindowLaws.{ahead-nine, node-moved}
use Rattle.bits.proofs.BitCursor.node.Goals as goal

pub node_of-requires : goal.node_of-requires
node_of-requires c =
    let a = c.args in
    let h = c.refilled-ahead.ensures in
    let (_, tag, small) = ahead-nine a.book.bytes.now a.self.at c.refilled-ahead.result h c.if-ahead-lt9.false in
    (small, tag, omega (arith, a.book.short, h.within))

pub returns : goal.returns
returns c =
    let a = c.args in
    let w = c.refilled-ahead.result in
    let h = c.refilled-ahead.ensures in
    let (nine, _, _) = ahead-nine a.book.bytes.now a.self.at w h c.if-ahead-lt9.false in
    let both =
    node-moved a.book.bytes.now a.self.at _ (sym nine)
    (omega (arith, width-le (w.bits / 2 ^ 55), h.within, c.if-ahead-lt9.false)) _ _ c.node_of.ensures
    (c.past.ensures a.book.bytes.now a.self.at h)
    in record {
      result_value = both.0;
      node_moved = both.1;
    }
