-- In the last byte a node's bits are the low ones, with zeros after them; one that is cut off is missing.
use native.Mathlib.Omega.{arith}
use mathlib.Core.Path.{◌≡◌, sym}
use Prim.Native.Nat.{◌+◌, ◌*◌, ◌-◌, ◌/◌, ◌%◌, ◌^◌}
use lib.ListN.{get_or, get_or-eq_default}
use Rattle.format.specs.Reading.{spelt, bit_at}
use Rattle.bits.proofs.BitLaws.{field-one}
use Rattle.bits.proofs.NodeLaws.{node-cut, node-none}
use Rattle.bits.proofs.WindowLaws.{node-moved}
use Rattle.bits.proofs.BitCursor.late_node.Goals as goal

pub returns-then-end-at : goal.returns-then-end-at
returns-then-end-at c =
    let a = c.args in
    record {
      result_value = sym (node-none a.book.bytes.now a.self.at c.if-end-at.true);
      node_moved = omega arith;
    }

pub returns-then-end-at-2 : goal.returns-then-end-at-2
returns-then-end-at-2 c =
    let a = c.args in
    let past : get_or a.book.bytes.now (a.self.at / 8 + 1) 0 ≡ 0 = get_or-eq_default a.book.bytes.now 0 c.requires
    in
    let byte = c.byte_at in
    let nine : spelt (bit_at a.book.bytes.now) a.self.at 9 ≡ byte.result * 256 / 2 ^ (7 - a.self.at % 8) % 512 =
    rw byte.ensures.0 (field-one a.book.bytes.now a.book.fits a.self.at past) in
    let width = c.node_width.ensures in
    record {
      result_value = sym (node-cut a.book.bytes.now a.self.at _ nine (omega arith) (omega (arith, width)));
      node_moved = omega arith;
    }

pub returns : goal.returns
returns c =
    let a = c.args in
    let past : get_or a.book.bytes.now (a.self.at / 8 + 1) 0 ≡ 0 = get_or-eq_default a.book.bytes.now 0 c.requires
    in
    let byte = c.byte_at in
    let nine : spelt (bit_at a.book.bytes.now) a.self.at 9 ≡ byte.result * 256 / 2 ^ (7 - a.self.at % 8) % 512 =
    rw byte.ensures.0 (field-one a.book.bytes.now a.book.fits a.self.at past) in
    let both =
    node-moved a.book.bytes.now a.self.at _ nine
    (omega (arith, c.node_width.ensures)) _ _ c.node_of.ensures
    (c.empty.ensures a.book.bytes.now _ (omega (arith, c.node_width.ensures)))
    in record {
      result_value = both.0;
      node_moved = both.1;
    }
