-- Before the last byte a node's bits lie in two bytes.
use mathlib.Core.Path.{◌≡◌, ap, ◌∙◌}
use Prim.Native.Nat.{ℕ, ◌+◌, ◌*◌, ◌-◌, ◌/◌, ◌%◌, ◌^◌}
use native.Mathlib.Omega.{arith}
use Rattle.format.specs.Reading.{spelt, bit_at}
use Rattle.bits.proofs.BitLaws.{field-two}
use Rattle.bits.proofs.NodeLaws.{tag-first, width-le}
use Rattle.bits.proofs.WindowLaws.{node-moved}
use Rattle.bits.proofs.BitCursor.far_node.Goals as goal

pub node_of-requires : goal.node_of-requires
node_of-requires c =
    let a = c.args in
    let first = c.byte_at-first in
    let second = c.byte_at in
    let two = first.result * 256 + second.result in
    let nine : spelt (bit_at a.book.bytes.now) a.self.at 9 ≡ two / 2 ^ (7 - a.self.at % 8) % 512 =
    rw (first.ensures.0, second.ensures.0) (field-two a.book.bytes.now a.book.fits a.self.at) in (
      omega arith,
      ap (λ (x : ℕ). x / 2 ^ (7 - a.self.at % 8) % 2) first.ensures.0
          ∙ tag-first a.book.bytes.now a.self.at _ nine,
      omega arith,
    )

pub returns : goal.returns
returns c =
    let a = c.args in
    let first = c.byte_at-first in
    let second = c.byte_at in
    let two = first.result * 256 + second.result in
    let nine : spelt (bit_at a.book.bytes.now) a.self.at 9 ≡ two / 2 ^ (7 - a.self.at % 8) % 512 =
    rw (first.ensures.0, second.ensures.0) (field-two a.book.bytes.now a.book.fits a.self.at) in
    let both =
    node-moved a.book.bytes.now a.self.at _ nine (omega (
      arith,
      width-le
          (two / 2 ^ (7 - a.self.at % 8) % 512),
    )) _ _ c.node_of.ensures
    (c.empty.ensures a.book.bytes.now _ (omega (arith, width-le (two / 2 ^ (7 - a.self.at % 8) % 512))))
    in record {
      result_value = both.0;
      node_moved = both.1;
    }
