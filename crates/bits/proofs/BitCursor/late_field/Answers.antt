-- The bits of a field lie in three bytes, those past the end being 0.
use mathlib.Core.Path.{refl}
use Prim.Native.Nat.{◌+◌, ◌*◌, ◌%◌, ◌<◌, ◌≤◌}
use native.Mathlib.Omega.{arith}
use native.Mathlib.Nat.{mod-lt}
use lib.ListN.{length}
use lib.Pow.{pow_pos}
use borrow.Author.Tests.{le-leb, lt-leb}
use Rattle.format.specs.Reading.{bit_field}
use Rattle.bits.proofs.BitLaws.{field-three}
use Rattle.bits.proofs.BitCursor.late_field.Goals as goal

pub returns-then-book-index : goal.returns-then-book-index
unfolding bit_field
returns-then-book-index c =
    let a = c.args in
    let past : 8 * length a.book.bytes.now < a.self.at + a.width = omega arith in
    record {
      result_value = rw (lt-leb _ _ past);
      below = omega arith;
    }

pub returns : goal.returns
unfolding bit_field
returns c =
    let a = c.args in
    let fits : a.self.at + a.width ≤ 8 * length a.book.bytes.now = omega arith in
    let room : a.self.at % 8 + a.width ≤ 24 = omega arith in
    rw (
      c.field_of.ensures,
      le-leb _ _ fits,
      field-three a.book.bytes.now a.book.fits a.self.at a.width,
      c.gather.ensures.value,
    ) (record {
      result_value = refl;
      below = mod-lt _ (pow_pos a.width);
    })
