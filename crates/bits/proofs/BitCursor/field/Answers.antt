-- The bits of a field lie in the three bytes from its own on.
use mathlib.Core.Path.{refl}
use Prim.Native.Nat.{◌+◌, ◌*◌, ◌/◌, ◌%◌, ◌≤◌}
use native.Mathlib.Omega.{arith}
use native.Mathlib.Nat.{mod-lt}
use lib.ListN.{length}
use lib.Pow.{pow_pos}
use borrow.Author.Tests.{le-leb}
use Rattle.format.specs.Reading.{bit_field}
use Rattle.bits.proofs.BitLaws.{field-three}
use Rattle.bits.proofs.BitCursor.field.Goals as goal

pub overflow_cast-three : goal.overflow_cast-three
overflow_cast-three c =
    omega (arith, c.args.book.fits (c.args.self.at / 8))

pub overflow_mul-three : goal.overflow_mul-three
overflow_mul-three c =
    omega (arith, c.args.book.fits (c.args.self.at / 8))

pub overflow_cast-three-2 : goal.overflow_cast-three-2
overflow_cast-three-2 c =
    omega (arith, c.args.book.fits (c.args.self.at / 8 + 1))

pub overflow_mul-three-2 : goal.overflow_mul-three-2
overflow_mul-three-2 c =
    omega (arith, c.args.book.fits (c.args.self.at / 8 + 1))

pub overflow_add-three-2 : goal.overflow_add-three-2
overflow_add-three-2 c =
    let known = c.args.book.fits in
    let i = c.args.self.at / 8 in
    omega (arith, known i, known (i + 1))

pub overflow_cast-three-3 : goal.overflow_cast-three-3
overflow_cast-three-3 c =
    omega (arith, c.args.book.fits (c.args.self.at / 8 + 2))

pub overflow_add-three-4 : goal.overflow_add-three-4
overflow_add-three-4 c =
    let known = c.args.book.fits in
    let i = c.args.self.at / 8 in
    omega (arith, known i, known (i + 1), known (i + 2))

pub field_of-requires : goal.field_of-requires
field_of-requires c =
    let known = c.args.book.fits in
    let i = c.args.self.at / 8 in
    (omega arith, omega arith, omega (arith, known i, known (i + 1), known (i + 2)))

pub returns : goal.returns
unfolding bit_field
returns c =
    let a = c.args in
    let fits : a.self.at + a.width ≤ 8 * length a.book.bytes.now = omega arith in
    let room : a.self.at % 8 + a.width ≤ 24 = omega arith in
    rw (c.field_of.ensures, le-leb _ _ fits, field-three a.book.bytes.now a.book.fits a.self.at a.width)
    (record {
      result_value = refl;
      below = mod-lt _ (pow_pos a.width);
    })
