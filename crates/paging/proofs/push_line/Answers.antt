-- The parts of the line are pushed one after another.
use native.Mathlib.Omega.{arith}
use mir.Syntax.{w64}
use mir.ValLaws.{to_z_pos, to_z-of_z}
use Rattle.operations.proofs.DecimalLaws.{decimal-few}
use Rattle.paging.proofs.LineLaws.{pushed-parts}
use Rattle.paging.proofs.push_line.Goals as goal

pub push_right_set-requires : goal.push_right_set-requires
push_right_set-requires c =
    let n = c.args.number in
    (omega arith, omega arith, rw (to_z_pos w64 n (omega arith)) (decimal-few 3 n (omega arith)))

pub push_right_set-requires-2 : goal.push_right_set-requires-2
push_right_set-requires-2 c = (
  omega (arith, c.push_byte.ensures.put.0, c.push_byte-2.ensures.put.0),
  omega arith,
  rw (to_z-of_z w64 c.args.margin c.ranges.margin) c.requires.2.margin,
)

pub returns : goal.returns
returns c =
    let a = c.args in
    let number = rw (to_z_pos w64 a.number (omega arith)) at c.push_right_set.ensures.pushed in
    let margin = rw (to_z-of_z w64 a.margin c.ranges.margin) at c.push_right_set-2.ensures.pushed in
    pushed-parts a.number (record { mark = a.mark; margin = a.margin }) number c.push_byte.ensures
    (rw c.words.ensures.value at c.push_left_set.ensures.pushed) c.push_byte-2.ensures margin c.push_bytes.ensures
