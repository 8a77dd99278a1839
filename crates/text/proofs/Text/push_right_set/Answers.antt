-- The digits stand where they were put, and are pushed after the spaces that they leave of the columns.
use mathlib.Core.Path.{◌≡◌}
use native.Mathlib.Omega.{arith}
use Prim.Native.Nat.{ℕ, ◌-◌}
use lib.ListN.{length, replicate, length-replicate}
use lib.Seq.{length-take-le}
use mir.Syntax.{w64}
use mir.ValLaws.{to_z-of_z}
use Rattle.operations.specs.Text.{signed_decimal}
use Rattle.text.specs.Put.{Put}
use Rattle.text.proofs.TextLaws.{pushed-append, put-stands}
use Rattle.text.proofs.Text.push_right_set.Goals as goal

pub returns-clause-pushed : goal.returns-clause-pushed
returns-clause-pushed c =
    let digits = signed_decimal c.args.n in
    let z = to_z-of_z w64 c.args.n c.ranges.n in
    let put : Put (replicate 20 0) 0 digits c.put_signed-count.result c.put_signed-count.new.out =
    rw z at c.put_signed-count.ensures.put in
    let count : c.put_signed-count.result ≡ length digits = omega (arith, put.0) in
    rw (put-stands (replicate 20 0) digits _ _ put (omega arith), count)
    at (pushed-append c.push_spaces.ensures c.push_bytes.ensures)

pub returns-clause-end : goal.returns-clause-end
returns-clause-end c =
    let count = c.put_signed-count.result in
    let few = rw (to_z-of_z w64 c.args.n c.ranges.n) at c.put_signed-count.ensures.put.0 in
    let digits = length-take-le count c.put_signed-count.new.out (omega (arith, c.put_signed-count.ensures.upper_bound)) in
    let spaces = length-replicate {A = ℕ} (c.args.width - count) 32 in
    omega (arith, few, c.push_spaces.ensures.put.0, c.push_bytes.ensures.put.0, spaces, digits)
