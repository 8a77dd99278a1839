-- A shift by 8 times a place is the place value, 256 to the power of the place.
use native.Mathlib.Omega.{arith}
use Prim.Native.Nat.{◌/◌, ◌%◌}
use borrow.Author.Tests.{eq-eqb}
use Rattle.weights.proofs.SumLaws.{power-shift}
use Rattle.weights.proofs.digits.occurrence.Goals as goal

pub returns-then-word-eight : goal.returns-then-word-eight
returns-then-word-eight c =
    let w = c.args.word in
    let e = c.args.eight in
    let h = power-shift (w % 8) (omega arith) in
    (rw (eq-eqb (w / 8) e c.if-word-eight.true) h.0, rw h.0 h.1)
