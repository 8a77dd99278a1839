-- The loop keeps: the words put, with those of the pattern's words that are left, are those of the instance.
use native.Mathlib.Omega.{arith}
use Rattle.pieces.proofs.PieceLaws.{symbol-first, symbol-room, variable-first, filling-room, filling-more, filling-done}
use Rattle.pieces.proofs.instances.put_instance.Goals.{then-word-lt-FIRST_VARIABLE, else-word-lt-FIRST_VARIABLE}
use Rattle.pieces.proofs.instances.put_instance.Goals as goal

pub push-requires : goal.push-requires
push-requires c =
    symbol-room c.loop-word.invariant c.requires.filled c.loop-word-test.true c.if-word-lt-FIRST_VARIABLE.true

pub put_piece-requires-clause-room : goal.put_piece-requires-clause-room
put_piece-requires-clause-room c =
    let p = c.get-piece.ensures in
    filling-room c.loop-word.invariant _ (variable-first c.requires.filled c.loop-word-test.true
    c.if-word-lt-FIRST_VARIABLE.false p.0 p.1)

pub loop-word-preserved : goal.loop-word-preserved
loop-word-preserved c =
    let F = c.requires.filled in
    let G = c.loop-word.invariant in
    let h = c.loop-word-test.true in
    elim c.if-word-lt-FIRST_VARIABLE.branch [
      | then-word-lt-FIRST_VARIABLE w ↦ rw w.out-is
          (filling-more G _ (symbol-first F h w.if-word-lt-FIRST_VARIABLE.true) w.push.ensures)
      | else-word-lt-FIRST_VARIABLE w ↦ rw w.out-is
          (filling-more G _ (variable-first F h w.if-word-lt-FIRST_VARIABLE.false w.get-piece.ensures.0
          w.get-piece.ensures.1) w.put_piece.ensures)
    ]

pub returns : goal.returns
returns c = filling-done c.loop-word.invariant (omega arith) c.loop-word.out.room
