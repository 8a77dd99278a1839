-- The loop keeps: the words counted, with those of the pattern's words that are left, are those of the instance.
use native.Mathlib.Omega.{arith}
use Rattle.pieces.proofs.PieceLaws.{variable-first, measured-more, measured-symbol, measured-done}
use Rattle.pieces.proofs.sizes.instance_size.Goals.{then-word-lt-FIRST_VARIABLE, else-word-lt-FIRST_VARIABLE}
use Rattle.pieces.proofs.sizes.instance_size.Goals as goal

pub loop-word-preserved : goal.loop-word-preserved
loop-word-preserved c =
    let F = c.requires in
    let M = c.loop-word.invariant in
    let h = c.loop-word-test.true in
    elim c.if-word-lt-FIRST_VARIABLE.branch [
      | then-word-lt-FIRST_VARIABLE w ↦ rw w.count-is
          (measured-symbol M F h w.if-word-lt-FIRST_VARIABLE.true)
      | else-word-lt-FIRST_VARIABLE w ↦ rw w.count-is
          (measured-more M _ (variable-first F h w.if-word-lt-FIRST_VARIABLE.false w.get.ensures.0 w.get.ensures.1)
          w.piece_size.ensures.value w.piece_size.ensures.upper_bound)
    ]

pub returns-clause-value : goal.returns-clause-value
returns-clause-value c = measured-done c.loop-word.invariant (omega arith)
