-- The words stand where they were copied to.
use Rattle.multisets.proofs.ListLaws.{put_part}
use native.Mathlib.Omega.{arith}
use Rattle.sides.proofs.put_words.Goals as goal

pub returns-then-end-words-clause-words_after : goal.returns-then-end-words-clause-words_after
returns-then-end-words-clause-words_after c room =
    rw c.copy_from_slice.ensures.after (put_part c.args.index _ c.args.words.now _ (omega arith) (omega arith))
