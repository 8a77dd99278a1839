-- The two tests are those of the definition.
use borrow.Author.Tests.{lt-ltb, le-ltb}
use lib.ListN.{length, get_or}
use Rattle.format.specs.Reading.{word_below}
use Rattle.words.proofs.word_below.Goals as goal

pub returns-then-words-at-clause-result_value : goal.returns-then-words-at-clause-result_value
unfolding word_below
returns-then-words-at-clause-result_value c = rw (le-ltb c.args.at (length c.args.words.now) c.if-words-at.true)

pub returns-then-bound-word-clause-result_value : goal.returns-then-bound-word-clause-result_value
unfolding word_below
returns-then-bound-word-clause-result_value c =
    rw (
      lt-ltb c.args.at (length c.args.words.now) c.if-words-at.false,
      le-ltb (get_or c.args.words.now c.args.at 0) c.args.bound c.if-bound-word.true,
    )

pub returns-clause-result_value : goal.returns-clause-result_value
unfolding word_below
returns-clause-result_value c =
    rw (
      lt-ltb c.args.at (length c.args.words.now) c.if-words-at.false,
      lt-ltb (get_or c.args.words.now c.args.at 0) c.args.bound c.if-bound-word.false,
    )
