-- Each arm has the words of its own mark; the last is left to mark 11.
use mathlib.Core.Path.{refl}
use Rattle.paging.proofs.LineLaws.{last-mark, words_same}
use Rattle.paging.proofs.words.Goals as goal

pub returns-in-1-clause-value : goal.returns-in-1-clause-value
returns-in-1-clause-value c = words_same _ 1 _ c.in-1.is refl

pub returns-in-2-clause-value : goal.returns-in-2-clause-value
returns-in-2-clause-value c = words_same _ 2 _ c.in-2.is refl

pub returns-in-3-clause-value : goal.returns-in-3-clause-value
returns-in-3-clause-value c = words_same _ 3 _ c.in-3.is refl

pub returns-in-4-clause-value : goal.returns-in-4-clause-value
returns-in-4-clause-value c = words_same _ 4 _ c.in-4.is refl

pub returns-in-5-clause-value : goal.returns-in-5-clause-value
returns-in-5-clause-value c = words_same _ 5 _ c.in-5.is refl

pub returns-in-6-clause-value : goal.returns-in-6-clause-value
returns-in-6-clause-value c = words_same _ 6 _ c.in-6.is refl

pub returns-in-7-clause-value : goal.returns-in-7-clause-value
returns-in-7-clause-value c = words_same _ 7 _ c.in-7.is refl

pub returns-in-8-clause-value : goal.returns-in-8-clause-value
returns-in-8-clause-value c = words_same _ 8 _ c.in-8.is refl

pub returns-in-9-clause-value : goal.returns-in-9-clause-value
returns-in-9-clause-value c = words_same _ 9 _ c.in-9.is refl

pub returns-in-10-clause-value : goal.returns-in-10-clause-value
returns-in-10-clause-value c = words_same _ 10 _ c.in-10.is refl

pub returns-in_default-clause-value : goal.returns-in_default-clause-value
returns-in_default-clause-value c =
    words_same _ 11 _ (last-mark 10 c.args.mark c.requires.0 c.requires.1 c.in_default.in_default-own.rest) refl
