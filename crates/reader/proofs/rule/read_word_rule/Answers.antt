-- A rule is two terms, the second with the variables that the first leaves unused.
use Rattle.std.proofs.lemmas.Result.{err_from_is_err_and}
use mathlib.Core.Path.{sym, ap, ◌∙◌}
use native.Mathlib.Omega.{arith}
use Rattle.format.specs.Layout.{max_nodes}
use Rattle.answers.specs.Answer.{reading, end_of}
use Rattle.words.proofs.TermLaws.{terms-end}
use Rattle.reader.proofs.RuleLaws.{rule-unread, rule-half, rule-whole}
use Rattle.reader.proofs.rule.read_word_rule.Goals as goal

pub returns-in_err-used : goal.returns-in_err-used
returns-in_err-used c σ table plain =
    let a = c.args in
    let error = err_from_is_err_and c.from_residual.result c.from_residual.ensures.1 in
    rw (error.1, error.2) (sym (ap end_of (rule-unread a.sheet.now a.unused σ plain a.at _ _
    (sym (c.term.ensures.value σ table) ∙ ap reading c.in_err-used.was))))

pub term-requires-2 : goal.term-requires-2
term-requires-2 c =
    let a = c.args in
    let (σ, table, plain) = c.requires.arities in
    let left = sym (c.term.ensures.value σ table) ∙ ap reading c.in_ok-used.was in (
      omega (arith, terms-end a.sheet.now σ a.unused max_nodes 1 a.at _ _ left),
      omega (arith, rw c.in_ok-used.was at c.term.ensures.below),
      omega arith,
    )

pub returns-in_err-end : goal.returns-in_err-end
returns-in_err-end c σ table plain =
    let a = c.args in
    let error = err_from_is_err_and c.from_residual-in_err-end.result c.from_residual-in_err-end.ensures.1 in
    rw (error.1, error.2) (sym (ap end_of (rule-half a.sheet.now a.unused σ plain a.at _ _
    (sym (c.term.ensures.value σ table) ∙ ap reading c.in_ok-used.was) _ _
    (sym (c.term-2.ensures.value σ table) ∙ ap reading c.in_err-end.was))))

pub returns : goal.returns
returns c σ table plain =
    let a = c.args in
    sym (ap end_of (rule-whole a.sheet.now a.unused σ plain a.at _ _
    (sym (c.term.ensures.value σ table) ∙ ap reading c.in_ok-used.was) _ _
    (sym (c.term-2.ensures.value σ table) ∙ ap reading c.in_ok-end.was)).1)
