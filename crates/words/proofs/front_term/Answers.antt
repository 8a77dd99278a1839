-- The words read stand at the front, so all of them are read where the end is their end.
use Rattle.std.proofs.lemmas.Result.{err_from_is_err_and}
use mathlib.Core.Path.{sym, ap, ◌∙◌}
use native.Mathlib.Omega.{arith}
use Rattle.answers.specs.Answer.{reading}
use Rattle.words.proofs.TermLaws.{front-light, front-fault, front-whole, front_read, front-longer}
use Rattle.words.proofs.front_term.Goals as goal

pub returns-in_err-end : goal.returns-in_err-end
returns-in_err-end c σ table plain =
    let a = c.args in
    let error = err_from_is_err_and c.from_residual.result c.from_residual.ensures.1 in
    rw (error.1, error.2) (front-fault a.words.now σ a.extent _ _
    (front-light a.words.now σ plain ∙ sym (c.term.ensures.value σ table) ∙ ap reading c.in_err-end.was))

pub returns-in-Whole : goal.returns-in-Whole
returns-in-Whole c σ table plain =
    rw c.in-Whole.is (front-longer c.args.words.now σ _ _
    (front-light c.args.words.now σ plain ∙ sym (c.term.ensures.value σ table) ∙ ap reading c.in_ok-end.was)
    (omega arith))

pub returns-in-Whole-2 : goal.returns-in-Whole-2
returns-in-Whole-2 c σ table plain =
    rw c.in-Whole-2.is (front-whole c.args.words.now σ _ _
    (front-light c.args.words.now σ plain ∙ sym (c.term.ensures.value σ table) ∙ ap reading c.in_ok-end.was)
    (omega arith))

pub returns-in-Front : goal.returns-in-Front
returns-in-Front c σ table plain =
    rw c.in-Front.is (front_read c.args.words.now σ _ _
    (front-light c.args.words.now σ plain ∙ sym (c.term.ensures.value σ table) ∙ ap reading c.in_ok-end.was))
