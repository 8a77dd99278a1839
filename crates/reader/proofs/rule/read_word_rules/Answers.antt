-- The loop keeps: the rules so far are read, and the others are read from here on.
use Rattle.std.proofs.lemmas.Result.{err_from_is_err_and}
use native.Mathlib.Omega.{arith}
use mathlib.Core.List.{[], ◌∷◌, ◌++◌}
use mathlib.Core.Path.{sym, ap, ◌∙◌}
use Rattle.format.specs.Reading.{word_source}
use Rattle.format.specs.Format.{Sides, rule_reader}
use Rattle.answers.specs.Answer.{end_of, ended}
use Rattle.reader.proofs.RuleLaws.{done_none, done-fault, done_more, done_all, rule_end, end-fault, end-got}
use Rattle.reader.proofs.rule.read_word_rules.Goals as goal

pub loop-number-init : goal.loop-number-init
loop-number-init c =
    let a = c.args in (omega arith, λ σ k plain. ([], done_none (word_source a.sheet.now) a.unused σ a.count a.at))

pub read_word_rule-requires-clause-at_bound : goal.read_word_rule-requires-clause-at_bound
read_word_rule-requires-clause-at_bound c = (omega arith, omega arith)

pub returns-in_err-here : goal.returns-in_err-here
returns-in_err-here c σ table plain =
    let a = c.args in
    let l = c.loop-number in
    let (done, so) = l.invariant.1 σ table plain in
    let rule = rule_reader (word_source a.sheet.now) a.unused σ l.here in
    let read = end-fault (λ (s : Sides). 0) rule _ _ (sym (c.read_word_rule.ensures σ table plain)
    ∙ ap ended c.in_err-here.was) in
    let error = err_from_is_err_and c.from_residual.result c.from_residual.ensures.1 in
    rw (error.1, error.2) (sym (ap end_of (done-fault (word_source a.sheet.now) a.unused σ a.count a.at l._number l.here
    done so (omega arith) _ _ read)))

pub loop-number-preserved : goal.loop-number-preserved
loop-number-preserved c =
    let a = c.args in
    let l = c.loop-number in
    let (τ, cells, small) = c.requires.arities in
    let source = word_source a.sheet.now in
    let (q, got-q, none) = end-got (λ (s : Sides). 0) (rule_reader source a.unused τ l.here) _ _
    (sym (c.read_word_rule.ensures τ cells small) ∙ ap ended c.in_ok-here.was) in (
      omega (arith, rule_end a.sheet.now a.unused τ small l.here q _ got-q),
      λ σ table plain.
          let (done, so) = l.invariant.1 σ table plain in
          let (r, got-r, none) = end-got (λ (s : Sides). 0) (rule_reader source a.unused σ l.here) _ _
          (sym (c.read_word_rule.ensures σ table plain) ∙ ap ended c.in_ok-here.was) in (
            done ++ (r ∷ []),
            done_more source a.unused σ a.count a.at l._number l.here done so (omega arith) r _ got-r,
          ),
    )

pub returns : goal.returns
returns c σ table plain =
    let a = c.args in
    let l = c.loop-number in
    let (done, so) = l.invariant.1 σ table plain in
    sym (ap end_of (done_all (word_source a.sheet.now) a.unused σ a.count a.at l._number l.here done so (omega arith)))
