-- The loop keeps: the rules before `_i` are read, and the next one begins at `here`.
use mathlib.Core.List.{[], ◌∷◌, ◌++◌}
use mathlib.Core.Path.{◌≡◌}
use native.Mathlib.Omega.{arith}
use Rattle.std.proofs.lemmas.Result.{err_from_is_err_and}
use Rattle.format.specs.Layout.{form_number}
use Rattle.format.specs.Reading.{bit_source}
use Rattle.format.specs.Forms.{unused_of}
use Rattle.reader.proofs.RuleLaws.{done_none, done-fault, done_more}
use Rattle.seeking.proofs.skip_rules.Goals as goal

pub loop-i-init : goal.loop-i-init
loop-i-init c = record {
  within = c.requires;
  read = λ σ k plain total h.
      ([], done_none (bit_source c.args.book.bytes.now) (unused_of form_number) σ total c.args.cursor.at);
}

pub returns-in_err-here-clause-rules_skipped : goal.returns-in_err-here-clause-rules_skipped
returns-in_err-here-clause-rules_skipped c σ k plain =
    let a = c.args in
    let l = c.loop-i in
    let error = err_from_is_err_and c.from_residual.result c.from_residual.ensures.1 in
    rw (error.1, error.2) (λ total h. let (done, d) = l.invariant.read σ k plain total h in
    done-fault (bit_source a.book.bytes.now) (unused_of form_number) σ total a.cursor.at l._i l.here.at done
    d (omega (arith, c.loop-i-test.true)) _ _ (rw c.in_err-here.was at (c.skip_rule.ensures.rule_skipped σ k plain)))

pub loop-i-preserved : goal.loop-i-preserved
loop-i-preserved c =
    let a = c.args in
    let l = c.loop-i in
    record {
      within = rw c.in_ok-here.was at c.skip_rule.ensures.within;
      read = λ σ k plain total h. let (done, d) = l.invariant.read σ k plain total h in
          let (r, read) = rw c.in_ok-here.was at (c.skip_rule.ensures.rule_skipped σ k plain) in (
            done ++ (r ∷ []),
            done_more (bit_source a.book.bytes.now) (unused_of form_number) σ total a.cursor.at l._i l.here.at done
                d (omega (arith, c.loop-i-test.true)) r _ read,
          );
    }

pub returns-clause-rules_skipped : goal.returns-clause-rules_skipped
returns-clause-rules_skipped c σ k plain total h =
    let l = c.loop-i in
    let e : l._i ≡ c.args.count = omega (arith, c.loop-i-test.false) in
    let (done, d) = l.invariant.read σ k plain total h in (done, rw (← e) d)
