-- The loop keeps: the rules so far are read, and their words stored.
use Rattle.std.proofs.lemmas.Result.{err_from_is_err_and}
use mathlib.Core.Path.{refl, ◌∙◌}
use native.Mathlib.Omega.{arith}
use Rattle.format.specs.Reading.{bit_source}
use Rattle.reader.proofs.RuleLaws.{so-far-none, so-far-fault, so_far_more, so-far-done}
use Rattle.reader.proofs.rule.read_packed_rules.Goals as goal

pub loop-number-init : goal.loop-number-init
loop-number-init c =
    let a = c.args in (
      refl,
      omega arith,
      c.requires.0,
      λ σ k plain. so-far-none a.form (bit_source a.book.bytes.now) σ a.count a.cursor.at 0 a.words.now,
    )

pub read_packed_rule-requires : goal.read_packed_rule-requires
read_packed_rule-requires c =
    let v = c.loop-number.invariant in (v.2, omega arith)

pub returns-in_err-past : goal.returns-in_err-past
returns-in_err-past c σ k plain =
    let a = c.args in
    let l = c.loop-number in
    let error = err_from_is_err_and c.from_residual.result c.from_residual.ensures.1 in
    rw (error.1, error.2) (so-far-fault a.form (bit_source a.book.bytes.now) σ a.count a.cursor.at 0 a.words.now
    l._number l.here.at l.end l.words (omega arith) (l.invariant.3 σ k plain) c.in_err-past.field-0.0
    c.read_packed_rule.new.words
    (rw c.in_err-past.was at (c.read_packed_rule.ensures.words_read σ k plain)))

pub loop-number-preserved : goal.loop-number-preserved
loop-number-preserved c =
    let a = c.args in
    let l = c.loop-number in
    let v = c.loop-number.invariant in
    let within = rw c.in_ok-past.was at c.read_packed_rule.ensures.within in (
      c.read_packed_rule.auto.words ∙ v.0,
      omega (arith, within.0),
      within.1,
      λ σ k plain. so_far_more a.form (bit_source a.book.bytes.now) σ a.count a.cursor.at 0 a.words.now
          l._number l.here.at l.end l.words (omega arith) (v.3 σ k plain) _ _ c.read_packed_rule.new.words v.0
          (rw c.in_ok-past.was at (c.read_packed_rule.ensures.words_read σ k plain)),
    )

pub returns : goal.returns
returns c σ k plain =
    let a = c.args in
    let l = c.loop-number in
    so-far-done a.form (bit_source a.book.bytes.now) σ a.count a.cursor.at 0 a.words.now l.end
    l.here.at l.words l._number (omega arith) (l.invariant.3 σ k plain)
