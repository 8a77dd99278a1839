-- Where the variables come in any order the stored rule is renumbered; elsewhere it stays as it was read.
use Rattle.reader.proofs.RuleLaws.{rule-renumbered}
use Rattle.reader.proofs.rule.read_packed_rule.Goals as goal

pub returns-then-form-eq-FIRST_FORM-clause-words_read : goal.returns-then-form-eq-FIRST_FORM-clause-words_read
returns-then-form-eq-FIRST_FORM-clause-words_read c σ k plain =
    let a = c.args in
    rule-renumbered a.book.bytes.now a.form σ a.cursor.at a.index a.words.now
    c.read_rule_into.new.words c.renumber.new.words _ _ c.if-form-eq-FIRST_FORM.true
    (rw (c.in_ok-end.was, c.unused_at_start-unused.ensures.0) at (c.read_rule_into.ensures.words_read σ k plain))
    c.renumber.ensures
