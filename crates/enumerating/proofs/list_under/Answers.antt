-- Each refusal is tested in its turn; then all rows of one term are stored after no front.
use mathlib.Core.Path.{◌∙◌, sym}
use native.Mathlib.Omega.{arith}
use lib.ListN.{replicate}
use lib.Seq.{length-take-le}
use Rattle.symbols.specs.Table.{signature_of}
use Rattle.operations.specs.Replies.Reply.{refused}
use Rattle.enumerating.proofs.ReplyLaws.{Gives, size-range, list-outside, list-more, list-short, list-none, list-ready, list_done}
use Rattle.enumerating.proofs.list_under.Goals as goal
use Rattle.enumerating.proofs.list_under.Goals.{then-number-gt-MAX_TERMS-via-then-number-gt-MAX_TERMS as too_many, then-number-gt-MAX_TERMS-via-else-number-gt-MAX_TERMS+then-words-words_of as too_short}

pub returns-then-not-is_size : goal.returns-then-not-is_size
returns-then-not-is_size c =
    let size = sym c.is_size.ensures ∙ c.if-not-is_size.true in
    let (r, o) = list-outside (signature_of c.args.table.now) c.args.n c.args.words.now size in
    record {
      result_value = r;
      words_after = o;
    }

pub at-number-requires : goal.at-number-requires
at-number-requires c =
    omega (arith, (size-range c.args.n (sym c.is_size.ensures ∙ c.if-not-is_size.false)).1)

pub words_of-requires : goal.words_of-requires
words_of-requires c =
    ((size-range c.args.n (sym c.is_size.ensures ∙ c.if-not-is_size.false)).1, omega arith)

pub returns-then-number-gt-MAX_TERMS : goal.returns-then-number-gt-MAX_TERMS
returns-then-number-gt-MAX_TERMS c =
    let σ = signature_of c.args.table.now in
    let size = sym c.is_size.ensures ∙ c.if-not-is_size.false in
    let cell = rw c.new-counts.ensures at c.at-number.ensures in
    let both : Gives σ c.args.n c.args.words.now (refused (record { code = 23; input = 1; offset = 0 })) c.args.words.now =
    elim c.then-number-gt-MAX_TERMS.branch [
      | too_many w ↦ list-more σ c.args.n c.args.words.now size c.at-number.result cell (omega arith)
      | too_short w ↦
          list-short σ c.args.n c.args.words.now size c.at-number.result cell (omega arith)
          (omega (arith, w.words_of.ensures))
    ] in
    record {
      result_value = both.0;
      words_after = both.1;
    }

pub returns-then-number-eq0 : goal.returns-then-number-eq0
returns-then-number-eq0 c =
    let σ = signature_of c.args.table.now in
    let size = sym c.is_size.ensures ∙ c.if-not-is_size.false in
    let cell = rw c.new-counts.ensures at c.at-number.ensures in
    let none = list-none σ c.args.n c.args.words.now size c.at-number.result cell (omega arith) (omega arith) in
    record {
      result_value = none.0;
      words_after = none.1;
    }

pub walk-requires : goal.walk-requires
walk-requires c =
    let σ = signature_of c.args.table.now in
    let size = sym c.is_size.ensures ∙ c.if-not-is_size.false in
    let cell = rw c.new-counts.ensures at c.at-number.ensures in
    rw c.new-counts.ensures
    (list-ready σ c.args.n c.args.words.now size c.at-number.result cell (omega arith)
    (omega (arith, c.words_of.ensures)) _ (length-take-le c.args.n (replicate 7 0) (size-range c.args.n size).1))

pub returns : goal.returns
returns c =
    let σ = signature_of c.args.table.now in
    let size = sym c.is_size.ensures ∙ c.if-not-is_size.false in
    let cell = rw c.new-counts.ensures at c.at-number.ensures in
    let done = list_done σ c.args.n c.args.words.now size c.at-number.result cell (omega arith)
    (omega (arith, c.words_of.ensures)) _ (length-take-le c.args.n (replicate 7 0) (size-range c.args.n size).1) _ _ _ _
    (rw c.new-counts.ensures at c.walk.ensures) in
    record {
      result_value = done.0;
      words_after = done.1;
    }
