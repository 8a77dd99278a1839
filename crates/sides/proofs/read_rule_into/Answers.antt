-- The left side is stored, and the right side where it ends, with the variables that the left one leaves unused.
use Rattle.std.proofs.lemmas.Result.{err_from_is_err_and}
use native.Mathlib.Omega.{arith}
use Rattle.format.specs.Reading.{bit_source}
use Rattle.bits.specs.Cursor.{told}
use Rattle.sides.proofs.SideLaws.{left-fault, right-stored, within_wider}
use Rattle.sides.proofs.read_rule_into.Goals as goal

pub returns-in_err-middle : goal.returns-in_err-middle
returns-in_err-middle c =
    let a = c.args in
    let error = err_from_is_err_and c.from_residual.result c.from_residual.ensures.1 in
    rw (error.1, error.2) (record {
      words_read = λ σ k plain. left-fault (bit_source a.book.bytes.now) a.unused σ plain a.cursor.at a.index
          a.words.now _ a.words.now (rw c.in_err-middle.was at (c.read_side_into.ensures.side_stored σ k));
      within = tt;
    })

pub returns : goal.returns
returns c =
    let a = c.args in
    let read = c.in_ok-middle.was in
    let within = rw read at c.read_side_into.ensures.within in record {
      words_read = λ σ k plain. right-stored (bit_source a.book.bytes.now) a.unused σ plain a.cursor.at a.index
          a.words.now _ _
          c.read_side_into.new.words c.read_side_into.new.unused
          (rw read at (c.read_side_into.ensures.side_stored σ k))
          c.read_side_into.auto.words (told c.read_side_into-2.result) c.read_side_into-2.new.words
          c.read_side_into-2.new.unused
          (c.read_side_into-2.ensures.side_stored σ k);
      within = within_wider _ _ _ (omega (arith, within.0)) (told c.read_side_into-2.result)
          c.read_side_into-2.ensures.within;
    }

pub read_side_into-requires-2 : goal.read_side_into-requires-2
read_side_into-requires-2 c =
    let within = rw c.in_ok-middle.was at c.read_side_into.ensures.within in
    record {
      cursor_bound = (within.1, omega (arith, within.0));
      unused_bound = omega (arith, c.read_side_into.ensures.unused_bound_2);
    }
