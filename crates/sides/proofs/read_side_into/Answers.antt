-- The side is read into an array and stored from there.
use Rattle.std.proofs.lemmas.Result.{err_from_is_err_and}
use native.Mathlib.Omega.{arith}
use lib.ListN.{take}
use lib.Seq.{length-take-le}
use Rattle.sides.proofs.SideLaws.{side-stored, sides}
use Rattle.sides.proofs.read_side_into.Goals as goal

pub returns-in_err-count : goal.returns-in_err-count
returns-in_err-count c =
    let error = err_from_is_err_and c.from_residual.result c.from_residual.ensures.1 in
    rw (error.1, error.2) (record {
      side_stored = λ σ k. rw c.in_err-count.was at (c.read_side.ensures.side_read σ k);
      within = tt;
      unused_bound_2 = c.read_side.ensures.words_len_2.1;
    })

pub put_words-requires : goal.put_words-requires
put_words-requires c =
    let within = rw c.in_ok-count.was at c.read_side.ensures.within in
    let some = length-take-le c.in_ok-count.count c.read_side.new.words (omega (
      arith,
      within,
      c.read_side.ensures.words_len_2,
    )) in
    omega (arith, within, some)

pub overflow_add-result : goal.overflow_add-result
overflow_add-result c =
    omega (arith, rw c.in_ok-count.was at c.read_side.ensures.within)

pub returns : goal.returns
returns c =
    let a = c.args in
    let n = c.in_ok-count.count in
    let words = c.read_side.new.words in
    let within = rw c.in_ok-count.was at c.read_side.ensures.within in
    let long = length-take-le n words (omega (arith, within, c.read_side.ensures.words_len_2)) in record {
      side_stored = λ σ k. side-stored a.unused.now _ a.index a.words.now (take n words) _ _ _ _
          (rw c.in_ok-count.was at (c.read_side.ensures.side_read σ k)) (omega (
            arith,
            long,
          )) c.put_words.ensures.words_after;
      within = (omega (arith, within), within.1);
      unused_bound_2 = c.read_side.ensures.words_len_2.1;
    }

pub slice_bounds-side-end : goal.slice_bounds-side-end
slice_bounds-side-end c = search sides

pub slice_bounds-put_words-end : goal.slice_bounds-put_words-end
slice_bounds-put_words-end c = search sides
