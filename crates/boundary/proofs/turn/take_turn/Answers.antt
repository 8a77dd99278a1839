-- Past the loop all jobs were looked at: the turn after the search is the definition's.
use mathlib.Core.Path.{◌≡◌}
use Prim.Native.Nat.{suc, ◌+◌}
use native.Mathlib.Omega.{arith}
use Rattle.std.proofs.lemmas.Result.{err_from_is_err_and}
use Rattle.scheduling.proofs.SearchLaws.{scanned-ready}
use Rattle.boundary.proofs.TurnLaws.{all-searched, turned-by, found-listed}
use Rattle.boundary.proofs.turn.take_turn.Goals as goal

pub take_next-requires : goal.take_next-requires
take_next-requires c =
    let a = c.args in
    let s = all-searched a.jobs.now a.buffer.now a.last _ _ (omega arith) (omega arith) c.loop-index.invariant in
    rw s (scanned-ready a.jobs.now a.buffer.now a.last)

pub returns-in_err-found : goal.returns-in_err-found
returns-in_err-found c =
    let a = c.args in
    let s = all-searched a.jobs.now a.buffer.now a.last _ _ (omega arith) (omega arith) c.loop-index.invariant in
    let t = turned-by a.jobs.now a.buffer.now a.marks.now a.last _ _ _ s
    (rw c.in_err-found.was at c.take_next.ensures.result_value) c.take_next.ensures.marks_after in
    let error = err_from_is_err_and c.from_residual.result c.from_residual.ensures.1 in
    rw (error.1, error.2) (record {
      result_value = t.reply;
      jobs_after = t.counted;
      marks_after = t.marked;
      small = omega (arith, rw c.in_err-found.was at c.take_next.ensures.small);
    })

pub returns-in_default : goal.returns-in_default
returns-in_default c =
    let a = c.args in
    let s = all-searched a.jobs.now a.buffer.now a.last _ _ (omega arith) (omega arith) c.loop-index.invariant in
    let t = turned-by a.jobs.now a.buffer.now a.marks.now a.last _ _ _ s
    (rw (c.in_ok-found.was, c.in_default.is) at c.take_next.ensures.result_value) c.take_next.ensures.marks_after in
    record { result_value = t.reply; jobs_after = t.counted; marks_after = t.marked; small = omega arith }

pub overflow_add-jobs : goal.overflow_add-jobs
overflow_add-jobs c =
    let a = c.args in
    let s = all-searched a.jobs.now a.buffer.now a.last _ _ (omega arith) (omega arith) c.loop-index.invariant in
    let k = found-listed a.jobs.now a.buffer.now a.marks.now a.last _ _ s
    (rw (c.in_ok-found.was, c.in-Some.is) at c.take_next.ensures.result_value) in
    record { fits = omega (arith, k) }

pub offset_bounds-jobs-found : goal.offset_bounds-jobs-found
offset_bounds-jobs-found c =
    let a = c.args in
    let s = all-searched a.jobs.now a.buffer.now a.last _ _ (omega arith) (omega arith) c.loop-index.invariant in
    let k = found-listed a.jobs.now a.buffer.now a.marks.now a.last _ _ s
    (rw (c.in_ok-found.was, c.in-Some.is) at c.take_next.ensures.result_value) in
    record { fits = omega (arith, k) }

pub bounds-jobs-found : goal.bounds-jobs-found
bounds-jobs-found c =
    let a = c.args in
    let s = all-searched a.jobs.now a.buffer.now a.last _ _ (omega arith) (omega arith) c.loop-index.invariant in
    (found-listed a.jobs.now a.buffer.now a.marks.now a.last _ _ s
    (rw (c.in_ok-found.was, c.in-Some.is) at c.take_next.ensures.result_value)).0

pub returns : goal.returns
returns c =
    let a = c.args in
    let s = all-searched a.jobs.now a.buffer.now a.last _ _ (omega arith) (omega arith) c.loop-index.invariant in
    let t = turned-by a.jobs.now a.buffer.now a.marks.now a.last _ _ _ s
    (rw (c.in_ok-found.was, c.in-Some.is) at c.take_next.ensures.result_value) c.take_next.ensures.marks_after in
    let one : c.in-Some.found.job.marked + 1 ≡ suc c.in-Some.found.job.marked = omega arith in
    record {
      result_value = t.reply;
      jobs_after = rw one t.counted;
      marks_after = t.marked;
      small = omega (arith, rw (c.in_ok-found.was, c.in-Some.is) at c.take_next.ensures.small);
    }
