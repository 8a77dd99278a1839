-- A job that was found has its book in the buffer, and a rule for its count.
use mathlib.Core.Path.{◌≡◌, sym, ◌∙◌}
use Prim.Native.Nat.{◌+◌, ◌-◌}
use native.Mathlib.Omega.{arith}
use Rattle.operations.specs.Jobs.{book_of}
use Rattle.seeking.proofs.OneLaws.{found_within}
use Rattle.scheduling.proofs.StandingLaws.{allowed-numbers, left-few}
use Rattle.scheduling.proofs.Search.take_next.Goals as goal

pub overflow_mul-self : goal.overflow_mul-self
overflow_mul-self c =
    let few = allowed-numbers _ _ (sym c.is_allowed.ensures ∙ c.if-not-is_allowed.false) in
    record { fits = omega arith }

pub overflow_add-book : goal.overflow_add-book
overflow_add-book c =
    let ready = c.requires _ c.in-Some-next.is in
    record { fits = omega (arith, ready.within, c.well_formed) }

pub slice_bounds-book-end : goal.slice_bounds-book-end
slice_bounds-book-end c = (c.requires _ c.in-Some-next.is).within

pub mark_at-requires : goal.mark_at-requires
mark_at-requires c =
    let f = c.in-Some-next.found in
    let same : f.job.start + f.job.length - f.job.start ≡ f.job.length = omega arith in
    rw same (found_within (book_of c.args.buffer.now f.job) f.job.marked f.at (c.requires _ c.in-Some-next.is).begins)

pub overflow_add-marks : goal.overflow_add-marks
overflow_add-marks c =
    let few = allowed-numbers _ _ (sym c.is_allowed.ensures ∙ c.if-not-is_allowed.false) in
    let ready = c.requires _ c.in-Some-next.is in
    let below = left-few c.args.buffer.now c.in-Some-next.found.job ready.unfinished in
    record { fits = omega (arith, ready.listed) }

pub bounds-marks-found : goal.bounds-marks-found
bounds-marks-found c =
    let ready = c.requires _ c.in-Some-next.is in
    let below = left-few c.args.buffer.now c.in-Some-next.found.job ready.unfinished in
    omega (arith, ready.listed, c.if-marks-self.false)

pub returns-clause-small : goal.returns-clause-small
returns-clause-small c =
    let few = allowed-numbers _ _ (sym c.is_allowed.ensures ∙ c.if-not-is_allowed.false) in omega arith

pub returns-2-clause-small : goal.returns-2-clause-small
returns-2-clause-small c =
    let few = allowed-numbers _ _ (sym c.is_allowed.ensures ∙ c.if-not-is_allowed.false) in
    let ready = c.requires _ c.in-Some-next.is in omega (arith, ready.listed)
