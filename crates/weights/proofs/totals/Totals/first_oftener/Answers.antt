-- The first digit that is greater is that of the first variable that occurs oftener, in the first half or the second.
use native.Mathlib.Omega.{arith}
use Rattle.weights.proofs.OccurrenceLaws.{counts-small, counted-low, counted-high, counted_none}
use Rattle.weights.proofs.totals.Totals.first_oftener.Goals as goal

pub first_greater-requires : goal.first_greater-requires
first_greater-requires c = let (A, B) = c.requires in ((counts-small A).0, (counts-small B).0)

pub returns-in-Some-clause-value : goal.returns-in-Some-clause-value
returns-in-Some-clause-value c = λ σ o s t A B. counted-low σ o A B c.in-Some.ensures.value c.in-Some.ensures.below

pub first_greater-requires-2 : goal.first_greater-requires-2
first_greater-requires-2 c = let (A, B) = c.requires in ((counts-small A).1, (counts-small B).1)

pub returns-in_err-high-clause-value : goal.returns-in_err-high-clause-value
returns-in_err-high-clause-value c =
    let low = c.in_default.ensures.value in
    let high = (c.in_err-high.ensures).value in
    λ σ o s t A B. rw c.from_residual.ensures (counted_none σ o A B low high (omega arith) (omega arith))

pub returns-clause-value : goal.returns-clause-value
returns-clause-value c =
    let low = c.in_default.ensures.value in
    let high = (c.in_ok-high.ensures).value in
    λ σ o s t A B. counted-high σ o A B low high (omega arith)
