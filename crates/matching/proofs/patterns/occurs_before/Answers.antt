-- The word is found among the first n, or it is not there.
use Rattle.std.proofs.Common.{rules}
use Rattle.matching.proofs.BindingLaws.{occurs_told}
use Rattle.matching.proofs.patterns.occurs_before.Goals as goal

pub returns : goal.returns
returns c = search (rules, occurs_told)
