-- Both sides are prepared in the other order too.
use mathlib.Core.Path.{sym}
use Rattle.equivalence.specs.Keys.{BothPrepared}
use Rattle.equivalence.proofs.PreparedLaws.{both-kept}
use Rattle.extensions.proofs.measured.Measured.turned.Goals as goal

pub invariant_of-result : goal.invariant_of-result
invariant_of-result c =
    let p = c.args.self.now.pair in
    let S = both-kept p.both_prepared in
    let one = p.one_table in
    let S' : BothPrepared p.left.table.now p.right.words.now p.right.keys.now p.left.words.now p.left.keys.now =
    record { small = S.small; binary = S.binary; left = S.right; right = S.left } in
    record { one_table = sym one; both_prepared = ∣ rw one at S' ∣₁ }
