-- The sums over the words from i on are those over the part at i and over the words after the part.
use Rattle.equivalence.proofs.PreparedLaws.{prepared-kept}
use Rattle.measures.proofs.SumLaws.{part-sums}
use Rattle.measures.proofs.sums.total_at.Goals as goal

pub bounds-sums-i-2 : goal.bounds-sums-i-2
bounds-sums-i-2 c =
    let P = prepared-kept c.args.term.now.prepared in
    (part-sums P c.args.i c.requires.i_in_bounds c.requires.summed_up c.size_at.ensures.0).room

pub sub-requires : goal.sub-requires
sub-requires c =
    let P = prepared-kept c.args.term.now.prepared in
    (part-sums P c.args.i c.requires.i_in_bounds c.requires.summed_up c.size_at.ensures.0).can_take

pub returns : goal.returns
returns c =
    let P = prepared-kept c.args.term.now.prepared in
    let q = part-sums P c.args.i c.requires.i_in_bounds c.requires.summed_up c.size_at.ensures.0 in
    rw c.sub.ensures (record { weight_value = q.weight; counted = q.counted })
