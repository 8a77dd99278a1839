-- The counts are those of the parts times their factors, so the products compare as the counts do.
use mathlib.Core.Path.{◌∙◌}
use Rattle.symbols.specs.Table.{signature_of}
use Rattle.subterms.specs.Parts.{part_at}
use Rattle.scaling.proofs.SideLaws.{side-kept}
use Rattle.scaling.proofs.StoredLaws.{part-factor, factor-pos}
use Rattle.scaling.proofs.CountLaws.{counted-light, more-oftener}
use Rattle.scaling.proofs.parts.Part.first_oftener.Goals as goal

pub returns-clause-value : goal.returns-clause-value
returns-clause-value c =
    let s = c.args.self.now in
    let t = c.args.right.now in
    let σ = signature_of s.table.now in
    let S = side-kept σ s.side in
    let T = rw (← c.requires) at (side-kept (signature_of t.table.now) t.side) in
    let Q = rw (← c.requires) at t.ends in
    let n = rw (← c.requires) at c.count-2.ensures in
    c.first_more.ensures.value
    ∙ more-oftener σ (part_at σ s.words.now s.start) (part_at σ t.words.now t.start) _ _ _ _
    (factor-pos S s.ends).0 (factor-pos T Q).0 (rw (part-factor S s.ends) c.count.ensures.0)
    (rw (part-factor T Q) n.0)

pub first_more-requires : goal.first_more-requires
first_more-requires c =
    let s = c.args.self.now in
    let t = c.args.right.now in
    let S = side-kept (signature_of s.table.now) s.side in
    let T = side-kept (signature_of t.table.now) t.side in
    record {
      f_le_limit = ((factor-pos S s.ends).1, (factor-pos T t.ends).1);
      by_index = λ x h. (
        counted-light S s.ends c.count.new.counts c.count.ensures.0 x h,
        counted-light T t.ends c.count-2.new.counts c.count-2.ensures.0 x h,
      );
    }
