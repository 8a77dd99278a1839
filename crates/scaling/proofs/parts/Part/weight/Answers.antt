-- The sums differ by the part's weight times its factor, which is not 0.
use native.Mathlib.Omega.{arith}
use Rattle.symbols.specs.Table.{signature_of}
use Rattle.scaling.proofs.SideLaws.{side-kept}
use Rattle.scaling.proofs.StoredLaws.{part_end, factor-pos, part-sum, part-weight}
use Rattle.scaling.proofs.parts.Part.weight.Goals as goal

pub offset_bounds-self-self : goal.offset_bounds-self-self
offset_bounds-self-self c =
    let v = c.args.self.now in
    let S = side-kept (signature_of v.table.now) v.side in omega (arith, v.ends.inside, S.term.short)

pub bounds-self-self : goal.bounds-self-self
bounds-self-self c =
    let v = c.args.self.now in
    let S = side-kept (signature_of v.table.now) v.side in omega (arith, v.ends.inside, S.term.short)

pub offset_bounds-self-self-2 : goal.offset_bounds-self-self-2
offset_bounds-self-self-2 c =
    let v = c.args.self.now in
    let S = side-kept (signature_of v.table.now) v.side in omega (arith, part_end S v.ends, S.term.short)

pub bounds-self-self-2 : goal.bounds-self-self-2
bounds-self-self-2 c =
    let v = c.args.self.now in
    let S = side-kept (signature_of v.table.now) v.side in omega (arith, part_end S v.ends, S.term.short)

pub overflow_sub-result : goal.overflow_sub-result
overflow_sub-result c =
    let v = c.args.self.now in
    let S = side-kept (signature_of v.table.now) v.side in omega (arith, part-sum S v.ends)

pub nonzero_div-result : goal.nonzero_div-result
nonzero_div-result c =
    let v = c.args.self.now in
    let S = side-kept (signature_of v.table.now) v.side in omega (arith, (factor-pos S v.ends).0)

pub returns : goal.returns
returns c =
    let v = c.args.self.now in part-weight (side-kept (signature_of v.table.now) v.side) v.ends
