-- The words before the part are copied, the instance is put after them, and the words after the part are copied.
use native.Mathlib.Omega.{arith}
use Rattle.equivalence.proofs.PreparedLaws.{prepared-kept}
use Rattle.pieces.proofs.ResultLaws.{part-fits, rest-room, put-parts}
use Rattle.pieces.proofs.results.put_result.Goals as goal

pub slice_bounds-extend-count : goal.slice_bounds-extend-count
slice_bounds-extend-count c =
    omega (arith, part-fits (prepared-kept c.args.term.now.prepared) c.requires.fact c.size_at.ensures.0)

pub slice_bounds-extend-start : goal.slice_bounds-extend-start
slice_bounds-extend-start c =
    omega (arith, part-fits (prepared-kept c.args.term.now.prepared) c.requires.fact c.size_at.ensures.0)

pub extend-requires-2 : goal.extend-requires-2
extend-requires-2 c =
    rest-room (prepared-kept c.args.term.now.prepared) c.requires.fact c.size_at.ensures.0 _ c.extend.ensures.after
    c.put_instance.ensures.after c.requires.room

pub returns : goal.returns
returns c =
    put-parts (prepared-kept c.args.term.now.prepared) c.requires.fact c.size_at.ensures.0 c.extend.ensures
    c.put_instance.ensures c.extend-2.ensures
