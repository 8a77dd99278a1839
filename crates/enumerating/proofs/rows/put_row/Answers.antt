-- The loop keeps: the first `i` words of the row are stored.
use mathlib.Core.Path.{ap, ◌∙◌}
use native.Mathlib.Omega.{arith}
use lib.Seq.{take_all, sets}
use Rattle.enumerating.proofs.RowLaws.{put-more}
use Rattle.enumerating.proofs.rows.put_row.Goals as goal

pub loop-i-preserved : goal.loop-i-preserved
loop-i-preserved c =
    put-more c.args.out.now c.loop-i.out c.args.row.now c.args.at c.loop-i.i c.loop-i.invariant (omega arith)

pub returns : goal.returns
returns c = c.loop-i.invariant ∙ ap (sets c.args.out.now c.args.at) (take_all c.loop-i.i c.args.row.now (omega arith))
