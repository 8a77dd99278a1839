-- The second piece is stored before what is pending, and the first before it.
use Prim.Native.Nat.{◌+◌}
use Rattle.matching.specs.Agenda.{Pushed}
use Rattle.matching.proofs.AgendaLaws.{sums-extended}
use Rattle.matching.proofs.agenda.push_sums.Goals as goal

pub returns-clause-extended : goal.returns-clause-extended
returns-clause-extended c =
    let a = c.push-after.ensures.pending_after in
    let first = c.piece_of-first.result in
    let pushed : Pushed c.push-after.new.nodes (c.args.pending.free + 1) first.offset first.mask
    c.args.pending.free c.push.new.nodes =
    rw (← a.0, ← a.1) c.push.ensures.pushed in
    rw (c.push.ensures.pending_after.1, a.0) (sums-extended _ _ _ _ _ _ _ _ _ _ c.told-nodes
    c.requires.piece.4 _ _ c.piece_of-last.ensures c.push-after.ensures.pushed _ _ c.piece_of-first.ensures pushed)
