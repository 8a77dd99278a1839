-- The terms after the first are put before what is pending, and the first before them; the count falls.
use native.Mathlib.Omega.{arith}
use Prim.Native.Nat.{◌+◌, ◌-◌}
use Rattle.equivalence.proofs.StepLaws.{step-next}
use Rattle.matching.specs.Agenda.{Pushed}
use Rattle.matching.proofs.AgendaLaws.{terms-more, keys-next}
use Rattle.matching.proofs.agenda.+push_terms.Goals as goal

pub push_terms-rest-requires : goal.push_terms-rest-requires
push_terms-rest-requires t c =
    let a = c.args in (
      omega (arith, c.decreases),
      (keys-next a.keys.now a.i a.n _ (omega arith) c.requires.in_keys c.size_at.ensures.0, omega arith),
    )

pub returns-clause-extended : goal.returns-clause-extended
returns-clause-extended t c σ ws P S =
    let a = c.push_terms-rest.ensures.pending_after in
    let pushed : Pushed c.push_terms-rest.new.nodes (c.args.pending.free + (c.args.n - 1)) c.args.i 0
    c.push_terms-rest.result.head c.push.new.nodes =
    rw (← a.0) c.push.ensures.pushed in
    rw (c.push.ensures.pending_after.1, a.0) (terms-more σ ws P S (omega arith) _ _ _ _ _ _ _ c.size_at.ensures.0
    (c.push_terms-rest.ensures.extended σ ws P (step-next P S (omega arith) c.size_at.ensures.0)) pushed)
