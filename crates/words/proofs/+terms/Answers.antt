-- Each return is a case of the definition; the last one is the definition's own call, with one node fewer allowed.
use native.Mathlib.Omega.{arith}
use mathlib.Core.Path.{sym, ap, ◌∙◌}
use Prim.Native.Nat.{ℕ, ◌+◌, ◌-◌}
use lib.ListN.{length, get_or}
use Rattle.words.proofs.TermLaws.{terms-none, terms-ended, terms-node, node-faulty, node-good, before-stop}
use Rattle.words.proofs.+terms.Goals as goal

pub returns-then-owed-eq0 : goal.returns-then-owed-eq0
returns-then-owed-eq0 t c =
    let a = c.args in rw c.requires.no_error (record {
      at_after = λ σ table unused e. terms-none a.words.now unused σ (a.limit - a.at.now) a.owed a.at.now _
          c.if-owed-eq0.true (omega arith);
      below = omega arith;
      le_lowest = (c.requires.at_bound.1, c.requires.at_bound.2);
    })

pub returns-then-stop-here : goal.returns-then-stop-here
returns-then-stop-here t c =
    let a = c.args in record {
      at_after = λ σ table unused e. terms-ended a.words.now unused σ a.limit a.owed a.at.now a.stop
          c.requires.at_le_limit.2 c.if-stop-here.true c.requires.at_le_limit.0
          (omega arith) _ c.end_error.ensures;
      below = tt;
      le_lowest = (c.requires.at_bound.1, c.requires.at_bound.2);
    }

pub returns-in-Err : goal.returns-in-Err
returns-in-Err t c =
    let a = c.args in
    let (inside, some, least, fewer) = before-stop a.at.now a.limit (length a.words.now) a.stop
    c.requires.at_le_limit.2 c.if-stop-here.false in
    record {
      at_after = λ σ table unused e. node-faulty a.words.now unused σ (a.limit - a.at.now) a.owed a.at.now some
          (omega arith) inside a.arities.now table a.lowest.now e _
          (sym c.check_node.ensures ∙ c.in-Err.is);
      below = tt;
      le_lowest = (c.requires.at_bound.1, c.requires.at_bound.2);
    }

pub returns-in-Ok : goal.returns-in-Ok
returns-in-Ok t c =
    let a = c.args in
    let (small, known, turn) = node-good a.arities.now a.lowest.now (get_or a.words.now a.at.now 0)
    (sym c.check_node.ensures ∙ c.in-Ok.is) in
    let (inside, some, least, fewer) = before-stop a.at.now a.limit (length a.words.now) a.stop
    c.requires.at_le_limit.2 c.if-stop-here.false in
    let cells = c.cell_at-cell.ensures.0 in record {
      at_after = λ σ table unused e.
          let used = c.unused_after.ensures.by_index unused e in
          rw fewer at (c.terms.ensures.at_after σ table _ used)
          ∙ terms-node a.words.now unused σ (a.limit - a.at.now) a.owed a.at.now some (omega arith)
          inside small a.arities.now table known (omega (arith, turn, e)) _
          (ap (λ (k : ℕ). k - 1 + (a.owed - 1)) cells);
      below = c.terms.ensures.below;
      le_lowest = c.terms.ensures.le_lowest;
    }
