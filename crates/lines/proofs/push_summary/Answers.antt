-- The score's line is pushed, and the verdict that the counts call for.
use borrow.Author.Tests.{eq-eqb, ne_eqb}
use Rattle.lines.proofs.LineLaws.{pushed-verdict}
use Rattle.lines.proofs.push_summary.Goals as goal
use Rattle.lines.proofs.push_summary.Goals.{then-decreasing-rules, else-decreasing-rules}

pub returns-clause-pushed : goal.returns-clause-pushed
returns-clause-pushed c =
    let rules = c.args.rules in
    let decreasing = c.args.decreasing in
    let verdict = pushed-verdict rules decreasing c.score.result in
    elim c.if-decreasing-rules.branch [
      | then-decreasing-rules w ↦ verdict "accepted" c.score.ensures.value
          (rw (eq-eqb decreasing rules w.if-decreasing-rules.true)) c.push_count.ensures.pushed
          (rw w.verdict-is at c.push_bytes.ensures)
      | else-decreasing-rules w ↦ verdict "returned" c.score.ensures.value
          (rw (ne_eqb decreasing rules w.if-decreasing-rules.false)) c.push_count.ensures.pushed
          (rw w.verdict-is at c.push_bytes.ensures)
    ]
