-- A cell of the table, and none for more terms than there are nodes.
use native.Mathlib.Omega.{arith}
use mathlib.Core.Path.{sym}
use Rattle.enumerating.proofs.CellLaws.{too_many}
use Rattle.enumerating.proofs.counts.cell_at.Goals as goal

pub returns-then-terms-lt-ARITIES : goal.returns-then-terms-lt-ARITIES
returns-then-terms-lt-ARITIES c = λ σ to t h. t c.args.nodes c.args.terms (omega arith) (omega arith)

pub returns-else-terms-lt-ARITIES : goal.returns-else-terms-lt-ARITIES
returns-else-terms-lt-ARITIES c = λ σ to t h. sym (too_many σ c.args.nodes c.args.terms (omega arith))
