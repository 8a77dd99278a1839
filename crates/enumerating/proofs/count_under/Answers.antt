-- A size out of range is refused, and the cell of one term and n nodes is told.
use mathlib.Core.Path.{sym, ◌∙◌}
use native.Mathlib.Omega.{arith}
use Rattle.symbols.specs.Table.{signature_of}
use Rattle.enumerating.proofs.ReplyLaws.{size-range, count-refused, count-done}
use Rattle.enumerating.proofs.count_under.Goals as goal

pub returns-else-is_size : goal.returns-else-is_size
returns-else-is_size c =
    count-refused (signature_of c.args.table.now) c.args.n
    (sym c.is_size.ensures ∙ c.if-is_size.false)

pub at-requires : goal.at-requires
at-requires c =
    omega (arith, (size-range c.args.n (sym c.is_size.ensures ∙ c.if-is_size.true)).1)

pub returns-then-is_size : goal.returns-then-is_size
returns-then-is_size c =
    count-done (signature_of c.args.table.now) c.args.n (sym c.is_size.ensures ∙ c.if-is_size.true) c.at.result
    (rw c.new.ensures at c.at.ensures) _ c.term_count.ensures
