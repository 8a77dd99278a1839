-- Equivalent terms have mark 9; of the others the arguments decide, and where they do not the mark is 10.
use mathlib.Core.Path.{refl, sym, ◌∙◌}
use Rattle.order.proofs.EquivalentLaws.{mark-of-equivalent}
use Rattle.order.proofs.MarkLaws.{whole-arguments, same-few}
use Rattle.order.proofs.WholeLaws.{left-some, right-some}
use Rattle.order.proofs.mark.mark_level.Goals as goal

pub returns-then-prepare_both : goal.returns-then-prepare_both
returns-then-prepare_both c =
    let S = c.requires.0 in
    mark-of-equivalent _ S.symbols.admissible _ _ S.left.well_formed S.right.well_formed
    (sym c.prepare_both.ensures.value ∙ c.if-prepare_both.true)

pub arguments_mark-requires : goal.arguments_mark-requires
arguments_mark-requires c =
    let (S, R) = c.requires in
    let P = c.paired-pair.ensures in
    rw (P.left, P.right) (left-some S, right-some S, R.root)

pub returns : goal.returns
returns c =
    let (S, R) = c.requires in
    let P = c.paired-pair.ensures in
    let table = c.args.weighing.now.table.now in
    let few = same-few table c.args.left.now 0 c.args.right.now 0 (left-some S) (right-some S) R.root in
    rw c.unwrap_or.ensures
    (whole-arguments _ _ _ R.few refl refl R.level c.arguments_mark.result
    (rw (P.table, P.left, P.right) at c.arguments_mark.ensures) few
    (sym c.if-prepare_both.false ∙ c.prepare_both.ensures.value))
