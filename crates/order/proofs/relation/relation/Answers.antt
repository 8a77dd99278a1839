-- A mark is one of the order's exactly if the left is greater, and 9 exactly if the terms are equivalent.
use mathlib.Core.Path.{sym, ap}
use Rattle.operations.specs.Enums.{mark_number}
use Rattle.order.proofs.MarkLaws.{relation-greater, relation-equivalent, relation-less, relation-unrelated, not-nine}
use Rattle.order.proofs.WholeLaws.{left-some, right-some}
use Rattle.order.proofs.relation.relation.Goals as goal

pub bounds-left-0 : goal.bounds-left-0
bounds-left-0 c = left-some c.requires.decoded

pub bounds-right-0 : goal.bounds-right-0
bounds-right-0 c = right-some c.requires.decoded

pub returns-in-SidesEqual : goal.returns-in-SidesEqual
returns-in-SidesEqual c =
    let S = c.requires.decoded in
    relation-equivalent _ _ _ c.mark.ensures S.symbols.admissible S.left.well_formed S.right.well_formed
    (ap mark_number c.in-SidesEqual.is)

pub returns-in_default : goal.returns-in_default
returns-in_default c = relation-greater _ _ _ c.mark.ensures (sym (rw c.number.ensures at c.if-is_decreasing.ensures))

pub returns-then-is_decreasing-2 : goal.returns-then-is_decreasing-2
returns-then-is_decreasing-2 c =
    relation-less _ _ _ c.mark.ensures c.mark-in_default-2.ensures
    (sym (rw c.number.ensures at c.if-is_decreasing.ensures))
    (sym (rw c.number-in_default-2.ensures at c.if-is_decreasing-2.ensures))

pub returns-else-is_decreasing-2 : goal.returns-else-is_decreasing-2
returns-else-is_decreasing-2 c =
    let S = c.requires.decoded in
    relation-unrelated _ _ _ c.mark.ensures c.mark-in_default-2.ensures
    (sym (rw c.number.ensures at c.if-is_decreasing.ensures))
    S.symbols.admissible S.left.well_formed S.right.well_formed (not-nine c.mark.result c.in_default-2.not-SidesEqual)
    (sym (rw c.number-in_default-2.ensures at c.if-is_decreasing-2.ensures))
