-- Equivalent terms are not greater than each other; of the others the order decides, both ways.
use mathlib.Core.Path.{refl, sym, ◌∙◌}
use Rattle.order.proofs.EquivalentLaws.{mark-of-equivalent}
use Rattle.order.proofs.MarkLaws.{relation-equivalent, level-greater, level-less, level-unrelated}
use Rattle.order.proofs.WholeLaws.{level-turned}
use Rattle.order.proofs.relation.relation_level.Goals as goal

pub returns-then-prepare_both : goal.returns-then-prepare_both
returns-then-prepare_both c =
    let S = c.requires.level.decoded in
    let like = sym c.prepare_both.ensures.value ∙ c.if-prepare_both.true in
    let nine = mark-of-equivalent _ S.symbols.admissible _ _ S.left.well_formed S.right.well_formed like in
    relation-equivalent _ _ _ nine S.symbols.admissible S.left.well_formed S.right.well_formed refl

pub greater_level-requires : goal.greater_level-requires
greater_level-requires c =
    let P = c.paired-pair.ensures in rw (P.table, P.left, P.right) c.requires.level

pub returns-then-greater_level : goal.returns-then-greater_level
returns-then-greater_level c =
    let P = c.paired-pair.ensures in
    level-greater _ _ _ (rw (P.table, P.left, P.right) at (sym c.if-greater_level.true ∙ c.greater_level.ensures))

pub greater_level-requires-2 : goal.greater_level-requires-2
greater_level-requires-2 c =
    let P = c.paired-pair.ensures in
    let Q = c.turned.ensures in
    rw (Q.table, Q.left, Q.right, P.table, P.left, P.right) (level-turned c.requires.level)

pub returns-then-greater_level-2 : goal.returns-then-greater_level-2
returns-then-greater_level-2 c =
    let P = c.paired-pair.ensures in
    let Q = c.turned.ensures in
    level-less _ _ _ (rw (P.table, P.left, P.right) at (sym c.if-greater_level.false ∙ c.greater_level.ensures))
    (rw (Q.table, Q.left, Q.right, P.table, P.left, P.right) at
    (sym c.if-greater_level-2.true ∙ c.greater_level-2.ensures))

pub returns : goal.returns
returns c =
    let P = c.paired-pair.ensures in
    let Q = c.turned.ensures in
    level-unrelated _ _ _ (rw (P.table, P.left, P.right) at (sym c.if-greater_level.false ∙ c.greater_level.ensures))
    (rw (Q.table, Q.left, Q.right, P.table, P.left, P.right) at
    (sym c.if-greater_level-2.false ∙ c.greater_level-2.ensures))
    (sym c.if-prepare_both.false ∙ c.prepare_both.ensures.value)
