-- The variables decide first; the weights and the roots are the same, so then the arguments do.
use mathlib.Core.Path.{ap, ◌∙◌}
use lib.Dec.{ltb}
use Rattle.symbols.specs.Table.{signature_of}
use Rattle.terms.proofs.OftenerLaws.{oftener-none}
use Rattle.weights.proofs.TotalLaws.{number-some, number-none}
use Rattle.extensions.proofs.GreaterLaws.{greater-oftener, greater-level, mark-some}
use Rattle.order.proofs.WholeLaws.{left-some, right-some}
use Rattle.order.proofs.relation.greater_level.Goals as goal

pub arguments_mark-requires : goal.arguments_mark-requires
arguments_mark-requires c =
    let L = c.requires in (left-some L.decoded, right-some L.decoded, L.root)

pub returns-then-is_none : goal.returns-then-is_none
returns-then-is_none c =
    let L = c.requires in
    let σ = signature_of c.args.terms.now.pair.left.table.now in
    let first = c.first_oftener.ensures.value σ L.decoded.symbols.unscaled.ones _ _ L.left.counted L.right.counted in
    let none = oftener-none σ _ _ first (number-none _ c.if-is_none.ensures) in
    greater-level _ _ _ none L.left.weight L.right.weight L.level
    (c.is_some.ensures ∙ mark-some c.arguments_mark.result ∙ ap (ltb 0) c.arguments_mark.ensures)

pub returns-else-is_none : goal.returns-else-is_none
returns-else-is_none c =
    let L = c.requires in
    let σ = signature_of c.args.terms.now.pair.left.table.now in
    let first = c.first_oftener.ensures.value σ L.decoded.symbols.unscaled.ones _ _ L.left.counted L.right.counted in
    c.if-is_none.false ∙ greater-oftener _ _ _ first (number-some _ c.first_oftener.ensures.below c.if-is_none.ensures)
