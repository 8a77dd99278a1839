-- The roots are the same, so the mark is that of the arguments, as flattenings where the root is AC and as rows where
-- it is not.
use mathlib.Core.Path.{sym, ◌∙◌}
use Rattle.symbols.proofs.TableLaws.{few-at}
use Rattle.equivalence.proofs.AlikeLaws.{ac-small}
use Rattle.extensions.proofs.MeasuredLaws.{scale}
use Rattle.extensions.proofs.MeasureLaws.{inner-rows, inner-elements}
use Rattle.extensions.proofs.RootLaws.{root-elements, root-row}
use Rattle.order.proofs.level.arguments_mark.Goals as goal

pub flattened-requires : goal.flattened-requires
flattened-requires c =
    let S = (scale c.args.terms.now).sides in
    let (p, q, e) = c.requires in
    let n = c.arity-n.ensures.0 in
    record {
      both_stand = inner-rows S 0 0 p q e n;
      f_bound = inner-elements S 0 0 p q e n (sym c.is_ac.ensures ∙ c.if-is_ac.true);
    }

pub returns-then-is_ac : goal.returns-then-is_ac
returns-then-is_ac c =
    let m = c.args.terms.now.pair in
    let S = (scale c.args.terms.now).sides in
    let (p, q, e) = c.requires in
    let ac = sym c.is_ac.ensures ∙ c.if-is_ac.true in
    root-elements m.left.table.now m.left.words.now 0 m.right.words.now 0 p q e (ac-small m.left.table.now S.small _ ac)
    c.arity-n.ensures.0 ac c.flattened.ensures

pub rows_greater-requires : goal.rows_greater-requires
rows_greater-requires c =
    let (p, q, e) = c.requires in inner-rows (scale c.args.terms.now).sides 0 0 p q e c.arity-n.ensures.0

pub returns-then-rows_greater : goal.returns-then-rows_greater
returns-then-rows_greater c =
    let m = c.args.terms.now.pair in
    let S = (scale c.args.terms.now).sides in
    let (p, q, e) = c.requires in
    root-row m.left.table.now m.left.words.now 0 m.right.words.now 0 p q e (few-at m.left.table.now S.small)
    (sym c.is_ac.ensures ∙ c.if-is_ac.false) c.arity-n.ensures.0 (sym c.if-rows_greater.true ∙ c.rows_greater.ensures)

pub returns : goal.returns
returns c =
    let m = c.args.terms.now.pair in
    let S = (scale c.args.terms.now).sides in
    let (p, q, e) = c.requires in
    root-row m.left.table.now m.left.words.now 0 m.right.words.now 0 p q e (few-at m.left.table.now S.small)
    (sym c.is_ac.ensures ∙ c.if-is_ac.false) c.arity-n.ensures.0 (sym c.if-rows_greater.false ∙ c.rows_greater.ensures)
