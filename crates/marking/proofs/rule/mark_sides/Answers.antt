-- Both sides are terms, so their totals are theirs, and the order marks them.
use mathlib.Core.Path.{refl, ◌∙◌}
use mir.Syntax.{w64}
use mir.ValLaws.{to_z-of_z}
use Rattle.marking.proofs.rule.mark_sides.Goals as goal

pub returns : goal.returns
returns c =
    let margin = c.margin.ensures _ _ _ c.total.ensures c.total-2.ensures in record {
      marks = record {
        mark = c.mark.ensures;
        margin = to_z-of_z w64 c.margin.result (record {
          sfits = c.margin.type_inv;
        }) ∙ margin;
      };
      cursor_value = refl;
    }
