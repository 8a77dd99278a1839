-- A mask has one bit if nothing is left of it without its lowest.
use native.Mathlib.Omega.{arith}
use mathlib.Core.Path.{sym, ◌∙◌}
use Rattle.equivalence.proofs.PreparedLaws.{prepared-kept}
use Rattle.pieces.proofs.PieceLaws.{sum-masked, one-element, more-elements}
use Rattle.pieces.proofs.elements.piece_of.Goals as goal

pub returns-then-next_within-eq0 : goal.returns-then-next_within-eq0
returns-then-next_within-eq0 c =
    let P = prepared-kept c.args.term.now.prepared in
    one-element P c.requires.piece c.requires.some (sym c.next_within.ensures.0 ∙ c.if-next_within-eq0.true)
    (c.first_taken-offset.ensures 1 (sum-masked P c.requires.piece c.requires.some))

pub returns : goal.returns
returns c =
    more-elements (prepared-kept c.args.term.now.prepared) c.requires.piece c.requires.some
    (omega (arith, c.next_within.ensures.0, c.if-next_within-eq0.false))
