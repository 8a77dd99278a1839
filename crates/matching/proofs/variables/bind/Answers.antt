-- A variable that occurs before is compared, word by word; another takes the piece.
use mathlib.Core.Path.{refl, sym, ◌∙◌}
use Rattle.matching.proofs.MatchingLaws.{matching-kept}
use Rattle.matching.proofs.BindingLaws.{bound-piece, piece-room, takes-again, takes_first}
use Rattle.matching.proofs.variables.bind.Goals as goal

pub same_piece-requires-clause-piece_len_bound : goal.same_piece-requires-clause-piece_len_bound
same_piece-requires-clause-piece_len_bound c =
    let M = matching-kept c.args.sought.now.matching in
    let g = c.get.ensures in
    let J = bound-piece M c.requires.p_in_bounds.0 c.requires.p_in_bounds.1 refl c.requires.are_bound g.0 in
    rw g.1 (piece-room M J)

pub same_piece-requires-clause-other_len_bound : goal.same_piece-requires-clause-other_len_bound
same_piece-requires-clause-other_len_bound c = piece-room (matching-kept c.args.sought.now.matching) c.requires.pending

pub returns-then-occurs_before : goal.returns-then-occurs_before
returns-then-occurs_before c =
    let M = matching-kept c.args.sought.now.matching in
    let q = c.requires.p_in_bounds in
    let g = c.get.ensures in
    takes-again M q.0 q.1 refl c.requires.are_bound c.requires.pending
    (sym c.if-occurs_before.true ∙ c.occurs_before.ensures) g.0 g.1 _ c.same_piece.ensures

pub returns : goal.returns
returns c =
    let M = matching-kept c.args.sought.now.matching in
    let q = c.requires.p_in_bounds in
    rw (c.set.ensures.offsets_after, c.set.ensures.masks_after)
    (takes_first M q.0 q.1 refl c.requires.are_bound c.requires.pending
    (sym c.if-occurs_before.false ∙ c.occurs_before.ensures))
