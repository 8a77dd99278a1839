-- The elements of a piece are those of one term.
use Rattle.pieces.proofs.sizes.piece_size.Given as goal

abbrev pub ghost-sum_size : goal.ghost-sum_size
ghost-sum_size a = 1
