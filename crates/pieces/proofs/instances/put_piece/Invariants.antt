-- The elements of a piece are those of one term.
use Rattle.pieces.proofs.instances.put_piece.Given as goal

abbrev pub ghost-put_sum : goal.ghost-put_sum
ghost-put_sum a = 1
