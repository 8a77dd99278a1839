-- Both pieces are put into buffers, and the buffers compared.
use Rattle.std.proofs.Common.{rules}
use Rattle.pieces.proofs.SameLaws.{put_words, same_words}
use Rattle.pieces.proofs.comparison.same_piece.Goals as goal

pub returns : goal.returns
returns c = search (rules, same_words, put_words)
