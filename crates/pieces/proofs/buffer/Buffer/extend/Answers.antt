-- The words are copied after the others.
use native.Mathlib.Omega.{arith}
use Rattle.pieces.proofs.CopyLaws.{put_extended}
use Rattle.pieces.proofs.buffer.Buffer.extend.Goals as goal

pub returns : goal.returns
returns c = put_extended c.args.self.now.room c.requires (omega arith) c.copy_from_slice.ensures.after
