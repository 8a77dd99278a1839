-- With the zeros the bits are whole bytes, all of which are stored.
use mathlib.Core.Path.{◌∙◌}
use Prim.Native.Nat.{◌-◌, ◌%◌}
use native.Mathlib.Omega.{arith}
use Rattle.writer.proofs.WriterLaws.{writes_end}
use Rattle.writer.proofs.BitWriter.finish.Goals as goal

pub returns : goal.returns
returns c =
    let zeros = (8 - c.args.self.count % 8) % 8 in
    let state = c.flush.ensures.count_bound in
    let written = c.flush.ensures.by_index in
    λ bits h size. writes_end bits zeros _ _ (written _ (c.push.ensures.by_index bits _ h)) (omega arith)
    (omega (arith, h.total)) state.0 (c.flush.auto.bytes ∙ size)
