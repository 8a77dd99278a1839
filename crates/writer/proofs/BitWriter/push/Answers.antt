-- The bits that wait and the value behind them are the last bits of the sum; no carry leaves 64 bits.
use Rattle.writer.proofs.WriterLaws.{shl-add-lt, writes-push}
use native.Mathlib.Omega.{arith}
use Rattle.writer.proofs.BitWriter.push.Goals as goal

pub overflow_add-result : goal.overflow_add-result
overflow_add-result c =
    let a = c.args in
    record { fits = shl-add-lt a.self.pending a.width a.value c.requires.1 (omega arith) }

pub returns-clause-by_index : goal.returns-clause-by_index
returns-clause-by_index c =
    let (narrow, small, fits) = c.requires in
    λ bits bytes h. writes-push bits c.args.self bytes h c.args.width c.args.value small fits
