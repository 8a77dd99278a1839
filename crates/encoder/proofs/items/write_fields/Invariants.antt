-- The loop keeps: the bits of the header and of the symbols before `f` are written.
use Prim.Native.Nat.{◌+◌, ◌*◌, ◌<◌}
use Rattle.writer.specs.Writer.{Writes}
use Rattle.encoder.specs.Items.{bits_to}
use Rattle.encoder.proofs.items.write_fields.Given as goal

abbrev pub invariant-loop-f : goal.invariant-loop-f
invariant-loop-f l = record {
  few : l.writer.count < 8;
  written : Writes (bits_to l.words l.nodes (4 * l.f + 4)) l.writer l.bytes;
}
