-- The loop keeps: the bits of the header and of the symbols before `f` are written.
use native.Mathlib.Omega.{arith}
use Prim.Native.Nat.{ℕ, ◌+◌, ◌*◌, ◌≤◌}
use mathlib.Core.List.{List}
use mathlib.Core.Path.{◌≡◌, refl}
use Rattle.format.specs.Packing.{item_bits}
use Rattle.writer.specs.Writer.{Writes}
use Rattle.writer.proofs.WriterLaws.{writes-none}
use Rattle.encoder.specs.Items.{bits_to}
use Rattle.encoder.proofs.ItemBits.{flat-nil, bits_mono, symbol-widths}
use Rattle.encoder.proofs.items.write_fields.Goals as goal

none : (words : List ℕ) (nodes : ℕ) (bytes : List ℕ) →
    Writes (bits_to words nodes 0) (record { stored = 0; pending = 0; count = 0 }) bytes
none words nodes bytes = rw (flat-nil item_bits) (writes-none bytes)

pub flush-writer-requires : goal.flush-writer-requires
flush-writer-requires c =
    let l = c.args.words.now in
    let n = c.args.nodes in
    let h = c.push_pair-header.ensures.by_index n (omega arith) refl refl _
    (c.push_pair-half.ensures.by_index n (omega arith) refl refl _ (none l n c.args.bytes.now)) in (
      omega (arith, c.push_pair-half.ensures.count_value, c.push_pair-header.ensures.count_value),
      omega (arith, h.total, bits_mono l n 4 n (omega arith), c.requires.nodes_len_bound),
    )

pub loop-f-init : goal.loop-f-init
loop-f-init c =
    let l = c.args.words.now in
    let n = c.args.nodes in
    let many : 4 ≤ n = omega (arith, c.requires.by_index.0.1) in
    record {
      few = c.flush-writer.ensures.count_bound.0;
      written = c.flush-writer.ensures.by_index _ (c.push_pair-header.ensures.by_index n (omega (arith, many)) refl refl
          _ (c.push_pair-half.ensures.by_index n (omega (arith, many)) refl refl _ (none l n _)));
    }

pub flush-writer-requires-in-loop-f : goal.flush-writer-requires-in-loop-f
flush-writer-requires-in-loop-f c =
    let v = c.loop-f.invariant in
    let i = 4 * c.loop-f.f + 4 in
    let l = c.args.words.now in
    let n = c.args.nodes in
    let more : i + 4 ≤ n = omega (arith, c.requires.by_index.0.1) in
    let wide = symbol-widths l n i (omega arith) (omega arith) in
    let h = c.push_pair-symbol.ensures.by_index n (omega (arith, more)) wide.2 wide.3 _
    (c.push_pair-front.ensures.by_index n (omega (arith, more)) wide.0 wide.1 _ v.written) in (
      omega (arith, v.few, c.push_pair-front.ensures.count_value, c.push_pair-symbol.ensures.count_value),
      omega (
        arith,
        h.total,
        bits_mono l n (i + 2 + 2) n (omega (arith, more)),
        c.requires.nodes_len_bound,
        c.loop-f.auto.bytes,
        c.flush-writer.auto.bytes,
      ),
    )

pub loop-f-preserved : goal.loop-f-preserved
loop-f-preserved c =
    let v = c.loop-f.invariant in
    let i = 4 * c.loop-f.f + 4 in
    let l = c.args.words.now in
    let n = c.args.nodes in
    let more : i + 4 ≤ n = omega (arith, c.requires.by_index.0.1) in
    let e : 4 * (c.loop-f.f + 1) + 4 ≡ i + 2 + 2 = omega arith in
    let wide = symbol-widths l n i (omega arith) (omega arith) in record {
      few = c.flush-writer-in-loop-f.ensures.count_bound.0;
      written = rw e (c.flush-writer-in-loop-f.ensures.by_index _ (c.push_pair-symbol.ensures.by_index n
          (omega (arith, more)) wide.2 wide.3 _
          (c.push_pair-front.ensures.by_index n (omega (arith, more)) wide.0 wide.1 _ v.written)));
    }

pub returns-clause-writes : goal.returns-clause-writes
returns-clause-writes c =
    let e : 4 * c.loop-f.f + 4 ≡ c.args.nodes = omega (arith, c.requires.by_index.0.1) in
    rw e at c.loop-f.invariant.written
