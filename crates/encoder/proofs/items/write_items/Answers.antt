-- The loop keeps: some bits are written, and with those of the rest they are all; what waits is stored at the end.
use mathlib.Core.List.{◌++◌}
use mathlib.Core.Path.{ap, ◌∙◌}
use Prim.Native.Nat.{◌-◌}
use native.Mathlib.Omega.{arith}
use lib.ListN.{length, length-append, length-drop, drop}
use lib.Seq.{take_all, length-take-le}
use Rattle.encoder.specs.Items.{bits_to, node_bits}
use Rattle.encoder.proofs.ItemBits.{bits_mono, nodes-over, nodes-from}
use Rattle.encoder.proofs.items.write_items.Goals as goal

pub write_fields-writer-requires-clause-nodes_len_bound : goal.write_fields-writer-requires-clause-nodes_len_bound
write_fields-writer-requires-clause-nodes_len_bound c =
    let l = c.args.words.now in
    let n = c.args.nodes in
    omega (arith, c.requires.bytes_len, bits_mono l n n (length l) c.requires.by_index.1)

pub loop-six-init : goal.loop-six-init
loop-six-init c =
    let l = c.args.words.now in
    let n = c.args.nodes in
    let all = take_all (length l - n) (drop n l) (omega (arith, length-drop n l)) in (
      c.write_fields-writer.ensures.count_bound,
      bits_to l n n,
      rw all (nodes-from l n (length l - n) n (omega arith) (omega arith)),
      c.write_fields-writer.ensures.writes,
    )

pub flush-writer-requires : goal.flush-writer-requires
flush-writer-requires c =
    let (few, bits, all, written) = c.loop-six.invariant in
    let rest = c.loop-six.rest.now in
    let (six, after, left) = c.in-Some.ensures.cases in
    let long = length-take-le 6 rest (omega (arith, left)) in
    let h = c.push_nodes.ensures.by_index bits _ written in
    let whole = nodes-over bits rest _ c.in-Some.six.now c.in-Some.after.now 6 six after all in (
      omega (arith, few, c.push_nodes.ensures.count_bound, ap length six, long),
      omega (
        arith,
        h.total,
        ap length whole,
        length-append (bits ++ node_bits c.in-Some.six.now) (node_bits c.in-Some.after.now),
        c.requires.bytes_len,
        c.loop-six.auto.bytes,
        c.write_fields-writer.auto.bytes,
      ),
    )

pub loop-six-preserved : goal.loop-six-preserved
loop-six-preserved c =
    let (few, bits, all, written) = c.loop-six.invariant in
    let (six, after, left) = c.in-Some.ensures.cases in (
      c.flush-writer.ensures.count_bound.0,
      bits ++ node_bits c.in-Some.six.now,
      nodes-over bits c.loop-six.rest.now _ c.in-Some.six.now c.in-Some.after.now 6 six after all,
      c.flush-writer.ensures.by_index _ (c.push_nodes.ensures.by_index bits _ written),
    )

pub finish-requires : goal.finish-requires
finish-requires c =
    let (few, bits, all, written) = c.loop-six.invariant in
    let h = c.push_nodes-2.ensures.by_index bits _ written in
    let left = c.in_default.ensures.cases in (
      omega (arith, few, c.push_nodes-2.ensures.count_bound, left),
      omega (
        arith,
        h.total,
        ap length all,
        c.requires.bytes_len,
        c.loop-six.auto.bytes,
        c.write_fields-writer.auto.bytes,
      ),
    )

pub returns : goal.returns
returns c =
    let (few, bits, all, written) = c.loop-six.invariant in
    c.finish.ensures _ (rw all at (c.push_nodes-2.ensures.by_index bits _ written))
    (c.loop-six.auto.bytes ∙ c.write_fields-writer.auto.bytes ∙ c.requires.bytes_len)
