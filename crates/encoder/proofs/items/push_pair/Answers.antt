-- Two values have the last bits of two words, one after the other.
use mathlib.Core.Path.{ap, ◌∙◌}
use lib.ListN.{get_or}
use Prim.Native.Nat.{◌+◌}
use native.Mathlib.Omega.{arith}
use Rattle.format.specs.Packing.{bits_of}
use Rattle.writer.proofs.BitsLaws.{bits-last}
use Rattle.encoder.proofs.ItemBits.{pair-more}
use Rattle.encoder.proofs.items.push_pair.Goals as goal

pub returns : goal.returns
returns c =
    let a = c.args in
    let e = ap (bits_of a.m) c.last_bits-first.ensures.0 ∙ bits-last a.m (get_or a.words.now a.i 0) in
    let f = ap (bits_of a.n) c.last_bits-second.ensures.0 ∙ bits-last a.n (get_or a.words.now (a.i + 1) 0) in record {
      count_value = omega (arith, c.push.ensures.stored_value.1, c.push-2.ensures.stored_value.1);
      by_index = λ nodes h m n bytes w. rw (pair-more a.words.now nodes a.i a.m a.n h m n, ← e, ← f)
          (c.push-2.ensures.by_index _ bytes (c.push.ensures.by_index _ bytes w));
    }
