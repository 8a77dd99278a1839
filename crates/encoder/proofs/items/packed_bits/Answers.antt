-- The loop keeps: nine bits for each node so far, less four for each variable.
use native.Mathlib.Omega.{arith}
use native.Mathlib.Nat.{add-zero}
use Prim.Native.Nat.{ℕ, ◌+◌, ◌-◌, ◌<◌}
use mathlib.Core.Path.{◌≡◌, ap, ◌∙◌}
use lib.ListN.{length, get_or, take, drop, length-drop}
use lib.Seq.{get_or-take, length-take-le}
use Rattle.std.proofs.Common.{get_or-drop}
use Rattle.encoder.specs.Items.{bits_to}
use Rattle.encoder.proofs.ItemBits.{node-bits, length_more, fields-length}
use Rattle.encoder.proofs.items.packed_bits.Goals as goal

pub loop-word-init : goal.loop-word-init
loop-word-init c =
    let a = c.args in
    let all = ap (λ (k : ℕ). length (bits_to a.words.now a.nodes k)) (add-zero a.nodes ∙ c.requires.0) in record {
      few = omega arith;
      bits = omega (arith, all, fields-length a.words.now a.nodes a.symbols (omega arith));
    }

pub loop-word-preserved : goal.loop-word-preserved
loop-word-preserved c =
    let ws = c.args.words.now in
    let n = c.args.nodes in
    let k = c.loop-word.word-index in
    let part = take (length ws - n) (drop n ws) in
    let h : k < length ws - n =
    omega (arith, length-take-le (length ws - n) (drop n ws) (omega (arith, length-drop n ws))) in
    let word : get_or part k 0 ≡ get_or ws (n + k) 0 = rw (get_or-take, get_or-drop) in
    record {
      few = omega (arith, c.tag-variables.ensures.1);
      bits = omega (
        arith,
        length_more ws n (n + k) (n + (k + 1)) (omega arith),
        ap length (node-bits ws n (n + k) (omega arith)),
        rw word at c.tag-variables.ensures.0,
      );
    }
