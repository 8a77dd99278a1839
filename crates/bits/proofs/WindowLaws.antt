-- A window has the bits of a packed file from an offset on.
--     ahead-empty, ahead-eight    it has none, or those of eight bytes
--     ahead-nine, ahead_past      a node's nine bits are its first ones; past a node
--     node-moved                  a node that was read, with the window past it
use Rattle.std.specs.Prelude.{Ok}
use mathlib.Core.Path.{◌≡◌, sym, ap, ◌∙◌}
use mathlib.Core.List.{List}
use Prim.Native.Nat.{ℕ, ◌+◌, ◌-◌, ◌*◌, ◌/◌, ◌%◌, ◌^◌, ◌≤◌, ◌<◌}
use native.Mathlib.Omega.{arith}
use lib.ListN.{length, get_or}
use lib.Pow.{high, low, shl-shr, shr-shr}
use Rattle.format.specs.Reading.{spelt, bit_at, bit_source}
use Rattle.format.proofs.CodingLaws.{bit-lt, spelt-lt, spelt-add}
use Rattle.format.proofs.PackingLaws.{shl-mod, shl-field, byte-spelt}
use Rattle.bits.specs.declared.window.Window.{Window}
use Rattle.bits.specs.declared.Node.{Node}
use Rattle.bits.specs.Cursor.{node_reading, node_width, node_word, four, Ahead, NodeMoved}
use Rattle.bits.proofs.NodeLaws.{width-by-tag, word_lt, node-got}

module _ (bytes : List ℕ) where
  abbrev bit : ℕ → ℕ
  bit = bit_at bytes

  lt : (at n : ℕ) → spelt bit at n < 2 ^ n
  lt = spelt-lt bit (bit-lt bytes)

  pub ahead-empty : (at : ℕ) → at ≤ 8 * length bytes → Ahead bytes at (record { bits = 0; count = 0 })
  ahead-empty at h = record { most = omega arith; within = omega arith; same = omega arith }

  module _ (small : (i : ℕ) → get_or bytes i 0 < 256) where
    byte : (at i : ℕ) → at ≡ 8 * i → spelt bit at 8 ≡ get_or bytes i 0
    byte at i e = ap (λ (k : ℕ). spelt bit k 8) e ∙ byte-spelt bytes i (small i)

    byte_more : (i n : ℕ) → spelt bit (8 * i) (8 * n + 8) ≡ spelt bit (8 * i) (8 * n) * 256 + get_or bytes (i + n) 0
    byte_more i n =
        spelt-add bit (8 * i) (8 * n) 8
        ∙ ap (λ (x : ℕ). spelt bit (8 * i) (8 * n) * 256 + x) (byte (8 * i + 8 * n) (i + n) (omega arith))

    four-spelt : (i : ℕ) → spelt bit (8 * i) 32 ≡ four bytes i
    four-spelt i =
        byte_more i 3 ∙ ap (λ (x : ℕ). x * 256 + get_or bytes (i + 3) 0)
        (byte_more i 2 ∙ ap (λ (x : ℕ). x * 256 + get_or bytes (i + 2) 0)
        (byte_more i 1 ∙ ap (λ (x : ℕ). x * 256 + get_or bytes (i + 1) 0) (byte-spelt bytes i (small i))))

    eight-spelt : (i : ℕ) → spelt bit (8 * i) 64 ≡ four bytes i * 4294967296 + four bytes (i + 4)
    eight-spelt i =
        let e : 8 * i + 32 ≡ 8 * (i + 4) = omega arith in
        spelt-add bit (8 * i) 32 32 ∙ rw (four-spelt i, e, four-spelt (i + 4))

    pub ahead-eight : (at : ℕ) → at / 8 + 8 ≤ length bytes →
        Ahead bytes at (record {
          bits = (four bytes (at / 8) * 4294967296 + four bytes (at / 8 + 4)) * 2 ^ (at % 8) % 2 ^ 64;
          count = 64 - at % 8;
        })
    ahead-eight at h =
        let i = at / 8 in
        let s = at % 8 in
        let n = 64 - s in
        let e : s + n ≡ 64 = omega arith in
        let f : n + s ≡ 64 = omega arith in
        let g : 8 * i + s ≡ at = omega arith in
        let k : 64 - n ≡ s = omega arith in
        let x = four bytes i * 4294967296 + four bytes (i + 4) in
        let parts : x ≡ spelt bit (8 * i) s * 2 ^ n + spelt bit at n =
        sym (eight-spelt i) ∙ ap (spelt bit (8 * i)) (sym e) ∙ spelt-add bit (8 * i) s n ∙ rw g in
        let last : x % 2 ^ n ≡ spelt bit at n =
        ap (λ (m : ℕ). m % 2 ^ n) parts ∙ low (spelt bit (8 * i) s) n (lt at n) in
        record {
          most = omega arith;
          within = omega arith;
          same = ap (λ (m : ℕ). x * 2 ^ s % 2 ^ 64 / 2 ^ m) k
              ∙ ap (λ (m : ℕ). m / 2 ^ s) (shl-mod x n s 64 f ∙ ap (λ (m : ℕ). m * 2 ^ s) last)
              ∙ shl-shr (spelt bit at n) s;
        }

  module _ (at : ℕ) (w : Window) (h : Ahead bytes at w) where
    -- The first bits.
    first : (m : ℕ) → m ≤ w.count → w.bits / 2 ^ (64 - m) ≡ spelt bit at m
    first m l =
        let k = w.count - m in
        let e : 64 - m ≡ 64 - w.count + k = omega (arith, h.most) in
        let f : m + k ≡ w.count = omega arith in
        ap (λ (n : ℕ). w.bits / 2 ^ n) e ∙ sym (shr-shr w.bits (64 - w.count) k)
        ∙ ap (λ (n : ℕ). n / 2 ^ k) (h.same ∙ ap (spelt bit at) (sym f) ∙ spelt-add bit at m k)
        ∙ high (spelt bit at m) k (lt (at + m) k)

    pub ahead-nine : 9 ≤ w.count → (w.bits / 2 ^ 55 ≡ spelt bit at 9) × (w.bits / 2 ^ 63 ≡ w.bits / 2 ^ 55 / 256)
        × (w.bits / 2 ^ 55 < 512)
    ahead-nine l =
        let e = first 9 l in
        (e, sym (shr-shr w.bits 55 8), rw e (lt at 9))

    ahead-shifted : (width : ℕ) → width ≤ w.count →
        Ahead bytes (at + width) (record { bits = w.bits * 2 ^ width % 2 ^ 64; count = w.count - width })
    ahead-shifted width l =
        let c = w.count in
        let q = 64 - c in
        let m = c - width in
        let e : m + q + width ≡ 64 = omega (arith, h.most) in
        let f : 64 - m ≡ width + q = omega (arith, h.most) in
        let g : width + m ≡ c = omega arith in
        record {
          most = omega (arith, h.most);
          within = omega (arith, h.within);
          same = ap (λ (n : ℕ). w.bits * 2 ^ width % 2 ^ 64 / 2 ^ n) f
              ∙ shl-field w.bits m q width 64 e
              ∙ ap (λ (n : ℕ). n % 2 ^ m) (h.same ∙ ap (spelt bit at) (sym g) ∙ spelt-add bit at width m)
              ∙ low (spelt bit at width) m (lt (at + width) m);
        }

    pub ahead_past : 9 ≤ w.count → Ahead bytes (at + node_width (w.bits / 2 ^ 55)) (record {
      bits = w.bits * 2 ^ (9 - 4 * (w.bits / 2 ^ 63)) % 2 ^ 64;
      count = w.count - (9 - 4 * (w.bits / 2 ^ 63));
    })
    ahead_past l =
        let (_, tag, small) = ahead-nine l in
        let width = 9 - 4 * (w.bits / 2 ^ 63) in
        let e : at + width ≡ at + node_width (w.bits / 2 ^ 55) =
        ap (λ (k : ℕ). at + (9 - 4 * k)) tag ∙ ap (λ (k : ℕ). at + k) (width-by-tag (w.bits / 2 ^ 55) small) in
        rw e at (ahead-shifted width (omega arith))

  module _ (at n : ℕ) (nine : spelt bit at 9 ≡ n) (fits : at + node_width n ≤ 8 * length bytes) (w : Window)
      (r : Node) (e : r ≡ record { word = node_word n; cursor = record { at = at + node_width n }; window = w }) where
    pub node-moved : Ahead bytes (at + node_width n) w →
        (node_reading at (Ok r) ≡ (bit_source bytes).node at) × NodeMoved bytes (Ok r)
    node-moved h = rw e (sym (node-got bytes at n nine fits), (word_lt n (rw nine at (lt at 9)), h))
