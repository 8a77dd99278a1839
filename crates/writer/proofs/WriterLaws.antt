-- Laws of the bit writer.
--     shl-add-lt, shl-add-mod        a number shifted left, with a field behind it
--     writes-none, writes-push       nothing is written at first; a field
--     bytes-eight                    the bytes of a number
--     writes-first                   whole bytes are stored
--     writes_end                     all is stored, with zeros
use Rattle.multisets.proofs.ListLaws.{put_part}
use mathlib.Core.List.{List, [], ◌∷◌, ◌++◌}
use mathlib.Core.Path.{◌≡◌, refl, sym, ap, ◌∙◌}
use Prim.Native.Nat.{ℕ, suc, zero, ◌+◌, ◌-◌, ◌*◌, ◌/◌, ◌%◌, ◌^◌, ◌≤◌, ◌<◌}
use native.Mathlib.Nat.{add-zero, zero-add, zero-div, mod-lt, mod-eq_of_lt}
use native.Mathlib.Omega.{arith}
use lib.ListN.{length, get_or, set, take, length-set, length-append, get_or-append}
use Rattle.std.specs.Int.{w64, to_be_bytes}
use lib.Seq.{sets, length-take-le, get_or-take, get_or-append-add, get_or-set_same, get_or-set_other, ext_get_or}
use lib.Pow.{high, low, field, mod-pow-add, mod-mod-pow, pow_pos, pow-add}
use lib.Arith.{digits_lt}
use Rattle.multisets.proofs.Relations.{by_order}
use Rattle.format.specs.Reading.{spelt}
use Rattle.format.specs.Packing.{bits_of, bytes_of}
use Rattle.format.proofs.CodingLaws.{spelt-same, spelt-add, spelt-lt, length-bits_of}
use Rattle.format.proofs.PackingLaws.{shl-mod, shl-field, bits-append, bits_of-bits, get_or-bytes_from, length-bytes_of}
use Rattle.writer.specs.declared.BitWriter.{BitWriter}
use Rattle.writer.specs.Writer.{Writes, byte_before, eight_bytes, byte_of}
use Rattle.writer.proofs.BitsLaws.{spelt-bits}

abbrev bit_of : List ℕ → ℕ → ℕ
bit_of bits i = get_or bits i 0

-- ---- shifts to the left

module _ (p w v : ℕ) (h : v < 2 ^ w) where
  pub shl-add-lt : w ≤ 64 → p * 2 ^ w % 2 ^ 64 + v < 2 ^ 64
  shl-add-lt l =
      let k = 64 - w in
      let e : k + w ≡ 64 = omega arith in
      let s : 2 ^ k * 2 ^ w ≡ 2 ^ 64 = sym (pow-add 2 k w) ∙ ap (λ (n : ℕ). 2 ^ n) e in
      rw (shl-mod p k w 64 e) (rw s at (digits_lt (mod-lt p (pow_pos k)) h))

  pub shl-add-mod : (c : ℕ) → c + w ≤ 64 → (p * 2 ^ w % 2 ^ 64 + v) % 2 ^ (c + w) ≡ p % 2 ^ c * 2 ^ w + v
  shl-add-mod c l =
      let k = 64 - w in
      let x = p % 2 ^ k in
      let e : k + w ≡ 64 = omega arith in
      let d : k - c + c ≡ k = omega arith in
      let shorter : x % 2 ^ c ≡ p % 2 ^ c = rw d at (mod-mod-pow p (k - c) c) in
      ap (λ (n : ℕ). (n + v) % 2 ^ (c + w)) (shl-mod p k w 64 e)
      ∙ mod-pow-add (x * 2 ^ w + v) c w ∙ rw (high x w h, low x w h, shorter)

-- ---- stores by index

before-sets : (vs l : List ℕ) (i n : ℕ) → n < i → get_or (sets l i vs) n 0 ≡ get_or l n 0
before-sets [] l i n h = refl
before-sets (v ∷ vs) l i n h =
    before-sets vs (set l i v) (suc i) n (omega arith) ∙ get_or-set_other l i n v 0 λ e. absurd (omega (arith, e))

within-sets : (vs l : List ℕ) (i j : ℕ) → j < length vs → i + length vs ≤ length l →
    get_or (sets l i vs) (i + j) 0 ≡ get_or vs j 0
within-sets [] l i j h k = absurd (omega arith)
within-sets (v ∷ vs) l i zero h k =
    rw (add-zero i) (before-sets vs (set l i v) (suc i) i (omega arith) ∙ get_or-set_same l i v 0 (omega arith))
within-sets (v ∷ vs) l i (suc j) h k =
    let e : i + suc j ≡ suc i + j = omega arith in
    rw e (within-sets vs (set l i v) (suc i) j (omega arith) (omega (arith, length-set l i v)))

eight-by-index : (n j : ℕ) → j < 8 → get_or (eight_bytes n) j 0 ≡ byte_before (56 - 8 * j) n
eight-by-index n zero h = refl
eight-by-index n (suc zero) h = refl
eight-by-index n (suc (suc zero)) h = refl
eight-by-index n (suc (suc (suc zero))) h = refl
eight-by-index n (suc (suc (suc (suc zero)))) h = refl
eight-by-index n (suc (suc (suc (suc (suc zero))))) h = refl
eight-by-index n (suc (suc (suc (suc (suc (suc zero)))))) h = refl
eight-by-index n (suc (suc (suc (suc (suc (suc (suc zero))))))) h = refl
eight-by-index n (suc (suc (suc (suc (suc (suc (suc (suc j)))))))) h = absurd (omega arith)

-- The bytes of a number of 64 bits, as the library has them.
pub bytes-eight : (n : ℕ) → to_be_bytes w64 n ≡ eight_bytes n
bytes-eight n = let e : n / 1 ≡ n = omega arith in rw e

-- What the functions that store bytes cite.
pub ruleset byte_laws = (bytes-eight, put_part)

-- ---- bits, and bytes of them

byte-append : (bits more : List ℕ) (n : ℕ) → 8 * n + 8 ≤ length bits → byte_of (bits ++ more) n ≡ byte_of bits n
byte-append bits more n h =
    spelt-same (bit_of (bits ++ more)) (bit_of bits) (8 * n) (8 * n) 8
    λ i l. get_or-append bits more 0 (8 * n + i) (omega arith)

no_bits : (n i : ℕ) → get_or (bits_of n 0) i 0 ≡ 0
no_bits zero i = refl
no_bits (suc n) zero = rw zero-div
no_bits (suc n) (suc i) = no_bits n i

-- Zeros after the bits are there already.
zeros-after : (bits : List ℕ) (n i : ℕ) → get_or (bits ++ bits_of n 0) i 0 ≡ get_or bits i 0
zeros-after [] n i = no_bits n i
zeros-after (b ∷ bits) n zero = refl
zeros-after (b ∷ bits) n (suc i) = zeros-after bits n i

-- A byte of the number that bits spell.
spelt-byte : (b : ℕ → ℕ) → ((i : ℕ) → b i < 2) → (at m r : ℕ) → spelt b at (m + 8 + r) / 2 ^ r % 256 ≡ spelt b
    (at + m) 8
spelt-byte b small at m r =
    ap (λ (n : ℕ). n / 2 ^ r % 256) (spelt-add b at (m + 8) r)
    ∙ ap (λ (n : ℕ). n % 256) (high (spelt b at (m + 8)) r (spelt-lt b small (at + (m + 8)) r))
    ∙ ap (λ (n : ℕ). n % 256) (spelt-add b at m 8) ∙ low (spelt b at m) 8 (spelt-lt b small (at + m) 8)

-- ---- what is written

pub writes-none : (bytes : List ℕ) → Writes [] (record { stored = 0; pending = 0; count = 0 }) bytes
writes-none bytes = record {
  binary = λ i. omega arith;
  total = refl;
  waiting = refl;
  front = λ n h. absurd (omega arith);
}

module _ (bits : List ℕ) (w : BitWriter) (bytes : List ℕ) (h : Writes bits w bytes) where
  abbrev b : ℕ → ℕ
  b = bit_of bits

  spelt-pushed : (width v : ℕ) → v < 2 ^ width → w.pending % 2 ^ w.count * 2 ^ width + v
      ≡ spelt (bit_of (bits ++ bits_of width v)) (8 * w.stored) (w.count + width)
  spelt-pushed width v k =
      let more = bits_of width v in
      let all = bit_of (bits ++ more) in
      let at = 8 * w.stored in
      let old : spelt all at w.count ≡ w.pending % 2 ^ w.count =
      spelt-same all b at at w.count
      (λ i l. get_or-append bits more 0 (at + i) (omega (arith, h.total))) ∙ sym h.waiting in
      let new : spelt all (at + w.count) width ≡ v =
      ap (λ (k : ℕ). spelt all k width) (sym h.total)
      ∙ spelt-same all (bit_of more) (length bits) 0 width
      (λ i l. get_or-append-add bits more i 0 ∙ ap (bit_of more) (sym (zero-add i)))
      ∙ spelt-bits width v ∙ mod-eq_of_lt k in
      sym (spelt-add all at w.count width ∙ rw (old, new))

  pub writes-push : (width v : ℕ) → v < 2 ^ width → w.count + width ≤ 64 → Writes (bits ++ bits_of width v)
      (record {
        stored = w.stored;
        pending = w.pending * 2 ^ width % 2 ^ 64 + v;
        count = w.count + width;
      })
      bytes
  writes-push width v k l = record {
    binary = bits-append bits (bits_of width v) h.binary (bits_of-bits width v);
    total = simp (length-append, length-bits_of) (omega (arith, h.total));
    waiting = shl-add-mod w.pending width v k w.count l ∙ spelt-pushed width v k;
    front = λ n m. h.front n m ∙ sym (byte-append bits (bits_of width v) n (omega (arith, h.total)));
  }

  -- A byte of the bits that wait, by the bits after it.
  waiting-byte : (j r : ℕ) → 8 * j + 8 + r ≡ w.count →
      byte_before r (w.pending % 2 ^ w.count) ≡ byte_of bits (w.stored + j)
  waiting-byte j r e =
      let at : 8 * w.stored + 8 * j ≡ 8 * (w.stored + j) = omega arith in
      ap (byte_before r) (h.waiting ∙ ap (spelt b (8 * w.stored)) (sym e))
      ∙ spelt-byte b h.binary (8 * w.stored) (8 * j) r ∙ ap (λ (k : ℕ). spelt b k 8) at

  -- A byte of the bits that wait, where they are shifted to the front of 64.
  shifted-byte : w.count ≤ 64 → (j : ℕ) → 8 * j + 8 ≤ w.count →
      byte_before (56 - 8 * j) (w.pending * 2 ^ (64 - w.count) % 2 ^ 64) ≡ byte_of bits (w.stored + j)
  shifted-byte l j k =
      let c = w.count in
      let r = c - (8 * j + 8) in
      let s = 64 - c in
      let m = 8 * j + 8 in
      let e : m + r + s ≡ 64 = omega arith in
      let f : m + r ≡ c = omega arith in
      let g : 56 - 8 * j ≡ s + r = omega arith in
      ap (λ (n : ℕ). byte_before n (w.pending * 2 ^ s % 2 ^ 64)) g
      ∙ ap (λ (n : ℕ). n % 256) (shl-field w.pending m r s 64 e ∙ sym (field w.pending m r)
      ∙ ap (λ (n : ℕ). w.pending % 2 ^ n / 2 ^ r) f)
      ∙ waiting-byte j r f

  -- So many bytes more are stored, and m bits go on waiting.
  writes-stored : (k m : ℕ) (after : List ℕ) → 8 * k + m ≡ w.count →
      ((n : ℕ) → n < w.stored → get_or after n 0 ≡ get_or bytes n 0) →
      ((j : ℕ) → j < k → get_or after (w.stored + j) 0 ≡ byte_of bits (w.stored + j)) →
      Writes bits (record { stored = w.stored + k; pending = w.pending; count = m }) after
  writes-stored k m after e kept new =
      let at = 8 * w.stored in
      let f : at + 8 * k ≡ 8 * (w.stored + k) = omega arith in
      let all : w.pending % 2 ^ (8 * k + m) ≡ spelt b at (8 * k) * 2 ^ m + spelt b (at + 8 * k) m =
      rw e h.waiting ∙ ap (spelt b at) (sym e) ∙ spelt-add b at (8 * k) m in
      record {
        binary = h.binary;
        total = omega (arith, h.total);
        waiting = sym (mod-mod-pow w.pending (8 * k) m) ∙ ap (λ (n : ℕ). n % 2 ^ m) all
            ∙ low (spelt b at (8 * k)) m (spelt-lt b h.binary (at + 8 * k) m) ∙ ap (λ (n : ℕ). spelt b n m) f;
        front = λ n l.
            by_order n w.stored (λ i. kept n i ∙ h.front n i)
            λ i.
            let d : w.stored + (n - w.stored) ≡ n = omega arith in
            rw d at (new (n - w.stored) (omega arith));
      }

  -- The first of the eight bytes are stored, at least the whole ones.
  pub writes-first : (n : ℕ) → w.count / 8 ≤ n → n ≤ 8 → w.count ≤ 64 → w.stored + n ≤ length bytes →
      Writes bits (record { stored = w.stored + w.count / 8; pending = w.pending; count = w.count % 8 })
      (sets bytes w.stored (take n (eight_bytes (w.pending * 2 ^ (64 - w.count) % 2 ^ 64))))
  writes-first n k few l room =
      let v = w.pending * 2 ^ (64 - w.count) % 2 ^ 64 in
      let first = take n (eight_bytes v) in
      let long : length first ≡ n = length-take-le n (eight_bytes v) few in
      writes-stored (w.count / 8) (w.count % 8) (sets bytes w.stored first) (omega arith)
      (before-sets first bytes w.stored)
      λ j m.
      within-sets first bytes w.stored j (omega (arith, long)) (omega (arith, long))
      ∙ get_or-take n (eight_bytes v) j 0 (omega arith) ∙ eight-by-index v j (omega arith)
      ∙ shifted-byte l j (omega arith)

-- With zeros up to a whole byte all is stored.
pub writes_end : (bits : List ℕ) (n : ℕ) (w : BitWriter) (bytes : List ℕ) → Writes (bits ++ bits_of n 0) w bytes →
    n < 8 → (length bits + n) % 8 ≡ 0 → w.count < 8 → length bytes ≡ (length bits + 7) / 8 → bytes ≡ bytes_of bits
writes_end bits n w bytes h k e l size =
    let count = (length bits + 7) / 8 in
    let all : length bits + n ≡ 8 * w.stored + w.count =
    sym (length-append bits (bits_of n 0) ∙ rw (length-bits_of n 0)) ∙ h.total in
    ext_get_or 0 bytes (bytes_of bits) (size ∙ sym (length-bytes_of bits))
    λ i m.
    h.front i (omega arith)
    ∙ spelt-same (bit_of (bits ++ bits_of n 0)) (bit_of bits) (8 * i) (0 + 8 * i) 8
    (λ j o. zeros-after bits n (8 * i + j) ∙ rw (zero-add (8 * i)))
    ∙ sym (get_or-bytes_from bits 0 count i (omega arith))
