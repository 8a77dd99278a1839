-- A field of a packed file is what three of its bytes give by a division and a remainder.
--     three                the three bytes from an index on as one number, those past the end being 0
--     rest-fits            a remainder by a power of 2 fits a word
--     field-three          the bits of a field, spelt from the three bytes
--     field-two, field-one, field-last   a node's nine bits from two bytes or one, the last bits of a byte
use mathlib.Core.Path.{◌≡◌, sym, ap, ◌∙◌}
use mathlib.Core.List.{List}
use Prim.Native.Nat.{ℕ, zero, suc, ◌+◌, ◌*◌, ◌-◌, ◌/◌, ◌%◌, ◌^◌, ◌≤◌, ◌<◌}
use native.Mathlib.Nat.{mod-one, mod-lt, lt_of_lt_of_le, mul_assoc, mul-add-mod_self_right}
use native.Mathlib.Omega.{arith}
use lib.ListN.{get_or}
use lib.Pow.{pow-add, pow_pos, pow_mono, shr-shr, field, mod-pow-add}
use Rattle.multisets.proofs.Relations.{by_order}
use Rattle.format.specs.Reading.{spelt, bit_at}

abbrev pub three : List ℕ → ℕ → ℕ
three bytes k = get_or bytes k 0 * 65536 + get_or bytes (k + 1) 0 * 256 + get_or bytes (k + 2) 0

pub rest-fits : (n w : ℕ) → w ≤ 16 → n % 2 ^ w < 2 ^ 16
rest-fits n w h = lt_of_lt_of_le (mod-lt n (pow_pos w)) (pow_mono h)

-- ---- one bit

-- A bit of the low byte does not see what stands above that byte.
low_bit : (x y j : ℕ) → j < 8 → (x * 256 + y) / 2 ^ j % 2 ≡ y / 2 ^ j % 2
low_bit x y j h =
    let e : (7 - j) + (1 + j) ≡ 8 = omega arith in
    let p : 256 ≡ 2 ^ (7 - j) * 2 ^ (1 + j) = sym (ap (λ (n : ℕ). 2 ^ n) e) ∙ pow-add 2 (7 - j) (1 + j) in
    let q : x * 256 ≡ x * 2 ^ (7 - j) * 2 ^ (1 + j) =
    ap (λ (n : ℕ). x * n) p ∙ sym (mul_assoc x (2 ^ (7 - j)) (2 ^ (1 + j))) in
    let m : (x * 256 + y) % 2 ^ (1 + j) ≡ y % 2 ^ (1 + j) =
    rw q (mul-add-mod_self_right (x * 2 ^ (7 - j)) (2 ^ (1 + j)) y) in
    sym (field (x * 256 + y) 1 j) ∙ ap (λ (n : ℕ). n / 2 ^ j) m ∙ field y 1 j

module _ (bytes : List ℕ) (small : (i : ℕ) → get_or bytes i 0 < 256) (at : ℕ) where
  bit-first : (w : ℕ) → at % 8 + w < 8 → bit_at bytes (at + w) ≡ three bytes (at / 8) / 2 ^ (23 - (at % 8 + w)) % 2
  bit-first w h =
      let k : (at + w) / 8 ≡ at / 8 = omega arith in
      let r : (at + w) % 8 ≡ at % 8 + w = omega arith in
      let d : 23 - (at % 8 + w) ≡ 16 + (7 - (at % 8 + w)) = omega arith in
      let v : three bytes (at / 8) / 65536 ≡ get_or bytes (at / 8) 0 =
      omega (arith, small (at / 8 + 1), small (at / 8 + 2)) in
      rw (k, r, d, ← shr-shr (three bytes (at / 8)) 16 (7 - (at % 8 + w)), v)

  bit-second : (w : ℕ) → 8 ≤ at % 8 + w → at % 8 + w < 16 →
      bit_at bytes (at + w) ≡ three bytes (at / 8) / 2 ^ (23 - (at % 8 + w)) % 2
  bit-second w l h =
      let k : (at + w) / 8 ≡ at / 8 + 1 = omega arith in
      let r : 7 - (at + w) % 8 ≡ 15 - (at % 8 + w) = omega arith in
      let d : 23 - (at % 8 + w) ≡ 8 + (15 - (at % 8 + w)) = omega arith in
      let v : three bytes (at / 8) / 256 ≡ get_or bytes (at / 8) 0 * 256 + get_or bytes (at / 8 + 1) 0 =
      omega (arith, small (at / 8 + 2)) in
      rw (k, r, d, ← shr-shr (three bytes (at / 8)) 8 (15 - (at % 8 + w)), v)
      (sym (low_bit (get_or bytes (at / 8) 0) (get_or bytes (at / 8 + 1) 0) (15 - (at % 8 + w)) (omega arith)))

  bit-third : (w : ℕ) → 16 ≤ at % 8 + w → at % 8 + w < 24 →
      bit_at bytes (at + w) ≡ three bytes (at / 8) / 2 ^ (23 - (at % 8 + w)) % 2
  bit-third w l h =
      let k : (at + w) / 8 ≡ at / 8 + 2 = omega arith in
      let r : 7 - (at + w) % 8 ≡ 23 - (at % 8 + w) = omega arith in
      let high = get_or bytes (at / 8) 0 * 256 + get_or bytes (at / 8 + 1) 0 in
      let v : three bytes (at / 8) ≡ high * 256 + get_or bytes (at / 8 + 2) 0 = omega arith in
      rw (k, r, v) (sym (low_bit high (get_or bytes (at / 8 + 2) 0) (23 - (at % 8 + w)) (omega arith)))

  bit-three : (w : ℕ) → at % 8 + w < 24 → bit_at bytes (at + w) ≡ three bytes (at / 8) / 2 ^ (23 - (at % 8 + w)) % 2
  bit-three w h =
      by_order (at % 8 + w) 8 (bit-first w) λ a. by_order (at % 8 + w) 16 (bit-second w a) λ b. bit-third w b h

  -- ---- a field

  pub field-three : (w : ℕ) → at % 8 + w ≤ 24 →
      spelt (bit_at bytes) at w ≡ three bytes (at / 8) / 2 ^ (24 - at % 8 - w) % 2 ^ w
  field-three zero h = sym (mod-one (three bytes (at / 8) / 2 ^ (24 - at % 8 - 0)))
  field-three (suc w) h =
      let v = three bytes (at / 8) in
      let e = 24 - at % 8 - suc w in
      let ih : spelt (bit_at bytes) at w ≡ v / 2 ^ (24 - at % 8 - w) % 2 ^ w = field-three w (omega arith) in
      let b : bit_at bytes (at + w) ≡ v / 2 ^ (23 - (at % 8 + w)) % 2 = bit-three w (omega arith) in
      let e₁ : 24 - at % 8 - w ≡ e + 1 = omega arith in
      let e₂ : 23 - (at % 8 + w) ≡ e = omega arith in
      let e₃ : w + 1 ≡ suc w = omega arith in
      cc (mod-pow-add (v / 2 ^ e) w 1, shr-shr v e 1)

-- The nine bits of a node lie in two bytes.
pub field-two : (bytes : List ℕ) → ((i : ℕ) → get_or bytes i 0 < 256) → (at : ℕ) →
    spelt (bit_at bytes) at 9 ≡ (get_or bytes (at / 8) 0 * 256 + get_or bytes (at / 8 + 1) 0) / 2 ^ (7 - at % 8) % 512
field-two bytes small at =
    let e : 24 - at % 8 - 9 ≡ 8 + (7 - at % 8) = omega arith in
    let two : three bytes (at / 8) / 256 ≡ get_or bytes (at / 8) 0 * 256 + get_or bytes (at / 8 + 1) 0 =
    omega (arith, small (at / 8 + 2)) in
    rw (field-three bytes small at 9 (omega arith), e, ← shr-shr (three bytes (at / 8)) 8 (7 - at % 8), two)

-- In the last byte, they lie in that byte and zeros.
pub field-one : (bytes : List ℕ) → ((i : ℕ) → get_or bytes i 0 < 256) → (at : ℕ) → get_or bytes (at / 8 + 1) 0 ≡ 0 →
    spelt (bit_at bytes) at 9 ≡ get_or bytes (at / 8) 0 * 256 / 2 ^ (7 - at % 8) % 512
field-one bytes small at h =
    let e : get_or bytes (at / 8) 0 * 256 + get_or bytes (at / 8 + 1) 0 ≡ get_or bytes (at / 8) 0 * 256 = omega arith in
    field-two bytes small at ∙ rw e

-- The last bits of a byte.
pub field-last : (bytes : List ℕ) → ((i : ℕ) → get_or bytes i 0 < 256) → (at left : ℕ) → at % 8 + left ≡ 8 →
    spelt (bit_at bytes) at left ≡ get_or bytes (at / 8) 0 % 2 ^ left
field-last bytes small at left h =
    let e : 24 - at % 8 - left ≡ 16 = omega arith in
    let one : three bytes (at / 8) / 65536 ≡ get_or bytes (at / 8) 0 = omega (
      arith,
      small (at / 8 + 1),
      small (at / 8 +
          2),
    ) in
    rw (field-three bytes small at left (omega arith), e, one)
