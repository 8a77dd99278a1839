-- Comparing the digits of two numbers at once, each below 128 and so with one bit of room.
--     small-most       the greatest such number
--     gaps-digits      127 more than each digit of one number, less that of another
--     digits-first     the lowest eighth bit of all gaps is that of the first digit that is greater
use mathlib.Core.Path.{◌≡◌, refl, ap, ap₂, ◌∙◌}
use Prim.Native.Nat.{ℕ, suc, zero, ◌+◌, ◌-◌, ◌*◌, ◌/◌, ◌%◌, ◌^◌, ◌≤◌, ◌<◌}
use native.Mathlib.Omega.{arith}
use lib.Bits.{bit_and, and_block, and_mask, and_zero_r}
use lib.Count.{count_trailing_zeros, trailing_le}
use borrow.Author.Tests.{lt-ltb, le-ltb}
use Rattle.multisets.proofs.Relations.{by_order}
use Rattle.weights.specs.Digits.{first_greater, SmallDigits}

-- The same number for each of n digits.
abbrev pub repeated : ℕ → ℕ → ℕ
repeated zero v = 0
repeated (suc n) v = v + 256 * repeated n v

abbrev gaps : ℕ → ℕ → ℕ → ℕ
gaps zero a b = 0
gaps (suc n) a b = (b % 256 + 127 - a % 256) + 256 * gaps n (a / 256) (b / 256)

pub small-most : (n a : ℕ) → SmallDigits n a → a ≤ repeated n 127
unfolding SmallDigits
small-most zero a h = omega arith
small-most (suc n) a h = omega (arith, small-most n (a / 256) h.1)

gaps-digits : (n a b : ℕ) → SmallDigits n a → SmallDigits n b →
    (a ≤ b + repeated n 127) × (b + repeated n 127 - a ≡ gaps n a b)
unfolding SmallDigits
gaps-digits zero a b h k = omega arith
gaps-digits (suc n) a b h k = omega (arith, gaps-digits n (a / 256) (b / 256) h.1 k.1)

-- The eighth bit of the lowest digit, and the others.
eighths : (x p l : ℕ) → x < 256 → bit_and (x + 256 * p) (128 + 256 * l) ≡ 256 * bit_and p l + 128 * (x / 128)
eighths x p l h =
    let a : x + 256 * p ≡ p * 2 ^ 8 + x = omega arith in
    let b : 128 + 256 * l ≡ l * 2 ^ 8 + 128 = omega arith in
    let d : x ≡ x / 128 * 2 ^ 7 + x % 128 = omega arith in
    let m : bit_and (x / 128) 1 ≡ x / 128 = and_mask (x / 128) 1 ∙ omega arith in
    let e : bit_and x 128 ≡ 128 * (x / 128) =
    ap (λ (n : ℕ). bit_and n 128) d ∙ and_block 7 (x / 128) 1 (x % 128) 0 (omega arith) (omega arith)
    ∙ ap₂ (λ (y z : ℕ). y * 2 ^ 7 + z) m (and_zero_r (x % 128)) ∙ omega arith in
    ap₂ bit_and a b ∙ and_block 8 p l x 128 (omega arith) (omega arith) ∙ ap (λ (n : ℕ). bit_and p l * 2 ^ 8 + n) e
    ∙ omega arith

-- ---- the lowest bit

-- j more, and doubled j times.
abbrev more : ℕ → ℕ → ℕ
more zero k = k
more (suc j) k = suc (more j k)

abbrev doubled : ℕ → ℕ → ℕ
doubled zero y = y
doubled (suc j) y = 2 * doubled j y

trailing-doubled : (j k y : ℕ) → count_trailing_zeros (more j k) (doubled j y) ≡ more j (count_trailing_zeros k y)
unfolding count_trailing_zeros
trailing-doubled zero k y = refl
trailing-doubled (suc j) k y =
    let e : 2 * doubled j y % 2 ≡ 0 = omega arith in
    let d : 2 * doubled j y / 2 ≡ doubled j y = omega arith in
    rw (e, d) (ap suc (trailing-doubled j k y))

trailing_odd : (k y : ℕ) → count_trailing_zeros (suc k) (1 + 2 * y) ≡ 0
unfolding count_trailing_zeros
trailing_odd k y = let e : (1 + 2 * y) % 2 ≡ 1 = omega arith in rw e

-- The bits of n digits.
abbrev bits : ℕ → ℕ
bits zero = 0
bits (suc n) = more 8 (bits n)

digits-found : (n m : ℕ) → count_trailing_zeros (bits (suc n)) (256 * m + 128 * 1) / 8 ≡ 0
digits-found n m =
    let e : 256 * m + 128 * 1 ≡ doubled 7 (1 + 2 * m) = omega arith in
    let d = trailing-doubled 7 (suc (bits n)) (1 + 2 * m) ∙ ap (more 7) (trailing_odd (bits n) m) in
    ap (λ (v : ℕ). count_trailing_zeros (bits (suc n)) v / 8) e ∙ ap (λ (z : ℕ). z / 8) d

digits-on : (n m : ℕ) → count_trailing_zeros (bits (suc n)) (256 * m + 128 * 0) / 8 ≡ suc (count_trailing_zeros (bits n) m / 8)
digits-on n m =
    let e : 256 * m + 128 * 0 ≡ doubled 8 m = omega arith in
    ap (λ (v : ℕ). count_trailing_zeros (bits (suc n)) v / 8) e ∙ ap (λ (z : ℕ). z / 8) (trailing-doubled 8 (bits n) m)
    ∙ omega arith

gaps-first : (n a b : ℕ) → SmallDigits n a → SmallDigits n b →
    count_trailing_zeros (bits n) (bit_and (gaps n a b) (repeated n 128)) / 8 ≡ first_greater n a b
unfolding SmallDigits first_greater count_trailing_zeros
gaps-first zero a b h k = refl
gaps-first (suc n) a b h k =
    let x = b % 256 + 127 - a % 256 in
    let p = gaps n (a / 256) (b / 256) in
    let l = repeated n 128 in
    let e = eighths x p l (omega (arith, h.0, k.0)) in
    by_order (a % 256) (b % 256)
    (λ m. let z : x / 128 ≡ 1 = omega (arith, h.0, k.0) in
    rw (lt-ltb (a % 256) (b % 256) m, e, z) (digits-found n (bit_and p l)))
    λ m. let z : x / 128 ≡ 0 = omega (arith, h.0, k.0) in
    rw (le-ltb (a % 256) (b % 256) m, e, z)
    (digits-on n (bit_and p l) ∙ ap suc (gaps-first n (a / 256) (b / 256) h.1 k.1))

-- As the code computes it.
pub digits-first : (n a b : ℕ) → SmallDigits n a → SmallDigits n b →
    let z = count_trailing_zeros (bits n) (bit_and (b + repeated n 127 - a) (repeated n 128)) in
    (a ≤ b + repeated n 127) × (z ≤ bits n) × (z / 8 ≡ first_greater n a b)
digits-first n a b h k =
    let (m, e) = gaps-digits n a b h k in (
      m,
      trailing_le (bits n) _,
      ap (λ (x : ℕ). count_trailing_zeros (bits n) (bit_and x (repeated n 128)) / 8) e ∙ gaps-first n a b h k,
    )
