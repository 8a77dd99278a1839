-- Laws of the bits of a number.
--     spelt-bits                         the number that they spell
--     bits-same, bits-last, bits-add     the last bits of a number, the bits of two fields side by side
use mathlib.Core.List.{◌++◌}
use mathlib.Core.Path.{◌≡◌, refl, sym, ap, ◌∙◌}
use Prim.Native.Nat.{ℕ, suc, zero, ◌+◌, ◌*◌, ◌/◌, ◌%◌, ◌^◌, ◌<◌}
use native.Mathlib.Nat.{zero-add, suc-add, add_comm, mod-mod, mul-add-mod_self_right}
use native.Mathlib.Omega.{arith}
use lib.ListN.{get_or}
use lib.Pow.{mod-mod-pow, field, high, shr-shr}
use Rattle.format.specs.Reading.{spelt}
use Rattle.format.specs.Packing.{bits_of}
use Rattle.format.proofs.SpellingLaws.{agrees-of}
use Rattle.format.proofs.CodingLaws.{agrees→spelt}

pub spelt-bits : (n v : ℕ) → spelt (λ (i : ℕ). get_or (bits_of n v) i 0) 0 n ≡ v % 2 ^ n
spelt-bits n v =
    let b : ℕ → ℕ = λ i. get_or (bits_of n v) i 0 in
    agrees→spelt b 0 n v (agrees-of b 0 (bits_of n v) λ i _. ap b (zero-add i))

-- A bit of the last n bits is the same for every number with those bits.
pub bits-same : (n u v : ℕ) → u % 2 ^ n ≡ v % 2 ^ n → bits_of n u ≡ bits_of n v
bits-same zero u v h = refl
bits-same (suc n) u v h =
    let e : suc n ≡ 1 + n = omega arith in
    let k : u % 2 ^ (1 + n) ≡ v % 2 ^ (1 + n) = rw e at h in
    let top : u / 2 ^ n % 2 ≡ v / 2 ^ n % 2 =
    sym (field u 1 n) ∙ ap (λ (x : ℕ). x / 2 ^ n) k ∙ field v 1 n in
    let rest : u % 2 ^ n ≡ v % 2 ^ n = sym (mod-mod-pow u 1 n) ∙ ap (λ (x : ℕ). x % 2 ^ n) k ∙ mod-mod-pow v 1 n in
    rw (top, bits-same n u v rest)

pub bits-last : (n v : ℕ) → bits_of n (v % 2 ^ n) ≡ bits_of n v
bits-last n v = bits-same n (v % 2 ^ n) v (mod-mod v (2 ^ n))

-- The bits of a number of two fields.
pub bits-add : (m n u v : ℕ) → v < 2 ^ n → bits_of (m + n) (u * 2 ^ n + v) ≡ bits_of m u ++ bits_of n v
bits-add zero n u v h =
    rw zero-add (bits-same n (u * 2 ^ n + v) v (mul-add-mod_self_right u (2 ^ n) v))
bits-add (suc m) n u v h =
    let top : (u * 2 ^ n + v) / 2 ^ (m + n) ≡ u / 2 ^ m =
    ap (λ (k : ℕ). (u * 2 ^ n + v) / 2 ^ k) (add_comm m n) ∙ sym (shr-shr (u * 2 ^ n + v) n m)
    ∙ ap (λ (k : ℕ). k / 2 ^ m) (high u n h) in
    rw (suc-add, top, bits-add m n u v h)
