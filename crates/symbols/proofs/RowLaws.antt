-- A row of coefficients, by its hexadecimal digits.
--     digits-spelled    the digits of the number that digits spell
--     spelled-digits    the number that the n lowest digits of a number spell
--     spelled-ones      the number that ones spell
--     spelled-row       the row of a symbol is the last digits of seven
--     spelled-lt        digits spell less than the least number with a digit more
use mathlib.Core.Path.{◌≡◌, refl, sym, ◌∙◌}
use mathlib.Core.List.{List, [], ◌∷◌, ◌++◌, append_assoc, append-nil, Memᴰ}
use mathlib.Core.Bool.{Bool, true, false, cond}
use Prim.Native.Nat.{ℕ, suc, zero, ◌+◌, ◌*◌, ◌/◌, ◌%◌, ◌^◌, ◌<◌}
use native.Mathlib.Nat.{add-zero, zero-add, mul-one, one-mul, mul_assoc}
use native.Mathlib.Omega.{arith}
use lib.ListN.{length, get_or}
use lib.Pow.{pow-add, mod-pow-add}
use Rattle.format.specs.Symbols.{ones}
use Rattle.symbols.specs.Table.{digits, spelled_after, spelled, seven_ones, row_at, symbol_in}

pub spelled-snoc : (row : ℕ) (ks : List ℕ) (k : ℕ) → spelled_after row (ks ++ (k ∷ [])) ≡ 16 * spelled_after row ks + k
unfolding spelled_after
spelled-snoc row [] k = refl
spelled-snoc row (j ∷ ks) k = spelled-snoc (16 * row + j) ks k

pub spelled-digits : (n row : ℕ) → spelled (digits n row) ≡ row % 2 ^ (4 * n)
unfolding digits spelled_after
spelled-digits zero row = omega arith
spelled-digits (suc n) row =
    let e : 4 * suc n ≡ 4 * n + 4 = omega arith in
    spelled-snoc 0 (digits n (row / 16)) (row % 16)
    ∙ rw (e, mod-pow-add row (4 * n) 4) (omega (arith, spelled-digits n (row / 16)))

abbrev pub AllDigits : List ℕ → Type 0
AllDigits ks = (k : ℕ) → Memᴰ k ks → k < 16

digits-after : (n row : ℕ) (ks : List ℕ) → AllDigits ks →
    digits (n + length ks) (spelled_after row ks) ≡ digits n row ++ ks
unfolding digits spelled_after
digits-after n row [] h = rw (add-zero n) (sym (append-nil (digits n row)))
digits-after n row (k ∷ ks) h =
    let l = h k (Memᴰ.head refl) in
    let e : n + suc (length ks) ≡ suc n + length ks = omega arith in
    let q : (16 * row + k) / 16 ≡ row = omega arith in
    let r : (16 * row + k) % 16 ≡ k = omega arith in
    let rest = digits-after (suc n) (16 * row + k) ks (λ j m. h j (Memᴰ.tail m)) in
    rw e (rest ∙ rw (q, r) (append_assoc (digits n row) (k ∷ []) ks))

pub digits-spelled : (ks : List ℕ) → AllDigits ks → digits (length ks) (spelled ks) ≡ ks
unfolding digits
digits-spelled ks h = rw zero-add at (digits-after 0 0 ks h)

pub spelled-ones : (n : ℕ) → n < 8 → spelled (ones n) ≡ seven_ones % 2 ^ (4 * n)
unfolding spelled_after
spelled-ones zero h = refl
spelled-ones (suc zero) h = refl
spelled-ones (suc (suc zero)) h = refl
spelled-ones (suc (suc (suc zero))) h = refl
spelled-ones (suc (suc (suc (suc zero)))) h = refl
spelled-ones (suc (suc (suc (suc (suc zero))))) h = refl
spelled-ones (suc (suc (suc (suc (suc (suc zero)))))) h = refl
spelled-ones (suc (suc (suc (suc (suc (suc (suc zero))))))) h = refl
spelled-ones (suc (suc (suc (suc (suc (suc (suc (suc n)))))))) h = absurd (omega arith)

-- The row of a symbol is the last digits of seven.
pub spelled-row : (scaled : Bool) (table : List ℕ) (f : ℕ) →
    spelled (symbol_in scaled table f).coefficients
    ≡ cond scaled (row_at table f) seven_ones % 2 ^ (4 * (symbol_in scaled table f).arity)
spelled-row true table f = spelled-digits (get_or table (4 * f + 4) 0 % 8) (row_at table f)
spelled-row false table f = spelled-ones (get_or table (4 * f + 4) 0 % 8) (omega arith)

spelled-below : (row m : ℕ) (ks : List ℕ) → AllDigits ks → row < m → spelled_after row ks < m * 2 ^ (4 * length ks)
unfolding spelled_after
spelled-below row m [] h l = rw mul-one l
spelled-below row m (k ∷ ks) h l =
    let digit = h k (Memᴰ.head refl) in
    let e : 4 * suc (length ks) ≡ 4 + 4 * length ks = omega arith in
    rw (e, pow-add 2 4 (4 * length ks), ← mul_assoc m 16 (2 ^ (4 * length ks)))
    (spelled-below (16 * row + k) (m * 16) ks (λ j i. h j (Memᴰ.tail i)) (omega arith))

pub spelled-lt : (ks : List ℕ) → AllDigits ks → spelled ks < 2 ^ (4 * length ks)
spelled-lt ks h = rw one-mul at (spelled-below 0 1 ks h (omega arith))
