-- Bits packed into bytes: the bytes hold the bits and zeros after them, and bytes that hold them are those.
--     items-bits          the bits of items are below 2
--     bit_at-bytes_of       the bits of packed bits
--     bytes_of-bit_at       bytes that hold the bits, and no others, are the packed bits
--     Padded              fewer than eight bits are left, and they are zeros: padded-zero, zero-padded
--     one_shl, shl-mod, shl-field    a power of 2, and a number, as code shifts them
--     bits-append, bits_of-bits, get_or-bytes_from, byte-spelt   lists of bits and bytes by index
use mathlib.Core.Path.{◌≡◌, refl, sym, ap, ◌∙◌}
use mathlib.Core.List.{List, [], ◌∷◌, ◌++◌, flat_map}
use Prim.Native.Nat.{ℕ, suc, zero, ◌+◌, ◌-◌, ◌*◌, ◌/◌, ◌%◌, ◌^◌, ◌≤◌, ◌<◌}
use native.Mathlib.Nat.{mod-lt, add-zero, zero-add, zero-div, zero-mod, mod-eq_of_lt}
use native.Mathlib.Omega.{arith}
use lib.ListN.{length, get_or, get_or-eq_default}
use lib.Pow.{pow_pos, pow-lt, low, mod-pow-add, shl-shr, shr-shr}
use lib.Seq.{ext_get_or}
use lib.Dec.{ltb, lit<}
use Rattle.multisets.proofs.Relations.{by_test, by_order}
use Rattle.terms.specs.Words.{first_variable}
use Rattle.format.specs.Layout.{tag_width, symbol_width, variable_width}
use Rattle.format.specs.Reading.{spelt, bit_at}
use Rattle.format.specs.Packing.{Item, bits_of, item_bits, bytes_from, bytes_of}
use Rattle.format.specs.Packing.Item.{field, node}
use Rattle.format.proofs.SpellingLaws.{agrees_at, agrees-of}
use Rattle.format.proofs.CodingLaws.{bit-lt, spelt-lt, spelt-same, spelt→agrees, agrees→spelt, length-bits_of}

-- 1 shifted left, in so many bits.
pub one_shl : (bits w : ℕ) → w < bits → 1 * 2 ^ w % 2 ^ bits ≡ 2 ^ w
one_shl bits w h = let e : 1 * 2 ^ w ≡ 2 ^ w = omega arith in rw e (mod-eq_of_lt (pow-lt h))

-- What goes over the top of n bits is lost.
pub shl-mod : (p k w n : ℕ) → k + w ≡ n → p * 2 ^ w % 2 ^ n ≡ p % 2 ^ k * 2 ^ w
shl-mod p k w n e =
    let zeros : p * 2 ^ w % 2 ^ w ≡ 0 = rw add-zero at (low p w (pow_pos w)) in
    rw (← e) (mod-pow-add (p * 2 ^ w) k w ∙ rw (shl-shr p w, zeros) (add-zero (p % 2 ^ k * 2 ^ w)))

-- Shifted left in n bits and then right by more, a number has j digits, those from digit r on.
pub shl-field : (p j r s n : ℕ) → j + r + s ≡ n → p * 2 ^ s % 2 ^ n / 2 ^ (s + r) ≡ p / 2 ^ r % 2 ^ j
shl-field p j r s n e =
    let x = p % 2 ^ (j + r) in
    ap (λ (m : ℕ). m / 2 ^ (s + r)) (shl-mod p (j + r) s n e) ∙ sym (shr-shr (x * 2 ^ s) s r)
    ∙ ap (λ (m : ℕ). m / 2 ^ r) (shl-shr x s) ∙ lib.Pow.field p j r

-- ---- lists of bits

abbrev pub Bits : List ℕ → Type 0
Bits bs = (i : ℕ) → get_or bs i 0 < 2

bits-nil : Bits []
bits-nil i = lit< tt

bits-cons : (b : ℕ) (bs : List ℕ) → b < 2 → Bits bs → Bits (b ∷ bs)
bits-cons b bs h hs zero = h
bits-cons b bs h hs (suc i) = hs i

pub bits-append : (bs cs : List ℕ) → Bits bs → Bits cs → Bits (bs ++ cs)
bits-append [] cs h k = k
bits-append (b ∷ bs) cs h k = bits-cons b (bs ++ cs) (h 0) (bits-append bs cs (λ i. h (suc i)) k)

pub bits_of-bits : (n v : ℕ) → Bits (bits_of n v)
bits_of-bits zero v = bits-nil
bits_of-bits (suc n) v = bits-cons (v / 2 ^ n % 2) (bits_of n v) (mod-lt (v / 2 ^ n) (lit< tt)) (bits_of-bits n v)

tagged-bits : (tag width v : ℕ) → Bits (bits_of tag_width tag ++ bits_of width v)
tagged-bits tag width v =
    bits-append (bits_of tag_width tag) (bits_of width v) (bits_of-bits tag_width tag) (bits_of-bits width v)

item-bits : (i : Item) → Bits (item_bits i)
item-bits (field width v) = bits_of-bits width v
item-bits (node w) =
    by_test (ltb w first_variable)
    (λ e. rw e (tagged-bits 0 symbol_width w))
    λ e. rw e (tagged-bits 1 variable_width (w - first_variable))

pub items-bits : (is : List Item) → Bits (flat_map item_bits is)
unfolding flat_map
items-bits [] = bits-nil
items-bits (i ∷ is) = bits-append (item_bits i) (flat_map item_bits is) (item-bits i) (items-bits is)

-- ---- a number's bits by index

get_or-bits_of : (n v i : ℕ) → i < n → get_or (bits_of n v) i 0 ≡ v / 2 ^ (n - 1 - i) % 2
get_or-bits_of zero v i h = absurd (omega arith)
get_or-bits_of (suc n) v zero h = let e : suc n - 1 - 0 ≡ n = omega arith in rw e
get_or-bits_of (suc n) v (suc i) h =
    let e : suc n - 1 - suc i ≡ n - 1 - i = omega arith in
    rw e (get_or-bits_of n v i (omega arith))

-- A bit of the number that bits spell.
spelt-bit : (bit : ℕ → ℕ) → ((i : ℕ) → bit i < 2) → (at n i : ℕ) → i < n →
    spelt bit at n / 2 ^ (n - 1 - i) % 2 ≡ bit (at + i)
spelt-bit bit small at n i h =
    let v = spelt bit at n in
    let a = spelt→agrees bit small at n v (sym (mod-eq_of_lt (spelt-lt bit small at n))) in
    sym (get_or-bits_of n v i h) ∙ sym (agrees_at bit at (bits_of n v) a i (rw (length-bits_of n v) h))

-- ---- bytes

length-bytes_from : (bits : List ℕ) (at n : ℕ) → length (bytes_from bits at n) ≡ n
length-bytes_from bits at zero = refl
length-bytes_from bits at (suc n) = ap suc (length-bytes_from bits (at + 8) n)

pub length-bytes_of : (bits : List ℕ) → length (bytes_of bits) ≡ (length bits + 7) / 8
length-bytes_of bits = length-bytes_from bits 0 ((length bits + 7) / 8)

pub get_or-bytes_from : (bits : List ℕ) (at n j : ℕ) → j < n →
    get_or (bytes_from bits at n) j 0 ≡ spelt (λ i. get_or bits i 0) (at + 8 * j) 8
get_or-bytes_from bits at zero j h = absurd (omega arith)
get_or-bytes_from bits at (suc n) zero h =
    let e : at ≡ at + 8 * 0 = omega arith in ap (λ (k : ℕ). spelt (λ i. get_or bits i 0) k 8) e
get_or-bytes_from bits at (suc n) (suc j) h =
    let e : at + 8 + 8 * j ≡ at + 8 * suc j = omega arith in
    get_or-bytes_from bits (at + 8) n j (omega arith) ∙ ap (λ (k : ℕ). spelt (λ i. get_or bits i 0) k 8) e

zero_bit : (bytes : List ℕ) (i : ℕ) → length bytes ≤ i / 8 → bit_at bytes i ≡ 0
zero_bit bytes i h = rw (get_or-eq_default bytes 0 h, zero-div (2 ^ (7 - i % 8)))

pub bit_at-bytes_of : (bits : List ℕ) → Bits bits → (i : ℕ) → bit_at (bytes_of bits) i ≡ get_or bits i 0
bit_at-bytes_of bits small i =
    let count = (length bits + 7) / 8 in
    by_order (i / 8) count
    (λ h.
    let e : 0 + 8 * (i / 8) + i % 8 ≡ i = omega arith in
    let r : i % 8 < 8 = omega arith in
    ap (λ (b : ℕ). b / 2 ^ (7 - i % 8) % 2) (get_or-bytes_from bits 0 count (i / 8) h)
    ∙ spelt-bit (λ k. get_or bits k 0) small (0 + 8 * (i / 8)) 8 (i % 8) r ∙ ap (λ (k : ℕ). get_or bits k 0) e)
    λ h.
    zero_bit (bytes_of bits) i (rw (length-bytes_of bits) h) ∙ sym (get_or-eq_default bits 0 (omega arith))

-- A byte from its bits.
pub byte-spelt : (bytes : List ℕ) (j : ℕ) → get_or bytes j 0 < 256 → spelt (bit_at bytes) (8 * j) 8 ≡ get_or bytes j 0
byte-spelt bytes j h =
    let b = get_or bytes j 0 in
    let each : (i : ℕ) → i < length (bits_of 8 b) → bit_at bytes (8 * j + i) ≡ get_or (bits_of 8 b) i 0 =
    λ i k.
    let n : i < 8 = k in
    let q : (8 * j + i) / 8 ≡ j = omega arith in
    let r : (8 * j + i) % 8 ≡ i = omega arith in
    rw (q, r) (sym (get_or-bits_of 8 b i n)) in
    agrees→spelt (bit_at bytes) (8 * j) 8 b (agrees-of (bit_at bytes) (8 * j) (bits_of 8 b) each) ∙ mod-eq_of_lt h

pub bytes_of-bit_at : (bits bytes : List ℕ) → ((j : ℕ) → get_or bytes j 0 < 256) → length bytes ≡ (length bits + 7) / 8 →
    ((i : ℕ) → bit_at bytes i ≡ get_or bits i 0) → bytes_of bits ≡ bytes
bytes_of-bit_at bits bytes small len same =
    ext_get_or 0 (bytes_of bits) bytes (length-bytes_of bits ∙ sym len)
    λ j h.
    get_or-bytes_from bits 0 ((length bits + 7) / 8) j (rw (length-bytes_of bits) at h)
    ∙ ap (λ (k : ℕ). spelt (λ i. get_or bits i 0) k 8) (zero-add (8 * j))
    ∙ spelt-same (λ i. get_or bits i 0) (bit_at bytes) (8 * j) (8 * j) 8 (λ i _. sym (same (8 * j + i)))
    ∙ byte-spelt bytes j (small j)

-- ---- the bits after the last item

-- Fewer than eight bits are left from the offset on, and they are zeros.
abbrev pub Padded : List ℕ → ℕ → Type 0
Padded bytes at = (8 * length bytes - at < 8) × (spelt (bit_at bytes) at (8 * length bytes - at) ≡ 0)

zero-bits_of : (n i : ℕ) → i < n → get_or (bits_of n 0) i 0 ≡ 0
zero-bits_of n i h = get_or-bits_of n 0 i h ∙ rw (zero-div (2 ^ (n - 1 - i)))

-- Every bit from there on is a zero.
pub padded-zero : (bytes : List ℕ) (at : ℕ) → Padded bytes at → (i : ℕ) → at ≤ i → bit_at bytes i ≡ 0
padded-zero bytes at (few, zeros) i h =
    let left = 8 * length bytes - at in
    by_order i (8 * length bytes)
    (λ l.
    let a = spelt→agrees (bit_at bytes) (bit-lt bytes) at left 0 (zeros ∙ sym (zero-mod (2 ^ left))) in
    let k : i - at < left = omega arith in
    let e : at + (i - at) ≡ i = omega arith in
    ap (bit_at bytes) (sym e) ∙ agrees_at (bit_at bytes) at (bits_of left 0) a (i - at) (rw (length-bits_of left 0) k)
    ∙ zero-bits_of left (i - at) k)
    λ l. zero_bit bytes i (omega arith)

pub zero-padded : (bytes : List ℕ) (at : ℕ) → 8 * length bytes - at < 8 →
    ((i : ℕ) → at ≤ i → bit_at bytes i ≡ 0) → Padded bytes at
zero-padded bytes at few zeros =
    let left = 8 * length bytes - at in
    let a = agrees-of (bit_at bytes) at (bits_of left 0)
    (λ i h. zeros (at + i) (omega arith) ∙ sym (zero-bits_of left i (rw (length-bits_of left 0) at h))) in
    (few, agrees→spelt (bit_at bytes) at left 0 a ∙ zero-mod (2 ^ left))
