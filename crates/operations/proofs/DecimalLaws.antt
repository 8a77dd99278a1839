-- Decimal numbers digit by digit, and text set in columns.
--     decimal-small, decimal-large                    the last digit, and the digits before it
--     length-decimal, decimal-few, signed-few         how many characters there are at most
--     decimal_injective, signed-injective             a number is told by its characters
--     right_set-injective                              and so it is among the spaces before it
--     length-right_set, length-left_set                 a text that fits fills its columns
use mathlib.Core.List.{List, [], ◌∷◌, ◌++◌, head-eq_of_cons-eq, tail-eq_of_cons-eq}
use mathlib.Core.Path.{◌≡◌, refl, sym, ap, ◌∙◌}
use mathlib.Core.Bool.{cond}
use Prim.Native.Nat.{ℕ, suc, zero, ◌+◌, ◌-◌, ◌*◌, ◌/◌, ◌%◌, ◌^◌, ◌≤◌, ◌<◌}
use native.Mathlib.Nat.{pow-succ'}
use native.Mathlib.Omega.{arith}
use lib.Dec.{eqb}
use lib.IntN.{ℤ, pos, negsuc, nat_abs}
use lib.ListN.{length, length-append, length-replicate}
use borrow.Author.Tests.{lt-ltb, le-ltb, ne_eqb}
use Rattle.multisets.proofs.Relations.{by_order}
use Rattle.operations.specs.Text.{digits, decimal, signed_decimal, spaces, right_set, left_set}

-- More digits than enough change nothing.
digits-enough : (k m n : ℕ) → n < k → n < m → digits k n ≡ digits m n
unfolding digits
digits-enough zero m n h l = absurd (omega arith)
digits-enough (suc k) zero n h l = absurd (omega arith)
digits-enough (suc k) (suc m) n h l =
    by_order n 10 (λ s. rw (lt-ltb n 10 s))
    λ s. rw (le-ltb n 10 s) (ap (λ (ds : List ℕ). ds ++ ((48 + n % 10) ∷ []))
    (digits-enough k m (n / 10) (omega arith) (omega arith)))

pub decimal-small : (n : ℕ) → n < 10 → decimal n ≡ (48 + n) ∷ []
unfolding digits
decimal-small n h = rw (lt-ltb n 10 h)

pub decimal-large : (n : ℕ) → 10 ≤ n → decimal n ≡ decimal (n / 10) ++ ((48 + n % 10) ∷ [])
unfolding digits
decimal-large n h =
    rw (le-ltb n 10 h)
    (ap (λ (ds : List ℕ). ds ++ ((48 + n % 10) ∷ []))
    (digits-enough n (suc (n / 10)) (n / 10) (omega arith) (omega arith)))

length_digits : (k n : ℕ) → length (digits k n) ≤ k
unfolding digits
length_digits zero n = omega arith
length_digits (suc k) n =
    by_order n 10 (λ s. rw (lt-ltb n 10 s) (omega arith))
    λ s. rw (le-ltb n 10 s) (omega (
      arith,
      length-append (digits k (n / 10)) ((48 + n % 10) ∷ []),
      length_digits k
          (n / 10),
    ))

pub length-decimal : (n : ℕ) → length (decimal n) ≤ suc n
length-decimal n = length_digits (suc n) n

digits-few : (k m n : ℕ) → n < 10 ^ suc k → length (digits m n) ≤ suc k
unfolding digits
digits-few k zero n h = omega arith
digits-few zero (suc m) n h = rw (lt-ltb n 10 h) (omega arith)
digits-few (suc k) (suc m) n h =
    by_order n 10 (λ s. rw (lt-ltb n 10 s) (omega arith))
    λ s. rw (le-ltb n 10 s)
    (omega (
      arith,
      length-append (digits m (n / 10)) ((48 + n % 10) ∷ []),
      digits-few k m (n / 10) (omega (arith, pow-succ' 10 (suc k))),
    ))

pub decimal-few : (k n : ℕ) → n < 10 ^ suc k → length (decimal n) ≤ suc k
decimal-few k n h = digits-few k (suc n) n h

pub signed-few : (k : ℕ) (d : ℤ) → nat_abs d < 10 ^ suc k → length (signed_decimal d) ≤ suc (suc k)
signed-few k (pos n) h = omega (arith, decimal-few k n h)
signed-few k (negsuc n) h = omega (arith, decimal-few k (suc n) h)

-- ---- what digits spell

-- The number that digits spell after those of a.
abbrev pub spelled : ℕ → List ℕ → ℕ
spelled a [] = a
spelled a (d ∷ ds) = spelled (10 * a + (d - 48)) ds

spelled-last : (a : ℕ) (ds : List ℕ) (d : ℕ) → spelled a (ds ++ (d ∷ [])) ≡ 10 * spelled a ds + (d - 48)
spelled-last a [] d = refl
spelled-last a (e ∷ ds) d = spelled-last (10 * a + (e - 48)) ds d

spelled-digits : (k n : ℕ) → n < k → spelled 0 (digits k n) ≡ n
unfolding digits
spelled-digits zero n h = absurd (omega arith)
spelled-digits (suc k) n h =
    by_order n 10 (λ s. rw (lt-ltb n 10 s) (omega arith))
    λ s. rw (le-ltb n 10 s) (omega (
      arith,
      spelled-last 0 (digits k (n / 10)) (48 + n % 10),
      spelled-digits k (n / 10) (omega arith),
    ))

pub decimal_injective : (m n : ℕ) → decimal m ≡ decimal n → m ≡ n
decimal_injective m n e =
    sym (spelled-digits (suc m) m (omega arith)) ∙ ap (spelled 0) e ∙ spelled-digits (suc n) n (omega arith)

-- ---- the first character

-- A text whose first character is at least c.
abbrev pub StartsAbove : ℕ → List ℕ → Type 0
StartsAbove c text = (a : ℕ) × (rest : List ℕ) × (text ≡ a ∷ rest) × (c ≤ a)

digits-start : (k n : ℕ) → n < k → StartsAbove 48 (digits k n)
unfolding digits
digits-start zero n h = absurd (omega arith)
digits-start (suc k) n h =
    by_order n 10 (λ s. rw (lt-ltb n 10 s) (48 + n, [], refl, omega arith))
    λ s. let (a, rest, e, l) = digits-start k (n / 10) (omega arith) in
    rw (le-ltb n 10 s, e) (a, rest ++ ((48 + n % 10) ∷ []), refl, l)

signed-start : (d : ℤ) → StartsAbove 45 (signed_decimal d)
signed-start (pos n) = let (a, rest, e, l) = digits-start (suc n) n (omega arith) in (a, rest, e, omega arith)
signed-start (negsuc n) = (45, decimal (suc n), refl, omega arith)

-- The digits of a number do not begin with a sign.
no_sign : {A : Type 0} (n : ℕ) (text : List ℕ) → decimal n ≡ 45 ∷ text → A
no_sign n text e =
    let (a, rest, f, l) = digits-start (suc n) n (omega arith) in
    absurd (omega (arith, head-eq_of_cons-eq (sym f ∙ e)))

pub signed-injective : (d e : ℤ) → signed_decimal d ≡ signed_decimal e → d ≡ e
signed-injective (pos m) (pos n) h = ap pos (decimal_injective m n h)
signed-injective (pos m) (negsuc n) h = no_sign m (decimal (suc n)) h
signed-injective (negsuc m) (pos n) h = no_sign n (decimal (suc m)) (sym h)
signed-injective (negsuc m) (negsuc n) h =
    let k : m ≡ n = omega (arith, decimal_injective (suc m) (suc n) (tail-eq_of_cons-eq h)) in ap negsuc k

-- ---- spaces before a text

-- The text after the spaces that it begins with.
abbrev trimmed : List ℕ → List ℕ
trimmed [] = []
trimmed (c ∷ text) = cond (eqb c 32) (trimmed text) (c ∷ text)

trimmed-spaces : (n : ℕ) (text : List ℕ) → StartsAbove 45 text → trimmed (spaces n ++ text) ≡ text
trimmed-spaces zero text (a, rest, e, l) = rw e (rw (ne_eqb a 32 (omega arith)))
trimmed-spaces (suc n) text s = trimmed-spaces n text s

pub right_set-injective : (width : ℕ) (d e : ℤ) →
    right_set width (signed_decimal d) ≡ right_set width (signed_decimal e) → d ≡ e
right_set-injective width d e h =
    signed-injective d e
    (sym (trimmed-spaces (width - length (signed_decimal d)) (signed_decimal d) (signed-start d)) ∙ ap trimmed h
    ∙ trimmed-spaces (width - length (signed_decimal e)) (signed_decimal e) (signed-start e))

-- ---- a text in its columns

module _ (width : ℕ) (text : List ℕ) (fits : length text ≤ width) where
  pub length-right_set : length (right_set width text) ≡ width
  length-right_set =
      omega (
        arith,
        length-append (spaces (width - length text)) text,
        length-replicate {A = ℕ} (width - length text) 32,
      )

  pub length-left_set : length (left_set width text) ≡ width
  length-left_set =
      omega (
        arith,
        length-append text (spaces (width - length text)),
        length-replicate {A = ℕ} (width - length text) 32,
      )
