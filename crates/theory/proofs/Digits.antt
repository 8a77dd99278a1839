-- Lists of digits below K, filled up with K and read as numbers in base K + 1: they are bounded, and different for
-- different lists.
--     digits-unique                       a number's last digit, and the rest
--     number_to                            the first digits of a list as a number
--     number_to-lt, number_to-injective     it is bounded, and tells lists apart
use mathlib.Core.List.{List, [], ◌∷◌, Memᴰ}
use mathlib.Core.Path.{◌≡◌, refl, ap, ap₂}
use Prim.Native.Nat.{ℕ, suc, zero, ◌+◌, ◌*◌, ◌^◌, ◌≤◌, ◌<◌}
use native.Mathlib.Nat.{pow-succ', pow-zero}
use native.Mathlib.Omega.{arith}
use lib.ListN.{length}
use lib.Arith.{digits_lt}
use Rattle.multisets.proofs.Relations.{by_order}

pub digits-unique : {q q' r r' c : ℕ} → r < c → r' < c → q * c + r ≡ q' * c + r' → (q ≡ q') × (r ≡ r')
digits-unique {q} {q'} {r} {r'} {c} h k e =
    by_order q q' (λ l. absurd (omega (arith, digits_lt {q = q} {m = q'} l h)))
    λ l. by_order q' q (λ m. absurd (omega (arith, digits_lt {q = q'} {m = q} m k)))
    λ m. let p : q ≡ q' = omega arith in (p, omega (arith, ap (λ (n : ℕ). n * c) p))

abbrev pub DigitsBelow : ℕ → List ℕ → Type 0
DigitsBelow b ws = (w : ℕ) → Memᴰ w ws → w < b

below-tail : {b w : ℕ} {ws : List ℕ} → DigitsBelow b (w ∷ ws) → DigitsBelow b ws
below-tail h v m = h v (Memᴰ.tail m)

module _ (K : ℕ) where
  -- The first n digits, filled up with K, as a number in base K + 1.
  abbrev pub number_to : ℕ → List ℕ → ℕ
  number_to zero ws = 0
  number_to (suc n) [] = K * suc K ^ n + number_to n []
  number_to (suc n) (w ∷ ws) = w * suc K ^ n + number_to n ws

  pub number_to-lt : (n : ℕ) (ws : List ℕ) → DigitsBelow K ws → number_to n ws < suc K ^ n
  number_to-lt zero ws h = omega (arith, pow-zero (suc K))
  number_to-lt (suc n) [] h = rw pow-succ' (digits_lt {q = K} (omega arith) (number_to-lt n [] h))
  number_to-lt (suc n) (w ∷ ws) h =
      rw pow-succ' (digits_lt {q = w} (omega (arith, h w (Memᴰ.head refl)))
      (number_to-lt n ws (below-tail h)))

  pub number_to-injective : (n : ℕ) (vs ws : List ℕ) → length vs ≤ n → length ws ≤ n → DigitsBelow K vs →
      DigitsBelow K ws → number_to n vs ≡ number_to n ws →
      vs ≡ ws
  number_to-injective zero [] [] i j h k e = refl
  number_to-injective zero [] (w ∷ ws) i j h k e = absurd (omega arith)
  number_to-injective zero (v ∷ vs) ws i j h k e = absurd (omega arith)
  number_to-injective (suc n) [] [] i j h k e = refl
  number_to-injective (suc n) [] (w ∷ ws) i j h k e =
      let (p, q) = digits-unique {q = K} {q' = w} (number_to-lt n [] h) (number_to-lt n ws (below-tail k)) e in
      absurd (omega (arith, k w (Memᴰ.head refl)))
  number_to-injective (suc n) (v ∷ vs) [] i j h k e =
      let (p, q) = digits-unique {q = v} {q' = K} (number_to-lt n vs (below-tail h)) (number_to-lt n [] k) e in
      absurd (omega (arith, h v (Memᴰ.head refl)))
  number_to-injective (suc n) (v ∷ vs) (w ∷ ws) i j h k e =
      let (p, q) =
      digits-unique {q = v} {q' = w} (number_to-lt n vs (below-tail h)) (number_to-lt n ws (below-tail k)) e in
      ap₂ ◌∷◌ p (number_to-injective n vs ws (omega arith) (omega arith) (below-tail h) (below-tail k) q)
