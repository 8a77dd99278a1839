-- Coefficients, and measures that are counted with them.
--     scale-zero, -add, -le, -pos, -lt, -ones     a number times a coefficient
--     replicate-ones, positive-of-ones            coefficients that are 1
--     others-each                                 what holds of all coefficients holds of those after the first
--     measures-ones, measure-ones                 coefficients that are 1 may be left out, at a symbol and throughout
--     bounded, measure-argument                   a bound on a measure goes down to the parts, so to an argument
use mathlib.Core.List.Memᴰ
use mathlib.Core.List.{List, [], ◌∷◌, Memᴰ}
use mathlib.Core.Path.{◌≡◌, refl, ap, ap₂, ◌∙◌}
use Prim.Native.Nat.{ℕ, suc, zero, ◌+◌, ◌-◌, ◌≤◌, ◌<◌}
use native.Mathlib.Nat.{mul-zero, one-mul, mul_comm, mul-add, le-mul_of_pos_right}
use native.Mathlib.Omega.{arith}
use lib.ListN.{replicate}
use Rattle.terms.specs.Signature.{scale, others, AllPositive, AllOnes}
use Rattle.terms.specs.Term.{Term, Terms, row, measure, measures, plain}
use Rattle.terms.specs.Term.Term.{var, app}
use Rattle.terms.specs.Term.Terms.{nil, cons}
use Rattle.terms.proofs.TermLaws.{Hereditary, row-each}

-- ---- coefficients

pub scale-zero : (ks : List ℕ) → scale ks 0 ≡ 0
scale-zero [] = refl
scale-zero (k ∷ ks) = mul-zero k

pub scale-add : (ks : List ℕ) (m n : ℕ) → scale ks (m + n) ≡ scale ks m + scale ks n
scale-add [] m n = refl
scale-add (k ∷ ks) m n = mul-add k m n

pub scale-le : (ks : List ℕ) → AllPositive ks → (n : ℕ) → n ≤ scale ks n
scale-le [] p n = omega arith
scale-le (k ∷ ks) p n = omega (arith, mul_comm n k, le-mul_of_pos_right n (p k (Memᴰ.head refl)))

pub scale-pos : (ks : List ℕ) (n : ℕ) → 0 < scale ks n → 0 < n
scale-pos ks zero h = absurd (omega (arith, scale-zero ks))
scale-pos ks (suc n) h = omega arith

pub scale-lt : (ks : List ℕ) → AllPositive ks → (m n : ℕ) → m < n → scale ks m < scale ks n
scale-lt ks p m n h =
    let e : m + (n - m) ≡ n = omega arith in
    omega (arith, ap (scale ks) e, scale-add ks m (n - m), scale-le ks p (n - m))

pub scale-ones : (ks : List ℕ) → AllOnes ks → (n : ℕ) → scale ks n ≡ n
scale-ones [] o n = refl
scale-ones (k ∷ ks) o n = rw (o k (Memᴰ.head refl)) (one-mul n)

pub replicate-ones : (n : ℕ) → AllOnes (replicate n 1)
replicate-ones zero k m = absurd (Memᴰ.not-nil m)
replicate-ones (suc n) k (Memᴰ.head e) = e
replicate-ones (suc n) k (Memᴰ.tail m) = replicate-ones n k m

pub positive-of-ones : (ks : List ℕ) → AllOnes ks → AllPositive ks
positive-of-ones ks o k m = omega (arith, o k m)

pub others-each : {P : ℕ → Type 0} (ks : List ℕ) → ((k : ℕ) → Memᴰ k ks → P k) →
    (k : ℕ) → Memᴰ k (others ks) → P k
others-each [] h j m = h j m
others-each (k ∷ ks) h j m = h j (Memᴰ.tail m)

-- ---- measures

module _ (c : ℕ → List ℕ) (v w : ℕ → ℕ) where
  pub measures-ones : (ts : Terms) (ks : List ℕ) → AllOnes ks → measures c v w ts ks ≡ measures c v w ts []
  measures-ones nil ks o = refl
  measures-ones (cons t ts) ks o =
      ap₂ ◌+◌ (scale-ones ks o (measure c v w t)) (measures-ones ts (others ks) (others-each ks o))

  module _ (ones : (f : ℕ) → AllOnes (c f)) where
    mutual
      pub measure-ones : (t : Term) → measure c v w t ≡ measure plain v w t
      measure-ones (var x) = refl
      measure-ones (app f ts) = ap (◌+◌ (w f)) (measures-ones ts (c f) (ones f) ∙ measures-plain ts)

      measures-plain : (ts : Terms) → measures c v w ts [] ≡ measures plain v w ts []
      measures-plain nil = refl
      measures-plain (cons t ts) = ap₂ ◌+◌ (measure-ones t) (measures-plain ts)

  module _ (p : (f : ℕ) → AllPositive (c f)) where
    pub bounded : (n : ℕ) → Hereditary (λ (t : Term). measure c v w t ≤ n)
        (λ (ts : Terms). (ks : List ℕ) × AllPositive ks × (measures c v w ts ks ≤ n))
    bounded n = record {
      inner = λ f ts h. (c f, p f, omega arith);
      head = λ t ts (ks, q, h). omega (arith, scale-le ks q (measure c v w t));
      tail = λ t ts (ks, q, h). (others ks, others-each ks q, omega arith);
    }

    pub measure-argument : (f : ℕ) (ts : Terms) (u : Term) → Memᴰ u (row ts) →
        measure c v w u ≤ measure c v w (app f ts)
    measure-argument f ts u = row-each (bounded (measure c v w (app f ts))) u ts (c f, p f, omega arith)
