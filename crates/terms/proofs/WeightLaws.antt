-- Weights, for an admissible signature: what is used of them, whatever their definition.
--     weight-least, -pos, variable-lightest a well-formed term weighs at least w0, as a variable does
--     nodes-le-weight                       a term of weight W has at most 2 W - 1 nodes, if no unary symbol weighs 0
--     weight-among-lt, weight-among-same    an argument exchanged for a lighter one, for one as heavy
--     weight-argument, -le                  an argument is lighter than the term, or all under a weightless symbol
--     flattening-lighter                    an element of a flattening is the term itself, or lighter
use mathlib.Core.List.Memᴰ
use mathlib.Core.List.{List, [], ◌∷◌, ◌++◌, Memᴰ}
use mathlib.Core.Logic.{◌⊎◌, inl, inr}
use mathlib.Core.Path.{◌≡◌, refl, sym, ap}
use Prim.Native.Nat.{ℕ, suc, zero, ◌+◌, ◌*◌, ◌≤◌, ◌<◌}
use native.Mathlib.Omega.{arith}
use lib.ListN.{length}
use lib.Dec.{eqb}
use borrow.Author.Tests.{eqb-true}
use Rattle.terms.specs.Signature.{Signature, least_weight, scale, others, AllPositive, symbol_of, coefficients_of}
use Rattle.terms.specs.Signature.{ZeroWeightUnary, NoZeroWeightUnary, Admissible}
use Rattle.terms.specs.Term.{Term, Terms, row, arguments, measures, size, sizes, flattening}
use Rattle.terms.specs.Term.{weight, WellFormed, WellFormeds}
use Rattle.terms.specs.Term.Term.{var, app}
use Rattle.terms.specs.Term.Terms.{nil, cons}
use Rattle.multisets.proofs.Relations.{by_test, by_order}
use Rattle.terms.proofs.TermLaws.{Hereditary, row-each, flattening-each}
use Rattle.terms.proofs.MeasureLaws.{scale-le, scale-lt, others-each, bounded, measure-argument}
use Rattle.terms.proofs.FlatteningLaws.{flattenings-member}

abbrev pub weights : Signature → Terms → List ℕ → ℕ
weights σ = measures (coefficients_of σ) (λ (x : ℕ). σ.w0) (λ (f : ℕ). (symbol_of σ f).weight)

module _ (σ : Signature) (A : Admissible σ) where
  positive : (f : ℕ) → AllPositive (coefficients_of σ f)
  positive = A.coefficients_positive

  -- ---- one argument among others

  weights-among-lt : (ss ts : List Term) (s t : Term) → weight σ t < weight σ s → (ks : List ℕ) → AllPositive ks →
      weights σ (arguments (ss ++ (t ∷ ts))) ks < weights σ (arguments (ss ++ (s ∷ ts))) ks
  weights-among-lt [] ts s t h ks p = omega (arith, scale-lt ks p (weight σ t) (weight σ s) h)
  weights-among-lt (r ∷ ss) ts s t h ks p =
      omega (arith, weights-among-lt ss ts s t h (others ks) (others-each ks p))

  weights-among-same : (ss ts : List Term) (s t : Term) → weight σ t ≡ weight σ s → (ks : List ℕ) →
      weights σ (arguments (ss ++ (t ∷ ts))) ks ≡ weights σ (arguments (ss ++ (s ∷ ts))) ks
  weights-among-same [] ts s t h ks = omega (arith, ap (scale ks) h)
  weights-among-same (r ∷ ss) ts s t h ks = omega (arith, weights-among-same ss ts s t h (others ks))

  module _ (f : ℕ) (ss ts : List Term) (s t : Term) where
    pub weight-among-lt : weight σ t < weight σ s →
        weight σ (app f (arguments (ss ++ (t ∷ ts)))) < weight σ (app f (arguments (ss ++ (s ∷ ts))))
    weight-among-lt h = omega (arith, weights-among-lt ss ts s t h (coefficients_of σ f) (positive f))

    pub weight-among-same : weight σ t ≡ weight σ s →
        weight σ (app f (arguments (ss ++ (t ∷ ts)))) ≡ weight σ (app f (arguments (ss ++ (s ∷ ts))))
    weight-among-same h = omega (arith, weights-among-same ss ts s t h (coefficients_of σ f))

  -- ---- the least weight

  mutual
    pub weight-least : (t : Term) → WellFormed σ t → σ.w0 ≤ weight σ t
    weight-least (var x) w = omega arith
    weight-least (app f ts) w =
        weights-least ts (symbol_of σ f).weight (coefficients_of σ f) (positive f) w.2
        (rw w.1 (A.weighs_enough f w.0))

    weights-least : (ts : Terms) (k : ℕ) (ks : List ℕ) → AllPositive ks → WellFormeds σ ts →
        least_weight σ.w0 (length (row ts)) ≤ k → σ.w0 ≤ k + weights σ ts ks
    weights-least nil k ks p w h = omega arith
    weights-least (cons t ts) k ks p w h = omega (arith, weight-least t w.0, scale-le ks p (weight σ t))

  pub variable-lightest : (x : ℕ) (t : Term) → WellFormed σ t → weight σ (var x) ≤ weight σ t
  variable-lightest x t w = weight-least t w

  pub weight-pos : (t : Term) → WellFormed σ t → 0 < weight σ t
  weight-pos t w = omega (arith, weight-least t w, A.variable_weighs)

  -- ---- nodes

  module _ (heavy : NoZeroWeightUnary σ) where
    -- A symbol's weight makes up for its arguments: what it adds to the leaves.
    enough : (a w n : ℕ) → least_weight σ.w0 a ≤ w → (a ≡ 1 → 1 ≤ w) → n ≡ a → 2 ≤ 2 * w + n
    enough zero w n h k e = omega (arith, A.variable_weighs)
    enough (suc zero) w n h k e = omega (arith, k refl)
    enough (suc (suc a)) w n h k e = omega arith

    mutual
      pub nodes-le-weight : (t : Term) → WellFormed σ t → size t < 2 * weight σ t
      nodes-le-weight (var x) w = omega (arith, A.variable_weighs)
      nodes-le-weight (app f ts) (i, n, w) =
          omega (
            arith,
            nodes-le-weights ts w (coefficients_of σ f) (positive f),
            enough (symbol_of σ f).arity (symbol_of σ f).weight (length (row ts)) (A.weighs_enough f i) (heavy f i) n,
          )

      nodes-le-weights : (ts : Terms) → WellFormeds σ ts → (ks : List ℕ) → AllPositive ks →
          sizes ts + length (row ts) ≤ 2 * weights σ ts ks
      nodes-le-weights nil w ks p = omega arith
      nodes-le-weights (cons t ts) (v, w) ks p =
          omega (
            arith,
            nodes-le-weight t v,
            scale-le ks p (weight σ t),
            nodes-le-weights ts w (others ks) (others-each ks p),
          )

  -- ---- parts

  light : (n : ℕ) → Hereditary (λ (t : Term). weight σ t ≤ n)
      (λ (ts : Terms). (ks : List ℕ) × AllPositive ks × (weights σ ts ks ≤ n))
  light = bounded (coefficients_of σ) (λ (x : ℕ). σ.w0) (λ (f : ℕ). (symbol_of σ f).weight) positive

  pub weight-argument-le : (f : ℕ) (ts : Terms) (u : Term) → Memᴰ u (row ts) → weight σ u ≤ weight σ (app f ts)
  weight-argument-le = measure-argument (coefficients_of σ) (λ x. σ.w0) (λ f. (symbol_of σ f).weight) positive

  argument-lighter : (ts : Terms) → 2 ≤ length (row ts) → WellFormeds σ ts → (ks : List ℕ) → AllPositive ks →
      (u : Term) → Memᴰ u (row ts) → weight σ u < weights σ ts ks
  argument-lighter nil n w ks p u m = absurd (omega arith)
  argument-lighter (cons t nil) n w ks p u m = absurd (omega arith)
  argument-lighter (cons t (cons r ts)) n (v, (w, z)) ks p u (Memᴰ.head e) =
      rw e (omega (
        arith,
        weight-pos r w,
        scale-le ks p (weight σ t),
        scale-le (others ks) (others-each ks p) (weight σ r),
      ))
  argument-lighter (cons t (cons r ts)) n (v, (w, z)) ks p u (Memᴰ.tail m) =
      let l = weights σ (cons r ts) (others ks) in
      omega (
        arith,
        weight-pos t v,
        scale-le ks p (weight σ t),
        row-each (light l) u (cons r ts) (others ks, others-each ks p, omega arith) m,
      )

  pub weight-argument : (f : ℕ) (ts : Terms) → WellFormed σ (app f ts) → (u : Term) → Memᴰ u (row ts) →
      (weight σ u < weight σ (app f ts)) ⊎ (ZeroWeightUnary σ f × (ts ≡ cons u nil))
  weight-argument f nil w u m = absurd (Memᴰ.not-nil m)
  weight-argument f (cons t nil) w u m =
      rw (Memᴰ.eq_of_singleton m) (by_order 0 (symbol_of σ f).weight
      (λ h. inl (omega (arith, scale-le (coefficients_of σ f) (positive f) (weight σ t))))
      λ h. inr (record { unary = sym w.1; weightless = omega arith }, refl))
  weight-argument f (cons t (cons r ts)) w u m =
      inl (omega (
        arith,
        argument-lighter (cons t (cons r ts)) (omega arith) w.2 (coefficients_of σ f) (positive f) u m,
      ))

  module _ (f : ℕ) (binary : (symbol_of σ f).arity ≡ 2) where
    pub flattening-lighter : (t : Term) → WellFormed σ t → (u : Term) → Memᴰ u (flattening f t) →
        (u ≡ t) ⊎ (weight σ u < weight σ t)
    flattening-lighter (var x) w u m = inl (Memᴰ.eq_of_singleton m)
    flattening-lighter (app g ts) (i, n, w) u m =
        by_test (eqb f g)
        (λ e. let q : f ≡ g = eqb-true f g e in
        let k : 2 ≤ length (row ts) = omega (arith, ap (λ (h : ℕ). (symbol_of σ h).arity) q) in
        let (a, j, l) = flattenings-member f ts u (rw e at m) in
        inr (omega (
          arith,
          argument-lighter ts k w (coefficients_of σ g) (positive g) a j,
          flattening-each (light (weight σ a)) u a f (omega arith) l,
        )))
        λ e. inl (Memᴰ.eq_of_singleton (rw e at m))
