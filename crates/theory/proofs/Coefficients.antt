-- Signatures that agree on AC and precedence, and give the same weights and occurrences, give the same order. So
-- coefficients that are all 1 may be left out.
--     is_equivalent-same, is_greater-same, mark-same     such signatures
--     ones-unchanged                                   coefficients that are all 1
use mathlib.Core.List.Memᴰ
use mathlib.Core.List.{List, []}
use mathlib.Core.Path.{◌≡◌, refl, sym, ap, ap₂, ◌∙◌, fun_ext}
use mathlib.Core.Bool.{Bool, cond, ◌&&◌}
use Prim.Native.Nat.{ℕ, suc, zero}
use lib.ListN.{get_or-map}
use lib.Dec.{eqb, leb, ltb}
use Rattle.terms.specs.Signature.{Symbol, Signature, symbol_of, coefficients_of, Ones}
use Rattle.terms.specs.Term.{Term, size, measure, flattenings, variable_count, weight, variable_coefficient}
use Rattle.terms.specs.Term.Term.{var, app}
use Rattle.terms.specs.Equivalence.{is_equivalent_to, is_equivalent}
use Rattle.terms.specs.Order.{none_oftener, root_above, root_below, high_part, low_part, flattened_mark, root_mark}
use Rattle.terms.specs.Order.{decreasing_mark, is_greater_to, is_greater, mark}
use Rattle.theory.specs.CoefficientStatements.{without_coefficients, Unchanged}
use Rattle.multisets.proofs.MultisetMaps.{choose-same}
use Rattle.terms.proofs.MeasureLaws.{measure-ones}

-- Two tests that are equal say the same.
at-terms : {p q : Term → Term → Bool} → p ≡ q → (s t : Term) → p s t ≡ q s t
at-terms e s t = ap (λ (test : Term → Term → Bool). test s t) e

module _ (σ σ' : Signature) (acs : (f : ℕ) → (symbol_of σ f).ac ≡ (symbol_of σ' f).ac)
    (precedences : (f : ℕ) → (symbol_of σ f).precedence ≡ (symbol_of σ' f).precedence) where
  -- ---- AC-equivalence

  equivalent-step : (n : ℕ) → is_equivalent_to σ n ≡ is_equivalent_to σ' n → (s t : Term) →
      is_equivalent_to σ (suc n) s t ≡ is_equivalent_to σ' (suc n) s t
  unfolding is_equivalent_to
  equivalent-step n e (var x) (var y) = refl
  equivalent-step n e (var x) (app g ts) = refl
  equivalent-step n e (app f ss) (var y) = refl
  equivalent-step n e (app f ss) (app g ts) = rw (acs f, e)

  equivalent_to-same : (n : ℕ) → is_equivalent_to σ n ≡ is_equivalent_to σ' n
  unfolding is_equivalent_to
  equivalent_to-same zero = refl
  equivalent_to-same (suc n) = fun_ext λ s. fun_ext λ t. equivalent-step n (equivalent_to-same n) s t

  pub is_equivalent-same : is_equivalent σ ≡ is_equivalent σ'
  unfolding is_equivalent
  is_equivalent-same = fun_ext λ s. fun_ext λ t. at-terms (equivalent_to-same (size s)) s t

  -- ---- marks

  above_same : (f : ℕ) (t : Term) → root_above σ f t ≡ root_above σ' f t
  above_same f (var x) = refl
  above_same f (app g ts) = ap₂ ltb (precedences f) (precedences g)

  below-same : (f : ℕ) (t : Term) → root_below σ f t ≡ root_below σ' f t
  below-same f (var x) = refl
  below-same f (app g ts) = ap₂ ltb (precedences g) (precedences f)

  module _ (f : ℕ) (l : List Term) where
    high_same : high_part σ f l ≡ high_part σ' f l
    high_same = choose-same (root_above σ f) (root_above σ' f) l λ a m. above_same f a

    low_same : low_part σ f l ≡ low_part σ' f l
    low_same = choose-same (root_below σ f) (root_below σ' f) l λ a m. below-same f a

  module _ (like greater : Term → Term → Bool) where
    flattened-same : (f : ℕ) (ss ts : List Term) →
        flattened_mark σ like greater f ss ts ≡ flattened_mark σ' like greater f ss ts
    unfolding flattened_mark
    flattened-same f ss ts = rw (high_same f ss, high_same f ts, low_same f ss, low_same f ts)

    root-same : (s t : Term) → root_mark σ like greater s t ≡ root_mark σ' like greater s t
    unfolding root_mark
    root-same (var x) t = refl
    root-same (app f ss) (var y) = refl
    root-same (app f ss) (app g ts) =
        rw (precedences f, precedences g, acs f, flattened-same f (flattenings f ss) (flattenings f ts))

  module _ (weights : (t : Term) → weight σ t ≡ weight σ' t)
      (oftenness : (x : ℕ) (t : Term) → variable_coefficient σ x t ≡ variable_coefficient σ' x t) where
    none-same : (n : ℕ) (s t : Term) → none_oftener σ n s t ≡ none_oftener σ' n s t
    unfolding none_oftener
    none-same zero s t = refl
    none-same (suc n) s t = ap₂ ◌&&◌ (ap₂ leb (oftenness n t) (oftenness n s)) (none-same n s t)

    decreasing-same : (like like' greater greater' : Term → Term → Bool) → like ≡ like' → greater ≡ greater' →
        (s t : Term) → decreasing_mark σ like greater s t ≡ decreasing_mark σ' like' greater' s t
    unfolding decreasing_mark
    decreasing-same like like' greater greater' d e s t =
        rw (none-same variable_count s t, weights s, weights t, root-same like greater s t, d, e)

    greater_to-same : (n : ℕ) → is_greater_to σ n ≡ is_greater_to σ' n
    unfolding is_greater_to
    greater_to-same zero = refl
    greater_to-same (suc n) = fun_ext λ s. fun_ext λ t. ap (ltb 0) (decreasing-same (is_equivalent σ) (is_equivalent σ')
        (is_greater_to σ n) (is_greater_to σ' n) is_equivalent-same (greater_to-same n) s t)

    pub is_greater-same : is_greater σ ≡ is_greater σ'
    unfolding is_greater
    is_greater-same = fun_ext λ s. fun_ext λ t. at-terms (greater_to-same (size s)) s t

    pub mark-same : (s t : Term) → mark σ s t ≡ mark σ' s t
    unfolding mark
    mark-same s t =
        rw (
          decreasing-same (is_equivalent σ) (is_equivalent σ') (is_greater σ) (is_greater σ') is_equivalent-same
              is_greater-same s t,
          none-same variable_count s t,
          weights s,
          weights t,
          is_equivalent-same,
        )

module _ (σ : Signature) (ones : Ones σ) where
  abbrev σ' : Signature
  σ' = without_coefficients σ

  symbol-without : (f : ℕ) →
      let s = symbol_of σ f in
      symbol_of σ' f ≡ record {
        arity = s.arity;
        ac = s.ac;
        weight = s.weight;
        precedence = s.precedence;
        coefficients = [];
      }
  symbol-without f = get_or-map _ σ.symbols f _

  acs : (f : ℕ) → (symbol_of σ f).ac ≡ (symbol_of σ' f).ac
  acs f = sym (ap (λ (s : Symbol). s.ac) (symbol-without f))

  precedences : (f : ℕ) → (symbol_of σ f).precedence ≡ (symbol_of σ' f).precedence
  precedences f = sym (ap (λ (s : Symbol). s.precedence) (symbol-without f))

  measures : (v w : ℕ → ℕ) (t : Term) → measure (coefficients_of σ) v w t ≡ measure (coefficients_of σ') v w t
  measures v w t =
      measure-ones (coefficients_of σ) v w ones t
      ∙ sym (measure-ones (coefficients_of σ') v w (λ f k m.
      absurd (Memᴰ.not-nil (rw (ap (λ (s : Symbol). s.coefficients) (symbol-without f)) at m))) t)

  weights : (t : Term) → weight σ t ≡ weight σ' t
  weights t =
      measures (λ x. σ.w0) (λ f. (symbol_of σ f).weight) t
      ∙ ap (λ (w : ℕ → ℕ). measure (coefficients_of σ') (λ (x : ℕ). σ.w0) w t)
      (fun_ext λ f. sym (ap (λ (s : Symbol). s.weight) (symbol-without f)))

  oftenness : (x : ℕ) (t : Term) → variable_coefficient σ x t ≡ variable_coefficient σ' x t
  oftenness x = measures (λ y. cond (eqb x y) 1 0) (λ f. 0)

  pub ones-unchanged : (s t : Term) → Unchanged σ s t
  ones-unchanged s t = record {
    weight = measure-ones (coefficients_of σ) (λ x. σ.w0) (λ f. (symbol_of σ f).weight) ones t;
    occurrences = λ x. measure-ones (coefficients_of σ) (λ y. cond (eqb x y) 1 0) (λ f. 0) ones t;
    order = at-terms (is_greater-same σ σ' acs precedences weights oftenness) s t;
    mark = mark-same σ σ' acs precedences weights oftenness s t;
  }
