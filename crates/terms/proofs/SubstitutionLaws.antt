-- What a substitution does to flattenings, to likeness and to weights.
--     flattening-substitute          the flattening is that of the elements' images
--     is_equivalent-substitute        likeness is kept
--     weight-substitute-le           a term in which no variable occurs less often gains no less weight
use mathlib.Core.List.{List, [], ◌∷◌, ◌++◌, flat_map, append-nil}
use mathlib.Core.Path.{◌≡◌, refl, sym, ap, ap₂, ◌∙◌}
use mathlib.Core.Bool.{true, cond}
use Prim.Native.Nat.{ℕ, suc, zero, ◌+◌, ◌-◌, ◌*◌, ◌≤◌}
use native.Mathlib.Nat.{zero-mul, suc-mul}
use native.Mathlib.Omega.{arith}
use lib.Dec.{eqb}
use borrow.Author.Tests.{eqb-true}
use Rattle.multisets.specs.Multiset.{multiset_equal}
use Rattle.terms.specs.Signature.{Signature, scale, others, symbol_of, coefficients_of, AcBinary, Admissible}
use Rattle.terms.specs.Term.{Term, Terms, measure, measures, flattening, flattenings, weight}
use Rattle.terms.specs.Term.{variable_coefficient, WellFormed}
use Rattle.terms.specs.Term.Term.{var, app}
use Rattle.terms.specs.Term.Terms.{nil, cons}
use Rattle.terms.specs.Equivalence.{is_equivalent}
use Rattle.terms.specs.Marks.{NoneOftener}
use Rattle.terms.specs.Rewriting.{Substitution, substitute, substitute_in, ExpressionSubstitution}
use Rattle.multisets.proofs.Relations.{by_test, eqb-equivalence}
use Rattle.multisets.proofs.MultisetLaws.{bit, sum, sum-append, sum_same, count}
use Rattle.multisets.proofs.MultisetMaps.{flat_map-append}
use Rattle.multisets.proofs.SumLaws.{sum-le}
use Rattle.terms.proofs.EquivalenceComplete.{flattening-resp-is_equivalent, Equivalent→is_equivalent}
use Rattle.terms.proofs.EquivalenceSound.{is_equivalent→Equivalent}
use Rattle.terms.proofs.MeasureLaws.{scale-add}
use Rattle.terms.proofs.RewritingLaws.{substitute-resp-equivalent}
use Rattle.terms.proofs.VariableLaws.{none_oftener-everywhere}
use Rattle.terms.proofs.WeightLaws.{weight-least}

module _ (τ : Substitution) (f : ℕ) where
  -- The flattening of a term's image.
  abbrev pub image : Term → List Term
  image u = flattening f (substitute τ u)

  mutual
    unfolding flat_map

    pub flattening-substitute : (t : Term) → flattening f (substitute τ t) ≡ flat_map image (flattening f t)
    flattening-substitute (var x) = sym (append-nil (flattening f (τ x)))
    flattening-substitute (app g ts) =
        by_test (eqb f g) (λ e. rw e (flattenings-substitute ts)) λ e. rw e (rw e)

    pub flattenings-substitute : (ts : Terms) →
        flattenings f (substitute_in τ ts) ≡ flat_map image (flattenings f ts)
    flattenings-substitute nil = refl
    flattenings-substitute (cons t ts) =
        rw (flat_map-append image (flattening f t) (flattenings f ts))
        (ap₂ ◌++◌ (flattening-substitute t) (flattenings-substitute ts))

-- ---- likeness

module _ (σ : Signature) (binary : AcBinary σ) (τ : Substitution) where
  pub is_equivalent-substitute : (s t : Term) → WellFormed σ s → WellFormed σ t → is_equivalent σ s t ≡ true →
      is_equivalent σ (substitute τ s) (substitute τ t) ≡ true
  is_equivalent-substitute s t v w e =
      Equivalent→is_equivalent σ (substitute-resp-equivalent σ τ (is_equivalent→Equivalent σ binary s t v w e))

  pub image-resp-is_equivalent : (f : ℕ) → (symbol_of σ f).ac ≡ true → (s t : Term) → WellFormed σ s → WellFormed σ t →
      is_equivalent σ s t ≡ true → multiset_equal (is_equivalent σ) (image τ f s) (image τ f t) ≡ true
  image-resp-is_equivalent f a s t v w e =
      flattening-resp-is_equivalent σ f a (substitute τ s) (substitute τ t) (is_equivalent-substitute s t v w e)

-- ---- weights

module _ (c : ℕ → List ℕ) (v w : ℕ → ℕ) (τ : Substitution) where
  -- What the images measure.
  abbrev image_measure : ℕ → ℕ
  image_measure x = measure c v w (τ x)

  mutual
    measure-substitute : (t : Term) → measure c v w (substitute τ t) ≡ measure c image_measure w t
    measure-substitute (var x) = refl
    measure-substitute (app f ts) = ap (◌+◌ (w f)) (measures-substitute ts (c f))

    measures-substitute : (ts : Terms) (ks : List ℕ) →
        measures c v w (substitute_in τ ts) ks ≡ measures c image_measure w ts ks
    measures-substitute nil ks = refl
    measures-substitute (cons t ts) ks =
        ap₂ ◌+◌ (ap (scale ks) (measure-substitute t)) (measures-substitute ts (others ks))

-- A list as often as the first coefficient says.
abbrev repeated : ℕ → List ℕ → List ℕ
repeated zero l = []
repeated (suc k) l = l ++ repeated k l

abbrev copies : List ℕ → List ℕ → List ℕ
copies [] l = l
copies (k ∷ ks) l = repeated k l

sum-repeated : (d : ℕ → ℕ) (k : ℕ) (l : List ℕ) → sum d (repeated k l) ≡ k * sum d l
sum-repeated d zero l = sym (zero-mul (sum d l))
sum-repeated d (suc k) l =
    omega (arith, sum-append d l (repeated k l), sum-repeated d k l, suc-mul k (sum d l))

sum-copies : (d : ℕ → ℕ) (ks l : List ℕ) → sum d (copies ks l) ≡ scale ks (sum d l)
sum-copies d [] l = refl
sum-copies d (k ∷ ks) l = sum-repeated d k l

module _ (c : ℕ → List ℕ) where
  -- The variables of a term, each as often as the coefficients above it say.
  abbrev mutual
    variable_numbers : Term → List ℕ
    variable_numbers (var x) = x ∷ []
    variable_numbers (app f ts) = variable_numbers_in ts (c f)

    variable_numbers_in : Terms → List ℕ → List ℕ
    variable_numbers_in nil ks = []
    variable_numbers_in (cons t ts) ks = copies ks (variable_numbers t) ++ variable_numbers_in ts (others ks)

  -- A measure in which the symbols add nothing.
  mutual
    measure-sum : (t : Term) (d : ℕ → ℕ) → measure c d (λ (f : ℕ). 0) t ≡ sum d (variable_numbers t)
    measure-sum (var x) d = omega arith
    measure-sum (app f ts) d = omega (arith, measures-sum ts d (c f))

    measures-sum : (ts : Terms) (d : ℕ → ℕ) (ks : List ℕ) →
        measures c d (λ (f : ℕ). 0) ts ks ≡ sum d (variable_numbers_in ts ks)
    measures-sum nil d ks = refl
    measures-sum (cons t ts) d ks =
        omega (
          arith,
          ap (scale ks) (measure-sum t d),
          sum-copies d ks (variable_numbers t),
          measures-sum ts d (others ks),
          sum-append d (copies ks (variable_numbers t)) (variable_numbers_in ts (others ks)),
        )

  -- A measure in which a variable adds v x + d x.
  module _ (u v d w : ℕ → ℕ) (h : (x : ℕ) → u x ≡ v x + d x) where
    mutual
      measure-more : (t : Term) → measure c u w t ≡ measure c v w t + measure c d (λ (f : ℕ). 0) t
      measure-more (var x) = h x
      measure-more (app f ts) = omega (arith, measures-more ts (c f))

      measures-more : (ts : Terms) (ks : List ℕ) →
          measures c u w ts ks ≡ measures c v w ts ks + measures c d (λ (f : ℕ). 0) ts ks
      measures-more nil ks = refl
      measures-more (cons t ts) ks =
          omega (
            arith,
            ap (scale ks) (measure-more t),
            scale-add ks (measure c v w t) (measure c d (λ (f : ℕ). 0) t),
            measures-more ts (others ks),
          )

module _ (σ : Signature) where
  -- The variables of a term, with the signature's coefficients.
  abbrev numbers : Term → List ℕ
  numbers = variable_numbers (coefficients_of σ)

  coefficient-count : (x : ℕ) (t : Term) → variable_coefficient σ x t ≡ count eqb x (numbers t)
  coefficient-count x t =
      measure-sum (coefficients_of σ) t (λ y. cond (eqb x y) 1 0)
      ∙ sum_same (λ y. cond (eqb x y) 1 0) (λ y. bit (eqb x y)) (λ y. by_test (eqb x y) (λ e. rw e) λ e. rw e)
      (numbers t)

  module _ (A : Admissible σ) (τ : Substitution) (images : ExpressionSubstitution σ τ) where
    -- What an image weighs more than its variable; what the images add to a term's weight.
    abbrev extra : ℕ → ℕ
    extra x = weight σ (τ x) - σ.w0

    abbrev added : Term → ℕ
    added t = measure (coefficients_of σ) extra (λ (f : ℕ). 0) t

    weight-substitute : (t : Term) → weight σ (substitute τ t) ≡ weight σ t + added t
    weight-substitute t =
        measure-substitute (coefficients_of σ) (λ x. σ.w0) (λ f. (symbol_of σ f).weight) τ t
        ∙ measure-more (coefficients_of σ) (λ x. weight σ (τ x)) (λ x. σ.w0) extra (λ f. (symbol_of σ f).weight)
        (λ x. omega (arith, weight-least σ A (τ x) (images x).0)) t

    added-le : (s t : Term) → WellFormed σ t → NoneOftener σ s t → added t ≤ added s
    added-le s t w h =
        rw (measure-sum (coefficients_of σ) s extra, measure-sum (coefficients_of σ) t extra)
        (sum-le eqb eqb-equivalence extra (λ x y e. ap extra (eqb-true x y e)) (numbers s) (numbers t)
        λ x. omega (arith, coefficient-count x s, coefficient-count x t, none_oftener-everywhere σ s t w h x))

    -- Where no variable occurs oftener in t, s gains no less.
    pub weight-substitute-le : (s t : Term) → WellFormed σ t → NoneOftener σ s t →
        weight σ (substitute τ t) + weight σ s ≤ weight σ (substitute τ s) + weight σ t
    weight-substitute-le s t w h = omega (arith, weight-substitute s, weight-substitute t, added-le s t w h)
