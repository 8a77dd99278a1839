-- The order as the article has it.
-- Renders: 000, Definition 2.1, the extensions of an order pair to rows and to multisets, for AC-equivalence and the
-- order; the submultisets of section 4; Definition 5.1, with its case 0, as Definition 8.1 has it.
use mathlib.Core.List.{List, [], ◌∷◌, ◌++◌, Memᴰ}
use Rattle.std.specs.Prelude.{◌≡◌, true, false, ◌&&◌, not, ℕ, ◌≤◌, ◌<◌, length}
use Rattle.terms.specs.Signature.{Signature, symbol_of}
use Rattle.terms.specs.Term.{Term, Terms, row, weight, variable_coefficient, flattenings, is_var}
use Rattle.terms.specs.Term.Term.{var, app}
use Rattle.multisets.specs.Multiset.{choose, cancel}
use Rattle.terms.specs.Equivalence.{Equivalent, is_equivalent}
use Rattle.terms.specs.Iterated.{Iterated}
use Rattle.terms.specs.Order.{root_below}

-- Two lists are one multiset.
pub data Permutation {A : Type 0} : List A → List A → Type 0 where
  empty : Permutation [] []
  keep : {a : A} {l m : List A} → Permutation l m → Permutation (a ∷ l) (a ∷ m)
  swap : {a b : A} {l : List A} → Permutation (a ∷ (b ∷ l)) (b ∷ (a ∷ l))
  after : {l m n : List A} → Permutation l m → Permutation m n → Permutation l n

module _ (σ : Signature) where
  -- vc(x, s) ≥ vc(x, t) for all variables x, and the weights are equal.
  pub record Even (s t : Term) : Type 0 where
    pub variables : (x : ℕ) → variable_coefficient σ x t ≤ variable_coefficient σ x s
    pub weights : weight σ s ≡ weight σ t

  pub data Pairwise : List Term → List Term → Type 0 where
    none : Pairwise [] []
    each : {s t : Term} {ss ts : List Term} → Equivalent σ s t → Pairwise ss ts → Pairwise (s ∷ ss) (t ∷ ts)

  -- The multisets are AC-equivalent, one for one.
  pub record MultisetEquivalent (ms ns : List Term) : Type 0 where
    pub left : List Term
    pub right : List Term
    pub from_left : Permutation ms left
    pub from_right : Permutation ns right
    pub pairs : Pairwise left right

  -- The terms of a multiset with a root that is not below f, and those with a root below f.
  abbrev pub not_below : ℕ → List Term → List Term
  not_below f ts = choose (λ (t : Term). not (is_var t) && not (root_below σ f t)) ts

  abbrev pub all_below : ℕ → List Term → List Term
  all_below f ts = choose (root_below σ f) ts

  -- T's terms not below f, with T's variables less S's variables.
  abbrev pub not_below_joined : ℕ → List Term → List Term → List Term
  not_below_joined f ss ts = not_below f ts ++ (cancel (is_equivalent σ) (choose is_var ss) (choose is_var ts)).right

  mutual
    pub data Greater : Term → Term → Type 0 where
      heavier : {s t : Term} → ((x : ℕ) → variable_coefficient σ x t ≤ variable_coefficient σ x s) →
          weight σ t < weight σ s → Greater s t
      case0 : {f x : ℕ} {s : Term} → Even s (var x) → Iterated f s (var x) → Greater s (var x)
      case1 : {f g : ℕ} {ss ts : Terms} → Even (app f ss) (app g ts) →
          (symbol_of σ g).precedence < (symbol_of σ f).precedence → Greater (app f ss) (app g ts)
      case2 : {f : ℕ} {ss ts : Terms} → Even (app f ss) (app f ts) → (symbol_of σ f).ac ≡ false →
          LexGreater (row ss) (row ts) → Greater (app f ss) (app f ts)
      case3a : {f : ℕ} {ss ts : Terms} → Even (app f ss) (app f ts) → (symbol_of σ f).ac ≡ true →
          MultisetGreater (not_below f (flattenings f ss)) (not_below_joined f (flattenings f ss) (flattenings f ts)) →
          Greater (app f ss) (app f ts)
      case3b : {f : ℕ} {ss ts : Terms} → Even (app f ss) (app f ts) → (symbol_of σ f).ac ≡ true →
          MultisetEquivalent (not_below f (flattenings f ss))
          (not_below_joined f (flattenings f ss) (flattenings f ts)) →
          length (flattenings f ts) < length (flattenings f ss) →
          Greater (app f ss) (app f ts)
      case3c : {f : ℕ} {ss ts : Terms} → Even (app f ss) (app f ts) → (symbol_of σ f).ac ≡ true →
          MultisetEquivalent (not_below f (flattenings f ss))
          (not_below_joined f (flattenings f ss) (flattenings f ts)) →
          length (flattenings f ss) ≡ length (flattenings f ts) →
          MultisetGreater (all_below f (flattenings f ss)) (all_below f (flattenings f ts)) →
          Greater (app f ss) (app f ts)

    -- AC-equivalent up to some place, and there greater.
    pub data LexGreater : List Term → List Term → Type 0 where
      ahead : {s t : Term} {ss ts : List Term} → Greater s t → LexGreater (s ∷ ss) (t ∷ ts)
      level : {s t : Term} {ss ts : List Term} → Equivalent σ s t → LexGreater ss ts → LexGreater (s ∷ ss) (t ∷ ts)

    -- Some of both are AC-equivalent in pairs; something more is left of M, and it covers what is left of N.
    pub data MultisetGreater : List Term → List Term → Type 0 where
      extend : {ms ns : List Term} (zs zs' : List Term) (x : Term) (xs ys : List Term) →
          Permutation ms (zs ++ (x ∷ xs)) → Permutation ns (zs' ++ ys) → Pairwise zs zs' → Covered (x ∷ xs) ys →
          MultisetGreater ms ns

    -- Each of ys has a greater one in xs.
    pub data Covered : List Term → List Term → Type 0 where
      nothing : {xs : List Term} → Covered xs []
      another : {y : Term} {xs ys : List Term} (x : Term) → Memᴰ x xs → Greater x y → Covered xs ys →
          Covered xs (y ∷ ys)
