-- The theorems of cancelling a common part, as types. The proofs stand in proofs/Theorems.antt.
-- Renders: 02, order 11: "Reviewers strike the same operand from both sides of an AC symbol and compare what is left.
-- Show that for variable-free terms this never changes the comparison's relation, wrapper books included". That such
-- terms are never unrelated is TotalOnExpressions (Statements).
use Rattle.std.specs.Prelude.{List, [], ◌∷◌, ◌++◌, ◌↔◌, ◌≡◌, true, ℕ, ◌<◌, length}
use Rattle.multisets.specs.Multiset.{multiset_equal}
use Rattle.terms.specs.Signature.{Signature, symbol_of, IsSymbol, Admissible}
use Rattle.terms.specs.Term.{Term, flattening, Expression}
use Rattle.terms.specs.Term.Term.{app}
use Rattle.terms.specs.Equivalence.{pair, Equivalent, is_equivalent}
use Rattle.terms.specs.Order.{is_greater}

module _ (σ : Signature) where
  -- Of s and t the same relation holds as of s' and t'.
  pub record SameRelation (s t s' t' : Term) : Type 0 where
    pub greater : is_greater σ s t ≡ is_greater σ s' t'
    pub less : is_greater σ t s ≡ is_greater σ t' s'
    pub equivalent : Equivalent σ s t ↔ Equivalent σ s' t'

  abbrev pub IsAc : ℕ → Type 0
  IsAc f = IsSymbol σ f × ((symbol_of σ f).ac ≡ true)

  module _ (f : ℕ) where
    -- s and the operand u under f, on whichever side u stands.
    pub data Joined (s u : Term) : Term → Type 0 where
      on_right : Joined s u (app f (pair s u))
      on_left : Joined s u (app f (pair u s))

    -- s' is what is left of s once the common part u is struck: the bag of s for f is those of s' and u together, at
    -- whatever places and depths of the nest.
    abbrev pub LeftOf : Term → Term → Term → Type 0
    LeftOf s u s' = multiset_equal (is_equivalent σ) (flattening f s) (flattening f s' ++ flattening f u) ≡ true

    -- u is an element of the bag of s for f.
    pub record Element (s u : Term) : Type 0 where
      pub before : List Term
      pub after : List Term
      pub place : flattening f s ≡ before ++ (u ∷ after)

    -- The bag of s for f less that element.
    abbrev pub rest : {s u : Term} → Element s u → List Term
    rest e = e.before ++ e.after

    -- s' is what is left of s once that element is struck.
    abbrev pub Struck : {s u : Term} → Element s u → Term → Type 0
    Struck e s' = multiset_equal (is_equivalent σ) (flattening f s') (rest e) ≡ true

  -- For an AC symbol of an admissible signature, a part u of the left and an AC-equal part u' of the right.
  abbrev pub ForCommonPart : (ℕ → Term → Term → Type 0) → Type 0
  ForCommonPart P = Admissible σ → (f : ℕ) → IsAc f → (u u' : Term) → Expression σ u → Equivalent σ u u' → P f u u'

  -- An operand struck from both sides.
  abbrev pub OperandCancels : Type 0
  OperandCancels =
      ForCommonPart λ f u u'. (s t s' t' : Term) → Expression σ s' → Expression σ t' → Joined f s' u s →
      Joined f t' u' t → SameRelation s t s' t'

  -- Any part of the bags struck from both, where something is left on both sides.
  abbrev pub PartCancels : Type 0
  PartCancels =
      ForCommonPart λ f u u'. (s t s' t' : Term) → Expression σ s → Expression σ t → Expression σ s' →
      Expression σ t' → LeftOf f s u s' → LeftOf f t u' t' → SameRelation s t s' t'

  -- One element of the bags struck from both, where something is left on both sides.
  abbrev pub ElementCancels : Type 0
  ElementCancels =
      ForCommonPart λ f u u'. (s t s' t' : Term) → Expression σ s → Expression σ t → Expression σ s' →
      Expression σ t' → (i : Element f s u) (j : Element f t u') → Struck f i s' → Struck f j t' →
      SameRelation s t s' t'

  -- What is left, if anything is, is the bag of an expression.
  abbrev pub RestIsBag : Type 0
  RestIsBag =
      Admissible σ → (f : ℕ) → IsAc f → (s u : Term) → Expression σ s → (i : Element f s u) → 0 < length (rest f i) →
      (s' : Term) × Expression σ s' × Struck f i s'

  -- Where the part is the whole right side and something of s is left, s is greater.
  abbrev pub WholeStruck : Type 0
  WholeStruck =
      ForCommonPart λ f u t. (s s' : Term) → Expression σ s → Expression σ s' → LeftOf f s u s' →
      is_greater σ s t ≡ true

  -- Where no other element of t is left, t is the element itself: s is greater if something of it is left, else
  -- AC-equal.
  abbrev pub NothingLeft : Type 0
  NothingLeft =
      ForCommonPart λ f u u'. (s t : Term) → Expression σ s → Expression σ t → (i : Element f s u)
      (j : Element f t u') → rest f j ≡ [] →
      (t ≡ u') × (0 < length (rest f i) → is_greater σ s t ≡ true) × (rest f i ≡ [] → Equivalent σ s t)
