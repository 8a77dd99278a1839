-- The theorems of the order, as types; those of steps are in StepStatements. The proofs stand in proofs/Theorems.antt.
-- Renders: 01, "The order" and "Kept by contexts"; 02, order 8: mark 11 "counts as falling"; 000, Definitions 5.1 and
-- 8.1, the properties that make the order an AC-compatible simplification order (Theorems 5.10 and 8.2), and its
-- totality on ground terms (Theorem 5.12).
use Rattle.std.specs.Prelude.{List, ◌↔◌, ◌⊎◌, ◌≡◌, true, false, ◌&&◌, ℕ, ◌<◌, eqb, ltb}
use Rattle.terms.specs.Signature.{Signature, Admissible}
use Rattle.terms.specs.Term.{Term, Terms, variable_count, Ground, WellFormed, Expression}
use Rattle.terms.specs.Term.Term.{var, app}
use Rattle.terms.specs.Equivalence.{Equivalent, arguments_alike, is_equivalent}
use Rattle.terms.specs.Order.{decreasing_mark, is_greater, mark}
use Rattle.terms.specs.Oftener.{first_oftener}
use Rattle.terms.specs.Marks.{is_decreasing, Marked}
use Rattle.terms.specs.Article.{Greater}
use Rattle.terms.specs.Rewriting.{Context, fill, Substitution, substitute, ExpressionContext, ExpressionSubstitution}
use Rattle.terms.specs.Rewriting.Context.{inside}

-- Exactly one of the three.
abbrev pub ExactlyOne : Type 0 → Type 0 → Type 0 → Type 0
ExactlyOne A B C = (A × (B → ⊥) × (C → ⊥)) ⊎ (((A → ⊥) × B × (C → ⊥)) ⊎ ((A → ⊥) × (B → ⊥) × C))

module _ (σ : Signature) where
  -- For an admissible signature, of any two well-formed terms.
  abbrev pub ForWellFormed : (Term → Term → Type 0) → Type 0
  ForWellFormed P = Admissible σ → (s t : Term) → WellFormed σ s → WellFormed σ t → P s t

  -- 000, Lemma 5.4: the order is strict, with AC-equivalence for its equality.
  abbrev pub Irreflexive : Type 0
  Irreflexive = ForWellFormed λ s t. Equivalent σ s t → is_greater σ s t ≡ false

  abbrev pub Transitive : Type 0
  Transitive =
      ForWellFormed λ s t. (u : Term) → WellFormed σ u → is_greater σ s t ≡ true → is_greater σ t u ≡ true →
      is_greater σ s u ≡ true

  -- 01, "Two comparisons are alike": neither the order nor the mark tells AC-equivalent terms apart.
  abbrev pub OrderInvariant : Type 0
  OrderInvariant =
      ForWellFormed λ s t. (s' t' : Term) → Equivalent σ s s' → Equivalent σ t t' → is_greater σ s t ≡ is_greater σ s' t'

  abbrev pub MarkInvariant : Type 0
  MarkInvariant =
      ForWellFormed λ s t. (s' t' : Term) → Equivalent σ s s' → Equivalent σ t t' → mark σ s t ≡ mark σ s' t'

  -- 01: "Exactly one mark holds": what a mark asks holds exactly if it is the computed one.
  abbrev pub ExactlyOneMark : Type 0
  ExactlyOneMark = ForWellFormed λ s t. (k : ℕ) → Marked σ k s t ↔ (mark σ s t ≡ k)

  -- 01: "s is greater than t if one of them holds", of the marks 1 to 6; 02: and of mark 11.
  abbrev pub DecreasingMarks : Type 0
  DecreasingMarks = ForWellFormed λ s t. is_greater σ s t ≡ true ↔ (is_decreasing (mark σ s t) ≡ true)

  -- 02, order 3: a rule has mark 7 exactly if the variable test answers a variable.
  abbrev pub MarkSeven : Type 0
  MarkSeven = ForWellFormed λ s t. mark σ s t ≡ 7 ↔ (first_oftener σ s t < variable_count)

  -- 01: "9 the sides are AC-equal".
  abbrev pub MarkNine : Type 0
  MarkNine = ForWellFormed λ s t. mark σ s t ≡ 9 ↔ Equivalent σ s t

  -- AC-equivalence of two terms by that of their parts.
  pub record EquivalenceUnfolds : Type 0 where
    pub both_variables : (x y : ℕ) → is_equivalent σ (var x) (var y) ≡ eqb x y
    pub variable_left : (x g : ℕ) (ts : Terms) → is_equivalent σ (var x) (app g ts) ≡ false
    pub variable_right : (f y : ℕ) (ss : Terms) → is_equivalent σ (app f ss) (var y) ≡ false
    pub applications : (f g : ℕ) (ss ts : Terms) →
        is_equivalent σ (app f ss) (app g ts) ≡ (eqb f g && arguments_alike σ (is_equivalent σ) f ss ts)

  -- 01: "Terms, argument rows and bags are compared through one another".
  abbrev pub OrderUnfolds : Type 0
  OrderUnfolds = (s t : Term) → is_greater σ s t ≡ ltb 0 (decreasing_mark σ (is_equivalent σ) (is_greater σ) s t)

  -- 01: "The order is Definition 5.1 of source document 000"; with coefficients it is Definition 8.1.
  abbrev pub TestDecidesArticle : Type 0
  TestDecidesArticle = ForWellFormed λ s t. is_greater σ s t ≡ true ↔ Greater σ s t

  -- 000, Theorem 5.12: of two expressions one is greater, or they are AC-equivalent.
  abbrev pub TotalOnExpressions : Type 0
  TotalOnExpressions =
      ForWellFormed λ s t. Ground s → Ground t →
      ExactlyOne (is_greater σ s t ≡ true) (Equivalent σ s t) (is_greater σ t s ≡ true)

  -- 000, Lemma 5.5: a term is greater than each of its proper parts, which fill the contexts other than the hole.
  abbrev pub GreaterThanParts : Type 0
  GreaterThanParts =
      Admissible σ → (f : ℕ) (ss : List Term) (c : Context) (ts : List Term) (t : Term) →
      WellFormed σ (fill (inside f ss c ts) t) → is_greater σ (fill (inside f ss c ts) t) t ≡ true

  -- 01, "Kept by contexts"; 000, Lemma 5.7.
  abbrev pub ClosedUnderContexts : Type 0
  ClosedUnderContexts =
      Admissible σ → (c : Context) (s t : Term) → ExpressionContext σ c → Expression σ s → Expression σ t →
      is_greater σ s t ≡ true → is_greater σ (fill c s) (fill c t) ≡ true

  -- 000, Lemma 5.9, for the substitutions of 01: they put an expression for each variable.
  abbrev pub ClosedUnderSubstitutions : Type 0
  ClosedUnderSubstitutions =
      ForWellFormed λ s t. (τ : Substitution) → ExpressionSubstitution σ τ → is_greater σ s t ≡ true →
      is_greater σ (substitute τ s) (substitute τ t) ≡ true
