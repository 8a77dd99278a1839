-- The theorems of the simplifier, as types; those of matching are in MatchingStatements. The proofs stand in
-- proofs/Theorems.antt.
-- Renders: 02, request 14: "Write AC arguments grouped to the right, smallest first. Of all results of one step, AC
-- regrouping allowed, with at most 24 nodes, take the smallest, and go on until no step exists. Under one book and with
-- room enough, AC-equal terms that meet no refusal before 28 give identical words, or both 28."
use mathlib.Core.List.{Memᴰ}
use Rattle.std.specs.Prelude.{◌↔◌, ◌≡◌, ℕ}
use Rattle.terms.specs.Signature.{Signature, NoZeroWeightUnary, Admissible}
use Rattle.terms.specs.Term.{Term, size, weight, Expression}
use Rattle.terms.specs.Equivalence.{Equivalent}
use Rattle.terms.specs.Rewriting.{System, WellFormedRules, AllDecreasing, Step}
use Rattle.simplifying.specs.Canonical.{canonical, Arranged}
use Rattle.simplifying.specs.Reducts.{reducts}
use Rattle.simplifying.specs.Simplifying.{Reduction, Simplification, least_reduct, simplified}
use Rattle.simplifying.specs.Simplifying.Simplification.{normal, stuck}
use Rattle.simplifying.specs.Outcomes.{NoStep, Reaches, AllTooLarge, Reduces, Simplifies}

module _ (σ : Signature) where
  pub record IsCanonical (t u : Term) : Type 0 where
    pub equivalent : Equivalent σ u t
    pub expression : Expression σ u
    pub arranged : Arranged σ u
    pub same_size : size u ≡ size t
    pub same_weight : weight σ u ≡ weight σ t

  -- The canonical form of an expression is AC-equivalent to it, and grouped to the right, smallest first.
  abbrev pub CanonicalForm : Type 0
  CanonicalForm = Admissible σ → (t : Term) → Expression σ t → IsCanonical t (canonical σ t)

  -- There is no other such term.
  abbrev pub CanonicalOnly : Type 0
  CanonicalOnly = Admissible σ → (t u : Term) → Expression σ t → Equivalent σ u t → Arranged σ u → u ≡ canonical σ t

  -- Expressions are AC-equivalent if and only if their canonical forms are identical.
  abbrev pub CanonicalDecides : Type 0
  CanonicalDecides =
      Admissible σ → (s t : Term) → Expression σ s → Expression σ t → Equivalent σ s t ↔ (canonical σ s ≡ canonical σ t)

module _ (R : System) where
  -- 02: under an accepted book, of every variable-free term.
  abbrev pub ForExpressions : (Term → Type 0) → Type 0
  ForExpressions P =
      Admissible R.signature → WellFormedRules R → AllDecreasing R → (s : Term) → Expression R.signature s → P s

  -- A reduct is reached by one step.
  abbrev pub ReductsSound : Type 0
  ReductsSound = ForExpressions λ s. (t : Term) → Memᴰ t (reducts R s) → Step R s t

  -- What is reached by one step is a reduct, up to AC-equivalence.
  abbrev pub ReductsComplete : Type 0
  ReductsComplete =
      ForExpressions λ s. (t : Term) → Step R s t →
      (u : Term) × Memᴰ u (reducts R s) × Equivalent R.signature u t

  module _ (limit : ℕ) where
    -- What one reduction gives is what is asked of it, and does not tell AC-equivalent expressions apart.
    abbrev pub LeastReductExact : Type 0
    LeastReductExact = ForExpressions λ s. (o : Reduction) → (least_reduct R limit s ≡ o) ↔ Reduces R limit s o

    abbrev pub LeastReductInvariant : Type 0
    LeastReductInvariant =
        ForExpressions λ s. (t : Term) → Equivalent R.signature s t → least_reduct R limit s ≡ least_reduct R limit t

    -- What simplifying gives is what is asked of it.
    abbrev pub SimplifiedExact : Type 0
    SimplifiedExact =
        NoZeroWeightUnary R.signature → ForExpressions λ s. (o : Simplification) →
        (simplified R limit s ≡ o) ↔ Simplifies R limit (canonical R.signature s) o

    -- 02: "AC-equal terms that meet no refusal before 28 give identical words, or both 28".
    abbrev pub SimplifiedInvariant : Type 0
    SimplifiedInvariant =
        ForExpressions λ s. (t : Term) → Equivalent R.signature s t → simplified R limit s ≡ simplified R limit t

    -- A result is canonical, is reached by a list of steps, and no step leads on from it.
    abbrev pub SimplifiedNormal : Type 0
    SimplifiedNormal =
        NoZeroWeightUnary R.signature → ForExpressions λ s. (t : Term) → simplified R limit s ≡ normal t →
        Reaches R s t × Arranged R.signature t × NoStep R t

    -- 28: a term is reached from which steps exist, and every result is too large.
    abbrev pub SimplifiedStuck : Type 0
    SimplifiedStuck =
        NoZeroWeightUnary R.signature → ForExpressions λ s. simplified R limit s ≡ stuck →
        (t : Term) × Reaches R s t × AllTooLarge R limit t
