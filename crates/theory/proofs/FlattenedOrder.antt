-- Marks 4 to 6 are a strict order on flattenings for one AC symbol, up to equality of multisets.
--     flattened-trans, flattened-irrefl   transitive, irreflexive
use mathlib.Core.List.{List}
use mathlib.Core.Path.{◌≡◌, refl, ◌∙◌}
use mathlib.Core.Bool.{Bool, true}
use Prim.Native.Nat.{ℕ, ◌≤◌}
use native.Mathlib.Omega.{arith}
use Rattle.multisets.specs.Multiset.{multiset_equal, multiset_greater}
use Rattle.terms.specs.Signature.{Signature}
use Rattle.terms.specs.Term.{Term}
use Rattle.terms.specs.Term.Term.{var}
use Rattle.terms.specs.Order.{high_part}
use Rattle.multisets.proofs.Relations.{IsEquivalence, IsStrictOrder}
use Rattle.multisets.proofs.MultisetLaws.{count, multiset_equal-length}
use Rattle.multisets.proofs.MultisetOrder.{multiset_greater-mono, multiset_greater-order}
use Rattle.theory.proofs.RootTests.{KeepsRoots, above-test, below-test, parts-equal}
use Rattle.theory.proofs.DecreasesView.{FlattenedDecreases}
use Rattle.theory.proofs.FlattenedCounts.{upper_part, Level, ByCounts, upper-counts, counts-of-flattened}
use Rattle.theory.proofs.FlattenedCounts.{flattened-of-counts}
use Rattle.theory.proofs.FlattenedCounts.ByCounts.{higher, longer, lower}

module _ (σ : Signature) (like : Term → Term → Bool) (E : IsEquivalence like) (roots : KeepsRoots like)
    (greater : Term → Term → Bool) (O : IsStrictOrder like greater) (f : ℕ) where
  M : IsStrictOrder (multiset_equal like) (multiset_greater like greater)
  M = multiset_greater-order like E greater O

  level-refl : (ss : List Term) → Level σ like f ss ss
  level-refl ss = record { highs = λ a. refl; fewer = λ a. omega arith }

  level-trans : {ss ts us : List Term} → Level σ like f ss ts → Level σ like f ts us →
      Level σ like f ss us
  level-trans v w =
      record { highs = λ a. v.highs a ∙ w.highs a; fewer = λ a. omega (arith, v.fewer a, w.fewer a) }

  level-upper : {ss ts : List Term} → Level σ like f ss ts → (a : Term) →
      count like a (upper_part σ f ts) ≤ count like a (upper_part σ f ss)
  level-upper {ss} {ts} v a =
      omega (arith, v.highs a, v.fewer a, upper-counts σ like E f ss a, upper-counts σ like E f ts a)

  -- More on the left and less on the right.
  higher-shift : {ss ts ss' ts' : List Term} → Level σ like f ss' ss → Level σ like f ts ts' →
      multiset_greater like greater (high_part σ f ss) (high_part σ f ts) ≡ true →
      multiset_greater like greater (upper_part σ f ss) (upper_part σ f ts) ≡ true → ByCounts σ like greater f ss' ts'
  higher-shift {ss} {ts} {ss'} {ts'} v w d e =
      higher (multiset_greater-mono like E greater O (high_part σ f ss) (high_part σ f ts) (high_part σ f ss')
      (high_part σ f ts') (λ a. omega (arith, v.highs a, w.highs a)) d)
      (multiset_greater-mono like E greater O (upper_part σ f ss) (upper_part σ f ts) (upper_part σ f ss')
      (upper_part σ f ts') (λ a. omega (arith, level-upper v a, level-upper w a)) e)

  counts-trans : {ss ts us : List Term} → ByCounts σ like greater f ss ts → ByCounts σ like greater f ts us →
      ByCounts σ like greater f ss us
  counts-trans (higher d e) (higher d' e') = higher (M.transitive d d') (M.transitive e e')
  counts-trans {ss} (higher d e) (longer w k) = higher-shift (level-refl ss) w d e
  counts-trans {ss} (higher d e) (lower w k g) = higher-shift (level-refl ss) w d e
  counts-trans {us} (longer v h) (higher d e) = higher-shift v (level-refl us) d e
  counts-trans (longer v h) (longer w k) = longer (level-trans v w) (omega arith)
  counts-trans (longer v h) (lower w k g) = longer (level-trans v w) (omega arith)
  counts-trans {us} (lower v h c) (higher d e) = higher-shift v (level-refl us) d e
  counts-trans (lower v h c) (longer w k) = longer (level-trans v w) (omega arith)
  counts-trans (lower v h c) (lower w k g) = lower (level-trans v w) (omega arith) (M.transitive c g)

  counts-irrefl : {ss ts : List Term} → ByCounts σ like greater f ss ts → multiset_equal like ss ts ≡ true → ⊥
  counts-irrefl {ss} {ts} (higher d e) h = M.irreflexive d (parts-equal E roots (above-test σ f) ss ts h)
  counts-irrefl {ss} {ts} (longer v k) h = omega (arith, multiset_equal-length like E ss ts h)
  counts-irrefl {ss} {ts} (lower v k g) h = M.irreflexive g (parts-equal E roots (below-test σ f) ss ts h)

  module _ (lowest : (x : ℕ) (t : Term) → greater (var x) t ≡ true → ⊥) where
    pub flattened-trans : {ss ts us : List Term} → FlattenedDecreases σ like greater f ss ts →
        FlattenedDecreases σ like greater f ts us →
        FlattenedDecreases σ like greater f ss us
    flattened-trans {ss} {ts} {us} d e =
        flattened-of-counts σ like E roots greater O lowest f ss us (counts-trans
        (counts-of-flattened σ like E roots greater O lowest f ss ts d)
        (counts-of-flattened σ like E roots greater O lowest f ts us e))

    pub flattened-irrefl : {ss ts : List Term} → FlattenedDecreases σ like greater f ss ts →
        multiset_equal like ss ts ≡ true → ⊥
    flattened-irrefl {ss} {ts} d = counts-irrefl (counts-of-flattened σ like E roots greater O lowest f ss ts d)
