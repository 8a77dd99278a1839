-- Marks 4 to 6 by counts, without the difference of the variables.
--     upper_part, upper-counts                    the high part with the variables
--     joined-counts                              the high part with the surplus of the variables
--     Level, ByCounts                            the three cases by counts
--     counts-of-flattened, flattened-of-counts   they are the cases of FlattenedDecreases
-- That they are a strict order is in FlattenedOrder.
use mathlib.Core.List.{List, ◌++◌}
use mathlib.Core.Logic.{◌⊎◌, inl, inr, ⊎_elim}
use mathlib.Core.Path.{◌≡◌, refl}
use mathlib.Core.Bool.{Bool, true}
use Prim.Native.Nat.{ℕ, ◌+◌, ◌-◌, ◌≤◌, ◌<◌}
use native.Mathlib.Omega.{arith}
use lib.ListN.{length}
use Rattle.multisets.specs.Multiset.{cancel, multiset_greater}
use Rattle.terms.specs.Signature.{Signature}
use Rattle.terms.specs.Term.{Term, is_var}
use Rattle.terms.specs.Term.Term.{var, app}
use Rattle.terms.specs.Order.{variables, root_above, high_part, joined_high, high_equal, low_greater}
use Rattle.multisets.proofs.Relations.{by_order, IsEquivalence, IsStrictOrder}
use Rattle.multisets.proofs.MultisetLaws.{count, count-append, cancel-difference, multiset_equal-counts}
use Rattle.multisets.proofs.MultisetOrder.{Dominates, multiset_greater-counts, multiset_greater-mono}
use Rattle.multisets.proofs.MultisetMaps.{choose-out}
use Rattle.theory.proofs.RootTests.{KeepsRoots, above-test, root_test-respects, is_var-respects}
use Rattle.theory.proofs.DecreasesView.{FlattenedDecreases}
use Rattle.theory.proofs.DecreasesView.FlattenedDecreases.{by_high, by_length, by_low}

-- The high part and the variables.
abbrev pub upper_part : Signature → ℕ → List Term → List Term
upper_part σ f ts = high_part σ f ts ++ variables ts

module _ (σ : Signature) (like : Term → Term → Bool) (f : ℕ) where
  -- As many in the high part, and no more variables.
  pub record Level (ss ts : List Term) : Type 0 where
    pub highs : (a : Term) → count like a (high_part σ f ss) ≡ count like a (high_part σ f ts)
    pub fewer : (a : Term) → count like a (variables ts) ≤ count like a (variables ss)

module _ (σ : Signature) (like greater : Term → Term → Bool) (f : ℕ) where
  -- Marks 4 to 6: mark 4 as two comparisons, without the variables and with them.
  pub data ByCounts (ss ts : List Term) : Type 0 where
    higher : multiset_greater like greater (high_part σ f ss) (high_part σ f ts) ≡ true →
        multiset_greater like greater (upper_part σ f ss) (upper_part σ f ts) ≡ true →
        ByCounts ss ts
    longer : Level σ like f ss ts → length ts < length ss → ByCounts ss ts
    lower : Level σ like f ss ts → length ts ≡ length ss → low_greater σ like greater f ss ts ≡ true → ByCounts ss ts

module _ (σ : Signature) (like : Term → Term → Bool) (E : IsEquivalence like) (f : ℕ) where
  pub upper-counts : (ss : List Term) (a : Term) →
      count like a (upper_part σ f ss) ≡ count like a (high_part σ f ss) + count like a (variables ss)
  upper-counts ss a = count-append like a (high_part σ f ss) (variables ss)

  pub joined-counts : (ss ts : List Term) (a : Term) →
      count like a (joined_high σ like f ss ts) ≡
      count like a (high_part σ f ts) + (count like a (variables ts) - count like a (variables ss))
  joined-counts ss ts a =
      omega (
        arith,
        count-append like a (high_part σ f ts) (cancel like (variables ss) (variables ts)).right,
        (cancel-difference like E (variables ss) (variables ts)).counts a,
      )

  -- A term is not both in high parts and among variables.
  pub one-kind : KeepsRoots like → (a : Term) →
      ((ss : List Term) → count like a (high_part σ f ss) ≡ 0) ⊎ ((ss : List Term) → count like a (variables ss) ≡ 0)
  one-kind roots (var x) =
      inl λ ss. choose-out like E (root_above σ f) (root_test-respects roots (above-test σ f)) (var x) ss refl
  one-kind roots (app g us) = inr λ ss. choose-out like E is_var (is_var-respects roots) (app g us) ss refl

-- ---- marks 5 and 6

module _ (σ : Signature) (like : Term → Term → Bool) (E : IsEquivalence like) (roots : KeepsRoots like) (f : ℕ)
    (ss ts : List Term) where
  pub level-of-equal : high_equal σ like f ss ts ≡ true → Level σ like f ss ts
  level-of-equal e = record { highs = λ a. (go a).0; fewer = λ a. (go a).1 }
    where
      go : (a : Term) → (count like a (high_part σ f ss) ≡ count like a (high_part σ f ts)) ×
          (count like a (variables ts) ≤ count like a (variables ss))
      go a =
          let c = joined-counts σ like E f ss ts a in
          let d = (multiset_equal-counts like E (high_part σ f ss) (joined_high σ like f ss ts)).0 e a in
          ⊎_elim (λ h. omega (arith, h ss, h ts)) (λ h. omega (arith, h ss, h ts)) (one-kind σ like E f roots a)

  equal-of-level : Level σ like f ss ts → high_equal σ like f ss ts ≡ true
  equal-of-level v =
      (multiset_equal-counts like E (high_part σ f ss) (joined_high σ like f ss ts)).1
      λ a. omega (arith, joined-counts σ like E f ss ts a, v.highs a, v.fewer a)

-- ---- mark 4

module _ (σ : Signature) (like : Term → Term → Bool) (E : IsEquivalence like) (roots : KeepsRoots like)
    (greater : Term → Term → Bool) (O : IsStrictOrder like greater)
    (lowest : (x : ℕ) (t : Term) → greater (var x) t ≡ true → ⊥) (f : ℕ) (ss ts : List Term) where
  surplus-joined : (a : Term) → count like a (high_part σ f ts) < count like a (high_part σ f ss) →
      count like a (joined_high σ like f ss ts) < count like a (high_part σ f ss)
  surplus-joined a h =
      ⊎_elim (λ k. absurd (omega (arith, k ss)))
      (λ k. omega (arith, joined-counts σ like E f ss ts a, k ts)) (one-kind σ like E f roots a)

  -- What stands above something is no variable.
  surplus-high : (a b : Term) → greater a b ≡ true →
      count like a (upper_part σ f ts) < count like a (upper_part σ f ss) →
      count like a (joined_high σ like f ss ts) < count like a (high_part σ f ss)
  surplus-high (var x) b g h = absurd (lowest x b g)
  surplus-high (app i us) b g h =
      let none = choose-out like E is_var (is_var-respects roots) (app i us) in
      surplus-joined (app i us) (omega (
        arith,
        upper-counts σ like E f ss (app i us),
        upper-counts σ like E f ts (app i us),
        none ss refl,
        none ts refl,
      ))

  dominates-of-higher : Dominates like greater (high_part σ f ss) (high_part σ f ts) →
      Dominates like greater (upper_part σ f ss) (upper_part σ f ts) →
      Dominates like greater (high_part σ f ss) (joined_high σ like f ss ts)
  dominates-of-higher c d = record {
    top = let (s, k) = c.top in (s, surplus-joined s k);
    over = λ t h. by_order (count like t (high_part σ f ss)) (count like t (high_part σ f ts))
        (λ l. let (s, k, g) = c.over t l in (s, surplus-joined s k, g))
        λ l. let (s, k, g) = d.over t (omega (
          arith,
          joined-counts σ like E f ss ts t,
          upper-counts σ like E f ss t,
          upper-counts σ like E f ts t,
        )) in
        (s, surplus-high s t g k, g);
  }

  -- ---- the cases

  pub counts-of-flattened : FlattenedDecreases σ like greater f ss ts → ByCounts σ like greater f ss ts
  counts-of-flattened (by_high e) =
      higher (multiset_greater-mono like E greater O (high_part σ f ss) (joined_high σ like f ss ts) (high_part σ f ss)
      (high_part σ f ts) (λ a. omega (arith, joined-counts σ like E f ss ts a)) e)
      (multiset_greater-mono like E greater O (high_part σ f ss) (joined_high σ like f ss ts) (upper_part σ f ss)
      (upper_part σ f ts) (λ a. omega (
        arith,
        joined-counts σ like E f ss ts a,
        upper-counts σ like E f ss a,
        upper-counts σ like E f ts a,
      )) e)
  counts-of-flattened (by_length e h) = longer (level-of-equal σ like E roots f ss ts e) h
  counts-of-flattened (by_low e h g) = lower (level-of-equal σ like E roots f ss ts e) h g

  pub flattened-of-counts : ByCounts σ like greater f ss ts → FlattenedDecreases σ like greater f ss ts
  flattened-of-counts (higher d e) =
      by_high ((multiset_greater-counts like E greater O (high_part σ f ss) (joined_high σ like f ss ts)).1
      (dominates-of-higher ((multiset_greater-counts like E greater O (high_part σ f ss) (high_part σ f ts)).0 d)
      ((multiset_greater-counts like E greater O (upper_part σ f ss) (upper_part σ f ts)).0
      e)))
  flattened-of-counts (longer v h) = by_length (equal-of-level σ like E roots f ss ts v) h
  flattened-of-counts (lower v h g) = by_low (equal-of-level σ like E roots f ss ts v) h g
