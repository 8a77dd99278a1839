-- Like terms have the same mark, over a likeness that keeps roots and an order of the parts that it is compatible with.
--     SameRoot, Alike         what is asked of like terms
--     flattened_mark-resp      the marks 4 to 6 do not tell equal multisets apart
--     decreasing_mark-resp     the marks 1 to 6 and 11 do not tell like terms apart
use mathlib.Core.List.{List}
use mathlib.Core.Path.{◌≡◌, refl, ap}
use mathlib.Core.Bool.{Bool, true, cond}
use Prim.Native.Nat.{ℕ}
use native.Mathlib.Omega.{arith}
use lib.Dec.{eqb}
use borrow.Author.Tests.{eqb-true}
use Rattle.multisets.specs.Multiset.{multiset_equal, row_equal, multiset_greater, row_greater}
use Rattle.terms.specs.Signature.{Signature, symbol_of}
use Rattle.terms.specs.Term.{Term, Terms, row, variable_coefficient, is_var, flattenings, variable_count, weight}
use Rattle.terms.specs.Term.Term.{var, app}
use Rattle.terms.specs.Equivalence.{arguments_alike}
use Rattle.terms.specs.Iterated.{is_power}
use Rattle.terms.specs.Order.{variables, high_part, joined_high, flattened_mark, root_mark, decreasing_mark}
use Rattle.multisets.proofs.Relations.{by_test, IsEquivalence, IsStrictOrder, like-resp, greater-resp}
use Rattle.multisets.proofs.RowLaws.{row_equal-equivalence, row_greater-order}
use Rattle.multisets.proofs.MultisetLaws.{multiset_equal-counts, multiset_equal-length, multiset_equal-equivalence}
use Rattle.multisets.proofs.MultisetOrder.{multiset_greater-order}
use Rattle.multisets.proofs.MultisetMaps.{multiset_equal-choose}
use Rattle.terms.proofs.OrderLaws.{none_oftener-resp}
use Rattle.theory.proofs.RootTests.{KeepsRoots, above-test, below-test, is_var-respects, parts-equal}
use Rattle.theory.proofs.DecreasesView.{arguments_mark}
use Rattle.theory.proofs.FlattenedCounts.{joined-counts}

module _ (σ : Signature) (like : Term → Term → Bool) where
  pub data SameRoot : Term → Term → Type 0 where
    same_variable : {x : ℕ} → SameRoot (var x) (var x)
    same_symbol : {f : ℕ} {ss ts : Terms} → arguments_alike σ like f ss ts ≡ true → SameRoot (app f ss) (app f ts)

  pub record Alike (s t : Term) : Type 0 where
    pub weights : weight σ s ≡ weight σ t
    pub oftenness : (x : ℕ) → variable_coefficient σ x s ≡ variable_coefficient σ x t
    pub powers : (f x : ℕ) → is_power f x s ≡ is_power f x t
    pub roots : SameRoot s t

module _ (σ : Signature) (like : Term → Term → Bool) (E : IsEquivalence like) (roots : KeepsRoots like)
    (greater : Term → Term → Bool) (O : IsStrictOrder like greater) where
  -- ---- flattenings

  M : IsStrictOrder (multiset_equal like) (multiset_greater like greater)
  M = multiset_greater-order like E greater O

  N : IsEquivalence (multiset_equal like)
  N = multiset_equal-equivalence like E

  module _ (f : ℕ) (ss ts ss' ts' : List Term) (i : multiset_equal like ss ss' ≡ true)
      (j : multiset_equal like ts ts' ≡ true) where
    joined-equal : multiset_equal like (joined_high σ like f ss ts) (joined_high σ like f ss' ts') ≡ true
    joined-equal =
        let vs = multiset_equal-choose like E is_var (is_var-respects roots) in
        (multiset_equal-counts like E (joined_high σ like f ss ts) (joined_high σ like f ss' ts')).1
        λ a. omega (
          arith,
          joined-counts σ like E f ss ts a,
          joined-counts σ like E f ss' ts' a,
          (multiset_equal-counts like E (high_part σ f ts) (high_part σ f ts')).0
              (parts-equal E roots (above-test σ f) ts ts' j) a,
          (multiset_equal-counts like E (variables ss) (variables ss')).0 (vs ss ss' i) a,
          (multiset_equal-counts like E (variables ts) (variables ts')).0 (vs ts ts' j) a,
        )

    pub flattened_mark-resp : flattened_mark σ like greater f ss ts ≡ flattened_mark σ like greater f ss' ts'
    unfolding flattened_mark
    flattened_mark-resp =
        let highs = parts-equal E roots (above-test σ f) ss ss' i in
        rw (
          greater-resp (multiset_equal like) N (multiset_greater like greater) M highs joined-equal,
          like-resp (multiset_equal like) N highs joined-equal,
          multiset_equal-length like E ss ss' i,
          multiset_equal-length like E ts ts' j,
          greater-resp (multiset_equal like) N (multiset_greater like greater) M
              (parts-equal E roots (below-test σ f) ss ss' i) (parts-equal E roots (below-test σ f) ts ts' j),
        )

  -- ---- terms

  arguments-resp : (f : ℕ) (ss ss' ts ts' : Terms) → arguments_alike σ like f ss ss' ≡ true →
      arguments_alike σ like f ts ts' ≡ true →
      arguments_mark σ like greater f ss ts ≡ arguments_mark σ like greater f ss' ts'
  arguments-resp f ss ss' ts ts' p q =
      by_test (symbol_of σ f).ac
      (λ c. rw c (flattened_mark-resp f (flattenings f ss) (flattenings f ts) (flattenings f ss') (flattenings f ts')
      (rw c at p) (rw c at q)))
      λ c. rw (
        c,
        greater-resp (row_equal like) (row_equal-equivalence like E) (row_greater like greater)
            (row_greater-order like E greater O) {a = row ss} {a' = row ss'} {b = row ts} {b' = row ts'}
            (rw c at p) (rw c at q),
      )

  root_mark-resp : {s s' t t' : Term} → ((f x : ℕ) → is_power f x s ≡ is_power f x s') → SameRoot σ like s s' →
      SameRoot σ like t t' → root_mark σ like greater s t ≡ root_mark σ like greater s' t'
  unfolding root_mark
  root_mark-resp h same_variable q = refl
  root_mark-resp h (same_symbol {f} p) (same_variable {x}) = ap (λ (b : Bool). cond b 11 0) (h f x)
  root_mark-resp h (same_symbol {f} {ss} {ts = ss'} p) (same_symbol {f = g} {ss = ts} {ts = ts'} q) =
      by_test (eqb f g)
      (λ e. let d = eqb-true f g e in rw (arguments-resp f ss ss' ts ts' p (rw (← d) at q))) λ e. rw e

  pub decreasing_mark-resp : (s s' t t' : Term) → Alike σ like s s' → Alike σ like t t' →
      decreasing_mark σ like greater s t ≡ decreasing_mark σ like greater s' t'
  unfolding decreasing_mark
  decreasing_mark-resp s s' t t' a b =
      rw (
        none_oftener-resp σ variable_count s s' t t' a.oftenness b.oftenness,
        a.weights,
        b.weights,
        root_mark-resp a.powers a.roots b.roots,
      )
