-- The order by its cases: what each of the marks 1 to 6 and 11 asks, over any likeness and any order of the parts.
--     FlattenedDecreases, RootDecreases, Decreases   marks 4 to 6; 2 to 6 and 11; 1 to 6 and 11
--     root-of-iterated                               f^k(x) is above x
--     arguments_mark, root_mark-same                   the computed mark of two terms with one root
--     decreases-view, is_greater-view                 the cases say what the computed mark and the order say
use mathlib.Core.List.{List}
use mathlib.Core.Logic.{◌↔◌}
use mathlib.Core.Path.{◌≡◌, ap, ◌∙◌}
use mathlib.Core.Bool.{Bool, true, false, cond, ◌&&◌, and-eq-true_iff as both, false≢true}
use Prim.Native.Nat.{ℕ, ◌<◌}
use native.Mathlib.Omega.{arith}
use lib.ListN.{length}
use lib.Dec.{eqb, ltb}
use borrow.Author.Tests.{eq-eqb, eqb-true, le-ltb, lt-ltb, ltb-true}
use Rattle.multisets.specs.Multiset.{row_greater}
use Rattle.terms.specs.Signature.{Signature, symbol_of}
use Rattle.terms.specs.Term.{Term, Terms, row, flattenings, variable_count, weight}
use Rattle.terms.specs.Term.Term.{var, app}
use Rattle.terms.specs.Equivalence.{is_equivalent}
use Rattle.terms.specs.Iterated.{Iterated, is_power}
use Rattle.terms.specs.Iterated.Iterated.{once, more}
use Rattle.terms.specs.Order.{none_oftener, high_equal, high_greater, low_greater, flattened_mark, root_mark}
use Rattle.terms.specs.Order.{decreasing_mark, is_greater}
use Rattle.terms.specs.Marks.{NoneOftener, Balanced}
use Rattle.multisets.proofs.Relations.{by_test, eqb-self}
use Rattle.terms.proofs.OrderLaws.{none_oftener-facts, is_greater-unfolds}

module _ (σ : Signature) (like greater : Term → Term → Bool) where
  -- Marks 4 to 6, for flattenings for f.
  pub data FlattenedDecreases (f : ℕ) (ss ts : List Term) : Type 0 where
    by_high : high_greater σ like greater f ss ts ≡ true → FlattenedDecreases f ss ts
    by_length : high_equal σ like f ss ts ≡ true → length ts < length ss → FlattenedDecreases f ss ts
    by_low : high_equal σ like f ss ts ≡ true → length ts ≡ length ss → low_greater σ like greater f ss ts ≡ true →
        FlattenedDecreases f ss ts

  -- Marks 2 to 6 and 11, for equal weights.
  pub data RootDecreases : Term → Term → Type 0 where
    by_precedence : {f g : ℕ} {ss ts : Terms} → (symbol_of σ g).precedence < (symbol_of σ f).precedence →
        RootDecreases (app f ss) (app g ts)
    by_row : {f : ℕ} {ss ts : Terms} → (symbol_of σ f).ac ≡ false → row_greater like greater (row ss) (row ts) ≡ true →
        RootDecreases (app f ss) (app f ts)
    by_flattening : {f : ℕ} {ss ts : Terms} → (symbol_of σ f).ac ≡ true →
        FlattenedDecreases f (flattenings f ss) (flattenings f ts) →
        RootDecreases (app f ss) (app f ts)
    by_power : {f x : ℕ} {ss : Terms} → is_power f x (app f ss) ≡ true → RootDecreases (app f ss) (var x)

  -- Marks 1 to 6 and 11.
  pub data Decreases (s t : Term) : Type 0 where
    by_weight : NoneOftener σ s t → weight σ t < weight σ s → Decreases s t
    by_root : Balanced σ s t → RootDecreases s t → Decreases s t

  pub root-of-iterated : {f x : ℕ} {s t : Term} → Iterated f s t → is_power f x s ≡ true → RootDecreases s (var x)
  root-of-iterated once e = by_power e
  root-of-iterated (more i) e = by_power e

-- ---- the computed mark

module _ (σ : Signature) (like greater : Term → Term → Bool) where
  -- The marks 3 to 6 of two terms with the root f; 0 where none holds.
  abbrev pub arguments_mark : ℕ → Terms → Terms → ℕ
  arguments_mark f ss ts =
      cond (symbol_of σ f).ac (flattened_mark σ like greater f (flattenings f ss) (flattenings f ts))
      (cond (row_greater like greater (row ss) (row ts)) 3 0)

  pub root_mark-same : (f : ℕ) (ss ts : Terms) →
      root_mark σ like greater (app f ss) (app f ts) ≡ arguments_mark f ss ts
  unfolding root_mark
  root_mark-same f ss ts = rw (le-ltb (symbol_of σ f).precedence (symbol_of σ f).precedence (omega arith), eqb-self)

  module _ (f : ℕ) (ss ts : List Term) where
    pub flattened-of-mark : ltb 0 (flattened_mark σ like greater f ss ts) ≡ true →
        FlattenedDecreases σ like greater f ss ts
    unfolding flattened_mark
    flattened-of-mark h =
        by_test (high_greater σ like greater f ss ts) by_high
        λ e. by_test (high_equal σ like f ss ts)
        (λ d. by_test (ltb (length ts) (length ss)) (λ c. by_length d (ltb-true _ _ c))
        λ c. by_test (eqb (length ts) (length ss) && low_greater σ like greater f ss ts)
        (λ b. let k = (both (eqb (length ts) (length ss)) _).0 b in by_low d (eqb-true _ _ k.0) k.1)
        λ b. absurd (false≢true (rw (e, d, c, b) at h)))
        λ d. absurd (false≢true (rw (e, d) at h))

    pub mark-of-flattened : FlattenedDecreases σ like greater f ss ts →
        ltb 0 (flattened_mark σ like greater f ss ts) ≡ true
    unfolding flattened_mark
    mark-of-flattened (by_high e) = rw e
    mark-of-flattened (by_length d c) =
        by_test (high_greater σ like greater f ss ts) (λ e. rw e) λ e. rw (e, d, lt-ltb _ _ c)
    mark-of-flattened (by_low d c b) =
        by_test (high_greater σ like greater f ss ts) (λ e. rw e)
        λ e. rw (e, d, le-ltb (length ts) (length ss) (omega arith), eq-eqb _ _ c, b)

  root-of-mark : (s t : Term) → ltb 0 (root_mark σ like greater s t) ≡ true → RootDecreases σ like greater s t
  unfolding root_mark
  root-of-mark (var x) t h = absurd (false≢true h)
  root-of-mark (app f ss) (var y) h = by_test (is_power f y (app f ss)) by_power λ e. absurd (false≢true (rw e at h))
  root-of-mark (app f ss) (app g ts) h =
      by_test (ltb (symbol_of σ g).precedence (symbol_of σ f).precedence) (λ e. by_precedence (ltb-true _ _ e))
      λ e. by_test (eqb f g)
      (λ d. rw (← eqb-true f g d) (by_test (symbol_of σ f).ac
      (λ c. by_flattening c (flattened-of-mark f (flattenings f ss) (flattenings f ts) (rw (e, d, c) at h)))
      λ c. by_test (row_greater like greater (row ss) (row ts)) (by_row c)
      λ b. absurd (false≢true (rw (e, d, c, b) at h))))
      λ d. absurd (false≢true (rw (e, d) at h))

  mark-of-root : {s t : Term} → RootDecreases σ like greater s t → ltb 0 (root_mark σ like greater s t) ≡ true
  unfolding root_mark
  mark-of-root (by_precedence h) = rw (lt-ltb _ _ h)
  mark-of-root (by_row {f} {ss} {ts} c b) = ap (ltb 0) (root_mark-same f ss ts) ∙ rw (c, b)
  mark-of-root (by_flattening {f} {ss} {ts} c d) =
      ap (ltb 0) (root_mark-same f ss ts) ∙ rw c (mark-of-flattened f (flattenings f ss) (flattenings f ts) d)
  mark-of-root (by_power e) = rw e

  decreases-of-mark : (s t : Term) → ltb 0 (decreasing_mark σ like greater s t) ≡ true → Decreases σ like greater s t
  unfolding decreasing_mark
  decreases-of-mark s t h =
      by_test (none_oftener σ variable_count s t)
      (λ n. let o = (none_oftener-facts σ variable_count s t).0 n in
      by_test (ltb (weight σ t) (weight σ s)) (λ e. by_weight o (ltb-true _ _ e))
      λ e. by_test (eqb (weight σ t) (weight σ s))
      (λ d. by_root (record { none = o; weights = eqb-true _ _ d }) (root-of-mark s t (rw (n, e, d) at h)))
      λ d. absurd (false≢true (rw (n, e, d) at h)))
      λ n. absurd (false≢true (rw n at h))

  mark-of-decreases : (s t : Term) → Decreases σ like greater s t → ltb 0 (decreasing_mark σ like greater s t) ≡ true
  unfolding decreasing_mark
  mark-of-decreases s t (by_weight o e) = rw ((none_oftener-facts σ variable_count s t).1 o, lt-ltb _ _ e)
  mark-of-decreases s t (by_root b r) =
      rw (
        (none_oftener-facts σ variable_count s t).1 b.none,
        le-ltb (weight σ t) (weight σ s) (omega (arith, b.weights)),
        eq-eqb _ _ b.weights,
      )
      (mark-of-root r)

  pub decreases-view : (s t : Term) →
      ltb 0 (decreasing_mark σ like greater s t) ≡ true ↔ Decreases σ like greater s t
  decreases-view s t = (decreases-of-mark s t, mark-of-decreases s t)

pub is_greater-view : (σ : Signature) (s t : Term) →
    is_greater σ s t ≡ true ↔ Decreases σ (is_equivalent σ) (is_greater σ) s t
is_greater-view σ s t = rw (is_greater-unfolds σ s t) (decreases-view σ (is_equivalent σ) (is_greater σ) s t)
