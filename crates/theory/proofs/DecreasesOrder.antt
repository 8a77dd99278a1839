-- The order's cases are a strict order, over a likeness that keeps roots and an order of the parts in which no variable
-- is greater than anything.
--     decreases-trans, decreases-irrefl   transitive, irreflexive
use mathlib.Core.Path.{◌≡◌, sym, ◌∙◌, ap, refl}
use mathlib.Core.Bool.{Bool, true, false≢true, true≢false}
use Prim.Native.Nat.{ℕ}
use native.Mathlib.Omega.{arith}
use Rattle.multisets.specs.Multiset.{row_equal, row_greater}
use Rattle.terms.specs.Signature.{Signature, Admissible, symbol_of}
use Rattle.terms.specs.Term.{Term, WellFormed}
use Rattle.terms.specs.Term.Term.{var}
use Rattle.terms.specs.Marks.{NoneOftener, Balanced}
use Rattle.multisets.proofs.Relations.{IsEquivalence, IsStrictOrder}
use Rattle.multisets.proofs.RowLaws.{row_greater-order}
use Rattle.terms.proofs.IteratedLaws.{power-of-balanced}
use Rattle.theory.proofs.RootTests.{KeepsRoots}
use Rattle.theory.proofs.DecreasesView.{RootDecreases, Decreases}
use Rattle.theory.proofs.DecreasesView.Decreases.{by_weight, by_root}
use Rattle.theory.proofs.DecreasesView.RootDecreases.{by_precedence, by_row, by_flattening, by_power}
use Rattle.theory.proofs.MarkInvariance.{SameRoot, Alike}
use Rattle.theory.proofs.MarkInvariance.SameRoot.{same_symbol}
use Rattle.theory.proofs.FlattenedOrder.{flattened-trans, flattened-irrefl}

module _ (σ : Signature) (like : Term → Term → Bool) (E : IsEquivalence like) (keeps : KeepsRoots like)
    (greater : Term → Term → Bool) (O : IsStrictOrder like greater) where
  R : IsStrictOrder (row_equal like) (row_greater like greater)
  R = row_greater-order like E greater O

  module _ (lowest : (x : ℕ) (t : Term) → greater (var x) t ≡ true → ⊥) where
    -- Above a variable of its weight stands a power alone.
    root-trans : Admissible σ → {s t u : Term} → WellFormed σ s → WellFormed σ u → Balanced σ s u →
        RootDecreases σ like greater s t → RootDecreases σ like greater t u → RootDecreases σ like greater s u
    root-trans A {u = u} v w z (by_power {f = f} {ss = ss} _) x12 = elim x12 [ ]
    root-trans A v w z (by_precedence {f} h) (by_precedence {g} k) = by_precedence {f = f} {g = g} (omega arith)
    root-trans A v w z (by_precedence h) (by_row c r) = by_precedence h
    root-trans A v w z (by_precedence h) (by_flattening c d) = by_precedence h
    root-trans A v w z (by_precedence {f} {ss} h) (by_power {x} e) = by_power (power-of-balanced σ A x f ss v w z)
    root-trans A v w z (by_row b q) (by_precedence k) = by_precedence k
    root-trans A v w z (by_row b q) (by_row c r) = by_row b (R.transitive q r)
    root-trans A v w z (by_row b q) (by_flattening c d) = absurd (false≢true (sym b ∙ c))
    root-trans A v w z (by_row {f} {ss} b q) (by_power {x} e) = by_power (power-of-balanced σ A x f ss v w z)
    root-trans A v w z (by_flattening b e) (by_precedence k) = by_precedence k
    root-trans A v w z (by_flattening b e) (by_row c r) = absurd (true≢false (sym b ∙ c))
    root-trans A v w z (by_flattening {f} b e) (by_flattening c d) =
        by_flattening b (flattened-trans σ like E keeps greater O f lowest e d)
    root-trans A v w z (by_flattening {f} {ss} b e) (by_power {x} k) = by_power (power-of-balanced σ A x f ss v w z)

    pub decreases-trans : Admissible σ → {s t u : Term} → WellFormed σ s → WellFormed σ u →
        Decreases σ like greater s t → Decreases σ like greater t u → Decreases σ like greater s u
    decreases-trans A {s} {t} {u} v w d e = go d e
      where
        fewer : NoneOftener σ s t → NoneOftener σ t u → NoneOftener σ s u
        fewer n m x h = omega (arith, n x h, m x h)

        go : Decreases σ like greater s t → Decreases σ like greater t u → Decreases σ like greater s u
        go (by_weight n h) (by_weight m k) = by_weight (fewer n m) (omega arith)
        go (by_weight n h) (by_root b r) = by_weight (fewer n b.none) (omega (arith, b.weights))
        go (by_root b q) (by_weight m k) = by_weight (fewer b.none m) (omega (arith, b.weights))
        go (by_root b q) (by_root c r) =
            let z : Balanced σ s u = record { none = fewer b.none c.none; weights = c.weights ∙ b.weights } in
            by_root z (root-trans A v w z q r)

    root-apart : {s t u : Term} → RootDecreases σ like greater s t → SameRoot σ like s u → t ≡ u → ⊥
    root-apart (by_precedence {f} {g} h) (same_symbol a) e = let d : g ≡ f = cc in omega (arith, ap (λ (k : ℕ). (symbol_of σ k).precedence) d)
    root-apart (by_row {ts = ts} c r) (same_symbol {ts = ts'} a) e =
        let d : ts' ≡ ts = cc in R.irreflexive r (rw (c, d) at a)
    root-apart (by_flattening {f} {ts = ts} c h) (same_symbol {ts = ts'} a) e =
        let d : ts' ≡ ts = cc in flattened-irrefl σ like E keeps greater O f lowest h (rw (c, d) at a)
    root-apart (by_power {f} {x} _) (same_symbol a) e = cc

    root-irrefl : {s t : Term} → RootDecreases σ like greater s t → SameRoot σ like s t → ⊥
    root-irrefl d a = root-apart d a refl

    pub decreases-irrefl : {s t : Term} → Decreases σ like greater s t → Alike σ like s t → ⊥
    decreases-irrefl (by_weight n h) a = omega arith
    decreases-irrefl (by_root b r) a = root-irrefl r a.roots
