-- Marks 4 to 6 of two lists whose elements are variables or have roots above f: the whole lists are compared.
--     Upper, flattened_mark-whole     such lists; one of the marks holds exactly if the one is above the other
use mathlib.Core.List.{List}
use mathlib.Core.Logic.{⊎_elim}
use mathlib.Core.Path.{◌≡◌, refl, sym, ap, ◌∙◌}
use mathlib.Core.Bool.{Bool, true, false, not, false≢true}
use Prim.Native.Nat.{ℕ, ◌+◌, ◌-◌, ◌≤◌, ◌<◌}
use native.Mathlib.Omega.{arith}
use lib.Dec.{ltb}
use Rattle.multisets.specs.Multiset.{multiset_greater}
use Rattle.terms.specs.Signature.{Signature}
use Rattle.terms.specs.Term.{Term, is_var}
use Rattle.terms.specs.Term.Term.{var, app}
use Rattle.terms.specs.Order.{variables, root_above, root_below, high_part, joined_high, high_equal, flattened_mark}
use Rattle.multisets.proofs.Relations.{same_test, IsEquivalence, IsStrictOrder}
use Rattle.multisets.proofs.MultisetLaws.{bit, count, multiset_equal-counts, multiset_equal-length}
use Rattle.multisets.proofs.MultisetOrder.{multiset_greater-counts, multiset_greater-mono, multiset-covered}
use Rattle.multisets.proofs.MultisetOrder.{multiset-part}
use Rattle.multisets.proofs.MultisetMaps.{choose-none, choose-out}
use Rattle.multisets.proofs.SumLaws.{sum-split, length-lt}
use Rattle.terms.proofs.TermLaws.{Each}
use Rattle.theory.proofs.RootTests.{KeepsRoots, above-test, is_var-respects, not-both}
use Rattle.theory.proofs.DecreasesView.{FlattenedDecreases, flattened-of-mark, mark-of-flattened}
use Rattle.theory.proofs.DecreasesView.FlattenedDecreases.{by_high, by_length, by_low}
use Rattle.theory.proofs.FlattenedCounts.{joined-counts, one-kind}

-- Every element is a variable or has a root above f.
abbrev pub Upper : Signature → ℕ → List Term → Type 0
Upper σ f = Each (λ (a : Term). (root_above σ f a ≡ not (is_var a)) × (root_below σ f a ≡ false))

module _ (σ : Signature) (like : Term → Term → Bool) (E : IsEquivalence like) (roots : KeepsRoots like)
    (greater : Term → Term → Bool) (O : IsStrictOrder like greater)
    (lowest : (x : ℕ) (t : Term) → greater (var x) t ≡ true → ⊥) (f : ℕ) where
  abbrev C : Term → List Term → ℕ
  C = count like

  whole-counts : (l : List Term) → Upper σ f l → (a : Term) → C a l ≡ C a (high_part σ f l) + C a (variables l)
  whole-counts l u a =
      sum-split (λ b. bit (like a b)) (root_above σ f) is_var l (not-both (above-test σ f))
      λ b m h k. absurd (false≢true (sym h ∙ (u b m).0 ∙ ap not k))

  module _ (ss ts : List Term) (u : Upper σ f ss) (v : Upper σ f ts) where
    abbrev joined : List Term
    joined = joined_high σ like f ss ts

    counts : (a : Term) →
        (C a ss ≡ C a (high_part σ f ss) + C a (variables ss)) ×
        (C a ts ≡ C a (high_part σ f ts) + C a (variables ts)) ×
        (C a joined ≡ C a (high_part σ f ts) + (C a (variables ts) - C a (variables ss)))
    counts a = (whole-counts ss u a, whole-counts ts v a, joined-counts σ like E f ss ts a)

    fewer : high_equal σ like f ss ts ≡ true → (a : Term) → C a ts ≤ C a ss
    fewer e a = omega (arith, counts a, (multiset_equal-counts like E (high_part σ f ss) joined).0 e a)

    whole-of-flattened : FlattenedDecreases σ like greater f ss ts → multiset_greater like greater ss ts ≡ true
    unfolding multiset_greater
    whole-of-flattened (by_high g) =
        multiset_greater-mono like E greater O (high_part σ f ss) joined ss ts (λ a. omega (arith, counts a)) g
    whole-of-flattened (by_length e h) =
        ⊎_elim (λ g. g) (λ d. absurd (omega (arith, multiset_equal-length like E ss ts d)))
        (multiset-part like E greater O ss ts (fewer e))
    whole-of-flattened (by_low e h g) =
        absurd (false≢true (rw (choose-none (root_below σ f) ss λ a m. (u a m).1) at g))

    -- What the high part of S lacks, S lacks; what is in surplus and above something is so in the high part.
    lacks : (a : Term) → C a (high_part σ f ss) < C a joined → C a ss < C a ts
    lacks a h =
        let c = counts a in
        ⊎_elim (λ n. omega (arith, n ss, n ts)) (λ n. omega (arith, n ss, n ts)) (one-kind σ like E f roots a)

    exceeds : (a b : Term) → greater a b ≡ true → C a ts < C a ss → C a joined < C a (high_part σ f ss)
    exceeds (var x) b g h = absurd (lowest x b g)
    exceeds (app i us) b g h =
        let none = choose-out like E is_var (is_var-respects roots) (app i us) in
        omega (arith, counts (app i us), none ss refl, none ts refl)

    flattened-of-whole : multiset_greater like greater ss ts ≡ true → FlattenedDecreases σ like greater f ss ts
    flattened-of-whole g =
        let d = (multiset_greater-counts like E greater O ss ts).0 g in
        ⊎_elim by_high (λ e. by_length e (length-lt like E ss ts (fewer e) d.top.0 d.top.1))
        (multiset-covered like E greater O (high_part σ f ss) joined
        λ t k. let (s, j, h) = d.over t (lacks t k) in (s, exceeds s t h j, h))

    pub flattened_mark-whole : ltb 0 (flattened_mark σ like greater f ss ts) ≡ multiset_greater like greater ss ts
    flattened_mark-whole =
        same_test (ltb 0 (flattened_mark σ like greater f ss ts)) (multiset_greater like greater ss ts)
        (λ e. whole-of-flattened (flattened-of-mark σ like greater f ss ts e))
        λ e. mark-of-flattened σ like greater f ss ts (flattened-of-whole e)
