-- The test of the order gives the article's order, on well-formed terms.
--     not_below-high         the terms not below f are the high part
--     is_greater→Greater     the test gives the article's order
use mathlib.Core.List.{List}
use mathlib.Core.Path.{◌≡◌, refl, sym}
use mathlib.Core.Bool.{true, ◌&&◌, not}
use Prim.Native.Nat.{ℕ, suc, zero, ◌≤◌}
use native.Mathlib.Omega.{arith}
use Rattle.terms.specs.Signature.{Signature, symbol_of, Admissible}
use Rattle.terms.specs.Term.{Term, Terms, row, size, is_var, flattenings, WellFormed}
use Rattle.terms.specs.Term.Term.{var, app}
use Rattle.terms.specs.Equivalence.{Equivalent, is_equivalent}
use Rattle.terms.specs.Order.{root_above, root_below, high_part, low_part, joined_high, high_equal, is_greater}
use Rattle.terms.specs.Article.{Even, MultisetEquivalent, not_below, not_below_joined, Greater}
use Rattle.terms.specs.Article.Greater.{heavier, case0, case1, case2, case3a, case3b, case3c}
use Rattle.multisets.proofs.MultisetMaps.{choose-same}
use Rattle.terms.proofs.TermLaws.{size-pos, row-each, formed, row-smaller, flattenings-smaller, flattenings-formed}
use Rattle.terms.proofs.TermLaws.{Each, each-choose, Parts}
use Rattle.terms.proofs.FlatteningLaws.{NotRoot, flattenings-roots}
use Rattle.terms.proofs.OrderLaws.{each-joined}
use Rattle.terms.proofs.VariableLaws.{none_oftener-everywhere}
use Rattle.terms.proofs.IteratedLaws.{is_power→Iterated}
use Rattle.terms.proofs.Theorems.{test-decides}
use Rattle.theory.proofs.RootTests.{root-apart}
use Rattle.theory.proofs.DecreasesView.{FlattenedDecreases, RootDecreases, Decreases, is_greater-view}
use Rattle.theory.proofs.DecreasesView.Decreases.{by_weight, by_root}
use Rattle.theory.proofs.DecreasesView.FlattenedDecreases.{by_high, by_length, by_low}
use Rattle.theory.proofs.DecreasesView.RootDecreases.{by_precedence, by_row, by_flattening, by_power}
use Rattle.theory.proofs.ArticleTests.{multiset_equal→MultisetEquivalent, multiset_greater→MultisetGreater}
use Rattle.theory.proofs.ArticleTests.{row_greater→LexGreater}

module _ (σ : Signature) (A : Admissible σ) where
  pub not_below-high : (f : ℕ) (ts : Terms) → WellFormed σ (app f ts) →
      not_below σ f (flattenings f ts) ≡ high_part σ f (flattenings f ts)
  not_below-high f ts w =
      choose-same (λ (t : Term). not (is_var t) && not (root_below σ f t)) (root_above σ f) (flattenings f ts)
      λ a m. go a (flattenings-formed σ ts f w.2 a m) (flattenings-roots f ts a m)
    where
      go : (a : Term) → WellFormed σ a → NotRoot f a → (not (is_var a) && not (root_below σ f a)) ≡ root_above σ f a
      go (var x) v r = refl
      go (app g us) v r = sym (root-apart σ f g A w.0 v.0 r us)

  -- ---- from the test, for left terms of at most n nodes

  module _ (n : ℕ) (ih : (a b : Term) → size a ≤ n → WellFormed σ a → WellFormed σ b → is_greater σ a b ≡ true →
      Greater σ a b) where
    abbrev Small : Term → Type 0
    Small a = WellFormed σ a × (size a ≤ n)

    small-parts : (s : Term) → WellFormed σ s → size s ≤ suc n → Parts Small s
    small-parts (var x) v l = tt
    small-parts (app f ss) v l = (
      λ a m. (row-each (formed σ) a ss v.2 m, omega (arith, row-smaller ss a m)),
      λ g a m. (flattenings-formed σ ss g v.2 a m, omega (arith, flattenings-smaller ss g a m)),
    )

    equivalent : (a b : Term) → Small a → WellFormed σ b → is_equivalent σ a b ≡ true → Equivalent σ a b
    equivalent a b p w = (test-decides σ A.ac_binary a b p.0 w).0

    greater : (a b : Term) → Small a → WellFormed σ b → is_greater σ a b ≡ true → Greater σ a b
    greater a b p w = ih a b p.1 p.0 w

    module _ (f : ℕ) (ss ts : Terms) (v : WellFormed σ (app f ss)) (w : WellFormed σ (app f ts))
        (l : size (app f ss) ≤ suc n) (o : Even σ (app f ss) (app f ts)) where
      abbrev S : List Term
      S = flattenings f ss

      abbrev T : List Term
      T = flattenings f ts

      in-S : Each Small S
      in-S = (small-parts (app f ss) v l).1 f

      in-T : Each (WellFormed σ) T
      in-T = flattenings-formed σ ts f w.2

      level-case : high_equal σ (is_equivalent σ) f S T ≡ true →
          MultisetEquivalent σ (not_below σ f S) (not_below_joined σ f S T)
      level-case e =
          rw (not_below-high f ss v, not_below-high f ts w)
          (multiset_equal→MultisetEquivalent σ Small (WellFormed σ) equivalent greater (high_part σ f S)
          (joined_high σ (is_equivalent σ) f S T) (each-choose (root_above σ f) S in-S)
          (each-joined σ (is_equivalent σ) f S T in-T) e)

      flat-case : (symbol_of σ f).ac ≡ true → FlattenedDecreases σ (is_equivalent σ) (is_greater σ) f S T →
          Greater σ (app f ss) (app f ts)
      flat-case c (by_high e) =
          case3a o c (rw (not_below-high f ss v, not_below-high f ts w)
          (multiset_greater→MultisetGreater σ Small (WellFormed σ) equivalent greater (high_part σ f S)
          (joined_high σ (is_equivalent σ) f S T) (each-choose (root_above σ f) S in-S)
          (each-joined σ (is_equivalent σ) f S T in-T) e))
      flat-case c (by_length e h) = case3b o c (level-case e) h
      flat-case c (by_low e h g) =
          case3c o c (level-case e) (sym h)
          (multiset_greater→MultisetGreater σ Small (WellFormed σ) equivalent greater (low_part σ f S) (low_part σ f T)
          (each-choose (root_below σ f) S in-S) (each-choose (root_below σ f) T in-T) g)

    root-case : {s t : Term} → size s ≤ suc n → WellFormed σ s → WellFormed σ t → Even σ s t →
        RootDecreases σ (is_equivalent σ) (is_greater σ) s t → Greater σ s t
    root-case l v w o (by_precedence h) = case1 o h
    root-case l v w o (by_row {f} {ss} {ts} c r) =
        case2 o c (row_greater→LexGreater σ Small (WellFormed σ) equivalent greater (row ss) (row ts)
        (small-parts (app f ss) v l).0 (λ b. row-each (formed σ) b ts w.2) r)
    root-case l v w o (by_flattening {f} {ss} {ts} c d) = flat-case f ss ts v w l o c d
    root-case l v w o (by_power {f} {x} {ss} e) = case0 o (is_power→Iterated f x f ss e)

    decreases-case : (s t : Term) → size s ≤ suc n → WellFormed σ s → WellFormed σ t →
        Decreases σ (is_equivalent σ) (is_greater σ) s t → Greater σ s t
    decreases-case s t l v w (by_weight o h) = heavier (none_oftener-everywhere σ s t w o) h
    decreases-case s t l v w (by_root b r) =
        root-case l v w (record {
          variables = none_oftener-everywhere σ s t w b.none;
          weights = sym b.weights;
        }) r

  by_size : (n : ℕ) (s t : Term) → size s ≤ n → WellFormed σ s → WellFormed σ t → is_greater σ s t ≡ true →
      Greater σ s t
  by_size zero s t l v w e = absurd (omega (arith, size-pos s))
  by_size (suc n) s t l v w e = decreases-case n (by_size n) s t l v w ((is_greater-view σ s t).0 e)

  pub is_greater→Greater : (s t : Term) → WellFormed σ s → WellFormed σ t → is_greater σ s t ≡ true → Greater σ s t
  is_greater→Greater s t = by_size (size s) s t (omega arith)
