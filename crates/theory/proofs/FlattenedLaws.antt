-- Marks 4 to 6 of two lists with the same lists added around, and where the right side has no variable.
--     no-variables                        none among expressions
--     flattened-high, flattened-level     where the right side has no variable, the high parts are compared
--     flattened-around                    the same lists added on both sides keep the marks
use mathlib.Core.List.{List, [], ◌++◌, Memᴰ}
use mathlib.Core.Path.{◌≡◌, ap}
use mathlib.Core.Bool.{Bool, true}
use Prim.Native.Nat.{ℕ, ◌+◌}
use native.Mathlib.Omega.{arith}
use lib.ListN.{length, length-append}
use Rattle.multisets.specs.Multiset.{choose, multiset_equal, multiset_greater}
use Rattle.terms.specs.Signature.{Signature}
use Rattle.terms.specs.Term.{Term, Ground, is_var}
use Rattle.terms.specs.Order.{variables, root_above, root_below, high_part, low_part, joined_high, high_equal}
use Rattle.multisets.proofs.Relations.{IsEquivalence, IsStrictOrder}
use Rattle.multisets.proofs.MultisetLaws.{count, count-append, multiset_equal-counts}
use Rattle.multisets.proofs.MultisetOrder.{multiset_greater-mono}
use Rattle.multisets.proofs.MultisetMaps.{choose-append, choose-none}
use Rattle.terms.proofs.VariableLaws.{is_var-ground}
use Rattle.theory.proofs.DecreasesView.{FlattenedDecreases}
use Rattle.theory.proofs.DecreasesView.FlattenedDecreases.{by_high, by_length, by_low}
use Rattle.theory.proofs.FlattenedCounts.{joined-counts}

pub no-variables : (l : List Term) → ((a : Term) → Memᴰ a l → Ground a) → variables l ≡ []
no-variables l h = choose-none is_var l λ a m. is_var-ground a (h a m)

module _ (σ : Signature) (like : Term → Term → Bool) (E : IsEquivalence like) (f : ℕ) where
  module _ (greater : Term → Term → Bool) (O : IsStrictOrder like greater) where
    -- ---- no variable on the right

    module _ (ss ts : List Term) (n : variables ts ≡ []) where
      joined-high : (a : Term) → count like a (joined_high σ like f ss ts) ≡ count like a (high_part σ f ts)
      joined-high a = omega (arith, joined-counts σ like E f ss ts a, ap (count like a) n)

      pub flattened-high : multiset_greater like greater (high_part σ f ss) (high_part σ f ts) ≡ true →
          FlattenedDecreases σ like greater f ss ts
      flattened-high g =
          by_high (multiset_greater-mono like E greater O (high_part σ f ss) (high_part σ f ts) (high_part σ f ss)
          (joined_high σ like f ss ts) (λ a. omega (arith, joined-high a)) g)

      pub flattened-level : multiset_equal like (high_part σ f ss) (high_part σ f ts) ≡ true →
          high_equal σ like f ss ts ≡ true
      flattened-level e =
          (multiset_equal-counts like E (high_part σ f ss) (joined_high σ like f ss ts)).1
          λ a. omega (arith, joined-high a, (multiset_equal-counts like E (high_part σ f ss) (high_part σ f ts)).0 e a)

    -- ---- lists around

    module _ (ps qs : List Term) where
      abbrev around : List Term → List Term
      around l = ps ++ (l ++ qs)

      number-around : (p : Term → Bool) (a : Term) (l : List Term) →
          count like a (choose p (around l)) ≡
          count like a (choose p ps) + (count like a (choose p l) + count like a (choose p qs))
      number-around p a l =
          rw (choose-append p ps (l ++ qs), choose-append p l qs)
          (omega (
            arith,
            count-append like a (choose p ps) (choose p l ++ choose p qs),
            count-append like a (choose p l) (choose p qs),
          ))

      length-around : (l : List Term) → length (around l) ≡ length ps + (length l + length qs)
      length-around l = simp length-append

      module _ (ss ts : List Term) where
        high-around : (a : Term) →
            count like a (high_part σ f (around ss)) + count like a (joined_high σ like f ss ts) ≡
            count like a (high_part σ f ss) + count like a (joined_high σ like f (around ss) (around ts))
        high-around a =
            omega (
              arith,
              number-around (root_above σ f) a ss,
              number-around (root_above σ f) a ts,
              number-around is_var a ss,
              number-around is_var a ts,
              joined-counts σ like E f ss ts a,
              joined-counts σ like E f (around ss) (around ts) a,
            )

        level-around : high_equal σ like f ss ts ≡ true → high_equal σ like f (around ss) (around ts) ≡ true
        level-around e =
            (multiset_equal-counts like E (high_part σ f (around ss)) (joined_high σ like f (around ss) (around ts))).1
            λ a. omega (
              arith,
              high-around a,
              (multiset_equal-counts like E (high_part σ f ss) (joined_high σ like f ss ts)).0 e a,
            )

        pub flattened-around : FlattenedDecreases σ like greater f ss ts →
            FlattenedDecreases σ like greater f (around ss) (around ts)
        flattened-around (by_high g) =
            by_high (multiset_greater-mono like E greater O (high_part σ f ss) (joined_high σ like f ss ts)
            (high_part σ f (around ss)) (joined_high σ like f (around ss) (around ts))
            (λ a. omega (arith, high-around a)) g)
        flattened-around (by_length e l) =
            by_length (level-around e) (omega (arith, length-around ss, length-around ts))
        flattened-around (by_low e l g) =
            by_low (level-around e) (omega (arith, length-around ss, length-around ts))
            (multiset_greater-mono like E greater O (low_part σ f ss) (low_part σ f ts) (low_part σ f (around ss))
            (low_part σ f (around ts))
            (λ a. omega (arith, number-around (root_below σ f) a ss, number-around (root_below σ f) a ts)) g)
