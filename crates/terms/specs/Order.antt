-- The AC-compatible Knuth-Bendix order, the marks 1 to 11, and the margin.
-- Renders: 01, "The order", from "Marks 1 to 6 need" to "Exactly one mark holds"; "Comparing": "the margin: left weight
-- minus right weight, signed"; 02, order 8, mark 11: "It counts as falling, also for parts compared within, and is
-- tested before 10"; order 9, which is Definition 8.1 of 000. 01 takes the order from Definition 5.1 of 000.
use Rattle.std.specs.Prelude.{List, ◌++◌, Bool, true, false, cond, ◌&&◌, not, ℕ, suc, zero, ℤ, length, eqb, ltb, leb}
use Rattle.std.proofs.Math.IntN.{sub_ℕ}
use Rattle.multisets.specs.Multiset.{choose, cancel, multiset_equal, multiset_greater, row_greater}
use Rattle.terms.specs.Signature.{Signature, symbol_of}
use Rattle.terms.specs.Term.{Term, size, row, weight, variable_coefficient, variable_count, flattenings, is_var}
use Rattle.terms.specs.Term.Term.{var, app}
use Rattle.terms.specs.Equivalence.{is_equivalent}
use Rattle.terms.specs.Iterated.{is_power}

abbrev pub variables : List Term → List Term
variables ts = choose is_var ts

module _ (σ : Signature) where
  -- None of the variables below n occurs oftener in t, counted with the coefficients.
  unfoldable pub none_oftener : ℕ → Term → Term → Bool
  none_oftener zero s t = true
  none_oftener (suc x) s t = leb (variable_coefficient σ x t) (variable_coefficient σ x s) && none_oftener x s t

  abbrev pub root_above : ℕ → Term → Bool
  root_above f (var x) = false
  root_above f (app g ts) = ltb (symbol_of σ f).precedence (symbol_of σ g).precedence

  abbrev pub root_below : ℕ → Term → Bool
  root_below f (var x) = false
  root_below f (app g ts) = ltb (symbol_of σ g).precedence (symbol_of σ f).precedence

  -- 01: the high part, and the terms with root rank below f.
  abbrev pub high_part : ℕ → List Term → List Term
  high_part f ts = choose (root_above f) ts

  abbrev pub low_part : ℕ → List Term → List Term
  low_part f ts = choose (root_below f) ts

  module _ (like : Term → Term → Bool) where
    -- T's high part joined with T's variables less S's variables.
    abbrev pub joined_high : ℕ → List Term → List Term → List Term
    joined_high f ss ts = high_part f ts ++ (cancel like (variables ss) (variables ts)).right

    -- S's high part and that are AC-equal, one for one.
    abbrev pub high_equal : ℕ → List Term → List Term → Bool
    high_equal f ss ts = multiset_equal like (high_part f ss) (joined_high f ss ts)

    module _ (greater : Term → Term → Bool) where
      -- S's high part is above that.
      abbrev pub high_greater : ℕ → List Term → List Term → Bool
      high_greater f ss ts = multiset_greater like greater (high_part f ss) (joined_high f ss ts)

      -- S's terms with root rank below f are above T's such terms.
      abbrev pub low_greater : ℕ → List Term → List Term → Bool
      low_greater f ss ts = multiset_greater like greater (low_part f ss) (low_part f ts)

      -- Marks 4 to 6, for flattenings for f; 0 where none holds.
      unfoldable pub flattened_mark : ℕ → List Term → List Term → ℕ
      flattened_mark f ss ts =
          cond (high_greater f ss ts) 4
          (cond (high_equal f ss ts)
          (cond (ltb (length ts) (length ss)) 5
          (cond (eqb (length ts) (length ss) && low_greater f ss ts) 6 0))
          0)

      -- Marks 2 to 6 and 11, for equal weights; 0 where none holds.
      unfoldable pub root_mark : Term → Term → ℕ
      root_mark (var x) t = 0
      root_mark (app f ss) (var y) = cond (is_power f y (app f ss)) 11 0
      root_mark (app f ss) (app g ts) =
          cond (ltb (symbol_of σ g).precedence (symbol_of σ f).precedence) 2
          (cond (eqb f g)
          (cond (symbol_of σ f).ac
          (flattened_mark f (flattenings f ss) (flattenings f ts))
          (cond (row_greater like greater (row ss) (row ts)) 3 0))
          0)

      -- Marks 1 to 6 and 11; 0 where none holds.
      unfoldable pub decreasing_mark : Term → Term → ℕ
      decreasing_mark s t =
          cond (none_oftener variable_count s t)
          (cond (ltb (weight σ t) (weight σ s)) 1
          (cond (eqb (weight σ t) (weight σ s)) (root_mark s t) 0))
          0

  -- The order, down to depth n. At depth 0 nothing is greater; no term of n nodes has a part that deep.
  unfoldable pub is_greater_to : ℕ → Term → Term → Bool
  is_greater_to zero s t = false
  is_greater_to (suc n) s t = ltb 0 (decreasing_mark (is_equivalent σ) (is_greater_to n) s t)

  unfoldable pub is_greater : Term → Term → Bool
  is_greater s t = is_greater_to (size s) s t

  unfoldable pub mark : Term → Term → ℕ
  mark s t =
      let m = decreasing_mark (is_equivalent σ) is_greater s t in
      cond (ltb 0 m && ltb m 7) m
      (cond (not (none_oftener variable_count s t)) 7
      (cond (ltb (weight σ s) (weight σ t)) 8
      (cond (is_equivalent σ s t) 9
      (cond (eqb m 11) 11 10))))

  abbrev pub margin : Term → Term → ℤ
  margin s t = sub_ℕ (weight σ s) (weight σ t)
