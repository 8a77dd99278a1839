-- Neither the order nor the mark sees the names of variables.
--     root_mark-along                    the marks 2 to 6 and 11 after a renaming, over tests of the renamed parts
--     none_oftener-rename                the test of occurrences
--     greater-rename, mark-rename       the order and the mark, of terms over some variables
--     greater-renamed, mark-renamed     of two well-formed terms; equivalent-renamed, of any two
use mathlib.Core.List.{List, ◌++◌, map, map-append}
use mathlib.Core.Path.{◌≡◌, refl, sym, ap, ap₂, ◌∙◌}
use mathlib.Core.Bool.{Bool}
use Prim.Native.Nat.{ℕ, suc, zero, ◌<◌}
use native.Mathlib.Omega.{arith}
use lib.Dec.{ltb}
use lib.ListN.{length-map}
use Rattle.multisets.specs.Multiset.{Rest, cancel, multiset_equal, multiset_greater}
use Rattle.terms.specs.Signature.{Signature}
use Rattle.terms.specs.Term.{Term, row, size, occurrences, is_var, flattenings, variable_count, variable_coefficient}
use Rattle.terms.specs.Term.{WellFormed}
use Rattle.terms.specs.Term.Term.{var, app}
use Rattle.terms.specs.Equivalence.{is_equivalent}
use Rattle.terms.specs.Order.{none_oftener, variables, root_above, root_below, high_part, low_part, joined_high, high_equal}
use Rattle.terms.specs.Order.{high_greater, low_greater, flattened_mark, root_mark, decreasing_mark, is_greater_to}
use Rattle.terms.specs.Order.{is_greater, mark}
use Rattle.terms.specs.Renaming.{rename, OccursIn, OneToOneOn, WithinCount}
use Rattle.multisets.proofs.Relations.{by_order, same_test}
use Rattle.multisets.proofs.MapLaws.{along, choose-map, cancel-map, multiset_equal-map, multiset_greater-map}
use Rattle.multisets.proofs.MapLaws.{row_greater-map}
use Rattle.terms.proofs.TermLaws.{AgreeOn}
use Rattle.terms.proofs.OrderLaws.{none_oftener-facts, decreasing_mark-agree}
use Rattle.terms.proofs.VariableLaws.{occurrences-past, coefficient-none}
use Rattle.terms.proofs.RenamingLaws.{size-rename, weight-rename, row-renames, flattenings-rename, is_var-rename}
use Rattle.terms.proofs.RenamingLaws.{root_above-rename, root_below-rename, Over, over-parts, coefficient-rename}
use Rattle.terms.proofs.RenamingLaws.{occurrences-renamed, over-var, is_power-rename, is_equivalent-rename}

module _ (σ : Signature) (ρ : ℕ → ℕ) (like : Term → Term → Bool) where
  abbrev like' : Term → Term → Bool
  like' = along (rename ρ) like

  -- ---- flattenings

  module _ (f : ℕ) where
    high-rename : (l : List Term) → high_part σ f (map (rename ρ) l) ≡ map (rename ρ) (high_part σ f l)
    high-rename = choose-map (rename ρ) (root_above σ f) (root_above σ f) (root_above-rename ρ σ f)

    low-rename : (l : List Term) → low_part σ f (map (rename ρ) l) ≡ map (rename ρ) (low_part σ f l)
    low-rename = choose-map (rename ρ) (root_below σ f) (root_below σ f) (root_below-rename ρ σ f)

    variables-rename : (l : List Term) → variables (map (rename ρ) l) ≡ map (rename ρ) (variables l)
    variables-rename = choose-map (rename ρ) is_var is_var (is_var-rename ρ)

    joined-rename : (ss ts : List Term) →
        joined_high σ like f (map (rename ρ) ss) (map (rename ρ) ts) ≡ map (rename ρ) (joined_high σ like' f ss ts)
    joined-rename ss ts =
        ap₂ ◌++◌ (high-rename ts)
        (ap₂ (λ (l m : List Term). (cancel like l m).right) (variables-rename ss) (variables-rename ts)
        ∙ ap (λ (r : Rest Term). r.right) (cancel-map (rename ρ) like (variables ss) (variables ts)))
        ∙ sym (map-append (rename ρ) (high_part σ f ts) (cancel like' (variables ss) (variables ts)).right)

    high_equal-along : (ss ts : List Term) →
        high_equal σ like f (map (rename ρ) ss) (map (rename ρ) ts) ≡ high_equal σ like' f ss ts
    high_equal-along ss ts =
        ap₂ (multiset_equal like) (high-rename ss) (joined-rename ss ts)
        ∙ multiset_equal-map (rename ρ) like (high_part σ f ss) (joined_high σ like' f ss ts)

  module _ (greater : Term → Term → Bool) where
    abbrev greater' : Term → Term → Bool
    greater' = along (rename ρ) greater

    module _ (f : ℕ) (ss ts : List Term) where
      high_greater-along : high_greater σ like greater f (map (rename ρ) ss) (map (rename ρ) ts) ≡
          high_greater σ like' greater' f ss ts
      high_greater-along =
          ap₂ (multiset_greater like greater) (high-rename f ss) (joined-rename f ss ts)
          ∙ multiset_greater-map (rename ρ) like greater (high_part σ f ss) (joined_high σ like' f ss ts)

      low_greater-along : low_greater σ like greater f (map (rename ρ) ss) (map (rename ρ) ts) ≡
          low_greater σ like' greater' f ss ts
      low_greater-along =
          ap₂ (multiset_greater like greater) (low-rename f ss) (low-rename f ts)
          ∙ multiset_greater-map (rename ρ) like greater (low_part σ f ss) (low_part σ f ts)

      flattened_mark-along : flattened_mark σ like greater f (map (rename ρ) ss) (map (rename ρ) ts) ≡
          flattened_mark σ like' greater' f ss ts
      unfolding flattened_mark
      flattened_mark-along =
          rw (
            high_greater-along,
            high_equal-along f ss ts,
            low_greater-along,
            length-map ss (rename ρ),
            length-map ts (rename ρ),
          )

-- ---- a renaming that is one to one on the variables, and that keeps to the numbers that a variable may have

module _ (ρ : ℕ → ℕ) (Among : ℕ → Type 0) (one : (x y : ℕ) → Among x → Among y → ρ x ≡ ρ y → x ≡ y)
    (before : (x : ℕ) → Among x → x < variable_count) (after : (x : ℕ) → Among x → ρ x < variable_count) where
  module _ (σ : Signature) (like greater : Term → Term → Bool) where
    root_mark-along : (s t : Term) → Over Among s → Over Among t →
        root_mark σ like greater (rename ρ s) (rename ρ t) ≡
        root_mark σ (along (rename ρ) like) (along (rename ρ) greater) s t
    unfolding root_mark
    root_mark-along (var x) t h k = refl
    root_mark-along (app f ss) (var y) h k = rw (is_power-rename ρ Among one f y (over-var Among y k) (app f ss) h)
    root_mark-along (app f ss) (app g ts) h k =
        rw (
          row-renames ρ ss,
          row-renames ρ ts,
          flattenings-rename ρ f ss,
          flattenings-rename ρ f ts,
          flattened_mark-along σ ρ like greater f (flattenings f ss) (flattenings f ts),
          row_greater-map (rename ρ) like greater (row ss) (row ts),
        )

  none_oftener-rename : (σ : Signature) (s t : Term) → Over Among s → Over Among t →
      none_oftener σ variable_count (rename ρ s) (rename ρ t) ≡ none_oftener σ variable_count s t
  none_oftener-rename σ s t h k =
      let kept : (x : ℕ) → 0 < occurrences x t →
      (variable_coefficient σ (ρ x) (rename ρ s) ≡ variable_coefficient σ x s) ×
      (variable_coefficient σ (ρ x) (rename ρ t) ≡ variable_coefficient σ x t) =
      λ x o. (coefficient-rename ρ Among one σ x (k x o) s h, coefficient-rename ρ Among one σ x (k x o) t k) in
      same_test (none_oftener σ variable_count (rename ρ s) (rename ρ t)) (none_oftener σ variable_count s t)
      (λ e. (none_oftener-facts σ variable_count s t).1 λ x l. by_order 0 (occurrences x t)
      (λ o. omega (
        arith,
        kept x o,
        (none_oftener-facts σ variable_count (rename ρ s) (rename ρ t)).0 e (ρ x) (after x (k x o)),
      ))
      λ o. omega (arith, coefficient-none σ x t (omega arith)))
      λ e. (none_oftener-facts σ variable_count (rename ρ s) (rename ρ t)).1 λ y l.
      by_order 0 (occurrences y (rename ρ t))
      (λ o. let (x, q, i) = occurrences-renamed ρ y t o in
      rw (← q) (omega (arith, kept x i, (none_oftener-facts σ variable_count s t).0 e x (before x (k x i)))))
      λ o. omega (arith, coefficient-none σ y (rename ρ t) (omega arith))

  module _ (σ : Signature) where
    abbrev like : Term → Term → Bool
    like = is_equivalent σ

    -- Over an order of the parts that does not see the names.
    decreasing_mark-rename : (greater : Term → Term → Bool) →
        AgreeOn (Over Among) (Over Among) (along (rename ρ) greater) greater → (s t : Term) → Over Among s →
        Over Among t → decreasing_mark σ like greater (rename ρ s) (rename ρ t) ≡ decreasing_mark σ like greater s t
    unfolding decreasing_mark
    decreasing_mark-rename greater agree s t h k =
        rw (
          none_oftener-rename σ s t h k,
          weight-rename ρ σ s,
          weight-rename ρ σ t,
          root_mark-along σ like greater s t h k,
        )
        (decreasing_mark-agree σ (Over Among) (Over Among) (along (rename ρ) like) like
        (is_equivalent-rename ρ Among one σ) (along (rename ρ) greater) greater agree s t (over-parts Among s h)
        (over-parts Among t k))

    is_greater_to-rename : (n : ℕ) (s t : Term) → Over Among s → Over Among t →
        is_greater_to σ n (rename ρ s) (rename ρ t) ≡ is_greater_to σ n s t
    unfolding is_greater_to
    is_greater_to-rename zero s t h k = refl
    is_greater_to-rename (suc n) s t h k =
        ap (ltb 0) (decreasing_mark-rename (is_greater_to σ n) (is_greater_to-rename n) s t h k)

    pub greater-rename : (s t : Term) → Over Among s → Over Among t →
        is_greater σ (rename ρ s) (rename ρ t) ≡ is_greater σ s t
    unfolding is_greater
    greater-rename s t h k = rw (size-rename ρ s) (is_greater_to-rename (size s) s t h k)

    pub mark-rename : (s t : Term) → Over Among s → Over Among t → mark σ (rename ρ s) (rename ρ t) ≡ mark σ s t
    unfolding mark
    mark-rename s t h k =
        rw (
          decreasing_mark-rename (is_greater σ) greater-rename s t h k,
          none_oftener-rename σ s t h k,
          weight-rename ρ σ s,
          weight-rename ρ σ t,
          is_equivalent-rename ρ Among one σ s t h k,
        )

-- ---- two well-formed terms

pub occurring-below : (σ : Signature) (s t : Term) → WellFormed σ s → WellFormed σ t → (x : ℕ) → OccursIn s t x →
    x < variable_count
occurring-below σ s t v w x o =
    by_order x variable_count (λ l. l)
    λ l. absurd (omega (arith, occurrences-past σ x l s v, occurrences-past σ x l t w))

module _ (σ : Signature) (ρ : ℕ → ℕ) (s t : Term) (one : OneToOneOn ρ s t) where
  pub equivalent-renamed : is_equivalent σ (rename ρ s) (rename ρ t) ≡ is_equivalent σ s t
  equivalent-renamed =
      is_equivalent-rename ρ (OccursIn s t) one σ s t (λ x o. omega arith) λ x o. omega arith

  module _ (after : WithinCount ρ s t) (v : WellFormed σ s) (w : WellFormed σ t) where
    abbrev before : (x : ℕ) → OccursIn s t x → x < variable_count
    before = occurring-below σ s t v w

    pub greater-renamed : is_greater σ (rename ρ s) (rename ρ t) ≡ is_greater σ s t
    greater-renamed =
        greater-rename ρ (OccursIn s t) one before after σ s t (λ x o. omega arith) λ x o. omega arith

    pub less-renamed : is_greater σ (rename ρ t) (rename ρ s) ≡ is_greater σ t s
    less-renamed =
        greater-rename ρ (OccursIn s t) one before after σ t s (λ x o. omega arith) λ x o. omega arith

    pub mark-renamed : mark σ (rename ρ s) (rename ρ t) ≡ mark σ s t
    mark-renamed = mark-rename ρ (OccursIn s t) one before after σ s t (λ x o. omega arith) λ x o. omega arith
