-- Any two expressions compare: one is greater, or they are AC-equivalent.
--     flattened_compared     flattenings compare where their elements do
--     exactly-one           two expressions compare in exactly one way
use mathlib.Core.List.{List, []}
use mathlib.Core.Logic.{◌⊎◌, inl, inr, ⊎_elim}
use mathlib.Core.Path.{◌≡◌, sym, ap, ◌∙◌}
use mathlib.Core.Bool.{Bool, true, false, not, false≢true}
use Prim.Native.Nat.{ℕ, suc, zero, ◌+◌, ◌≤◌, ◌<◌}
use native.Mathlib.Omega.{arith}
use lib.ListN.{length}
use Rattle.multisets.specs.Multiset.{choose, multiset_equal, row_equal, multiset_greater, row_greater}
use Rattle.terms.specs.Signature.{Signature, symbol_of, Admissible}
use Rattle.terms.specs.Term.{Term, Terms, row, size, sizes, flattenings, weight, WellFormed, Expression}
use Rattle.terms.specs.Term.Term.{var, app}
use Rattle.terms.specs.Equivalence.{Equivalent, arguments_alike, is_equivalent}
use Rattle.terms.specs.Equivalence.Equivalent.{back}
use Rattle.terms.specs.Order.{variables, root_above, root_below, high_part, low_part, high_equal, is_greater}
use Rattle.theory.specs.Statements.{ExactlyOne}
use Rattle.multisets.proofs.Relations.{by_test, by_order, IsEquivalence, IsStrictOrder, Compared}
use Rattle.multisets.proofs.Relations.Compared.{above, alike, below}
use Rattle.multisets.proofs.MultisetLaws.{bit, count, multiset_equal-counts, multiset_equal-equivalence}
use Rattle.multisets.proofs.Totality.{Total, multiset_compared, row_compared}
use Rattle.multisets.proofs.MultisetMaps.{choose-member}
use Rattle.multisets.proofs.SumLaws.{sum-split}
use Rattle.terms.proofs.TermLaws.{size-pos, row-each, flattenings-each, row-smaller, flattenings-smaller, Each}
use Rattle.terms.proofs.TermLaws.{formed-parts}
use Rattle.terms.proofs.FlatteningLaws.{NotRoot, flattenings-roots}
use Rattle.terms.proofs.EquivalenceLaws.{arguments_alike-agree, is_equivalent-of-arguments}
use Rattle.terms.proofs.EquivalenceSound.{is_equivalent→Equivalent}
use Rattle.terms.proofs.VariableLaws.{not-ground, none_oftener-ground, expressions}
use Rattle.theory.proofs.RootTests.{high-not-low, place, root-apart}
use Rattle.theory.proofs.RootTests.Placed.{placed_above, placed_own, placed_below}
use Rattle.theory.proofs.DecreasesView.{FlattenedDecreases, RootDecreases, is_greater-view}
use Rattle.theory.proofs.DecreasesView.Decreases.{by_weight, by_root}
use Rattle.theory.proofs.DecreasesView.FlattenedDecreases.{by_length, by_low}
use Rattle.theory.proofs.DecreasesView.RootDecreases.{by_precedence, by_row, by_flattening}
use Rattle.theory.proofs.FormedLaws.{like_formed, like_formed-equivalence, like-formed}
use Rattle.theory.proofs.StrictOrder.{greater-not-equivalent, greater-asym, greater_formed, greater_formed-order}
use Rattle.theory.proofs.StrictOrder.{formed-view, greater_formed-view}
use Rattle.theory.proofs.FlattenedLaws.{no-variables, flattened-high, flattened-level}

-- ---- flattenings

-- Every element is high or low.
abbrev Parted : Signature → ℕ → List Term → Type 0
Parted σ f = Each (λ (a : Term). root_above σ f a ≡ not (root_below σ f a))

module _ (σ : Signature) (like : Term → Term → Bool) (E : IsEquivalence like) (greater : Term → Term → Bool)
    (O : IsStrictOrder like greater) (f : ℕ) where
  count-parts : (l : List Term) → Parted σ f l → (a : Term) →
      count like a l ≡ count like a (high_part σ f l) + count like a (low_part σ f l)
  count-parts l p a =
      sum-split (λ b. bit (like a b)) (root_above σ f) (root_below σ f) l (high-not-low σ f)
      λ b m h k. absurd (false≢true (sym h ∙ p b m ∙ ap not k))

  -- The one is above the other, they are equal, or the other is above.
  abbrev FlattenedCompared : List Term → List Term → Type 0
  FlattenedCompared ss ts =
      FlattenedDecreases σ like greater f ss ts ⊎
      ((multiset_equal like ss ts ≡ true) ⊎ FlattenedDecreases σ like greater f ts ss)

  module _ (ss ts : List Term) (i : variables ss ≡ []) (j : variables ts ≡ []) (p : Parted σ f ss) (q : Parted σ f ts)
      (total : Total like E greater O ss ts) where
    level : multiset_equal like (high_part σ f ss) (high_part σ f ts) ≡ true → high_equal σ like f ss ts ≡ true
    level = flattened-level σ like E f greater O ss ts j

    level-back : multiset_equal like (high_part σ f ss) (high_part σ f ts) ≡ true → high_equal σ like f ts ss ≡ true
    level-back e = flattened-level σ like E f greater O ts ss i ((multiset_equal-equivalence like E).symmetric e)

    parts : (r : Term → Bool) → Compared (multiset_equal like) (multiset_greater like greater) (choose r ss) (choose r ts)
    parts r =
        multiset_compared like E greater O (choose r ss) (choose r ts)
        λ a b m n. total a b (choose-member r ss m).0 (choose-member r ts n).0

    parts-equal : multiset_equal like (high_part σ f ss) (high_part σ f ts) ≡ true →
        multiset_equal like (low_part σ f ss) (low_part σ f ts) ≡ true → multiset_equal like ss ts ≡ true
    parts-equal d e =
        (multiset_equal-counts like E ss ts).1
        λ a. omega (
          arith,
          count-parts ss p a,
          count-parts ts q a,
          (multiset_equal-counts like E (high_part σ f ss) (high_part σ f ts)).0 d a,
          (multiset_equal-counts like E (low_part σ f ss) (low_part σ f ts)).0 e a,
        )

    by_lows : multiset_equal like (high_part σ f ss) (high_part σ f ts) ≡ true → length ts ≡ length ss →
        Compared (multiset_equal like) (multiset_greater like greater) (low_part σ f ss) (low_part σ f ts) →
        FlattenedCompared ss ts
    by_lows e h (above g) = inl (by_low (level e) h g)
    by_lows e h (alike d) = inr (inl (parts-equal e d))
    by_lows e h (below g) = inr (inr (by_low (level-back e) (sym h) g))

    by_highs : Compared (multiset_equal like) (multiset_greater like greater) (high_part σ f ss) (high_part σ f ts) →
        FlattenedCompared ss ts
    by_highs (above g) = inl (flattened-high σ like E f greater O ss ts j g)
    by_highs (below g) = inr (inr (flattened-high σ like E f greater O ts ss i g))
    by_highs (alike e) =
        by_order (length ts) (length ss) (λ h. inl (by_length (level e) h))
        λ h. by_order (length ss) (length ts) (λ k. inr (inr (by_length (level-back e) k)))
        λ k. by_lows e (omega arith) (parts (root_below σ f))

    flattened_compared : FlattenedCompared ss ts
    flattened_compared = by_highs (parts (root_above σ f))

-- ---- expressions

module _ (σ : Signature) (A : Admissible σ) where
  abbrev E : IsEquivalence (like_formed σ)
  E = like_formed-equivalence σ

  abbrev O : IsStrictOrder (like_formed σ) (greater_formed σ)
  O = greater_formed-order σ A

  abbrev TermsCompared : Term → Term → Type 0
  TermsCompared = Compared (is_equivalent σ) (is_greater σ)

  held : {a b : Term} → WellFormed σ a → WellFormed σ b → TermsCompared a b →
      Compared (like_formed σ) (greater_formed σ) a b
  held {a} {b} v w (above g) = above ((greater_formed-view σ a b).1 (v, w, g))
  held {a} {b} v w (alike e) = alike (sym (like-formed σ a b v w) ∙ e)
  held {a} {b} v w (below g) = below ((greater_formed-view σ b a).1 (w, v, g))

  root-greater : {s t : Term} → Expression σ s → Expression σ t → weight σ t ≡ weight σ s →
      RootDecreases σ (like_formed σ) (greater_formed σ) s t → is_greater σ s t ≡ true
  root-greater {s} {t} v w e r =
      (formed-view σ s t v.0 w.0).1 (by_root (record { none = none_oftener-ground σ s t w.1; weights = e }) r)

  -- Two terms with one root and equal weights, whose parts compare.
  module _ (f : ℕ) (ss ts : Terms) (v : Expression σ (app f ss)) (w : Expression σ (app f ts))
      (even : weight σ (app f ts) ≡ weight σ (app f ss))
      (ih : (a b : Term) → size a ≤ sizes ss → Expression σ a → Expression σ b → TermsCompared a b) where
    arguments-level : arguments_alike σ (like_formed σ) f ss ts ≡ true → TermsCompared (app f ss) (app f ts)
    arguments-level e =
        alike (is_equivalent-of-arguments σ f ss ts (arguments_alike-agree σ (WellFormed σ) (WellFormed σ)
        (is_equivalent σ) (like_formed σ) (like-formed σ) f ss ts (formed-parts σ (app f ss) v.0)
        (formed-parts σ (app f ts) w.0) ∙ e))

    rows : (symbol_of σ f).ac ≡ false → TermsCompared (app f ss) (app f ts)
    rows c =
        go (row_compared (like_formed σ) E (greater_formed σ) O (row ss) (row ts) (v.0.1 ∙ sym w.0.1)
        λ a b m n. let x = row-each (expressions σ) a ss ((expressions σ).inner f ss v) m in
        let y = row-each (expressions σ) b ts ((expressions σ).inner f ts w) n in
        held x.0 y.0 (ih a b (row-smaller ss a m) x y))
      where
        go : Compared (row_equal (like_formed σ)) (row_greater (like_formed σ) (greater_formed σ)) (row ss) (row ts) →
            TermsCompared (app f ss) (app f ts)
        go (above g) = above (root-greater v w even (by_row c g))
        go (alike e) = arguments-level (rw c e)
        go (below g) = below (root-greater w v (sym even) (by_row c g))

    elements : (us : Terms) → Expression σ (app f us) → Each (Expression σ) (flattenings f us)
    elements us e a = flattenings-each (expressions σ) a us f ((expressions σ).inner f us e)

    variable-free : (us : Terms) → Expression σ (app f us) → variables (flattenings f us) ≡ []
    variable-free us e = no-variables (flattenings f us) λ a m. (elements us e a m).1

    -- An element of a flattening has a root of a higher or of a lower precedence.
    parted : (us : Terms) → Expression σ (app f us) → Parted σ f (flattenings f us)
    parted us e a m = high-or-low a (elements us e a m) (flattenings-roots f us a m)
      where
        high-or-low : (a : Term) → Expression σ a → NotRoot f a → root_above σ f a ≡ not (root_below σ f a)
        high-or-low (var x) e r = absurd (not-ground x e.1)
        high-or-low (app g us) e r = root-apart σ f g A v.0.0 e.0.0 r us

    flat : (symbol_of σ f).ac ≡ true → TermsCompared (app f ss) (app f ts)
    flat c =
        ⊎_elim (λ d. above (root-greater v w even (by_flattening c d)))
        (⊎_elim (λ e. arguments-level (rw c e)) λ d. below (root-greater w v (sym even) (by_flattening c d)))
        (flattened_compared σ (like_formed σ) E (greater_formed σ) O f (flattenings f ss) (flattenings f ts)
        (variable-free ss v) (variable-free ts w) (parted ss v) (parted ts w)
        λ a b m n. let x = elements ss v a m in
        let y = elements ts w b n in
        held x.0 y.0 (ih a b (flattenings-smaller ss f a m) x y))

    one-root : TermsCompared (app f ss) (app f ts)
    one-root = by_test (symbol_of σ f).ac flat rows

  heavier : (s t : Term) → Expression σ t → weight σ t < weight σ s → is_greater σ s t ≡ true
  heavier s t w h = (is_greater-view σ s t).1 (by_weight (none_oftener-ground σ s t w.1) h)

  by_size : (n : ℕ) (s t : Term) → size s ≤ n → Expression σ s → Expression σ t → TermsCompared s t
  by_size zero s t l v w = absurd (omega (arith, size-pos s))
  by_size (suc n) (var x) t l v w = absurd (not-ground x v.1)
  by_size (suc n) (app f ss) (var y) l v w = absurd (not-ground y w.1)
  by_size (suc n) (app f ss) (app g ts) l v w =
      by_order (weight σ (app g ts)) (weight σ (app f ss)) (λ h. above (heavier (app f ss) (app g ts) w h))
      λ h. by_order (weight σ (app f ss)) (weight σ (app g ts)) (λ k. below (heavier (app g ts) (app f ss) v k))
      λ k. let even : weight σ (app g ts) ≡ weight σ (app f ss) = omega arith in
      elim (place σ f g A v.0.0 w.0.0) [
        | placed_above i ↦ below (root-greater w v (sym even) (by_precedence i))
        | placed_below i ↦ above (root-greater v w even (by_precedence i))
        | placed_own e ↦ rw (← e) (one-root f ss ts v (rw (← e) at w) (rw (← e) at even)
            λ a b m. by_size n a b (omega arith))
      ]

  pub exactly-one : (s t : Term) → Expression σ s → Expression σ t →
      ExactlyOne (is_greater σ s t ≡ true) (Equivalent σ s t) (is_greater σ t s ≡ true)
  exactly-one s t (v, g) (w, h) = go (by_size (size s) s t (omega arith) (v, g) (w, h))
    where
      go : TermsCompared s t → ExactlyOne (is_greater σ s t ≡ true) (Equivalent σ s t) (is_greater σ t s ≡ true)
      go (above g) = inl (g, greater-not-equivalent σ A s t v w g, greater-asym σ A s t v w g)
      go (alike e) =
          let d = is_equivalent→Equivalent σ A.ac_binary s t v w e in
          inr (inl (
            λ g. greater-not-equivalent σ A s t v w g d,
            d,
            λ g. greater-not-equivalent σ A t s w v g (back d),
          ))
      go (below g) =
          inr (inr (λ h. greater-asym σ A t s w v g h, λ d. greater-not-equivalent σ A t s w v g (back d), g))
