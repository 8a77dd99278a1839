-- Exactly one mark holds, and it is the one that the definition computes.
--     mark-exact, mark-holds      a mark that holds is the computed one; the computed one holds
--     mark-greater                the marks 1 to 6 and 11 are those of the order
--     mark-equivalent             mark 9 is that of AC-equivalent sides
--     mark-resp-like              AC-equivalent sides have the same mark
--     oftener-found, found-oftener     mark 7 is that of the variable test
use mathlib.Core.Logic.{◌↔◌}
use mathlib.Core.Path.{◌≡◌, refl, sym, ◌∙◌}
use mathlib.Core.Bool.{Bool, true, false, cond, ◌&&◌, not, true≢false, and-eq-true_iff as both}
use Prim.Native.Nat.{ℕ, suc, ◌≤◌, ◌<◌}
use native.Mathlib.Omega.{arith}
use lib.ListN.{length}
use lib.Dec.{leb, ltb}
use borrow.Author.Tests.{eq-eqb, eqb-true, leb-true, le-ltb, lt-ltb, ltb-false}
use Rattle.terms.specs.Signature.{Signature, symbol_of, Admissible}
use Rattle.terms.specs.Term.{Term, Terms, flattenings, variable_count, weight, WellFormed}
use Rattle.terms.specs.Term.Term.{var, app}
use Rattle.terms.specs.Equivalence.{Equivalent, is_equivalent}
use Rattle.terms.specs.Order.{none_oftener, high_equal, high_greater, flattened_mark, root_mark, decreasing_mark, is_greater}
use Rattle.terms.specs.Order.{mark}
use Rattle.terms.specs.Oftener.{first_oftener}
use Rattle.terms.specs.Marks.{is_decreasing, NoneOftener, Balanced, Marked}
use Rattle.terms.specs.Marks.Marked.{mark1, mark2, mark3, mark4, mark5, mark6, mark7, mark8, mark9, mark10}
use Rattle.terms.specs.Marks.Marked.{mark11}
use Rattle.multisets.proofs.Relations.{by_test, by_order, refuted, like-resp}
use Rattle.multisets.proofs.MultisetOrder.{multiset_greater-order}
use Rattle.terms.proofs.TermLaws.{flattenings-formed}
use Rattle.terms.proofs.EquivalenceLaws.{is_equivalent-equivalence, is_equivalent-app-var}
use Rattle.terms.proofs.IteratedLaws.{is_power→Iterated, Iterated→is_power, iterated-unary, iterated-weight}
use Rattle.terms.proofs.OrderLaws.{none_oftener-facts, oftener, none_oftener-resp, high_equal-agree, high_greater-agree}
use Rattle.terms.proofs.OrderLaws.{is_greater-unfolds}
use Rattle.terms.proofs.Theorems.{test-decides, measures-respect-equivalence, first-oftener-found}
use Rattle.theory.proofs.DecreasesView.{RootDecreases, Decreases, root-of-iterated, arguments_mark}
use Rattle.theory.proofs.DecreasesView.{root_mark-same, is_greater-view}
use Rattle.theory.proofs.DecreasesView.Decreases.{by_weight, by_root}
use Rattle.theory.proofs.DecreasesView.FlattenedDecreases.{by_high, by_length, by_low}
use Rattle.theory.proofs.DecreasesView.RootDecreases.{by_precedence, by_row, by_flattening, by_power}
use Rattle.theory.proofs.FormedLaws.{like_formed, like_formed-equivalence, like-formed, greater-formed}
use Rattle.theory.proofs.FormedLaws.{alike-of-test}
use Rattle.theory.proofs.StrictOrder.{decreasing_mark-resp-like, is_greater-order, greater_formed}
use Rattle.theory.proofs.StrictOrder.{greater_formed-order}

not-decreasing : (k : ℕ) → is_decreasing k ≡ true → 6 < k → k < 11 → ⊥
not-decreasing k e h i =
    by_test (leb 1 k && leb k 6) (λ t. omega (arith, leb-true k 6 ((both (leb 1 k) _).0 t).1))
    λ t. omega (arith, eqb-true k 11 (rw t at e))

module _ (σ : Signature) where
  -- The marks 7 to 10.
  abbrev other_mark : Bool → Bool → Bool → ℕ
  other_mark none less like = cond (not none) 7 (cond less 8 (cond like 9 10))

  mark-cases : (s t : Term) (k : ℕ) → k < 6 → decreasing_mark σ (is_equivalent σ) (is_greater σ) s t ≡ suc k →
      mark σ s t ≡ suc k
  unfolding mark
  mark-cases s t k h e = rw (e, lt-ltb 0 (suc k) (omega arith), lt-ltb (suc k) 7 (omega arith))

  mark-otherwise : (s t : Term) → is_greater σ s t ≡ false →
      mark σ s t ≡
      other_mark (none_oftener σ variable_count s t) (ltb (weight σ s) (weight σ t)) (is_equivalent σ s t)
  unfolding mark
  mark-otherwise s t e =
      let m = decreasing_mark σ (is_equivalent σ) (is_greater σ) s t in
      let z : m ≡ 0 = omega (arith, ltb-false 0 m (sym (is_greater-unfolds σ s t) ∙ e)) in
      rw z

  not-greater : (s t : Term) → (NoneOftener σ s t → weight σ t ≤ weight σ s → ⊥) → is_greater σ s t ≡ false
  not-greater s t h = refuted (is_greater σ s t) λ e. go ((is_greater-view σ s t).0 e)
    where
      go : Decreases σ (is_equivalent σ) (is_greater σ) s t → ⊥
      go (by_weight n k) = h n (omega arith)
      go (by_root b r) = h b.none (omega (arith, b.weights))

  balanced-mark : {s t : Term} → Balanced σ s t →
      decreasing_mark σ (is_equivalent σ) (is_greater σ) s t ≡ root_mark σ (is_equivalent σ) (is_greater σ) s t
  unfolding decreasing_mark
  balanced-mark {s} {t} b =
      rw (
        (none_oftener-facts σ variable_count s t).1 b.none,
        le-ltb (weight σ t) (weight σ s) (omega (arith, b.weights)),
        eq-eqb (weight σ t) (weight σ s) b.weights,
      )

  root-exact : {s t : Term} (k : ℕ) → k < 6 → Balanced σ s t →
      root_mark σ (is_equivalent σ) (is_greater σ) s t ≡ suc k → mark σ s t ≡ suc k
  root-exact {s} {t} k h b e = mark-cases s t k h (balanced-mark b ∙ e)

  arguments-exact : {f : ℕ} {ss ts : Terms} (k : ℕ) → k < 6 → Balanced σ (app f ss) (app f ts) →
      arguments_mark σ (is_equivalent σ) (is_greater σ) f ss ts ≡ suc k → mark σ (app f ss) (app f ts) ≡ suc k
  arguments-exact {f} {ss} {ts} k h b e =
      root-exact k h b (root_mark-same σ (is_equivalent σ) (is_greater σ) f ss ts ∙ e)

  power-exact : {s : Term} {x : ℕ} → Balanced σ s (var x) →
      RootDecreases σ (is_equivalent σ) (is_greater σ) s (var x) → mark σ s (var x) ≡ 11
  unfolding mark root_mark
  power-exact {s} {x} b (by_power {f} {ss} e) =
      let m : decreasing_mark σ (is_equivalent σ) (is_greater σ) (app f ss) (var x) ≡ 11 = balanced-mark b ∙ rw e in
      rw (
        m,
        (none_oftener-facts σ variable_count (app f ss) (var x)).1 b.none,
        le-ltb (weight σ (app f ss)) (weight σ (var x)) (omega (arith, b.weights)),
        is_equivalent-app-var σ f x ss,
      )

  module _ (A : Admissible σ) where
    -- Bags that are AC-equal one for one are not above one another.
    level-not-high : (f : ℕ) (ss ts : Terms) → WellFormed σ (app f ss) → WellFormed σ (app f ts) →
        high_equal σ (is_equivalent σ) f (flattenings f ss) (flattenings f ts) ≡ true →
        high_greater σ (is_equivalent σ) (is_greater σ) f (flattenings f ss) (flattenings f ts) ≡ false
    level-not-high f ss ts v w e =
        let S = flattenings f ss in
        let T = flattenings f ts in
        let p = flattenings-formed σ ss f v.2 in
        let q = flattenings-formed σ ts f w.2 in
        refuted _ λ h. (multiset_greater-order (like_formed σ) (like_formed-equivalence σ) (greater_formed σ)
        (greater_formed-order σ A)).irreflexive
        (sym (high_greater-agree σ (WellFormed σ) (WellFormed σ) (is_equivalent σ) (like_formed σ) (like-formed σ) f S T p
        q (is_greater σ) (greater_formed σ) (greater-formed σ (is_greater σ))) ∙ h)
        (sym (high_equal-agree σ (WellFormed σ) (WellFormed σ) (is_equivalent σ) (like_formed σ) (like-formed σ) f S T p q)
        ∙ e)

    -- A clause for each mark.
    pub mark-exact : {k : ℕ} {s t : Term} → WellFormed σ s → WellFormed σ t → Marked σ k s t → mark σ s t ≡ k
    unfolding decreasing_mark root_mark flattened_mark
    mark-exact v w (mark1 {s} {t} o h) =
        mark-cases s t 0 (omega arith) (rw ((none_oftener-facts σ variable_count s t).1 o, lt-ltb _ _ h))
    mark-exact v w (mark2 b h) = root-exact 1 (omega arith) b (rw (lt-ltb _ _ h))
    mark-exact v w (mark3 b c h) = arguments-exact 2 (omega arith) b (rw (c, h))
    mark-exact v w (mark4 b c h) = arguments-exact 3 (omega arith) b (rw (c, h))
    mark-exact v w (mark5 {f} {ss} {ts} b c e h) =
        arguments-exact 4 (omega arith) b (rw (c, level-not-high f ss ts v w e, e, lt-ltb _ _ h))
    mark-exact v w (mark6 {f} {ss} {ts} b c e h g) =
        let n = le-ltb (length (flattenings f ts)) (length (flattenings f ss)) (omega arith) in
        arguments-exact 5 (omega arith) b (rw (c, level-not-high f ss ts v w e, e, n, eq-eqb _ _ h, g))
    mark-exact v w (mark7 {s} {t} x h o) =
        mark-otherwise s t (not-greater s t λ n k. omega (arith, n x h))
        ∙ rw (refuted (none_oftener σ variable_count s t)
        λ e. omega (arith, (none_oftener-facts σ variable_count s t).0 e x h))
    mark-exact v w (mark8 {s} {t} o h) =
        mark-otherwise s t (not-greater s t λ n k. omega arith)
        ∙ rw ((none_oftener-facts σ variable_count s t).1 o, lt-ltb _ _ h)
    mark-exact v w (mark9 {s} {t} d) =
        let e = (test-decides σ A.ac_binary s t v w).1 d in
        let i = measures-respect-equivalence σ A.ac_ones s t d in
        mark-otherwise s t (refuted _ λ g. (is_greater-order σ A).irreflexive v w g e)
        ∙ rw (
          (none_oftener-facts σ variable_count s t).1 (λ x k. omega (arith, i.variable_coefficients x)),
          le-ltb (weight σ s) (weight σ t) (omega arith),
          e,
        )
    mark-exact v w (mark10 {s} {t} b h d) =
        mark-otherwise s t h
        ∙ rw (
          (none_oftener-facts σ variable_count s t).1 b.none,
          le-ltb (weight σ s) (weight σ t) (omega arith),
          refuted (is_equivalent σ s t) (λ e. d ((test-decides σ A.ac_binary s t v w).0 e)),
        )
    mark-exact v w (mark11 {f} {x} b z i) =
        power-exact b (root-of-iterated σ (is_equivalent σ) (is_greater σ) i (Iterated→is_power f x i))

    pub marked-of-decreases : {s t : Term} → WellFormed σ s → Decreases σ (is_equivalent σ) (is_greater σ) s t →
        (k : ℕ) × (is_decreasing k ≡ true) × Marked σ k s t
    marked-of-decreases v (by_weight o h) = (1, refl, mark1 o h)
    marked-of-decreases {s} {t} v (by_root b r) = by_roots v b r
      where
        by_roots : {s t : Term} → WellFormed σ s → Balanced σ s t →
            RootDecreases σ (is_equivalent σ) (is_greater σ) s t → (k : ℕ) × (is_decreasing k ≡ true) × Marked σ k s t
        by_roots v b (by_precedence h) = (2, refl, mark2 b h)
        by_roots v b (by_row c h) = (3, refl, mark3 b c h)
        by_roots v b (by_flattening c (by_high h)) = (4, refl, mark4 b c h)
        by_roots v b (by_flattening c (by_length e h)) = (5, refl, mark5 b c e h)
        by_roots v b (by_flattening c (by_low e h g)) = (6, refl, mark6 b c e h g)
        by_roots v b (by_power {f} {x} {ss} e) =
            let i = is_power→Iterated f x f ss e in
            let w : (symbol_of σ f).weight ≡ 0 = omega (arith, iterated-weight σ A i, b.weights) in
            (11, refl, mark11 b (record { unary = iterated-unary σ i v; weightless = w }) i)

    pub decreases-of-marked : {k : ℕ} {s t : Term} → is_decreasing k ≡ true → Marked σ k s t →
        Decreases σ (is_equivalent σ) (is_greater σ) s t
    decreases-of-marked l (mark1 o h) = by_weight o h
    decreases-of-marked l (mark2 b h) = by_root b (by_precedence h)
    decreases-of-marked l (mark3 b c h) = by_root b (by_row c h)
    decreases-of-marked l (mark4 b c h) = by_root b (by_flattening c (by_high h))
    decreases-of-marked l (mark5 b c e h) = by_root b (by_flattening c (by_length e h))
    decreases-of-marked l (mark6 b c e h g) = by_root b (by_flattening c (by_low e h g))
    decreases-of-marked l (mark7 x h o) = absurd (not-decreasing 7 l (omega arith) (omega arith))
    decreases-of-marked l (mark8 o h) = absurd (not-decreasing 8 l (omega arith) (omega arith))
    decreases-of-marked l (mark9 d) = absurd (not-decreasing 9 l (omega arith) (omega arith))
    decreases-of-marked l (mark10 b h d) = absurd (not-decreasing 10 l (omega arith) (omega arith))
    decreases-of-marked l (mark11 {f} {x} b z i) =
        by_root b (root-of-iterated σ (is_equivalent σ) (is_greater σ) i (Iterated→is_power f x i))

    some-mark : (s t : Term) → WellFormed σ s → WellFormed σ t → (k : ℕ) × Marked σ k s t
    some-mark s t v w =
        by_test (is_greater σ s t) (λ e. let (k, l, m) = marked-of-decreases v ((is_greater-view σ s t).0 e) in (k, m))
        λ e. by_test (none_oftener σ variable_count s t)
        (λ n. let o = (none_oftener-facts σ variable_count s t).0 n in
        by_order (weight σ s) (weight σ t) (λ h. (8, mark8 o h))
        λ h. by_order (weight σ t) (weight σ s)
        (λ k. absurd (true≢false (sym ((is_greater-view σ s t).1 (by_weight o k)) ∙ e)))
        λ k. by_test (is_equivalent σ s t) (λ d. (9, mark9 ((test-decides σ A.ac_binary s t v w).0 d)))
        λ d. (
          10,
          mark10 (record { none = o; weights = omega arith }) e
              λ q. true≢false (sym ((test-decides σ A.ac_binary s t v w).1 q) ∙ d),
        ))
        λ n. let (x, h, o) = oftener σ variable_count s t n in (7, mark7 x h o)

    pub mark-holds : (s t : Term) → WellFormed σ s → WellFormed σ t → Marked σ (mark σ s t) s t
    mark-holds s t v w = let (k, m) = some-mark s t v w in rw (mark-exact v w m) m

    pub mark-greater : (s t : Term) → WellFormed σ s → WellFormed σ t →
        is_greater σ s t ≡ true ↔ (is_decreasing (mark σ s t) ≡ true)
    mark-greater s t v w = (
      λ e. let (k, l, m) = marked-of-decreases v ((is_greater-view σ s t).0 e) in rw (mark-exact v w m) l,
      λ l. (is_greater-view σ s t).1 (decreases-of-marked l (mark-holds s t v w)),
    )

    pub mark-equivalent : (s t : Term) → WellFormed σ s → WellFormed σ t → mark σ s t ≡ 9 ↔ Equivalent σ s t
    mark-equivalent s t v w = (
      λ e. let no = refuted (is_greater σ s t)
          λ (g : is_greater σ s t ≡ true). not-decreasing (mark σ s t) ((mark-greater s t v w).0 g) (omega arith) (omega arith) in
          (test-decides σ A.ac_binary s t v w).0 (nine (none_oftener σ variable_count s t)
          (ltb (weight σ s) (weight σ t)) (is_equivalent σ s t) (sym (mark-otherwise s t no) ∙ e)),
      λ d. mark-exact v w (mark9 d),
    )
      where
        nine : (a b c : Bool) → other_mark a b c ≡ 9 → c ≡ true
        nine true true c e = absurd (omega arith)
        nine true false true e = refl
        nine true false false e = absurd (omega arith)
        nine false b c e = absurd (omega arith)

    -- ---- AC-equivalent sides

    pub mark-resp-like : (s s' t t' : Term) → WellFormed σ s → WellFormed σ s' → WellFormed σ t → WellFormed σ t' →
        is_equivalent σ s s' ≡ true → is_equivalent σ t t' ≡ true → mark σ s t ≡ mark σ s' t'
    unfolding mark
    mark-resp-like s s' t t' u u' v v' d e =
        let a = alike-of-test σ A u u' d in
        let b = alike-of-test σ A v v' e in
        rw (
          decreasing_mark-resp-like σ A (is_greater σ) (is_greater-order σ A) s s' t t' u u' v v' d e,
          none_oftener-resp σ variable_count s s' t t' a.oftenness b.oftenness,
          a.weights,
          b.weights,
          like-resp (is_equivalent σ) (is_equivalent-equivalence σ) d e,
        )

-- ---- mark 7 and the variable test

pub oftener-found : (σ : Signature) (s t : Term) → Marked σ 7 s t → first_oftener σ s t < variable_count
oftener-found σ s t (mark7 x l h) =
    let f = first-oftener-found σ s t in
    by_order (first_oftener σ s t) variable_count (λ m. m) λ m. absurd (omega (arith, f.before x (omega arith)))

pub found-oftener : (σ : Signature) (s t : Term) → first_oftener σ s t < variable_count → Marked σ 7 s t
found-oftener σ s t l = mark7 (first_oftener σ s t) l ((first-oftener-found σ s t).oftener l)
