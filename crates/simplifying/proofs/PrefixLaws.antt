-- Which arguments come before a row does not matter to how it compares with another.
--     weights-exchanged, row_greater-after   weights and rows after the same arguments
--     greater-after, at-most-after          the order
use mathlib.Core.List.Memᴰ
use mathlib.Core.List.{List, [], ◌∷◌, ◌++◌}
use mathlib.Core.Path.{◌≡◌, refl, sym, ap, ◌∙◌}
use mathlib.Core.Bool.{Bool, true, false, true≢false}
use Prim.Native.Nat.{ℕ, ◌+◌}
use native.Mathlib.Omega.{arith}
use lib.ListN.{length}
use Rattle.multisets.specs.Multiset.{row_greater}
use Rattle.terms.specs.Signature.{Signature, others, symbol_of, coefficients_of, Admissible}
use Rattle.terms.specs.Term.{Term, Terms, row, arguments, Expression}
use Rattle.terms.specs.Term.Term.{app}
use Rattle.terms.specs.Term.Terms.{nil, cons}
use Rattle.terms.specs.Equivalence.Equivalent.{same}
use Rattle.terms.specs.Order.{is_greater}
use Rattle.terms.specs.Marks.{NoneOftener}
use Rattle.terms.specs.Rewriting.{Expressions}
use Rattle.terms.specs.Rewriting.Context.{hole, inside}
use Rattle.multisets.proofs.Relations.{by_test, refuted, IsEquivalence, IsStrictOrder}
use Rattle.multisets.proofs.RowLaws.{First, row_first, first-row}
use Rattle.multisets.proofs.RowLaws.First.{ahead, level}
use Rattle.terms.proofs.TermLaws.{row-arguments}
use Rattle.terms.proofs.WeightLaws.{weights}
use Rattle.terms.proofs.VariableLaws.{none_oftener-ground}
use Rattle.theory.proofs.DecreasesView.{Decreases, RootDecreases}
use Rattle.theory.proofs.DecreasesView.Decreases.{by_weight, by_root}
use Rattle.theory.proofs.DecreasesView.RootDecreases.{by_precedence, by_row, by_flattening, by_power}
use Rattle.theory.proofs.FormedLaws.{like_formed, like_formed-equivalence}
use Rattle.theory.proofs.StrictOrder.{greater_formed, greater_formed-order, formed-view}
use Rattle.theory.proofs.Contexts.{greater-fill}
use Rattle.simplifying.specs.Filling.{AtMost, Before, RowAtMost}
use Rattle.simplifying.proofs.LeastLaws.{at-most-fill, at-most-same, before-expression, expressions-cons}

-- ---- weights and rows

module _ (σ : Signature) where
  weights-exchanged : (us vs : List Term) (ss ts : List Term) → length us ≡ length vs → (ks : List ℕ) →
      weights σ (arguments (us ++ ss)) ks + weights σ (arguments (vs ++ ts)) ks ≡
      weights σ (arguments (us ++ ts)) ks + weights σ (arguments (vs ++ ss)) ks
  weights-exchanged [] [] ss ts n ks = omega arith
  weights-exchanged [] (v ∷ vs) ss ts n ks = absurd (omega arith)
  weights-exchanged (u ∷ us) [] ss ts n ks = absurd (omega arith)
  weights-exchanged (u ∷ us) (v ∷ vs) ss ts n ks =
      omega (arith, weights-exchanged us vs ss ts (omega arith) (others ks))

module _ {A : Type 0} (like : A → A → Bool) (E : IsEquivalence like) (greater : A → A → Bool)
    (O : IsStrictOrder like greater) where
  row_greater-after : (us vs : List A) (ss ts : List A) → length us ≡ length vs →
      row_greater like greater (us ++ ss) (us ++ ts) ≡ true → row_greater like greater (vs ++ ss) (vs ++ ts) ≡ true
  row_greater-after [] [] ss ts n h = h
  row_greater-after [] (v ∷ vs) ss ts n h = absurd (omega arith)
  row_greater-after (u ∷ us) [] ss ts n h = absurd (omega arith)
  row_greater-after (u ∷ us) (v ∷ vs) ss ts n h =
      first-row like E greater O (vs ++ ss) (vs ++ ts)
      (go (row_first like E greater O (us ++ ss) (us ++ ts) h) (row_greater-after us vs ss ts (omega arith)))
    where
      go : First like E greater O u u (us ++ ss) (us ++ ts) →
          (row_greater like greater (us ++ ss) (us ++ ts) ≡ true →
          row_greater like greater (vs ++ ss) (vs ++ ts) ≡ true) →
          First like E greater O v v (vs ++ ss) (vs ++ ts)
      go (ahead g) ih = absurd (O.irreflexive g (E.reflexive u))
      go (level e k) ih = level (E.reflexive v) (ih k)

-- ---- the order

module _ (σ : Signature) (A : Admissible σ) where
  abbrev after : ℕ → List Term → Terms → Term
  after g us ts = app g (arguments (us ++ row ts))

  module _ (g : ℕ) (us vs : List Term) (ss ts : Terms) (k : Expressions σ (row ss)) (l : Expressions σ (row ts))
      (bs : Before σ g us ss) (bt : Before σ g us ts) (cs : Before σ g vs ss) (ct : Before σ g vs ts) where
    same_length : length us ≡ length vs
    same_length = omega (arith, bs.1, cs.1)

    roots-from : {s t : Term} → RootDecreases σ (like_formed σ) (greater_formed σ) s t →
        s ≡ after g vs ss → t ≡ after g vs ts → (symbol_of σ g).ac ≡ false →
        RootDecreases σ (like_formed σ) (greater_formed σ) (after g us ss) (after g us ts)
    roots-from (by_precedence {f = f} {g = h} d) p q a =
        let x : f ≡ g = cc in
        let y : h ≡ g = cc in
        absurd (omega (
          arith,
          ap (λ (k : ℕ). (symbol_of σ k).precedence) x,
          ap (λ (k : ℕ). (symbol_of σ k).precedence) y,
        ))
    roots-from (by_row {ss = ss'} {ts = ts'} b h) p q a =
        let x : ss' ≡ arguments (vs ++ row ss) = cc in
        let y : ts' ≡ arguments (vs ++ row ts) = cc in
        by_row {ss = arguments (us ++ row ss)} {ts = arguments (us ++ row ts)} a
        (rw (row-arguments (us ++ row ss), row-arguments (us ++ row ts))
        (row_greater-after (like_formed σ) (like_formed-equivalence σ) (greater_formed σ) (greater_formed-order σ A) vs us
        (row ss) (row ts) (sym same_length)
        (rw (x, y, row-arguments (vs ++ row ss), row-arguments (vs ++ row ts)) at h)))
    roots-from (by_flattening {f = f} b h) p q a =
        let x : f ≡ g = cc in absurd (true≢false (sym b ∙ ap (λ (k : ℕ). (symbol_of σ k).ac) x ∙ a))
    roots-from (by_power _) p q a = let x : ⊥ = cc in absurd x

    roots-after : (symbol_of σ g).ac ≡ false →
        RootDecreases σ (like_formed σ) (greater_formed σ) (after g vs ss) (after g vs ts) →
        RootDecreases σ (like_formed σ) (greater_formed σ) (after g us ss) (after g us ts)
    roots-after a d = roots-from d refl refl a

    greater-after-plain : (symbol_of σ g).ac ≡ false → is_greater σ (after g vs ss) (after g vs ts) ≡ true →
        is_greater σ (after g us ss) (after g us ts) ≡ true
    greater-after-plain a h =
        let x = before-expression σ A g us ss bs k in
        let y = before-expression σ A g us ts bt l in
        (formed-view σ (after g us ss) (after g us ts) x.0 y.0).1
        (go (none_oftener-ground σ (after g us ss) (after g us ts) y.1)
        (weights-exchanged σ us vs (row ss) (row ts) same_length (coefficients_of σ g))
        ((formed-view σ (after g vs ss) (after g vs ts) (before-expression σ A g vs ss cs k).0
        (before-expression σ A g vs ts ct l).0).0 h))
      where
        go : NoneOftener σ (after g us ss) (after g us ts) →
            (weights σ (arguments (us ++ row ss)) (coefficients_of σ g) +
            weights σ (arguments (vs ++ row ts)) (coefficients_of σ g) ≡
            weights σ (arguments (us ++ row ts)) (coefficients_of σ g) +
            weights σ (arguments (vs ++ row ss)) (coefficients_of σ g)) →
            Decreases σ (like_formed σ) (greater_formed σ) (after g vs ss) (after g vs ts) →
            Decreases σ (like_formed σ) (greater_formed σ) (after g us ss) (after g us ts)
        go o e (by_weight p h) = by_weight o (omega arith)
        go o e (by_root b r) = by_root (record { none = o; weights = omega (arith, b.weights) }) (roots-after a r)

  -- One argument, the last.
  greater-after-one : (g : ℕ) (us vs : List Term) (s t : Term) → Expression σ s → Expression σ t →
      Before σ g us (cons s nil) → Before σ g vs (cons s nil) →
      is_greater σ (after g vs (cons s nil)) (after g vs (cons t nil)) ≡ true →
      is_greater σ (after g us (cons s nil)) (after g us (cons t nil)) ≡ true
  greater-after-one g us vs s t d e b c h =
      by_test (is_greater σ s t)
      (λ q. greater-fill σ A (inside g us hole []) s t
      (b.0, b.1, b.2, tt, λ u m. absurd (Memᴰ.not-nil m)) d e q)
      λ q. absurd (true≢false (sym h ∙ at-most-fill σ A (inside g vs hole []) s t
      (c.0, c.1, c.2, tt, λ u m. absurd (Memᴰ.not-nil m)) d e
      (before-expression σ A g vs (cons s nil) c (one s d)) (before-expression σ A g vs (cons t nil) (c.0, c.1, c.2)
      (one t e)) q))
    where
      one : (u : Term) → Expression σ u → Expressions σ (u ∷ [])
      one u x = expressions-cons σ A u [] x λ v m. absurd (Memᴰ.not-nil m)

  module _ (g : ℕ) (us vs : List Term) where
    -- An AC symbol has two arguments.
    greater-after-two : (ss ts : Terms) → (symbol_of σ g).arity ≡ 2 → Expressions σ (row ss) → Expressions σ (row ts) →
        Before σ g us ss → Before σ g us ts → Before σ g vs ss → Before σ g vs ts →
        is_greater σ (after g vs ss) (after g vs ts) ≡ true → is_greater σ (after g us ss) (after g us ts) ≡ true
    greater-after-two nil nil n k l bs bt cs ct h =
        let x = before-expression σ A g vs nil cs k in
        absurd (true≢false (sym h ∙ at-most-same σ A (after g vs nil) (after g vs nil) x x same))
    greater-after-two nil (cons t ts) n k l bs bt cs ct h = absurd (omega (arith, bs.1, bt.1))
    greater-after-two (cons s ss) nil n k l bs bt cs ct h = absurd (omega (arith, bs.1, bt.1))
    greater-after-two (cons s nil) (cons t nil) n k l bs bt cs ct h =
        greater-after-one g us vs s t (k s (Memᴰ.head refl)) (l t (Memᴰ.head refl)) bs cs h
    greater-after-two (cons s nil) (cons t (cons u ts)) n k l bs bt cs ct h = absurd (omega (arith, bs.1, bt.1))
    greater-after-two (cons s (cons r ss)) (cons t ts) n k l bs bt cs ct h =
        rw (empty us (omega (arith, bs.1, n))) (rw (empty vs (omega (arith, cs.1, n))) at h)
      where
        empty : (l : List Term) → length l ≡ 0 → l ≡ []
        empty [] q = refl
        empty (u ∷ l) q = absurd (omega arith)

    pub greater-after : (ss ts : Terms) → Expressions σ (row ss) → Expressions σ (row ts) → Before σ g us ss →
        Before σ g us ts → Before σ g vs ss → Before σ g vs ts → is_greater σ (after g vs ss) (after g vs ts) ≡ true →
        is_greater σ (after g us ss) (after g us ts) ≡ true
    greater-after ss ts k l bs bt cs ct h =
        by_test (symbol_of σ g).ac (λ a. greater-after-two ss ts (A.ac_binary g a) k l bs bt cs ct h)
        λ a. greater-after-plain g us vs ss ts k l bs bt cs ct a h

  -- A row that is at most another after some arguments is so after any.
  pub at-most-after : (g : ℕ) (us : List Term) (ss ts : Terms) → Expressions σ (row ss) → Expressions σ (row ts) →
      Before σ g us ss → Before σ g us ts → AtMost σ (after g us ss) (after g us ts) → RowAtMost σ g ss ts
  at-most-after g us ss ts k l bs bt h vs cs ct =
      refuted (is_greater σ (after g vs ss) (after g vs ts))
      λ q. true≢false (sym (greater-after g us vs ss ts k l bs bt cs ct q) ∙ h)
