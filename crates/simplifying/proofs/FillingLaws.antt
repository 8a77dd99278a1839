-- The least filling of a pattern, by the ways to split the list between an argument and those after it.
--     shaped                                a well-formed term is shaped
--     filling-expression, fillings-length   what a filling gives
--     least-own, least-taken                a variable
--     least-none, least-split, least-node   a row, by its splits; a symbol over its row
--     sum-filling                           a sum of shared variables, however the list is split
use mathlib.Core.List.Memᴰ
use mathlib.Core.List.{List, [], ◌∷◌, ◌++◌}
use mathlib.Core.Path.{◌≡◌, refl, sym, ap, ◌∙◌, subst}
use mathlib.Core.Bool.{Bool, true, false, true≢false}
use Prim.Native.Nat.{ℕ, suc}
use native.Mathlib.Omega.{arith}
use lib.ListN.{length}
use Rattle.multisets.specs.Sorting.{Parted}
use Rattle.terms.specs.Signature.{Signature, symbol_of, IsSymbol, Admissible}
use Rattle.terms.specs.Term.{Term, Terms, row, arguments, WellFormed, WellFormeds, Expression}
use Rattle.terms.specs.Term.Term.{var, app}
use Rattle.terms.specs.Term.Terms.{nil, cons}
use Rattle.terms.specs.Equivalence.{Equivalent}
use Rattle.terms.specs.Equivalence.Equivalent.{same}
use Rattle.terms.specs.Bunch.{Bunch, join, bunch_of}
use Rattle.terms.specs.Bunch.Bunch.{empty, full}
use Rattle.terms.specs.Rewriting.{Substitution, Expressions}
use Rattle.multisets.proofs.SortingLaws.{parted-left, parted-right}
use Rattle.terms.proofs.TermLaws.{arguments-row}
use Rattle.terms.proofs.RewritingLaws.{expression-app}
use Rattle.simplifying.specs.Filling.{Filling, Fillings, Shaped, Shapeds, AtMost, Before, RowAtMost}
use Rattle.simplifying.specs.Filling.{LeastFilling, LeastRow}
use Rattle.simplifying.specs.Filling.Filling.{own, taken, node}
use Rattle.simplifying.specs.Filling.Fillings.{none, each}
use Rattle.simplifying.proofs.LeastLaws.{at-most-same, at-most-trans, before-expression, expressions-cons}
use Rattle.simplifying.proofs.LeastLaws.{row-at-most, row-nil}
use Rattle.simplifying.proofs.PrefixLaws.{at-most-after}

module _ (σ : Signature) where
  mutual
    pub shaped : (t : Term) → WellFormed σ t → Shaped σ t
    shaped (var x) w = tt
    shaped (app g ts) w = (w.0, w.1, shapeds ts w.2)

    shapeds : (ts : Terms) → WellFormeds σ ts → Shapeds σ ts
    shapeds nil w = tt
    shapeds (cons t ts) w = (shaped t w.0, shapeds ts w.1)

pub full-inj : {s t : Term} → full s ≡ full t → s ≡ t
full-inj {s} {t} e = ap (λ (b : Bunch). elim b [ empty ↦ s | full u ↦ u ]) e

module _ (σ : Signature) (A : Admissible σ) (f : ℕ) (is_symbol : IsSymbol σ f) (ac : (symbol_of σ f).ac ≡ true)
    (shared : ℕ → Bool) (τ : Substitution) (images : (x : ℕ) → shared x ≡ false → Expression σ (τ x)) where
  -- ---- what a filling gives

  join-expression : (t : Term) (b : Bunch) → Expression σ t → ((u : Term) → b ≡ full u → Expression σ u) →
      (u : Term) → join f (full t) b ≡ full u → Expression σ u
  join-expression t empty e h u q = subst (Expression σ) (full-inj q) e
  join-expression t (full v) e h u q =
      subst (Expression σ) (full-inj q) (expression-app σ f (t ∷ (v ∷ [])) is_symbol (sym (A.ac_binary f ac))
      (expressions-cons σ A t (v ∷ []) e λ w m. rw (Memᴰ.eq_of_singleton m) (h v refl)))

  pub bunch-expression : (l : List Term) → Expressions σ l → (t : Term) → bunch_of f l ≡ full t → Expression σ t
  bunch-expression [] h t q = absurd (true≢false (ap (λ (b : Bunch). elim b [ empty ↦ true | full u ↦ false ]) q))
  bunch-expression (u ∷ l) h t q =
      join-expression u (bunch_of f l) (h u (Memᴰ.head refl))
      (bunch-expression l λ v m. h v (Memᴰ.tail m)) t q

  abbrev Fill : Term → List Term → Term → Type 0
  Fill = Filling f shared τ

  abbrev Fills : Terms → List Term → Terms → Type 0
  Fills = Fillings f shared τ

  pub fillings-length : {ps ts : Terms} {l : List Term} → Fills ps l ts → length (row ts) ≡ length (row ps)
  fillings-length none = refl
  fillings-length (each p h hs) = ap suc (fillings-length hs)

  mutual
    pub filling-expression : {p t : Term} {l : List Term} → Fill p l t → Shaped σ p → Expressions σ l → Expression σ t
    filling-expression (own {x} e q) s h = subst (Expression σ) q (images x e)
    filling-expression (taken {l} {t} e q) s h = bunch-expression l h t q
    filling-expression (node {g} {ts} hs) s h =
        rw (arguments-row ts) at (expression-app σ g (row ts) s.0 (fillings-length hs ∙ s.1)
        (fillings-expressions hs s.2 h))

    pub fillings-expressions : {ps ts : Terms} {l : List Term} → Fills ps l ts → Shapeds σ ps → Expressions σ l →
        Expressions σ (row ts)
    fillings-expressions none s h = λ t m. absurd (Memᴰ.not-nil m)
    fillings-expressions (each {t} {ts} p k ks) s h =
        expressions-cons σ A t (row ts) (filling-expression k s.0 λ u m. h u (parted-left p u m))
        (fillings-expressions ks s.1 λ u m. h u (parted-right p u m))

  -- ---- variables and rows

  abbrev Least : Term → List Term → Term → Type 0
  Least = LeastFilling σ f shared τ

  abbrev LeastIn : ℕ → Terms → List Term → Terms → Type 0
  LeastIn = LeastRow σ f shared τ

  pub least-own : (x : ℕ) → shared x ≡ false → Least (var x) [] (τ x)
  least-own x e = (own e refl, λ u k. go u k)
    where
      go : (u : Term) → Fill (var x) [] u → AtMost σ (τ x) u
      go u (own d q) =
          at-most-same σ A (τ x) u (images x e) (subst (Expression σ) q (images x e))
          (subst (λ (v : Term). Equivalent σ (τ x) v) q same)
      go u (taken d q) = absurd (true≢false (sym d ∙ e))

  pub least-taken : (x : ℕ) (l : List Term) (t : Term) → shared x ≡ true → Expressions σ l → bunch_of f l ≡ full t →
      Least (var x) l t
  least-taken x l t e h q = (taken e q, λ u k. go l h t q u k)
    where
      go : (l : List Term) → Expressions σ l → (t : Term) → bunch_of f l ≡ full t → (u : Term) → Fill (var x) l u →
          AtMost σ t u
      go l h t q u (own d p) = absurd (true≢false (sym e ∙ d))
      go l h t q u (taken d p) =
          let y = bunch-expression l h t q in
          let z = bunch-expression l h u p in
          at-most-same σ A t u y z (subst (λ (v : Term). Equivalent σ t v) (full-inj (sym q ∙ p)) same)

  no-elements : Expressions σ []
  no-elements t m = absurd (Memᴰ.not-nil m)

  pub least-none : (g : ℕ) → LeastIn g nil [] nil
  least-none g = (none, λ us k. go us k)
    where
      go : (us : Terms) → Fills nil [] us → RowAtMost σ g nil us
      go us none = row-nil σ A g

  -- Of all fillings of a row, the chosen one is at most the best ones of each way to split the list.
  module _ (g : ℕ) (p : Term) (ps : Terms) (shape : Shapeds σ (cons p ps)) (l : List Term) (h : Expressions σ l)
      (t : Term) (ts : Terms) (chosen : Fills (cons p ps) l (cons t ts)) (vs : List Term)
      (before : Before σ g vs (cons p ps))
      (others : (m n : List Term) (u : Term) (us : Terms) → Parted l m n → Fill p m u → Fills ps n us →
      (s : Term) × (ss : Terms) × Least p m s × LeastIn g ps n ss ×
      AtMost σ (app g (arguments (vs ++ (t ∷ row ts)))) (app g (arguments (vs ++ (s ∷ row ss))))) where
    before-filled : {us : Terms} {n : List Term} → Fills (cons p ps) n us → Before σ g vs us
    before-filled k = (before.0, omega (arith, before.1, fillings-length k), before.2)

    split-at-most : (us : Terms) → Fills (cons p ps) l us → RowAtMost σ g (cons t ts) us
    split-at-most us (each {t = u} {ts = us'} {m} {n} q k ks) =
        let (s, ss, a, b, c) = others m n u us' q k ks in
        go u us' s ss m n q k ks a b c
      where
        go : (u : Term) (us : Terms) (s : Term) (ss : Terms) (m n : List Term) → Parted l m n → Fill p m u →
            Fills ps n us → Least p m s → LeastIn g ps n ss →
            AtMost σ (app g (arguments (vs ++ (t ∷ row ts)))) (app g (arguments (vs ++ (s ∷ row ss)))) →
            RowAtMost σ g (cons t ts) (cons u us)
        go u us s ss m n q k ks a b c ws bt bu =
            let hm : Expressions σ m = λ v i. h v (parted-left q v i) in
            let hn : Expressions σ n = λ v i. h v (parted-right q v i) in
            let x = fillings-expressions chosen shape h in
            let es = filling-expression a.0 shape.0 hm in
            let ess = fillings-expressions b.0 shape.1 hn in
            let eu = filling-expression k shape.0 hm in
            let eus = fillings-expressions ks shape.1 hn in
            let bs : Before σ g ws (cons s ss) =
            (bt.0, omega (arith, bu.1, fillings-length b.0, fillings-length ks), bt.2) in
            at-most-trans σ A (app g (arguments (ws ++ (t ∷ row ts)))) (app g (arguments (ws ++ (s ∷ row ss))))
            (app g (arguments (ws ++ (u ∷ row us))))
            (before-expression σ A g ws (cons t ts) bt x)
            (before-expression σ A g ws (cons s ss) bs (expressions-cons σ A s (row ss) es ess))
            (before-expression σ A g ws (cons u us) bu (expressions-cons σ A u (row us) eu eus))
            (at-most-after σ A g vs (cons t ts) (cons s ss) x (expressions-cons σ A s (row ss) es ess)
            (before-filled chosen) (before-filled (each q a.0 b.0)) c ws bt bs)
            (row-at-most σ A g s u ss us es eu ess eus (a.1 u k) (b.1 us ks) ws bs bu)

    pub least-split : LeastIn g (cons p ps) l (cons t ts)
    least-split = (chosen, split-at-most)

  pub least-node : (g : ℕ) (ps : Terms) → Shaped σ (app g ps) → (l : List Term) (ts : Terms) → LeastIn g ps l ts →
      Least (app g ps) l (app g ts)
  least-node g ps s l ts (h, k) = (node h, λ u q. go ps ts s h k u q)
    where
      go : (ps ts : Terms) → Shaped σ (app g ps) → Fills ps l ts →
          ((us : Terms) → Fills ps l us → RowAtMost σ g ts us) → (u : Term) → Fill (app g ps) l u →
          AtMost σ (app g ts) u
      go ps ts s h k u (node {ts = us} q) =
          rw (arguments-row ts, arguments-row us) at (k us q []
          (s.0, omega (arith, s.1, fillings-length h), no-elements)
          (s.0, omega (arith, s.1, fillings-length q), no-elements))
