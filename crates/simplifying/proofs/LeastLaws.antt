-- What is at most another expression, and the least over independent choices.
--     at-most-same, -below, -cases, -trans, -resp   the order's weak form on expressions
--     at-most-fill, row-at-most                     kept by contexts, and by rows argument by argument
--     substitute-at-most                            kept by substitutions, variable by variable
use mathlib.Core.List.Memᴰ
use mathlib.Core.List.{List, [], ◌∷◌, ◌++◌, append_assoc}
use mathlib.Core.Logic.{◌⊎◌, inl, inr, ⊎_elim}
use mathlib.Core.Path.{◌≡◌, refl, sym, ap, ◌∙◌}
use mathlib.Core.Bool.{true, true≢false}
use Prim.Native.Nat.{ℕ, suc, ◌<◌}
use native.Mathlib.Omega.{arith}
use lib.ListN.{length, length-append}
use Rattle.terms.specs.Signature.{Signature, Admissible}
use Rattle.terms.specs.Term.{Term, Terms, row, arguments, occurrences, WellFormed, WellFormeds, Expression}
use Rattle.terms.specs.Term.Term.{var, app}
use Rattle.terms.specs.Term.Terms.{nil, cons}
use Rattle.terms.specs.Equivalence.{Equivalent, is_equivalent}
use Rattle.terms.specs.Equivalence.Equivalent.{same, back}
use Rattle.terms.specs.Order.{is_greater}
use Rattle.terms.specs.Rewriting.{Context, fill, Substitution, substitute, substitute_in, Expressions}
use Rattle.terms.specs.Rewriting.{ExpressionContext, ExpressionSubstitution}
use Rattle.terms.specs.Rewriting.Context.{hole, inside}
use Rattle.multisets.proofs.Relations.{refuted, eqb-self, Compared}
use Rattle.multisets.proofs.Relations.Compared.{above, alike, below}
use Rattle.terms.proofs.TermLaws.{arguments-row}
use Rattle.terms.proofs.EquivalenceLaws.{is_equivalent-equivalence}
use Rattle.terms.proofs.EquivalenceComplete.{Equivalent→is_equivalent}
use Rattle.terms.proofs.EquivalenceSound.{is_equivalent→Equivalent}
use Rattle.terms.proofs.RewritingLaws.{occurrences_in, expression-app, fill-resp-equivalent, substitute-expression}
use Rattle.theory.proofs.Contexts.{greater-fill}
use Rattle.simplifying.specs.Filling.{AtMost, Before, RowAtMost}
use Rattle.simplifying.proofs.CanonicalLaws.{expression-order, expressions-compare}

module _ (σ : Signature) (A : Admissible σ) where
  -- ---- two expressions

  pub at-most-same : (s t : Term) → Expression σ s → Expression σ t → Equivalent σ s t → AtMost σ s t
  at-most-same s t d e q =
      refuted (is_greater σ s t) λ g. (expression-order σ A).irreflexive d e g (Equivalent→is_equivalent σ q)

  pub at-most-below : (s t : Term) → Expression σ s → Expression σ t → is_greater σ t s ≡ true → AtMost σ s t
  at-most-below s t d e h =
      refuted (is_greater σ s t) λ g. (expression-order σ A).irreflexive d d
      ((expression-order σ A).transitive d e d g h) ((is_equivalent-equivalence σ).reflexive s)

  pub at-most-cases : (s t : Term) → Expression σ s → Expression σ t → AtMost σ s t →
      Equivalent σ s t ⊎ (is_greater σ t s ≡ true)
  at-most-cases s t d e h = go (expressions-compare σ A s t d e)
    where
      go : Compared (is_equivalent σ) (is_greater σ) s t → Equivalent σ s t ⊎ (is_greater σ t s ≡ true)
      go (above g) = absurd (true≢false (sym g ∙ h))
      go (alike l) = inl (is_equivalent→Equivalent σ A.ac_binary s t d.0 e.0 l)
      go (below g) = inr g

  pub at-most-trans : (s t u : Term) → Expression σ s → Expression σ t → Expression σ u → AtMost σ s t → AtMost σ t u →
      AtMost σ s u
  at-most-trans s t u d e k h i =
      refuted (is_greater σ s u) λ g. true≢false (sym (⊎_elim
      (λ q. (expression-order σ A).respects d e k k (Equivalent→is_equivalent σ q)
      ((is_equivalent-equivalence σ).reflexive u) g)
      (λ b. (expression-order σ A).transitive e d k b g) (at-most-cases s t d e h)) ∙ i)

  pub at-most-resp : (s s' t t' : Term) → Expression σ s → Expression σ s' → Expression σ t → Expression σ t' →
      Equivalent σ s s' → Equivalent σ t t' → AtMost σ s t → AtMost σ s' t'
  at-most-resp s s' t t' d d' e e' p q h =
      at-most-trans s' s t' d' d e' (at-most-same s' s d' d (back p))
      (at-most-trans s t t' d e e' h (at-most-same t t' e e' q))

  pub at-most-fill : (c : Context) (s t : Term) → ExpressionContext σ c → Expression σ s → Expression σ t →
      Expression σ (fill c s) → Expression σ (fill c t) → AtMost σ s t → AtMost σ (fill c s) (fill c t)
  at-most-fill c s t k d e x y h =
      ⊎_elim (λ q. at-most-same (fill c s) (fill c t) x y (fill-resp-equivalent σ c q))
      (λ g. at-most-below (fill c s) (fill c t) x y (greater-fill σ A c t s k e d g)) (at-most-cases s t d e h)

  -- ---- rows

  expressions-append : (us vs : List Term) → Expressions σ us → Expressions σ vs → Expressions σ (us ++ vs)
  expressions-append us vs h k t m = ⊎_elim (h t) (k t) (Memᴰ.append_cases us m)

  pub before-expression : (g : ℕ) (us : List Term) (ts : Terms) → Before σ g us ts → Expressions σ (row ts) →
      Expression σ (app g (arguments (us ++ row ts)))
  before-expression g us ts (i, n, h) k =
      expression-app σ g (us ++ row ts) i (length-append us (row ts) ∙ n) (expressions-append us (row ts) h k)

  before_more : (g : ℕ) (us : List Term) (t : Term) (ts : Terms) → Expression σ t → Before σ g us (cons t ts) →
      Before σ g (us ++ (t ∷ [])) ts
  before_more g us t ts e (i, n, h) = (
    i,
    omega (arith, n, length-append us (t ∷ [])),
    expressions-append us (t ∷ []) h λ u m. rw (Memᴰ.eq_of_singleton m) e,
  )

  pub expressions-cons : (t : Term) (ts : List Term) → Expression σ t → Expressions σ ts → Expressions σ (t ∷ ts)
  expressions-cons t ts e k u (Memᴰ.head q) = rw q e
  expressions-cons t ts e k u (Memᴰ.tail m) = k u m

  module _ (g : ℕ) (us : List Term) where
    abbrev after : Term → Terms → Term
    after t ts = app g (arguments (us ++ (t ∷ row ts)))

    after-expression : (t : Term) (ts : Terms) → Expression σ t → Expressions σ (row ts) → Before σ g us (cons t ts) →
        Expression σ (after t ts)
    after-expression t ts e k b = before-expression g us (cons t ts) b (expressions-cons t (row ts) e k)

  -- The first argument, and the others after it.
  pub row-at-most : (g : ℕ) (s t : Term) (ss ts : Terms) → Expression σ s → Expression σ t → Expressions σ (row ss) →
      Expressions σ (row ts) → AtMost σ s t → RowAtMost σ g ss ts → RowAtMost σ g (cons s ss) (cons t ts)
  row-at-most g s t ss ts d e k l h r us b c =
      let x = after-expression g us s ss d k b in
      let y = after-expression g us t ss e k (b.0, b.1, b.2) in
      at-most-trans (after g us s ss) (after g us t ss) (after g us t ts) x y (after-expression g us t ts e l c)
      (at-most-fill (inside g us hole (row ss)) s t (b.0, b.1, b.2, tt, k) d e x y h)
      (rw (append_assoc us (t ∷ []) (row ss), append_assoc us (t ∷ []) (row ts)) at
      (r (us ++ (t ∷ [])) (before_more g us t ss e (b.0, b.1, b.2)) (before_more g us t ts e c)))

  pub row-nil : (g : ℕ) → RowAtMost σ g nil nil
  row-nil g us b c =
      let x = before-expression g us nil b (λ t m. absurd (Memᴰ.not-nil m)) in
      at-most-same (app g (arguments (us ++ []))) (app g (arguments (us ++ []))) x x same

  -- ---- substitutions

  lengths : (κ : Substitution) (ts : Terms) → length (row (substitute_in κ ts)) ≡ length (row ts)
  lengths κ nil = refl
  lengths κ (cons t ts) = ap suc (lengths κ ts)

  module _ (τ υ : Substitution) (d : ExpressionSubstitution σ τ) (e : ExpressionSubstitution σ υ) where
    row-substituted : (κ : Substitution) → ExpressionSubstitution σ κ → (ts : Terms) → WellFormeds σ ts →
        Expressions σ (row (substitute_in κ ts))
    row-substituted κ h nil w = λ t m. absurd (Memᴰ.not-nil m)
    row-substituted κ h (cons u us) w =
        expressions-cons (substitute κ u) (row (substitute_in κ us)) (substitute-expression σ κ h u w.0)
        (row-substituted κ h us w.1)

    mutual
      -- The least over independent choices is the least of each.
      pub substitute-at-most : (t : Term) → WellFormed σ t → ((x : ℕ) → 0 < occurrences x t → AtMost σ (τ x) (υ x)) →
          AtMost σ (substitute τ t) (substitute υ t)
      substitute-at-most (var x) w h = h x (rw eqb-self (omega arith))
      substitute-at-most (app f ts) w h =
          rw (arguments-row, arguments-row) at (substitute_in-at-most f ts w.2 (λ x n. h x (omega arith)) []
          (w.0, omega (arith, lengths τ ts, w.1), λ t m. absurd (Memᴰ.not-nil m))
          (w.0, omega (arith, lengths υ ts, w.1), λ t m. absurd (Memᴰ.not-nil m)))

      substitute_in-at-most : (f : ℕ) (ts : Terms) → WellFormeds σ ts →
          ((x : ℕ) → 0 < occurrences_in x ts → AtMost σ (τ x) (υ x)) →
          RowAtMost σ f (substitute_in τ ts) (substitute_in υ ts)
      substitute_in-at-most f nil w h = row-nil f
      substitute_in-at-most f (cons t ts) w h =
          row-at-most f (substitute τ t) (substitute υ t) (substitute_in τ ts) (substitute_in υ ts)
          (substitute-expression σ τ d t w.0) (substitute-expression σ υ e t w.0)
          (row-substituted τ d ts w.1) (row-substituted υ e ts w.1)
          (substitute-at-most t w.0 λ x n. h x (omega arith))
          (substitute_in-at-most f ts w.1 λ x n. h x (omega arith))
