-- The order is kept by contexts, on expressions, and a term is greater than what fills a context in it.
--     greater-argument    a term is greater than each of its arguments
--     greater-part        and so than each of its proper parts
--     greater-iterated    f^k(t) is greater than t
--     greater-parts       what is greater than an expression is greater than each element of its flattening
--     greater-flat        at equal weights, the flattenings decrease
--     greater-fill        a context around
use mathlib.Core.List.Memᴰ
use mathlib.Core.List.{List, [], ◌∷◌, ◌++◌, Memᴰ}
use mathlib.Core.Logic.{⊎_elim}
use mathlib.Core.Path.{◌≡◌, refl, sym, ◌∙◌}
use mathlib.Core.Bool.{true, true≢false}
use Prim.Native.Nat.{ℕ, suc, zero, ◌≤◌, ◌<◌}
use native.Mathlib.Omega.{arith}
use borrow.Author.Tests.{eq-eqb}
use Rattle.terms.specs.Signature.{Signature, symbol_of, coefficients_of, IsSymbol, ZeroWeightUnary, Admissible}
use Rattle.terms.specs.Term.{Term, Terms, row, arguments, size, flattening, flattenings, weight}
use Rattle.terms.specs.Term.{WellFormed, Expression}
use Rattle.terms.specs.Term.Term.{var, app}
use Rattle.terms.specs.Term.Terms.{nil, cons}
use Rattle.terms.specs.Iterated.{Iterated}
use Rattle.terms.specs.Iterated.Iterated.{once, more}
use Rattle.terms.specs.Order.{variables, root_above, high_part, is_greater}
use Rattle.terms.specs.Marks.{NoneOftener}
use Rattle.terms.specs.Rewriting.{Context, fill, ExpressionContext}
use Rattle.terms.specs.Rewriting.Context.{hole, inside}
use Rattle.multisets.proofs.Relations.{by_test, by_order, refuted, eqb-self, IsEquivalence, IsStrictOrder}
use Rattle.multisets.proofs.RowLaws.{first-row, row_greater-among}
use Rattle.multisets.proofs.RowLaws.First.{ahead}
use Rattle.multisets.proofs.MultisetLaws.{multiset_equal-equivalence}
use Rattle.multisets.proofs.MultisetOrder.{multiset-part, multiset_greater-one}
use Rattle.terms.proofs.TermLaws.{row-arguments, among-member, size-pos, row-each, flattening-each, formed}
use Rattle.terms.proofs.TermLaws.{each-choose}
use Rattle.terms.proofs.MeasureLaws.{scale-le}
use Rattle.terms.proofs.FlatteningLaws.{flattenings-among, flattenings-long}
use Rattle.terms.proofs.RewritingLaws.{formed-filling, fill-expression}
use Rattle.terms.proofs.VariableLaws.{coefficient-argument, not-ground, none_oftener-ground, expressions}
use Rattle.terms.proofs.WeightLaws.{weight-among-lt, weight-among-same, weight-argument, flattening-lighter}
use Rattle.terms.proofs.IteratedLaws.{Iterated→is_power}
use Rattle.theory.proofs.RootTests.{place, above-says, below-says}
use Rattle.theory.proofs.RootTests.Placed.{placed_above, placed_own, placed_below}
use Rattle.theory.proofs.DecreasesView.{FlattenedDecreases, RootDecreases, is_greater-view}
use Rattle.theory.proofs.DecreasesView.Decreases.{by_weight, by_root}
use Rattle.theory.proofs.DecreasesView.FlattenedDecreases.{by_length, by_low}
use Rattle.theory.proofs.DecreasesView.RootDecreases.{by_precedence, by_row, by_flattening, by_power}
use Rattle.theory.proofs.FormedLaws.{like_formed, like_formed-equivalence}
use Rattle.theory.proofs.StrictOrder.{greater_formed, greater_formed-order, formed-view, greater_formed-view}
use Rattle.theory.proofs.StrictOrder.{is_greater-order, greater-weight}
use Rattle.theory.proofs.FlattenedLaws.{no-variables, flattened-high, flattened-level, flattened-around}

module _ (σ : Signature) (A : Admissible σ) where
  abbrev E : IsEquivalence (like_formed σ)
  E = like_formed-equivalence σ

  abbrev O : IsStrictOrder (like_formed σ) (greater_formed σ)
  O = greater_formed-order σ A

  -- ---- parts

  -- A weightless symbol is above every other; where it is the root of its argument too, their arguments decide.
  module _ (f : ℕ) (z : ZeroWeightUnary σ f) where
    abbrev over : Term → Term
    over u = app f (cons u nil)

    weightless-own : (us : Terms) → WellFormed σ (over (app f us)) →
        ((u : Term) → size u < size (app f us) → WellFormed σ (over u) → is_greater σ (over u) u ≡ true) →
        RootDecreases σ (like_formed σ) (greater_formed σ) (over (app f us)) (app f us)
    weightless-own nil w ih = absurd (omega (arith, w.2.0.1, z.unary))
    weightless-own (cons u nil) w ih =
        by_row (refuted (symbol_of σ f).ac λ a. omega (arith, A.ac_binary f a, z.unary))
        (first-row (like_formed σ) E (greater_formed σ) O [] []
        (ahead ((greater_formed-view σ (over u) u).1 (w.2.0, w.2.0.2.0, ih u (omega arith) w.2.0))))
    weightless-own (cons u (cons t us)) w ih = absurd (omega (arith, w.2.0.1, z.unary))

    weightless-roots : (u : Term) → WellFormed σ (over u) →
        ((t : Term) → size t < size u → WellFormed σ (over t) → is_greater σ (over t) t ≡ true) →
        RootDecreases σ (like_formed σ) (greater_formed σ) (over u) u
    weightless-roots (var x) w ih = by_power (Iterated→is_power f x once)
    weightless-roots (app g us) w ih = elim (place σ f g A w.0 w.2.0.0) [
      | placed_above l ↦ absurd (omega (arith, A.zero_weight_highest f g w.0 w.2.0.0 z))
      | placed_own e ↦ rw (← e) (weightless-own us (rw (← e) at w) ih)
      | placed_below l ↦ by_precedence l
    ]

    weightless-greater : (n : ℕ) (u : Term) → size u ≤ n → WellFormed σ (over u) → is_greater σ (over u) u ≡ true
    weightless-greater zero u l w = absurd (omega (arith, size-pos u))
    weightless-greater (suc n) u l w =
        let o : NoneOftener σ (over u) u = λ x h. coefficient-argument σ x A f (cons u nil) u (Memᴰ.head refl) in
        let e = scale-le (coefficients_of σ f) (A.coefficients_positive f) (weight σ u) in
        (formed-view σ (over u) u w w.2.0).1
        (by_order (weight σ u) (weight σ (over u)) (by_weight o)
        λ k. by_root (record { none = o; weights = omega arith })
        (weightless-roots u w λ t k. weightless-greater n t (omega arith)))

  pub greater-argument : (f : ℕ) (ts : Terms) (u : Term) → WellFormed σ (app f ts) → Memᴰ u (row ts) →
      is_greater σ (app f ts) u ≡ true
  greater-argument f ts u w m =
      ⊎_elim (λ l. (is_greater-view σ (app f ts) u).1 (by_weight (λ x h. coefficient-argument σ x A f ts u m) l))
      (λ h. rw h.1 (weightless-greater f h.0 (size u) u (omega arith) (rw h.1 at w)))
      (weight-argument σ A f ts w u m)

  pub greater-part : (f : ℕ) (ss : List Term) (c : Context) (ts : List Term) (t : Term) →
      WellFormed σ (fill (inside f ss c ts) t) → is_greater σ (fill (inside f ss c ts) t) t ≡ true
  greater-part f ss hole ts t w = greater-argument f (arguments (ss ++ (t ∷ ts))) t w (among-member ss ts t)
  greater-part f ss (inside g qs c rs) ts t w =
      let u = fill (inside g qs c rs) t in
      let l = arguments (ss ++ (u ∷ ts)) in
      let m = among-member ss ts u in
      let v = row-each (formed σ) u l w.2 m in
      (is_greater-order σ A).transitive w v (formed-filling σ (inside g qs c rs) t v) (greater-argument f l u w m)
      (greater-part g qs c rs t v)

  pub greater-iterated : {f : ℕ} {s t : Term} → Iterated f s t → WellFormed σ s → WellFormed σ t →
      is_greater σ s t ≡ true
  greater-iterated {f} (once {t}) w v = greater-argument f (cons t nil) t w (Memᴰ.head refl)
  greater-iterated {f} (more {s} i) w v =
      (is_greater-order σ A).transitive w w.2.0 v (greater-argument f (cons s nil) s w (Memᴰ.head refl))
      (greater-iterated i w.2.0 v)

  pub greater-parts : (f : ℕ) → (symbol_of σ f).arity ≡ 2 → (s t : Term) → Expression σ t →
      greater_formed σ s t ≡ true → (u : Term) → Memᴰ u (flattening f t) → greater_formed σ s u ≡ true
  greater-parts f b s t e x u m =
      let (v, w, g) = (greater_formed-view σ s t).0 x in
      let (y, n) = flattening-each (expressions σ) u t f e m in
      ⊎_elim (λ q. rw q x)
      (λ l. (greater_formed-view σ s u).1 (
        v,
        y,
        (is_greater-view σ s u).1
            (by_weight (none_oftener-ground σ s u n) (omega (arith, greater-weight σ s t g))),
      ))
      (flattening-lighter σ A f b t e.0 u m)

  -- ---- flattenings for an AC symbol

  abbrev Flat : ℕ → List Term → List Term → Type 0
  Flat f = FlattenedDecreases σ (like_formed σ) (greater_formed σ) f

  abbrev Roots : Term → Term → Type 0
  Roots = RootDecreases σ (like_formed σ) (greater_formed σ)

  pub greater-roots : (s t : Term) → WellFormed σ s → WellFormed σ t → weight σ t ≡ weight σ s →
      is_greater σ s t ≡ true → Roots s t
  greater-roots s t v w e g = elim ((formed-view σ s t v w).0 g) [
    | by_weight o h ↦ absurd (omega arith)
    | by_root b r ↦ r
  ]

  roots-precedence : (p q : ℕ) (ss ts : Terms) → Roots (app p ss) (app q ts) →
      (symbol_of σ q).precedence ≤ (symbol_of σ p).precedence
  roots-precedence p q ss ts (by_precedence l) = omega arith
  roots-precedence p q ss ts (by_row a r) = omega arith
  roots-precedence p q ss ts (by_flattening a r) = omega arith

  module _ (f : ℕ) (is_symbol : IsSymbol σ f) (ac : (symbol_of σ f).ac ≡ true) where
    no-variables-in : (t : Term) → Expression σ t → variables (flattening f t) ≡ []
    no-variables-in t e = no-variables (flattening f t) λ u m. (flattening-each (expressions σ) u t f e m).1

    -- A root above f: mark 4.
    flat-above : (p : ℕ) (ss : Terms) (t : Term) → Expression σ t → greater_formed σ (app p ss) t ≡ true →
        (symbol_of σ f).precedence < (symbol_of σ p).precedence →
        Flat f (flattening f (app p ss)) (flattening f t)
    flat-above p ss t e g l =
        let (n, a, b) = above-says σ f p l in
        flattened-high σ (like_formed σ) E f (greater_formed σ) O (flattening f (app p ss)) (flattening f t)
        (no-variables-in t e) (rw (n, a ss) (multiset_greater-one (like_formed σ) E (greater_formed σ) O (app p ss)
        (high_part σ f (flattening f t))
        (each-choose (root_above σ f) (flattening f t) (greater-parts f (A.ac_binary f ac) (app p ss) t e g))))

    -- Both roots below f: mark 6.
    flat-below : (p q : ℕ) (ss ts : Terms) → greater_formed σ (app p ss) (app q ts) ≡ true →
        (symbol_of σ p).precedence < (symbol_of σ f).precedence → (symbol_of σ q).precedence < (symbol_of σ f).precedence →
        Flat f (flattening f (app p ss)) (flattening f (app q ts))
    flat-below p q ss ts g i j =
        let (n, a, b) = below-says σ f p i in
        let (m, c, d) = below-says σ f q j in
        rw (n, m) (by_low (flattened-level σ (like_formed σ) E f (greater_formed σ) O (app p ss ∷ []) (app q ts ∷ []) refl
        (rw (a ss, c ts) ((multiset_equal-equivalence (like_formed σ) E).reflexive []))) refl
        (rw (b ss, d ts) (multiset_greater-one (like_formed σ) E (greater_formed σ) O (app p ss) (app q ts ∷ [])
        λ u k. rw (Memᴰ.eq_of_singleton k) g)))

    -- The root f on the left, a lower one on the right: mark 4 or 5.
    flat-lower : (q : ℕ) (ss ts : Terms) → Expression σ (app f ss) →
        (symbol_of σ q).precedence < (symbol_of σ f).precedence → Flat f (flattenings f ss) (flattening f (app q ts))
    flat-lower q ss ts d l =
        let (n, a, b) = below-says σ f q l in
        let S = flattenings f ss in
        rw n (⊎_elim (λ g. flattened-high σ (like_formed σ) E f (greater_formed σ) O S (app q ts ∷ []) refl (rw (a ts) g))
        (λ e. by_length (flattened-level σ (like_formed σ) E f (greater_formed σ) O S (app q ts ∷ []) refl (rw (a ts) e))
        (omega (arith, A.ac_binary f ac, flattenings-long σ f (A.ac_binary f ac) ss d.0.2)))
        (multiset-part (like_formed σ) E (greater_formed σ) O (high_part σ f S) [] λ a. omega arith))

    -- The root f on the left.
    flat-own : (q : ℕ) (ss ts : Terms) → Expression σ (app f ss) → Roots (app f ss) (app q ts) →
        Flat f (flattenings f ss) (flattening f (app q ts))
    flat-own q ss ts d (by_flattening a h) = rw eqb-self h
    flat-own q ss ts d (by_row a k) = absurd (true≢false (sym ac ∙ a))
    flat-own q ss ts d (by_precedence l) = flat-lower q ss ts d l

    pub greater-flat : (s t : Term) → Expression σ s → Expression σ t → weight σ t ≡ weight σ s →
        is_greater σ s t ≡ true → Flat f (flattening f s) (flattening f t)
    greater-flat (var x) t d e w g = absurd (not-ground x d.1)
    greater-flat (app p ss) (var y) d e w g = absurd (not-ground y e.1)
    greater-flat (app p ss) (app q ts) d e w g =
        let r = greater-roots (app p ss) (app q ts) d.0 e.0 w g in
        let x = (greater_formed-view σ (app p ss) (app q ts)).1 (d.0, e.0, g) in
        elim (place σ f p A is_symbol d.0.0) [
          | placed_above l ↦ flat-above p ss (app q ts) e x l
          | placed_own k ↦ rw (eq-eqb f p k) (flat-own q ss ts (rw (← k) at d) (rw (← k) at r))
          | placed_below l ↦ flat-below p q ss ts x l (omega (arith, roots-precedence p q ss ts r))
        ]

  -- ---- contexts

  module _ (f : ℕ) (ss ts : List Term) where
    abbrev around : Term → Term
    around s = app f (arguments (ss ++ (s ∷ ts)))

    roots-around : IsSymbol σ f → (s t : Term) → Expression σ s → Expression σ t → weight σ t ≡ weight σ s →
        is_greater σ s t ≡ true → Roots (around s) (around t)
    roots-around i s t d e w g =
        by_test (symbol_of σ f).ac
        (λ a. by_flattening a (rw (flattenings-among f ss ts s, flattenings-among f ss ts t)
        (flattened-around σ (like_formed σ) E f (greater_formed σ) O (flattenings f (arguments ss))
        (flattenings f (arguments ts)) (flattening f s) (flattening f t) (greater-flat f i a s t d e w g))))
        λ a. by_row a (rw (row-arguments (ss ++ (s ∷ ts)), row-arguments (ss ++ (t ∷ ts)))
        (row_greater-among (like_formed σ) E (greater_formed σ) O ss ts
        ((greater_formed-view σ s t).1 (d.0, e.0, g))))

    greater-around : IsSymbol σ f → (s t : Term) → Expression σ s → Expression σ t → Expression σ (around s) →
        Expression σ (around t) → is_greater σ s t ≡ true → is_greater σ (around s) (around t) ≡ true
    greater-around i s t d e x y g =
        let o = none_oftener-ground σ (around s) (around t) y.1 in
        (formed-view σ (around s) (around t) x.0 y.0).1
        (by_order (weight σ t) (weight σ s) (λ l. by_weight o (weight-among-lt σ A f ss ts s t l))
        λ l. let w : weight σ t ≡ weight σ s = omega (arith, greater-weight σ s t g) in
        by_root (record { none = o; weights = weight-among-same σ A f ss ts s t w }) (roots-around i s t d e w g))

  pub greater-fill : (c : Context) (s t : Term) → ExpressionContext σ c → Expression σ s → Expression σ t →
      is_greater σ s t ≡ true → is_greater σ (fill c s) (fill c t) ≡ true
  greater-fill hole s t h d e g = g
  greater-fill (inside f ss c ts) s t h d e g =
      let (i, n, hs, k, ht) = h in
      greater-around f ss ts i (fill c s) (fill c t) (fill-expression σ c s k d) (fill-expression σ c t k e)
      (fill-expression σ (inside f ss c ts) s h d) (fill-expression σ (inside f ss c ts) t h e)
      (greater-fill c s t k d e g)
