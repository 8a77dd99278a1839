-- The results of a rule by its pooled left side: every match of it, and every way to share out what the pool takes.
--     substitute-twice, sum-substituted    one substitution after another; a sum under a substitution
--     pooled-left                          the rule's left side and the pooled one
--     pooled-sound, pooled-complete        the results are those of the rule, all of them up to AC-equivalence
--     pooled-at-most                       what is at most the least fillings is at most every result that fits
use mathlib.Core.List.{List, [], ◌∷◌, map, Memᴰ}
use mathlib.Core.Path.{◌≡◌, refl, sym, ap, ap₂, ◌∙◌, subst}
use mathlib.Core.Bool.{Bool, true, false, cond}
use Prim.Native.Nat.{ℕ, ◌≤◌, ◌<◌}
use native.Mathlib.Omega.{arith}
use lib.ListN.{length}
use lib.Dec.{eqb}
use borrow.Author.Tests.{eqb-true}
use Rattle.terms.specs.Signature.{Signature, symbol_of, IsSymbol, Admissible}
use Rattle.terms.specs.Term.{Term, Terms, size, flattening, occurrences, WellFormed, Expression}
use Rattle.terms.specs.Term.Term.{var, app}
use Rattle.terms.specs.Term.Terms.{nil, cons}
use Rattle.terms.specs.Equivalence.{Equivalent}
use Rattle.terms.specs.Equivalence.Equivalent.{same, back, then}
use Rattle.terms.specs.Bunch.{Bunch, join, bunch_of}
use Rattle.terms.specs.Bunch.Bunch.{empty, full}
use Rattle.terms.specs.Rewriting.{Rule, Substitution, substitute, substitute_in, ExpressionSubstitution, Context, fill}
use Rattle.terms.specs.Rewriting.{ExpressionContext}
use Rattle.multisets.proofs.Relations.{by_test, eqb-self}
use Rattle.multisets.proofs.SortingLaws.{parted-left}
use Rattle.terms.proofs.TermLaws.{flattening-each}
use Rattle.terms.proofs.EquivalenceMeasures.{plain-resp-equivalent, expression-resp-equivalent}
use Rattle.terms.proofs.VariableLaws.{expressions}
use Rattle.terms.proofs.RewritingLaws.{substitute-resp-equivalent, fill-resp-equivalent, fill-expression}
use Rattle.simplifying.specs.Matching.{Bindings, Binding, unbound, Agrees, AgreesAt, matches}
use Rattle.simplifying.specs.Matching.Binding.{free, bound}
use Rattle.simplifying.specs.Reducts.{substitution_or, image_or}
use Rattle.simplifying.specs.Filling.{Filling, Fillings, Shaped, AtMost, LeastFilling}
use Rattle.simplifying.specs.Filling.Filling.{own, taken, node}
use Rattle.simplifying.specs.Filling.Fillings.{none, each}
use Rattle.simplifying.specs.Pooling.{Shared, Pooled}
use Rattle.simplifying.proofs.MatchingLaws.{IsImage, matches-sound, matches-complete}
use Rattle.simplifying.proofs.ResultLaws.{substitute-agree, agrees-own}
use Rattle.simplifying.proofs.LeastLaws.{at-most-same, at-most-trans, at-most-fill}
use Rattle.simplifying.proofs.FillingLaws.{full-inj, filling-expression}
use Rattle.simplifying.proofs.PoolingLaws.{shared-complete}
use Rattle.simplifying.proofs.SharingLaws.{map-agree}
use Rattle.simplifying.proofs.SharedSound.{shared-sound}

-- ---- substitutions

module _ (υ π : Substitution) where
  mutual
    substitute-twice : (p : Term) → substitute υ (substitute π p) ≡ substitute (λ (y : ℕ). substitute υ (π y)) p
    substitute-twice (var x) = refl
    substitute-twice (app g ps) = ap (app g) (substitute_in-twice ps)

    substitute_in-twice : (ps : Terms) →
        substitute_in υ (substitute_in π ps) ≡ substitute_in (λ (y : ℕ). substitute υ (π y)) ps
    substitute_in-twice nil = refl
    substitute_in-twice (cons p ps) = ap₂ cons (substitute-twice p) (substitute_in-twice ps)

module _ (f : ℕ) (υ : Substitution) where
  abbrev on_bunch : Bunch → Bunch
  on_bunch empty = empty
  on_bunch (full t) = full (substitute υ t)

  join-substituted : (b c : Bunch) → on_bunch (join f b c) ≡ join f (on_bunch b) (on_bunch c)
  join-substituted empty c = refl
  join-substituted (full s) empty = refl
  join-substituted (full s) (full t) = refl

  sum-substituted : (xs : List ℕ) → on_bunch (bunch_of f (map var xs)) ≡ bunch_of f (map υ xs)
  sum-substituted [] = refl
  sum-substituted (x ∷ xs) =
      join-substituted (full (var x)) (bunch_of f (map var xs)) ∙ ap (join f (full (υ x))) (sum-substituted xs)

-- ---- fillings under substitutions that agree

module _ (f : ℕ) (shared : ℕ → Bool) (τ κ : Substitution) (agree : (x : ℕ) → shared x ≡ false → κ x ≡ τ x) where
  mutual
    filling-agree : {p t : Term} {l : List Term} → Filling f shared τ p l t → Filling f shared κ p l t
    filling-agree (own {x} s q) = own s (agree x s ∙ q)
    filling-agree (taken s q) = taken s q
    filling-agree (node hs) = node (fillings-agree hs)

    fillings-agree : {ps ts : Terms} {l : List Term} → Fillings f shared τ ps l ts → Fillings f shared κ ps l ts
    fillings-agree none = none
    fillings-agree (each q h hs) = each q (filling-agree h) (fillings-agree hs)

-- ---- the pooled left side

module _ (σ : Signature) (A : Admissible σ) (f : ℕ) (is_symbol : IsSymbol σ f) (ac : (symbol_of σ f).ac ≡ true)
    (shared : ℕ → Bool) (rule : Rule) (pool : ℕ) (left : Term) (xs ds : List ℕ)
    (P : Pooled σ f shared rule pool left xs ds) where
  pooled-left : (υ κ : Substitution) (t : Term) → bunch_of f (map υ xs) ≡ full t → Equivalent σ (κ pool) t →
      ((y : ℕ) → 0 < occurrences y left → eqb pool y ≡ false → Equivalent σ (κ y) (υ y)) →
      Equivalent σ (substitute κ left) (substitute υ rule.left)
  pooled-left υ κ t q d h =
      then (substitute-agree σ κ (λ (y : ℕ). substitute υ (π y)) left at)
      (subst (λ (u : Term). Equivalent σ u (substitute υ rule.left)) (substitute-twice υ π left)
      (back (substitute-resp-equivalent σ υ P.same)))
    where
      π : Substitution
      π y = cond (eqb pool y) P.sum (var y)

      whole : t ≡ substitute υ P.sum
      whole = full-inj (sym q ∙ sym (sum-substituted f υ xs) ∙ ap (on_bunch f υ) P.is_sum)

      at : (y : ℕ) → 0 < occurrences y left → Equivalent σ (κ y) (substitute υ (π y))
      at y n =
          by_test (eqb pool y) (λ e. rw (e, ← eqb-true pool y e, ← whole) d) λ e. rw e (h y n e)

  -- ---- sound

  image-of : (s : Term) (c : Binding) → Expression σ s → IsImage σ c → Expression σ (image_or s c)
  image-of s free e i = e
  image-of s (bound u) e i = i

  -- What is shared out, under bindings that are found, is a result of the rule.
  pub pooled-sound : (s : Term) → Expression σ s → (b : Bindings) → Memᴰ b (matches σ left s unbound) →
      (v : Term) →
      Shared f shared (substitution_or s b) rule.right (flattening f (substitution_or s b pool)) (length ds) v →
      (υ : Substitution) × ExpressionSubstitution σ υ × Equivalent σ s (substitute υ rule.left) ×
      Equivalent σ v (substitute υ rule.right)
  pooled-sound s e b m v k =
      let κ = substitution_or s b in
      let h = matches-sound σ A.ac_binary left s unbound b e (λ x. tt) m in
      let i : ExpressionSubstitution σ κ = λ x. image-of s (b x) e (h.images x) in
      let (υ, j, o, d, (t, q, c)) = shared-sound σ A f is_symbol ac shared κ i rule.right (κ pool) xs ds v (i pool)
      P.once P.accounted k in (
        υ,
        j,
        then (h.agrees κ (λ x. agrees-own σ s (b x))).1 (pooled-left υ κ t q c λ y n z.
            subst (λ (u : Term). Equivalent σ (κ y) u) (sym (o y (P.apart y n))) same),
        d,
      )

  -- ---- complete

  agrees_at : (s t : Term) (c : Binding) → (c ≡ free → ⊥) → AgreesAt σ c t → Equivalent σ (image_or s c) t
  agrees_at s t free h a = absurd (h refl)
  agrees_at s t (bound u) h a = a

  module _ (s : Term) (e : Expression σ s) (τ : Substitution) (images : ExpressionSubstitution σ τ) where
    abbrev whole : Term
    whole = substitute τ P.sum

    whole_sum : bunch_of f (map τ xs) ≡ full whole
    whole_sum = sym (sum-substituted f τ xs) ∙ ap (on_bunch f τ) P.is_sum

    abbrev with_pool : Substitution
    with_pool y = cond (eqb pool y) whole (τ y)

    pooled-before : Equivalent σ s (substitute τ rule.left) → Equivalent σ s (substitute with_pool left)
    pooled-before d =
        then d (back (pooled-left τ with_pool whole whole_sum (rw eqb-self same) λ y n z. rw z same))

    module _ (b : Bindings) (m : Memᴰ b (matches σ left s unbound)) (a : Agrees σ b with_pool) where
      abbrev found : Substitution
      found = substitution_or s b

      -- As found, but the shared variables as given.
      abbrev mixed : Substitution
      mixed x = cond (shared x) (τ x) (found x)

      found-agrees : (x : ℕ) → 0 < occurrences x left → Equivalent σ (found x) (with_pool x)
      found-agrees x n =
          let h = matches-sound σ A.ac_binary left s unbound b e (λ x. tt) m in
          agrees_at s (with_pool x) (b x) (λ z. omega (arith, (h.binds x z).1)) (a x)

      found-expression : ExpressionSubstitution σ found
      found-expression x =
          let h = matches-sound σ A.ac_binary left s unbound b e (λ x. tt) m in image-of s (b x) e (h.images x)

      mixed-formed : (x : ℕ) → WellFormed σ (mixed x)
      mixed-formed x = by_test (shared x) (λ z. rw z (images x).0) λ z. rw z (found-expression x).0

      mixed-right : (x : ℕ) → 0 < occurrences x rule.right → Equivalent σ (mixed x) (τ x)
      mixed-right x n =
          by_test (shared x) (λ z. rw z same)
          λ z. rw z (by_test (eqb pool x)
          (λ p. absurd (omega (arith, P.absent, ap (λ (y : ℕ). occurrences y rule.right) (eqb-true pool x p))))
          λ p. rw p at (found-agrees x (P.covers x n z)))

      pooled-shared : (v : Term) × Shared f shared found rule.right (flattening f (found pool)) (length ds) v ×
          Equivalent σ v (substitute τ rule.right)
      pooled-shared =
          let g : map mixed xs ≡ map τ xs = map-agree mixed τ xs (λ x i. rw (P.all_shared x i) refl) in
          let c : Equivalent σ (found pool) whole = rw eqb-self at (found-agrees pool P.pools) in
          let (v, k, d) = shared-complete σ A.ac_binary f ac shared mixed mixed-formed rule.right (found pool)
          whole xs ds (found-expression pool).0 (ap (bunch_of f) g ∙ whole_sum) c P.accounted.all in (
            v,
            record {
              kept = k.kept;
              dropped = k.dropped;
              parts = k.parts;
              enough = k.enough;
              exact = k.exact;
              filling = filling-agree f shared mixed found (λ x z. rw z refl) k.filling;
            },
            then d (substitute-agree σ mixed τ rule.right mixed-right),
          )

    -- A result of the rule is, up to AC-equivalence, shared out under some bindings that are found.
    pub pooled-complete : Equivalent σ s (substitute τ rule.left) →
        (b : Bindings) × Memᴰ b (matches σ left s unbound) × ((v : Term) ×
        Shared f shared (substitution_or s b) rule.right (flattening f (substitution_or s b pool)) (length ds) v ×
        Equivalent σ v (substitute τ rule.right))
    pooled-complete d =
        let (b, m, a) = matches-complete σ A.ac_binary left s unbound with_pool e.0 (pooled-before d) (λ x. tt) in
        (b, m, pooled-shared b m a)

  -- ---- the least

  -- What is at most the least filling of every choice of elements that are kept, in a context, is at most every result
  -- of the rule there that fits.
  pub pooled-at-most : Shaped σ rule.right → (c : Context) → ExpressionContext σ c → (limit : ℕ) (best : Term) →
      Expression σ best → (s : Term) → Expression σ s →
      ((b : Bindings) → Memᴰ b (matches σ left s unbound) → (v : Term) →
      (k : Shared f shared (substitution_or s b) rule.right (flattening f (substitution_or s b pool)) (length ds)
      v) →
      size (fill c v) ≤ limit →
      (t : Term) × LeastFilling σ f shared (substitution_or s b) rule.right k.kept t ×
      AtMost σ best (fill c t)) →
      (τ : Substitution) → ExpressionSubstitution σ τ → Equivalent σ s (substitute τ rule.left) → (u : Term) →
      Expression σ u → Equivalent σ u (substitute τ rule.right) → size (fill c u) ≤ limit → AtMost σ best (fill c u)
  pooled-at-most shape c k limit best x s e H τ i d u y q n =
      let (b, m, (v, h, p)) = pooled-complete s e τ i d in
      let o : Equivalent σ v u = then p (back q) in
      let z : Expression σ v = expression-resp-equivalent σ (back o) y in
      let w = fill-resp-equivalent σ c o in
      let (t, l, a) = H b m v h (omega (arith, n, plain-resp-equivalent σ (λ x. 1) (λ f. 1) w)) in
      let g = matches-sound σ A.ac_binary left s unbound b e (λ x. tt) m in
      let r = filling-expression σ A f is_symbol ac shared (substitution_or s b) (λ x j. image-of s (b x) e (g.images x))
      l.0 shape λ j z. flattening-each (expressions σ) j (substitution_or s b pool) f
      (image-of s (b pool) e (g.images pool)) (parted-left h.parts j z) in
      let ft = fill-expression σ c t k r in
      let fv = fill-expression σ c v k z in
      let fu = fill-expression σ c u k y in
      at-most-trans σ A best (fill c t) (fill c u) x ft fu a
      (at-most-trans σ A (fill c t) (fill c v) (fill c u) ft fv fu
      (at-most-fill σ A c t v k r z ft fv (l.1 v h.filling))
      (at-most-same σ A (fill c v) (fill c u) fv fu w))
