-- A part that two expressions have in common under an AC symbol plays no part in their relation: contexts keep each of
-- the three relations, and of these exactly one holds.
--     operand-kept                              of two terms with one operand
--     cancels                                   of terms AC-equivalent to such
--     equivalent-joined, equivalent-left        which terms are: joined ones, and by their flattenings
--     left-of-struck                            what is left less an element
--     rest-bag                                  and that it is the flattening of an expression
--     greater-joined, greater-element           where nothing is left on the right
--     element-alone                             and on the left
use mathlib.Core.List.Memᴰ
use mathlib.Core.List.{List, [], ◌∷◌, ◌++◌, append-nil, Memᴰ}
use mathlib.Core.Logic.{inl, inr, ⊎_elim}
use mathlib.Core.Path.{◌≡◌, refl, sym, ap, ◌∙◌}
use mathlib.Core.Bool.{true}
use Prim.Native.Nat.{ℕ, ◌<◌}
use native.Mathlib.Omega.{arith}
use lib.Dec.{eqb}
use lib.ListN.{length, length-append}
use borrow.Author.Tests.{eqb-true}
use Rattle.multisets.specs.Multiset.{multiset_equal}
use Rattle.terms.specs.Signature.{Signature, symbol_of, Admissible}
use Rattle.terms.specs.Term.{Term, flattening, flattenings, Expression}
use Rattle.terms.specs.Term.Term.{var, app}
use Rattle.terms.specs.Equivalence.{pair, Equivalent, is_equivalent}
use Rattle.terms.specs.Equivalence.Equivalent.{same, back, then, under, exchange}
use Rattle.terms.specs.Equivalence.Equivalents.{none, each}
use Rattle.terms.specs.Order.{is_greater}
use Rattle.terms.specs.Rewriting.{Context, ExpressionContext}
use Rattle.terms.specs.Rewriting.Context.{hole, inside}
use Rattle.theory.specs.Statements.{ExactlyOne}
use Rattle.theory.specs.CancellingStatements.{SameRelation, IsAc, Joined, on_right, on_left, LeftOf, Element}
use Rattle.theory.specs.CancellingStatements.{rest, Struck}
use Rattle.multisets.proofs.Relations.{by_test, same_test, eqb-self, IsEquivalence}
use Rattle.multisets.proofs.MultisetLaws.{count-append, multiset_equal-counts, multiset_equal-length}
use Rattle.multisets.proofs.MultisetLaws.{multiset_equal-equivalence}
use Rattle.terms.proofs.FlatteningLaws.{NotRoot, flattening-roots, flattening-long, flattenings-long}
use Rattle.terms.proofs.EquivalenceLaws.{is_equivalent-equivalence, is_equivalent-of-arguments}
use Rattle.terms.proofs.EquivalenceComplete.{Equivalent→is_equivalent}
use Rattle.terms.proofs.EquivalenceSound.{is_equivalent→Equivalent}
use Rattle.terms.proofs.EquivalenceMeasures.{expression-resp-equivalent}
use Rattle.terms.proofs.RewritingLaws.{fill-expression, fill-resp-equivalent}
use Rattle.terms.proofs.TermLaws.{flattening-each, Each}
use Rattle.terms.proofs.VariableLaws.{not-ground, none_oftener-ground, expressions}
use Rattle.terms.proofs.WeightLaws.{flattening-lighter}
use Rattle.theory.proofs.DecreasesView.{is_greater-view}
use Rattle.theory.proofs.DecreasesView.Decreases.{by_weight}
use Rattle.theory.proofs.StrictOrder.{greater-resp-like}
use Rattle.theory.proofs.TotalOrder.{exactly-one}
use Rattle.theory.proofs.Contexts.{greater-part, greater-fill}

-- ---- one of three for one of three

module _ (P Q R P' Q' R' : Type 0) where
  apart : ExactlyOne P Q R → (P → Q → ⊥) × (P → R → ⊥) × (Q → R → ⊥)
  apart (inl (p, nq, nr)) = (λ x y. nq y, λ x z. nr z, λ y z. nr z)
  apart (inr (inl (np, q, nr))) = (λ x y. np x, λ x z. np x, λ y z. nr z)
  apart (inr (inr (np, nq, r))) = (λ x y. np x, λ x z. np x, λ y z. nq y)

  -- What the one of three implies holds alone, so each of them follows back.
  exactly-back : ExactlyOne P Q R → (P' → Q' → ⊥) × (P' → R' → ⊥) × (Q' → R' → ⊥) → (P → P') → (Q → Q') → (R → R') →
      (P' → P) × (Q' → Q) × (R' → R)
  exactly-back (inl (p, nq, nr)) (pq, pr, qr) f g h = (λ x. p, λ y. absurd (pq (f p) y), λ z. absurd (pr (f p) z))
  exactly-back (inr (inl (np, q, nr))) (pq, pr, qr) f g h =
      (λ x. absurd (pq x (g q)), λ y. q, λ z. absurd (qr (g q) z))
  exactly-back (inr (inr (np, nq, r))) (pq, pr, qr) f g h =
      (λ x. absurd (pr x (h r)), λ y. absurd (qr y (h r)), λ z. r)

-- ---- relations

module _ (σ : Signature) (A : Admissible σ) where
  E : IsEquivalence (is_equivalent σ)
  E = is_equivalent-equivalence σ

  carried : (s t s' t' : Term) → Expression σ s → Expression σ t → Expression σ s' → Expression σ t' →
      (is_greater σ s t ≡ true → is_greater σ s' t' ≡ true) → (Equivalent σ s t → Equivalent σ s' t') →
      (is_greater σ t s ≡ true → is_greater σ t' s' ≡ true) → SameRelation σ s' t' s t
  carried s t s' t' d e d' e' g q l =
      let x = apart (is_greater σ s' t' ≡ true) (Equivalent σ s' t') (is_greater σ t' s' ≡ true) ⊥ ⊥ ⊥
      (exactly-one σ A s' t' d' e') in
      let (g', q', l') = exactly-back (is_greater σ s t ≡ true) (Equivalent σ s t) (is_greater σ t s ≡ true)
      (is_greater σ s' t' ≡ true) (Equivalent σ s' t') (is_greater σ t' s' ≡ true)
      (exactly-one σ A s t d e) x g q l in
      record {
        greater = same_test (is_greater σ s' t') (is_greater σ s t) g' g;
        less = same_test (is_greater σ t' s') (is_greater σ t s) l' l;
        equivalent = (q', q);
      }

  relation-resp : (s t s' t' : Term) → Expression σ s → Expression σ t → Equivalent σ s s' → Equivalent σ t t' →
      SameRelation σ s t s' t'
  relation-resp s t s' t' d e x y =
      let d' = expression-resp-equivalent σ x d in
      let e' = expression-resp-equivalent σ y e in
      let p = Equivalent→is_equivalent σ x in
      let q = Equivalent→is_equivalent σ y in
      record {
        greater = greater-resp-like σ A s s' t t' d.0 d'.0 e.0 e'.0 p q;
        less = greater-resp-like σ A t t' s s' e.0 e'.0 d.0 d'.0 q p;
        equivalent = (λ h. then (back x) (then h y), λ h. then x (then h (back y)));
      }

  relation-trans : {s t s' t' s'' t'' : Term} → SameRelation σ s t s' t' → SameRelation σ s' t' s'' t'' →
      SameRelation σ s t s'' t''
  relation-trans p q = record {
    greater = p.greater ∙ q.greater;
    less = p.less ∙ q.less;
    equivalent = (λ h. q.equivalent.0 (p.equivalent.0 h), λ h. p.equivalent.1 (q.equivalent.1 h));
  }

  -- ---- an operand

  module _ (f : ℕ) (c : IsAc σ f) where
    abbrev join : Term → Term → Term
    join s u = app f (pair s u)

    abbrev beside : Term → Context
    beside u = inside f [] hole (u ∷ [])

    beside-expression : (u : Term) → Expression σ u → ExpressionContext σ (beside u)
    beside-expression u x = (
      c.0,
      omega (arith, A.ac_binary f c.1),
      λ t m. absurd (Memᴰ.not-nil m),
      tt,
      λ t m. rw (Memᴰ.eq_of_singleton m) x,
    )

    pub join-expression : (s u : Term) → Expression σ s → Expression σ u → Expression σ (join s u)
    join-expression s u d x = fill-expression σ (beside u) s (beside-expression u x) d

    pub operand-kept : (s t u : Term) → Expression σ s → Expression σ t → Expression σ u →
        SameRelation σ (join s u) (join t u) s t
    operand-kept s t u d e x =
        let k = beside-expression u x in
        carried s t (join s u) (join t u) d e (join-expression s u d x) (join-expression t u e x)
        (greater-fill σ A (beside u) s t k d e) (fill-resp-equivalent σ (beside u))
        (greater-fill σ A (beside u) t s k e d)

    pub cancels : (s t s' t' u u' : Term) → Expression σ s' → Expression σ t' → Expression σ u → Equivalent σ u u' →
        Equivalent σ s (join s' u) → Equivalent σ t (join t' u') → SameRelation σ s t s' t'
    cancels s t s' t' u u' d e x q h k =
        let k' : Equivalent σ t (join t' u) = then k (under (each same (each (back q) none))) in
        relation-trans
        (relation-resp s t (join s' u) (join t' u)
        (expression-resp-equivalent σ (back h) (join-expression s' u d x))
        (expression-resp-equivalent σ (back k') (join-expression t' u e x)) h k')
        (operand-kept s' t' u d e x)

    pub equivalent-joined : {s' u s : Term} → Joined σ f s' u s → Equivalent σ s (join s' u)
    equivalent-joined on_right = same
    equivalent-joined on_left = exchange c.1

    -- ---- a part of the flattenings

    pub equivalent-left : (s s' u : Term) → Expression σ s → Expression σ s' → Expression σ u → LeftOf σ f s u s' →
        Equivalent σ s (join s' u)
    equivalent-left (var y) s' u d e x h = absurd (not-ground y d.1)
    equivalent-left (app g ts) s' u d e x h =
        by_test (eqb f g)
        (λ q. is_equivalent→Equivalent σ A.ac_binary (app g ts) (join s' u) d.0 (join-expression s' u e x).0
        (rw (← eqb-true f g q) (is_equivalent-of-arguments σ f ts (pair s' u) (rw (c.1, append-nil) (rw q at h)))))
        λ q. absurd (omega (
          arith,
          multiset_equal-length (is_equivalent σ) E (app g ts ∷ []) (flattening f s' ++ flattening f u) (rw q at h),
          length-append (flattening f s') (flattening f u),
          flattening-long σ f (A.ac_binary f c.1) s' e.0,
          flattening-long σ f (A.ac_binary f c.1) u x.0,
        ))

    -- ---- an element of the flattenings

    flattening-own : (u : Term) → NotRoot f u → flattening f u ≡ u ∷ []
    flattening-own (var y) r = refl
    flattening-own (app g ts) r = rw r

    element-member : (s u : Term) → Element σ f s u → Memᴰ u (flattening f s)
    element-member s u i = rw i.place (Memᴰ.append_right i.before (Memᴰ.head refl))

    element-own : (s u : Term) → Element σ f s u → flattening f u ≡ u ∷ []
    element-own s u i = flattening-own u (flattening-roots f s u (element-member s u i))

    pub left-of-struck : (s s' u : Term) (i : Element σ f s u) → Struck σ f i s' → LeftOf σ f s u s'
    left-of-struck s s' u i h =
        rw (i.place, element-own s u i)
        ((multiset_equal-counts (is_equivalent σ) E (i.before ++ (u ∷ i.after)) (flattening f s' ++ (u ∷ []))).1
        λ a. omega (
          arith,
          (multiset_equal-counts (is_equivalent σ) E (flattening f s') (rest σ f i)).0 h a,
          count-append (is_equivalent σ) a i.before i.after,
          count-append (is_equivalent σ) a i.before (u ∷ i.after),
          count-append (is_equivalent σ) a (flattening f s') (u ∷ []),
        ))

    -- ---- what is left, as one term

    abbrev nest : Term → List Term → Term
    nest t [] = t
    nest t (u ∷ l) = join t (nest u l)

    nest-bag : (t : Term) (l : List Term) → Each (λ (a : Term). Expression σ a × NotRoot f a) (t ∷ l) →
        Expression σ (nest t l) × (flattening f (nest t l) ≡ t ∷ l)
    nest-bag t [] h = let (e, r) = h t (Memᴰ.head refl) in (e, flattening-own t r)
    nest-bag t (u ∷ l) h =
        let (e, r) = h t (Memᴰ.head refl) in
        let (d, q) = nest-bag u l (λ a m. h a (Memᴰ.tail m)) in
        (join-expression t (nest u l) e d, rw (eqb-self, flattening-own t r, q, append-nil))

    rest-member : (s u : Term) (i : Element σ f s u) (a : Term) → Memᴰ a (rest σ f i) →
        Memᴰ a (flattening f s)
    rest-member s u i a m =
        rw i.place (⊎_elim (λ k. Memᴰ.append_left (u ∷ i.after) k)
        (λ k. Memᴰ.append_right i.before (Memᴰ.tail k)) (Memᴰ.append_cases i.before m))

    pub rest-bag : (s u : Term) → Expression σ s → (i : Element σ f s u) → 0 < length (rest σ f i) →
        (s' : Term) × Expression σ s' × Struck σ f i s'
    rest-bag s u d i = go (rest σ f i) λ a m.
        let n = rest-member s u i a m in (flattening-each (expressions σ) a s f d n, flattening-roots f s a n)
      where
        go : (l : List Term) → Each (λ (a : Term). Expression σ a × NotRoot f a) l → 0 < length l →
            (s' : Term) × Expression σ s' × (multiset_equal (is_equivalent σ) (flattening f s') l ≡ true)
        go [] h n = absurd (omega arith)
        go (t ∷ l) h n =
            let (e, q) = nest-bag t l h in
            (nest t l, e, rw q ((multiset_equal-equivalence (is_equivalent σ) E).reflexive (t ∷ l)))

    -- ---- nothing left

    pub greater-joined : (s t s' u : Term) → Expression σ s' → Expression σ u → Equivalent σ s (join s' u) →
        Equivalent σ u t → is_greater σ s t ≡ true
    greater-joined s t s' u d x h q =
        let w = join-expression s' u d x in
        sym (relation-resp (join s' u) u s t w x (back h) q).greater
        ∙ greater-part σ A f (s' ∷ []) hole [] u w.0

    none-of-append : (ss ts : List Term) → ss ++ ts ≡ [] → (ss ≡ []) × (ts ≡ [])
    none-of-append [] ts e = (refl, e)
    none-of-append (s ∷ ss) ts e = absurd (omega (arith, ap length e))

    single : (t u : Term) → Expression σ t → flattening f t ≡ u ∷ [] → t ≡ u
    single (var y) u e h = absurd (not-ground y e.1)
    single (app g ts) u e h =
        by_test (eqb f g)
        (λ q. let k : flattenings f ts ≡ u ∷ [] = rw q at h in
        absurd (omega (
          arith,
          ap length k,
          ap (λ (i : ℕ). (symbol_of σ i).arity) (eqb-true f g q),
          A.ac_binary f c.1,
          flattenings-long σ f (A.ac_binary f c.1) ts e.0.2,
        )))
        λ q. let k : (app g ts ∷ []) ≡ (u ∷ []) = rw q at h in cc

    pub element-alone : (t u : Term) → Expression σ t → (j : Element σ f t u) → rest σ f j ≡ [] → t ≡ u
    element-alone t u e j h =
        let (b, a) = none-of-append j.before j.after h in
        single t u e (j.place ∙ rw (b, a))

    pub greater-element : (s u : Term) → Expression σ s → (i : Element σ f s u) → 0 < length (rest σ f i) →
        is_greater σ s u ≡ true
    greater-element s u d i h =
        let m = element-member s u i in
        let x = flattening-each (expressions σ) u s f d m in
        ⊎_elim
        (λ q. absurd (omega (
          arith,
          ap length (sym i.place ∙ ap (flattening f) (sym q) ∙ element-own s u i),
          length-append i.before i.after,
          length-append i.before (u ∷ i.after),
        )))
        (λ l. (is_greater-view σ s u).1 (by_weight (none_oftener-ground σ s u x.1) l))
        (flattening-lighter σ A f (A.ac_binary f c.1) s d.0 u m)
