-- On well-formed terms the order is a strict order up to AC-equivalence.
--     is_greater-order                               transitive, irreflexive, compatible, as at every depth
--     decreasing_mark-resp-like, greater-resp-like   the mark and the test are the same for like terms
--     greater-not-equivalent, greater-asym          irreflexive up to AC-equivalence, asymmetric
--     greater_formed, greater_formed-order, -lowest   the order held to well-formed terms, on all terms
--     formed-view, greater_formed-view               the order by its cases, over the tests held; the order held
--     greater-weight                                the greater side weighs no less
use mathlib.Core.Logic.{◌↔◌}
use mathlib.Core.Path.{◌≡◌, sym, ap, ◌∙◌}
use mathlib.Core.Bool.{Bool, true, false≢true}
use Prim.Native.Nat.{ℕ, suc, zero, ◌+◌, ◌≤◌}
use native.Mathlib.Omega.{arith}
use lib.Dec.{ltb}
use Rattle.terms.specs.Signature.{Signature, Admissible}
use Rattle.terms.specs.Term.{Term, size, weight, WellFormed}
use Rattle.terms.specs.Term.Term.{var}
use Rattle.terms.specs.Equivalence.{Equivalent, is_equivalent}
use Rattle.terms.specs.Equivalence.Equivalent.{same}
use Rattle.terms.specs.Order.{decreasing_mark, is_greater_to, is_greater}
use Rattle.multisets.proofs.Relations.{IsStrictOrder}
use Rattle.multisets.proofs.Restriction.{IsStrictOrderOn, greater_within, greater_within-view, within-order}
use Rattle.terms.proofs.FormedTest.{is_formed, formed-decides}
use Rattle.terms.proofs.EquivalenceLaws.{is_equivalent-equivalence}
use Rattle.terms.proofs.EquivalenceComplete.{Equivalent→is_equivalent}
use Rattle.terms.proofs.OrderLaws.{is_greater_to-depth, is_greater-unfolds}
use Rattle.terms.proofs.WeightLaws.{variable-lightest}
use Rattle.theory.proofs.DecreasesView.{Decreases, decreases-view, is_greater-view}
use Rattle.theory.proofs.DecreasesView.Decreases.{by_weight, by_root}
use Rattle.theory.proofs.MarkInvariance.{decreasing_mark-resp}
use Rattle.theory.proofs.DecreasesOrder.{decreases-trans, decreases-irrefl}
use Rattle.theory.proofs.FormedLaws.{like_formed, like_formed-equivalence, like_formed-root, alike-of-test}
use Rattle.theory.proofs.FormedLaws.{greater_within-lowest, mark-formed}

module _ (σ : Signature) (A : Admissible σ) where
  -- ---- one depth after another

  module _ (greater : Term → Term → Bool) where
    abbrev deeper : Term → Term → Bool
    deeper s t = ltb 0 (decreasing_mark σ (is_equivalent σ) greater s t)

    abbrev held : Term → Term → Bool
    held = greater_within (is_formed σ) greater

    into : {s t : Term} → WellFormed σ s → WellFormed σ t → deeper s t ≡ true → Decreases σ (like_formed σ) held s t
    into {s} {t} v w e =
        (decreases-view σ (like_formed σ) held s t).0 (ap (ltb 0) (sym (mark-formed σ greater s t v w)) ∙ e)

    out : {s t : Term} → WellFormed σ s → WellFormed σ t → Decreases σ (like_formed σ) held s t → deeper s t ≡ true
    out {s} {t} v w d = ap (ltb 0) (mark-formed σ greater s t v w) ∙ (decreases-view σ (like_formed σ) held s t).1 d

    module _ (O : IsStrictOrderOn (WellFormed σ) (is_equivalent σ) greater) where
      held-order : IsStrictOrder (like_formed σ) held
      held-order =
          within-order (is_formed σ) (is_equivalent σ) (is_equivalent-equivalence σ) (formed-decides σ) greater O

      pub decreasing_mark-resp-like : (s s' t t' : Term) → WellFormed σ s → WellFormed σ s' → WellFormed σ t →
          WellFormed σ t' → is_equivalent σ s s' ≡ true → is_equivalent σ t t' ≡ true →
          decreasing_mark σ (is_equivalent σ) greater s t ≡ decreasing_mark σ (is_equivalent σ) greater s' t'
      decreasing_mark-resp-like s s' t t' u u' v v' e f =
          mark-formed σ greater s t u v
          ∙ decreasing_mark-resp σ (like_formed σ) (like_formed-equivalence σ) (like_formed-root σ) held held-order s s' t
          t' (alike-of-test σ A u u' e) (alike-of-test σ A v v' f)
          ∙ sym (mark-formed σ greater s' t' u' v')

      deeper-order : ((x : ℕ) (t : Term) → WellFormed σ t → greater (var x) t ≡ true → ⊥) →
          IsStrictOrderOn (WellFormed σ) (is_equivalent σ) deeper
      deeper-order lowest =
          let low = greater_within-lowest σ greater lowest in
          let E = like_formed-equivalence σ in
          let roots = like_formed-root σ in
          record {
            transitive = λ {a} {b} {c} u v w e f.
                out u w (decreases-trans σ (like_formed σ) E roots held held-order low A u w (into u v e) (into v w f));
            irreflexive = λ {a} {b} v w e f.
                decreases-irrefl σ (like_formed σ) E roots held held-order low (into v w e)
                (alike-of-test σ A v w f);
            respects = λ {a} {a'} {b} {b'} u u' v v' e f g.
                ap (ltb 0) (sym (decreasing_mark-resp-like a a' b b' u u' v v' e f)) ∙ g;
          }

  var-lowest : (n x : ℕ) (t : Term) → WellFormed σ t → is_greater_to σ n (var x) t ≡ true → ⊥
  unfolding is_greater_to
  var-lowest zero x t w e = false≢true e
  var-lowest (suc n) x t w e = go ((decreases-view σ (is_equivalent σ) (is_greater_to σ n) (var x) t).0 e)
    where
      go : Decreases σ (is_equivalent σ) (is_greater_to σ n) (var x) t → ⊥
      go (by_root _ x6) = elim x6 [ ]
      go (by_weight o h) = omega (arith, variable-lightest σ A x t w)

  is_greater_to-order : (n : ℕ) → IsStrictOrderOn (WellFormed σ) (is_equivalent σ) (is_greater_to σ n)
  unfolding is_greater_to
  is_greater_to-order zero = record {
    transitive = λ u v w e f. e;
    irreflexive = λ v w e f. false≢true e;
    respects = λ u u' v v' e f g. g;
  }
  is_greater_to-order (suc n) = deeper-order (is_greater_to σ n) (is_greater_to-order n) (var-lowest n)

  -- ---- the order

  pub is_greater-order : IsStrictOrderOn (WellFormed σ) (is_equivalent σ) (is_greater σ)
  is_greater-order = record {
    transitive = λ {a} {b} {c} u v w e f. let n : ℕ = size a + size b in
        rw (is_greater_to-depth σ n a c (omega arith)) ((is_greater_to-order n).transitive u v w
        (rw (is_greater_to-depth σ n a b (omega arith)) at e) (rw (is_greater_to-depth σ n b c (omega arith)) at f));
    irreflexive = λ {a} {b} v w e f. let n : ℕ = size a in
        (is_greater_to-order n).irreflexive v w (rw (is_greater_to-depth σ n a b (omega arith)) at e) f;
    respects = λ {a} {a'} {b} {b'} u u' v v' e f g. let n : ℕ = size a + size a' in
        rw (is_greater_to-depth σ n a' b' (omega arith)) ((is_greater_to-order n).respects u u' v v' e f
        (rw (is_greater_to-depth σ n a b (omega arith)) at g));
  }

  pub greater-resp-like : (s s' t t' : Term) → WellFormed σ s → WellFormed σ s' → WellFormed σ t → WellFormed σ t' →
      is_equivalent σ s s' ≡ true → is_equivalent σ t t' ≡ true → is_greater σ s t ≡ is_greater σ s' t'
  greater-resp-like s s' t t' u u' v v' e f =
      is_greater-unfolds σ s t
      ∙ ap (ltb 0) (decreasing_mark-resp-like (is_greater σ) is_greater-order s s' t t' u u' v v' e f)
      ∙ sym (is_greater-unfolds σ s' t')

  pub greater-not-equivalent : (s t : Term) → WellFormed σ s → WellFormed σ t → is_greater σ s t ≡ true →
      Equivalent σ s t → ⊥
  greater-not-equivalent s t v w g d = is_greater-order.irreflexive v w g (Equivalent→is_equivalent σ d)

  pub greater-asym : (s t : Term) → WellFormed σ s → WellFormed σ t → is_greater σ s t ≡ true →
      is_greater σ t s ≡ true → ⊥
  greater-asym s t v w g h = greater-not-equivalent s s v v (is_greater-order.transitive v w v g h) same

-- ---- the order held to well-formed terms

module _ (σ : Signature) where
  abbrev pub greater_formed : Term → Term → Bool
  greater_formed = greater_within (is_formed σ) (is_greater σ)

  pub greater_formed-order : Admissible σ → IsStrictOrder (like_formed σ) greater_formed
  greater_formed-order A = held-order σ A (is_greater σ) (is_greater-order σ A)

  pub greater_formed-lowest : Admissible σ → (x : ℕ) (t : Term) → greater_formed (var x) t ≡ true → ⊥
  unfolding is_greater
  greater_formed-lowest A = greater_within-lowest σ (is_greater σ) λ x. var-lowest σ A (size (var x)) x

  pub formed-view : (s t : Term) → WellFormed σ s → WellFormed σ t →
      is_greater σ s t ≡ true ↔ Decreases σ (like_formed σ) greater_formed s t
  formed-view s t v w =
      rw (is_greater-unfolds σ s t, mark-formed σ (is_greater σ) s t v w)
      (decreases-view σ (like_formed σ) greater_formed s t)

  pub greater_formed-view : (s t : Term) →
      greater_formed s t ≡ true ↔ (WellFormed σ s × WellFormed σ t × (is_greater σ s t ≡ true))
  greater_formed-view = greater_within-view (is_formed σ) (formed-decides σ) (is_greater σ)

  pub greater-weight : (s t : Term) → is_greater σ s t ≡ true → weight σ t ≤ weight σ s
  greater-weight s t g = elim ((is_greater-view σ s t).0 g) [
    | by_weight o h ↦ omega arith
    | by_root b r ↦ omega (arith, b.weights)
  ]
