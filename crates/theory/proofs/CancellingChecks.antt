-- Instances of cancelling, computed: under a signature with a unary symbol of weight 0, and one with coefficients.
--     wrapped, weighed                 an element is struck from deep in a nest
--     wrapped-values, weighed-values   the relations, before and after
use mathlib.Core.List.{[], ◌∷◌}
use mathlib.Core.Path.{◌≡◌, refl}
use mathlib.Core.Bool.{true}
use native.Mathlib.Omega.{arith}
use Rattle.multisets.specs.Multiset.{multiset_equal, row_equal, multiset_greater, row_greater}
use Rattle.terms.specs.Signature.{Signature}
use Rattle.terms.specs.Term.{Term, Ground, Expression}
use Rattle.terms.specs.Equivalence.{is_equivalent_to, is_equivalent}
use Rattle.terms.specs.Equivalence.Equivalent.{same, under, exchange}
use Rattle.terms.specs.Equivalence.Equivalents.{none, each}
use Rattle.terms.specs.Order.{none_oftener, flattened_mark, root_mark, decreasing_mark, is_greater_to, is_greater}
use Rattle.terms.specs.CoefficientSample.{example, o, ◌∘◌}
use Rattle.terms.specs.CoefficientSample as sample
use Rattle.theory.specs.CancellingStatements.{SameRelation}
use Rattle.terms.proofs.FormedTest.{is_formed, formed-decides}
use Rattle.theory.proofs.WeightlessExample.{signature, ◌⊕◌, a, f}
use Rattle.theory.proofs.WeightlessExample as weightless
use Rattle.theory.proofs.CoefficientExample as coefficients
use Rattle.theory.proofs.Theorems.{element-cancels}

expression : (σ : Signature) (t : Term) → is_formed σ t ≡ true → Ground t → Expression σ t
expression σ t e g = ((formed-decides σ t).0 e, g)

-- ---- a unary symbol of weight 0

-- f(f(a)) is struck from f(a) + (a + f(f(a))) and (f(f(a)) + a) + a, which leaves f(a) + a and a + a.
wrapped : SameRelation signature (f a ⊕ (a ⊕ f (f a))) (f (f a) ⊕ a ⊕ a) (f a ⊕ a) (a ⊕ a)
unfolding multiset_equal is_equivalent is_equivalent_to row_equal
wrapped =
    let e : (t : Term) → is_formed signature t ≡ true → Ground t → Expression signature t = expression signature in
    element-cancels signature weightless.admissible 0 (omega arith, refl) (f (f a)) (f (f a))
    (e (f (f a)) refl λ x. refl) same (f a ⊕ (a ⊕ f (f a))) (f (f a) ⊕ a ⊕ a) (f a ⊕ a) (a ⊕ a)
    (e (f a ⊕ (a ⊕ f (f a))) refl λ x. refl) (e (f (f a) ⊕ a ⊕ a) refl λ x. refl) (e (f a ⊕ a) refl λ x. refl)
    (e (a ⊕ a) refl λ x. refl) (record { before = f a ∷ a ∷ []; after = []; place = refl })
    (record { before = []; after = a ∷ a ∷ []; place = refl }) refl refl

wrapped-values :
    (is_greater signature (f a ⊕ (a ⊕ f (f a))) (f (f a) ⊕ a ⊕ a) ≡ true) ×
    (is_greater signature (f a ⊕ a) (a ⊕ a) ≡ true)
unfolding is_greater is_greater_to decreasing_mark root_mark flattened_mark none_oftener is_equivalent is_equivalent_to
    multiset_equal multiset_greater row_equal row_greater
wrapped-values = (refl, refl)

-- ---- coefficients

abbrev p : Term
p = sample.f o o

abbrev q : Term
q = sample.s (sample.s o)

-- f(0, 0) and s(s(0)) weigh 13 each. The parts f(0, 0 ∘ s(0)) and f(0, s(0) ∘ 0), which are AC-equal, are struck from
-- both sides of them.
weighed :
    SameRelation example (p ∘ (o ∘ sample.f o (o ∘ sample.s o))) (sample.f o (sample.s o ∘ o) ∘ q ∘ o) (p ∘ o) (q ∘ o)
unfolding multiset_equal is_equivalent is_equivalent_to row_equal
weighed =
    let e : (t : Term) → is_formed example t ≡ true → Ground t → Expression example t = expression example in
    let u = sample.f o (o ∘ sample.s o) in
    let u' = sample.f o (sample.s o ∘ o) in
    element-cancels example coefficients.admissible 2 (omega arith, refl) u u' (e u refl λ x. refl)
    (under (each same (each (exchange refl) none))) (p ∘ (o ∘ u)) (u' ∘ q ∘ o) (p ∘ o) (q ∘ o)
    (e (p ∘ (o ∘ u)) refl λ x. refl) (e (u' ∘ q ∘ o) refl λ x. refl) (e (p ∘ o) refl λ x. refl)
    (e (q ∘ o) refl λ x. refl) (record { before = p ∷ o ∷ []; after = []; place = refl })
    (record { before = []; after = q ∷ o ∷ []; place = refl }) refl refl

weighed-values :
    (is_greater example (p ∘ (o ∘ sample.f o (o ∘ sample.s o))) (sample.f o (sample.s o ∘ o) ∘ q ∘ o) ≡ true) ×
    (is_greater example (p ∘ o) (q ∘ o) ≡ true)
unfolding is_greater is_greater_to decreasing_mark root_mark flattened_mark none_oftener is_equivalent is_equivalent_to
    multiset_equal multiset_greater row_equal row_greater
weighed-values = (refl, refl)
