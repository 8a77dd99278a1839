-- Steps by decreasing rules lead to smaller expressions, and derivations descend throughout.
--     step-decreases        a step by a decreasing rule
--     along-descends        each expression of a derivation is greater than each later one
--     along-expressions     they are expressions, and none weighs more than the first
--     steps-accessible      no steps go on for ever
--     length-along          there is one more of them than steps
use mathlib.Core.List.Memᴰ
use mathlib.Core.List.{Memᴰ}
use mathlib.Core.Path.{◌≡◌, refl, ap}
use mathlib.Core.Bool.{true}
use mathlib.Core.WellFounded.{Acc}
use Prim.Native.Nat.{suc, ◌≤◌}
use native.Mathlib.Omega.{arith}
use lib.ListN.{length}
use Rattle.terms.specs.Signature.{Signature, Admissible}
use Rattle.terms.specs.Term.{Term, weight, WellFormed, Expression}
use Rattle.terms.specs.Equivalence.Equivalent.{back}
use Rattle.terms.specs.Order.{is_greater}
use Rattle.terms.specs.Rewriting.{System, WellFormedRules, Decreasing, AllDecreasing, substitute, Step, Derivation}
use Rattle.terms.specs.Rewriting.{step_count, along, StronglySorted}
use Rattle.terms.specs.Rewriting.Derivation.{done, more}
use Rattle.multisets.proofs.Accessibility.{Accessible}
use Rattle.terms.proofs.EquivalenceComplete.{Equivalent→is_equivalent}
use Rattle.terms.proofs.RewritingLaws.{fill-expression, substitute-expression, step-expressions}
use Rattle.theory.proofs.StrictOrder.{is_greater-order, greater_formed, greater_formed-view, greater-weight}
use Rattle.theory.proofs.WellFounded.{reached}
use Rattle.theory.proofs.Contexts.{greater-fill}
use Rattle.theory.proofs.Substitutions.{greater-substitute}

module _ (R : System) (A : Admissible R.signature) (W : WellFormedRules R) where
  abbrev σ : Signature
  σ = R.signature

  pub step-decreases : {s t : Term} (p : Step R s t) → Decreasing σ p.rule → is_greater σ s t ≡ true
  step-decreases {s} {t} p falls =
      let τ = p.substitution in
      let c = p.context in
      let (v, w) = W p.rule p.is_rule in
      let (x, y) = step-expressions R W p in
      let l = substitute τ p.rule.left in
      let r = substitute τ p.rule.right in
      let d = substitute-expression σ τ p.images p.rule.left v in
      let e = substitute-expression σ τ p.images p.rule.right w in
      (is_greater-order σ A).respects (fill-expression σ c l p.around d).0 x.0
      (fill-expression σ c r p.around e).0 y.0 (Equivalent→is_equivalent σ (back p.before))
      (Equivalent→is_equivalent σ (back p.after)) (greater-fill σ A c l r p.around d e
      (greater-substitute σ A τ p.images p.rule.left p.rule.right v w falls))

  module _ (D : AllDecreasing R) where
    down : {s t : Term} → Step R s t → is_greater σ s t ≡ true
    down p = step-decreases p (D p.rule p.is_rule)

    -- What is greater than the first is greater than all.
    above-all : {s t : Term} (d : Derivation R s t) (r : Term) → WellFormed σ r → WellFormed σ s →
        is_greater σ r s ≡ true → (u : Term) → Memᴰ u (along R d) → is_greater σ r u ≡ true
    above-all done r v w h u m = rw (Memᴰ.eq_of_singleton m) h
    above-all (more p d) r v w h u (Memᴰ.head e) = rw e h
    above-all (more p d) r v w h u (Memᴰ.tail m) =
        let x = (step-expressions R W p).1.0 in
        above-all d r v x ((is_greater-order σ A).transitive v w x h (down p)) u m

    pub along-descends : {s t : Term} (d : Derivation R s t) →
        StronglySorted (λ (u v : Term). is_greater σ u v ≡ true) (along R d)
    along-descends done = (λ u m. absurd (Memᴰ.not-nil m), tt)
    along-descends (more {s} p d) =
        let (x, y) = step-expressions R W p in (above-all d s x.0 y.0 (down p), along-descends d)

    pub along-expressions : {s t : Term} (d : Derivation R s t) → Expression σ s → (u : Term) →
        Memᴰ u (along R d) → Expression σ u × (weight σ u ≤ weight σ s)
    along-expressions (done {s}) e u m = rw (Memᴰ.eq_of_singleton m) (e, omega arith)
    along-expressions (more {s} p d) e u (Memᴰ.head q) = rw q (e, omega arith)
    along-expressions (more {s} {t} p d) e u (Memᴰ.tail m) =
        let (x, l) = along-expressions d (step-expressions R W p).1 u m in
        (x, omega (arith, greater-weight σ s t (down p)))

    -- Steps from an accessible term, and from any.
    steps-below : {s : Term} → Accessible (greater_formed σ) s → Acc (λ (v u : Term). Step R u v) s
    steps-below (Acc.intro s x) =
        Acc.intro s λ t p. let (v, w) = step-expressions R W p in
        steps-below (x t ((greater_formed-view σ s t).1 (v.0, w.0, down p)))

    pub steps-accessible : (s : Term) → Acc (λ (v u : Term). Step R u v) s
    steps-accessible s = Acc.intro s λ t p. steps-below (reached σ A t (step-expressions R W p).1.0)

pub length-along : (R : System) {s t : Term} (d : Derivation R s t) → length (along R d) ≡ suc (step_count R d)
length-along R done = refl
length-along R (more p d) = ap suc (length-along R d)
