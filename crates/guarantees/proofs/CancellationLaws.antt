-- Comparing joined terms and comparing their parts, by the relation of the terms.
--     relation-by-test           each relation by the test of the order
--     relation-related           expressions are never unrelated
--     relation-same              terms of the same relation
--     joined-part, part-short    what is left of an expression is an expression, and no longer
use mathlib.Core.Logic.{◌↔◌, ⊎_elim}
use mathlib.Core.Path.{◌≡◌}
use mathlib.Core.Bool.{true}
use Prim.Native.Nat.{ℕ, ◌≤◌}
use native.Mathlib.Omega.{arith}
use Rattle.multisets.proofs.Relations.{same_test}
use Rattle.terms.specs.Signature.{Signature, Admissible}
use Rattle.terms.specs.Term.{Term, size, WellFormed, Expression}
use Rattle.terms.specs.Term.Term.{app}
use Rattle.terms.specs.Term.Terms.{nil, cons}
use Rattle.terms.specs.Equivalence.{pair, Equivalent, is_equivalent}
use Rattle.terms.specs.Order.{is_greater}
use Rattle.terms.proofs.EquivalenceMeasures.{plain-resp-equivalent}
use Rattle.terms.proofs.Theorems.{test-decides}
use Rattle.terms.proofs.VariableLaws.{expressions}
use Rattle.theory.specs.CancellingStatements.{SameRelation, Joined, on_right, on_left}
use Rattle.theory.proofs.Theorems.{total-on-expressions}
use Rattle.operations.specs.declared.Relation.{Relation}
use Rattle.operations.specs.declared.Relation.TheVariants as said
use Rattle.operations.specs.Comparing.{relation}
use Rattle.guarantees.specs.Steinbach.{Says}
use Rattle.guarantees.proofs.RelationLaws.{relation-exact}

module _ (σ : Signature) (A : Admissible σ) where
  pub relation-by-test : (s t : Term) → WellFormed σ s → WellFormed σ t → (r : Relation) →
      relation σ s t ≡ r ↔ Says σ (λ (a b : Term). is_greater σ a b ≡ true) r s t
  relation-by-test = relation-exact σ A (λ a b. is_greater σ a b ≡ true) λ a b v w. (λ g. g, λ g. g)

  pub relation-related : (s t : Term) → Expression σ s → Expression σ t → relation σ s t ≡ said.Unrelated → ⊥
  relation-related s t (v, d) (w, e) h =
      let (g, l, q) = (relation-by-test s t v w said.Unrelated).0 h in
      ⊎_elim (λ x. g x.0) (⊎_elim (λ x. q x.1) λ x. l x.2) (total-on-expressions σ A s t v w d e)

  pub relation-same : (s t s' t' : Term) → WellFormed σ s → WellFormed σ t → WellFormed σ s' → WellFormed σ t' →
      SameRelation σ s t s' t' → relation σ s t ≡ relation σ s' t'
  unfolding relation
  relation-same s t s' t' v w v' w' r =
      let (down, up) = test-decides σ A.ac_binary s t v w in
      let (down', up') = test-decides σ A.ac_binary s' t' v' w' in
      rw (
        r.greater,
        r.less,
        same_test (is_equivalent σ s t) (is_equivalent σ s' t') (λ e. up' (r.equivalent.0 (down e)))
            λ e. up (r.equivalent.1 (down' e)),
      )

  pub joined-part : {f : ℕ} {s' u s : Term} → Joined σ f s' u s → Expression σ s → Expression σ s'
  joined-part {f} {s'} {u} on_right e =
      (expressions σ).head s' (cons u nil) ((expressions σ).inner f (cons s' (cons u nil)) e)
  joined-part {f} {s'} {u} on_left e =
      (expressions σ).head s' nil
      ((expressions σ).tail u (cons s' nil) ((expressions σ).inner f (cons u (cons s' nil)) e))

  pub part-short : (f : ℕ) (s s' u : Term) → Equivalent σ s (app f (pair s' u)) → size s' ≤ size s
  part-short f s s' u h = omega (arith, plain-resp-equivalent σ (λ x. 1) (λ g. 1) h)
