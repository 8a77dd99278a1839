-- The relation that comparing gives, by an order which the test decides.
--     relation-exact        each relation is given exactly if it holds
--     relation-accepted     replies that are the same have the same relation
use mathlib.Core.Logic.{◌↔◌}
use mathlib.Core.Path.{◌≡◌, sym, ap, ◌∙◌}
use mathlib.Core.Bool.{true, false≢true}
use Rattle.terms.specs.Signature.{Signature, Admissible}
use Rattle.terms.specs.Term.{Term, WellFormed}
use Rattle.terms.specs.Equivalence.{is_equivalent}
use Rattle.terms.specs.Equivalence.Equivalent.{back}
use Rattle.terms.specs.Order.{is_greater}
use Rattle.multisets.proofs.Relations.{by_test, refuted}
use Rattle.terms.proofs.Theorems.{test-decides}
use Rattle.theory.proofs.StrictOrder.{greater-asym}
use Rattle.theory.proofs.Theorems.{greater-irreflexive}
use Rattle.operations.specs.declared.Comparison.{Comparison}
use Rattle.operations.specs.declared.Relation.{Relation}
use Rattle.operations.specs.declared.Relation.TheVariants as said
use Rattle.operations.specs.Replies.Reply.{accepted}
use Rattle.operations.specs.Comparing.{relation}
use Rattle.guarantees.specs.Steinbach.{Says}

module _ (σ : Signature) (A : Admissible σ) (P : Term → Term → Type 0)
    (decides : (s t : Term) → WellFormed σ s → WellFormed σ t → is_greater σ s t ≡ true ↔ P s t)
    (s t : Term) (v : WellFormed σ s) (w : WellFormed σ t) where
  relation-says : Says σ P (relation σ s t) s t
  unfolding relation
  relation-says =
      by_test (is_greater σ s t) (λ g. rw g ((decides s t v w).0 g))
      λ g. by_test (is_greater σ t s) (λ l. rw (g, l) ((decides t s w v).0 l))
      λ l. by_test (is_equivalent σ s t) (λ q. rw (g, l, q) ((test-decides σ A.ac_binary s t v w).0 q))
      λ q. rw (g, l, q) (
        λ p. false≢true (sym g ∙ (decides s t v w).1 p),
        λ p. false≢true (sym l ∙ (decides t s w v).1 p),
        λ d. false≢true (sym q ∙ (test-decides σ A.ac_binary s t v w).1 d),
      )

  relation-of : (r : Relation) → Says σ P r s t → relation σ s t ≡ r
  unfolding relation
  relation-of said.Greater p = rw ((decides s t v w).1 p)
  relation-of said.Less p =
      let l = (decides t s w v).1 p in rw (refuted (is_greater σ s t) (greater-asym σ A t s w v l), l)
  relation-of said.Equivalent d =
      rw (
        greater-irreflexive σ A s t v w d,
        greater-irreflexive σ A t s w v (back d),
        (test-decides σ A.ac_binary s t v w).1 d,
      )
  relation-of said.Unrelated (g, l, d) =
      rw (
        refuted (is_greater σ s t) (λ e. g ((decides s t v w).0 e)),
        refuted (is_greater σ t s) (λ e. l ((decides t s w v).0 e)),
        refuted (is_equivalent σ s t) (λ e. d ((test-decides σ A.ac_binary s t v w).0 e)),
      )

  pub relation-exact : (r : Relation) → relation σ s t ≡ r ↔ Says σ P r s t
  relation-exact r = (λ e. rw e at relation-says, relation-of r)

pub relation-accepted : {c d : Comparison} → accepted c ≡ accepted d → c.relation ≡ d.relation
relation-accepted {c} {d} e = let q : c ≡ d = cc in ap (λ (x : Comparison). x.relation) q
