-- The claims of specs/Cancellations.antt.
use mathlib.Core.List.{List}
use mathlib.Core.Path.{sym, ◌∙◌}
use Prim.Native.Nat.{ℕ}
use native.Mathlib.Omega.{arith}
use Rattle.terms.specs.Signature.{Signature}
use Rattle.terms.specs.Term.{Term, Expression}
use Rattle.terms.specs.Term.Term.{app}
use Rattle.terms.specs.Words.{words}
use Rattle.terms.specs.Equivalence.{pair, Equivalent}
use Rattle.terms.specs.Order.{margin}
use Rattle.terms.proofs.EquivalenceMeasures.{expression-resp-equivalent}
use Rattle.theory.proofs.Cancelling.{cancels, equivalent-joined, equivalent-left, left-of-struck}
use Rattle.theory.proofs.Theorems.{whole-struck}
use Rattle.format.specs.Format.{RuleFile}
use Rattle.operations.specs.declared.Relation.TheVariants as said
use Rattle.operations.specs.Comparing.{relation}
use Rattle.guarantees.specs.Guarantees.{Holds}
use Rattle.guarantees.specs.Steinbach.{Replies}
use Rattle.guarantees.specs.Cancellations.{RepliesAlike, AreRead, NeverUnrelated, CommonPart, OperandStruck}
use Rattle.guarantees.specs.Cancellations.{PartStruck, ElementStruck, WholeSideStruck, BothSidesStruck}
use Rattle.guarantees.proofs.PickLaws.{terms-compared}
use Rattle.guarantees.proofs.RelationLaws.{relation-accepted}
use Rattle.guarantees.proofs.CancellationLaws.{relation-by-test, relation-related, relation-same, joined-part}
use Rattle.guarantees.proofs.CancellationLaws.{part-short}
use Rattle.guarantees.proofs.Theorems.{admissible, few}

replies : (bytes : List ℕ) (file : RuleFile) → Holds bytes file → (s t : Term) → AreRead file s t →
    Replies bytes (words s) (words t) (relation file.signature s t)
replies bytes file h s t r = (
  margin file.signature s t,
  terms-compared bytes file (few bytes file h) h s t r.left.0 r.right.0 r.left_short r.right_short,
)

pub never-unrelated : NeverUnrelated
never-unrelated bytes file h s t r (m, e) =
    relation-related file.signature (admissible bytes file h) s t r.left r.right
    (relation-accepted (sym (replies bytes file h s t r).1 ∙ e))

module _ (bytes : List ℕ) (file : RuleFile) (f : ℕ) (u u' : Term) where
  abbrev σ : Signature
  σ = file.signature

  alike : CommonPart bytes file f u u' → (s t s' t' : Term) → AreRead file s t → Expression σ s' → Expression σ t' →
      Equivalent σ s (app f (pair s' u)) → Equivalent σ t (app f (pair t' u')) → RepliesAlike bytes s t s' t'
  alike c s t s' t' r d e h k =
      let A = admissible bytes file c.holds in
      let x = relation-same σ A s t s' t' r.left.0 r.right.0 d.0 e.0
      (cancels σ A f c.ac s t s' t' u u' d e c.part c.equivalent h k) in
      let r' : AreRead file s' t' = record {
        left = d;
        right = e;
        left_short = omega (arith, r.left_short, part-short σ A f s s' u h);
        right_short = omega (arith, r.right_short, part-short σ A f t t' u' k);
      } in
      record {
        relation = relation σ s t;
        before = replies bytes file c.holds s t r;
        after = rw x (replies bytes file c.holds s' t' r');
      }

  pub operand-struck : OperandStruck bytes file f u u'
  operand-struck c s t s' t' r h k =
      let A = admissible bytes file c.holds in
      alike c s t s' t' r (joined-part σ A h r.left) (joined-part σ A k r.right)
      (equivalent-joined σ A f c.ac h) (equivalent-joined σ A f c.ac k)

  pub part-struck : PartStruck bytes file f u u'
  part-struck c s t s' t' r d e h k =
      let A = admissible bytes file c.holds in
      alike c s t s' t' r d e (equivalent-left σ A f c.ac s s' u r.left d c.part h)
      (equivalent-left σ A f c.ac t t' u' r.right e (expression-resp-equivalent σ c.equivalent c.part) k)

  pub element-struck : ElementStruck bytes file f u u'
  element-struck c s t s' t' r d e i j h k =
      let A = admissible bytes file c.holds in
      part-struck c s t s' t' r d e (left-of-struck σ A f c.ac s s' u i h) (left-of-struck σ A f c.ac t t' u' j k)

  pub whole-side-struck : WholeSideStruck bytes file f u u'
  whole-side-struck c s s' r d h =
      let A = admissible bytes file c.holds in
      let g = whole-struck σ A f c.ac u u' c.part c.equivalent s s' r.left d h in
      let turned : AreRead file u' s = record {
        left = r.right;
        right = r.left;
        left_short = r.right_short;
        right_short = r.left_short;
      } in
      let exact = relation-by-test σ A in (
        rw ((exact s u' r.left.0 r.right.0 said.Greater).1 g) at (replies bytes file c.holds s u' r),
        rw ((exact u' s r.right.0 r.left.0 said.Less).1 g) at (replies bytes file c.holds u' s turned),
      )

  pub both-sides-struck : BothSidesStruck bytes file f u u'
  both-sides-struck c r =
      let A = admissible bytes file c.holds in
      rw ((relation-by-test σ A u u' r.left.0 r.right.0 said.Equivalent).1 c.equivalent)
      at (replies bytes file c.holds u u' r)
