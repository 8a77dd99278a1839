-- The theorems of specs/: of Statements, StepStatements, TerminationStatements, RenamingStatements, SteinbachStatements,
-- CoefficientStatements and CancellingStatements.
use mathlib.Core.Path.{refl, sym, ap₂, ◌∙◌}
use Prim.Native.Nat.{◌<◌}
use native.Mathlib.Omega.{arith}
use lib.IntN.{sub_ℕ}
use Rattle.terms.specs.Signature.{Signature}
use Rattle.terms.specs.Term.{occurrences, WellFormed, Expression}
use Rattle.terms.specs.Equivalence.{is_equivalent_to, is_equivalent}
use Rattle.terms.specs.Equivalence.Equivalent.{same}
use Rattle.terms.specs.Order.{is_greater}
use Rattle.terms.specs.Rewriting.{System}
use Rattle.terms.specs.FirstUse.{first_uses, place_in, rule_words}
use Rattle.theory.specs.Statements.{Irreflexive, Transitive, OrderInvariant, MarkInvariant, ExactlyOneMark}
use Rattle.theory.specs.Statements.{DecreasingMarks, MarkSeven, MarkNine, EquivalenceUnfolds, OrderUnfolds}
use Rattle.theory.specs.Statements.{TestDecidesArticle, TotalOnExpressions, GreaterThanParts}
use Rattle.theory.specs.Statements.{ClosedUnderContexts, ClosedUnderSubstitutions}
use Rattle.theory.specs.StepStatements.{NodesBounded, StepsDecrease, DerivationsDescend, StepCeiling}
use Rattle.theory.specs.StepStatements.{SampleAdmissible}
use Rattle.theory.specs.TerminationStatements.{OrderWellFounded, WellFoundedOnExpressions, StepsWellFounded}
use Rattle.theory.specs.TerminationStatements.{NoEndlessSteps, CeilingFails}
use Rattle.theory.specs.RenamingStatements.{WeightRenamed, MarginRenamed, WellFormedRenamed}
use Rattle.theory.specs.RenamingStatements.{EquivalenceRenamed, OrderRenamed, MarkRenamed}
use Rattle.theory.specs.RenamingStatements.{RulesConverted}
use Rattle.theory.specs.SteinbachStatements.{SteinbachUnfolds, TestDecidesSteinbach, AgreesWithSteinbach}
use Rattle.theory.specs.SteinbachStatements.{AcLowestMeans, ArticlesAgree}
use Rattle.theory.specs.CoefficientStatements.{OnesChangeNothing}
use Rattle.theory.specs.CancellingStatements.{OperandCancels, PartCancels, ElementCancels, WholeStruck}
use Rattle.theory.specs.CancellingStatements.{RestIsBag, NothingLeft}
use Rattle.multisets.proofs.Relations.{refuted}
use Rattle.multisets.proofs.Accessibility.{endless-absurd}
use Rattle.terms.proofs.EquivalenceLaws.{is_equivalent-app, is_equivalent-app-var}
use Rattle.terms.proofs.EquivalenceComplete.{Equivalent→is_equivalent}
use Rattle.terms.proofs.EquivalenceMeasures.{formed-resp-equivalent, expression-resp-equivalent}
use Rattle.terms.proofs.OrderLaws.{is_greater-unfolds}
use Rattle.terms.proofs.SteinbachLaws.{is_steinbach_greater-unfolds}
use Rattle.terms.proofs.WeightLaws.{nodes-le-weight}
use Rattle.terms.proofs.RenamingLaws.{weight-rename, formed-rename}
use Rattle.theory.proofs.StrictOrder.{is_greater-order, greater-resp-like, greater-not-equivalent}
use Rattle.theory.proofs.MarkLaws.{mark-exact, mark-holds, mark-greater, mark-equivalent, mark-resp-like}
use Rattle.theory.proofs.MarkLaws.{oftener-found, found-oftener}
use Rattle.theory.proofs.TotalOrder.{exactly-one}
use Rattle.theory.proofs.WellFounded.{accessible-among}
use Rattle.theory.proofs.ArticleComplete.{is_greater→Greater}
use Rattle.theory.proofs.ArticleSound.{Greater→is_greater}
use Rattle.theory.proofs.SteinbachOrder.{one-of-lowest, lowest-of-one, greater-steinbach}
use Rattle.theory.proofs.SteinbachTest.{SteinbachGreater→test, test→SteinbachGreater}
use Rattle.theory.proofs.Contexts.{greater-part, greater-fill}
use Rattle.theory.proofs.Substitutions.{greater-substitute}
use Rattle.terms.proofs.RuleRenumbering.{renumbering-one_to_one}
use Rattle.theory.proofs.RenumberedRules.{renumbering-within}
use Rattle.theory.proofs.Renamings.{equivalent-renamed, greater-renamed, less-renamed, mark-renamed}
use Rattle.theory.proofs.Steps.{step-decreases, along-descends, steps-accessible}
use Rattle.theory.proofs.Ceiling.{step_count-ceiling}
use Rattle.theory.proofs.Coefficients.{ones-unchanged}
use Rattle.theory.proofs.Cancelling.{cancels, equivalent-joined, equivalent-left, left-of-struck}
use Rattle.theory.proofs.Cancelling.{rest-bag, greater-joined, greater-element, element-alone}
use Rattle.theory.proofs.Examples.{admissible}
use Rattle.theory.proofs.WeightlessExample.{unwrapping-fails}

module _ (σ : Signature) where
  pub greater-irreflexive : Irreflexive σ
  greater-irreflexive A s t v w d = refuted (is_greater σ s t) λ g. greater-not-equivalent σ A s t v w g d

  pub greater-transitive : Transitive σ
  greater-transitive A s t v w u x = (is_greater-order σ A).transitive v w x

  pub mark-invariant : MarkInvariant σ
  mark-invariant A s t v w s' t' d e =
      mark-resp-like σ A s s' t t' v ((formed-resp-equivalent σ d).0 v) w ((formed-resp-equivalent σ e).0 w)
      (Equivalent→is_equivalent σ d) (Equivalent→is_equivalent σ e)

  pub order-invariant : OrderInvariant σ
  order-invariant A s t v w s' t' d e =
      greater-resp-like σ A s s' t t' v ((formed-resp-equivalent σ d).0 v) w ((formed-resp-equivalent σ e).0 w)
      (Equivalent→is_equivalent σ d) (Equivalent→is_equivalent σ e)

  pub exactly-one-mark : ExactlyOneMark σ
  exactly-one-mark A s t v w k = (λ m. mark-exact σ A v w m, λ e. rw e at (mark-holds σ A s t v w))

  pub decreasing-marks : DecreasingMarks σ
  decreasing-marks = mark-greater σ

  pub mark-seven : MarkSeven σ
  mark-seven A s t v w =
      let (down, up) = exactly-one-mark A s t v w 7 in
      (λ e. oftener-found σ s t (up e), λ h. down (found-oftener σ s t h))

  pub mark-nine : MarkNine σ
  mark-nine = mark-equivalent σ

  pub equivalence-unfolds : EquivalenceUnfolds σ
  unfolding is_equivalent is_equivalent_to
  equivalence-unfolds = record {
    both_variables = λ x y. refl;
    variable_left = λ x g ts. refl;
    variable_right = is_equivalent-app-var σ;
    applications = is_equivalent-app σ;
  }

  pub order-unfolds : OrderUnfolds σ
  order-unfolds = is_greater-unfolds σ

  pub test-decides-article : TestDecidesArticle σ
  test-decides-article A s t v w = (is_greater→Greater σ A s t v w, λ d. Greater→is_greater σ A d v w)

  pub steinbach-unfolds : SteinbachUnfolds σ
  steinbach-unfolds = is_steinbach_greater-unfolds σ

  pub test-decides-steinbach : TestDecidesSteinbach σ
  test-decides-steinbach A s t v w = (test→SteinbachGreater σ A s t v w, λ d. SteinbachGreater→test σ A d v w)

  pub ac-lowest-means : AcLowestMeans σ
  ac-lowest-means A f i c = (one-of-lowest σ A f i c, lowest-of-one σ A f i c)

  pub agrees-with-steinbach : AgreesWithSteinbach σ
  agrees-with-steinbach ones L A = greater-steinbach σ A ones L

  pub articles-agree : ArticlesAgree σ
  articles-agree ones L A s t v w =
      let (down, up) = test-decides-article A s t v w in
      let (to, from) = test-decides-steinbach A s t v w in
      let e = agrees-with-steinbach ones L A s t v w in
      (λ g. to (sym e ∙ up g), λ g. down (e ∙ from g))

  pub total-on-expressions : TotalOnExpressions σ
  total-on-expressions A s t v w g h = exactly-one σ A s t (v, g) (w, h)

  pub order-well-founded : OrderWellFounded σ
  order-well-founded A = accessible-among σ A (WellFormed σ) λ t w. w

  pub well-founded-on-expressions : WellFoundedOnExpressions σ
  well-founded-on-expressions A = accessible-among σ A (Expression σ) λ t e. e.0

  pub greater-than-parts : GreaterThanParts σ
  greater-than-parts = greater-part σ

  pub closed-under-contexts : ClosedUnderContexts σ
  closed-under-contexts = greater-fill σ

  pub closed-under-substitutions : ClosedUnderSubstitutions σ
  closed-under-substitutions A s t v w τ images = greater-substitute σ A τ images s t v w

  pub weight-kept : WeightRenamed σ
  weight-kept ρ = weight-rename ρ σ

  pub margin-kept : MarginRenamed σ
  margin-kept ρ s t = ap₂ sub_ℕ (weight-rename ρ σ s) (weight-rename ρ σ t)

  pub formed-kept : WellFormedRenamed σ
  formed-kept ρ t within w = formed-rename (λ x. 0 < occurrences x t) σ ρ within t w λ x o. o

  pub equivalence-kept : EquivalenceRenamed σ
  equivalence-kept = equivalent-renamed σ

  pub order-kept : OrderRenamed σ
  order-kept ρ s t one after v w = (greater-renamed σ ρ s t one after v w, less-renamed σ ρ s t one after v w)

  pub mark-kept : MarkRenamed σ
  mark-kept = mark-renamed σ

  pub rules-converted : RulesConverted σ
  rules-converted few r v w =
      let ρ = place_in (first_uses (rule_words r)) in
      let within = renumbering-within σ few r v w in
      record {
        left = formed-kept ρ r.left (λ x o. within x (omega arith)) v;
        right = formed-kept ρ r.right (λ x o. within x (omega arith)) w;
        mark = mark-kept ρ r.left r.right (renumbering-one_to_one r) within v w;
        margin = margin-kept ρ r.left r.right;
      }

  pub nodes-bounded : NodesBounded σ
  nodes-bounded A heavy t w = omega (arith, nodes-le-weight σ A heavy t w)

  pub ones-change-nothing : OnesChangeNothing σ
  ones-change-nothing = ones-unchanged σ

  pub operand-cancels : OperandCancels σ
  operand-cancels A f c u u' x q s t s' t' d e h k =
      cancels σ A f c s t s' t' u u' d e x q (equivalent-joined σ A f c h) (equivalent-joined σ A f c k)

  pub part-cancels : PartCancels σ
  part-cancels A f c u u' x q s t s' t' d e d' e' h k =
      cancels σ A f c s t s' t' u u' d' e' x q (equivalent-left σ A f c s s' u d d' x h)
      (equivalent-left σ A f c t t' u' e e' (expression-resp-equivalent σ q x) k)

  pub element-cancels : ElementCancels σ
  element-cancels A f c u u' x q s t s' t' d e d' e' i j h k =
      part-cancels A f c u u' x q s t s' t' d e d' e' (left-of-struck σ A f c s s' u i h)
      (left-of-struck σ A f c t t' u' j k)

  pub rest-is-bag : RestIsBag σ
  rest-is-bag = rest-bag σ

  pub whole-struck : WholeStruck σ
  whole-struck A f c u t x q s s' d d' h =
      greater-joined σ A f c s t s' u d' x (equivalent-left σ A f c s s' u d d' x h) q

  pub nothing_left : NothingLeft σ
  nothing_left A f c u u' x q s t d e i j h =
      let k = element-alone σ A f c t u' e j h in (
        k,
        λ n. rw k (sym (order-invariant A s u d.0 x.0 s u' same q) ∙ greater-element σ A f c s u d i n),
        λ n. rw (k, element-alone σ A f c s u d i n) q,
      )

module _ (R : System) where
  pub steps-decrease : StepsDecrease R
  steps-decrease A W s t p = step-decreases R A W p

  pub derivations-descend : DerivationsDescend R
  derivations-descend A W D s t d = along-descends R A W D d

  pub step-ceiling : StepCeiling R
  step-ceiling A heavy W D s t d e = step_count-ceiling R A heavy W D d e

  pub steps-well-founded : StepsWellFounded R
  steps-well-founded = steps-accessible R

  pub no-endless-steps : NoEndlessSteps R
  no-endless-steps A W D s p = endless-absurd (steps-accessible R A W D (s 0)) s refl p

pub ceiling-fails : CeilingFails
ceiling-fails = unwrapping-fails

pub sample-admissible : SampleAdmissible
sample-admissible = admissible
