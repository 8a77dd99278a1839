-- The theorems of specs/Statements.antt, specs/FirstUseStatements.antt and specs/EnumerationStatements.antt.
use mathlib.Core.List.{[]}
use mathlib.Core.Path.{refl}
use lib.Dec.{eqb}
use mathlib.Core.Bool.{cond}
use Rattle.terms.specs.Signature.{Signature, symbol_of, coefficients_of}
use Rattle.multisets.specs.Multiset.{multiset_equal, multiset_greater, row_equal, row_greater}
use Rattle.terms.specs.Equivalence.{is_equivalent_to, is_equivalent}
use Rattle.terms.specs.Order.{none_oftener, flattened_mark, root_mark, decreasing_mark, is_greater_to, is_greater, mark}
use Rattle.terms.specs.Rewriting.{System}
use Rattle.terms.specs.Statements.{StarredCasesHold, ExampleRulesHold, RuleFourWeighs, TestDecides}
use Rattle.terms.specs.Statements.{MeasuresRespectEquivalence, WordsReadBack}
use Rattle.terms.specs.Statements.{FirstOftenerFound, FingerprintByArguments, FingerprintRespectsEquivalence}
use Rattle.terms.specs.Statements.{FingerprintFits, WordForEachNode, StepsKeepExpressions}
use Rattle.terms.specs.FirstUse.{first_uses, place_in, renumbered, rule_words, renumbered_rule}
use Rattle.terms.specs.FirstUseStatements.{NumbersApart, RenumberedInOrder, InOrderUnchanged, RenumberedAgain}
use Rattle.terms.specs.FirstUseStatements.{RenamingsAgree, WordsRenamed, RuleWordsRenumbered}
use Rattle.terms.specs.FirstUseStatements.{RuleRenumberedAgain, RuleRenamingsAgree, RuleInOrderUnchanged}
use Rattle.terms.specs.EnumerationStatements.{EnumeratesExpressions, EnumeratesInOrder, BeforeIrreflexive}
use Rattle.terms.proofs.EquivalenceComplete.{Equivalent→is_equivalent}
use Rattle.terms.proofs.EquivalenceMeasures.{measure-resp-equivalent, plain-resp-equivalent}
use Rattle.terms.proofs.EquivalenceMeasures.{root-resp-equivalent}
use Rattle.terms.proofs.EquivalenceSound.{is_equivalent→Equivalent}
use Rattle.terms.proofs.OftenerLaws.{first-answer}
use Rattle.terms.proofs.FingerprintLaws.{fingerprint-app, fingerprint-lt, fingerprint-resp-equivalent}
use Rattle.terms.proofs.RewritingLaws.{step-expressions}
use Rattle.terms.proofs.WordsLaws.{length-words, forest_of-words}
use Rattle.terms.proofs.FirstUseLaws.{place-lt, place-injective, seen-word, renumbered-in_order}
use Rattle.terms.proofs.FirstUseLaws.{in_order-renumbered}
use Rattle.terms.proofs.FirstUseRenamed.{renumbered-renamed}
use Rattle.terms.proofs.RuleRenumbering.{in_order-renumbered_rule, words-rename, rule_words-rename}
use Rattle.terms.proofs.EnumerationLaws.{before-irrefl, spelled-term, term-enumerated, rows-sorted}
use Rattle.terms.proofs.RuleRenumbering.{renumbered_rule-in_order, renumbered_rule-renamed}

pub starred-cases-hold : StarredCasesHold
unfolding mark is_greater is_greater_to decreasing_mark root_mark flattened_mark none_oftener is_equivalent is_equivalent_to
    multiset_equal multiset_greater row_equal row_greater
starred-cases-hold = refl

pub example-rules-hold : ExampleRulesHold
unfolding mark is_greater is_greater_to decreasing_mark root_mark flattened_mark none_oftener is_equivalent is_equivalent_to
    multiset_equal multiset_greater row_equal row_greater
example-rules-hold = refl

pub rule-four-weighs : RuleFourWeighs
rule-four-weighs = (refl, refl)

pub first-oftener-found : (σ : Signature) → FirstOftenerFound σ
first-oftener-found σ = first-answer σ

pub word-for-each-node : WordForEachNode
word-for-each-node = length-words

module _ (σ : Signature) where
  pub test-decides : TestDecides σ
  test-decides binary s t v w = (is_equivalent→Equivalent σ binary s t v w, Equivalent→is_equivalent σ)

  pub measures-respect-equivalence : MeasuresRespectEquivalence σ
  measures-respect-equivalence ones s t d = record {
    size = plain-resp-equivalent σ (λ x. 1) (λ f. 1) d;
    weight = measure-resp-equivalent σ (coefficients_of σ) ones (λ x. σ.w0) (λ f. (symbol_of σ f).weight) d;
    occurrences = λ x. plain-resp-equivalent σ (λ y. cond (eqb x y) 1 0) (λ f. 0) d;
    variable_coefficients =
        λ x. measure-resp-equivalent σ (coefficients_of σ) ones (λ y. cond (eqb x y) 1 0) (λ f. 0) d;
    root = root-resp-equivalent σ d;
  }

  pub fingerprint-by-arguments : FingerprintByArguments σ
  fingerprint-by-arguments = fingerprint-app σ

  pub fingerprint-fits : FingerprintFits σ
  fingerprint-fits = fingerprint-lt σ

  pub fingerprint-respects-equivalence : FingerprintRespectsEquivalence σ
  fingerprint-respects-equivalence s t d = fingerprint-resp-equivalent σ d

  pub words-read-back : WordsReadBack σ
  words-read-back few t w ws = forest_of-words σ few t w ws

pub steps-keep-expressions : (R : System) → StepsKeepExpressions R
steps-keep-expressions R h s t p = step-expressions R h p

-- ---- renumbering by first use

pub numbers_apart : NumbersApart
numbers_apart ws = record {
  one_to_one = λ x y m n. place-injective (first_uses ws) x y (seen-word ws [] x m);
  below = λ x m. place-lt (first_uses ws) x (seen-word ws [] x m);
}

pub renumbered-in-order : RenumberedInOrder
renumbered-in-order = renumbered-in_order

pub in-order-unchanged : InOrderUnchanged
in-order-unchanged = in_order-renumbered

pub renumbered-again : RenumberedAgain
renumbered-again ws = in_order-renumbered (renumbered ws) (renumbered-in_order ws)

pub renamings-agree : RenamingsAgree
renamings-agree = renumbered-renamed

module _ (σ : Signature) where
  pub words-renamed : WordsRenamed σ
  words-renamed = words-rename σ

  pub rule-words-renumbered : RuleWordsRenumbered σ
  rule-words-renumbered few r v w = rule_words-rename σ few r v w (place_in (first_uses (rule_words r)))

  pub rule-renumbered-again : RuleRenumberedAgain σ
  rule-renumbered-again few r v w =
      in_order-renumbered_rule (renumbered_rule r) (renumbered_rule-in_order σ few r v w)

  pub rule-renamings-agree : RuleRenamingsAgree σ
  rule-renamings-agree = renumbered_rule-renamed σ

pub rule-in-order-unchanged : RuleInOrderUnchanged
rule-in-order-unchanged = in_order-renumbered_rule

-- ---- the enumeration of ground terms

module _ (σ : Signature) where
  pub enumerates-expressions : EnumeratesExpressions σ
  enumerates-expressions n ws = (spelled-term σ n ws, term-enumerated σ n ws)

  pub enumerates-in-order : EnumeratesInOrder σ
  enumerates-in-order n = rows-sorted σ n 1

pub before-irreflexive : BeforeIrreflexive
before-irreflexive = before-irrefl
