-- A rule renumbered by first use is well formed where the rule is: it has no more variables than numbers.
--     renumbering-within     the numbers are those that a variable may have
use mathlib.Core.List.{[]}
use Prim.Native.Nat.{◌≤◌}
use native.Mathlib.Omega.{arith}
use lib.ListN.{length}
use Rattle.terms.specs.Signature.{Signature}
use Rattle.terms.specs.Term.{variable_count, WellFormed}
use Rattle.terms.specs.Words.{first_variable}
use Rattle.terms.specs.Rewriting.{Rule}
use Rattle.terms.specs.Renaming.{WithinCount}
use Rattle.terms.specs.FirstUse.{first_uses, place_in, rule_words}
use Rattle.terms.proofs.FirstUseLaws.{place-lt, seen-word}
use Rattle.terms.proofs.FirstUseCount.{first_uses-few}
use Rattle.terms.proofs.RuleRenumbering.{occurs-rule_word, rule_word-occurs}
use Rattle.theory.proofs.Renamings.{occurring-below}

module _ (σ : Signature) (few : length σ.symbols ≤ first_variable) (r : Rule) (v : WellFormed σ r.left)
    (w : WellFormed σ r.right) where
  pub renumbering-within : WithinCount (place_in (first_uses (rule_words r))) r.left r.right
  renumbering-within x o =
      omega (
        arith,
        first_uses-few variable_count (rule_words r)
            λ y m. occurring-below σ r.left r.right v w y (rule_word-occurs σ few r v w y m),
        place-lt (first_uses (rule_words r)) x (seen-word (rule_words r) [] x (occurs-rule_word x r o)),
      )
