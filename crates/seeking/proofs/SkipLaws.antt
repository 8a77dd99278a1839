-- A rule that is read past, by its sides.
use Rattle.std.specs.Prelude.{Ok, Err}
use mathlib.Core.List.{List}
use mathlib.Core.Path.{◌≡◌, ◌∙◌}
use Prim.Native.Nat.{ℕ}
use lib.ListN.{take}
use Rattle.terms.specs.Signature.{Signature}
use Rattle.terms.specs.FirstUse.{unused_after_all}
use Rattle.format.specs.Layout.{max_nodes}
use Rattle.format.specs.Reading.{Source}
use Rattle.format.specs.Reading.Reading.{got, fault}
use Rattle.format.specs.Format.{nodes_reader, rule_reader}
use Rattle.format.specs.Statements.{Unscaled}
use Rattle.format.specs.Errors.{number_of}
use Rattle.answers.specs.Answer.{Fault}
use Rattle.bits.specs.declared.BitCursor.{BitCursor}
use Rattle.bits.specs.Cursor.{told}
use Rattle.sides.specs.Side.{SideRead}
use Rattle.marking.proofs.SideLaws.{left-read}
use Rattle.seeking.specs.One.{RuleSkipped}

module _ (σ : Signature) (unscaled : Unscaled σ) (source : Source) (unused at : ℕ) (left : List ℕ) (middle used : ℕ)
    (e : nodes_reader source max_nodes unused σ at ≡ got left middle) (u : used ≡ unused_after_all unused left) where
  pub rule-skipped : (count : ℕ) (next : BitCursor) (words : List ℕ) (last : ℕ) →
      SideRead used (nodes_reader source max_nodes used σ middle) (told (Ok (count, next))) words last →
      RuleSkipped (rule_reader source unused σ at) (Ok next)
  rule-skipped count next words last (f, v) =
      (record { left = left; right = take count words }, left-read σ unscaled source unused at left middle used e u ∙ rw f)

  pub rule-cut : (x : Fault) → nodes_reader source max_nodes used σ middle ≡ fault (number_of x.code) x.offset →
      RuleSkipped (rule_reader source unused σ at) (Err x)
  rule-cut x f = left-read σ unscaled source unused at left middle used e u ∙ rw f
