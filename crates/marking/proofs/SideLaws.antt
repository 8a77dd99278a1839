-- The sides of a rule that is read are terms, and what marking it has to show.
--     side-term        a side that is read from bits is the words of a well-formed term
--     right-marked, left-unread, left-read, rule-marked     a rule by its sides
use Rattle.std.specs.Prelude.{Result, Ok, Err}
use mathlib.Core.List.{List}
use mathlib.Core.Path.{◌≡◌, sym, ◌∙◌}
use Prim.Native.Nat.{ℕ}
use native.Mathlib.Omega.{arith}
use Rattle.terms.specs.Signature.{Signature}
use Rattle.terms.specs.FirstUse.{unused_after_all}
use Rattle.format.specs.Layout.{max_nodes}
use Rattle.format.specs.Reading.{Reading, and_then, give, Source, bit_source}
use Rattle.format.specs.Reading.Reading.{got, fault}
use Rattle.format.specs.Format.{nodes_reader, side_reader, rule_reader}
use Rattle.format.specs.Statements.{Unscaled, IsTerm}
use Rattle.format.proofs.LightLaws.{unscaled-side}
use Rattle.format.proofs.ReadingLaws.{holds-got}
use Rattle.format.proofs.FormatLaws.{nodes-read}
use Rattle.format.proofs.CodingLaws.{spells-fit}
use Rattle.format.proofs.SideLaws.{side-formed, forest-le}
use Rattle.bits.specs.declared.BitCursor.{BitCursor}
use Rattle.marking.specs.declared.rule.MarkedRule.{MarkedRule}
use Rattle.answers.specs.Answer.{Fault}
use Rattle.marking.specs.Rule.{Marks, MarksRead}
use Rattle.marking.proofs.WalkLaws.{sides_themselves}

module _ (bytes : List ℕ) (unused : ℕ) (σ : Signature) where
  pub side-term : (at end : ℕ) (ws : List ℕ) → nodes_reader (bit_source bytes) max_nodes unused σ at ≡ got ws end →
      IsTerm σ ws
  side-term at end ws e =
      let (f, o, p) = holds-got _ _ ws end (nodes-read (bit_source bytes) max_nodes unused σ at) e in
      let (s, w) = side-formed σ f (spells-fit bytes p) in
      record { spelled = sym s; well_formed = w; short = forest-le σ f }

-- ---- the sides of a rule

module _ (σ : Signature) where
  -- A right side that was read, after its left side.
  pub right-marked : (reading : Reading (List ℕ)) (left right : List ℕ) (n : BitCursor) (m : MarkedRule) →
      reading ≡ got right n.at → m.cursor ≡ n → Marks σ (record { left = left; right = right }) m →
      MarksRead σ (λ (l : List ℕ). record { left = left; right = l }) reading (Ok m)
  right-marked reading left right n m e same x = (right, rw same e, x)

  module _ (unscaled : Unscaled σ) (source : Source) (unused at : ℕ) where
    -- No side is too heavy.
    light : (n from : ℕ) → side_reader source max_nodes n σ from ≡ nodes_reader source max_nodes n σ from
    light n from = unscaled-side σ unscaled source max_nodes n from (omega arith)

    pub left-unread : (code offset : ℕ) → nodes_reader source max_nodes unused σ at ≡ fault code offset →
        rule_reader source unused σ at ≡ fault code offset
    unfolding rule_reader
    left-unread code offset e = rw (light unused at, e)

    -- A rule whose left side was read is what its right side makes it.
    module _ (left : List ℕ) (middle used : ℕ) (e : nodes_reader source max_nodes unused σ at ≡ got left middle)
        (u : used ≡ unused_after_all unused left) where
      pub left-read : rule_reader source unused σ at
          ≡ and_then (nodes_reader source max_nodes used σ middle) (λ right. give (record { left = left; right = right }))
      unfolding rule_reader
      left-read = rw (light unused at, e, ← u, light used middle)

      pub rule-marked : (r : Result MarkedRule Fault) →
          MarksRead σ (λ (right : List ℕ). record { left = left; right = right })
          (nodes_reader source max_nodes used σ middle) r →
          MarksRead σ sides_themselves (rule_reader source unused σ at) r
      rule-marked (Ok m) (right, f, x) = (record { left = left; right = right }, left-read ∙ rw f, x)
      rule-marked (Err x) f = left-read ∙ rw f
