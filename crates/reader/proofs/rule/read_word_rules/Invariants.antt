-- The loop keeps: the rules so far are read, and the others are read from here on.
use mathlib.Core.List.{List}
use Prim.Native.Nat.{◌≤◌, ◌+◌, ◌*◌}
use Rattle.terms.specs.Signature.{Signature}
use Rattle.format.specs.Reading.{word_source}
use Rattle.format.specs.Statements.{Unscaled}
use Rattle.format.specs.Format.{Sides}
use Rattle.symbols.specs.Arities.{Arities}
use Rattle.reader.proofs.RuleLaws.{Done}
use Rattle.reader.proofs.rule.read_word_rules.Given as goal

abbrev pub invariant-loop-number : goal.invariant-loop-number
invariant-loop-number l =
    (l.here ≤ l.at + 256 * l._number) × ((σ : Signature) → Arities σ l.arities → Unscaled σ →
    (done : List Sides) × Done (word_source l.sheet) l.unused σ l.count l.at l._number l.here done)
