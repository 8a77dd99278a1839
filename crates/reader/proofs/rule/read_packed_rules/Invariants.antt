-- The loop keeps: the rules so far are read, and their words stored.
use mathlib.Core.Path.{◌≡◌}
use Prim.Native.Nat.{◌*◌, ◌≤◌}
use lib.ListN.{length}
use Rattle.terms.specs.Signature.{Signature}
use Rattle.format.specs.Statements.{Unscaled}
use Rattle.format.specs.Reading.{bit_source}
use Rattle.symbols.specs.Arities.{Arities}
use Rattle.reader.proofs.RuleLaws.{SoFar}
use Rattle.reader.proofs.rule.read_packed_rules.Given as goal

abbrev pub invariant-loop-number : goal.invariant-loop-number
invariant-loop-number l =
    (length l.words ≡ length l.initial.words) × (l.end ≤ 256 * l._number) × (l.here.at ≤ 8 * length l.book.bytes.now)
    × ((σ : Signature) → Arities σ l.arities → Unscaled σ → SoFar l.form
    (bit_source l.book.bytes.now) σ l.count l._number l.initial.here.at l.here.at 0 l.end l.initial.words l.words)
