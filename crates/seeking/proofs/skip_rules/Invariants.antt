-- The loop keeps: the rules before `_i` are read, and the next one begins at `here`.
use mathlib.Core.List.{List}
use Prim.Native.Nat.{ℕ, ◌*◌, ◌≤◌}
use lib.ListN.{length}
use Rattle.terms.specs.Signature.{Signature}
use Rattle.format.specs.Layout.{form_number}
use Rattle.format.specs.Statements.{Unscaled}
use Rattle.format.specs.Reading.{bit_source}
use Rattle.format.specs.Forms.{unused_of}
use Rattle.format.specs.Format.{Sides}
use Rattle.symbols.specs.Arities.{Arities}
use Rattle.reader.proofs.RuleLaws.{Done}
use Rattle.seeking.proofs.skip_rules.Given as goal

abbrev pub invariant-loop-i : goal.invariant-loop-i
invariant-loop-i l = record {
  within : l.here.at ≤ 8 * length l.book.bytes.now;
  read : (σ : Signature) → Arities σ l.arities → Unscaled σ → (total : ℕ) → l.count ≤ total →
      (done : List Sides)
      × Done (bit_source l.book.bytes.now) (unused_of form_number) σ total l.initial.here.at l._i l.here.at done;
}
