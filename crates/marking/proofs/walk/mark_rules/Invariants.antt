-- The loop keeps: the rules before `i` are read, counted and listed.
use mathlib.Core.Path.{◌≡◌}
use Prim.Native.Nat.{◌*◌, ◌≤◌}
use lib.ListN.{length}
use Rattle.format.specs.Layout.{form_number}
use Rattle.format.specs.Reading.{bit_source}
use Rattle.format.specs.Forms.{unused_of}
use Rattle.symbols.specs.Table.{signature_of}
use Rattle.marking.proofs.WalkLaws.{ListedSoFar}
use Rattle.marking.proofs.walk.mark_rules.Given as goal

abbrev pub invariant-loop-i : goal.invariant-loop-i
invariant-loop-i l = record {
  few : l.decreasing ≤ l.i;
  marks_len : length l.marks ≡ length l.initial.marks;
  margins_len : length l.margins ≡ length l.initial.margins;
  within : l.here.at ≤ 8 * length l.book.bytes.now;
  listed : ListedSoFar (bit_source l.book.bytes.now) (unused_of form_number)
      (signature_of l.under.weighing.table.now) l.count l.initial.here.at l.initial.marks l.initial.margins l.i l.here.at l.decreasing l.marks l.margins;
}
