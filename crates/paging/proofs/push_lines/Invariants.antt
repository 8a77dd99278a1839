-- The loop keeps: the lines of the rules before this one are pushed.
use mathlib.Core.Path.{◌≡◌}
use Prim.Native.Nat.{◌+◌, ◌*◌}
use lib.ListN.{take}
use Rattle.operations.specs.Page.{page}
use Rattle.operations.specs.Paging.{line_bytes}
use Rattle.text.specs.Put.{Pushed}
use Rattle.paging.specs.Entries.{entries}
use Rattle.paging.proofs.push_lines.Given as goal

abbrev pub invariant-loop-i : goal.invariant-loop-i
invariant-loop-i l = record {
  bound : l.text.end ≡ l.initial.text.end + line_bytes * l.i;
  pushed : Pushed l.initial.text (page (take l.i (entries l.marks l.margins))) l.text;
}
