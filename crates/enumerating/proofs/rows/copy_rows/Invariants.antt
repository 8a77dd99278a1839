-- The loop keeps: `column` is that of word `i`, and the first `i` words are stored, whatever rows the words stand for. Those
-- copied stand before those stored, so they are as at the start.
use Prim.Native.Nat.{ℕ, ◌%◌}
use mathlib.Core.List.{List}
use mathlib.Core.Path.{◌≡◌}
use lib.ListN.{length, take}
use lib.Seq.{sets}
use Rattle.enumerating.specs.Rows.{Refronted}
use Rattle.enumerating.proofs.rows.copy_rows.Given as goal

abbrev pub invariant-loop-i : goal.invariant-loop-i
invariant-loop-i l =
    (l.column ≡ l.i % length l.row) × (length l.out ≡ length l.initial.out)
    × ((words : List ℕ) → Refronted l.row l.front (length l.row) l.initial.out l.from l.count words → l.out ≡ sets
    l.initial.out l.to (take l.i words))
