-- The cycle of the AC-equivalence test: what each member needs is shown in a file of its own.
use Prim.Native.Nat.{ℕ, ◌-◌, ◌<◌, ◌+◌, ◌*◌}
use lib.ListN.{length, get_or}
use Rattle.equivalence.proofs.AlikeLaws.{Going, RowGoing}
use mathlib.Core.Bool.{false}
use mathlib.Core.Path.{◌≡◌}
use Rattle.equivalence.specs.Offsets.{alike_at}
use Rattle.equivalence.proofs.keys.Pair.+equivalent.Given as goal

abbrev pub decreases-cancels : goal.decreases-cancels
decreases-cancels l = 4 * (length l.self.now.left.words.now - l.i) + 2

abbrev pub decreases-equivalent : goal.decreases-equivalent
decreases-equivalent l = 4 * (length l.self.now.left.words.now - l.i)

abbrev pub decreases-flattenings_equivalent : goal.decreases-flattenings_equivalent
decreases-flattenings_equivalent l = 4 * (length l.self.now.left.words.now - l.i) + 3

abbrev pub decreases-partner : goal.decreases-partner
decreases-partner l = 4 * (length l.self.now.left.words.now - l.i) + 1

abbrev pub decreases-rows_equivalent : goal.decreases-rows_equivalent
decreases-rows_equivalent l = 4 * (length l.self.now.left.words.now - l.i) + 1

-- The loop keeps: what is ahead of the flattening cancels against what is left of the list as all does against all.
abbrev pub invariant-cancels-loop-owed : goal.invariant-cancels-loop-owed
invariant-cancels-loop-owed l =
    Going l.self.left.table.now l.f l.self.left.words.now l.self.right.words.now l.i l.n l.initial.offsets.bytes
    l.initial.offsets.count l.offsets.bytes l.at l.owed l.offsets.count

abbrev pub decreases-cancels-loop-owed : goal.decreases-cancels-loop-owed
decreases-cancels-loop-owed l = length l.self.left.words.now - l.at

-- The loop keeps: none of the terms so far is equivalent.
abbrev pub invariant-partner-loop-k : goal.invariant-partner-loop-k
invariant-partner-loop-k l =
    (x : ℕ) → x < l.k → alike_at l.self.left.table.now l.self.left.words.now l.i l.self.right.words.now
    (get_or l.offsets.bytes x 0) ≡ false

-- The loop keeps: what is ahead of the two rows answers for the whole.
abbrev pub invariant-rows_equivalent-loop : goal.invariant-rows_equivalent-loop
invariant-rows_equivalent-loop l =
    RowGoing l.self.left.table.now l.self.left.words.now l.self.right.words.now l.i l.j l.n l.at l.to (l.n - l.counter + 1)
