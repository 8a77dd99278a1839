-- The comparison ends: what it compares has fewer and fewer nodes.
use Rattle.std.proofs.Common.{◌≡◌, ℕ, ◌+◌, ◌-◌, ◌*◌, ◌<◌, true, get_or}
use Rattle.extensions.specs.Compared.{greater_at}
use Rattle.extensions.proofs.CoverLaws.{Search, some_above}
use Rattle.extensions.proofs.MeasureLaws.{part_nodes, row_nodes, offset_nodes}
use Rattle.extensions.proofs.RootLaws.{RowsGoing}
use Rattle.extensions.proofs.measured.Measured.+compare.Given as goal

abbrev pub decreases-compare : goal.decreases-compare
decreases-compare l =
    8 * offset_nodes l.self.now.pair.left.table.now l.self.now.pair.left.words.now l.self.now.pair.right.words.now
    l.left.now.bytes l.left.now.count l.right.now.bytes l.right.now.count + 4

abbrev pub decreases-covers : goal.decreases-covers
decreases-covers l =
    8 * offset_nodes l.self.now.pair.left.table.now l.self.now.pair.left.words.now l.self.now.pair.right.words.now
    l.left.now.bytes l.left.now.count l.right.now.bytes l.right.now.count + 3

-- None that was tried is greater than the term at hand.
abbrev pub invariant-covers-left : goal.invariant-covers-left
invariant-covers-left l =
    Search (λ (y : ℕ). greater_at l.self.pair.left.table.now l.self.pair.left.words.now (get_or l.left.bytes y 0)
    l.self.pair.right.words.now l.j) l.first l.x l.next

abbrev pub decreases-covers-left : goal.decreases-covers-left
decreases-covers-left l = l.left.count + 1 - l.next

-- Each before the one at hand has a greater one.
abbrev pub invariant-covers-right : goal.invariant-covers-right
invariant-covers-right l =
    (l.x < l.left.count) × ((y : ℕ) → y < l.k → some_above l.self.pair.left.table.now l.self.pair.left.words.now
    l.left.bytes l.left.count l.self.pair.right.words.now (get_or l.right.bytes y 0) ≡ true)

abbrev pub decreases-exceeds : goal.decreases-exceeds
decreases-exceeds l =
    8 * part_nodes l.self.now.pair.left.table.now l.self.now.pair.left.words.now l.self.now.pair.right.words.now l.i l.j

abbrev pub decreases-flattened : goal.decreases-flattened
decreases-flattened l =
    8 * row_nodes l.self.now.pair.left.table.now l.self.now.pair.left.words.now l.self.now.pair.right.words.now l.i l.j l.n
    + 5

abbrev pub decreases-greater : goal.decreases-greater
decreases-greater l =
    8 * part_nodes l.self.now.pair.left.table.now l.self.now.pair.left.words.now l.self.now.pair.right.words.now l.i l.j + 1

abbrev pub decreases-rows_greater : goal.decreases-rows_greater
decreases-rows_greater l =
    8 * row_nodes l.self.now.pair.left.table.now l.self.now.pair.left.words.now l.self.now.pair.right.words.now l.i l.j l.n
    + 2

-- The loop keeps: what is ahead of the two rows answers for the whole, and has no more nodes.
abbrev pub invariant-rows_greater-loop : goal.invariant-rows_greater-loop
invariant-rows_greater-loop l =
    RowsGoing l.self.pair.left.table.now l.self.pair.left.words.now l.self.pair.right.words.now l.i l.j l.n l.at l.to
    (l.n - l.counter)
