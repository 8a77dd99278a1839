-- Each word has one way on, none, or one for each mask that divides a sum; the words that are left fall, and with them
-- the masks of a sum.
use Prim.Native.Nat.{◌+◌, ◌-◌, ◌*◌}
use lib.ListN.{length}
use Rattle.matching.proofs.search.+divide_follow_follow_symbol.Given as goal

abbrev pub decreases-divide : goal.decreases-divide
decreases-divide l =
    200000 * (length l.sought.now.pattern.now - l.sought.now.p - 1) + (l.a + 1)

abbrev pub decreases-follow : goal.decreases-follow
decreases-follow l = 200000 * (length l.sought.now.pattern.now - l.sought.now.p)

abbrev pub decreases-follow_symbol : goal.decreases-follow_symbol
decreases-follow_symbol l = 200000 * (length l.sought.now.pattern.now - l.sought.now.p) - 1
