-- The words before the rules and those of the rules are kept apart until the file is accepted, and stored where there
-- is room for both.
use mathlib.Core.List.{List}
use Prim.Native.Nat.{ℕ, ◌*◌, ◌≤◌}
use native.Mathlib.Omega.{arith}
use lib.ListN.{length}
use Rattle.std.proofs.Common.{replicate}
use Rattle.std.proofs.lemmas.List.{length-replicate}
use Rattle.format.specs.Layout.{max_bytes}
use Rattle.decoder.proofs.DecodeLaws.{nodes-few, stored-parts, sheet-unstored, sheet-stored}
use Rattle.decoder.proofs.unpack_within.Goals as goal

room : (bytes : List ℕ) (n : ℕ) → (length bytes ≤ max_bytes → 8 * length bytes ≤ 5 * n) → length bytes ≤ max_bytes →
    8 * length bytes ≤ 5 * length (replicate {A = ℕ} n 0)
room bytes n h short = rw (length-replicate {A = ℕ} n 0) (h short)

pub shared_whole_as_front-copy_from_slice : goal.shared_whole_as_front-copy_from_slice
shared_whole_as_front-copy_from_slice g c =
    let (file, end, read, parts) = rw c.in_ok-front.was at c.read_packed.ensures in
    let few = nodes-few c.args.book.now _ _ _ file _ _ parts (room _ g.row.NODES c.requires.book_bound) in
    (omega (arith, length-replicate {A = ℕ} g.row.NODES 0), omega arith)

pub returns-then-total-words : goal.returns-then-total-words
returns-then-total-words g c =
    let a = c.args in
    let (file, end, read, parts) = rw c.in_ok-front.was at c.read_packed.ensures in
    sheet-stored a.book.now _ _ _ file _ _ parts (room _ g.row.NODES c.requires.book_bound) a.words.now _ end _ read c.if-total-words.true
    (stored-parts a.words.now _ _ _ _ _ _ (omega (arith, parts.few, c.read_packed.auto.table))
    (omega (arith, nodes-few c.args.book.now _ _ _ file _ _ parts (room _ g.row.NODES c.requires.book_bound), c.read_packed.auto.words)) c.if-total-words.true c.copy_from_slice.ensures.after
    c.copy_from_slice-then-total-words.ensures.after)

pub returns-else-total-words : goal.returns-else-total-words
returns-else-total-words g c =
    let a = c.args in
    let (file, end, read, parts) = rw c.in_ok-front.was at c.read_packed.ensures in
    sheet-unstored a.book.now _ _ _ file _ _ parts a.words.now end _ read c.if-total-words.false
