-- The loop keeps: the first k of what is left stand after the high part.
use Rattle.std.proofs.Common.{◌≡◌, ◌+◌, ◌++◌}
use Rattle.symbols.specs.Table.{signature_of}
use Rattle.equivalence.specs.Offsets.{AtOffsets, terms_at}
use Rattle.extensions.proofs.parts.join_surplus.Given as goal

abbrev pub invariant-loop-k : goal.invariant-loop-k
invariant-loop-k l =
    (l.high.count ≡ l.initial.high.count + l.k)
    × AtOffsets (signature_of l.pair.left.table.now) l.pair.right.words.now l.high.bytes l.high.count
    (terms_at l.pair.left.table.now l.pair.right.words.now l.initial.high.bytes l.initial.high.count
    ++ terms_at l.pair.left.table.now l.pair.right.words.now l.right.bytes l.k)
