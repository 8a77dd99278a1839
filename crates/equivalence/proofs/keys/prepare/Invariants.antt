-- The loop keeps: the keys from i on are those of the terms that start there. A term's key is made of those of its
-- arguments, which stand to its right.
use mathlib.Core.Path.{◌≡◌}
use lib.ListN.{length}
use Rattle.symbols.specs.Table.{signature_of}
use Rattle.equivalence.specs.Keys.{KeyedFrom}
use Rattle.equivalence.proofs.keys.prepare.Given as goal

abbrev pub invariant-loop-i : goal.invariant-loop-i
invariant-loop-i l =
    (length l.keys ≡ length l.initial.keys) × KeyedFrom (signature_of l.table) l.words l.keys l.i
