-- The loop keeps: the offset and the hash so far, with what is left to gather, give the whole.
use mathlib.Core.Path.{◌≡◌}
use Prim.Native.Nat.{◌+◌, ◌-◌, ◌*◌, ◌≤◌, ◌<◌}
use Rattle.equivalence.specs.Keys.{offset_after, hash_after}
use Rattle.equivalence.proofs.keys.gather.Given as goal

abbrev pub invariant-loop : goal.invariant-loop
invariant-loop l =
    (l.end ≤ l.i + 256 * l.counter) × (l.hash < 4294967296)
    × (offset_after l.keys l.end (l.n - l.counter) ≡ offset_after l.keys l.i l.n)
    × (hash_after l.root.ac l.root.word l.words l.keys l.hash l.end (l.n - l.counter)
    ≡ hash_after l.root.ac l.root.word l.words l.keys 0 l.i l.n)
