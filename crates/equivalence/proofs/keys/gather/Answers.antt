-- The loop keeps: the offset and the hash so far, with what is left to gather, give the whole.
use native.Mathlib.Omega.{arith}
use mathlib.Core.Path.{◌≡◌, ◌∙◌}
use Prim.Native.Nat.{◌+◌, ◌-◌}
use lib.ListN.{get_or}
use Rattle.std.proofs.Common.{rules}
use Rattle.equivalence.proofs.PrepareLaws.{offset-more, hash-more}
use Rattle.equivalence.proofs.keys.gather.Goals as goal

pub loop-preserved : goal.loop-preserved
loop-preserved c =
    let a = c.args in
    let l = c.loop in
    let key : c.unwrap_or-key.result ≡ get_or a.keys.now l.end 0 = search rules in
    let left : a.n - (l.counter + 1) ≡ a.n - l.counter - 1 = omega arith in (
      omega arith,
      omega arith,
      rw (key, left) (offset-more a.keys.now l.end (a.n - l.counter) (omega arith)) ∙ l.invariant.2,
      rw (c.added-hash.ensures.0, c.word_at.ensures, key, left)
          (hash-more a.root.ac a.root.word a.words.now a.keys.now l.hash l.end (a.n - l.counter) (omega arith)) ∙
          l.invariant.3,
    )
