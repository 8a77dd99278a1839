-- The text is pushed, and the spaces after it.
use Prim.Native.Nat.{ℕ, ◌-◌}
use native.Mathlib.Omega.{arith}
use lib.ListN.{length, length-replicate}
use Rattle.text.proofs.TextLaws.{pushed-append}
use Rattle.text.proofs.Text.push_left_set.Goals as goal

pub returns-clause-pushed : goal.returns-clause-pushed
returns-clause-pushed c = pushed-append c.push_bytes.ensures c.push_spaces.ensures

pub returns-clause-end : goal.returns-clause-end
returns-clause-end c =
    let spaces = length-replicate {A = ℕ} (c.args.width - length c.args.text.now) 32 in
    omega (arith, c.push_bytes.ensures.put.0, c.push_spaces.ensures.put.0, spaces)
