-- Each branch is one of the definition, and a remainder by 2 to the power of 32 is below it.
use mathlib.Core.Path.{◌≡◌}
use mathlib.Core.Bool.{true, false}
use native.Mathlib.Omega.{arith}
use lib.Dec.{eqb}
use borrow.Author.Tests.{eq-eqb, ne_eqb}
use Rattle.equivalence.specs.Keys.{added}
use Rattle.equivalence.proofs.keys.added.Goals as goal

pub returns-then-word-root : goal.returns-then-word-root
unfolding added
returns-then-word-root c =
    let ac : c.args.root.ac ≡ true = c.if-root.true in
    let own : eqb c.args.word c.args.root.word ≡ true = eq-eqb _ _ c.if-word-root.true in
    (rw (ac, own), omega arith)

pub returns-then-root : goal.returns-then-root
unfolding added
returns-then-root c =
    let ac : c.args.root.ac ≡ true = c.if-root.true in
    let other : eqb c.args.word c.args.root.word ≡ false = ne_eqb _ _ c.if-word-root.false in
    (rw (ac, other, c.mix.ensures.0), omega arith)

pub returns : goal.returns
unfolding added
returns c = let row : c.args.root.ac ≡ false = c.if-root.false in (rw (row, c.mix-2.ensures.0), omega arith)
