-- Each branch is a case of the definition: a symbol is above a variable, and symbols are compared by precedence.
use borrow.Author.Tests.{lt-ltb, le-ltb, le-leb, lt-leb}
use Rattle.extensions.specs.Compared.{is_higher}
use Rattle.extensions.proofs.compare.higher.Goals as goal

pub returns-then-g-ge-FIRST_VARIABLE : goal.returns-then-g-ge-FIRST_VARIABLE
unfolding is_higher
returns-then-g-ge-FIRST_VARIABLE c =
    let a = c.args in
    rw (lt-ltb a.f 256 c.if-f-lt-FIRST_VARIABLE.true, le-leb 256 a.g c.if-g-ge-FIRST_VARIABLE.true)

pub returns-else-g-ge-FIRST_VARIABLE : goal.returns-else-g-ge-FIRST_VARIABLE
unfolding is_higher
returns-else-g-ge-FIRST_VARIABLE c =
    let a = c.args in
    rw (
      lt-ltb a.f 256 c.if-f-lt-FIRST_VARIABLE.true,
      lt-leb 256 a.g c.if-g-ge-FIRST_VARIABLE.false,
      c.precedence.ensures,
      c.precedence-else-g-ge-FIRST_VARIABLE.ensures,
    )

pub returns-else-f-lt-FIRST_VARIABLE : goal.returns-else-f-lt-FIRST_VARIABLE
unfolding is_higher
returns-else-f-lt-FIRST_VARIABLE c = rw (le-ltb c.args.f 256 c.if-f-lt-FIRST_VARIABLE.false)
