-- A node that begins with bit 0 is a symbol, of nine bits, another a variable, of five.
use borrow.Author.Tests.{lt-ltb, le-ltb}
use Rattle.bits.proofs.cut.node_width.Goals as goal

pub returns-then-nine-lt256 : goal.returns-then-nine-lt256
returns-then-nine-lt256 c = rw (lt-ltb _ _ c.if-nine-lt256.true)

pub returns-else-nine-lt256 : goal.returns-else-nine-lt256
returns-else-nine-lt256 c = rw (le-ltb _ _ c.if-nine-lt256.false)
