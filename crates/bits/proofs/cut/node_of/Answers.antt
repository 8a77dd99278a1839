-- The tag is the first of the nine bits, and decides how many of the others are used.
use mathlib.Core.Path.{◌≡◌}
use Prim.Native.Nat.{ℕ, ◌+◌, ◌-◌, ◌*◌, ◌/◌, ◌^◌, ◌<◌}
use native.Mathlib.Omega.{arith}
use Rattle.bits.specs.Cursor.{node_width, node_word}
use Rattle.bits.proofs.NodeLaws.{word-by-tag, word_lt, width-by-tag}
use Rattle.bits.proofs.cut.node_of.Goals as goal

-- A node's word, by its tag.
word_of : (nine tag : ℕ) → nine < 512 → tag ≡ nine / 256 →
    (nine / 2 ^ (4 * tag) + 240 * tag ≡ node_word nine) × (node_word nine < 272)
word_of nine tag h e = (rw e (word-by-tag nine h), word_lt nine h)

pub overflow_add-result : goal.overflow_add-result
overflow_add-result c = omega (arith, word_of c.args.nine c.args.tag c.requires.0 c.requires.1)

pub overflow_cast-result : goal.overflow_cast-result
overflow_cast-result c = omega (arith, word_of c.args.nine c.args.tag c.requires.0 c.requires.1)

pub returns : goal.returns
returns c =
    let word = word_of c.args.nine c.args.tag c.requires.0 c.requires.1 in
    let width = width-by-tag c.args.nine c.requires.0 in
    let end : c.args.at + 9 - 4 * c.args.tag ≡ c.args.at + node_width c.args.nine = omega arith in
    rw (word.0, end)
