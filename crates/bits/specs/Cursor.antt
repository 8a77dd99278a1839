-- What the bit cursor's answers stand for.
use Rattle.std.specs.Prelude.{◌≡◌, List, cond, ℕ, ◌+◌, ◌-◌, ◌*◌, ◌/◌, ◌^◌, ◌<◌, ◌≤◌, ltb, length, get_or, Result, Ok, Err}
use Rattle.terms.specs.Term.{variable_count}
use Rattle.terms.specs.Words.{first_variable}
use Rattle.format.specs.Layout.{tag_width}
use Rattle.format.specs.Reading.{Reading, Node, spelt, bit_at}
use Rattle.format.specs.Reading.Reading.{got, fault}
use Rattle.format.specs.Errors.{number_of}
use Rattle.answers.specs.Answer.{Fault}
use Rattle.bits.specs.declared.BitCursor.{BitCursor}
use Rattle.bits.specs.declared.Node as bits
use Rattle.bits.specs.declared.window.Window.{Window}

-- The answer that tells the offset of the moved cursor.
abbrev pub told : {F : Type 0} → Result (ℕ × BitCursor) F → Result (ℕ × ℕ) F
told (Ok (value, cursor)) = Ok (value, cursor.at)
told (Err f) = Err f

-- The reading of a node at an offset; its number stands after its tag.
abbrev pub node_reading : ℕ → Result bits.Node Fault → Reading Node
node_reading at (Ok n) = got (record { word = n.word; offset = at + tag_width }) n.cursor.at
node_reading at (Err f) = fault (number_of f.code) f.offset

-- The words of nodes: a symbol's is below 256, a variable's below 272.
abbrev pub node_words : ℕ
node_words = first_variable + variable_count

-- The width and the word of a node that begins with these nine bits: bit 0 and a symbol's number of eight bits, or
-- bit 1 and a variable's number of four.
abbrev pub node_width : ℕ → ℕ
node_width nine = cond (ltb nine 256) 9 5

abbrev pub node_word : ℕ → ℕ
node_word nine = cond (ltb nine 256) nine (nine / 16 + 240)

-- The four bytes from an index on as one number.
abbrev pub four : List ℕ → ℕ → ℕ
four bytes i =
    ((get_or bytes i 0 * 256 + get_or bytes (i + 1) 0) * 256 + get_or bytes (i + 2) 0) * 256 + get_or bytes (i + 3) 0

-- A window has bits of the bytes from an offset on.
pub record Ahead (bytes : List ℕ) (at : ℕ) (w : Window) : Type 0 where
  pub most : w.count ≤ 64
  pub within : at + w.count ≤ 8 * length bytes
  pub same : w.bits / 2 ^ (64 - w.count) ≡ spelt (bit_at bytes) at w.count

-- The word is a node's, and the window has bits from the moved cursor on.
abbrev pub NodeMoved : List ℕ → Result bits.Node Fault → Type 0
NodeMoved bytes (Ok n) = (n.word < node_words) × Ahead bytes n.cursor.at n.window
NodeMoved bytes (Err f) = Unit {0}
