-- The items of a file by the index of the word, and their bits.
use mathlib.Core.List.{List, [], ◌∷◌, flat_map}
use Rattle.std.specs.Prelude.{cond, ℕ, suc, zero, ◌%◌, ltb, get_or}
use Rattle.format.specs.Layout.{
  form_width,
  symbol_count_width,
  weight_width,
  rule_count_width,
  arity_width,
  ac_width,
  rank_width,
}
use Rattle.format.specs.Packing.{Item, item_bits}
use Rattle.format.specs.Packing.Item.{field, node}
use Rattle.writer.specs.Writer.{Writes}
use Rattle.writer.specs.declared.BitWriter.{BitWriter}

-- The width of the field at word i: four in the header, four in each symbol.
abbrev pub field_width : ℕ → ℕ
field_width i =
    cond (ltb i 4) (get_or (form_width ∷ symbol_count_width ∷ weight_width ∷ rule_count_width ∷ []) i 0)
    (get_or (arity_width ∷ ac_width ∷ weight_width ∷ rank_width ∷ []) (i % 4) 0)

-- The item at word i, where the nodes begin at word `nodes`.
abbrev pub item_at : List ℕ → ℕ → ℕ → Item
item_at words nodes i = cond (ltb i nodes) (field (field_width i) (get_or words i 0)) (node (get_or words i 0))

-- The items of n words from word i on.
abbrev pub items_from : List ℕ → ℕ → ℕ → ℕ → List Item
items_from words nodes i zero = []
items_from words nodes i (suc n) = item_at words nodes i ∷ items_from words nodes (suc i) n

-- The bits of the items before word i, where the nodes begin at word `nodes`.
abbrev pub bits_to : List ℕ → ℕ → ℕ → List ℕ
bits_to words nodes i = flat_map item_bits (items_from words nodes 0 i)

-- The bits of some nodes.
abbrev pub node_bits : List ℕ → List ℕ
node_bits words = flat_map (λ (w : ℕ). item_bits (node w)) words

-- What was written with one writer before word i is written with the other before word j.
abbrev pub Follows : List ℕ → ℕ → ℕ → ℕ → BitWriter → BitWriter → Type 0
Follows words nodes i j before after =
    (bytes : List ℕ) → Writes (bits_to words nodes i) before bytes → Writes (bits_to words nodes j) after bytes
