-- Files of form 3: rule (4) of Example 8.3 of 000 reads, and packs to its bytes; 20 and 21 at their bits. Each is read
-- by a reader of that form.
use mathlib.Core.List.{List, [], ◌∷◌, flat_map}
use mathlib.Core.Bool.{false, true}
use mathlib.Core.Path.{◌≡◌, refl}
use Prim.Native.Nat.{ℕ}
use Rattle.terms.specs.Words.{forest_of}
use Rattle.format.specs.Layout.{coefficient_form}
use Rattle.format.specs.Reading.{bit_field}
use Rattle.format.specs.Reading.Reading.{got, fault}
use Rattle.format.specs.Symbols.{coefficients_reader, symbol_reader, symbols_reader, symbol_table_reader}
use Rattle.format.specs.Format.{RuleFile, forest_reader, side_reader}
use Rattle.format.specs.Format.{rule_reader, rules_reader, body_reader, file_reader}
use Rattle.format.specs.Packing.{packed, items}
use Rattle.format.specs.Files.{whole_reader, read_bytes_in}

abbrev bytes : List ℕ
bytes =
    0x30 ∷ 0x40 ∷ 0x00 ∷ 0x10 ∷ 0x04 ∷ 0x00 ∷ 0x00 ∷ 0x40 ∷ 0x08 ∷ 0x00 ∷ 0x18 ∷ 0x04 ∷ 0x54 ∷ 0x00 ∷ 0x0c ∷ 0x08 ∷
    0x45 ∷ 0x00 ∷ 0x01 ∷ 0x40 ∷ 0xd1 ∷ 0x00 ∷ 0x60 ∷ 0x28 ∷ 0x44 ∷ 0x00 ∷ 0x02 ∷ 0x01 ∷ 0xc0 ∷ 0x00 ∷ 0x03 ∷ 0x88 ∷
    0x00 ∷ []

abbrev file : RuleFile
file = record {
  form = 3;
  signature = record {
    w0 = 1;
    symbols =
        record { arity = 0; ac = false; weight = 1; precedence = 0; coefficients = [] } ∷
        record { arity = 1; ac = false; weight = 6; precedence = 1; coefficients = 1 ∷ [] } ∷
        record { arity = 2; ac = true; weight = 3; precedence = 2; coefficients = 1 ∷ 1 ∷ [] } ∷
        record { arity = 2; ac = false; weight = 5; precedence = 3; coefficients = 4 ∷ 4 ∷ [] } ∷
        [];
  };
  rules = record { left = 3 ∷ 2 ∷ 256 ∷ 257 ∷ 0 ∷ []; right = 2 ∷ 3 ∷ 256 ∷ 0 ∷ 3 ∷ 257 ∷ 0 ∷ [] } ∷ [];
}

packs : packed file ≡ bytes
unfolding packed items flat_map
packs = refl

reads : read_bytes_in coefficient_form bytes ≡ got file 262
unfolding read_bytes_in whole_reader file_reader body_reader symbol_table_reader symbols_reader symbol_reader coefficients_reader
    rules_reader rule_reader side_reader forest_reader bit_field forest_of
reads = refl

-- The second coefficient of an AC symbol is 2.
not-one : read_bytes_in coefficient_form (
    0x30 ∷ 0x30 ∷ 0x00 ∷ 0x10 ∷ 0x00 ∷ 0x00 ∷ 0x00 ∷ 0x40 ∷ 0x08 ∷ 0x00 ∷ 0x18 ∷ 0x04 ∷ 0x54 ∷ 0x00 ∷ 0x0c ∷ 0x08 ∷
    0x48 ∷ []) ≡ fault 20 130
unfolding read_bytes_in whole_reader file_reader body_reader symbol_table_reader symbols_reader symbol_reader coefficients_reader
    rules_reader rule_reader side_reader forest_reader bit_field forest_of
not-one = refl

-- A symbol of coefficient 15 nine times above a constant of weight 1, and eight times.
too-heavy : read_bytes_in coefficient_form (
    0x30 ∷ 0x20 ∷ 0x00 ∷ 0x10 ∷ 0x04 ∷ 0x00 ∷ 0x00 ∷ 0x40 ∷ 0x08 ∷ 0x00 ∷ 0x04 ∷ 0x07 ∷ 0xc0 ∷ 0x20 ∷ 0x10 ∷ 0x08 ∷
    0x04 ∷ 0x02 ∷ 0x01 ∷ 0x00 ∷ 0x80 ∷ 0x40 ∷ 0x20 ∷ 0x00 ∷ 0x00 ∷ []) ≡ fault 21 98
unfolding read_bytes_in whole_reader file_reader body_reader symbol_table_reader symbols_reader symbol_reader coefficients_reader
    rules_reader rule_reader side_reader forest_reader bit_field forest_of
too-heavy = refl
