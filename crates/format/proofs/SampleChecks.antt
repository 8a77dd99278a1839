-- The sample signature with the starred cases as rules: its bytes; packed and unpacked it reads back as the same file,
-- and means those rules.
use mathlib.Core.Path.{◌≡◌, refl}
use mathlib.Core.List.{List, [], ◌∷◌, map, flat_map}
use Prim.Native.Nat.{ℕ}
use Rattle.terms.specs.Words.{words, forest_of}
use Rattle.terms.specs.Sample.{Case, sample, starred}
use Rattle.format.specs.Reading.{bit_field, word_below}
use Rattle.format.specs.Reading.Reading.{got}
use Rattle.format.specs.Symbols.{symbol_reader, symbols_reader, symbol_table_reader}
use Rattle.format.specs.Format.{forest_reader, side_reader, rule_reader, rules_reader, body_reader, file_reader}
use Rattle.format.specs.Format.{RuleFile, system_of}
use Rattle.format.specs.Packing.{items, packed, unpacked}
use Rattle.format.specs.Files.{whole_reader, read_bytes_in, read_bytes, read_words}

abbrev sample_file : RuleFile
sample_file = record {
  form = 2;
  signature = sample;
  rules = map (λ (c : Case). record { left = words c.left; right = words c.right }) starred;
}

abbrev pub sample_book : List ℕ
sample_book =
    0x20 ∷ 0x60 ∷ 0x00 ∷ 0x10 ∷ 0x30 ∷ 0x00 ∷ 0x00 ∷ 0x40 ∷ 0x00 ∷ 0x00 ∷ 0x04 ∷ 0x04 ∷ 0x00 ∷ 0x00 ∷ 0xc0 ∷ 0x94 ∷
    0x00 ∷ 0x04 ∷ 0x0c ∷ 0x80 ∷ 0x00 ∷ 0x41 ∷ 0x10 ∷ 0x00 ∷ 0x04 ∷ 0x14 ∷ 0x07 ∷ 0x00 ∷ 0x0c ∷ 0x00 ∷ 0x20 ∷ 0x00 ∷
    0x2c ∷ 0x00 ∷ 0x20 ∷ 0x58 ∷ 0x00 ∷ 0x00 ∷ 0x60 ∷ 0x40 ∷ 0x0c ∷ 0x00 ∷ 0x60 ∷ 0x40 ∷ 0x04 ∷ 0x00 ∷ 0x60 ∷ 0x30 ∷
    0x08 ∷ 0x04 ∷ 0x02 ∷ 0x03 ∷ 0x00 ∷ 0x80 ∷ 0x80 ∷ 0x60 ∷ 0x18 ∷ 0x00 ∷ 0xc0 ∷ 0x10 ∷ 0x01 ∷ 0xc0 ∷ 0x02 ∷ 0x03 ∷
    0x84 ∷ 0x00 ∷ 0x00 ∷ 0x40 ∷ 0x00 ∷ 0x0c ∷ 0x08 ∷ 0x00 ∷ 0x01 ∷ 0x80 ∷ 0x40 ∷ 0x00 ∷ 0x30 ∷ 0x18 ∷ 0x00 ∷ 0x08 ∷
    0x00 ∷ 0x00 ∷ 0x80 ∷ 0xc0 ∷ 0x90 ∷ 0x00 ∷ 0x00 ∷ 0xe0 ∷ 0x04 ∷ 0x00 ∷ 0x40 ∷ 0x00 ∷ 0x03 ∷ 0x01 ∷ 0x80 ∷ 0x40 ∷
    0x00 ∷ 0x00 ∷ 0x18 ∷ 0x0c ∷ 0x02 ∷ 0x01 ∷ 0x00 ∷ 0x00 ∷ []

sample-bytes : packed sample_file ≡ sample_book
unfolding packed items flat_map
sample-bytes = refl

sample-packs : read_bytes (packed sample_file) ≡ got sample_file 825
unfolding read_bytes_in whole_reader file_reader body_reader symbol_table_reader symbols_reader symbol_reader rules_reader
    rule_reader side_reader forest_reader forest_of bit_field packed items flat_map
sample-packs = refl

sample-unpacks : read_words (unpacked sample_file) ≡ got sample_file 103
unfolding read_words whole_reader file_reader body_reader symbol_table_reader symbols_reader symbol_reader rules_reader
    rule_reader side_reader forest_reader forest_of word_below unpacked items flat_map
sample-unpacks = refl

sample-means : (system_of sample_file).rules ≡ map (λ (c : Case). record { left = c.left; right = c.right }) starred
unfolding forest_of
sample-means = refl
