-- The listing reads as it should, packs to its bytes, unpacks to its words, and these read as the same file.
use mathlib.Core.Path.{◌≡◌, refl}
use mathlib.Core.List.{flat_map}
use Rattle.terms.specs.Words.{forest_of}
use Rattle.format.specs.Reading.{bit_field, word_below}
use Rattle.format.specs.Reading.Reading.{got}
use Rattle.format.specs.Symbols.{symbol_reader, symbols_reader, symbol_table_reader}
use Rattle.format.specs.Format.{forest_reader, side_reader, rule_reader, rules_reader, body_reader, file_reader}
use Rattle.format.specs.Files.{whole_reader, read_bytes_in, read_bytes, read_words}
use Rattle.format.specs.Packing.{items, packed, unpacked}
use Rattle.format.specs.Listing.{listing, listing_file, listing_words}

pub listing-reads : read_bytes listing ≡ got listing_file 130
unfolding read_bytes_in whole_reader file_reader body_reader symbol_table_reader symbols_reader symbol_reader rules_reader
    rule_reader side_reader forest_reader forest_of bit_field
listing-reads = refl

pub listing-packs : packed listing_file ≡ listing
unfolding packed items flat_map
listing-packs = refl

pub listing-unpacks : unpacked listing_file ≡ listing_words
unfolding unpacked items flat_map
listing-unpacks = refl

pub listing-words-read : read_words listing_words ≡ got listing_file 16
unfolding read_words whole_reader file_reader body_reader symbol_table_reader symbols_reader symbol_reader rules_reader
    rule_reader side_reader forest_reader forest_of word_below
listing-words-read = refl
