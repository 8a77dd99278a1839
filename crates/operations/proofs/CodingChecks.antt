-- What decoding and encoding give back for the listing; each error that they can give, by 01's and 02's number, with
-- its input and offset, and the output unchanged (a file that is too long to encode: LongFileChecks).
use mathlib.Core.Path.{◌≡◌, refl}
use mathlib.Core.List.{List, [], ◌∷◌, ◌++◌, map, flat_map}
use Prim.Native.Nat.{ℕ}
use lib.ListN.{take, replicate}
use Rattle.terms.specs.Words.{forest_of}
use Rattle.format.specs.Layout.{form_width, symbol_count_width, weight_width, rule_count_width, arity_width, ac_width}
use Rattle.format.specs.Layout.{rank_width, form_number}
use Rattle.format.specs.Reading.{bit_field, word_below}
use Rattle.format.specs.Symbols.{symbol_reader, symbols_reader, symbol_table_reader}
use Rattle.format.specs.Format.{forest_reader, side_reader, rule_reader, rules_reader, body_reader, file_reader}
use Rattle.format.specs.Files.{whole_reader, read_bytes_in, read_words}
use Rattle.format.specs.Packing.{Item, item_bits, item_word, bytes_of, items, packed, unpacked}
use Rattle.format.specs.Packing.Item.{field, node}
use Rattle.operations.specs.Replies.{Outcome}
use Rattle.operations.specs.Replies.Reply.{accepted, refused}
use Rattle.operations.specs.Coding.{decoded, encoded}
use Rattle.format.specs.Listing.{listing, listing_words}
use Rattle.format.proofs.ListingChecks.{listing-reads, listing-packs, listing-unpacks, listing-words-read}

listing-decodes : decoded listing (replicate 18 7) ≡
    record { reply = accepted 16; output = listing_words ++ replicate 2 7 }
unfolding decoded
listing-decodes = rw (listing-reads, listing-unpacks)

listing-encodes : encoded listing_words (replicate 19 7) ≡
    record { reply = accepted 17; output = listing ++ replicate 2 7 }
unfolding encoded
listing-encodes = rw (listing-words-read, listing-packs)

-- What is read, what is lent for writing, and the error's code, input and offset.
record ErrorCase : Type 0 where
  read : List ℕ
  lent : List ℕ
  code : ℕ
  input : ℕ
  offset : ℕ

-- Five elements are lent for writing.
abbrev gives : List ℕ → ℕ → ℕ → ErrorCase
gives read code offset = record { read = read; lent = replicate 5 7; code = code; input = 0; offset = offset }

abbrev too_short : List ℕ → List ℕ → ℕ → ErrorCase
too_short read lent code = record { read = read; lent = lent; code = code; input = 1; offset = 0 }

abbrev refusal : ErrorCase → Outcome ℕ
refusal c = record {
  reply = refused (record { code = c.code; input = c.input; offset = c.offset });
  output = c.lent;
}

-- The counts of symbols and rules, with the weight of a variable between them.
abbrev header : ℕ → ℕ → ℕ → List Item
header k w0 n =
    field form_width form_number ∷ field symbol_count_width k ∷ field weight_width w0 ∷ field rule_count_width n ∷ []

abbrev symbol : ℕ → ℕ → ℕ → ℕ → List Item
symbol arity ac weight rank =
    field arity_width arity ∷ field ac_width ac ∷ field weight_width weight ∷ field rank_width rank ∷ []

abbrev bits : List Item → List ℕ
bits is = bytes_of (flat_map item_bits is)

abbrev sheet : List Item → List ℕ
sheet is = map item_word is

-- A file of one symbol and one rule, up to its first side.
abbrev constant : List Item
constant = header 1 1 1 ++ symbol 0 0 1 0

abbrev unary : List Item
unary = header 1 1 1 ++ symbol 1 0 1 0

-- The same with two rules.
abbrev two_rules : List Item
two_rules = header 1 1 2 ++ symbol 0 0 1 0

-- The two before the last are the listing with a set bit after its last rule, and with a byte too many.
abbrev decode_cases : List ErrorCase
decode_cases =
    gives (replicate 32769 0) 1 0 ∷
    gives [] 2 0 ∷
    gives (0x20 ∷ []) 2 4 ∷
    gives (take 16 listing) 2 122 ∷
    gives (0x10 ∷ []) 17 0 ∷
    gives (0x30 ∷ []) 3 0 ∷
    gives (bits (header 0 1 0)) 4 4 ∷
    gives (bits (header 1 0 0)) 5 12 ∷
    gives (bits (header 1 1 0 ++ symbol 3 1 1 0)) 6 38 ∷
    gives (bits (header 1 2 0 ++ symbol 0 0 1 0)) 7 42 ∷
    gives (bits (header 2 1 1 ++ symbol 1 0 0 0 ++ symbol 0 0 1 5)) 7 42 ∷
    gives (bits (header 2 1 1 ++ symbol 0 0 1 5 ++ symbol 1 0 0 0)) 7 70 ∷
    gives (bits (header 2 1 0 ++ symbol 1 0 0 5 ++ symbol 1 0 0 3)) 7 70 ∷
    gives (bits (header 2 1 0 ++ symbol 1 0 0 0 ++ symbol 0 0 0 5)) 7 70 ∷
    gives (bits (header 2 1 0 ++ symbol 1 0 0 0 ++ symbol 0 0 1 0)) 8 86 ∷
    gives (bits (header 2 1 0 ++ symbol 0 0 1 5 ++ symbol 0 0 1 5)) 8 86 ∷
    gives (bits (constant ++ (node 1 ∷ []))) 9 67 ∷
    gives (bits (constant ++ (node 257 ∷ []))) 18 67 ∷
    gives (bits (constant ++ (node 256 ∷ node 258 ∷ []))) 18 72 ∷
    gives (bits (two_rules ++ (node 256 ∷ node 257 ∷ node 257 ∷ []))) 18 77 ∷
    gives (bits (unary ++ replicate 128 (node 0))) 10 1218 ∷
    gives (take 16 listing ++ (1 ∷ [])) 11 130 ∷
    gives (listing ++ (0 ∷ [])) 11 130 ∷
    too_short listing (replicate 15 7) 13 ∷
    []

decode-errors : map (λ (c : ErrorCase). decoded c.read c.lent) decode_cases ≡ map refusal decode_cases
unfolding decoded read_bytes_in whole_reader file_reader body_reader symbol_table_reader symbols_reader symbol_reader rules_reader
    rule_reader side_reader forest_reader forest_of bit_field unpacked items flat_map
decode-errors = refl

abbrev encode_cases : List ErrorCase
encode_cases =
    gives [] 2 0 ∷
    gives (sheet (constant ++ (node 0 ∷ []))) 2 9 ∷
    gives (sheet (unary ++ replicate 127 (node 0))) 2 135 ∷
    gives (1 ∷ []) 17 0 ∷
    gives (3 ∷ []) 3 0 ∷
    gives (sheet (header 0 1 0)) 4 1 ∷
    gives (sheet (header 1 0 0)) 5 2 ∷
    gives (sheet (header 1 1 0 ++ symbol 3 1 1 0)) 6 4 ∷
    gives (sheet (header 1 2 0 ++ symbol 0 0 1 0)) 7 6 ∷
    gives (sheet (header 2 1 1 ++ symbol 1 0 0 0 ++ symbol 0 0 1 5)) 7 6 ∷
    gives (sheet (header 2 1 1 ++ symbol 0 0 1 5 ++ symbol 1 0 0 0)) 7 10 ∷
    gives (sheet (header 2 1 0 ++ symbol 1 0 0 5 ++ symbol 1 0 0 3)) 7 10 ∷
    gives (sheet (header 2 1 0 ++ symbol 1 0 0 0 ++ symbol 0 0 0 5)) 7 10 ∷
    gives (sheet (header 2 1 0 ++ symbol 1 0 0 0 ++ symbol 0 0 1 0)) 8 11 ∷
    gives (sheet (header 2 1 0 ++ symbol 0 0 1 5 ++ symbol 0 0 1 5)) 8 11 ∷
    gives (sheet (constant ++ (node 1 ∷ []))) 9 8 ∷
    gives (sheet (constant ++ (node 257 ∷ []))) 18 8 ∷
    gives (sheet (constant ++ (node 256 ∷ node 258 ∷ []))) 18 9 ∷
    gives (sheet (two_rules ++ (node 256 ∷ node 257 ∷ node 257 ∷ []))) 18 10 ∷
    gives (sheet (unary ++ replicate 128 (node 0))) 10 136 ∷
    gives (16 ∷ []) 14 0 ∷
    gives (2 ∷ 256 ∷ []) 14 1 ∷
    gives (sheet (header 1 1 0 ++ symbol 3 2 1 0)) 14 5 ∷
    gives (sheet (constant ++ (node 272 ∷ []))) 14 8 ∷
    gives (sheet (constant ++ (node 0 ∷ node 0 ∷ node 0 ∷ []))) 15 10 ∷
    too_short listing_words (replicate 16 7) 16 ∷
    []

encode-errors : map (λ (c : ErrorCase). encoded c.read c.lent) encode_cases ≡ map refusal encode_cases
unfolding encoded read_words whole_reader file_reader body_reader symbol_table_reader symbols_reader symbol_reader rules_reader
    rule_reader side_reader forest_reader forest_of word_below packed items flat_map
encode-errors = refl
