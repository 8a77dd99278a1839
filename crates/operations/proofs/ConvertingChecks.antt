-- What converting gives back for a file of form 1 whose variables are out of turn, and for the listing in form 1; and
-- errors that it can give, with their inputs and offsets, the output unchanged.
use mathlib.Core.Path.{◌≡◌, refl}
use mathlib.Core.List.{List, [], ◌∷◌, ◌++◌, map, flat_map}
use Prim.Native.Nat.{ℕ}
use lib.ListN.{take, drop, replicate}
use Rattle.terms.specs.FirstUse.{see, see_all, place_in, rename_word}
use Rattle.terms.specs.Words.{forest_of}
use Rattle.format.specs.Reading.{bit_field}
use Rattle.format.specs.Symbols.{symbol_reader, symbols_reader, symbol_table_reader}
use Rattle.format.specs.Format.{forest_reader, side_reader, rule_reader, rules_reader, body_reader, file_reader}
use Rattle.format.specs.Files.{whole_reader, read_bytes_in}
use Rattle.format.specs.Packing.{items, packed}
use Rattle.format.specs.Listing.{listing, wrapping}
use Rattle.operations.specs.Replies.{Outcome}
use Rattle.operations.specs.Replies.Reply.{accepted, refused}
use Rattle.operations.specs.Converting.{converted}

-- A binary AC symbol s, the rules s(v5, v3) -> s(v3, v5) and v7 -> s(v2, v7).
abbrev out_of_turn : List ℕ
out_of_turn =
    0x10 ∷ 0x10 ∷ 0x00 ∷ 0x10 ∷ 0x09 ∷ 0x40 ∷ 0x00 ∷ 0x40 ∷ 0x00 ∷ 0x15 ∷ 0x98 ∷ 0x02 ∷ 0x75 ∷ 0xb8 ∷ 0x02 ∷ 0x57 ∷ []

-- The same with s(v0, v1) -> s(v1, v0) and v0 -> s(v1, v0).
abbrev in_turn : List ℕ
in_turn =
    0x20 ∷ 0x10 ∷ 0x00 ∷ 0x10 ∷ 0x09 ∷ 0x40 ∷ 0x00 ∷ 0x40 ∷ 0x00 ∷ 0x10 ∷ 0x88 ∷ 0x02 ∷ 0x30 ∷ 0x80 ∷ 0x02 ∷ 0x30 ∷ []

-- The listing, of form 1.
abbrev old_listing : List ℕ
old_listing = 0x10 ∷ drop 1 listing

converts : converted out_of_turn (replicate 18 7) ≡ record { reply = accepted 16; output = in_turn ++ (7 ∷ 7 ∷ []) }
unfolding converted read_bytes_in whole_reader file_reader body_reader symbol_table_reader symbols_reader symbol_reader
    rules_reader rule_reader side_reader forest_reader forest_of bit_field see_all see place_in rename_word packed items flat_map
converts = refl

listing-converts : converted old_listing (replicate 17 7) ≡ record { reply = accepted 17; output = listing }
unfolding converted read_bytes_in whole_reader file_reader body_reader symbol_table_reader symbols_reader symbol_reader
    rules_reader rule_reader side_reader forest_reader forest_of bit_field see_all see place_in rename_word packed items flat_map
listing-converts = refl

-- What is read, and the error's code, input and offset.
record ErrorCase : Type 0 where
  read : List ℕ
  code : ℕ
  input : ℕ
  offset : ℕ

abbrev gives : List ℕ → ℕ → ℕ → ErrorCase
gives read code offset = record { read = read; code = code; input = 0; offset = offset }

-- 16 elements are lent for writing, too few for the listing: every error of reading goes first.
abbrev lent : List ℕ
lent = replicate 16 7

abbrev cases : List ErrorCase
cases =
    gives (replicate 32769 0) 1 0 ∷
    gives [] 2 0 ∷
    gives (0x10 ∷ []) 2 4 ∷
    gives listing 3 0 ∷
    gives (0x00 ∷ []) 3 0 ∷
    gives (0x30 ∷ []) 3 0 ∷
    gives (take 16 old_listing) 2 122 ∷
    gives (take 16 old_listing ++ (0x80 ∷ [])) 9 122 ∷
    gives (take 16 old_listing ++ (0x01 ∷ [])) 11 130 ∷
    gives (old_listing ++ (0x00 ∷ [])) 11 130 ∷
    gives (0x10 ∷ drop 1 wrapping) 7 42 ∷
    record { read = old_listing; code = 16; input = 1; offset = 0 } ∷
    []

abbrev refusal : ErrorCase → Outcome ℕ
refusal c = record {
  reply = refused (record { code = c.code; input = c.input; offset = c.offset });
  output = lent;
}

errors : map (λ (c : ErrorCase). converted c.read lent) cases ≡ map refusal cases
unfolding converted read_bytes_in whole_reader file_reader body_reader symbol_table_reader symbols_reader symbol_reader
    rules_reader rule_reader side_reader forest_reader forest_of bit_field
errors = refl
