-- The page of the listing, by computation: what the operation gives back, and what the program prints; and the words of
-- each mark.
use mathlib.Core.Path.{◌≡◌, refl}
use mathlib.Core.List.{List, [], ◌∷◌, ◌++◌, map}
use Prim.Native.Nat.{ℕ}
use lib.IntN.{pos, negsuc}
use lib.ListN.{replicate}
use Rattle.multisets.specs.Multiset.{multiset_equal, multiset_greater, row_equal, row_greater}
use Rattle.terms.specs.Words.{forest_of}
use Rattle.terms.specs.Equivalence.{is_equivalent_to, is_equivalent}
use Rattle.terms.specs.Order.{none_oftener, flattened_mark, root_mark, decreasing_mark, is_greater_to, is_greater, mark}
use Rattle.format.specs.Reading.{bit_field}
use Rattle.format.specs.Symbols.{symbol_reader, symbols_reader, symbol_table_reader}
use Rattle.format.specs.Format.{forest_reader, side_reader, rule_reader, rules_reader, body_reader, file_reader}
use Rattle.format.specs.Files.{whole_reader, read_bytes_in}
use Rattle.format.specs.Listing.{listing}
use Rattle.operations.specs.Replies.{Outcome}
use Rattle.operations.specs.Replies.Reply.{accepted, refused}
use Rattle.operations.specs.Text.{ascii, digits}
use Rattle.operations.specs.Page.{words_for, page_line, page}
use Rattle.operations.specs.Paging.{paged, board}

abbrev first_line : List ℕ
first_line = ascii "   0 falls by rank                                       0      \n"

abbrev second_line : List ℕ
second_line = ascii "   1 no case                                             0      \n"

listing-paged : paged listing (replicate 131 7) ≡
    record { reply = accepted 130; output = first_line ++ (second_line ++ (7 ∷ [])) }
unfolding paged page_line digits read_bytes_in whole_reader file_reader body_reader symbol_table_reader symbols_reader
    symbol_reader rules_reader rule_reader side_reader forest_reader bit_field forest_of mark is_greater is_greater_to
    decreasing_mark root_mark flattened_mark none_oftener is_equivalent is_equivalent_to row_equal row_greater multiset_equal
    multiset_greater
listing-paged = refl

listing-put-up : board listing ≡ first_line ++ second_line
unfolding board page_line digits read_bytes_in whole_reader file_reader body_reader symbol_table_reader symbols_reader
    symbol_reader rules_reader rule_reader side_reader forest_reader bit_field forest_of mark is_greater is_greater_to
    decreasing_mark root_mark flattened_mark none_oftener is_equivalent is_equivalent_to row_equal row_greater multiset_equal
    multiset_greater
listing-put-up = refl

abbrev refusal : ℕ → ℕ → ℕ → List ℕ → Outcome ℕ
refusal code input offset output =
    record { reply = refused (record { code = code; input = input; offset = offset }); output = output }

too-short-refused : paged listing (replicate 129 7) ≡ refusal 19 1 0 (replicate 129 7)
unfolding paged read_bytes_in whole_reader file_reader body_reader symbol_table_reader symbols_reader symbol_reader rules_reader
    rule_reader side_reader forest_reader forest_of bit_field
too-short-refused = refl

empty-refused : paged [] (7 ∷ []) ≡ refusal 2 0 0 (7 ∷ [])
unfolding paged read_bytes_in whole_reader file_reader bit_field
empty-refused = refl

refusal-put-up : board [] ≡ ascii "refusal 2 0\n"
unfolding board digits read_bytes_in whole_reader file_reader bit_field
refusal-put-up = refl

words-hold : map words_for (1 ∷ 2 ∷ 3 ∷ 4 ∷ 5 ∷ 6 ∷ 7 ∷ 8 ∷ 9 ∷ 10 ∷ 11 ∷ []) ≡ map ascii
    ("falls by weight" ∷ "falls by rank" ∷ "falls by arguments" ∷ "falls by high terms" ∷ "falls by count" ∷
    "falls by low terms" ∷ "variable added" ∷ "left lighter" ∷ "sides equal" ∷ "no case" ∷ "falls by wrapping" ∷ [])
words-hold = refl

last_line : page_line 1022 (record { mark = 4; margin = negsuc 1233 }) ≡
    ascii "1022 falls by high terms                             -1234      \n"
unfolding page_line digits
last_line = refl

tenth-line : page_line 9 (record { mark = 7; margin = pos 65 }) ≡
    ascii "   9 variable added                                     65      \n"
unfolding page_line digits
tenth-line = refl

wrapping-line : page_line 0 (record { mark = 11; margin = pos 0 }) ≡
    ascii "   0 falls by wrapping                                   0      \n"
unfolding page_line digits
wrapping-line = refl

no-rules : page [] ≡ []
no-rules = refl
