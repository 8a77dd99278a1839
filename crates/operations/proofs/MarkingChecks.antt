-- What marking gives back for the listing and for a file with a unary symbol of weight 0, and what the program prints
-- for the listing, for the sample and for the empty input.
use mathlib.Core.Path.{◌≡◌, refl}
use mathlib.Core.List.{List, [], ◌∷◌}
use Prim.Native.Nat.{ℕ}
use Rattle.multisets.specs.Multiset.{multiset_equal, multiset_greater, row_equal, row_greater}
use Rattle.terms.specs.Words.{forest_of}
use Rattle.terms.specs.Equivalence.{is_equivalent_to, is_equivalent}
use Rattle.terms.specs.Order.{none_oftener, flattened_mark, root_mark, decreasing_mark, is_greater_to, is_greater, mark}
use Rattle.operations.specs.Text.{ascii, digits}
use Rattle.format.specs.Reading.{bit_field}
use Rattle.format.specs.Symbols.{symbol_reader, symbols_reader, symbol_table_reader}
use Rattle.format.specs.Format.{forest_reader, side_reader, rule_reader, rules_reader, body_reader, file_reader}
use Rattle.format.specs.Files.{whole_reader, read_bytes_in}
use Rattle.operations.specs.Replies.{Outcome}
use Rattle.operations.specs.Replies.Reply.{accepted, refused}
use Rattle.format.specs.Listing.{listing, wrapping}
use Rattle.format.proofs.SampleChecks.{sample_book}
use Rattle.operations.specs.declared.Summary.{Summary}
use Rattle.operations.specs.Score.{nearest, score_of}
use Rattle.operations.specs.Marking.{marked}
use Rattle.operations.specs.Report.{report}

listing-marked : marked listing (7 ∷ 7 ∷ 7 ∷ []) ≡
    record { reply = accepted (record { rules = 2; decreasing = 1; score = 50 }); output = 2 ∷ 10 ∷ 7 ∷ [] }
unfolding marked score_of nearest read_bytes_in whole_reader file_reader body_reader symbol_table_reader symbols_reader
    symbol_reader rules_reader rule_reader side_reader forest_reader bit_field forest_of mark is_greater is_greater_to
    decreasing_mark root_mark flattened_mark none_oftener is_equivalent is_equivalent_to row_equal row_greater multiset_equal
    multiset_greater
listing-marked = refl

wrapping-marked : marked wrapping (7 ∷ 7 ∷ []) ≡
    record { reply = accepted (record { rules = 2; decreasing = 1; score = 50 }); output = 11 ∷ 10 ∷ [] }
unfolding marked score_of nearest read_bytes_in whole_reader file_reader body_reader symbol_table_reader symbols_reader
    symbol_reader rules_reader rule_reader side_reader forest_reader bit_field forest_of mark is_greater is_greater_to
    decreasing_mark root_mark flattened_mark none_oftener is_equivalent is_equivalent_to row_equal row_greater multiset_equal
    multiset_greater
wrapping-marked = refl

abbrev refusal : ℕ → ℕ → ℕ → List ℕ → Outcome Summary
refusal code input offset marks =
    record { reply = refused (record { code = code; input = input; offset = offset }); output = marks }

too-short-refused : marked listing (7 ∷ []) ≡ refusal 12 1 0 (7 ∷ [])
unfolding marked read_bytes_in whole_reader file_reader body_reader symbol_table_reader symbols_reader symbol_reader rules_reader
    rule_reader side_reader forest_reader forest_of bit_field
too-short-refused = refl

empty-refused : marked [] (7 ∷ []) ≡ refusal 2 0 0 (7 ∷ [])
unfolding marked read_bytes_in whole_reader file_reader bit_field
empty-refused = refl

-- 01's own text.
listing-prints : report listing ≡ ascii "rules 2\n0 2 0\n1 10 0\nscore 50\nreturned\n"
unfolding report score_of nearest digits read_bytes_in whole_reader file_reader body_reader symbol_table_reader symbols_reader
    symbol_reader rules_reader rule_reader side_reader forest_reader bit_field forest_of mark is_greater is_greater_to
    decreasing_mark root_mark flattened_mark none_oftener is_equivalent is_equivalent_to row_equal row_greater multiset_equal
    multiset_greater
listing-prints = refl

-- The marks and the margins of the starred cases as 01 has them.
sample-prints : report sample_book ≡ ascii
    "rules 12\n0 1 2\n1 2 0\n2 3 0\n3 4 0\n4 5 0\n5 6 0\n6 7 0\n7 8 -1\n8 9 0\n9 10 0\n10 10 0\n11 10 0\nscore 50\nreturned\n"
unfolding report score_of nearest digits read_bytes_in whole_reader file_reader body_reader symbol_table_reader symbols_reader
    symbol_reader rules_reader rule_reader side_reader forest_reader bit_field forest_of mark is_greater is_greater_to
    decreasing_mark root_mark flattened_mark none_oftener is_equivalent is_equivalent_to row_equal row_greater multiset_equal
    multiset_greater
sample-prints = refl

empty-prints : report [] ≡ ascii "refusal 2 0\n"
unfolding report digits read_bytes_in whole_reader file_reader bit_field
empty-prints = refl
