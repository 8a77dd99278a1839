-- What turns give back for two jobs that share the listing: which is served, its count and its mark; and the refusals.
use Rattle.std.specs.Prelude.{Option, Some, None}
use mathlib.Core.Path.{◌≡◌, refl}
use mathlib.Core.List.{List, [], ◌∷◌}
use Prim.Native.Nat.{ℕ}
use lib.ListN.{get_or, replicate}
use Rattle.multisets.specs.Multiset.{multiset_equal, multiset_greater, row_equal, row_greater}
use Rattle.terms.specs.Words.{forest_of}
use Rattle.terms.specs.Equivalence.{is_equivalent_to, is_equivalent}
use Rattle.terms.specs.Order.{none_oftener, flattened_mark, root_mark, decreasing_mark, is_greater_to, is_greater, mark}
use Rattle.format.specs.Reading.{bit_field}
use Rattle.format.specs.Symbols.{symbol_reader, symbols_reader, symbol_table_reader}
use Rattle.format.specs.Format.{forest_reader, side_reader, rule_reader, rules_reader, body_reader, file_reader}
use Rattle.format.specs.Files.{whole_reader, read_bytes_in}
use Rattle.format.specs.Listing.{listing}
use Rattle.operations.specs.declared.Job.{Job}
use Rattle.operations.specs.Replies.{Reply}
use Rattle.operations.specs.Replies.Reply.{accepted, refused}
use Rattle.operations.specs.Jobs.{book_marks, is_sound, has_left}
use Rattle.operations.specs.Turns.{first_from, turn_of, TurnOutcome, turned}

abbrev whole : ℕ → Job
whole count = record { start = 0; length = 17; marked = count }

abbrev room : List ℕ
room = replicate 2046 7

abbrev marks-at : ℕ → TurnOutcome → ℕ
marks-at b o = get_or o.marks b 0

abbrev refusal : ℕ → ℕ → ℕ → Reply (Option ℕ)
refusal code input offset = refused (record { code = code; input = input; offset = offset })

-- The last served was the second: the first has a rule left, whose mark is 10.
round-to-first : turn_of (whole 1 ∷ whole 0 ∷ []) listing 2046 1 ≡ accepted (Some 0)
unfolding turn_of first_from is_sound has_left book_marks read_bytes_in whole_reader file_reader body_reader symbol_table_reader
    symbols_reader symbol_reader rules_reader rule_reader side_reader forest_reader forest_of bit_field
round-to-first = refl

-- The first has none left, so the second is served again.
second-again : (turned (whole 2 ∷ whole 1 ∷ []) listing room 1).jobs ≡ whole 2 ∷ whole 2 ∷ []
unfolding turned turn_of first_from is_sound has_left book_marks read_bytes_in whole_reader file_reader body_reader
    symbol_table_reader symbols_reader symbol_reader rules_reader rule_reader side_reader forest_reader forest_of bit_field
second-again = refl

second-marked : marks-at 1024 (turned (whole 2 ∷ whole 1 ∷ []) listing room 1) ≡ 10
unfolding turned turn_of first_from is_sound has_left book_marks read_bytes_in whole_reader file_reader body_reader
    symbol_table_reader symbols_reader symbol_reader rules_reader rule_reader side_reader forest_reader bit_field forest_of mark
    is_greater is_greater_to decreasing_mark root_mark flattened_mark none_oftener is_equivalent is_equivalent_to row_equal
    row_greater multiset_equal multiset_greater
second-marked = refl

none_left : turn_of (whole 2 ∷ whole 2 ∷ []) listing 2046 0 ≡ accepted None
unfolding turn_of first_from is_sound has_left book_marks read_bytes_in whole_reader file_reader body_reader symbol_table_reader
    symbols_reader symbol_reader rules_reader rule_reader side_reader forest_reader forest_of bit_field
none_left = refl

-- 24 goes before 25, and 25, of the lower of two such jobs, before 12.
no-such-last : turn_of (whole 3 ∷ []) listing 0 1 ≡ refusal 24 0 0
unfolding turn_of
no-such-last = refl

no-jobs : turn_of [] listing 0 0 ≡ refusal 24 0 0
unfolding turn_of
no-jobs = refl

lower-bad : turn_of (whole 2 ∷ whole 3 ∷ record { start = 1; length = 17; marked = 0 } ∷ []) listing 0 0 ≡ refusal 25 0 1
unfolding turn_of is_sound read_bytes_in whole_reader file_reader body_reader symbol_table_reader symbols_reader symbol_reader
    rules_reader rule_reader side_reader forest_reader forest_of bit_field
lower-bad = refl

outside : turn_of (record { start = 1; length = 17; marked = 0 } ∷ []) listing 1023 0 ≡ refusal 25 0 0
unfolding turn_of is_sound
outside = refl

too_short : turn_of (whole 2 ∷ []) listing 1022 0 ≡ refusal 12 2 0
unfolding turn_of is_sound read_bytes_in whole_reader file_reader body_reader symbol_table_reader symbols_reader symbol_reader
    rules_reader rule_reader side_reader forest_reader forest_of bit_field
too_short = refl
