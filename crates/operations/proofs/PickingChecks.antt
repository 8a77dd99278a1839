-- What picking gives back under the file of ComparingChecks: each side with its count of words and its part, words
-- after the terms, and each error of the left and of the right term.
use mathlib.Core.Path.{◌≡◌, refl}
use mathlib.Core.List.{List, [], ◌∷◌, ◌++◌, map}
use Prim.Native.Nat.{ℕ}
use lib.ListN.{replicate}
use Rattle.multisets.specs.Multiset.{multiset_equal, multiset_greater, row_equal, row_greater}
use Rattle.terms.specs.Words.{forest_of}
use Rattle.terms.specs.Equivalence.{is_equivalent_to, is_equivalent}
use Rattle.terms.specs.Order.{none_oftener, flattened_mark, root_mark, decreasing_mark, is_greater_to, is_greater}
use Rattle.format.specs.Reading.{bit_field, word_below}
use Rattle.format.specs.Symbols.{symbol_reader, symbols_reader, symbol_table_reader}
use Rattle.format.specs.Format.{forest_reader, side_reader, rule_reader, rules_reader, body_reader, file_reader}
use Rattle.format.specs.Files.{whole_reader, read_bytes_in, read_first_term}
use Rattle.operations.specs.Replies.{Reply}
use Rattle.operations.specs.Replies.Reply.{accepted, refused}
use Rattle.operations.specs.declared.GreaterSide.{GreaterSide}
use Rattle.operations.specs.declared.GreaterSide.TheVariants.{Left, Right, Equivalent, Unrelated}
use Rattle.operations.specs.Inputs.{read_terms, read_inputs}
use Rattle.operations.specs.Comparing.{relation}
use Rattle.operations.specs.Picking.{picked, greater_part}
use Rattle.operations.proofs.ComparingChecks.{book}

record Case : Type 0 where
  left : List ℕ
  right : List ℕ
  reply : Reply GreaterSide
  part : List ℕ

abbrev picks : List ℕ → List ℕ → GreaterSide → List ℕ → Case
picks s t side part = record { left = s; right = t; reply = accepted side; part = part }

abbrev gives : List ℕ → List ℕ → ℕ → ℕ → ℕ → Case
gives s t code input offset =
    record { left = s; right = t; reply = refused (record { code = code; input = input; offset = offset }); part = [] }

-- A term of 128 nodes is read with words after it, that of 129 is not.
abbrev cases : List Case
cases =
    picks (0 ∷ 1 ∷ []) (1 ∷ []) (Left 2) (0 ∷ 1 ∷ []) ∷
    picks (0 ∷ 1 ∷ 272 ∷ []) (1 ∷ 9 ∷ 9 ∷ []) (Left 2) (0 ∷ 1 ∷ []) ∷
    picks (256 ∷ 0 ∷ []) (0 ∷ 256 ∷ 1 ∷ []) (Right 2) (0 ∷ 256 ∷ []) ∷
    picks (0 ∷ 256 ∷ []) (0 ∷ 256 ∷ 7 ∷ []) Equivalent [] ∷
    picks (256 ∷ 272 ∷ []) (1 ∷ []) Unrelated [] ∷
    picks (1 ∷ []) (replicate 127 0 ++ (1 ∷ 1 ∷ [])) (Right 128) (replicate 127 0 ++ (1 ∷ [])) ∷
    gives (replicate 129 0) (1 ∷ []) 10 1 128 ∷
    gives [] (1 ∷ []) 2 1 0 ∷
    gives (0 ∷ 272 ∷ []) (1 ∷ []) 14 1 1 ∷
    gives (0 ∷ 2 ∷ []) (1 ∷ []) 9 1 1 ∷
    gives (1 ∷ []) (replicate 129 0) 10 2 128 ∷
    gives (1 ∷ []) (0 ∷ []) 2 2 1 ∷
    gives (1 ∷ []) (272 ∷ []) 14 2 0 ∷
    gives (1 ∷ []) (255 ∷ []) 9 2 0 ∷
    gives [] (255 ∷ []) 2 1 0 ∷
    []

replies-hold : map (λ (c : Case). picked book c.left c.right) cases ≡ map (λ (c : Case). c.reply) cases
unfolding picked read_inputs read_terms relation read_bytes_in read_first_term whole_reader file_reader body_reader
    symbol_table_reader symbols_reader symbol_reader rules_reader rule_reader side_reader forest_reader bit_field word_below
    forest_of is_greater is_greater_to decreasing_mark root_mark flattened_mark none_oftener is_equivalent is_equivalent_to
    row_equal row_greater multiset_equal multiset_greater
replies-hold = refl

parts-hold : map (λ (c : Case). greater_part book c.left c.right) cases ≡ map (λ (c : Case). c.part) cases
unfolding greater_part picked read_inputs read_terms relation read_bytes_in read_first_term whole_reader file_reader body_reader
    symbol_table_reader symbols_reader symbol_reader rules_reader rule_reader side_reader forest_reader bit_field word_below
    forest_of is_greater is_greater_to decreasing_mark root_mark flattened_mark none_oftener is_equivalent is_equivalent_to
    row_equal row_greater multiset_equal multiset_greater
parts-hold = refl

faulty-book : picked (0x10 ∷ []) [] [] ≡ refused (record { code = 17; input = 0; offset = 0 })
unfolding picked read_inputs read_bytes_in whole_reader file_reader bit_field
faulty-book = refl
