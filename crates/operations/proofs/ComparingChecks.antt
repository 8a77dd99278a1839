-- What comparing gives back under a file of two symbols, 0 of arity 1 and the constant 1: each relation with its
-- margin, and each error of the left and of the right term.
use mathlib.Core.Path.{◌≡◌, refl}
use mathlib.Core.List.{List, [], ◌∷◌, map}
use Prim.Native.Nat.{ℕ}
use lib.IntN.{ℤ, pos, negsuc}
use lib.ListN.{replicate}
use Rattle.multisets.specs.Multiset.{multiset_equal, multiset_greater, row_equal, row_greater}
use Rattle.terms.specs.Words.{forest_of}
use Rattle.terms.specs.Equivalence.{is_equivalent_to, is_equivalent}
use Rattle.terms.specs.Order.{none_oftener, flattened_mark, root_mark, decreasing_mark, is_greater_to, is_greater}
use Rattle.format.specs.Reading.{bit_field, word_below}
use Rattle.format.specs.Symbols.{symbol_reader, symbols_reader, symbol_table_reader}
use Rattle.format.specs.Format.{forest_reader, side_reader, rule_reader, rules_reader, body_reader, file_reader}
use Rattle.format.specs.Files.{whole_reader, read_bytes_in, read_term}
use Rattle.operations.specs.Replies.{Reply}
use Rattle.operations.specs.Replies.Reply.{accepted, refused}
use Rattle.operations.specs.declared.Relation.{Relation}
use Rattle.operations.specs.declared.Relation.TheVariants.{Greater, Less, Equivalent, Unrelated}
use Rattle.operations.specs.declared.Comparison.{Comparison}
use Rattle.operations.specs.Inputs.{read_terms, read_inputs}
use Rattle.operations.specs.Comparing.{relation, compared}

-- Form 2, two symbols, w0 1, no rules; the symbols weigh 1 and have the ranks 1 and 0.
abbrev pub book : List ℕ
book = 0x20 ∷ 0x20 ∷ 0x00 ∷ 0x10 ∷ 0x00 ∷ 0x80 ∷ 0x00 ∷ 0x40 ∷ 0x40 ∷ 0x00 ∷ 0x04 ∷ 0x00 ∷ []

record Case : Type 0 where
  left : List ℕ
  right : List ℕ
  reply : Reply Comparison

abbrev relates : List ℕ → List ℕ → Relation → ℤ → Case
relates s t r m = record { left = s; right = t; reply = accepted (record { relation = r; margin = m }) }

abbrev gives : List ℕ → List ℕ → ℕ → ℕ → ℕ → Case
gives s t code input offset =
    record { left = s; right = t; reply = refused (record { code = code; input = input; offset = offset }) }

-- The last has a fault in both terms.
abbrev cases : List Case
cases =
    relates (0 ∷ 1 ∷ []) (1 ∷ []) Greater (pos 1) ∷
    relates (256 ∷ []) (0 ∷ 256 ∷ []) Less (negsuc 0) ∷
    relates (0 ∷ 256 ∷ []) (0 ∷ 256 ∷ []) Equivalent (pos 0) ∷
    relates (256 ∷ []) (1 ∷ []) Unrelated (pos 0) ∷
    gives (replicate 129 0) (1 ∷ []) 10 1 128 ∷
    gives [] (1 ∷ []) 2 1 0 ∷
    gives (0 ∷ 272 ∷ []) (1 ∷ []) 14 1 1 ∷
    gives (0 ∷ 2 ∷ []) (1 ∷ []) 9 1 1 ∷
    gives (1 ∷ 1 ∷ []) (1 ∷ []) 15 1 1 ∷
    gives (1 ∷ []) (replicate 129 0) 10 2 128 ∷
    gives (1 ∷ []) (0 ∷ []) 2 2 1 ∷
    gives (1 ∷ []) (272 ∷ []) 14 2 0 ∷
    gives (1 ∷ []) (255 ∷ []) 9 2 0 ∷
    gives (1 ∷ []) (1 ∷ 1 ∷ []) 15 2 1 ∷
    gives (1 ∷ 1 ∷ []) [] 15 1 1 ∷
    []

cases-hold : map (λ (c : Case). compared book c.left c.right) cases ≡ map (λ (c : Case). c.reply) cases
unfolding compared read_inputs read_terms relation read_bytes_in read_term whole_reader file_reader body_reader
    symbol_table_reader symbols_reader symbol_reader rules_reader rule_reader side_reader forest_reader bit_field word_below
    forest_of is_greater is_greater_to decreasing_mark root_mark flattened_mark none_oftener is_equivalent is_equivalent_to
    row_equal row_greater multiset_equal multiset_greater
cases-hold = refl

faulty-book : compared (0x10 ∷ []) [] [] ≡ refused (record { code = 17; input = 0; offset = 0 })
unfolding compared read_inputs read_bytes_in whole_reader file_reader bit_field
faulty-book = refl
