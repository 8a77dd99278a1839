-- An instance of striking, computed: comparing under a book with a unary symbol of weight 0.
--     book-holds       the book is readable
--     struck-alike     what the theorem says of it
--     replied          what comparing replies, before and after
use mathlib.Core.List.{List, [], ◌∷◌}
use mathlib.Core.Path.{◌≡◌, refl}
use mathlib.Core.Bool.{true}
use Prim.Native.Nat.{ℕ}
use native.Mathlib.Omega.{arith}
use lib.IntN.{pos}
use Rattle.multisets.specs.Multiset.{multiset_equal, multiset_greater, row_equal, row_greater}
use Rattle.terms.specs.Term.{Term, Ground, Expression}
use Rattle.terms.specs.Words.{words, forest_of}
use Rattle.terms.specs.Equivalence.{is_equivalent_to, is_equivalent}
use Rattle.terms.specs.Equivalence.Equivalent.{same}
use Rattle.terms.specs.Order.{none_oftener, flattened_mark, root_mark, decreasing_mark, is_greater_to, is_greater}
use Rattle.terms.proofs.FormedTest.{is_formed, formed-decides}
use Rattle.theory.proofs.WeightlessExample.{signature, ◌⊕◌, a, f}
use Rattle.format.specs.Reading.{bit_field, word_below}
use Rattle.format.specs.Symbols.{symbol_reader, symbols_reader, symbol_table_reader}
use Rattle.format.specs.Format.{RuleFile, forest_reader, side_reader, rule_reader, rules_reader, body_reader, file_reader}
use Rattle.format.specs.Files.{whole_reader, read_bytes_in, read_term}
use Rattle.operations.specs.declared.Relation.TheVariants as said
use Rattle.operations.specs.Inputs.{read_terms, read_inputs}
use Rattle.operations.specs.Comparing.{relation, compared}
use Rattle.guarantees.specs.Guarantees.{Holds}
use Rattle.guarantees.specs.Steinbach.{Replies}
use Rattle.guarantees.specs.Cancellations.{RepliesAlike}
use Rattle.guarantees.proofs.CancellationTheorems.{element-struck}

-- The signature of theory's WeightlessExample, and no rules.
abbrev file : RuleFile
file = record { form = 2; signature = signature; rules = [] }

abbrev book : List ℕ
book =
    0x20 ∷ 0x30 ∷ 0x00 ∷ 0x10 ∷ 0x01 ∷ 0x40 ∷ 0x00 ∷ 0x00 ∷ 0x00 ∷ 0x00 ∷ 0x04 ∷ 0x04 ∷ 0x80 ∷ 0x00 ∷ 0x00 ∷ 0x80 ∷ []

book-holds : Holds book file
unfolding read_bytes_in whole_reader file_reader body_reader symbol_table_reader symbols_reader symbol_reader rules_reader
    bit_field
book-holds = (122, refl)

expression : (t : Term) → is_formed signature t ≡ true → Ground t → Expression signature t
expression t e g = ((formed-decides signature t).0 e, g)

-- f(f(a)) is struck from f(a) + (a + f(f(a))) and (f(f(a)) + a) + a.
struck-alike : RepliesAlike book (f a ⊕ (a ⊕ f (f a))) (f (f a) ⊕ a ⊕ a) (f a ⊕ a) (a ⊕ a)
unfolding multiset_equal is_equivalent is_equivalent_to row_equal
struck-alike = element-struck book file 0 (f (f a)) (f (f a))
    (record {
      holds = book-holds;
      ac = (omega arith, refl);
      part = expression (f (f a)) refl λ x. refl;
      equivalent = same;
    }) (f a ⊕ (a ⊕ f (f a))) (f (f a) ⊕ a ⊕ a) (f a ⊕ a) (a ⊕ a)
    (record {
      left = expression (f a ⊕ (a ⊕ f (f a))) refl λ x. refl;
      right = expression (f (f a) ⊕ a ⊕ a) refl λ x. refl;
      left_short = omega arith;
      right_short = omega arith;
    }) (expression (f a ⊕ a) refl λ x. refl) (expression (a ⊕ a) refl λ x. refl)
    (record { before = f a ∷ a ∷ []; after = []; place = refl })
    (record { before = []; after = a ∷ a ∷ []; place = refl }) refl refl

replied :
    Replies book (words (f a ⊕ (a ⊕ f (f a)))) (words (f (f a) ⊕ a ⊕ a)) said.Greater ×
    Replies book (words (f a ⊕ a)) (words (a ⊕ a)) said.Greater
unfolding compared read_inputs read_terms relation read_bytes_in read_term whole_reader file_reader body_reader
    symbol_table_reader symbols_reader symbol_reader rules_reader rule_reader side_reader forest_reader bit_field word_below
    forest_of is_greater is_greater_to decreasing_mark root_mark flattened_mark none_oftener is_equivalent is_equivalent_to
    row_equal row_greater multiset_equal multiset_greater
replied = ((pos 0, refl), (pos 0, refl))
