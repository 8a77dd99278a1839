-- What counting and listing give back under the file of ComparingChecks, symbol 0 of arity 1 and the constant 1: a term
-- of each size, and each error in its order.
use Rattle.std.specs.Prelude.{Some, None}
use mathlib.Core.Path.{◌≡◌, refl}
use mathlib.Core.List.{List, [], ◌∷◌, map, flatten}
use Prim.Native.Nat.{ℕ}
use Rattle.terms.specs.Enumeration.{ground_rows}
use Rattle.terms.specs.Words.{forest_of}
use Rattle.format.specs.Reading.{bit_field}
use Rattle.format.specs.Symbols.{symbol_reader, symbols_reader, symbol_table_reader}
use Rattle.format.specs.Format.{forest_reader, side_reader, rule_reader, rules_reader, body_reader, file_reader}
use Rattle.format.specs.Files.{whole_reader, read_bytes_in}
use Rattle.operations.specs.Replies.{Outcome}
use Rattle.operations.specs.Replies.Reply.{accepted, refused}
use Rattle.operations.specs.Enumerating.{term_count, counted_terms, counted, listed_terms, listed}
use Rattle.operations.proofs.ComparingChecks.{book}

record Case : Type 0 where
  size : ℕ
  output : List ℕ
  outcome : Outcome ℕ

abbrev lists : ℕ → List ℕ → ℕ → List ℕ → Case
lists n output words after =
    record { size = n; output = output; outcome = record { reply = accepted words; output = after } }

abbrev gives : ℕ → List ℕ → ℕ → ℕ → Case
gives n output code input = record {
  size = n;
  output = output;
  outcome = record { reply = refused (record { code = code; input = input; offset = 0 }); output = output };
}

abbrev cases : List Case
cases =
    lists 1 (9 ∷ 9 ∷ []) 1 (1 ∷ 9 ∷ []) ∷
    lists 3 (9 ∷ 9 ∷ 9 ∷ []) 3 (0 ∷ 0 ∷ 1 ∷ []) ∷
    gives 0 [] 22 0 ∷
    gives 8 [] 22 0 ∷
    gives 3 (9 ∷ 9 ∷ []) 23 1 ∷
    []

cases-hold : map (λ (c : Case). listed book c.output c.size) cases ≡ map (λ (c : Case). c.outcome) cases
unfolding listed listed_terms ground_rows flatten read_bytes_in whole_reader file_reader body_reader symbol_table_reader
    symbols_reader symbol_reader rules_reader rule_reader side_reader forest_reader forest_of bit_field
cases-hold = refl

counts-hold : map (counted book) (1 ∷ 7 ∷ 8 ∷ []) ≡
    accepted (Some 1) ∷ accepted (Some 1) ∷
    refused (record { code = 22; input = 0; offset = 0 }) ∷ []
unfolding counted counted_terms ground_rows read_bytes_in whole_reader file_reader body_reader symbol_table_reader symbols_reader
    symbol_reader rules_reader rule_reader side_reader forest_reader forest_of bit_field
counts-hold = refl

limits : map term_count (0 ∷ 65535 ∷ 65536 ∷ []) ≡ Some 0 ∷ Some 65535 ∷ None ∷ []
limits = refl

faulty-book : counted (0x10 ∷ []) 0 ≡ refused (record { code = 17; input = 0; offset = 0 })
unfolding counted read_bytes_in whole_reader file_reader bit_field
faulty-book = refl
