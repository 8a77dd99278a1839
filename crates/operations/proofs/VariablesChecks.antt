-- What the variable test gives back under the file of ComparingChecks: answers from 0 to 16, and errors of both terms.
use mathlib.Core.Path.{◌≡◌, refl}
use mathlib.Core.List.{List, [], ◌∷◌, map}
use Prim.Native.Nat.{ℕ}
use lib.ListN.{replicate}
use Rattle.terms.specs.Words.{forest_of}
use Rattle.terms.specs.Oftener.{oftener_from, first_oftener}
use Rattle.format.specs.Reading.{bit_field, word_below}
use Rattle.format.specs.Symbols.{symbol_reader, symbols_reader, symbol_table_reader}
use Rattle.format.specs.Format.{forest_reader, side_reader, rule_reader, rules_reader, body_reader, file_reader}
use Rattle.format.specs.Files.{whole_reader, read_bytes_in, read_term}
use Rattle.operations.specs.Replies.{Reply}
use Rattle.operations.specs.Replies.Reply.{accepted, refused}
use Rattle.operations.specs.Inputs.{read_terms, read_inputs}
use Rattle.operations.specs.Variables.{oftener}
use Rattle.operations.proofs.ComparingChecks.{book}

record Case : Type 0 where
  left : List ℕ
  right : List ℕ
  reply : Reply ℕ

abbrev answers : List ℕ → List ℕ → ℕ → Case
answers s t n = record { left = s; right = t; reply = accepted n }

abbrev gives : List ℕ → List ℕ → ℕ → ℕ → ℕ → Case
gives s t code input offset =
    record { left = s; right = t; reply = refused (record { code = code; input = input; offset = offset }) }

abbrev cases : List Case
cases =
    answers (1 ∷ []) (0 ∷ 1 ∷ []) 16 ∷
    answers (256 ∷ []) (0 ∷ 256 ∷ []) 16 ∷
    answers (1 ∷ []) (256 ∷ []) 0 ∷
    answers (256 ∷ []) (264 ∷ []) 8 ∷
    answers (256 ∷ []) (271 ∷ []) 15 ∷
    gives (replicate 129 0) (1 ∷ []) 10 1 128 ∷
    gives (1 ∷ 1 ∷ []) [] 15 1 1 ∷
    gives (1 ∷ []) (0 ∷ []) 2 2 1 ∷
    gives (1 ∷ []) (272 ∷ []) 14 2 0 ∷
    gives (1 ∷ []) (255 ∷ []) 9 2 0 ∷
    []

cases-hold : map (λ (c : Case). oftener book c.left c.right) cases ≡ map (λ (c : Case). c.reply) cases
unfolding oftener read_inputs read_terms read_bytes_in read_term whole_reader file_reader body_reader symbol_table_reader
    symbols_reader symbol_reader rules_reader rule_reader side_reader forest_reader bit_field word_below forest_of first_oftener
    oftener_from
cases-hold = refl
