-- What the fingerprint gives back under the file of ComparingChecks: a number, and each error of the term.
use mathlib.Core.Path.{◌≡◌, refl}
use mathlib.Core.List.{List, [], ◌∷◌, map}
use Prim.Native.Nat.{ℕ}
use lib.ListN.{replicate}
use Rattle.terms.specs.Words.{forest_of}
use Rattle.terms.specs.Fingerprint.{fingerprint_to, fingerprint}
use Rattle.format.specs.Reading.{bit_field, word_below}
use Rattle.format.specs.Symbols.{symbol_reader, symbols_reader, symbol_table_reader}
use Rattle.format.specs.Format.{forest_reader, side_reader, rule_reader, rules_reader, body_reader, file_reader}
use Rattle.format.specs.Files.{whole_reader, read_bytes_in, read_term}
use Rattle.operations.specs.Replies.{Reply}
use Rattle.operations.specs.Replies.Reply.{accepted, refused}
use Rattle.operations.specs.Hashing.{fingerprinted_term, fingerprinted}
use Rattle.operations.proofs.ComparingChecks.{book}

record Case : Type 0 where
  term : List ℕ
  reply : Reply ℕ

abbrev prints : List ℕ → ℕ → Case
prints t n = record { term = t; reply = accepted n }

abbrev gives : List ℕ → ℕ → ℕ → Case
gives t code offset = record { term = t; reply = refused (record { code = code; input = 1; offset = offset }) }

abbrev cases : List Case
cases =
    prints (1 ∷ []) 2 ∷
    prints (271 ∷ []) 272 ∷
    prints (0 ∷ 0 ∷ 256 ∷ []) 319 ∷
    gives (replicate 129 0) 10 128 ∷
    gives (0 ∷ []) 2 1 ∷
    gives (0 ∷ 272 ∷ []) 14 1 ∷
    gives (2 ∷ []) 9 0 ∷
    gives (1 ∷ 1 ∷ []) 15 1 ∷
    []

cases-hold : map (λ (c : Case). fingerprinted book c.term) cases ≡ map (λ (c : Case). c.reply) cases
unfolding fingerprinted fingerprinted_term read_bytes_in read_term whole_reader file_reader body_reader symbol_table_reader
    symbols_reader symbol_reader rules_reader rule_reader side_reader forest_reader bit_field word_below forest_of fingerprint
    fingerprint_to
cases-hold = refl

faulty-book : fingerprinted (0x10 ∷ []) [] ≡ refused (record { code = 17; input = 0; offset = 0 })
unfolding fingerprinted read_bytes_in whole_reader file_reader bit_field
faulty-book = refl
