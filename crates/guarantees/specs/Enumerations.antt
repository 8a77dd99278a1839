-- What a reader may rely on of counting and listing the small expressions. Proofs: proofs/Theorems.antt.
-- Renders: 02, order 12: "all variable-free terms of n nodes, n from 1 to 7. List them one after another in the
-- caller's words, ordered by their words from the first on, each once", "as a number up to 65,535 or "more"".
use mathlib.Core.List.{List, ◌++◌, map, flatten, Memᴰ}
use Rattle.std.specs.Prelude.{◌↔◌, ◌≡◌, ℕ, ◌*◌, ◌≤◌, ◌<◌, length, drop, Some, None}
use Rattle.terms.specs.Signature.{Signature}
use Rattle.terms.specs.Words.{words, forest_of}
use Rattle.terms.specs.Rewriting.{StronglySorted}
use Rattle.terms.specs.Enumeration.{Before}
use Rattle.terms.specs.EnumerationStatements.{Spelled}
use Rattle.format.specs.Format.{RuleFile}
use Rattle.operations.specs.Replies.Reply.{accepted}
use Rattle.operations.specs.Enumerating.{max_size, max_terms, counted, listed}
use Rattle.guarantees.specs.Guarantees.{Holds}

-- The words of the expressions of n nodes, all of them and no others, each before every later one, so that none comes
-- twice. Counting replies their number, or "more"; listing writes them one after another, and what it writes reads as
-- those terms, one after another.
pub record Enumerated (bytes : List ℕ) (σ : Signature) (n : ℕ) : Type 0 where
  pub terms : List (List ℕ)
  pub exactly : (ws : List ℕ) → Memᴰ ws terms ↔ Spelled σ n ws
  pub sorted : StronglySorted Before terms
  pub read : map words (forest_of σ (flatten terms)) ≡ terms
  pub number : length terms ≤ max_terms → counted bytes n ≡ accepted (Some (length terms))
  pub more : max_terms < length terms → counted bytes n ≡ accepted None
  pub written : (output : List ℕ) → length terms ≤ max_terms → n * length terms ≤ length output → listed bytes output n
      ≡ record { reply = accepted (n * length terms); output = flatten terms ++ drop (n * length terms) output }

abbrev pub SmallExpressionsEnumerated : Type 0
SmallExpressionsEnumerated = (bytes : List ℕ) (file : RuleFile) → Holds bytes file → (n : ℕ) → 1 ≤ n → n ≤ max_size →
    Enumerated bytes file.signature n
