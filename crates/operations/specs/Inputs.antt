-- The inputs of an operation on a rule file and two terms: the file, then each term under its signature.
-- Renders: 01, "Replies and refusals": "Comparing (book, left, right). The book, then left, then right".
use Rattle.std.specs.Prelude.{List, ℕ}
use Rattle.terms.specs.Signature.{Signature}
use Rattle.terms.specs.Term.{Term}
use Rattle.terms.specs.Words.{term_of}
use Rattle.format.specs.Reading.{Reading}
use Rattle.format.specs.Files.{read_bytes}
use Rattle.operations.specs.Replies.{Reply, ◌>>=◌, from_input}
use Rattle.operations.specs.Replies.Reply.{accepted}

-- How the node words of a term are read: `read_term`, or `read_first_term` where words may stand after it.
abbrev pub TermReader : Type 0
TermReader = Signature → List ℕ → Reading (List ℕ)

-- Two terms, and the signature under which they were read.
pub record Inputs : Type 0 where
  pub signature : Signature
  pub left : Term
  pub right : Term

-- The left term, then the right one.
unfoldable pub read_terms : TermReader → Signature → List ℕ → List ℕ → Reply Inputs
read_terms reader σ left right = do
  s ← from_input 1 (reader σ left)
  t ← from_input 2 (reader σ right)
  accepted (record { signature = σ; left = term_of σ s; right = term_of σ t })

-- 01: the book, then left, then right.
unfoldable pub read_inputs : TermReader → List ℕ → List ℕ → List ℕ → Reply Inputs
read_inputs reader bytes left right = do
  file ← from_input 0 (read_bytes bytes)
  read_terms reader file.signature left right
