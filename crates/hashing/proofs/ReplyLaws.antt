-- The ends of the fingerprint, by what its inputs read as.
--     term-fault, term-whole, term-hashed     the term
--     book-fault, book-hashed                 the file, and then the term
use Rattle.std.proofs.Common.{◌≡◌, ℕ, List, take, ap, ◌∙◌}
use Rattle.terms.specs.Signature.{Signature}
use Rattle.terms.specs.Words.{term_of}
use Rattle.terms.specs.Fingerprint.{fingerprint}
use Rattle.format.specs.Reading.Reading.{got}
use Rattle.format.specs.Files.{read_bytes, read_term}
use Rattle.format.specs.Statements.{IsTerm}
use Rattle.format.proofs.Theorems.{read-term-well-formed}
use Rattle.operations.specs.Replies.{Error, Reply, from_input}
use Rattle.operations.specs.Replies.Reply.{accepted, refused}
use Rattle.operations.specs.Hashing.{fingerprinted_term, fingerprinted}
use Rattle.symbols.specs.Table.{signature_of}
use Rattle.inputs.specs.Inputs.{BookAt}

module _ (σ : Signature) (words : List ℕ) where
  pub term-fault : (e : Error) → from_input 1 (read_term σ words) ≡ refused e → refused e ≡ fingerprinted_term σ words
  unfolding fingerprinted_term
  term-fault e f = rw f

  module _ (n : ℕ) (e : (nodes : List ℕ) × (read_term σ words ≡ got nodes n)) where
    term-read : (read_term σ words ≡ got words n) × IsTerm σ words
    term-read =
        let (nodes, r) = e in
        let (all, count, term, light) = (read-term-well-formed σ words nodes n).1 r in
        (rw all at r, rw all at term)

    pub term-whole : IsTerm σ words
    term-whole = term-read.1

    pub term-hashed : (h : ℕ) → h ≡ fingerprint σ (term_of σ words) → accepted h ≡ fingerprinted_term σ words
    unfolding fingerprinted_term
    term-hashed h f = ap accepted f ∙ rw term-read.0

module _ (bytes words : List ℕ) where
  pub book-fault : (e : Error) → from_input 0 (read_bytes bytes) ≡ refused e → refused e ≡ fingerprinted bytes words
  unfolding fingerprinted
  book-fault e f = rw f

  pub book-hashed : (table : List ℕ) (n : ℕ) → BookAt table (read_bytes bytes) n → (r : Reply ℕ) →
      r ≡ fingerprinted_term (signature_of (take n table)) words → r ≡ fingerprinted bytes words
  unfolding fingerprinted
  book-hashed table n b r e = e ∙ rw (b.read, b.signature)
