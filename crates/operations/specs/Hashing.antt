-- What the fingerprint of a term under a rule file gives back, for every input.
-- Renders: 02, order 2: "It takes a book and one term, and refuses what comparing refuses of these."
use Rattle.std.specs.Prelude.{List, ℕ}
use Rattle.terms.specs.Signature.{Signature}
use Rattle.terms.specs.Words.{term_of}
use Rattle.terms.specs.Fingerprint.{fingerprint}
use Rattle.format.specs.Files.{read_bytes, read_term}
use Rattle.operations.specs.Replies.{Reply, ◌>>=◌, from_input}
use Rattle.operations.specs.Replies.Reply.{accepted}

-- The term, under a signature.
unfoldable pub fingerprinted_term : Signature → List ℕ → Reply ℕ
fingerprinted_term σ words = do
  t ← from_input 1 (read_term σ words)
  accepted (fingerprint σ (term_of σ t))

-- 02: the book, then the term.
unfoldable pub fingerprinted : List ℕ → List ℕ → Reply ℕ
fingerprinted bytes words = do
  file ← from_input 0 (read_bytes bytes)
  fingerprinted_term file.signature words
