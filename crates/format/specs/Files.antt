-- Reading a whole file, from its bytes or from its words, and a term from its words.
-- Renders: 01, "Book layout": "nothing after"; "Replies and refusals": "Reading a book", 1; "Closing", "Then 15: words
-- left over"; "Comparing": "each with 10, 2, 14, 9, 15".
use Rattle.std.specs.Prelude.{List, cond, ℕ, length, leb}
use Rattle.terms.specs.Signature.{Signature}
use Rattle.format.specs.Errors.{file_too_long}
use Rattle.format.specs.Layout.{form_number, max_bytes, max_nodes}
use Rattle.format.specs.Reading.{Reading, Reader, ◌>>=◌, ◌>>◌, give, Source, bit_source, word_source}
use Rattle.format.specs.Reading.Reading.{fault}
use Rattle.format.specs.Forms.{all_used}
use Rattle.format.specs.Format.{RuleFile, file_reader, side_reader}

-- A file that a reader of that form takes, and what may stand after its last rule.
unfoldable pub whole_reader : ℕ → Source → Reader RuleFile
whole_reader form source = do
  file ← file_reader form source
  source.end
  give file

unfoldable pub read_bytes_in : ℕ → List ℕ → Reading RuleFile
read_bytes_in form bytes =
    cond (leb (length bytes) max_bytes) (whole_reader form (bit_source bytes) 0) (fault file_too_long 0)

-- 01: a readable book is one for which this gives a file.
abbrev pub read_bytes : List ℕ → Reading RuleFile
read_bytes = read_bytes_in form_number

unfoldable pub read_words : List ℕ → Reading RuleFile
read_words words = whole_reader form_number (word_source words) 0

-- The node words of the term that stands first among the words. Its variables are in any order: it is no rule.
unfoldable pub read_first_term : Signature → List ℕ → Reading (List ℕ)
read_first_term σ words = side_reader (word_source words) max_nodes all_used σ 0

-- The same where nothing may stand after it.
unfoldable pub read_term : Signature → List ℕ → Reading (List ℕ)
read_term σ words =
    let whole : Reader (List ℕ) = do
      nodes ← side_reader (word_source words) max_nodes all_used σ
      (word_source words).end
      give nodes
    in
    whole 0
