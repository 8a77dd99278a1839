-- The source of a rule file, the bytes of a packed one or the words of a sheet, and the file that is read from it.
use Rattle.std.specs.Prelude.{List, [], ◌≡◌, Bool, cond, ℕ, ◌*◌, ◌≤◌, length, leb}
use Rattle.std.proofs.lemmas.List.Edits.{sets}
use Rattle.format.specs.Errors.{file_too_long}
use Rattle.format.specs.Layout.{max_bytes}
use Rattle.format.specs.Reading.{Reading, Reader, ◌>>=◌, ◌>>◌, give, here, require, Source, bit_source, word_source}
use Rattle.format.specs.Reading.Reading.{fault}
use Rattle.format.specs.Format.{RuleFile}
use Rattle.format.specs.Files.{whole_reader}
use Rattle.reader.specs.declared.source.Source as code
use Rattle.reader.specs.declared.source.Source.TheVariants.{Book, Sheet}

-- The bytes of a packed file, or the words of a sheet.
pub data Input : Type 0 where
  from_bytes : List ℕ → Input
  from_words : List ℕ → Input

-- What the source of the code stands for.
abbrev pub input_of : code.Source → Input
input_of (Book b) = from_bytes b.bytes.now
input_of (Sheet words) = from_words words.now

unfoldable pub source_of : Input → Source
source_of (from_bytes bytes) = bit_source bytes
source_of (from_words words) = word_source words

-- A sheet has no bytes.
abbrev pub bytes_of : Input → List ℕ
bytes_of (from_bytes bytes) = bytes
bytes_of (from_words words) = []

-- After so many fields the offset is one of the bits, or the number of the fields, a word each.
unfoldable pub Reached : Input → ℕ → ℕ → Type 0
Reached (from_bytes bytes) fields at = at ≤ 8 * length bytes
Reached (from_words words) fields at = (at ≡ fields) × (at ≤ length words)

-- That of a packed file, and that of the words of a sheet.
abbrev pub InBook : Input → Type 0 → Type 0
InBook (from_bytes bytes) P = P
InBook (from_words words) P = Unit {0}

abbrev pub InSheet : Input → (List ℕ → Type 0) → Type 0
InSheet (from_bytes bytes) P = Unit {0}
InSheet (from_words words) P = P words

-- The words with a file's table: those stored where the file is packed, else its own, whose front is one.
abbrev pub table_of : Input → List ℕ → List ℕ
table_of (from_bytes bytes) table = table
table_of (from_words words) table = words

-- Where the file is packed there is room for so many words of a table.
abbrev pub Room : Input → ℕ → List ℕ → Type 0
Room input n table = InBook input (n ≤ length table)

-- Where the file is packed, words were stored in the table from an index on; among words they stand.
abbrev pub Stored : Input → ℕ → List ℕ → List ℕ → List ℕ → Type 0
Stored input index words before after = InBook input (after ≡ sets before index words)

-- A field that is to pass a test, with that error where it does not.
unfoldable pub tested : Source → ℕ → (ℕ → Bool) → ℕ → Reader ℕ
tested source width ok error = do
  offset ← here
  value ← source.field width
  require (ok value) error offset
  give value

-- The file that a reader of that form reads from the bytes, or from the words.
unfoldable pub read_source : ℕ → Input → Reading RuleFile
read_source form input =
    cond (leb (length (bytes_of input)) max_bytes) (whole_reader form (source_of input) 0) (fault file_too_long 0)
