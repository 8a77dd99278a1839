-- What the answers of reading a file and terms stand for.
use Rattle.std.specs.Prelude.{◌≡◌, List, ℕ, ◌≤◌, length, take, Result, Ok, Err}
use Rattle.terms.specs.Words.{term_of}
use Rattle.format.specs.Reading.{Reading}
use Rattle.format.specs.Reading.Reading.{got}
use Rattle.format.specs.Format.{RuleFile}
use Rattle.operations.specs.declared.Error as code
use Rattle.operations.specs.Enums.{error_of}
use Rattle.operations.specs.Replies.{Reply, from_input}
use Rattle.operations.specs.Replies.Reply.{accepted, refused}
use Rattle.operations.specs.Inputs.{Inputs}
use Rattle.symbols.specs.Table.{signature_of, max_table_words}
use Rattle.reader.specs.Promise.{IsTable, Decoded}
use Rattle.inputs.specs.declared.Ends.{Ends}

-- The terms that are read under a table are the words up to their ends, and are what reading promises.
pub record TermsAt (table left right : List ℕ) (reading : Reply Inputs) (l r : ℕ) : Type 0 where
  pub read : reading ≡ accepted (record {
    signature = signature_of table;
    left = term_of (signature_of table) (take l left);
    right = term_of (signature_of table) (take r right);
  })
  pub left_within : l ≤ length left
  pub right_within : r ≤ length right
  pub decoded : Decoded table (take l left) (take r right)

-- What is read under a table, and the result.
abbrev pub TermsRead : List ℕ → List ℕ → List ℕ → Reply Inputs → Result Ends code.Error → Type 0
TermsRead table left right reading (Ok ends) =
    (ends.front ≡ length table) × TermsAt table left right reading ends.left ends.right
TermsRead table left right reading (Err e) = reading ≡ refused (error_of e)

-- The front of the table has the symbols of the file that is read.
pub record BookAt (table : List ℕ) (reading : Reading RuleFile) (front : ℕ) : Type 0 where
  pub file : RuleFile
  pub end : ℕ
  pub read : reading ≡ got file end
  pub signature : signature_of (take front table) ≡ file.signature
  pub decoded : IsTable (take front table)
  pub room : front ≤ length table
  pub few : front ≤ max_table_words

-- What is read of a file, which is input 0, and the result.
abbrev pub BookRead : List ℕ → Reading RuleFile → Result ℕ code.Error → Type 0
BookRead table reading (Ok front) = BookAt table reading front
BookRead table reading (Err e) = from_input 0 reading ≡ refused (error_of e)

-- What is read of a file and two terms, and the result.
abbrev pub InputsRead : List ℕ → List ℕ → List ℕ → Reply Inputs → Result Ends code.Error → Type 0
InputsRead table left right reading (Ok ends) =
    (ends.front ≤ length table) × TermsAt (take ends.front table) left right reading ends.left ends.right
InputsRead table left right reading (Err e) = reading ≡ refused (error_of e)
