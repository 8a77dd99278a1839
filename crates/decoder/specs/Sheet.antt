-- What the result of unpacking a file stands for, and the words afterwards.
use Rattle.std.specs.Prelude.{◌≡◌, List, ℕ, ◌+◌, ◌*◌, ◌≤◌, ◌<◌, length, Result, Ok, Err}
use Rattle.std.proofs.lemmas.List.Edits.{sets}
use Rattle.format.specs.Errors.{number_of}
use Rattle.format.specs.Layout.{max_bytes}
use Rattle.format.specs.Reading.{Reading}
use Rattle.format.specs.Reading.Reading.{got, fault}
use Rattle.format.specs.Format.{RuleFile}
use Rattle.format.specs.Packing.{unpacked}
use Rattle.symbols.specs.Table.{table_words, max_table_words}
use Rattle.answers.specs.Answer.{Fault}
use Rattle.reader.specs.declared.file.Unpacked.{Unpacked}
use Rattle.reader.specs.File.{stored_file}

-- The sheet of a file, of one of the first form that of the converted one, is stored where there is room for it; it has
-- so many words of its rules, and so many before them.
pub record SheetAt (bytes before after : List ℕ) (file : RuleFile) (nodes front : ℕ) : Type 0 where
  pub size : front + nodes ≡ length (unpacked (stored_file file))
  pub begin : front ≡ table_words (length file.signature.symbols)
  pub short : length bytes ≤ max_bytes
  pub few : 5 * (front + nodes) ≤ 5 * max_table_words + 8 * length bytes
  pub stored : front + nodes ≤ length before → after ≡ sets before 0 (unpacked (stored_file file))
  pub kept : length before < front + nodes → after ≡ before

-- What was read, the result, and the words before and after.
abbrev pub SheetRead : List ℕ → Reading RuleFile → Result Unpacked Fault → List ℕ → List ℕ → Type 0
SheetRead bytes reading (Ok u) before after =
    (file : RuleFile) × (end : ℕ) × (reading ≡ got file end) × SheetAt bytes before after file u.nodes u.front
SheetRead bytes reading (Err f) before after = (reading ≡ fault (number_of f.code) f.offset) × (after ≡ before)
