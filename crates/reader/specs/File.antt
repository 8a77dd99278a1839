-- What the answers of reading a whole file stand for.
use Rattle.std.specs.Prelude.{◌≡◌, List, map, true, cond, false, ℕ, ◌*◌, ◌≤◌, ◌<◌, length, take, eqb, leb}
use Rattle.std.specs.Prelude.{Result, Ok, Err}
use Rattle.std.proofs.lemmas.List.Edits.{sets}
use Rattle.terms.specs.Signature.{Signature}
use Rattle.format.specs.Errors.{no_symbols, variable_weightless, number_of}
use Rattle.format.specs.Layout.{first_form, form_number, symbol_count_width, weight_width, rule_count_width, max_bytes}
use Rattle.format.specs.Reading.{Reading, Reader, ◌>>=◌, ◌>>◌, give}
use Rattle.format.specs.Reading.Reading.{got, fault}
use Rattle.format.specs.Forms.{is_taken, has_coefficients, unused_of}
use Rattle.format.specs.Symbols.{symbol_table_reader}
use Rattle.format.specs.Format.{Sides, RuleFile, rules_reader}
use Rattle.format.specs.Conversion.{converted_sides}
use Rattle.symbols.specs.Table.{signature_of, table_words, max_table_words, front_words}
use Rattle.answers.specs.Answer.{Fault}
use Rattle.sides.specs.Side.{rules_words}
use Rattle.reader.specs.Promise.{IsTable}
use Rattle.reader.specs.declared.file.Head.{Head}
use Rattle.reader.specs.declared.file.Unpacked.{Unpacked}
use Rattle.reader.specs.Source.{Input, source_of, bytes_of, Reached, InBook, table_of, tested}

module _ (form : ℕ) (input : Input) where
  -- What follows the symbols: the rules, and what may stand after them.
  unfoldable pub rest_reader : Signature → ℕ → Reader RuleFile
  rest_reader σ rule_count = do
    rules ← rules_reader (source_of input) (unused_of form) σ rule_count
    (source_of input).end
    give (record { form = form; signature = σ; rules = rules })

  -- What follows the header.
  unfoldable pub table_reader : ℕ → ℕ → ℕ → Reader RuleFile
  table_reader w0 symbol_count rule_count = do
    symbols ← symbol_table_reader (source_of input) form w0 symbol_count
    rest_reader (record { w0 = w0; symbols = symbols }) rule_count

  -- What follows the form.
  unfoldable pub counts_reader : Reader RuleFile
  counts_reader = do
    symbol_count ← tested (source_of input) symbol_count_width (leb 1) no_symbols
    w0 ← tested (source_of input) weight_width (leb 1) variable_weightless
    rule_count ← (source_of input).field rule_count_width
    table_reader w0 symbol_count rule_count

-- A rule of that form with its variables in order of first use.
abbrev pub sides_in : ℕ → Sides → Sides
sides_in form r = cond (eqb form first_form) (converted_sides r) r

abbrev pub rules_in : ℕ → List Sides → List Sides
rules_in form rules = cond (eqb form first_form) (map converted_sides rules) rules

-- The form of the file that is stored where one of that form is read, and that file: one of the first form is
-- converted.
abbrev pub stored_form : ℕ → ℕ
stored_form form = cond (eqb form first_form) form_number form

abbrev pub stored_file : RuleFile → RuleFile
stored_file f = record { form = stored_form f.form; signature = f.signature; rules = rules_in f.form f.rules }

-- What is read of a file that a reader of that form takes: its form, what is left to read after its symbols, its counts
-- of symbols and of rules, its signature, the words before its rules, and their offset.
pub record HeadParts (reader : ℕ) (input : Input) (reading : Reading RuleFile) (table : List ℕ)
    (symbols rules offset : ℕ) : Type 0 where
  pub form : ℕ
  pub taken : is_taken reader form ≡ true
  pub whole : reading ≡ rest_reader form input (signature_of (take (table_words symbols)
      (table_of input table))) rules offset
  pub symbol_count : symbols ≡ length (signature_of (take (table_words symbols) (table_of input table))).symbols
  pub short : length (bytes_of input) ≤ max_bytes
  pub few_symbols : symbols < 256
  pub few_rules : rules < 1024
  pub decoded : IsTable (take (table_words symbols) (table_of input table))
  pub within : Reached input (table_words symbols) offset
  pub front : InBook input (take (table_words symbols) table ≡ front_words (stored_form form) (signature_of
      (take (table_words symbols) (table_of input table))) rules)

-- What is read, the head, and the table afterwards.
abbrev pub HeadRead : ℕ → Input → Reading RuleFile → Result Head Fault → List ℕ → Type 0
HeadRead reader input reading (Ok head) table =
    HeadParts reader input reading table head.symbols head.rules head.cursor.at
HeadRead reader input reading (Err f) table = reading ≡ fault (number_of f.code) f.offset

-- A packed file: the front of the table has the words before its rules, and the words those of its rules as they are
-- stored, where there is room for all of them.
pub record PackedParts (bytes table before after : List ℕ) (file : RuleFile) (nodes front : ℕ) : Type 0 where
  pub plain : has_coefficients file.form ≡ false
  pub short : length bytes ≤ max_bytes
  pub size : front ≡ table_words (length file.signature.symbols)
  pub few : front ≤ max_table_words
  pub words : take front table ≡ front_words (stored_form file.form) file.signature (length file.rules)
  pub signature : signature_of (take front table) ≡ file.signature
  pub decoded : IsTable (take front table)
  pub narrow : 5 * nodes ≤ 8 * length bytes
  pub node_count : nodes ≡ length (rules_words (rules_in file.form file.rules))
  pub stored : nodes ≤ length before → after ≡ sets before 0 (rules_words (rules_in file.form file.rules))

-- What was read, the result, the table afterwards, and the words before and after.
abbrev pub PackedRead : List ℕ → Reading RuleFile → Result Unpacked Fault → List ℕ → List ℕ → List ℕ → Type 0
PackedRead bytes reading (Ok u) table before after =
    (file : RuleFile) × (end : ℕ) × (reading ≡ got file end)
    × PackedParts bytes table before after file u.nodes u.front
PackedRead bytes reading (Err f) table before after = reading ≡ fault (number_of f.code) f.offset

-- A file among words: how many symbols it has, where its rules begin, and that the words are not many.
pub record SheetParts (words : List ℕ) (file : RuleFile) (symbols front : ℕ) : Type 0 where
  pub plain : has_coefficients file.form ≡ false
  pub symbol_count : symbols ≡ length file.signature.symbols
  pub begin : front ≡ table_words symbols
  pub within : front ≤ length words
  pub short : length words ≤ 263000

-- What was read, and the head.
abbrev pub SheetRead : List ℕ → Reading RuleFile → Result Head Fault → Type 0
SheetRead words reading (Ok head) =
    (file : RuleFile) × (end : ℕ) × (reading ≡ got file end) × SheetParts words file head.symbols head.cursor.at
SheetRead words reading (Err f) = reading ≡ fault (number_of f.code) f.offset
