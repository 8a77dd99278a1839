-- The theorems of this crate, as types. Their proofs stand in proofs/Theorems.antt.
-- Renders: 01, "The order": "it stands above the reader and relies on its promise only"; "Book layout": the widths,
-- "All ranks differ", "Admissible", "A side has at most 128 nodes, a book at most 32,768 bytes"; 02, order 4: "within a
-- rule a variable's first appearance, left side first, must take the lowest unused number".
-- Reading is total and has one outcome: `read_bytes`, `read_words` and `read_term` are functions into `Reading`.
use mathlib.Core.List.{List, [], ◌++◌, Memᴰ}
use Rattle.std.specs.Prelude.{◌≡◌, true, false, ℕ, ◌*◌, ◌^◌, ◌≤◌, ◌<◌, length, take}
use Rattle.terms.specs.Signature.{Symbol, Signature, symbol_of, coefficients_of, Ones, NoZeroWeightUnary, Admissible}
use Rattle.terms.specs.Term.{Term, size, WellFormed}
use Rattle.terms.specs.Words.{first_variable, words, term_of}
use Rattle.terms.specs.FirstUse.{in_order_from}
use Rattle.terms.specs.Rewriting.{WellFormedRules}
use Rattle.format.specs.Errors.{too_many_nodes, side_too_heavy}
use Rattle.format.specs.Layout.{symbol_count_width, weight_width, rule_count_width, arity_width, rank_width, max_nodes}
use Rattle.format.specs.Layout.{form_number, first_form, coefficient_width, max_bytes}
use Rattle.format.specs.Reading.{bit_source, word_source}
use Rattle.format.specs.Reading.Reading.{got, fault}
use Rattle.format.specs.Symbols.{ones, symbols_reader, weight_offset}
use Rattle.format.specs.Forms.{is_taken, has_coefficients, unused_of}
use Rattle.format.specs.Format.{Sides, RuleFile, system_of, is_light}
use Rattle.format.specs.Packing.{packed, unpacked}
use Rattle.format.specs.Files.{read_bytes_in, read_bytes, read_words, read_first_term, read_term}

-- ---- the promise

-- A file that is read from some bytes or from some words.
pub data IsRead (file : RuleFile) : Type 0 where
  from_bytes : (bytes : List ℕ) (end : ℕ) → read_bytes bytes ≡ got file end → IsRead file
  from_words : (input : List ℕ) (end : ℕ) → read_words input ≡ got file end → IsRead file

-- Every value is within the width of its field.
pub record WithinWidths (file : RuleFile) : Type 0 where
  pub symbol_count : length file.signature.symbols < 2 ^ symbol_count_width
  pub w0 : file.signature.w0 < 2 ^ weight_width
  pub rule_count : length file.rules < 2 ^ rule_count_width
  pub arity : (f : ℕ) → (symbol_of file.signature f).arity < 2 ^ arity_width
  pub weight : (f : ℕ) → (symbol_of file.signature f).weight < 2 ^ weight_width
  pub precedence : (f : ℕ) → (symbol_of file.signature f).precedence < 2 ^ rank_width
  pub coefficient : (f k : ℕ) → Memᴰ k (coefficients_of file.signature f) → k < 2 ^ coefficient_width

-- The words of a well-formed term of at most 128 nodes.
pub record IsTerm (σ : Signature) (ws : List ℕ) : Type 0 where
  pub spelled : ws ≡ words (term_of σ ws)
  pub well_formed : WellFormed σ (term_of σ ws)
  pub short : length ws ≤ max_nodes

-- Each symbol has a coefficient of 1 for each argument.
abbrev pub Plain : Signature → Type 0
Plain σ = (f : ℕ) → (symbol_of σ f).coefficients ≡ ones (symbol_of σ f).arity

-- A signature whose coefficients are all 1 and whose weights are within their width: no side is too heavy under it.
pub record Unscaled (σ : Signature) : Type 0 where
  pub ones : Ones σ
  pub w0 : σ.w0 < 2 ^ weight_width
  pub weight : (f : ℕ) → (symbol_of σ f).weight < 2 ^ weight_width

-- An admissible signature of from 1 to 255 symbols with a coefficient for each argument, all ones where the form has
-- none, and rules whose sides are the words of terms, with the variables in
-- the order that the form asks for.
pub record WellFormedFile (file : RuleFile) : Type 0 where
  pub admissible : Admissible file.signature
  pub full : (f : ℕ) → length (coefficients_of file.signature f) ≡ (symbol_of file.signature f).arity
  pub plain : has_coefficients file.form ≡ false → Plain file.signature
  pub some_symbol : 0 < length file.signature.symbols
  pub within : WithinWidths file
  pub sides : (r : Sides) → Memᴰ r file.rules →
      IsTerm file.signature r.left × IsTerm file.signature r.right
  pub light : (r : Sides) → Memᴰ r file.rules →
      (is_light file.signature (term_of file.signature r.left) ≡ true)
      × (is_light file.signature (term_of file.signature r.right) ≡ true)
  pub in_turn : (r : Sides) → Memᴰ r file.rules →
      in_order_from (unused_of file.form) (r.left ++ r.right) ≡ true

-- A file of a form that every operation but the converter takes.
abbrev pub IsCurrent : RuleFile → Type 0
IsCurrent file = is_taken form_number file.form ≡ true

-- A file that is read is well formed, and so are the rules that it means; and it has such a form.
abbrev pub ReadableWellFormed : Type 0
ReadableWellFormed = (file : RuleFile) → IsRead file →
    WellFormedFile file × WellFormedRules (system_of file) × IsCurrent file

-- Demand 1: everything else is accepted. A well-formed file of such a form is read from its words, and from its packed
-- form where that is no longer than a file may be.
abbrev pub WellFormedFilesRead : Type 0
WellFormedFilesRead = (file : RuleFile) → IsCurrent file → WellFormedFile file →
    (length (packed file) ≤ max_bytes → (end : ℕ) × (read_bytes (packed file) ≡ got file end))
    × (read_words (unpacked file) ≡ got file (length (unpacked file)))

-- The same of the form that the converter reads, where a symbol of arity 1 weighs at least 1: what it reads is well
-- formed, and every such file is read.
abbrev pub OldWellFormed : RuleFile → Type 0
OldWellFormed file = (file.form ≡ first_form) × WellFormedFile file × NoZeroWeightUnary file.signature

abbrev pub OldFilesRead : Type 0
OldFilesRead = (file : RuleFile) →
    ((bytes : List ℕ) (end : ℕ) → read_bytes_in first_form bytes ≡ got file end → OldWellFormed file)
    × (OldWellFormed file → length (packed file) ≤ max_bytes →
    (end : ℕ) × (read_bytes_in first_form (packed file) ≡ got file end))

-- A term that is read from the front of words is the words up to where it ends; with nothing after it, all of them.
abbrev pub ReadTermWellFormed : Type 0
ReadTermWellFormed = (σ : Signature) (input nodes : List ℕ) (end : ℕ) →
    (read_first_term σ input ≡ got nodes end →
    (nodes ≡ take end input) × (end ≡ length nodes) × IsTerm σ nodes × (end ≤ length input)
    × (is_light σ (term_of σ nodes) ≡ true))
    × (read_term σ input ≡ got nodes end → (nodes ≡ input) × (end ≡ length nodes) × IsTerm σ nodes
    × (is_light σ (term_of σ nodes) ≡ true))

-- The words of a well-formed term read as they are, from the front also with words after them, unless a 129th node is
-- called for or the term is too heavy.
abbrev pub WellFormedReads : Type 0
WellFormedReads = (σ : Signature) → length σ.symbols ≤ first_variable → (t : Term) → WellFormed σ t →
    (size t ≤ max_nodes → is_light σ t ≡ true → (read_term σ (words t) ≡ got (words t) (size t))
    × ((rest : List ℕ) → read_first_term σ (words t ++ rest) ≡ got (words t) (size t)))
    × (size t ≤ max_nodes → is_light σ t ≡ false → read_term σ (words t) ≡ fault side_too_heavy 0)
    × (max_nodes < size t → read_term σ (words t) ≡ fault too_many_nodes max_nodes)

-- 02, order 8: "at its weight": where symbols are read, the field at a symbol's offset is its weight.
abbrev pub WeightsPlaced : Type 0
WeightsPlaced = (form w0 n start : ℕ) (symbols : List Symbol) (end f : ℕ) → f < length symbols →
    let weight = (symbol_of (record { w0 = w0; symbols = symbols }) f).weight in
    ((bytes : List ℕ) → symbols_reader (bit_source bytes) form w0 n [] start ≡ got symbols end →
    (next : ℕ) × ((bit_source bytes).field weight_width (weight_offset (bit_source bytes) form start symbols f)
    ≡ got weight next))
    × ((words : List ℕ) → symbols_reader (word_source words) form w0 n [] start ≡ got symbols end →
    (next : ℕ) × ((word_source words).field weight_width (weight_offset (word_source words) form start symbols f)
    ≡ got weight next))

-- A fault lies within the input, or at its end.
abbrev pub FaultsWithin : Type 0
FaultsWithin = (input : List ℕ) (code offset : ℕ) →
    (read_bytes input ≡ fault code offset → offset ≤ 8 * length input)
    × (read_words input ≡ fault code offset → offset ≤ length input)
    × ((σ : Signature) → (read_term σ input ≡ fault code offset → offset ≤ length input)
    × (read_first_term σ input ≡ fault code offset → offset ≤ length input))
