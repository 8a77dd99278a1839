-- What the code that reads a whole file has to show at each of its ends.
--     read-parts                                    the whole file by its form and what follows
--     both-stand, symbols-fault, head_read          what follows a header
--     sheet-head                                    a table is nothing to a sheet's head
--     rest-unread, rest-unended, rest_ended         what follows the symbols
use mathlib.Core.Path.{◌≡◌, sym, ap, ◌∙◌}
use mathlib.Core.List.{List, [], ◌∷◌}
use mathlib.Core.Bool.{true, false}
use Prim.Native.Nat.{ℕ, ◌+◌, ◌*◌, ◌^◌, ◌≤◌, ◌<◌}
use native.Mathlib.Omega.{arith}
use lib.Dec.{eqb, leb}
use lib.ListN.{length, take}
use lib.Seq.{sets, length-take-le}
use Rattle.multisets.proofs.Relations.{by_test}
use Rattle.terms.specs.Signature.{Symbol, Signature, Admissible}
use Rattle.format.specs.Errors.{no_symbols, variable_weightless}
use Rattle.format.specs.Layout.{form_width, first_form, symbol_count_width, weight_width, rule_count_width, max_bytes}
use Rattle.format.specs.Reading.{Reading, Reader, and_then, give, require, Source}
use Rattle.format.specs.Reading.Reading.{got, fault}
use Rattle.format.specs.Forms.{is_taken, form_error, has_coefficients, unused_of}
use Rattle.format.specs.Symbols.{symbol_table_reader}
use Rattle.format.specs.Format.{Sides, RuleFile, rules_reader, body_reader, file_reader}
use Rattle.format.specs.Files.{whole_reader}
use Rattle.format.proofs.ReadingLaws.{and_then-assoc, and_then-same, holds-got}
use Rattle.format.proofs.FormLaws.{taken-unused}
use Rattle.format.proofs.FormatLaws.{symbols-read, table-read}
use Rattle.format.proofs.SymbolLaws.{ones-of-plain, coefficients-of-symbols, admissible-of-symbols, fits-at}
use Rattle.format.specs.Statements.{Unscaled}
use Rattle.symbols.specs.Table.{symbols_in, form_of, signature_of, weight_of, table_words, symbols_words, front_words}
use Rattle.symbols.proofs.TableLaws.{length_symbols}
use Rattle.symbols.proofs.EntryLaws.{table-le, table-entries, signature-front, front-form, front-weight, front-words}
use Rattle.reader.specs.Source.{Input, source_of, bytes_of, Reached, InBook, InSheet, table_of, Room, Stored, tested}
use Rattle.reader.specs.Source.Input.{from_bytes, from_words}
use Rattle.reader.specs.File.{rest_reader, table_reader, counts_reader, stored_form, HeadParts, HeadRead}
use Rattle.reader.specs.declared.file.Head.{Head}
use Rattle.answers.specs.Answer.{Fault}
use Rattle.std.specs.Prelude.{Result, Ok, Err}
use Rattle.reader.proofs.SourceLaws.{tested-then, field_fits, reached-symbols, room-table, room-same}

-- ---- the whole file by its form and what follows

module _ (form : ℕ) (input : Input) where
  abbrev S : Source
  S = source_of input

  -- What may stand after a file.
  abbrev ends : RuleFile → Reader RuleFile
  ends f at = and_then (S.end at) (λ u. give f)

  body-parts : (w0 symbols rules at : ℕ) → and_then (body_reader S form w0 symbols rules at) ends ≡
      table_reader form input w0 symbols rules at
  unfolding body_reader table_reader rest_reader
  body-parts w0 symbols rules at =
      and_then-assoc (symbol_table_reader S form w0 symbols at) _ ends
      ∙ and_then-same (symbol_table_reader S form w0 symbols at) _ _
      (λ ss next. and_then-assoc (rules_reader S (unused_of form) (record { w0 = w0; symbols = ss }) rules next) _ ends)

  abbrev after_w0 : ℕ → ℕ → Reader RuleFile
  after_w0 symbols w0 at = and_then (S.field rule_count_width at) (body_reader S form w0 symbols)

  w0-parts : (symbols at : ℕ) →
      and_then (and_then (tested S weight_width (leb 1) variable_weightless at) (after_w0 symbols)) ends
      ≡ and_then (tested S weight_width (leb 1) variable_weightless at)
      (λ w0 next. and_then (S.field rule_count_width next) (table_reader form input w0 symbols))
  w0-parts symbols at =
      and_then-assoc (tested S weight_width (leb 1) variable_weightless at) (after_w0 symbols) ends
      ∙ and_then-same (tested S weight_width (leb 1) variable_weightless at) _ _ λ w0 next.
      and_then-assoc (S.field rule_count_width next) (body_reader S form w0 symbols) ends
      ∙ and_then-same (S.field rule_count_width next) _ _ (body-parts w0 symbols)

  abbrev after_count : ℕ → Reader RuleFile
  after_count symbols at =
      and_then (S.field weight_width at)
      (λ w0 next. and_then (require (leb 1 w0) variable_weightless at next) (λ _. after_w0 symbols w0))

  counts-parts : (at : ℕ) →
      and_then (and_then (S.field symbol_count_width at)
      (λ k next. and_then (require (leb 1 k) no_symbols at next) (λ _. after_count k))) ends
      ≡ counts_reader form input at
  unfolding counts_reader
  counts-parts at =
      ap (λ (r : Reading RuleFile). and_then r ends) (tested-then S symbol_count_width
      (leb 1) no_symbols at after_count)
      ∙ and_then-assoc (tested S symbol_count_width (leb 1) no_symbols at) after_count ends
      ∙ and_then-same (tested S symbol_count_width (leb 1) no_symbols at) _ _ λ k next.
      ap (λ (r : Reading RuleFile). and_then r ends)
      (tested-then S weight_width (leb 1) variable_weightless next (after_w0 k)) ∙ w0-parts k next

-- A file that a reader of that form takes.
module _ (form : ℕ) (input : Input) where
  abbrev R : Source
  R = source_of input

  pub read-parts : whole_reader form R 0 ≡ and_then (R.field form_width 0)
      (λ read next. and_then (require (is_taken form read) (form_error read) 0 next)
      (λ _. counts_reader read input))
  unfolding whole_reader file_reader
  read-parts =
      and_then-assoc (R.field form_width 0) _ (ends form input)
      ∙ and_then-same (R.field form_width 0) _ _ λ read next.
      and_then-assoc (require (is_taken form read) (form_error read) 0 next) _ (ends form input)
      ∙ and_then-same (require (is_taken form read) (form_error read) 0 next) _ _
      (λ u. counts-parts read input)

-- ---- after the header

-- Symbols that were read are admissible and have no coefficient but 1, and where they end.
symbols-admissible : (input : Input) (form w0 n at : ℕ) → has_coefficients form ≡ false →
    (ss : List Symbol) (end : ℕ) →
    symbol_table_reader (source_of input) form w0 n at ≡ got ss end → 0 < w0 → w0 < 2 ^ weight_width →
    Reached input 4 at →
    Admissible (record { w0 = w0; symbols = ss }) × Unscaled (record { w0 = w0; symbols = ss })
    × Reached input (4 + 4 * n) end
symbols-admissible input form w0 n at none ss end e positive narrow start =
    let source = source_of input in
    let fits = field_fits input in
    let (read, ranked) = holds-got _ _ ss end (table-read source fits form w0 n at) e in
    let (all, same, count, oks, spelt) = holds-got _ _ ss end (symbols-read source fits form w0 n [] at) read in
    let σ : Signature = record { w0 = w0; symbols = ss } in
    let ok = rw (sym same) at oks in
    let (reached, fit) = reached-symbols input 4 form w0 n at none ss end start read in (
      admissible-of-symbols form σ ok ranked positive,
      record {
        ones = ones-of-plain σ (λ f. (coefficients-of-symbols form σ ok ranked f).plain none);
        w0 = narrow;
        weight = λ f. (fits-at form ss fit f).1.1.0;
      },
      reached,
    )

pub stored-coefficients : (form : ℕ) → has_coefficients form ≡ false → has_coefficients (stored_form form) ≡ false
stored-coefficients form h = by_test (eqb form first_form) (λ e. rw e) λ e. rw e h

-- The words that were stored before the rules of a packed file, w0, and that its symbols have no coefficients.
front_of : (input : Input) (form w0 symbols rules : ℕ) (before table : List ℕ) →
    Stored input 0 (form ∷ symbols ∷ w0 ∷ rules ∷ symbols_words (symbols_in false (table_of input table) 0 symbols))
    before table → Room input (table_words symbols) before → has_coefficients form ≡ false →
    InSheet input (λ words. (weight_of words ≡ w0) × (has_coefficients (form_of words) ≡ false)) →
    (weight_of (table_of input table) ≡ w0) × (has_coefficients (form_of (table_of input table)) ≡ false)
    × InBook input (take (table_words symbols) table
    ≡ front_words form (record { w0 = w0; symbols = symbols_in false (table_of input table) 0 symbols }) rules)
front_of (from_bytes bytes) form w0 symbols rules before table stored room none stands =
    let ss = symbols_in false table 0 symbols in
    let σ : Signature = record { w0 = w0; symbols = ss } in
    let n : length ss ≡ symbols = length_symbols false table 0 symbols in
    let e : table ≡ sets before 0 (front_words form σ rules) =
    stored ∙ ap (λ (k : ℕ). sets before 0 (form ∷ k ∷ w0 ∷ rules ∷ symbols_words ss)) (sym n) in
    let r : table_words (length ss) ≤ length before = rw n room in (
      front-weight before table form σ rules r e,
      rw (front-form before table form σ rules r e) none,
      ap (λ (k : ℕ). take (table_words k) table) (sym n) ∙ front-words before table form σ rules r e,
    )
front_of (from_words words) form w0 symbols rules before table stored room none stands = (stands.0, stands.1, tt)

-- The form and w0 among the words of a sheet.
pub both-stand : (input : Input) (form w0 : ℕ) → InSheet input (λ words. weight_of words ≡ w0) →
    InSheet input (λ words. form_of words ≡ form) → InSheet input (λ words. (weight_of words ≡ w0) ×
    (form_of words ≡ form))
both-stand (from_bytes bytes) form w0 a b = tt
both-stand (from_words words) form w0 a b = (a, b)

plain-stands : (input : Input) (form w0 : ℕ) → has_coefficients form ≡ false →
    InSheet input (λ words. (weight_of words ≡ w0) × (form_of words ≡ form)) →
    InSheet input (λ words. (weight_of words ≡ w0) × (has_coefficients (form_of words) ≡ false))
plain-stands (from_bytes bytes) form w0 none stands = tt
plain-stands (from_words words) form w0 none stands = (stands.0, rw stands.1 none)

module _ (form : ℕ) (input : Input) (w0 symbols rules at : ℕ) where
  pub symbols-fault : (code offset : ℕ) →
      symbol_table_reader (source_of input) form w0 symbols at ≡ fault code offset →
      table_reader form input w0 symbols rules at ≡ fault code offset
  unfolding table_reader
  symbols-fault code offset e = rw e

  module _ (before table : List ℕ) where
    abbrev T : List ℕ
    T = table_of input table

    abbrev σ : Signature
    σ = record { w0 = w0; symbols = symbols_in false T 0 symbols }

    pub head_read : (next : ℕ) →
        symbol_table_reader (source_of input) form w0 symbols at ≡ got σ.symbols next →
        Stored input 0 (stored_form form ∷ symbols ∷ w0 ∷ rules ∷ symbols_words σ.symbols) before table →
        has_coefficients form ≡ false → InSheet input (λ words. (weight_of words ≡ w0) × (form_of words ≡ form)) →
        length table ≡ length before →
        Room input (table_words symbols) before → Reached input 4 at → length (bytes_of input) ≤ max_bytes →
        symbols < 256 → rules < 1024 → 0 < w0 → w0 < 2 ^ weight_width →
        (reader : ℕ) → is_taken reader form ≡ true →
        HeadParts reader input (table_reader form input w0 symbols rules at) table symbols rules
        next
    unfolding table_reader
    head_read next read stored none stands same room start short few some positive narrow reader taken =
        let (admissible, one, reached) =
        symbols-admissible input form w0 symbols at none σ.symbols next read positive narrow start in
        let within = rw (← table-entries symbols) at reached in
        let long = room-table input table (table_words symbols) next
        (room-same input _ before table same room) within in
        let (weight, layout, front) =
        front_of input (stored_form form) w0 symbols rules before table stored room
        (stored-coefficients form none) (plain-stands input form w0 none stands) in
        let e : signature_of (take (table_words symbols) T) ≡ σ = signature-front T symbols long ∙ rw
        (weight, layout) in
        record {
          form = form;
          taken = taken;
          whole = rw (read, e);
          symbol_count = rw e (sym (length_symbols false T 0 symbols));
          short = short;
          few_symbols = few;
          few_rules = some;
          decoded = record {
            short = omega (arith, length-take-le (table_words symbols) T long, table-le symbols few);
            admissible = rw e admissible;
            unscaled = rw e one;
          };
          within = within;
          front = rw e front;
        }

pub sheet-head : (reader : ℕ) (words : List ℕ) (reading : Reading RuleFile) (r : Result Head Fault)
    (table other : List ℕ) → HeadRead reader (from_words words) reading r table →
    HeadRead reader (from_words words) reading r other
sheet-head reader words reading (Ok head) table other h = record {
  form = h.form;
  taken = h.taken;
  whole = h.whole;
  symbol_count = h.symbol_count;
  short = h.short;
  few_symbols = h.few_symbols;
  few_rules = h.few_rules;
  decoded = h.decoded;
  within = h.within;
  front = h.front;
}
sheet-head reader words reading (Err f) table other h = h

-- ---- after the symbols

module _ (reader form : ℕ) (taken : is_taken reader form ≡ true) (input : Input) (σ : Signature)
    (count at : ℕ) where
  pub rest-unread : (code offset : ℕ) → rules_reader (source_of input)
      (unused_of reader) σ count at ≡ fault code offset →
      rest_reader form input σ count at ≡ fault code offset
  unfolding rest_reader
  rest-unread code offset e = rw (taken-unused reader form taken, e)

  module _ (rules : List Sides) (next : ℕ)
      (e : rules_reader (source_of input) (unused_of reader) σ count at ≡ got rules next) where
    pub rest-unended : (code offset : ℕ) → (source_of input).end next ≡ fault code offset →
        rest_reader form input σ count at ≡ fault code offset
    unfolding rest_reader
    rest-unended code offset f = rw (taken-unused reader form taken, e, f)

    pub rest_ended : (last : ℕ) → (source_of input).end next ≡ got tt last →
        rest_reader form input σ count at ≡ got (record { form = form; signature = σ; rules = rules }) last
    unfolding rest_reader
    rest_ended last f = rw (taken-unused reader form taken, e, f)
