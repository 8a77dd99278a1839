-- What the code that reads a whole file has to show at each of its ends, by the answers to its head and to its rules.
--     packed-unread, packed-unended, packed-read    a packed file
--     sheet-unread, sheet-unended, sheet-read       a sheet
use Rattle.std.specs.Prelude.{Ok, Err}
use mathlib.Core.Path.{◌≡◌, sym, ap, ◌∙◌}
use mathlib.Core.List.{List}
use mathlib.Core.Bool.{Bool, true, false}
use Prim.Native.Nat.{ℕ, ◌≤◌}
use native.Mathlib.Omega.{arith}
use borrow.Author.Tests.{eq-eqb, ne_eqb}
use lib.ListN.{length, take}
use Rattle.terms.specs.Signature.{Signature}
use Rattle.format.specs.Errors.{number_of, bad_padding, words_left_over}
use Rattle.format.specs.Layout.{form_number}
use Rattle.format.specs.Reading.{Reading, is_padding, bit_source, word_source}
use Rattle.format.specs.Reading.Reading.{got, fault}
use Rattle.format.specs.Forms.{has_coefficients, unused_of}
use Rattle.format.specs.Format.{Sides, RuleFile, rules_reader}
use Rattle.format.specs.Files.{read_bytes_in, read_words}
use Rattle.format.proofs.ReadingLaws.{holds-got}
use Rattle.format.specs.Statements.{Unscaled}
use Rattle.format.proofs.FormLaws.{taken-first, taken-coefficients}
use Rattle.format.proofs.FormatLaws.{rules-length}
use Rattle.format.proofs.FileLaws.{words-unpacked}
use Rattle.symbols.specs.Table.{signature_of, table_words, max_table_words, front_words}
use Rattle.symbols.specs.Arities.{Arities}
use Rattle.answers.specs.Answer.{Answer, end_of, Fault}
use Rattle.sides.specs.Side.{WordsRead, rules_words}
use Rattle.sides.proofs.UnpackedLaws.{unpacked-length}
use Rattle.reader.specs.declared.file.Head.{Head}
use Rattle.reader.specs.Source.{source_of, Reached, read_source}
use Rattle.reader.specs.Source.Input.{from_bytes, from_words}
use Rattle.reader.specs.File.{rest_reader, rules_in, stored_form, HeadRead, PackedRead}
use Rattle.reader.specs.File.{SheetRead}
use Rattle.reader.proofs.SourceLaws.{read-words}
use Rattle.reader.proofs.RuleLaws.{end-fault, end-got}
use Rattle.reader.proofs.NodesLaws.{nodes-fit, as_long, rules-short}
use Rattle.reader.proofs.FileLaws.{rest-unread, rest-unended, rest_ended}

module _ (form : ℕ) (bytes table before after : List ℕ) (head : Head)
    (parts : HeadRead form (from_bytes bytes) (read_bytes_in form bytes) (Ok head) table) (front : ℕ)
    (size : front ≡ table_words head.symbols) (cells : List ℕ) (a : Arities (signature_of (take front table)) cells)
    (x : Answer) (ruled : (σ : Signature) → Arities σ cells → Unscaled σ →
    WordsRead (λ (rs : List Sides). rules_words (rules_in form rs))
    (rules_reader (bit_source bytes) (unused_of form) σ head.rules head.cursor.at) 0 before x after) where
  abbrev τ : Signature
  τ = signature_of (take (table_words head.symbols) table)

  packed_whole : read_bytes_in form bytes ≡ rest_reader parts.form (from_bytes bytes) τ head.rules head.cursor.at
  packed_whole = parts.whole

  pub packed-unread : (f : Fault) → x ≡ Err f → read_bytes_in form bytes ≡ fault (number_of f.code) f.offset
  unfolding source_of
  packed-unread f g =
      packed_whole ∙ rest-unread form parts.form parts.taken (from_bytes bytes) τ head.rules head.cursor.at
      (number_of f.code) f.offset
      (rw g at (ruled τ (rw size at a) parts.decoded.unscaled))

  module _ (nodes next : ℕ) (g : x ≡ Ok (nodes, next)) (b : Bool) (p : b ≡ is_padding bytes next) where
    stored : WordsRead (λ (rs : List Sides). rules_words (rules_in form rs))
        (rules_reader (bit_source bytes) (unused_of form) τ head.rules head.cursor.at) 0 before (Ok (nodes, next)) after
    stored = rw g at (ruled τ (rw size at a) parts.decoded.unscaled)

    pub packed-unended : b ≡ false → read_bytes_in form bytes ≡ fault bad_padding next
    unfolding source_of
    packed-unended left =
        packed_whole ∙ rest-unended form parts.form parts.taken
        (from_bytes bytes) τ head.rules head.cursor.at stored.0 next
        stored.1 bad_padding next (rw (sym p ∙ left))

    pub packed-read : has_coefficients form ≡ false → b ≡ true → front ≤ max_table_words →
        PackedRead bytes (read_bytes_in form bytes) (Ok (record { front = front; nodes = nodes })) table before after
    unfolding source_of Reached
    packed-read none ended few =
        let (rs, rules_read, count, put) = stored in
        let same = taken-first form parts.form parts.taken in
        let n = rules-length (bit_source bytes) (unused_of form) τ head.rules head.cursor.at rs next rules_read in (
          record { form = parts.form; signature = τ; rules = rs },
          next,
          packed_whole ∙ rest_ended form parts.form parts.taken
              (from_bytes bytes) τ head.rules head.cursor.at rs next rules_read next
              (rw (sym p ∙ ended)),
          record {
            plain = taken-coefficients form parts.form parts.taken ∙ none;
            short = parts.short;
            size = size ∙ ap table_words parts.symbol_count;
            few = few;
            words =
                ap (λ (k : ℕ). take k table) size ∙ parts.front
                ∙ ap (front_words (stored_form parts.form) τ) (sym n);
            signature = ap (λ (k : ℕ). signature_of (take k table)) size;
            decoded = rw size parts.decoded;
            narrow = omega (
              arith,
              count,
              as_long form rs,
              nodes-fit bytes (unused_of form) τ head.rules head.cursor.at rs next rules_read parts.within,
            );
            node_count = rw same (omega (arith, count));
            stored = rw same put;
          },
        )

-- ---- a sheet

module _ (words table : List ℕ) (head : Head)
    (sheet_parts : HeadRead form_number (from_words words) (read_source form_number (from_words words)) (Ok head) table)
    (cells : List ℕ) (a : Arities (signature_of (take head.cursor.at words)) cells) (unused : ℕ)
    (u : unused ≡ unused_of form_number)
    (x : Reading ℕ) (ruled : (σ : Signature) → Arities σ cells → Unscaled σ →
    x ≡ end_of (rules_reader (word_source words) unused σ head.rules head.cursor.at)) where
  abbrev υ : Signature
  υ = signature_of (take (table_words head.symbols) words)

  sheet_whole : read_words words ≡ rest_reader sheet_parts.form (from_words words) υ head.rules head.cursor.at
  sheet_whole = sym (read-words words) ∙ sheet_parts.whole

  rules_end : end_of (rules_reader (word_source words) (unused_of form_number) υ head.rules head.cursor.at) ≡ x
  unfolding Reached
  rules_end = sym (rw u at (ruled υ (rw sheet_parts.within.0 at a) sheet_parts.decoded.unscaled))

  pub sheet-unread : (code offset : ℕ) → x ≡ fault code offset → read_words words ≡ fault code offset
  unfolding source_of
  sheet-unread code offset g =
      sheet_whole
      ∙ rest-unread form_number sheet_parts.form sheet_parts.taken
      (from_words words) υ head.rules head.cursor.at code offset
      (end-fault _ _ code offset (rules_end ∙ g))

  module _ (value next : ℕ) (g : x ≡ got value next) where
    pub sheet-unended : (next ≡ length words → ⊥) → read_words words ≡ fault words_left_over next
    unfolding source_of
    sheet-unended left =
        let (rs, rules_read, none) = end-got _ _ value next (rules_end ∙ g) in
        sheet_whole ∙ rest-unended form_number sheet_parts.form sheet_parts.taken
        (from_words words) υ head.rules head.cursor.at rs next
        rules_read words_left_over next (rw (ne_eqb next (length words) left))

    pub sheet-read : next ≡ length words → SheetRead words (read_words words) (Ok head)
    unfolding source_of Reached
    sheet-read ended =
        let (rs, rules_read, none) = end-got _ _ value next (rules_end ∙ g) in
        let file : RuleFile = record { form = sheet_parts.form; signature = υ; rules = rs } in
        let whole : read_words words ≡ got file next =
        sheet_whole ∙ rest_ended form_number sheet_parts.form sheet_parts.taken
        (from_words words) υ head.rules head.cursor.at rs next
        rules_read next (rw (eq-eqb next (length words) ended)) in
        let few = holds-got _ _ rs next (rules-short (word_source words)
        (unused_of form_number) υ head.rules head.cursor.at)
        rules_read in (
          file,
          next,
          whole,
          record {
            plain = taken-coefficients form_number sheet_parts.form sheet_parts.taken;
            symbol_count = sheet_parts.symbol_count;
            begin = sheet_parts.within.0;
            within = sheet_parts.within.1;
            short = omega (
              arith,
              ap length (words-unpacked words file next whole),
              unpacked-length file (taken-coefficients form_number sheet_parts.form sheet_parts.taken),
              few,
              sheet_parts.symbol_count,
              sheet_parts.few_symbols,
              sheet_parts.few_rules,
            );
          },
        )
