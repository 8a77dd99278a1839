-- What the code that converts has to show.
--     convert-fault, convert-short, convert-written     the reply and the output afterwards
--     refused-small                                     the offset of a refusal
--     sheet-short, sheet-begin, sheet-front, sheet-packed, sheet-bits     the sheet of the converted file, and its bits
use mathlib.Core.Path.{◌≡◌, refl, sym, ap, ◌∙◌}
use mathlib.Core.List.{List, [], ◌++◌, flat_map}
use mathlib.Core.Bool.{false≢true}
use Prim.Native.Nat.{ℕ, ◌+◌, ◌*◌, ◌/◌, ◌^◌, ◌≤◌, ◌<◌}
use native.Mathlib.Omega.{arith}
use borrow.Author.Tests.{lt-leb, le-leb}
use lib.ListN.{length, take, drop}
use lib.Seq.{sets-eq, take-append_seam}
use lib.Dec.{lit<}
use Rattle.multisets.proofs.Relations.{by_order}
use Rattle.format.specs.Errors.{bytes_too_short}
use Rattle.format.specs.Layout.{first_form, max_bytes}
use Rattle.format.specs.Reading.{Reading}
use Rattle.format.specs.Reading.Reading.{got, fault}
use Rattle.format.specs.Format.{RuleFile}
use Rattle.format.specs.Files.{read_bytes_in}
use Rattle.format.specs.Packing.{Item, item_bits, bytes_of, packed, unpacked}
use Rattle.format.specs.Conversion.{converted_file}
use Rattle.format.proofs.PackingLaws.{length-bytes_of}
use Rattle.format.proofs.FileLaws.{bytes-taken, bytes-length}
use Rattle.format.proofs.FormLaws.{taken-old}
use Rattle.format.proofs.ConversionLaws.{converted-length}
use Rattle.format.proofs.FaultLaws.{fault-small}
use Rattle.operations.specs.Replies.{Error, Reply}
use Rattle.operations.specs.Replies.Reply.{accepted, refused}
use Rattle.operations.specs.Converting.{converted}
use Rattle.symbols.specs.Table.{table_words, max_table_words}
use Rattle.sides.proofs.UnpackedLaws.{unpacked-length}
use Rattle.reader.specs.File.{stored_file}
use Rattle.reader.proofs.StoredLaws.{stored-old}
use Rattle.decoder.specs.Sheet.{SheetAt}
use Rattle.encoder.specs.Items.{bits_to}
use Rattle.encoder.proofs.ItemsLaws.{file-items}

-- ---- the reply and the output afterwards

module _ (bytes output : List ℕ) where
  pub convert-fault : (code offset : ℕ) → read_bytes_in first_form bytes ≡ fault code offset →
      (refused (record { code = code; input = 0; offset = offset }) ≡ (converted bytes output).reply)
      × (output ≡ (converted bytes output).output)
  unfolding converted
  convert-fault code offset e = (rw e, rw e)

  module _ (file : RuleFile) (end : ℕ) (e : read_bytes_in first_form bytes ≡ got file end) where
    pub convert-short : length output < length bytes →
        (refused (record { code = bytes_too_short; input = 1; offset = 0 }) ≡ (converted bytes output).reply)
        × (output ≡ (converted bytes output).output)
    unfolding converted
    convert-short h = let no = lt-leb (length bytes) (length output) h in (rw (e, no), rw (e, no))

    -- The converted file is as long as the book.
    pub as_long : length (packed (converted_file file)) ≡ length bytes
    as_long =
        converted-length file (taken-old file.form (bytes-taken first_form bytes file end e))
        ∙ bytes-length first_form bytes file end e

    pub convert-written : length bytes ≤ length output →
        (accepted (length bytes) ≡ (converted bytes output).reply)
        × (packed (converted_file file) ++ drop (length bytes) output ≡ (converted bytes output).output)
    unfolding converted
    convert-written h =
        let new = packed (converted_file file) in
        let fits = le-leb (length bytes) (length output) h in
        (rw (e, fits), rw (e, fits) (ap (λ (n : ℕ). new ++ drop n output) (sym as_long)))

refused-is : (e f : Error) → ◌≡◌ {A = Reply ℕ} (refused e) (refused f) → e ≡ f
refused-is e f h = cc

not-refused : (e : Error) (n : ℕ) → ◌≡◌ {A = Reply ℕ} (refused e) (accepted n) → ⊥
not-refused e n h = false≢true (cc)

-- It is that of a fault in the book, or 0.
pub refused-small : (bytes output : List ℕ) (error : Error) → refused error ≡ (converted bytes output).reply →
    error.offset < 10 ^ 9
refused-small bytes output error r = go (read_bytes_in first_form bytes) refl
  where
    go : (x : Reading RuleFile) → read_bytes_in first_form bytes ≡ x → error.offset < 10 ^ 9
    go (fault code offset) e =
        rw (refused-is _ _ (r ∙ sym (convert-fault bytes output code offset e).0))
        (fault-small bytes first_form code offset e)
    go (got file end) e =
        by_order (length output) (length bytes)
        (λ h. rw (refused-is _ _ (r ∙ sym (convert-short bytes output file end e h).0)) (lit< tt))
        λ h. absurd (not-refused _ _ (r ∙ sym (convert-written bytes output file end e h).0))

-- ---- the sheet of the converted file

module _ (bytes sheet stored : List ℕ) (file : RuleFile) (nodes front : ℕ)
    (parts : SheetAt bytes sheet stored file nodes front)
    (room : length bytes ≤ max_bytes → 5 * max_table_words + 8 * length bytes ≤ 5 * length sheet) where
  abbrev total : ℕ
  total = front + nodes

  pub sheet-short : total ≤ length sheet
  sheet-short = omega (arith, parts.few, room parts.short)

  module _ (end : ℕ) (read : read_bytes_in first_form bytes ≡ got file end) where
    same : stored_file file ≡ converted_file file
    same = stored-old file (bytes-taken first_form bytes file end read)

    size : total ≡ length (unpacked (converted_file file))
    size = parts.size ∙ ap (λ (f : RuleFile). length (unpacked f)) same

    pub sheet-begin : ((symbols : ℕ) × (front ≡ 4 + 4 * symbols)) × (front ≤ total)
    unfolding table_words
    sheet-begin = ((_, parts.begin), omega (arith, parts.begin, size, unpacked-length (converted_file file) refl))

    pub sheet-front : take total stored ≡ unpacked (converted_file file)
    sheet-front =
        let words = unpacked (converted_file file) in
        rw (parts.stored sheet-short, same, size, sets-eq words sheet 0 (omega (arith, size, sheet-short)))
        (take-append_seam words (drop (0 + length words) sheet))

    abbrev bits : List ℕ
    bits = bits_to (take total stored) front (length (take total stored))

    pub sheet-packed : bytes_of bits ≡ packed (converted_file file)
    unfolding packed table_words
    sheet-packed =
        rw (sheet-front, parts.begin)
        (ap (λ (is : List Item). bytes_of (flat_map item_bits is)) (file-items (converted_file file) refl))

    pub sheet-bits : length bytes ≡ (length bits + 7) / 8
    sheet-bits = sym (as_long bytes [] file end read) ∙ sym (ap length sheet-packed) ∙ length-bytes_of bits
