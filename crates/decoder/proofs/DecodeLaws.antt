-- What the code that decodes has to show.
--     stored-parts                                      two parts stored one after the other
--     word_count, words-few, nodes-few, sheet-words     a file whose words were stored in two parts
--     sheet-unstored, sheet-stored                      its sheet, where there is no room, and where there is
--     decode-fault, decode-short, decode-written        the reply and the words afterwards
use mathlib.Core.Path.{◌≡◌, refl, sym, ap, ◌∙◌}
use mathlib.Core.List.{List, ◌++◌}
use mathlib.Core.Bool.{false}
use Prim.Native.Nat.{ℕ, ◌+◌, ◌-◌, ◌*◌, ◌≤◌, ◌<◌}
use native.Mathlib.Omega.{arith}
use native.Mathlib.Nat.{zero-add}
use borrow.Author.Tests.{lt-leb, le-leb}
use lib.Dec.{eqb}
use lib.ListN.{length, length-map, length-append, take, drop}
use lib.Seq.{sets, sets-eq, take-append_seam, drop-append_seam, drop-drop, length-take-le}
use borrow.Rule.Slice.PartMut.{put_mid}
use Rattle.std.proofs.lemmas.List.{take-append-drop}
use Rattle.std.proofs.lemmas.Slice.{take-put_mid, drop-put_mid}
use Rattle.multisets.proofs.Relations.{by_test}
use Rattle.format.specs.Errors.{words_too_short}
use Rattle.format.specs.Layout.{first_form, max_bytes}
use Rattle.format.specs.Reading.{Reading}
use Rattle.format.specs.Reading.Reading.{got, fault}
use Rattle.format.specs.Format.{Sides, RuleFile}
use Rattle.format.specs.Files.{read_bytes}
use Rattle.format.specs.Forms.{has_coefficients}
use Rattle.format.specs.Packing.{unpacked}
use Rattle.operations.specs.Replies.Reply.{accepted, refused}
use Rattle.operations.specs.Coding.{decoded}
use Rattle.symbols.specs.Table.{max_table_words}
use Rattle.symbols.proofs.EntryLaws.{table-entries}
use Rattle.std.specs.Prelude.{Ok}
use Rattle.sides.specs.Side.{rules_words}
use Rattle.sides.proofs.UnpackedLaws.{unpacked-parts, unpacked-length}
use Rattle.reader.proofs.FileLaws.{stored-coefficients}
use Rattle.reader.specs.File.{PackedParts, rules_in, stored_form, stored_file}
use Rattle.decoder.specs.Sheet.{SheetRead}

-- ---- a file whose words were stored in two parts

pub stored-parts : (words first second table nodes : List ℕ) (front count : ℕ) → front ≤ length table →
    count ≤ length nodes → front + count ≤ length words → first ≡ take front table → second ≡ take count nodes →
    put_mid front (front + count - front) (first ++ drop front words) second
    ≡ sets words 0 (take front table ++ take count nodes)
stored-parts words first second table nodes front count a b room e d =
    let m : length first ≡ front = ap length e ∙ length-take-le front table a in
    let n : length second ≡ count = ap length d ∙ length-take-le count nodes b in
    let begun = first ++ drop front words in
    let within : front ≤ length begun = omega (arith, length-append first (drop front words)) in
    let taken = take-put_mid front (front + count - front) begun second (front + count) (omega arith) within
    ∙ ap (λ (l : List ℕ). l ++ second)
    (ap (λ (i : ℕ). take i begun) (sym m) ∙ take-append_seam first (drop front words)) in
    let left = drop-put_mid front (front + count - front) begun second (front + count) (omega arith) within (omega arith)
    ∙ sym (drop-drop count front begun)
    ∙ ap (drop count) (ap (λ (i : ℕ). drop i begun) (sym m) ∙ drop-append_seam first (drop front words))
    ∙ drop-drop count front words in
    let size : length (first ++ second) ≡ front + count = omega (arith, length-append first second) in
    sym (take-append-drop (front + count) (put_mid front (front + count - front) begun second))
    ∙ rw (taken, left, ← e, ← d)
    (sym (sets-eq (first ++ second) words 0 (omega arith)
    ∙ ap (λ (i : ℕ). first ++ second ++ drop i words) (zero-add (length (first ++ second)) ∙ size)))

as_many : (form : ℕ) (rules : List Sides) → length (rules_in form rules) ≡ length rules
as_many form rules = by_test (eqb form first_form) (λ e. rw e (length-map rules _)) λ e. rw e

module _ (bytes table before after : List ℕ) (file : RuleFile) (nodes front : ℕ)
    (parts : PackedParts bytes table before after file nodes front) where
  none : has_coefficients (stored_form file.form) ≡ false
  none = stored-coefficients file.form parts.plain

  word_count : front + nodes ≡ length (unpacked (stored_file file))
  word_count =
      omega (
        arith,
        parts.size,
        table-entries (length file.signature.symbols),
        parts.node_count,
        unpacked-length (stored_file file) none,
      )

  words-few : 5 * (front + nodes) ≤ 5 * max_table_words + 8 * length bytes
  words-few = omega (arith, parts.narrow, parts.few)

  -- The words were not stored, for want of room.
  pub sheet-unstored : (words : List ℕ) (end : ℕ) (reading : Reading RuleFile) → reading ≡ got file end →
      length words < front + nodes → SheetRead bytes reading (Ok (record { front = front; nodes = nodes })) words words
  sheet-unstored words end reading read short = (
    file,
    end,
    read,
    record {
      size = word_count;
      begin = parts.size;
      short = parts.short;
      few = words-few;
      stored = λ h. absurd (omega arith);
      kept = λ h. refl;
    },
  )

  module _ (room : length bytes ≤ max_bytes → 8 * length bytes ≤ 5 * length before) where
    pub nodes-few : nodes ≤ length before
    nodes-few = omega (arith, parts.narrow, room parts.short)

    nodes-front : take nodes after ≡ rules_words (rules_in file.form file.rules)
    nodes-front =
        let l = rules_words (rules_in file.form file.rules) in
        rw (parts.stored nodes-few, parts.node_count, sets-eq l before 0 (omega (arith, nodes-few, parts.node_count)))
        (take-append_seam l (drop (0 + length l) before))

    sheet-words : take front table ++ take nodes after ≡ unpacked (stored_file file)
    sheet-words = rw (
      parts.words,
      nodes-front,
      unpacked-parts (stored_file file) none,
      as_many file.form
          file.rules,
    )

    -- They were stored.
    pub sheet-stored : (words whole : List ℕ) (end : ℕ) (reading : Reading RuleFile) → reading ≡ got file end →
        front + nodes ≤ length words → whole ≡ sets words 0 (take front table ++ take nodes after) →
        SheetRead bytes reading (Ok (record { front = front; nodes = nodes })) words whole
    sheet-stored words whole end reading read fits all = (
      file,
      end,
      read,
      record {
        size = word_count;
        begin = parts.size;
        short = parts.short;
        few = words-few;
        stored = λ h. all ∙ rw sheet-words;
        kept = λ h. absurd (omega arith);
      },
    )

-- ---- the reply and the words afterwards

module _ (bytes words : List ℕ) where
  pub decode-fault : (code offset : ℕ) → read_bytes bytes ≡ fault code offset →
      (refused (record { code = code; input = 0; offset = offset }) ≡ (decoded bytes words).reply)
      × (words ≡ (decoded bytes words).output)
  unfolding decoded
  decode-fault code offset e = (rw e, rw e)

  module _ (file : RuleFile) (end : ℕ) (e : read_bytes bytes ≡ got file end) where
    pub decode-short : length words < length (unpacked file) →
        (refused (record { code = words_too_short; input = 1; offset = 0 }) ≡ (decoded bytes words).reply)
        × (words ≡ (decoded bytes words).output)
    unfolding decoded
    decode-short h =
        let no = lt-leb (length (unpacked file)) (length words) h in
        (rw (e, no), rw (e, no))

    pub decode-written : length (unpacked file) ≤ length words →
        (accepted (length (unpacked file)) ≡ (decoded bytes words).reply)
        × (sets words 0 (unpacked file) ≡ (decoded bytes words).output)
    unfolding decoded
    decode-written h =
        let fits = le-leb (length (unpacked file)) (length words) h in
        let front : sets words 0 (unpacked file) ≡ unpacked file ++ drop (length (unpacked file)) words =
        sets-eq (unpacked file) words 0 (omega arith) ∙ rw zero-add in
        (rw (e, fits), rw (e, fits) front)
