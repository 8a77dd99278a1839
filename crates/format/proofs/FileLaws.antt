-- What a file that is read from bytes or from words is, and that each form of such a file reads as it.
--     Readable                        the tests of reading, and every value within its width
--     source-read, source-reads       both directions over any source of cells
--     bytes-readable, bytes-taken, bytes-length, bytes_packed    a file read from bytes is readable, of a form that is
--                                     taken, and packed it is those bytes
--     words-readable, words-unpacked  the same for words
--     packed-reads, unpacked-reads    the forms of a readable file read as it
use mathlib.Core.Path.{◌≡◌, refl, sym, ap, ◌∙◌}
use mathlib.Core.List.{List, [], ◌∷◌, map, flat_map}
use mathlib.Core.Bool.{true, ◌&&◌, and-eq-true_iff as both}
use Prim.Native.Nat.{ℕ, ◌+◌, ◌-◌, ◌*◌, ◌/◌, ◌^◌, ◌≤◌, ◌<◌}
use native.Mathlib.Nat.{zero-add}
use native.Mathlib.Omega.{arith}
use lib.ListN.{length, get_or, get_or-eq_default}
use lib.Seq.{ext_get_or}
use lib.Dec.{eqb, ltb, leb}
use borrow.Author.Tests.{ltb-true, leb-true, eqb-true, lt-ltb, le-leb, eq-eqb}
use Rattle.multisets.proofs.Relations.{by_test, by_order}
use Rattle.format.specs.Layout.{form_number, max_bytes}
use Rattle.format.specs.Forms.{is_taken}
use Rattle.format.specs.Reading.{Source, spelt, bit_at, bit_source, word_source}
use Rattle.format.specs.Reading.Reading.{got}
use Rattle.format.specs.Format.{RuleFile, file_reader}
use Rattle.format.specs.Files.{whole_reader, read_bytes_in, read_words}
use Rattle.format.specs.Packing.{Item, items, item_word, item_bits, bytes_of, packed, unpacked}
use Rattle.format.specs.Packing.Item.{field, node}
use Rattle.format.proofs.ReadingLaws.{HoldsOf, holds-got, holds_then, holds-require}
use Rattle.format.proofs.SpellingLaws.{AllFit, Agrees, agrees_at, agrees-of, Coding, spells→coded}
use Rattle.format.proofs.SpellingLaws.{coded→spells}
use Rattle.format.proofs.FormatLaws.{FileOk, file-read, file-reads}
use Rattle.format.proofs.CodingLaws.{word_at, word-coding, bit-coding}
use Rattle.format.proofs.PackingLaws.{items-bits, length-bytes_of, bit_at-bytes_of, Padded, padded-zero}
use Rattle.format.proofs.PackingLaws.{zero-padded, bytes_of-bit_at}

-- By a reader of that form.
pub record Readable (form : ℕ) (f : RuleFile) : Type 0 where
  pub ok : FileOk form f
  pub fits : AllFit (items f)

-- ---- any source

module _ {source : Source} {cell : ℕ → ℕ} {limit : ℕ} {code : Item → List ℕ} (C : Coding source cell limit code)
    (form : ℕ) where
  -- A file read from the start is readable, and the cells hold its code.
  pub source-read : (f : RuleFile) (end : ℕ) → file_reader form source 0 ≡ got f end →
      Readable form f × (end ≡ length (flat_map code (items f))) × (end ≤ limit)
      × Agrees cell 0 (flat_map code (items f))
  source-read f end e =
      let field_fits : (width at v next : ℕ) → source.field width at ≡ got v next → v < 2 ^ width =
      λ width at v next r. (C.read→code (field width v) at next r).0 in
      let (ok, p) = holds-got _ _ f end (file-read source field_fits form 0) e in
      let (fits, ends, l, a) = spells→coded C p (omega arith) in
      (record { ok = ok; fits = fits }, omega arith, l, a)

  pub source-reads : (f : RuleFile) → Readable form f → length (flat_map code (items f)) ≤ limit →
      Agrees cell 0 (flat_map code (items f)) →
      file_reader form source 0 ≡ got f (length (flat_map code (items f)))
  source-reads f r l a =
      let n = length (flat_map code (items f)) in
      let p = coded→spells C (items f) 0 r.fits (omega arith) a in
      file-reads source form f 0 n r.ok (rw (zero-add n) at p)

-- ---- words

one_each : (is : List Item) → flat_map (λ i. item_word i ∷ []) is ≡ map item_word is
unfolding flat_map
one_each [] = refl
one_each (i ∷ is) = ap (◌∷◌ (item_word i)) (one_each is)

pub nodes-each : (ws : List ℕ) → flat_map (λ i. item_word i ∷ []) (map node ws) ≡ ws
unfolding flat_map
nodes-each [] = refl
nodes-each (w ∷ ws) = ap (◌∷◌ w) (nodes-each ws)

words-read : (words : List ℕ) →
    HoldsOf (λ f end. (file_reader form_number (word_source words) 0 ≡ got f end) × (end ≡ length words)) (read_words words)
unfolding read_words whole_reader HoldsOf
words-read words =
    holds_then _ (file_reader form_number (word_source words) 0) _ λ f end e.
    holds-require _ (eqb end (length words)) _ end end _ λ t.
    (e, eqb-true end (length words) t)

module _ (words : List ℕ) (f : RuleFile) (end : ℕ) (e : read_words words ≡ got f end) where
  pub words-readable : Readable form_number f
  words-readable = (source-read (word-coding words) form_number f end (holds-got _ _ f end (words-read words) e).0).0

  pub words-unpacked : unpacked f ≡ words
  unfolding unpacked
  words-unpacked =
      let (r, whole) = holds-got _ _ f end (words-read words) e in
      let (x, ends, l, a) = source-read (word-coding words) form_number f end r in
      let a' : Agrees (word_at words) 0 (map item_word (items f)) = rw (one_each (items f)) at a in
      let n : length (map item_word (items f)) ≡ length words = rw (← one_each (items f)) (sym ends ∙ whole) in
      ext_get_or 0 (map item_word (items f)) words n
      λ i h. sym (agrees_at (word_at words) 0 (map item_word (items f)) a' i h) ∙ ap (word_at words) (zero-add i)

pub unpacked-reads : (f : RuleFile) → Readable form_number f → read_words (unpacked f) ≡ got f (length (unpacked f))
unfolding read_words whole_reader unpacked
unpacked-reads f r =
    let ws = map item_word (items f) in
    let same : flat_map (λ i. item_word i ∷ []) (items f) ≡ ws = one_each (items f) in
    let a = agrees-of (word_at ws) 0 ws (λ i h. ap (word_at ws) (zero-add i)) in
    let e : file_reader form_number (word_source ws) 0 ≡ got f (length ws) =
    rw same at (source-reads (word-coding ws) form_number f r (rw same (omega arith)) (rw same a)) in
    rw (e, eq-eqb (length ws) (length ws) refl)

-- ---- bytes

abbrev pub file_bits : RuleFile → List ℕ
file_bits f = flat_map item_bits (items f)

bytes_read : (form : ℕ) (bytes : List ℕ) → HoldsOf (λ (f : RuleFile) (end : ℕ).
    (file_reader form (bit_source bytes) 0 ≡ got f end) × (length bytes ≤ max_bytes) × Padded bytes end)
    (read_bytes_in form bytes)
unfolding read_bytes_in whole_reader HoldsOf
bytes_read form bytes =
    by_test (leb (length bytes) max_bytes)
    (λ short.
    rw short
    (holds_then _ (file_reader form (bit_source bytes) 0) _ λ f end e.
    let left = 8 * length bytes - end in
    let zeros = eqb (spelt (bit_at bytes) end left) 0 in
    holds-require _ (ltb left 8 && zeros) _ end end _ λ t.
    let (a, b) = (both (ltb left 8) _).0 t in
    (e, leb-true (length bytes) max_bytes short, (ltb-true left 8 a, eqb-true (spelt (bit_at bytes) end left) 0 b))))
    λ long. rw long tt

module _ (form : ℕ) (bytes : List ℕ) (f : RuleFile) (end : ℕ) (e : read_bytes_in form bytes ≡ got f end) where
  pub bytes-readable : Readable form f
  bytes-readable = (source-read (bit-coding bytes) form f end (holds-got _ _ f end (bytes_read form bytes) e).0).0

  pub bytes-taken : is_taken form f.form ≡ true
  bytes-taken = bytes-readable.ok.form_taken

  pub bytes-short : length bytes ≤ max_bytes
  bytes-short = (holds-got _ _ f end (bytes_read form bytes) e).1

  bits-length : length bytes ≡ (length (file_bits f) + 7) / 8
  bits-length =
      let (r, short, pad) = holds-got _ _ f end (bytes_read form bytes) e in
      let (x, ends, l, a) = source-read (bit-coding bytes) form f end r in
      omega (arith, pad.0)

  pub bytes-length : length (packed f) ≡ length bytes
  unfolding packed
  bytes-length = length-bytes_of (file_bits f) ∙ sym bits-length

  pub bytes_packed : ((j : ℕ) → get_or bytes j 0 < 256) → packed f ≡ bytes
  unfolding packed
  bytes_packed small =
      let bits = file_bits f in
      let (r, short, pad) = holds-got _ _ f end (bytes_read form bytes) e in
      let (x, ends, l, a) = source-read (bit-coding bytes) form f end r in
      let same : (i : ℕ) → bit_at bytes i ≡ get_or bits i 0 =
      λ i. by_order i (length bits)
      (λ h. ap (bit_at bytes) (sym (zero-add i)) ∙ agrees_at (bit_at bytes) 0 bits a i h)
      λ h. padded-zero bytes end pad i (omega arith) ∙ sym (get_or-eq_default bits 0 h) in
      bytes_of-bit_at bits bytes small bits-length same

pub packed-reads : (form : ℕ) (f : RuleFile) → Readable form f → length (packed f) ≤ max_bytes →
    read_bytes_in form (packed f) ≡ got f (length (file_bits f))
unfolding read_bytes_in whole_reader packed
packed-reads form f r short =
    let bits = file_bits f in
    let bytes = bytes_of bits in
    let n = length-bytes_of bits in
    let cells = bit_at-bytes_of bits (items-bits (items f)) in
    let a = agrees-of (bit_at bytes) 0 bits (λ i h. ap (bit_at bytes) (zero-add i) ∙ cells i) in
    let e = source-reads (bit-coding bytes) form f r (omega arith) a in
    let (few, zeros) = zero-padded bytes (length bits) (omega arith)
    (λ i h. cells i ∙ get_or-eq_default bits 0 h) in
    rw (le-leb (length bytes) max_bytes short, e, lt-ltb (8 * length bytes - length bits) 8 few, zeros)
