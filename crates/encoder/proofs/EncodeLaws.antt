-- Laws of encoding.
--     Listed, file-listed                    what words that were read say of their file
--     bytes-count                            the bytes that bits fill
--     encode-fault, encode-long, encode-short, encode-done     what encoding gives back, by the file
use mathlib.Core.List.{List, ◌++◌, flat_map}
use mathlib.Core.Path.{◌≡◌, refl, sym, ap, ◌∙◌}
use Prim.Native.Nat.{ℕ, ◌+◌, ◌*◌, ◌/◌, ◌≤◌, ◌<◌}
use native.Mathlib.Omega.{arith}
use lib.ListN.{length, drop}
use borrow.Author.Tests.{le-leb, lt-leb}
use Rattle.std.specs.Int.{div_ceil}
use Rattle.format.specs.Reading.Reading.{got, fault}
use Rattle.format.specs.Format.{RuleFile}
use Rattle.format.specs.Files.{read_words}
use Rattle.format.specs.Packing.{Item, items, item_bits, bytes_of, packed}
use Rattle.format.proofs.FileLaws.{words-unpacked}
use Rattle.format.proofs.PackingLaws.{length-bytes_of}
use Rattle.operations.specs.Replies.{Reply}
use Rattle.operations.specs.Replies.Reply.{accepted, refused}
use Rattle.operations.specs.Coding.{encoded}
use Rattle.symbols.specs.Table.{table_words}
use Rattle.reader.specs.File.{SheetParts}
use Rattle.encoder.specs.Items.{items_from, bits_to}
use Rattle.encoder.proofs.ItemsLaws.{file-items}

-- The items of a file are those of the words, where the nodes begin after the symbols; neither is large.
pub record Listed (words : List ℕ) (file : RuleFile) (symbols start : ℕ) : Type 0 where
  pub all : items file ≡ items_from words start 0 (length words)
  pub begin : start ≡ 4 + 4 * symbols
  pub within : start ≤ length words
  pub short : length words ≤ 263000

pub file-listed : (words : List ℕ) (file : RuleFile) (end symbols start : ℕ) → read_words words ≡ got file end →
    SheetParts words file symbols start → Listed words file symbols start
unfolding table_words
file-listed words file end symbols start read parts =
    let begin : start ≡ 4 + 4 * length file.signature.symbols = omega (arith, parts.begin, parts.symbol_count) in
    record {
      all = sym (file-items file parts.plain) ∙ rw (words-unpacked words file end read, begin);
      begin = parts.begin;
      within = parts.within;
      short = parts.short;
    }

pub bytes-count : (bits n count : ℕ) → n ≡ bits → count ≡ div_ceil n 8 → count ≡ (bits + 7) / 8
bytes-count bits n count same e = omega (arith, e)

-- ---- what encoding gives back

abbrev Gives : List ℕ → List ℕ → Reply ℕ → List ℕ → Type 0
Gives words bytes reply output = (reply ≡ (encoded words bytes).reply) × (output ≡ (encoded words bytes).output)

module _ (words bytes : List ℕ) where
  pub encode-fault : (code offset : ℕ) → read_words words ≡ fault code offset →
      Gives words bytes (refused (record { code = code; input = 0; offset = offset })) bytes
  unfolding encoded
  encode-fault code offset e = rw e (refl, refl)

  module _ (file : RuleFile) (end symbols start : ℕ) (read : read_words words ≡ got file end)
      (listed : Listed words file symbols start) where
    abbrev bits : List ℕ
    bits = bits_to words start (length words)

    abbrev count : ℕ
    count = (length bits + 7) / 8

    same-packed : packed file ≡ bytes_of bits
    unfolding packed
    same-packed = ap (λ (is : List Item). bytes_of (flat_map item_bits is)) listed.all

    size : length (packed file) ≡ count
    size = ap length same-packed ∙ length-bytes_of bits

    pub encode-long : 32768 < count → Gives words bytes (refused (record { code = 1; input = 0; offset = 0 })) bytes
    unfolding encoded
    encode-long l = rw (read, size, lt-leb count 32768 l) (refl, refl)

    module _ (l : count ≤ 32768) where
      pub encode-short : length bytes < count → Gives words bytes
          (refused (record { code = 16; input = 1; offset = 0 })) bytes
      unfolding encoded
      encode-short k = rw (read, size, le-leb count 32768 l, lt-leb count (length bytes) k) (refl, refl)

      pub encode-done : count ≤ length bytes → Gives words bytes (accepted count) (bytes_of bits ++ drop count bytes)
      unfolding encoded
      encode-done k =
          rw (read, size, le-leb count 32768 l, le-leb count (length bytes) k, ← same-packed)
          (refl, ap (λ (n : ℕ). packed file ++ drop n bytes) (sym size))
