-- Decoding and then encoding gives back the bytes, encoding and then decoding the words.
--     write-reply, write-accepts       what an accepted call has written, and when it is accepted
--     decoded-accepts, decoded-reply   decoding by the file that is read; the same for encoding
--     decode-encode, encode-decode     the round trips
use mathlib.Core.Path.{◌≡◌, refl, ap, ◌∙◌}
use mathlib.Core.List.{List}
use Prim.Native.Nat.{ℕ, ◌≤◌, ◌<◌}
use lib.ListN.{length, get_or, take, drop}
use lib.Seq.{take-append_seam}
use borrow.Author.Tests.{le-leb}
use Rattle.format.specs.Errors.{words_too_short, bytes_too_short}
use Rattle.format.specs.Layout.{form_number, max_bytes}
use Rattle.format.specs.Reading.Reading.{got}
use Rattle.format.specs.Format.{RuleFile}
use Rattle.format.specs.Files.{read_bytes, read_words}
use Rattle.format.specs.Packing.{packed, unpacked}
use Rattle.operations.specs.Replies.{Outcome, outcome}
use Rattle.operations.specs.Replies.Reply.{accepted}
use Rattle.operations.specs.Coding.{write, decoded, encoded}
use Rattle.operations.proofs.ReplyLaws.{decoded-reply, encoded-reply}
use Rattle.format.proofs.FileLaws.{bytes-readable, bytes-short, bytes_packed, words-readable, words-unpacked}
use Rattle.format.proofs.FileLaws.{packed-reads, unpacked-reads, file_bits}

-- ---- an output

-- The call is accepted, and the output starts with what it wrote.
pub record Wrote (o : Outcome ℕ) (front : List ℕ) : Type 0 where
  pub reply : o.reply ≡ accepted (length front)
  pub output : take (length front) o.output ≡ front

module _ (too_short : ℕ) (front output : List ℕ) where
  pub write-accepts : length front ≤ length output → Wrote (outcome (write too_short front output) output) front
  write-accepts h = rw (le-leb (length front) (length output) h)
      (record { reply = refl; output = take-append_seam front (drop (length front) output) })

-- ---- decoding

decoded-accepts : (bytes output : List ℕ) (file : RuleFile) (end : ℕ) → read_bytes bytes ≡ got file end →
    length (unpacked file) ≤ length output → Wrote (decoded bytes output) (unpacked file)
unfolding decoded
decoded-accepts bytes output file end e h = rw e (write-accepts words_too_short (unpacked file) output h)

-- ---- encoding

encoded-accepts : (words output : List ℕ) (file : RuleFile) (end : ℕ) → read_words words ≡ got file end →
    length (packed file) ≤ max_bytes → length (packed file) ≤ length output → Wrote (encoded words output) (packed file)
unfolding encoded
encoded-accepts words output file end e short h =
    rw (e, le-leb (length (packed file)) max_bytes short) (write-accepts bytes_too_short (packed file) output h)

-- ---- the round trips

pub decode-encode : (bytes output : List ℕ) (n : ℕ) → ((i : ℕ) → get_or bytes i 0 < 256) →
    (decoded bytes output).reply ≡ accepted n → (buffer : List ℕ) → length bytes ≤ length buffer →
    Wrote (encoded (take n (decoded bytes output).output) buffer) bytes
decode-encode bytes output n small e buffer room =
    let (file, end, r, count, fits) = decoded-reply output n bytes e in
    let same = bytes_packed form_number bytes file end r small in
    let wrote = decoded-accepts bytes output file end r fits in
    let decoded_words : take n (decoded bytes output).output ≡ unpacked file =
    ap (λ (k : ℕ). take k (decoded bytes output).output) count ∙ wrote.output in
    let reads = unpacked-reads file (bytes-readable form_number bytes file end r) in
    let short = bytes-short form_number bytes file end r in
    rw decoded_words
    (rw same at
    (encoded-accepts (unpacked file) buffer file (length (unpacked file)) reads (rw same short) (rw same room)))

pub encode-decode : (words output : List ℕ) (n : ℕ) →
    (encoded words output).reply ≡ accepted n → (buffer : List ℕ) → length words ≤ length buffer →
    Wrote (decoded (take n (encoded words output).output) buffer) words
encode-decode words output n e buffer room =
    let (file, end, r, short, count, fits) = encoded-reply output n words e in
    let same = words-unpacked words file end r in
    let wrote = encoded-accepts words output file end r short fits in
    let encoded_bytes : take n (encoded words output).output ≡ packed file =
    ap (λ (k : ℕ). take k (encoded words output).output) count ∙ wrote.output in
    let reads = packed-reads form_number file (words-readable words file end r) short in
    rw encoded_bytes
    (rw same at (decoded-accepts (packed file) buffer file (length (file_bits file)) reads (rw same room)))
