-- What an accepted reply says of a call that writes at the front of its output.
--     demand-reply, from-reply, write-reply              step by step
--     decoded-reply, encoded-reply, converted-reply      what was read, and that there is room for what is written
use mathlib.Core.Path.{◌≡◌, refl}
use mathlib.Core.List.{List}
use mathlib.Core.Bool.{Bool, true, false, false≢true}
use Prim.Native.Nat.{ℕ, ◌≤◌}
use lib.ListN.{length}
use lib.Dec.{leb}
use borrow.Author.Tests.{leb-true}
use Rattle.format.specs.Errors.{words_too_short, bytes_too_short, file_too_long}
use Rattle.format.specs.Layout.{first_form, max_bytes}
use Rattle.format.specs.Reading.{Reading}
use Rattle.format.specs.Reading.Reading.{got, fault}
use Rattle.format.specs.Format.{RuleFile}
use Rattle.format.specs.Files.{read_bytes_in, read_bytes, read_words}
use Rattle.format.specs.Packing.{packed, unpacked}
use Rattle.operations.specs.Replies.{Reply, Written, ◌>>=◌, ◌>>◌, from_input, demand, outcome}
use Rattle.operations.specs.Replies.Reply.{accepted}
use Rattle.operations.specs.Coding.{write, decoded, encoded}
use Rattle.operations.specs.Converting.{converted}

module _ (output : List ℕ) (n : ℕ) where
  demand-reply : (ok : Bool) (code input : ℕ) (r : Reply (Written ℕ)) →
      (outcome (◌>>◌ (demand ok code input) r) output).reply ≡ accepted n →
      (ok ≡ true) × ((outcome r output).reply ≡ accepted n)
  demand-reply true code input r e = (refl, e)
  demand-reply false code input r e = absurd (false≢true (cc))

  -- An accepted call has read a file, and is accepted with what follows.
  from-reply : (r : Reading RuleFile) (k : RuleFile → Reply (Written ℕ)) →
      (outcome (◌>>=◌ (from_input 0 r) k) output).reply ≡ accepted n →
      (file : RuleFile) × (end : ℕ) × (r ≡ got file end) × ((outcome (k file) output).reply ≡ accepted n)
  from-reply (got file end) k e = (file, end, refl, e)
  from-reply (fault code offset) k e = absurd (false≢true (cc))

  write-reply : (too_short : ℕ) (front : List ℕ) → (outcome (write too_short front output) output).reply ≡ accepted n →
      (n ≡ length front) × (length front ≤ length output)
  write-reply too_short front e =
      let (room, same) = demand-reply (leb (length front) (length output)) too_short 1 _ e in
      (cc, leb-true (length front) (length output) room)

  pub decoded-reply : (bytes : List ℕ) → (decoded bytes output).reply ≡ accepted n →
      (file : RuleFile) × (end : ℕ) × (read_bytes bytes ≡ got file end) × (n ≡ length (unpacked file)) ×
      (length (unpacked file) ≤ length output)
  unfolding decoded
  decoded-reply bytes e =
      let (file, end, r, a) = from-reply (read_bytes bytes) _ e in
      let (count, room) = write-reply words_too_short (unpacked file) a in
      (file, end, r, count, room)

  pub encoded-reply : (words : List ℕ) → (encoded words output).reply ≡ accepted n →
      (file : RuleFile) × (end : ℕ) × (read_words words ≡ got file end) × (length (packed file) ≤ max_bytes) ×
      (n ≡ length (packed file)) × (length (packed file) ≤ length output)
  unfolding encoded
  encoded-reply words e =
      let (file, end, r, a) = from-reply (read_words words) _ e in
      let (short, b) = demand-reply (leb (length (packed file)) max_bytes) file_too_long 0 _ a in
      let (count, room) = write-reply bytes_too_short (packed file) b in
      (file, end, r, leb-true (length (packed file)) max_bytes short, count, room)

  pub converted-reply : (bytes : List ℕ) → (converted bytes output).reply ≡ accepted n →
      (n ≡ length bytes) × (length bytes ≤ length output)
  unfolding converted
  converted-reply bytes e =
      let (file, end, r, a) = from-reply (read_bytes_in first_form bytes) _ e in
      let (room, same) = demand-reply (leb (length bytes) (length output)) bytes_too_short 1 _ a in
      (cc, leb-true (length bytes) (length output) room)
