-- What decoding and encoding give back, the reply and the output afterwards, for every input.
-- Renders: 01, "Replies and refusals": "Opening" and "Closing", with 13, 1 and 16, and "replies with the count of bytes
-- or words written".
use Rattle.std.specs.Prelude.{List, ℕ, length, leb}
use Rattle.format.specs.Errors.{file_too_long, words_too_short, bytes_too_short}
use Rattle.format.specs.Layout.{max_bytes}
use Rattle.format.specs.Packing.{packed, unpacked}
use Rattle.format.specs.Files.{read_bytes, read_words}
use Rattle.operations.specs.Replies.{Reply, Written, Outcome, ◌>>=◌, ◌>>◌, from_input, demand, outcome}
use Rattle.operations.specs.Replies.Reply.{accepted}

-- Writes at the front of an output that is input 1; that error where it is too short.
abbrev pub write : ℕ → List ℕ → List ℕ → Reply (Written ℕ)
write too_short front output = do
  demand (leb (length front) (length output)) too_short 1
  accepted (record { value = length front; front = front })

-- 01: opening a book to a sheet.
unfoldable pub decoded : List ℕ → List ℕ → Outcome ℕ
decoded bytes words =
    let reply : Reply (Written ℕ) = do
      file ← from_input 0 (read_bytes bytes)
      write words_too_short (unpacked file) words
    in
    outcome reply words

-- 01: closing a sheet to a book.
unfoldable pub encoded : List ℕ → List ℕ → Outcome ℕ
encoded words bytes =
    let reply : Reply (Written ℕ) = do
      file ← from_input 0 (read_words words)
      demand (leb (length (packed file)) max_bytes) file_too_long 0
      write bytes_too_short (packed file) bytes
    in
    outcome reply bytes
