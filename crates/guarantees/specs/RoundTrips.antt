-- Decoding and then encoding, and encoding and then decoding, give back what was lent. Proofs: proofs/Theorems.antt.
-- Renders: demand 2, "Opening then closing restores the bytes, and a sheet likewise its words".
use Rattle.std.specs.Prelude.{List, ◌≡◌, ℕ, ◌≤◌, ◌<◌, length, get_or, take}
use Rattle.operations.specs.Replies.Reply.{accepted}
use Rattle.operations.specs.Coding.{decoded, encoded}

-- Every accepted file, decoded to words and encoded into an output with room, gives back its bytes.
abbrev pub DecodeThenEncode : Type 0
DecodeThenEncode = (bytes output : List ℕ) (n : ℕ) → ((i : ℕ) → get_or bytes i 0 < 256) →
    (decoded bytes output).reply ≡ accepted n → (buffer : List ℕ) → length bytes ≤ length buffer →
    let back = encoded (take n (decoded bytes output).output) buffer in
    (back.reply ≡ accepted (length bytes)) × (take (length bytes) back.output ≡ bytes)

-- Every accepted list of words, encoded to bytes and decoded into an output with room, gives back its words.
abbrev pub EncodeThenDecode : Type 0
EncodeThenDecode = (input output : List ℕ) (n : ℕ) →
    (encoded input output).reply ≡ accepted n → (buffer : List ℕ) → length input ≤ length buffer →
    let back = decoded (take n (encoded input output).output) buffer in
    (back.reply ≡ accepted (length input)) × (take (length input) back.output ≡ input)
