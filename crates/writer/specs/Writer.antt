-- What bytes and the state of a bit writer say of the bits written.
use Rattle.std.specs.Prelude.{List, [], ◌∷◌, ◌≡◌, ℕ, ◌+◌, ◌*◌, ◌/◌, ◌%◌, ◌^◌, ◌<◌, length, get_or}
use Rattle.format.specs.Reading.{spelt}
use Rattle.writer.specs.declared.BitWriter.{BitWriter}

-- The eight bits of a number before its last k.
abbrev pub byte_before : ℕ → ℕ → ℕ
byte_before k n = n / 2 ^ k % 256

-- The bytes of a number of 64 bits.
abbrev pub eight_bytes : ℕ → List ℕ
eight_bytes n =
    byte_before 56 n ∷ byte_before 48 n ∷ byte_before 40 n ∷ byte_before 32 n ∷
    byte_before 24 n ∷ byte_before 16 n ∷ byte_before 8 n ∷ byte_before 0 n ∷
    []

-- The number that eight of those bits spell, from bit 8 n on.
abbrev pub byte_of : List ℕ → ℕ → ℕ
byte_of bits n = spelt (λ (i : ℕ). get_or bits i 0) (8 * n) 8

-- Of those bits the whole bytes that are stored stand at the front of the bytes, and the others wait: they are the last
-- bits of the pending number. What the bytes after those stored hold is left open.
pub record Writes (bits : List ℕ) (w : BitWriter) (bytes : List ℕ) : Type 0 where
  pub binary : (i : ℕ) → get_or bits i 0 < 2
  pub total : length bits ≡ 8 * w.stored + w.count
  pub waiting : w.pending % 2 ^ w.count ≡ spelt (λ (i : ℕ). get_or bits i 0) (8 * w.stored) w.count
  pub front : (n : ℕ) → n < w.stored → get_or bytes n 0 ≡ byte_of bits n
