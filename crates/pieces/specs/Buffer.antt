-- Words stored in a buffer.
use Rattle.std.specs.Prelude.{List, ◌≡◌, Bool, true, false, ℕ, ◌+◌, length}
use Rattle.std.proofs.lemmas.List.Edits.{sets}

-- The buffer l with the words ws from an offset on.
pub record Stored (l : List ℕ) (at : ℕ) (ws out : List ℕ) : Type 0 where
  pub stored : out ≡ sets l at ws
  pub room : length out ≡ 48

-- The same, and the offset after them.
pub record Put (l : List ℕ) (at : ℕ) (ws : List ℕ) (end : ℕ) (out : List ℕ) : Type 0 where
  pub after : end ≡ at + length ws
  pub there : Stored l at ws out

-- Whether two lists of words are the same.
pub record Same (r : Bool) (vs ws : List ℕ) : Type 0 where
  pub yes : r ≡ true → vs ≡ ws
  pub no : r ≡ false → vs ≡ ws → ⊥
