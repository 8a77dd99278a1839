-- Text put into a list of bytes.
use Rattle.std.specs.Prelude.{List, ◌≡◌, ℕ, ◌+◌, length}
use Rattle.std.proofs.lemmas.List.Edits.{sets}
use Rattle.text.specs.declared.Text.{Text}

-- The index past a text that is stored at an index of l, and the list afterwards.
abbrev pub Put : List ℕ → ℕ → List ℕ → ℕ → List ℕ → Type 0
Put l at text r out = (r ≡ at + length text) × (out ≡ sets l at text)

-- Bytes put after the text so far, in the same buffer.
pub record Pushed (before : Text) (bytes : List ℕ) (after : Text) : Type 0 where
  pub same : after.out.ghost_name ≡ before.out.ghost_name
  pub put : Put before.out.now before.end bytes after.end after.out.now
