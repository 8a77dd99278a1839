-- What listing rows asks, and what it gives.
use Rattle.std.specs.Prelude.{◌≡◌, List, Option, None, Some, ℕ, ◌+◌, ◌-◌, ◌*◌, ◌≤◌, ◌<◌, length, take, get_or}
use Rattle.std.proofs.lemmas.List.Edits.{sets}
use Rattle.terms.specs.Signature.{Signature}
use Rattle.terms.specs.Enumeration.{ground_rows}
use Rattle.enumerating.specs.declared.walk.Block.{Block}
use Rattle.enumerating.specs.Rows.{prefixed}

-- From start to end, and not past a limit, there are all rows of so many terms with so many nodes, after some front.
pub record HasRows (σ : Signature) (size : ℕ) (out : List ℕ) (limit nodes terms : ℕ) (b : Block) : Type 0 where
  pub front : List ℕ
  pub long : length front ≡ size - nodes
  pub last : b.start + length (prefixed front (ground_rows σ nodes terms)) ≡ b.end
  pub within : b.end ≤ limit
  pub words : (i : ℕ) → i < length (prefixed front (ground_rows σ nodes terms)) →
      get_or out (b.start + i) 0 ≡ get_or (prefixed front (ground_rows σ nodes terms)) i 0

-- Those blocks that are said, one for each count of nodes and of terms.
abbrev pub Blocks : Signature → ℕ → List (Option Block) → List ℕ → ℕ → Type 0
Blocks σ size blocks out limit =
    (nodes terms : ℕ) → nodes < 8 → terms < 8 → (b : Block) → get_or blocks (8 * nodes + terms) None ≡ Some b →
    HasRows σ size out limit nodes terms b

-- The blocks so far, rows that are within the size, each term with a node, and room for the rows, by 32-bit offsets.
pub record Ready (σ : Signature) (blocks : List (Option Block)) (nodes terms : ℕ) (row : List ℕ) (size : ℕ)
    (out : List ℕ) (at : ℕ) : Type 0 where
  pub known : Blocks σ size blocks out at
  pub many : length blocks ≡ 64
  pub within : nodes ≤ size
  pub small : size ≤ 7
  pub few : terms ≤ nodes
  pub owed : terms ≡ 0 → nodes ≡ 0
  pub long : length row ≡ size
  pub room : at + length (prefixed (take (size - nodes) row) (ground_rows σ nodes terms)) ≤ length out
  pub fits : at + length (prefixed (take (size - nodes) row) (ground_rows σ nodes terms)) < 4294967296

-- The rows are stored after the front of the row, which is kept, and the blocks end where they end.
pub record Walked (σ : Signature) (nodes terms : ℕ) (row : List ℕ) (size : ℕ) (out : List ℕ) (at next : ℕ)
    (blocks : List (Option Block)) (row' out' : List ℕ) : Type 0 where
  pub end : next ≡ at + length (prefixed (take (size - nodes) row) (ground_rows σ nodes terms))
  pub stored : out' ≡ sets out at (prefixed (take (size - nodes) row) (ground_rows σ nodes terms))
  pub kept : take (size - nodes) row' ≡ take (size - nodes) row
  pub long : length row' ≡ size
  pub known : Blocks σ size blocks out' next
  pub many : length blocks ≡ 64
