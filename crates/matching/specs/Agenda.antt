-- The pieces of a term that are yet to be matched, as nodes that lie in a list.
use Rattle.std.specs.Prelude.{List, [], ◌∷◌, ◌++◌, ◌≡◌, true, ℕ, suc, zero, ◌+◌, ◌≤◌, ◌<◌, length, get_or}
use Rattle.terms.specs.Signature.{Signature, symbol_of}
use Rattle.terms.specs.Term.{Term}
use Rattle.simplifying.specs.Masks.{masked}
use Rattle.equivalence.specs.Keys.{size_in}
use Rattle.pieces.specs.Pieces.{elements_of, piece_at, IsPiece}
use Rattle.matching.specs.declared.nodes.Node.{Node}

-- A whole part, or the sum of two elements or more of an AC symbol's flattening.
pub record IsPending (σ : Signature) (ws : List ℕ) (i mask : ℕ) : Type 0 where
  pub is_piece : IsPiece σ ws i mask
  pub ac : 0 < mask → (symbol_of σ (get_or ws i 0)).ac ≡ true
  pub apart : 0 < mask → 2 ≤ length (masked mask (elements_of σ ws i))

module _ (nodes : List Node) where
  abbrev pub node_at : ℕ → Node
  node_at k = get_or nodes k (record { offset = 0; mask = 0; next = 0 })

  -- The piece's offset and mask of the node of an index, and the index of the node after it.
  abbrev pub offset_in : ℕ → ℕ
  offset_in k = (node_at k).offset

  abbrev pub mask_in : ℕ → ℕ
  mask_in k = (node_at k).mask

  abbrev pub next_in : ℕ → ℕ
  next_in k = (node_at k).next

module _ (σ : Signature) (ws : List ℕ) (nodes : List Node) where
  -- The pieces of n nodes, from an index on.
  abbrev pub pending_at : ℕ → ℕ → List Term
  pending_at zero k = []
  pending_at (suc n) k = piece_at σ ws (offset_in nodes k) (mask_in nodes k) ∷ pending_at n (next_in nodes k)

  -- They are pieces, and each node lies below the one before it, the first below the index free.
  abbrev pub ArePending : ℕ → ℕ → ℕ → Type 0
  ArePending zero k free = Unit {0}
  ArePending (suc n) k free =
      (k < free) × IsPending σ ws (offset_in nodes k) (mask_in nodes k) × ArePending n (next_in nodes k) k

-- The nodes below an index are as they were.
abbrev pub KeptBelow : List Node → List Node → ℕ → Type 0
KeptBelow old new n = (k : ℕ) → k < n → node_at new k ≡ node_at old k

-- The nodes below the index free are as they were.
pub record KeptNodes (old : List Node) (free : ℕ) (new : List Node) : Type 0 where
  pub same : KeptBelow old new free
  pub room : length new ≡ 32

-- A node is stored at the index free, and those below it are as they were.
pub record Pushed (old : List Node) (free i mask next : ℕ) (new : List Node) : Type 0 where
  pub offset_stored : offset_in new free ≡ i
  pub mask_stored : mask_in new free ≡ mask
  pub next_stored : next_in new free ≡ next
  pub kept : KeptBelow old new free
  pub room : length new ≡ 32

-- From the index r on n terms are pending, and after them what was pending from the index head on.
pub record Extended (σ : Signature) (ws : List ℕ) (old : List Node) (free n head : ℕ) (new : List Node) (r : ℕ)
    (ts : List Term) : Type 0 where
  pub kept : KeptNodes old free new
  pub pending : (owed : ℕ) → ArePending σ ws old owed head free → ArePending σ ws new (n + owed) r (free + n)
  pub terms : (owed : ℕ) → ArePending σ ws old owed head free →
      pending_at σ ws new (n + owed) r ≡ ts ++ pending_at σ ws old owed head

-- The offsets of n terms, by their keys, lie within the keys.
abbrev pub InKeys : List ℕ → ℕ → ℕ → Type 0
InKeys keys i zero = Unit {0}
InKeys keys i (suc n) = (i < 128) × InKeys keys (i + size_in keys i) n
