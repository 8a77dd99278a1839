-- Lists of offsets of parts, and what the AC-equivalence test answers of parts.
use Rattle.std.specs.Prelude.{List, [], ◌∷◌, map, Bool, true, false, ◌≡◌, ℕ, suc, zero, ◌≤◌, ◌<◌, length, get_or, take, Option, Some, None}
use Rattle.multisets.specs.Multiset.{Rest, cancel, row_equal, multiset_equal}
use Rattle.terms.specs.Signature.{Signature}
use Rattle.terms.specs.Term.{Term}
use Rattle.terms.specs.Equivalence.{is_equivalent}
use Rattle.symbols.specs.Table.{signature_of}
use Rattle.subterms.specs.Parts.{part_at, parts_at, elements_at}

-- The first m of offsets are offsets in ws, and the terms there are ts.
pub record AtOffsets (σ : Signature) (ws offsets : List ℕ) (m : ℕ) (ts : List Term) : Type 0 where
  pub room : length offsets ≡ 64
  pub few : m ≤ 64
  pub inside : (k : ℕ) → k < m → get_or offsets k 0 < length ws
  pub there : map (part_at σ ws) (take m offsets) ≡ ts

-- The first number below m that passes the test; m where none does.
pub record First (p : ℕ → Bool) (m r : ℕ) : Type 0 where
  pub within : r ≤ m
  pub before : (k : ℕ) → k < r → p k ≡ false
  pub found : r < m → p r ≡ true

-- The index of the first number below m that passes the test.
abbrev pub Found : (ℕ → Bool) → ℕ → Option ℕ → Type 0
Found p m None = First p m m
Found p m (Some r) = (r < m) × First p m r

-- The list less the element at an index.
abbrev pub deleted : ℕ → List ℕ → List ℕ
deleted k [] = []
deleted zero (a ∷ l) = l
deleted (suc k) (a ∷ l) = a ∷ deleted k l

module _ (table : List ℕ) where
  -- What the test answers of the terms at two offsets, of the n terms there, of a flattening and a list.
  abbrev pub alike_at : List ℕ → ℕ → List ℕ → ℕ → Bool
  alike_at s i t j = is_equivalent (signature_of table) (part_at (signature_of table) s i) (part_at (signature_of table) t j)

  abbrev pub rows_alike : List ℕ → ℕ → List ℕ → ℕ → ℕ → Bool
  rows_alike s i t j n =
      row_equal (is_equivalent (signature_of table)) (parts_at (signature_of table) s i n)
      (parts_at (signature_of table) t j n)

  abbrev pub elements_alike : ℕ → List ℕ → ℕ → ℕ → List Term → Bool
  elements_alike f s i n ts = multiset_equal (is_equivalent (signature_of table)) (elements_at (signature_of table) f s i n)
      ts

  -- The terms at the first m of offsets.
  abbrev pub terms_at : List ℕ → List ℕ → ℕ → List Term
  terms_at ws offsets m = map (part_at (signature_of table) ws) (take m offsets)

  -- The first m of offsets are offsets in ws.
  abbrev pub OffsetsIn : List ℕ → List ℕ → ℕ → Type 0
  OffsetsIn ws offsets m = AtOffsets (signature_of table) ws offsets m (terms_at ws offsets m)

  -- What is left of the terms at the n offsets ps and at the m offsets qs once equivalent pairs are cancelled.
  abbrev pub left_at : List ℕ → List ℕ → ℕ → List ℕ → List ℕ → ℕ → Rest Term
  left_at s ps n t qs m = cancel (is_equivalent (signature_of table)) (terms_at s ps n) (terms_at t qs m)
