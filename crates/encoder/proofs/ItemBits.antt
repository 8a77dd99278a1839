-- Laws of the bits of a file's items.
--     symbol-bits, variable-bits               the bits of a node
--     field-bits, node-bits                    the bits of an item
--     flat-nil, bits-more, bits-le, bits_mono  the bits of the first items; an item takes at most 16
--     node_append, nodes-from                  the bits of nodes
--     pair-more, symbol-widths, fields-length  two fields more; how many bits the fields take
use mathlib.Core.List.{List, [], ◌∷◌, ◌++◌, flat_map, append-nil, append_assoc}
use mathlib.Core.Path.{◌≡◌, refl, sym, ap, ◌∙◌}
use Prim.Native.Nat.{ℕ, suc, zero, ◌+◌, ◌-◌, ◌*◌, ◌%◌, ◌≤◌, ◌<◌}
use native.Mathlib.Nat.{zero-add}
use native.Mathlib.Numerals.{add-one}
use native.Mathlib.Omega.{arith}
use lib.ListN.{length, get_or, take, drop, length-append, take-append-drop, drop_of_length-le}
use lib.Seq.{drop-cons}
use lib.Dec.{ltb}
use borrow.Author.Tests.{lt-ltb, le-ltb}
use Rattle.multisets.proofs.Relations.{by_test, by_order}
use Rattle.format.specs.Packing.{bits_of, item_bits}
use Rattle.format.specs.Packing.Item.{node}
use Rattle.encoder.specs.Items.{field_width, item_at, items_from, bits_to, node_bits}
use Rattle.encoder.proofs.ItemsLaws.{flat_append, items-add}
use Rattle.format.proofs.CodingLaws.{length-bits_of}
use Rattle.writer.proofs.BitsLaws.{bits-add, bits-same}

pub flat-nil : {A B : Type 0} (f : A → List B) → flat_map f [] ≡ []
unfolding flat_map
flat-nil f = refl

header-le : (i : ℕ) → get_or (4 ∷ 8 ∷ 16 ∷ 10 ∷ []) i 0 ≤ 16
header-le zero = omega arith
header-le (suc zero) = omega arith
header-le (suc (suc zero)) = omega arith
header-le (suc (suc (suc zero))) = omega arith
header-le (suc (suc (suc (suc i)))) = omega arith

symbol-le : (i : ℕ) → get_or (3 ∷ 1 ∷ 16 ∷ 8 ∷ []) i 0 ≤ 16
symbol-le zero = omega arith
symbol-le (suc zero) = omega arith
symbol-le (suc (suc zero)) = omega arith
symbol-le (suc (suc (suc zero))) = omega arith
symbol-le (suc (suc (suc (suc i)))) = omega arith

pub width-le : (i : ℕ) → field_width i ≤ 16
width-le i = by_test (ltb i 4) (λ e. rw e (header-le i)) λ e. rw e (symbol-le (i % 4))

-- ---- the bits of a node

pub symbol-bits : (w : ℕ) → w < 256 → item_bits (node w) ≡ bits_of 9 w
symbol-bits w k = rw (lt-ltb w 256 k) (sym (bits-add 1 8 0 w k) ∙ ap (bits_of 9) (zero-add w))

pub variable-bits : (w : ℕ) → 256 ≤ w → item_bits (node w) ≡ bits_of 5 (16 + w % 16)
variable-bits w k =
    let e : (w - 256) % 16 ≡ w % 16 % 16 = omega arith in
    rw (le-ltb w 256 k, bits-same 4 (w - 256) (w % 16) e) (sym (bits-add 1 4 1 (w % 16) (omega arith)))

node-le : (w : ℕ) → length (item_bits (node w)) ≤ 16
node-le w =
    by_order w 256 (λ k. rw (symbol-bits w k) (omega arith)) λ k. rw (variable-bits w k) (omega arith)

pub node_append : (xs ys : List ℕ) → node_bits (xs ++ ys) ≡ node_bits xs ++ node_bits ys
node_append xs ys = flat_append (λ (w : ℕ). item_bits (node w)) xs ys

-- The first nodes of the rest go over to the bits before it.
pub nodes-over : (bits rest whole first after : List ℕ) (n : ℕ) → first ≡ take n rest → after ≡ drop n rest →
    bits ++ node_bits rest ≡ whole → (bits ++ node_bits first) ++ node_bits after ≡ whole
nodes-over bits rest whole first after n s a e =
    rw (s, a)
    (append_assoc bits (node_bits (take n rest)) (node_bits (drop n rest))
    ∙ ap (λ (l : List ℕ). bits ++ l) (sym (node_append (take n rest) (drop n rest))
    ∙ ap node_bits (take-append-drop n rest))
    ∙ e)

pub node-one : (w : ℕ) → node_bits (w ∷ []) ≡ item_bits (node w)
unfolding flat_map
node-one w = append-nil (item_bits (node w))

module _ (words : List ℕ) (nodes : ℕ) where
  -- ---- the bits of an item

  pub field-bits : (i : ℕ) → i < nodes → item_bits (item_at words nodes i) ≡ bits_of (field_width i) (get_or words i 0)
  field-bits i h = rw (lt-ltb i nodes h)

  pub node-bits : (i : ℕ) → nodes ≤ i → item_bits (item_at words nodes i) ≡ item_bits (node (get_or words i 0))
  node-bits i h = rw (le-ltb i nodes h)

  item-le : (i : ℕ) → length (item_bits (item_at words nodes i)) ≤ 16
  item-le i =
      by_order i nodes
      (λ h. rw (field-bits i h, length-bits_of (field_width i) (get_or words i 0)) (width-le i))
      λ h. rw (node-bits i h) (node-le (get_or words i 0))

  -- ---- the bits of the first items

  pub bits-more : (i : ℕ) → bits_to words nodes (i + 1) ≡ bits_to words nodes i ++ item_bits (item_at words nodes i)
  unfolding flat_map
  bits-more i =
      let last = item_at words nodes i in
      ap (flat_map item_bits) (items-add words nodes 0 i 1 ∙ ap
      (λ (j : ℕ). items_from words nodes 0 i ++ (item_at words nodes j ∷ [])) (zero-add i))
      ∙ flat_append item_bits (items_from words nodes 0 i) (last ∷ [])
      ∙ ap (λ (l : List ℕ). bits_to words nodes i ++ l) (append-nil (item_bits last))

  pub length_more : (i j : ℕ) → j ≡ i + 1 →
      length (bits_to words nodes j) ≡ length (bits_to words nodes i) + length (item_bits (item_at words nodes i))
  length_more i j e =
      ap (λ (k : ℕ). length (bits_to words nodes k)) e ∙ ap length (bits-more i)
      ∙ length-append (bits_to words nodes i) (item_bits (item_at words nodes i))

  pub bits-le : (i : ℕ) → length (bits_to words nodes i) ≤ 16 * i
  unfolding flat_map
  bits-le zero = omega arith
  bits-le (suc i) = omega (arith, length_more i (suc i) (sym (add-one i)), bits-le i, item-le i)

  pub bits_mono : (i n : ℕ) → i ≤ n → length (bits_to words nodes i) ≤ length (bits_to words nodes n)
  bits_mono i n h =
      let e : n ≡ i + (n - i) = omega arith in
      let later = items_from words nodes (0 + i) (n - i) in
      let m : length (bits_to words nodes n) ≡ length (bits_to words nodes i) + length (flat_map item_bits later) =
      ap (λ (k : ℕ). length (bits_to words nodes k)) e
      ∙ ap length (ap (flat_map item_bits) (items-add words nodes 0 i (n - i))
      ∙ flat_append item_bits (items_from words nodes 0 i) later)
      ∙ length-append (bits_to words nodes i) (flat_map item_bits later) in
      omega arith

  -- Those before word i and those of all nodes from there on are all.
  pub nodes-from : (n i : ℕ) → nodes ≤ i → i + n ≡ length words →
      bits_to words nodes i ++ node_bits (drop i words) ≡ bits_to words nodes (length words)
  unfolding flat_map
  nodes-from zero i h e =
      let k : length words ≡ i = omega arith in
      rw (drop_of_length-le words {i = i} (omega arith), k) (append-nil (bits_to words nodes i))
  nodes-from (suc n) i h e =
      let w = get_or words i 0 in
      let later = node_bits (drop (suc i) words) in
      let one : bits_to words nodes (i + 1) ≡ bits_to words nodes i ++ item_bits (node w) =
      bits-more i ∙ rw (node-bits i h) in
      rw (drop-cons words i 0 (omega arith))
      (sym (append_assoc (bits_to words nodes i) (item_bits (node w)) later)
      ∙ ap (λ (l : List ℕ). l ++ later) (sym one)
      ∙ ap (λ (k : ℕ). bits_to words nodes (i + 1) ++ node_bits (drop k words)) (sym (add-one i))
      ∙ nodes-from n (i + 1) (omega arith) (omega arith))

  -- ---- the bits of the fields

  -- A field of width w more.
  pub field-more : (i j w : ℕ) → j ≡ i + 1 → i < nodes → field_width i ≡ w →
      length (bits_to words nodes j) ≡ length (bits_to words nodes i) + w
  field-more i j w e h k =
      length_more i j e ∙ rw (field-bits i h, length-bits_of (field_width i) (get_or words i 0), k)

  -- Two fields of widths m and n more.
  pub pair-more : (i m n : ℕ) → i + 1 < nodes → field_width i ≡ m → field_width (i + 1) ≡ n → bits_to words nodes (i + 2)
      ≡ (bits_to words nodes i ++ bits_of m (get_or words i 0)) ++ bits_of n (get_or words (i + 1) 0)
  pair-more i m n h e f =
      let k : i + 2 ≡ i + 1 + 1 = omega arith in
      rw (k, bits-more (i + 1), bits-more i, field-bits i (omega arith), field-bits (i + 1) h, e, f)

  pub symbol-widths : (i : ℕ) → i % 4 ≡ 0 → 4 ≤ i → (field_width i ≡ 3) × (field_width (i + 1) ≡ 1)
      × (field_width (i + 2) ≡ 16) × (field_width (i + 2 + 1) ≡ 8)
  symbol-widths i e h =
      let e₁ : (i + 1) % 4 ≡ 1 = omega arith in
      let e₂ : (i + 2) % 4 ≡ 2 = omega arith in
      let e₃ : (i + 2 + 1) % 4 ≡ 3 = omega arith in (
        rw (le-ltb i 4 h, e),
        rw (le-ltb (i + 1) 4 (omega arith), e₁),
        rw (le-ltb (i + 2) 4 (omega arith), e₂),
        rw (le-ltb (i + 2 + 1) 4 (omega arith), e₃),
      )

  header-length : 4 ≤ nodes → length (bits_to words nodes 4) ≡ 38
  unfolding flat_map
  header-length h = omega (
    arith,
    field-more 0 1 4 refl (omega arith) refl,
    field-more 1 2 8 refl (omega arith) refl,
    field-more 2 3 16 refl (omega arith) refl,
    field-more 3 4 10 refl (omega arith) refl,
  )

  symbol-more : (i : ℕ) → i % 4 ≡ 0 → 4 ≤ i → i + 4 ≤ nodes →
      length (bits_to words nodes (i + 4)) ≡ length (bits_to words nodes i) + 28
  symbol-more i e h k =
      let (arity, ac, weight, rank) = symbol-widths i e h in
      omega (
        arith,
        field-more i (i + 1) 3 refl (omega arith) arity,
        field-more (i + 1) (i + 2) 1 (omega arith) (omega arith) ac,
        field-more (i + 2) (i + 2 + 1) 16 refl (omega arith) weight,
        field-more (i + 2 + 1) (i + 4) 8 (omega arith) (omega arith) rank,
      )

  -- A header takes 38 bits, a symbol 28.
  pub fields-length : (n : ℕ) → 4 + 4 * n ≤ nodes → length (bits_to words nodes (4 + 4 * n)) ≡ 38 + 28 * n
  fields-length zero h = header-length (omega arith)
  fields-length (suc n) h =
      let e : 4 + 4 * suc n ≡ 4 + 4 * n + 4 = omega arith in
      ap (λ (k : ℕ). length (bits_to words nodes k)) e
      ∙ symbol-more (4 + 4 * n) (omega arith) (omega arith) (omega arith)
      ∙ omega (arith, fields-length n (omega arith))
