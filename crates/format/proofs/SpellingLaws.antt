-- The items that a source gives one after another, and the cells, bits or words, that spell them.
--     Fits, AllFit                  an item's value is within its width
--     ItemRead, Spells              a source gives an item, a list of items
--     spells-append, spells-split   a list in two parts
--     Agrees                        cells hold a list from an index on
--     agrees-append, agrees-split, agrees_at, agrees-of
--     Coding                        what is asked of a source whose items are runs of cells
--     spells→coded, coded→spells    a source gives items exactly where its cells hold their code
use mathlib.Core.Path.{◌≡◌}
use mathlib.Core.List.{List, [], ◌∷◌, ◌++◌, flat_map}
use Prim.Native.Nat.{ℕ, suc, zero, ◌+◌, ◌≤◌, ◌<◌, ◌^◌}
use native.Mathlib.Nat.{add-zero}
use native.Mathlib.Omega.{arith}
use lib.ListN.{length, get_or, length-append}
use Rattle.terms.specs.Term.{variable_count}
use Rattle.terms.specs.Words.{first_variable}
use Rattle.format.specs.Reading.{Source}
use Rattle.format.specs.Reading.Reading.{got}
use Rattle.format.specs.Packing.{Item}
use Rattle.format.specs.Packing.Item.{field, node}

-- ---- items

abbrev pub Fits : Item → Type 0
Fits (field width v) = v < 2 ^ width
Fits (node w) = w < first_variable + variable_count

abbrev pub AllFit : List Item → Type 0
AllFit [] = Unit {0}
AllFit (i ∷ is) = Fits i × AllFit is

pub all-fit-append : (is js : List Item) → AllFit is → AllFit js → AllFit (is ++ js)
all-fit-append [] js h k = k
all-fit-append (i ∷ is) js h k = (h.0, all-fit-append is js h.1 k)

pub all-fit-split : (is js : List Item) → AllFit (is ++ js) → AllFit is × AllFit js
all-fit-split [] js h = (tt, h)
all-fit-split (i ∷ is) js h = let (a, b) = all-fit-split is js h.1 in ((h.0, a), b)

abbrev pub ItemRead : Source → Item → ℕ → ℕ → Type 0
ItemRead source (field width v) at next = source.field width at ≡ got v next
ItemRead source (node w) at next =
    (offset : ℕ) × (source.node at ≡ got (record { word = w; offset = offset }) next)

module _ (source : Source) where
  -- The source gives the items from the one offset to the other.
  pub data Spells : List Item → ℕ → ℕ → Type 0 where
    none : {at : ℕ} → Spells [] at at
    more : {i : Item} {is : List Item} {at next end : ℕ} → ItemRead source i at next → Spells is next end →
        Spells (i ∷ is) at end

  pub spells-append : {is js : List Item} {at mid end : ℕ} → Spells is at mid → Spells js mid end →
      Spells (is ++ js) at end
  spells-append none q = q
  spells-append (more r p) q = more r (spells-append p q)

  pub spells-split : (is : List Item) {js : List Item} {at end : ℕ} → Spells (is ++ js) at end →
      (mid : ℕ) × Spells is at mid × Spells js mid end
  spells-split [] {at} p = (at, none, p)
  spells-split (i ∷ is) (more r p) = let (mid, a, b) = spells-split is p in (mid, more r a, b)

-- ---- cells

module _ (cell : ℕ → ℕ) where
  -- The cells from an index on hold the list.
  abbrev pub Agrees : ℕ → List ℕ → Type 0
  Agrees at [] = Unit {0}
  Agrees at (b ∷ bs) = (cell at ≡ b) × Agrees (suc at) bs

  pub agrees-append : (at : ℕ) (bs cs : List ℕ) → Agrees at bs → Agrees (at + length bs) cs → Agrees at (bs ++ cs)
  agrees-append at [] cs p q = rw add-zero at q
  agrees-append at (b ∷ bs) cs p q =
      let e : at + suc (length bs) ≡ suc at + length bs = omega arith in
      (p.0, agrees-append (suc at) bs cs p.1 (rw e at q))

  pub agrees-split : (at : ℕ) (bs cs : List ℕ) → Agrees at (bs ++ cs) → Agrees at bs × Agrees (at + length bs) cs
  agrees-split at [] cs p = (tt, rw add-zero p)
  agrees-split at (b ∷ bs) cs p =
      let e : at + suc (length bs) ≡ suc at + length bs = omega arith in
      let (x, y) = agrees-split (suc at) bs cs p.1 in ((p.0, x), rw e y)

  pub agrees_at : (at : ℕ) (bs : List ℕ) → Agrees at bs → (i : ℕ) → i < length bs → cell (at + i) ≡ get_or bs i 0
  agrees_at at [] p i h = absurd (omega arith)
  agrees_at at (b ∷ bs) p zero h = rw add-zero p.0
  agrees_at at (b ∷ bs) p (suc i) h =
      let e : at + suc i ≡ suc at + i = omega arith in
      rw e (agrees_at (suc at) bs p.1 i (omega arith))

  pub agrees-of : (at : ℕ) (bs : List ℕ) → ((i : ℕ) → i < length bs → cell (at + i) ≡ get_or bs i 0) → Agrees at bs
  agrees-of at [] h = tt
  agrees-of at (b ∷ bs) h =
      let first : cell (at + 0) ≡ b = h 0 (omega arith) in
      let later : (i : ℕ) → i < length bs → cell (suc at + i) ≡ get_or bs i 0 =
      λ i k. let e : suc at + i ≡ at + suc i = omega arith in rw e (h (suc i) (omega arith)) in
      (rw add-zero at first, agrees-of (suc at) bs later)

-- ---- a source over cells

-- The cells from the one offset to the other, before the limit, hold the code of an item that fits.
abbrev pub CodedAt : (ℕ → ℕ) → ℕ → (Item → List ℕ) → Item → ℕ → ℕ → Type 0
CodedAt cell limit code i at next =
    Fits i × (next ≡ at + length (code i)) × (next ≤ limit) × Agrees cell at (code i)

-- A source gives an item exactly where the cells hold its code.
pub record Coding (source : Source) (cell : ℕ → ℕ) (limit : ℕ) (code : Item → List ℕ) : Type 0 where
  pub read→code : (i : Item) (at next : ℕ) → ItemRead source i at next → CodedAt cell limit code i at next
  pub code→read : (i : Item) (at : ℕ) → Fits i → at + length (code i) ≤ limit → Agrees cell at (code i) →
      ItemRead source i at (at + length (code i))

module _ {source : Source} {cell : ℕ → ℕ} {limit : ℕ} {code : Item → List ℕ} (C : Coding source cell limit code) where
  pub spells→coded : {is : List Item} {at end : ℕ} → Spells source is at end → at ≤ limit →
      AllFit is × (end ≡ at + length (flat_map code is)) × (end ≤ limit) × Agrees cell at (flat_map code is)
  unfolding flat_map
  spells→coded {at = at} none h = (tt, omega arith, h, tt)
  spells→coded {at = at} (more {i} {is} {next = next} r p) h =
      let (f, e, l, a) = C.read→code i at next r in
      let (fs, es, ls, as') = spells→coded p l in (
        (f, fs),
        omega (arith, length-append (code i) (flat_map code is)),
        ls,
        agrees-append cell at (code i) (flat_map code is) a (rw e at as'),
      )

  pub coded→spells : (is : List Item) (at : ℕ) → AllFit is → at + length (flat_map code is) ≤ limit →
      Agrees cell at (flat_map code is) → Spells source is at (at + length (flat_map code is))
  unfolding flat_map
  coded→spells [] at fs h a = rw add-zero none
  coded→spells (i ∷ is) at fs h a =
      let n = length-append (code i) (flat_map code is) in
      let (x, y) = agrees-split cell at (code i) (flat_map code is) a in
      let e : at + length (code i ++ flat_map code is) ≡ at + length (code i) + length (flat_map code is) = omega arith in
      rw e (more (C.code→read i at fs.0 (omega arith) x)
      (coded→spells is (at + length (code i)) fs.1 (omega arith) y))
