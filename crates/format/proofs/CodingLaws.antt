-- The two sources as runs of cells: the words of a file, and its bits.
--     word-coding    an item is one word
--     spelt-first, spelt-add, spelt-lt, spelt-same, spelt→agrees, agrees→spelt    the number that bits spell
--     bit-coding     an item is the bits of its number, after a node's tag
--     spells-fit     items that are read from bits fit
use mathlib.Core.Path.{◌≡◌, refl, sym, ap, ◌∙◌}
use mathlib.Core.List.{List, [], ◌∷◌, ◌++◌}
use mathlib.Core.Bool.{cond}
use Prim.Native.Nat.{ℕ, suc, zero, ◌+◌, ◌-◌, ◌*◌, ◌/◌, ◌%◌, ◌^◌, ◌≤◌, ◌<◌}
use native.Mathlib.Nat.{mod-lt, mod-one, pow-suc, mul_assoc, add-zero, add-suc, add_assoc, mod-eq_of_lt}
use native.Mathlib.Omega.{arith}
use lib.ListN.{length, get_or}
use lib.Dec.{eqb, ltb, leb, lit<}
use lib.Pow.{pow_pos, mod-pow-add, high, low}
use lib.Arith.{digits_lt}
use borrow.Author.Tests.{ltb-true, ltb-false, leb-true, lt-ltb, le-leb, le-ltb}
use Rattle.multisets.proofs.Relations.{by_test}
use Rattle.terms.specs.Term.{variable_count}
use Rattle.terms.specs.Words.{first_variable}
use Rattle.format.specs.Layout.{tag_width, symbol_width, variable_width}
use Rattle.format.specs.Reading.{spelt, bit_at, bit_field, bit_source, word_below, word_source}
use Rattle.format.specs.Reading.Reading.{got}
use Rattle.format.specs.Packing.{Item, item_word, bits_of, item_bits}
use Rattle.format.specs.Packing.Item.{field, node}
use Rattle.format.proofs.ReadingLaws.{HoldsOf, holds-got, holds_then}
use Rattle.format.proofs.SpellingLaws.{Fits, AllFit, Spells, ItemRead, Agrees, agrees-split, CodedAt, Coding}
use Rattle.format.proofs.SpellingLaws.Spells.{none, more}

-- ---- words

module _ (ws : List ℕ) where
  abbrev pub word_at : ℕ → ℕ
  word_at i = get_or ws i 0

  abbrev WordRead : ℕ → ℕ → ℕ → ℕ → Type 0
  WordRead bound at v next = (v < bound) × (next ≡ at + 1) × (next ≤ length ws) × Agrees word_at at (v ∷ [])

  word_read : (bound at : ℕ) → HoldsOf (WordRead bound at) (word_below ws bound at)
  unfolding word_below HoldsOf
  word_read bound at =
      by_test (ltb at (length ws))
      (λ e.
      let l = ltb-true at (length ws) e in
      by_test (ltb (get_or ws at 0) bound)
      (λ f. rw (e, f) (ltb-true (get_or ws at 0) bound f, refl, omega arith, (refl, tt)))
      λ f. rw (e, f) tt)
      λ e. rw e tt

  word-reads : (bound at v : ℕ) → v < bound → at + 1 ≤ length ws → Agrees word_at at (v ∷ []) →
      word_below ws bound at ≡ got v (at + 1)
  unfolding word_below
  word-reads bound at v h l a =
      rw (lt-ltb at (length ws) (omega arith), a.0, lt-ltb v bound h)

  word-node : (at : ℕ) →
      HoldsOf (λ v next. WordRead (first_variable + variable_count) at v.word next) ((word_source ws).node at)
  unfolding HoldsOf
  word-node at =
      let bound = first_variable + variable_count in
      holds_then _ (word_below ws bound at) _ λ w next e. holds-got _ _ w next (word_read bound at) e

  pub word-coding : Coding (word_source ws) word_at (length ws) (λ i. item_word i ∷ [])
  word-coding = record { read→code = coded; code→read = read }
    where
      coded : (i : Item) (at next : ℕ) → ItemRead (word_source ws) i at next →
          CodedAt word_at (length ws) (λ i. item_word i ∷ []) i at next
      coded (field width v) at next e = holds-got _ _ v next (word_read (2 ^ width) at) e
      coded (node w) at next (offset, e) =
          holds-got _ _ (record { word = w; offset = offset }) next (word-node at) e

      read : (i : Item) (at : ℕ) → Fits i → at + 1 ≤ length ws → Agrees word_at at (item_word i ∷ []) →
          ItemRead (word_source ws) i at (at + 1)
      read (field width v) at h l a = word-reads (2 ^ width) at v h l a
      read (node w) at h l a = (at, rw (word-reads (first_variable + variable_count) at w h l a))

-- ---- the number that bits spell

module _ (bit : ℕ → ℕ) where
  pub spelt-first : (at n : ℕ) → spelt bit at (suc n) ≡ bit at * 2 ^ n + spelt bit (suc at) n
  spelt-first at zero = rw (add-zero at) (omega arith)
  spelt-first at (suc n) =
      let ih : spelt bit at (suc n) ≡ bit at * 2 ^ n + spelt bit (suc at) n = spelt-first at n in
      let e : at + suc n ≡ suc at + n = omega arith in
      let d : bit at * 2 ^ suc n ≡ bit at * 2 ^ n * 2 = rw pow-suc (sym (mul_assoc (bit at) (2 ^ n) 2)) in
      rw (ih, e, d) (omega arith)

  -- Bits one after the other.
  pub spelt-add : (at m n : ℕ) → spelt bit at (m + n) ≡ spelt bit at m * 2 ^ n + spelt bit (at + m) n
  spelt-add at m zero = rw add-zero (omega arith)
  spelt-add at m (suc n) =
      rw (add-suc, spelt-add at m n, add_assoc at m n, pow-suc 2 n)
      (omega (arith, mul_assoc (spelt bit at m) (2 ^ n) 2))

  pub spelt-lt : ((i : ℕ) → bit i < 2) → (at n : ℕ) → spelt bit at n < 2 ^ n
  spelt-lt small at zero = lit< tt
  spelt-lt small at (suc n) = rw (pow-suc 2 n) (digits_lt (spelt-lt small at n) (small (at + n)))

  pub agrees→spelt : (at n v : ℕ) → Agrees bit at (bits_of n v) → spelt bit at n ≡ v % 2 ^ n
  agrees→spelt at zero v a = sym (mod-one v)
  agrees→spelt at (suc n) v a =
      let ih : spelt bit (suc at) n ≡ v % 2 ^ n = agrees→spelt (suc at) n v a.1 in
      let e : 1 + n ≡ suc n = omega arith in
      spelt-first at n ∙ rw (a.0, ih) (sym (mod-pow-add v 1 n) ∙ ap (λ (k : ℕ). v % 2 ^ k) e)

  pub spelt→agrees : ((i : ℕ) → bit i < 2) → (at n v : ℕ) → spelt bit at n ≡ v % 2 ^ n → Agrees bit at (bits_of n v)
  spelt→agrees small at zero v h = tt
  spelt→agrees small at (suc n) v h =
      let e : suc n ≡ 1 + n = omega arith in
      let b = v / 2 ^ n % 2 in
      let same : bit at * 2 ^ n + spelt bit (suc at) n ≡ b * 2 ^ n + v % 2 ^ n =
      sym (spelt-first at n) ∙ h ∙ ap (λ (k : ℕ). v % 2 ^ k) e ∙ mod-pow-add v 1 n in
      let lo = spelt-lt small (suc at) n in
      let lv = mod-lt v (pow_pos n) in
      let rest = sym (low (bit at) n lo) ∙ ap (λ (k : ℕ). k % 2 ^ n) same ∙ low b n lv in
      (sym (high (bit at) n lo) ∙ ap (λ (k : ℕ). k / 2 ^ n) same ∙ high b n lv, spelt→agrees small (suc at) n v rest)

pub spelt-same : (bit cit : ℕ → ℕ) (at to n : ℕ) → ((i : ℕ) → i < n → bit (at + i) ≡ cit (to + i)) →
    spelt bit at n ≡ spelt cit to n
spelt-same bit cit at to zero h = refl
spelt-same bit cit at to (suc n) h =
    rw (spelt-same bit cit at to n (λ i l. h i (omega arith)), h n (omega arith))

pub length-bits_of : (n v : ℕ) → length (bits_of n v) ≡ n
length-bits_of zero v = refl
length-bits_of (suc n) v = ap suc (length-bits_of n v)

-- ---- bits

module _ (bytes : List ℕ) where
  pub bit-lt : (i : ℕ) → bit_at bytes i < 2
  bit-lt i = mod-lt _ (lit< tt)

  abbrev BitCoded : Item → ℕ → ℕ → Type 0
  BitCoded = CodedAt (bit_at bytes) (8 * length bytes) item_bits

  bit-read : (width at : ℕ) → HoldsOf (λ v next. BitCoded (field width v) at next) (bit_field bytes width at)
  unfolding bit_field HoldsOf
  bit-read width at =
      let v = spelt (bit_at bytes) at width in
      let lt = spelt-lt (bit_at bytes) bit-lt at width in
      let a = spelt→agrees (bit_at bytes) bit-lt at width v (sym (mod-eq_of_lt lt)) in
      by_test (leb (at + width) (8 * length bytes))
      (λ e. rw e (lt, rw (length-bits_of width v), leb-true (at + width) (8 * length bytes) e, a))
      λ e. rw e tt

  bit-reads : (width at v : ℕ) → v < 2 ^ width → at + width ≤ 8 * length bytes →
      Agrees (bit_at bytes) at (bits_of width v) → bit_field bytes width at ≡ got v (at + width)
  unfolding bit_field
  bit-reads width at v h l a =
      let e : spelt (bit_at bytes) at width ≡ v = agrees→spelt (bit_at bytes) at width v a ∙ mod-eq_of_lt h in
      rw (le-leb (at + width) (8 * length bytes) l, e)

  -- A node from its tag and its number.
  tagged : (tag at at₁ number next : ℕ) → BitCoded (field tag_width tag) at at₁ →
      BitCoded (field (cond (eqb tag 0) symbol_width variable_width) number) at₁ next →
      BitCoded (node (cond (eqb tag 0) number (first_variable + number))) at next
  tagged zero at at₁ number next (t, e, l, a) (h, f, m, b) =
      let after : at₁ ≡ suc at = omega arith in
      rw (lt-ltb number first_variable h) (omega arith, omega arith, m, (a.0, rw after at b))
  tagged (suc zero) at at₁ number next (t, e, l, a) (h, f, m, b) =
      let after : at₁ ≡ suc at = omega arith in
      let back : first_variable + number - first_variable ≡ number = omega arith in
      rw (le-ltb (first_variable + number) first_variable (omega arith), back)
      (omega arith, omega arith, m, (a.0, rw after at b))
  tagged (suc (suc n)) at at₁ number next (t, e, l, a) c = absurd (omega arith)

  bit-node : (at : ℕ) → HoldsOf (λ v next. BitCoded (node v.word) at next) ((bit_source bytes).node at)
  unfolding HoldsOf
  bit-node at =
      holds_then _ (bit_field bytes tag_width at) _ λ tag at₁ e₁.
      let width = cond (eqb tag 0) symbol_width variable_width in
      holds_then _ (bit_field bytes width at₁) _ λ number next e₂.
      let t = holds-got _ _ tag at₁ (bit-read tag_width at) e₁ in
      tagged tag at at₁ number next t (holds-got _ _ number next (bit-read width at₁) e₂)

  node-reads : (tag number at : ℕ) → let width = cond (eqb tag 0) symbol_width variable_width in
      tag < 2 ^ tag_width → number < 2 ^ width → at + (tag_width + width) ≤ 8 * length bytes →
      Agrees (bit_at bytes) at (bits_of tag_width tag ++ bits_of width number) →
      (bit_source bytes).node at ≡
      got (record { word = cond (eqb tag 0) number (first_variable + number); offset = at + tag_width })
      (at + (tag_width + width))
  node-reads tag number at t h l a =
      let width = cond (eqb tag 0) symbol_width variable_width in
      let (x, y) = agrees-split (bit_at bytes) at (bits_of tag_width tag) (bits_of width number) a in
      let e : at + tag_width + width ≡ at + (tag_width + width) = omega arith in
      let first = bit-reads tag_width at tag t (omega arith) x in
      rw (first, bit-reads width (at + tag_width) number h (omega arith) y, e)

  pub bit-coding : Coding (bit_source bytes) (bit_at bytes) (8 * length bytes) item_bits
  bit-coding = record { read→code = coded; code→read = read }
    where
      coded : (i : Item) (at next : ℕ) → ItemRead (bit_source bytes) i at next → BitCoded i at next
      coded (field width v) at next e = holds-got _ _ v next (bit-read width at) e
      coded (node w) at next (offset, e) =
          holds-got _ _ (record { word = w; offset = offset }) next (bit-node at) e

      read : (i : Item) (at : ℕ) → Fits i → at + length (item_bits i) ≤ 8 * length bytes →
          Agrees (bit_at bytes) at (item_bits i) → ItemRead (bit_source bytes) i at (at + length (item_bits i))
      read (field width v) at h l a =
          rw (length-bits_of width v) (bit-reads width at v h (rw (length-bits_of width v) at l) a)
      read (node w) at h l a =
          by_test (ltb w first_variable)
          (λ e. rw e (at + tag_width, node-reads 0 w at (lit< tt) (ltb-true w first_variable e) (rw e at l) (rw e at a)))
          λ e.
          let k = ltb-false w first_variable e in
          let back : first_variable + (w - first_variable) ≡ w = omega arith in
          let r = node-reads 1 (w - first_variable) at (lit< tt) (omega arith) (rw e at l) (rw e at a) in
          rw e (at + tag_width, rw back at r)

-- What is read from bits fits.
pub spells-fit : (bytes : List ℕ) {is : List Item} {at end : ℕ} → Spells (bit_source bytes) is at end → AllFit is
spells-fit bytes none = tt
spells-fit bytes (more {i} {is} {at} {next} r p) = (((bit-coding bytes).read→code i at next r).0, spells-fit bytes p)
