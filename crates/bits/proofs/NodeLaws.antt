-- Fields and nodes of a packed file as its reader gets them.
--     field-got, field-missing      a field that fits, and one that does not
--     node-got, node-cut, node-none a node from nine bits, one whose number does not fit, one that has no tag
--     word-by-tag, width-by-tag     a node's word and width by its tag, with no test
--     word_lt, tag-first            a node's word is below 272; its tag is the first of its bits
use mathlib.Core.Path.{◌≡◌, sym, ◌∙◌}
use mathlib.Core.List.{List}
use Prim.Native.Nat.{ℕ, ◌+◌, ◌*◌, ◌-◌, ◌/◌, ◌%◌, ◌^◌, ◌≤◌, ◌<◌}
use native.Mathlib.Nat.{add_assoc, add-zero, zero-add}
use native.Mathlib.Omega.{arith}
use lib.ListN.{length, get_or}
use borrow.Author.Tests.{le-leb, lt-leb, lt-ltb, le-ltb}
use Rattle.format.specs.Errors.{field_missing}
use Rattle.multisets.proofs.Relations.{by_order}
use Rattle.format.specs.Reading.{spelt, bit_at, bit_field, bit_source}
use Rattle.format.specs.Reading.Reading.{got, fault}
use Rattle.format.proofs.CodingLaws.{bit-lt, spelt-lt, spelt-add}
use Rattle.bits.specs.Cursor.{node_width, node_word}

-- The word and the width by the first of the nine bits, with no test.
pub word-by-tag : (n : ℕ) → n < 512 → n / 2 ^ (4 * (n / 256)) + 240 * (n / 256) ≡ node_word n
word-by-tag n h =
    by_order n 256
    (λ l. let tag : n / 256 ≡ 0 = omega arith in rw (tag, lt-ltb n 256 l) (omega arith))
    λ l. let tag : n / 256 ≡ 1 = omega arith in rw (tag, le-ltb n 256 l)

pub width-by-tag : (n : ℕ) → n < 512 → 9 - 4 * (n / 256) ≡ node_width n
width-by-tag n h =
    by_order n 256
    (λ l. let tag : n / 256 ≡ 0 = omega arith in rw (tag, lt-ltb n 256 l))
    λ l. let tag : n / 256 ≡ 1 = omega arith in rw (tag, le-ltb n 256 l)

pub word_lt : (n : ℕ) → n < 512 → node_word n < 272
word_lt n h = by_order n 256 (λ l. rw (lt-ltb n 256 l) (omega arith)) λ l. rw (le-ltb n 256 l) (omega arith)

pub width-le : (n : ℕ) → node_width n ≤ 9
width-le n = by_order n 256 (λ h. rw (lt-ltb n 256 h) (omega arith)) λ h. rw (le-ltb n 256 h) (omega arith)

module _ (bytes : List ℕ) where
  bits-lt : (at n : ℕ) → spelt (bit_at bytes) at n < 2 ^ n
  bits-lt = spelt-lt (bit_at bytes) (bit-lt bytes)

  pub field-got : (width at : ℕ) → at + width ≤ 8 * length bytes →
      bit_field bytes width at ≡ got (spelt (bit_at bytes) at width) (at + width)
  unfolding bit_field
  field-got width at h = rw (le-leb _ _ h)

  pub field-missing : (width at : ℕ) → 8 * length bytes < at + width → bit_field bytes width at ≡ fault field_missing at
  unfolding bit_field
  field-missing width at h = rw (lt-leb _ _ h)

  module _ (at n : ℕ) (e : spelt (bit_at bytes) at 9 ≡ n) where
    halves : n ≡ spelt (bit_at bytes) at 1 * 256 + spelt (bit_at bytes) (at + 1) 8
    halves = sym e ∙ spelt-add (bit_at bytes) at 1 8

    -- The first of the nine bits.
    pub tag-first : get_or bytes (at / 8) 0 / 2 ^ (7 - at % 8) % 2 ≡ n / 256
    tag-first =
        let one : spelt (bit_at bytes) at 1 ≡ get_or bytes (at / 8) 0 / 2 ^ (7 - at % 8) % 2 = rw (add-zero, zero-add) in
        sym one ∙ omega (arith, halves, bits-lt (at + 1) 8)

    quarters : spelt (bit_at bytes) (at + 1) 8 ≡ spelt (bit_at bytes) (at + 1) 4 * 16 + spelt (bit_at bytes) (at + 1 + 4) 4
    quarters = spelt-add (bit_at bytes) (at + 1) 4 4

    -- What the tag and the number are, by the nine bits.
    symbol-bits : n < 256 → (spelt (bit_at bytes) at 1 ≡ 0) × (spelt (bit_at bytes) (at + 1) 8 ≡ n)
    symbol-bits h = omega (arith, halves)

    variable-bits : 256 ≤ n → (spelt (bit_at bytes) at 1 ≡ 1) × (256 + spelt (bit_at bytes) (at + 1) 4 ≡ n / 16 + 240)
    variable-bits h =
        omega (arith, halves, quarters, bits-lt at 1, bits-lt (at + 1) 8, bits-lt (at + 1 + 4) 4)

    pub node-got : at + node_width n ≤ 8 * length bytes →
        (bit_source bytes).node at ≡ got (record { word = node_word n; offset = at + 1 }) (at + node_width n)
    node-got fits =
        by_order n 256
        (λ h.
        let f : at + 9 ≤ 8 * length bytes = rw (lt-ltb n 256 h) at fits in
        let (tag, number) = symbol-bits h in
        rw (lt-ltb n 256 h, field-got 1 at (omega arith), tag, field-got 8 (at + 1) (omega arith), number, add_assoc))
        λ h.
        let f : at + 5 ≤ 8 * length bytes = rw (le-ltb n 256 h) at fits in
        let (tag, number) = variable-bits h in
        rw (le-ltb n 256 h, field-got 1 at (omega arith), tag, field-got 4 (at + 1) (omega arith), number, add_assoc)

    pub node-cut : at < 8 * length bytes → 8 * length bytes < at + node_width n →
        (bit_source bytes).node at ≡ fault field_missing (at + 1)
    node-cut begun cut =
        by_order n 256
        (λ h.
        let f : 8 * length bytes < at + 9 = rw (lt-ltb n 256 h) at cut in
        rw (field-got 1 at (omega arith), (symbol-bits h).0, field-missing 8 (at + 1) (omega arith)))
        λ h.
        let f : 8 * length bytes < at + 5 = rw (le-ltb n 256 h) at cut in
        rw (field-got 1 at (omega arith), (variable-bits h).0, field-missing 4 (at + 1) (omega arith))

  pub node-none : (at : ℕ) → 8 * length bytes ≤ at → (bit_source bytes).node at ≡ fault field_missing at
  node-none at h = rw (field-missing 1 at (omega arith))
