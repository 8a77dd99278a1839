-- How many nodes the rules of a file have at most.
--     nodes-fit      a node takes five bits or more, so they are few
--     as_long        as many with the variables in order of first use
--     rules-short    a side has at most 128 nodes
use mathlib.Core.Path.{◌≡◌, refl, ap, ◌∙◌}
use mathlib.Core.List.{List, [], ◌∷◌, map, flat_map}
use Prim.Native.Nat.{ℕ, suc, zero, ◌*◌, ◌≤◌}
use native.Mathlib.Omega.{arith}
use lib.ListN.{length, length-append, length-map}
use lib.Dec.{eqb, ltb}
use Rattle.multisets.proofs.Relations.{by_test}
use Rattle.terms.specs.Signature.{Signature}
use Rattle.terms.specs.Words.{first_variable}
use Rattle.terms.specs.FirstUse.{unused_after_all}
use Rattle.format.specs.Layout.{first_form, max_nodes}
use Rattle.format.specs.Reading.{Source, bit_source}
use Rattle.format.specs.Reading.Reading.{got}
use Rattle.format.specs.Format.{Sides, side_reader, rule_reader, rules_reader}
use Rattle.format.specs.Conversion.{converted_sides}
use Rattle.format.specs.Packing.{Item, item_bits}
use Rattle.format.specs.Packing.Item.{node}
use Rattle.format.proofs.ReadingLaws.{HoldsOf, holds-got, holds_then}
use Rattle.format.proofs.SideLaws.{side-short}
use Rattle.format.proofs.ConversionLaws.{converted-words}
use Rattle.format.proofs.SpellingLaws.{spells→coded}
use Rattle.format.proofs.FormatLaws.{rules-read}
use Rattle.format.proofs.CodingLaws.{bit-coding}
use Rattle.sides.specs.Side.{side_words, rules_words}
use Rattle.sides.proofs.UnpackedLaws.{rules-items}
use Rattle.reader.specs.File.{rules_in}

node_wide : (w : ℕ) → 5 ≤ length (item_bits (node w))
node_wide w = by_test (ltb w first_variable) (λ e. rw e (omega arith)) λ e. rw e (omega arith)

nodes-wide : (ws : List ℕ) → 5 * length ws ≤ length (flat_map item_bits (map node ws))
unfolding flat_map
nodes-wide [] = omega arith
nodes-wide (w ∷ ws) =
    omega (arith, node_wide w, nodes-wide ws, length-append (item_bits (node w)) (flat_map item_bits (map node ws)))

-- The words of the rules of a file are few, for all its bits.
pub nodes-fit : (bytes : List ℕ) (unused : ℕ) (σ : Signature) (n at : ℕ) (rs : List Sides) (end : ℕ) →
    rules_reader (bit_source bytes) unused σ n at ≡ got rs end → at ≤ 8 * length bytes →
    5 * length (rules_words rs) ≤ 8 * length bytes
nodes-fit bytes unused σ n at rs end e h =
    let (count, ok, spelt) = holds-got _ _ rs end (rules-read (bit_source bytes) unused σ n at) e in
    let (fits, ends, last, agree) = spells→coded (bit-coding bytes) spelt h in
    let same = ap (λ (is : List Item). length (flat_map item_bits is)) (rules-items rs) in
    omega (arith, same, nodes-wide (rules_words rs))

same-words : (rules : List Sides) → length (rules_words (map converted_sides rules)) ≡ length (rules_words rules)
same-words [] = refl
same-words (r ∷ rules) =
    omega (
      arith,
      length-append (side_words (converted_sides r)) (rules_words (map converted_sides rules)),
      length-append (side_words r) (rules_words rules),
      ap length (converted-words r) ∙ length-map (side_words r) _,
      same-words rules,
    )

pub as_long : (form : ℕ) (rules : List Sides) → length (rules_words (rules_in form rules)) ≡ length (rules_words rules)
as_long form rules = by_test (eqb form first_form) (λ e. rw e (same-words rules)) λ e. rw e

-- A rule has at most 256 nodes.
module _ (source : Source) (unused : ℕ) (σ : Signature) where
  rule-short : (at : ℕ) → HoldsOf (λ r end. length (side_words r) ≤ 256) (rule_reader source unused σ at)
  unfolding rule_reader HoldsOf
  rule-short at =
      holds_then _ (side_reader source max_nodes unused σ at) _ λ left mid e.
      holds_then _ (side_reader source max_nodes (unused_after_all unused left) σ mid) _ λ right end f.
      simp length-append
      (omega (
        arith,
        side-short source max_nodes unused σ at left mid e,
        side-short source max_nodes (unused_after_all unused left) σ mid right end f,
      ))

  pub rules-short : (n at : ℕ) → HoldsOf (λ rs end. length (rules_words rs) ≤ 256 * n) (rules_reader source unused σ n at)
  unfolding rules_reader HoldsOf
  rules-short zero at = omega arith
  rules-short (suc n) at =
      holds_then _ (rule_reader source unused σ at) _ λ r mid e.
      holds_then _ (rules_reader source unused σ n mid) _ λ rs end f.
      let one = holds-got _ _ r mid (rule-short at) e in
      let others = holds-got _ _ rs end (rules-short n mid) f in
      rw (length-append (side_words r) (rules_words rs)) (omega arith)
