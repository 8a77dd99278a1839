-- The mark of two flattenings, by the outcomes on their high and on their low parts.
--     flat-four, -none, -five, -fewer, -six, -level      each way that it is decided
--     parted-few, joined-offsets                         the joined high part
--     high-of, low_of, high-nodes, low-nodes             the outcomes by offsets, and what falls
--     parts-four, -none, -five, -fewer, -six, -level     each way, by offsets
use mathlib.Core.List.{List, ◌++◌}
use mathlib.Core.Path.{◌≡◌, refl, sym, ap₂, ◌∙◌}
use mathlib.Core.Bool.{Bool, true, false, cond, false≢true}
use Prim.Native.Nat.{ℕ, ◌+◌, ◌≤◌, ◌<◌}
use native.Mathlib.Omega.{arith}
use lib.ListN.{length}
use borrow.Author.Tests.{lt-ltb, le-ltb, eq-eqb, ne_eqb}
use Rattle.terms.specs.Signature.{Signature}
use Rattle.terms.specs.Term.{Term, size}
use Rattle.terms.specs.Equivalence.{is_equivalent}
use Rattle.terms.specs.Order.{high_greater, high_equal, low_greater, joined_high, flattened_mark, is_greater}
use Rattle.multisets.specs.Multiset.{multiset_equal}
use Rattle.terms.specs.Order.{root_above, root_below, low_part}
use Rattle.multisets.proofs.MultisetLaws.{sum}
use Rattle.symbols.specs.Table.{signature_of}
use Rattle.equivalence.specs.Offsets.{AtOffsets, terms_at, left_at}
use Rattle.equivalence.proofs.OffsetLaws.{offsets-length}
use Rattle.extensions.specs.declared.parts.Parts.{Parts}
use Rattle.extensions.specs.declared.compare.Outcome.{Outcome}
use Rattle.extensions.specs.declared.compare.Outcome.TheVariants.{Above, Equivalent, Neither}
use Rattle.extensions.specs.Compared.{outcome_number, Parted, multiset_outcome, high_outcome, low_outcome}
use Rattle.extensions.proofs.MeasureLaws.{choose-sum, joined-sum, above-variables}

abbrev picked : Bool → Bool → ℕ
picked g e = cond g 2 (cond e 1 0)

pick_two : (g e : Bool) → picked g e ≡ 2 → g ≡ true
pick_two true e h = refl
pick_two false true h = absurd (omega arith)
pick_two false false h = absurd (omega arith)

pick_less : (g e : Bool) → (picked g e ≡ 2 → ⊥) → g ≡ false
pick_less true e h = absurd (h refl)
pick_less false e h = refl

pick-none : (g e : Bool) → picked g e ≡ 0 → (g ≡ false) × (e ≡ false)
pick-none true e h = absurd (omega arith)
pick-none false true h = absurd (omega arith)
pick-none false false h = (refl, refl)

pick-one : (g e : Bool) → (picked g e ≡ 0 → ⊥) → g ≡ false → e ≡ true
pick-one g true h d = refl
pick-one true false h d = absurd (false≢true (sym d))
pick-one false false h d = absurd (h refl)

module _ (table : List ℕ) (f : ℕ) (ss ts : List Term) where
  abbrev σ : Signature
  σ = signature_of table

  abbrev flat : ℕ
  flat = flattened_mark σ (is_equivalent σ) (is_greater σ) f ss ts

  abbrev high_g : Bool
  high_g = high_greater σ (is_equivalent σ) (is_greater σ) f ss ts

  abbrev high_e : Bool
  high_e = high_equal σ (is_equivalent σ) f ss ts

  abbrev low_g : Bool
  low_g = low_greater σ (is_equivalent σ) (is_greater σ) f ss ts

  abbrev low_e : Bool
  low_e = multiset_equal (is_equivalent σ) (low_part σ f ss) (low_part σ f ts)

  flat-four : high_outcome table f ss ts ≡ 2 → 4 ≡ flat
  unfolding multiset_outcome flattened_mark
  flat-four h = rw (pick_two high_g high_e h)

  flat-none : high_outcome table f ss ts ≡ 0 → 0 ≡ flat
  unfolding multiset_outcome flattened_mark
  flat-none h = let p = pick-none high_g high_e h in rw (p.0, p.1)

  module _ (h : high_outcome table f ss ts ≡ 2 → ⊥) (k : high_outcome table f ss ts ≡ 0 → ⊥) where
    high-less : high_g ≡ false
    unfolding multiset_outcome
    high-less = pick_less high_g high_e h

    high_same : high_e ≡ true
    unfolding multiset_outcome
    high_same = pick-one high_g high_e k high-less

    flat-five : length ts < length ss → 5 ≡ flat
    unfolding flattened_mark
    flat-five l = rw (high-less, high_same, lt-ltb (length ts) (length ss) l)

    flat-fewer : length ss < length ts → 0 ≡ flat
    unfolding flattened_mark
    flat-fewer l =
        let z : length ts ≡ length ss → ⊥ = λ e. omega arith in
        rw (high-less, high_same, le-ltb (length ts) (length ss) (omega arith), ne_eqb (length ts) (length ss) z)

    module _ (l : length ts ≡ length ss) where
      flat-six : low_outcome table f ss ts ≡ 2 → 6 ≡ flat
      unfolding flattened_mark multiset_outcome
      flat-six v =
          rw (
            high-less,
            high_same,
            le-ltb (length ts) (length ss) (omega arith),
            eq-eqb (length ts) (length ss) l,
            pick_two low_g low_e v,
          )

      flat-level : (low_outcome table f ss ts ≡ 2 → ⊥) → 0 ≡ flat
      unfolding flattened_mark multiset_outcome
      flat-level v =
          rw (
            high-less,
            high_same,
            le-ltb (length ts) (length ss) (omega arith),
            eq-eqb (length ts) (length ss) l,
            pick_less low_g low_e v,
          )

-- ---- by the offsets of the parts

module _ {σ : Signature} {f : ℕ} {ws : List ℕ} {ts : List Term} {p : Parts} (B : Parted σ f ws ts p) where
  pub parted-few : p.above.count + p.variables.count ≤ length ts
  parted-few = omega (arith, offsets-length B.high, offsets-length B.vars, above-variables σ f ts)

module _ (table : List ℕ) {f : ℕ} {s t : List ℕ} {ss ts : List Term} {p q : Parts}
    (A : Parted (signature_of table) f s ss p) (B : Parted (signature_of table) f t ts q) where
  -- The high part of the right with the variables that the left does not cancel.
  pub joined-offsets : {out : List ℕ} {r : ℕ} →
      AtOffsets (signature_of table) t out r (terms_at table t q.above.bytes q.above.count
      ++ (left_at table s p.variables.bytes p.variables.count t q.variables.bytes q.variables.count).right) →
      AtOffsets (signature_of table) t out r (joined_high (signature_of table) (is_equivalent (signature_of table)) f ss ts)
  joined-offsets h = rw (A.vars.there, B.vars.there, B.high.there) at h

  module _ {out : List ℕ} {r : ℕ}
      (J : AtOffsets (signature_of table) t out r (joined_high (signature_of table) (is_equivalent (signature_of table)) f ss
      ts)) where
    high-of : {c : ℕ} → c ≡ multiset_outcome table (terms_at table s p.above.bytes p.above.count) (terms_at table t out r) →
        c ≡ high_outcome table f ss ts
    high-of h = h ∙ ap₂ (multiset_outcome table) A.high.there J.there

    pub high-nodes : sum size (terms_at table s p.above.bytes p.above.count) + sum size (terms_at table t out r)
        ≤ sum size ss + sum size ts
    high-nodes =
        rw (A.high.there, J.there)
        (omega (arith, choose-sum size (root_above (signature_of table) f) ss, joined-sum (signature_of table) f ss ts))

  low_of : {c : ℕ} → c ≡ multiset_outcome table (terms_at table s p.below.bytes p.below.count)
      (terms_at table t q.below.bytes q.below.count) → c ≡ low_outcome table f ss ts
  low_of h = h ∙ ap₂ (multiset_outcome table) A.low.there B.low.there

  pub low-nodes : sum size (terms_at table s p.below.bytes p.below.count)
      + sum size (terms_at table t q.below.bytes q.below.count) ≤ sum size ss + sum size ts
  low-nodes =
      rw (A.low.there, B.low.there)
      (omega (
        arith,
        choose-sum size (root_below (signature_of table) f) ss,
        choose-sum size (root_below (signature_of table) f) ts,
      ))

-- ---- each way that the mark is decided, by the offsets

module _ (table : List ℕ) {f : ℕ} {s t : List ℕ} {ss ts : List Term} {p q : Parts}
    (A : Parted (signature_of table) f s ss p) (B : Parted (signature_of table) f t ts q) {out : List ℕ} {r : ℕ}
    (J : AtOffsets (signature_of table) t out r (joined_high (signature_of table) (is_equivalent (signature_of table)) f ss
    ts))
    {c : ℕ} (h : c ≡ multiset_outcome table (terms_at table s p.above.bytes p.above.count) (terms_at table t out r)) where
  high : c ≡ high_outcome table f ss ts
  high = high-of table A B J h

  pub parts-four : c ≡ 2 → 4 ≡ flat table f ss ts
  parts-four e = flat-four table f ss ts (sym high ∙ e)

  pub parts_none : c ≡ 0 → 0 ≡ flat table f ss ts
  parts_none e = flat-none table f ss ts (sym high ∙ e)

  module _ (one : c ≡ 1) where
    not-two : high_outcome table f ss ts ≡ 2 → ⊥
    not-two z = absurd (omega (arith, high, z))

    not-none : high_outcome table f ss ts ≡ 0 → ⊥
    not-none z = absurd (omega (arith, high, z))

    pub parts-five : q.all < p.all → 5 ≡ flat table f ss ts
    parts-five l = flat-five table f ss ts not-two not-none (omega (arith, A.whole, B.whole))

    pub parts-fewer : p.all < q.all → 0 ≡ flat table f ss ts
    parts-fewer l = flat-fewer table f ss ts not-two not-none (omega (arith, A.whole, B.whole))

    module _ (l : p.all ≤ q.all) (k : q.all ≤ p.all) {d : ℕ}
        (e : d ≡ multiset_outcome table (terms_at table s p.below.bytes p.below.count)
        (terms_at table t q.below.bytes q.below.count))
      where
        pub parts-six : d ≡ 2 → 6 ≡ flat table f ss ts
        parts-six g =
            flat-six table f ss ts not-two not-none (omega (arith, A.whole, B.whole)) (sym (low_of table A B e) ∙ g)

        pub parts-level : (d ≡ 2 → ⊥) → 0 ≡ flat table f ss ts
        parts-level g =
            flat-level table f ss ts not-two not-none (omega (arith, A.whole, B.whole)) (λ z. g (low_of table A B e ∙ z))

pub not-above : (o : Outcome) → (o ≡ Above → ⊥) → outcome_number o ≡ 2 → ⊥
not-above Above n e = n refl
not-above Equivalent n e = absurd (omega arith)
not-above Neither n e = absurd (omega arith)
