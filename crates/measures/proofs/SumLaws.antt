-- Sums by offset are those of the parts of a term.
--     AllFrom, stored-from        storing them
--     totals-before               one word more
--     nodes-part                  the words from an offset on are those of the part there and those after it
--     part-sums                   the sums of a part
use mathlib.Core.List.{List}
use mathlib.Core.Path.{◌≡◌, sym, ap, ◌∙◌}
use Prim.Native.Nat.{ℕ, suc, ◌+◌, ◌-◌, ◌≤◌, ◌<◌}
use native.Mathlib.Omega.{arith}
use lib.ListN.{length, get_or, set, drop}
use lib.Seq.{drop-cons, get_or-set_same, get_or-set_other}
use Rattle.multisets.proofs.Relations.{by_order}
use Rattle.terms.specs.Signature.{Signature, coefficients_of}
use Rattle.terms.proofs.MeasureLaws.{measure-ones}
use Rattle.terms.specs.Term.{size, weight, measure, plain}
use Rattle.subterms.specs.Parts.{part_at}
use Rattle.equivalence.specs.Keys.{Prepared, size_in}
use Rattle.subterms.proofs.PartLaws.{next, stand-one}
use Rattle.equivalence.proofs.StepLaws.{prepared-size, part_small}
use Rattle.weights.specs.declared.totals.Totals.{Totals}
use Rattle.weights.specs.Nodes.{none, stored_for, NodeTotals, nodes, at_variable, at_symbol, word_sum, term_sum}
use Rattle.weights.specs.Totals.{CanTake, taken, added, WordTotals, Counted}
use Rattle.weights.proofs.SumLaws.{totals, totals-forest}
use Rattle.weights.proofs.TotalLaws.{totals-more}
use Rattle.measures.specs.Sums.{SummedUp}

-- The sums from each offset on, as they are stored.
abbrev pub AllFrom : Signature → List ℕ → List Totals → ℕ → Type 0
AllFrom σ ws sums i = (k : ℕ) → i ≤ k → k ≤ length ws → WordTotals σ (drop k ws) (stored_for sums k)

pub stored-from : {σ : Signature} {ws : List ℕ} (sums : List Totals) (i : ℕ) {r : Totals} → i < length sums →
    WordTotals σ (drop i ws) r → AllFrom σ ws sums (i + 1) → AllFrom σ ws (set sums i r) i
stored-from sums i {r} h T m k l p =
    by_order i k (λ a. rw (get_or-set_other sums i k r none (λ e. absurd (omega arith))) (m k (omega arith) p))
    λ a. let e : k ≡ i = omega arith in rw (e, get_or-set_same sums i r none h) T

-- The sums over the words from an offset on and those of the word before it.
pub totals-before : {σ : Signature} {i : ℕ} (ws : List ℕ) {here more : Totals} → 0 < i → i ≤ length ws →
    WordTotals σ (drop i ws) here → NodeTotals σ (get_or ws (i - 1) 0) more → WordTotals σ (drop (i - 1) ws) (added here more)
totals-before {σ} {i} ws p h T M =
    let e : suc (i - 1) ≡ i = omega arith in
    rw (drop-cons ws (i - 1) 0 (omega arith), e) (totals-more T M)

-- The difference of the sums stored for offset i and for the one w after it are the sums over the part at i.
pub record PartSums (σ : Signature) (ws : List ℕ) (sums : List Totals) (i w : ℕ) : Type 0 where
  pub room : i + w < 129
  pub can_take : CanTake (stored_for sums i) (stored_for sums (i + w))
  pub weight : (taken (stored_for sums i) (stored_for sums (i + w))).weight ≡ weight σ (part_at σ ws i)
  pub counted : Counted (part_at σ ws i) (taken (stored_for sums i) (stored_for sums (i + w)))

module _ {σ : Signature} {ws keys : List ℕ} (P : Prepared σ ws keys) (i : ℕ) (h : i < length ws) where
  nodes-part : (v w : ℕ → ℕ) →
      nodes v w (drop i ws) ≡ measure plain v w (part_at σ ws i) + nodes v w (drop (i + size_in keys i) ws)
  nodes-part v w =
      sym (totals-forest σ v w (drop i ws))
      ∙ ap (totals σ v w) (next σ ws i P.complete 1 (stand-one σ ws i h) (omega arith))
      ∙ ap (λ (n : ℕ). measure plain v w (part_at σ ws i) + n) (totals-forest σ v w (drop (i + size (part_at σ ws i)) ws))
      ∙ rw (prepared-size P i h)

  module _ {sums : List Totals} (S : SummedUp σ ws sums) {w : ℕ} (d : w ≡ size_in keys i) where
    fits : i + w ≤ length ws
    fits = omega (arith, prepared-size P i h, part_small σ ws P.complete i h)

    rest : (kind : ℕ) → word_sum σ kind (drop i ws) ≡ term_sum σ kind (part_at σ ws i) + word_sum σ kind (drop (i + w) ws)
    rest kind = rw d (nodes-part (at_variable σ kind) (at_symbol σ kind))

    pub part-sums : PartSums σ ws sums i w
    part-sums =
        let a = S.sum i (omega arith) in
        let b = S.sum (i + w) fits in
        let x = rest 0 in
        let y = rest 1 in
        let z = rest 2 in
        let one = measure-ones (coefficients_of σ) (at_variable σ 0) (at_symbol σ 0) S.ones (part_at σ ws i) in
        record {
          room = omega (arith, fits, P.short);
          can_take = record {
            weight = omega (arith, a.weight, b.weight);
            low = omega (arith, a.low, b.low);
            high = omega (arith, a.high, b.high);
          };
          weight = omega (arith, a.weight, b.weight, one);
          counted = record {
            low = omega (arith, a.low, b.low);
            high = omega (arith, a.high, b.high);
            short = omega (arith, fits, prepared-size P i h, P.short);
          };
        }
