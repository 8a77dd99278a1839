-- Sums and products by offset, as they are stored.
--     stored_more, stored-all                  one offset after the other
--     part-sum, part-weight                    the weight of a part
--     whole-ends, whole-factor                 the whole term as a part
use mathlib.Core.List.{List}
use mathlib.Core.Path.{◌≡◌, refl, sym, ap, ◌∙◌}
use Prim.Native.Nat.{ℕ, ◌+◌, ◌-◌, ◌*◌, ◌/◌, ◌≤◌, ◌<◌}
use native.Mathlib.Nat.{mul-div_cancel_left}
use native.Mathlib.Omega.{arith}
use lib.ListN.{length, set, length-set}
use lib.Seq.{get_or-set_same, get_or-set_other}
use Rattle.multisets.proofs.Relations.{by_order}
use Rattle.terms.specs.Signature.{Signature, symbol_of}
use Rattle.terms.specs.Term.{weight}
use Rattle.subterms.specs.Parts.{part_at}
use Rattle.subterms.proofs.PartLaws.{stand-one, size_fits}
use Rattle.subterms.proofs.FormedLaws.{term-complete, term-size, term-some}
use Rattle.format.specs.Statements.{IsTerm}
use Rattle.scaling.specs.declared.sums.Offset.{Offset}
use Rattle.scaling.specs.Scaled.{limit, pending, factor_at, weight_to, offset_in, ScaledUp, Side, Ends}
use Rattle.scaling.proofs.OffsetLaws.{part-scaled, factor-within}

-- What is stored for the offsets below k.
abbrev pub StoredTo : Signature → List ℕ → List Offset → ℕ → Type 0
StoredTo σ ws sums k =
    (j : ℕ) → j < k → ((offset_in sums j).sum ≡ weight_to σ ws j) × ((offset_in sums j).product ≡ factor_at σ ws j)

module _ (σ : Signature) (ws : List ℕ) (sums : List Offset) (k sum product : ℕ) (room : length sums ≡ 129)
    (d : sum ≡ weight_to σ ws k) where
  abbrev new : Offset
  new = record { sum = sum; product = product }

  same : k < 129 → offset_in (set sums k new) k ≡ new
  same h = get_or-set_same sums k new (record { sum = 0; product = 0 }) (omega arith)

  other : (j : ℕ) → j < k → offset_in (set sums k new) j ≡ offset_in sums j
  other j l = get_or-set_other sums k j new (record { sum = 0; product = 0 }) λ q. omega arith

  pub stored_more : k < 129 → StoredTo σ ws sums k → product ≡ factor_at σ ws k → StoredTo σ ws (set sums k new) (k + 1)
  stored_more h so e j l =
      by_order j k (λ m. rw (other j m) (so j m))
      λ m. let q : j ≡ k = omega arith in rw (q, same h) (d, e)

  pub stored-all : k < 129 → k ≡ length ws → product ≡ 1 → StoredTo σ ws sums k → ScaledUp σ ws (set sums k new)
  stored-all h e o so = record {
    room = simp length-set room;
    past = rw (← e, same h) o;
    before = λ j l. by_order j k (λ m. rw (other j m) (so j m).0) λ m. let q : j ≡ k = omega arith in rw (q, same h) d;
    factor = λ j l. rw (other j (omega arith)) (so j (omega arith)).1;
  }

-- ---- a part

module _ {σ : Signature} {ws : List ℕ} {sums : List Offset} (S : Side σ ws sums) {i end : ℕ} (P : Ends σ ws i end) where
  pub part_end : end ≤ length ws
  part_end =
      let c = term-complete σ S.scaling.few S.term in
      omega (arith, P.ends, size_fits σ ws i 1 c (stand-one σ ws i P.inside) (omega arith))

  pub part-factor : (offset_in sums i).product ≡ factor_at σ ws i
  part-factor = S.stored.factor i P.inside

  pub factor-pos : (0 < (offset_in sums i).product) × ((offset_in sums i).product ≤ limit)
  factor-pos = rw part-factor (factor-within S.scaling S.term i P.inside)

  pub part-sum : (offset_in sums end).sum ≡
      (offset_in sums i).sum + (offset_in sums i).product * weight σ (part_at σ ws i)
  part-sum =
      let e = part-scaled S.scaling S.term (λ x. σ.w0) (λ f. (symbol_of σ f).weight) S.light i P.inside in
      S.stored.before end part_end ∙ ap (weight_to σ ws) P.ends ∙ e
      ∙ rw (part-factor, S.stored.before i (omega (arith, P.inside)))

  pub part-weight : ((offset_in sums end).sum - (offset_in sums i).sum) / (offset_in sums i).product ≡
      weight σ (part_at σ ws i)
  part-weight =
      let f = (offset_in sums i).product in
      let w = weight σ (part_at σ ws i) in
      let d : (offset_in sums end).sum - (offset_in sums i).sum ≡ f * w = omega (arith, part-sum) in
      rw d (mul-div_cancel_left w factor-pos.0)

-- ---- a whole term

pub whole-ends : {σ : Signature} {ws : List ℕ} → IsTerm σ ws → Ends σ ws 0 (length ws)
whole-ends p = record { inside = term-some p; ends = sym (term-size p) ∙ omega arith }

pub whole-factor : (σ : Signature) (ws : List ℕ) → factor_at σ ws 0 ≡ 1
unfolding pending
whole-factor σ ws = refl
