-- The agenda: nodes stored after others, and what is pending.
--     same_nodes, nodes-then             nodes as they were
--     kept-pending                       what is pending stays so where later words change
--     extended_none, extended-more       no term before what is pending, and one more
--     sums-extended                      two pieces of a flattening
--     terms-more                         the terms that stand at an offset, from the last to the first
--     keys-next, in-keys                 their offsets
use mathlib.Core.List.{List, [], ◌∷◌, ◌++◌}
use mathlib.Core.Path.{◌≡◌, refl, sym, ap, ◌∙◌, subst}
use Prim.Native.Nat.{ℕ, suc, zero, ◌+◌, ◌-◌, ◌≤◌, ◌<◌}
use native.Mathlib.Omega.{arith}
use native.Mathlib.Nat.{add-zero, suc-add}
use lib.ListN.{length, get_or}
use mathlib.Core.Bool.{true}
use Rattle.terms.specs.Signature.{Signature, symbol_of}
use Rattle.terms.specs.Term.{Term}
use Rattle.subterms.specs.Parts.{part_at, parts_at, Stands}
use Rattle.equivalence.specs.Keys.{Prepared, size_in}
use Rattle.equivalence.proofs.StepLaws.{row_next, prepared-size, step-next}
use Rattle.pieces.specs.Pieces.{piece_at, IsNormal}
use Rattle.matching.specs.declared.nodes.Node.{Node}
use Rattle.matching.specs.Agenda.{IsPending, offset_in, mask_in, next_in, pending_at, ArePending, KeptBelow, Pushed}
use Rattle.matching.specs.Agenda.{KeptNodes}
use Rattle.matching.specs.Agenda.{Extended, InKeys}

-- ---- nodes as they were

pub same_nodes : (l : List Node) (free : ℕ) → length l ≡ 32 → KeptNodes l free l
same_nodes l free e = record { same = λ k h. refl; room = e }

pub nodes-then : {old mid new : List Node} {free after : ℕ} → KeptNodes old free mid → KeptNodes mid after new →
    free ≤ after → KeptNodes old free new
nodes-then h k l = record { same = λ i j. k.same i (omega arith) ∙ h.same i j; room = k.room }

module _ (σ : Signature) (ws : List ℕ) where
  -- ---- what is pending

  pub pending-count : (nodes : List Node) (n k free : ℕ) → ArePending σ ws nodes n k free → n ≤ free
  pending-count nodes zero k free a = omega arith
  pending-count nodes (suc n) k free (l, p, a) = omega (arith, pending-count nodes n (next_in nodes k) k a)

  pub kept-pending : (old new : List Node) (n k free : ℕ) → KeptBelow old new free → ArePending σ ws old n k free →
      ArePending σ ws new n k free × (pending_at σ ws new n k ≡ pending_at σ ws old n k)
  kept-pending old new zero k free h a = (tt, refl)
  kept-pending old new (suc n) k free h (l, p, a) =
      let e : offset_in new k ≡ offset_in old k = ap (λ (n : Node). n.offset) (h k (omega arith)) in
      let d : mask_in new k ≡ mask_in old k = ap (λ (n : Node). n.mask) (h k (omega arith)) in
      let g : next_in new k ≡ next_in old k = ap (λ (n : Node). n.next) (h k (omega arith)) in
      let (b, s) = kept-pending old new n (next_in old k) k (λ j m. h j (omega arith)) a in
      (rw (e, d, g) (l, p, b), rw (e, d, g) (ap (◌∷◌ (piece_at σ ws (offset_in old k) (mask_in old k))) s))

  module _ (old : List Node) (free head : ℕ) where
    pub extended_none : length old ≡ 32 → Extended σ ws old free 0 head old head []
    extended_none e = record {
      kept = same_nodes old free e;
      pending = λ owed a. let e : 0 + owed ≡ owed = omega arith in rw (e, add-zero) a;
      terms = λ owed a. let e : 0 + owed ≡ owed = omega arith in rw e;
    }

    module _ (mid new : List Node) (n rest i mask : ℕ) (ts : List Term) (X : Extended σ ws old free n head mid rest ts)
        (P : Pushed mid (free + n) i mask rest new) (I : IsPending σ ws i mask) where
      more-pending : (owed : ℕ) → ArePending σ ws old owed head free →
          ArePending σ ws new (suc (n + owed)) (free + n) (free + suc n) ×
          (pending_at σ ws new (suc (n + owed)) (free + n) ≡ (piece_at σ ws i mask ∷ ts) ++ pending_at σ ws old owed head)
      more-pending owed a =
          let (b, s) = kept-pending mid new (n + owed) rest (free + n) P.kept (X.pending owed a) in
          let l : free + n < free + suc n = omega arith in (
            rw (P.offset_stored, P.mask_stored, P.next_stored) (l, I, b),
            rw (P.offset_stored, P.mask_stored, P.next_stored) (ap (◌∷◌ (piece_at σ ws i mask)) (s ∙ X.terms owed a)),
          )

      pub extended-more : Extended σ ws old free (suc n) head new (free + n) (piece_at σ ws i mask ∷ ts)
      extended-more = record {
        kept = record { same = λ k h. P.kept k (omega arith) ∙ X.kept.same k h; room = P.room };
        pending = λ owed a. rw suc-add (more-pending owed a).0;
        terms = λ owed a. rw suc-add (more-pending owed a).1;
      }

  -- ---- two pieces of a flattening

  normal-pending : (i mask offset rest : ℕ) → (symbol_of σ (get_or ws i 0)).ac ≡ true →
      IsNormal σ ws i mask offset rest → IsPending σ ws offset rest
  normal-pending i mask offset rest c n = record {
    is_piece = n.is_piece;
    ac = λ p. rw (n.own p) c;
    apart = n.apart;
  }

  pub sums-extended : (old mid new : List Node) (free head i mask rest : ℕ) → length old ≡ 32 →
      (symbol_of σ (get_or ws i 0)).ac ≡ true → (offset other : ℕ) → IsNormal σ ws i rest offset other →
      Pushed old free offset other head mid →
      (first own : ℕ) → IsNormal σ ws i mask first own → Pushed mid (free + 1) first own free new →
      Extended σ ws old free 2 head new (free + 1) (piece_at σ ws i mask ∷ (piece_at σ ws i rest ∷ []))
  sums-extended old mid new free head i mask rest e c offset other N P first own M Q =
      let X = extended-more old free head old mid 0 head offset other [] (extended_none old free head e)
      (rw add-zero P) (normal-pending i rest offset other c N) in
      let Y : Extended σ ws old free 1 head mid free (piece_at σ ws offset other ∷ []) = rw add-zero at X in
      rw (← M.same, ← N.same) (extended-more old free head mid new 1 free first own (piece_at σ ws offset other ∷ [])
      Y Q (normal-pending i mask first own c M))

  -- ---- terms that stand at an offset

  pub whole-pending : (i : ℕ) → i < length ws → IsPending σ ws i 0
  whole-pending i h = record {
    is_piece = record { inside = h; sum = λ p. absurd (omega arith) };
    ac = λ p. absurd (omega arith);
    apart = λ p. absurd (omega arith);
  }

  pub whole-piece : (i : ℕ) → piece_at σ ws i 0 ≡ part_at σ ws i
  unfolding piece_at
  whole-piece i = refl

  module _ {keys : List ℕ} (P : Prepared σ ws keys) {i n : ℕ} (S : Stands σ ws i n) (p : 0 < n) where
    pub terms-more : (old mid new : List Node) (free head next w : ℕ) → w ≡ size_in keys i →
        Extended σ ws old free (n - 1) head mid next (parts_at σ ws (i + w) (n - 1)) →
        Pushed mid (free + (n - 1)) i 0 next new →
        Extended σ ws old free n head new (free + (n - 1)) (parts_at σ ws i n)
    terms-more old mid new free head next w d X Q =
        let h : i < length ws = omega (arith, S.fits) in
        let e : parts_at σ ws i n ≡ piece_at σ ws i 0 ∷ parts_at σ ws (i + w) (n - 1) =
        rw (whole-piece i, d ∙ prepared-size P i h) (row_next σ ws i P.complete n p S) in
        let k : n ≡ suc (n - 1) = omega arith in
        rw e (subst (λ (m : ℕ). Extended σ ws old free m head new (free + (n - 1))
        (piece_at σ ws i 0 ∷ parts_at σ ws (i + w) (n - 1))) (sym k)
        (extended-more old free head mid new (n - 1) next i 0 (parts_at σ ws (i + w) (n - 1)) X Q (whole-pending i h)))

-- ---- their offsets

pub keys-next : (keys : List ℕ) (i n w : ℕ) → 0 < n → InKeys keys i n → w ≡ size_in keys i → InKeys keys (i + w) (n - 1)
keys-next keys i zero w p h e = absurd (omega arith)
keys-next keys i (suc n) w p h e = let d : suc n - 1 ≡ n = omega arith in rw (d, e) h.1

pub in-keys : {σ : Signature} {ws keys : List ℕ} → Prepared σ ws keys → (n i : ℕ) → Stands σ ws i n → InKeys keys i n
in-keys P zero i S = tt
in-keys {σ} {ws} {keys} P (suc n) i S =
    let d : suc n - 1 ≡ n = omega arith in (
      omega (arith, S.fits, P.short),
      in-keys P n (i + size_in keys i) (rw d at (step-next P S (omega arith) refl)),
    )
