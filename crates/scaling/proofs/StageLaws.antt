-- One word of a term on the way from left to right, with the products for the terms that are called for on a stack.
--     stage                        what is on top, and that there is room
--     stage-start, stage-next      the stack before the first word, and after one word more
--     weight-more                  the sum with one word more
use mathlib.Core.List.{List, [], ◌∷◌}
use mathlib.Core.Path.{◌≡◌, refl, sym, ap, ◌∙◌}
use Prim.Native.Nat.{ℕ, suc, ◌+◌, ◌-◌, ◌*◌, ◌≤◌, ◌<◌}
use native.Mathlib.Nat.{mul-le-mul}
use native.Mathlib.Omega.{arith}
use lib.ListN.{length, get_or, drop}
use Rattle.terms.specs.Signature.{Signature, symbol_of}
use Rattle.terms.specs.Words.{forest_of}
use Rattle.format.specs.Statements.{IsTerm}
use Rattle.subterms.proofs.PartLaws.{node-range, grown, inner-stand, stands}
use Rattle.subterms.proofs.FormedLaws.{term-complete}
use Rattle.scaling.specs.declared.rows.NodeRow.{NodeRow}
use Rattle.scaling.specs.Scaled.{limit, listed, step, pending, pending_at, factor_at, weight_to, row_in, Scaling, NodeRows}
use Rattle.scaling.proofs.ScaledLaws.{length-grow}
use Rattle.scaling.proofs.OffsetLaws.{at_offset, factor-within, pending_at-suc, scaled_to-suc}
use Rattle.scaling.proofs.StackLaws.{listed-length, listed-first}

pub stage-start : (σ : Signature) (ws : List ℕ) → pending_at σ ws 0 ≡ 1 ∷ []
unfolding pending
stage-start σ ws = refl

pub record Stage (σ : Signature) (rows : List NodeRow) (ws : List ℕ) (k : ℕ) (stack : List ℕ) (top : ℕ) : Type 0 where
  pub node : get_or ws k 0 < 272
  pub some : 0 < top
  pub few : top ≤ 128
  pub room : top - 1 + (symbol_of σ (get_or ws k 0)).arity ≤ 128
  pub factor : get_or stack (top - 1) 0 ≡ factor_at σ ws k
  pub small : get_or stack (top - 1) 0 ≤ limit
  pub weight : get_or stack (top - 1) 0 * (row_in rows (get_or ws k 0)).weight ≤ 281474976710656

pub word-range : {σ : Signature} {ws : List ℕ} → Scaling σ → IsTerm σ ws → (k : ℕ) → k < length ws → get_or ws k 0 < 272
word-range {σ} {ws} S p k h = node-range σ ws (term-complete σ S.few p) k h S.few

module _ {σ : Signature} {rows : List NodeRow} {ws : List ℕ} (N : NodeRows σ rows) (p : IsTerm σ ws) (k : ℕ) (h : k < length ws) where
  own_range : get_or ws k 0 < 272
  own_range = word-range N.scaling p k h

  forest-fits : (i : ℕ) → i ≤ length ws → length (forest_of σ (drop i ws)) ≤ 128
  forest-fits i l =
      omega (arith, (stands σ ws i (length (forest_of σ (drop i ws))) (omega arith) l).fits, p.short)

  module _ (stack : List ℕ) (top : ℕ) (e : listed stack top ≡ pending_at σ ws k) where
    pub stage : Stage σ rows ws k stack top
    stage =
        let A = at_offset N.scaling p (λ x. 0) (λ f. 0) k in
        let n : top ≡ length (forest_of σ (drop k ws)) = sym (listed-length stack top) ∙ ap length e ∙ A.lengths in
        let w = get_or ws k 0 in
        let a = inner-stand σ ws k h (term-complete σ N.scaling.few p) in
        let g = length-grow σ N.scaling w (forest_of σ (drop (k + 1) ws)) a in
        let f = ap length (grown σ ws k h) in
        let s : 0 < top = omega arith in
        let q : get_or stack (top - 1) 0 ≡ factor_at σ ws k =
        sym (listed-first stack top s).0 ∙ ap (λ (l : List ℕ). get_or l 0 0) e in
        let light : (row_in rows w).weight ≤ 65535 = omega (arith, (N.node w own_range).light) in
        let b : get_or stack (top - 1) 0 ≤ limit = rw q (factor-within N.scaling p k h).1 in
        record {
          node = own_range;
          some = s;
          few = omega (arith, forest-fits k (omega arith));
          room = omega (arith, forest-fits (k + 1) (omega arith));
          factor = q;
          small = b;
          weight = omega (arith, mul-le-mul b light);
        }

    pub stage-next : {l : List ℕ} → l ≡ step σ (listed stack top) (get_or ws k 0) → l ≡ pending_at σ ws (k + 1)
    stage-next d =
        let q : k + 1 ≡ suc k = omega arith in
        rw q (d ∙ ap (λ (ms : List ℕ). step σ ms (get_or ws k 0)) e ∙ sym (pending_at-suc σ ws k h))

    pub weight-more : {sum : ℕ} → sum ≡ weight_to σ ws k →
        sum + get_or stack (top - 1) 0 * (row_in rows (get_or ws k 0)).weight ≡ weight_to σ ws (k + 1)
    weight-more d =
        let q : k + 1 ≡ suc k = omega arith in
        rw (q, stage.factor, (N.node (get_or ws k 0) own_range).weight, d)
        (sym (scaled_to-suc σ ws k h (λ x. σ.w0) (λ f. (symbol_of σ f).weight)))
