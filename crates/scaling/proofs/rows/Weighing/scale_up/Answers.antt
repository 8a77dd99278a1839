-- The loop keeps: the stack, the sum and what is stored are those before offset k. Over all words the sum is near the
-- weight.
use mathlib.Core.Path.{◌≡◌, refl, sym, ap, ◌∙◌}
use native.Mathlib.Omega.{arith}
use Prim.Native.Nat.{◌<◌}
use lib.ListN.{length, length-set}
use Rattle.symbols.specs.Table.{signature_of}
use Rattle.scaling.specs.Scaled.{cut}
use Rattle.scaling.proofs.StageLaws.{stage, stage-start, stage-next, weight-more}
use Rattle.scaling.proofs.WholeLaws.{weight-start, weight-whole}
use Rattle.scaling.proofs.StoredLaws.{stored_more, stored-all}
use Rattle.scaling.proofs.rows.Weighing.scale_up.Goals as goal

pub loop-k-init : goal.loop-k-init
loop-k-init c =
    let (e, z) = c.new-scan.ensures in
    let σ = signature_of c.args.self.now.table.now in
    let ws = c.args.words.now in
    (e ∙ sym (stage-start σ ws), z ∙ weight-start σ ws, omega (arith, z), c.told-sums, λ j h. absurd (omega arith))

pub product-product-requires : goal.product-product-requires
product-product-requires c =
    let N = c.args.self.now.stored in
    let p = c.requires in
    let l = c.loop-k in
    let S = stage N p l.k (omega arith) l.scan.products l.scan.top l.invariant.0 in
    (S.some, S.few)

pub advance-requires-clause-node_word : goal.advance-requires-clause-node_word
advance-requires-clause-node_word c =
    let N = c.args.self.now.stored in
    let p = c.requires in
    let l = c.loop-k in
    (stage N p l.k (omega arith) l.scan.products l.scan.top l.invariant.0).node

pub advance-requires-clause-called : goal.advance-requires-clause-called
advance-requires-clause-called c =
    let N = c.args.self.now.stored in
    let p = c.requires in
    let l = c.loop-k in
    let S = stage N p l.k (omega arith) l.scan.products l.scan.top l.invariant.0 in
    (S.some, S.few, S.room, S.small)

pub loop-k-preserved : goal.loop-k-preserved
loop-k-preserved c =
    let N = c.args.self.now.stored in
    let p = c.requires in
    let l = c.loop-k in
    let h : l.k < length c.args.words.now = omega arith in
    let S = stage N p l.k h l.scan.products l.scan.top l.invariant.0 in
    let e = c.advance.ensures.sum_after (omega (arith, l.invariant.2)) in (
      stage-next N p l.k h l.scan.products l.scan.top l.invariant.0 c.advance.ensures.products_after,
      e ∙ weight-more N p l.k h l.scan.products l.scan.top l.invariant.0 l.invariant.1,
      omega (arith, e, S.weight, l.invariant.2),
      simp length-set l.invariant.3,
      stored_more (signature_of c.args.self.now.table.now) c.args.words.now l.sums l.k l.scan.sum _ l.invariant.3 l.invariant.1
          (omega (arith, p.short)) l.invariant.4 (c.product-product.ensures ∙ S.factor),
    )

pub returns-clause-scaled_up : goal.returns-clause-scaled_up
returns-clause-scaled_up c =
    let N = c.args.self.now.stored in
    let p = c.requires in
    let l = c.loop-k in
    let ws = c.args.words.now in
    let z : l.k ≡ length ws = omega arith in
    stored-all (signature_of c.args.self.now.table.now) ws l.sums (length ws) l.scan.sum 1 l.invariant.3 (rw z at l.invariant.1)
    (omega (arith, p.short)) refl refl (rw z at l.invariant.4)

pub returns-clause-value : goal.returns-clause-value
returns-clause-value c =
    let N = c.args.self.now.stored in
    let p = c.requires in
    let l = c.loop-k in
    c.cut.ensures ∙ ap cut l.invariant.1 ∙ weight-whole N.scaling p l.k (omega arith)
