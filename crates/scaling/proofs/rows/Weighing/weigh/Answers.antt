-- The loop keeps: the stack and the sum are those before an offset. Over all words the sum is near the weight.
use mathlib.Core.Path.{sym, ap, ◌∙◌}
use native.Mathlib.Omega.{arith}
use Prim.Native.Nat.{◌<◌}
use lib.ListN.{length}
use Rattle.symbols.specs.Table.{signature_of}
use Rattle.scaling.specs.Scaled.{cut}
use Rattle.scaling.proofs.StageLaws.{stage, stage-start, stage-next, weight-more}
use Rattle.scaling.proofs.WholeLaws.{weight-start, weight-whole}
use Rattle.scaling.proofs.rows.Weighing.weigh.Goals as goal

pub loop-word-init : goal.loop-word-init
loop-word-init c =
    let (e, z) = c.new-scan.ensures in
    let σ = signature_of c.args.self.now.table.now in
    let ws = c.args.words.now in
    (e ∙ sym (stage-start σ ws), z ∙ weight-start σ ws, omega (arith, z))

pub advance-requires-clause-node_word : goal.advance-requires-clause-node_word
advance-requires-clause-node_word c =
    let N = c.args.self.now.stored in
    let p = c.requires in
    let l = c.loop-word in
    (stage N p l.word-index (omega arith) l.scan.products l.scan.top l.invariant.0).node

pub advance-requires-clause-called : goal.advance-requires-clause-called
advance-requires-clause-called c =
    let N = c.args.self.now.stored in
    let p = c.requires in
    let l = c.loop-word in
    let S = stage N p l.word-index (omega arith) l.scan.products l.scan.top l.invariant.0 in
    (S.some, S.few, S.room, S.small)

pub loop-word-preserved : goal.loop-word-preserved
loop-word-preserved c =
    let N = c.args.self.now.stored in
    let p = c.requires in
    let l = c.loop-word in
    let k = l.word-index in
    let h : k < length c.args.words.now = omega arith in
    let S = stage N p k h l.scan.products l.scan.top l.invariant.0 in
    let e = c.advance.ensures.sum_after (omega (arith, l.invariant.2)) in (
      stage-next N p k h l.scan.products l.scan.top l.invariant.0 c.advance.ensures.products_after,
      e ∙ weight-more N p k h l.scan.products l.scan.top l.invariant.0 l.invariant.1,
      omega (arith, e, S.weight, l.invariant.2),
    )

pub returns : goal.returns
returns c =
    let N = c.args.self.now.stored in
    let p = c.requires in
    let l = c.loop-word in
    c.cut.ensures ∙ ap cut l.invariant.1 ∙ weight-whole N.scaling p l.word-index (omega arith)
