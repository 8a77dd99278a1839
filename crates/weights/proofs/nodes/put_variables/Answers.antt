-- The loop keeps: what the variables below the word at hand add is stored, and nothing else has changed.
use mathlib.Core.Path.{◌≡◌, refl, ◌∙◌}
use Prim.Native.Nat.{◌<◌}
use native.Mathlib.Omega.{arith}
use lib.ListN.{length, length-set}
use lib.Seq.{get_or-set_same, get_or-set_other}
use borrow.Author.Tests.{le-ltb}
use Rattle.multisets.proofs.Relations.{by_order}
use Rattle.symbols.specs.Table.{signature_of}
use Rattle.weights.specs.declared.totals.Totals.{Totals}
use Rattle.weights.specs.Nodes.{none, NodeTotals}
use Rattle.weights.proofs.SumLaws.{occurrence-node}
use Rattle.weights.proofs.nodes.put_variables.Goals as goal

pub loop-word-preserved : goal.loop-word-preserved
loop-word-preserved c =
    let l = c.loop-word in
    let (long, S) = l.invariant in
    let σ = signature_of c.args.table.now in
    let own = c.variable_weight-weight in
    let low = c.occurrence in
    let high = c.occurrence-in-loop-word in
    let added : Totals = record { weight = own.result; low = low.result; high = high.result } in
    let inside : l.word < length l.adds = omega arith in
    let node : NodeTotals σ l.word added = record {
      weight = rw (le-ltb l.word 256 (omega arith)) own.ensures.0;
      low = low.ensures.0 ∙ occurrence-node 0 32 l.word refl;
      high = high.ensures.0 ∙ occurrence-node 8 33 l.word refl;
      light = omega (arith, own.ensures.1);
      small = record {
        weight = omega (arith, own.ensures.1);
        low = omega (arith, low.ensures.1);
        high = omega (arith, high.ensures.1);
      };
    } in (
      simp length-set long,
      record {
        stored = λ k a b. by_order k l.word
            (λ m. rw (get_or-set_other l.adds l.word k added none (λ e. absurd (omega arith))) (S.stored k a m))
            λ m. let e : k ≡ l.word = omega arith in rw (e, get_or-set_same l.adds l.word added none inside) node;
        others = λ j a. get_or-set_other l.adds l.word j added none (λ e. absurd (omega arith)) ∙ S.others j a;
        past = λ j a. get_or-set_other l.adds l.word j added none (λ e. absurd (omega arith)) ∙ S.past j (omega arith);
      },
    )
