-- The loop keeps: the next symbol from `f` on is the one from the start on.
use Prim.Native.Nat.{◌+◌}
use mathlib.Core.Path.{◌≡◌, sym, ap, ◌∙◌}
use native.Mathlib.Omega.{arith}
use Rattle.symbols.specs.Table.{signature_of}
use Rattle.enumerating.specs.Counts.{row_count}
use Rattle.enumerating.specs.Rows.{count_of}
use Rattle.enumerating.proofs.RowLaws.{next_here, next-over, next-end}
use Rattle.enumerating.proofs.counts.RowCounts.next_symbol.Goals as goal

pub returns-then-at-gt0 : goal.returns-then-at-gt0
returns-then-at-gt0 c =
    let a = c.args in
    let σ = signature_of a.self.now.table.now in
    let cell = c.at.ensures ∙ ap (λ n. row_count σ a.nodes (n + a.others)) c.arity.ensures.0 in (
      omega arith,
      sym (c.loop-f.invariant ∙ next_here σ a.nodes a.others c.loop-f.f (omega arith) c.at.result cell (omega arith)),
    )

pub loop-f-preserved : goal.loop-f-preserved
loop-f-preserved c =
    let a = c.args in
    let σ = signature_of a.self.now.table.now in
    let cell = c.at.ensures ∙ ap (λ n. row_count σ a.nodes (n + a.others)) c.arity.ensures.0 in
    c.loop-f.invariant ∙ next-over σ a.nodes a.others c.loop-f.f (omega arith) c.at.result cell (omega arith)

pub returns : goal.returns
returns c =
    let a = c.args in
    let σ = signature_of a.self.now.table.now in
    let e : c.loop-f.f ≡ count_of σ = omega arith in
    c.loop-f.invariant ∙ next-end σ a.nodes a.others c.loop-f.f (omega arith) ∙ e
