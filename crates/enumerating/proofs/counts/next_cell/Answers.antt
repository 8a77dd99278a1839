-- The cells of no node and of no term are known, and any other is a sum over the cells with a node fewer.
use Prim.Native.Nat.{suc, ◌/◌, ◌%◌, ◌-◌}
use mathlib.Core.Path.{◌≡◌, sym}
use native.Mathlib.Omega.{arith}
use Rattle.enumerating.proofs.CellLaws.{no-nodes, no-terms, too_many}
use Rattle.enumerating.proofs.counts.next_cell.Goals as goal

pub returns-then-terms-eq0 : goal.returns-then-terms-eq0
returns-then-terms-eq0 c = λ σ k t. let e : c.args.index / 8 ≡ 0 = omega arith in
    let d : c.args.index % 8 ≡ 0 = omega arith in rw (e, d) (sym (no-nodes σ))

pub returns-else-terms-eq0 : goal.returns-else-terms-eq0
returns-else-terms-eq0 c = λ σ k t. sym (too_many σ (c.args.index / 8) (c.args.index % 8) (omega
    arith))

pub returns-then-terms-eq0-2 : goal.returns-then-terms-eq0-2
returns-then-terms-eq0-2 c = λ σ k t. sym (no-terms σ (c.args.index / 8) (c.args.index % 8) (omega
    arith) (omega arith))

pub returns : goal.returns
returns c =
    λ σ k t. let e : suc (c.args.index / 8 - 1) ≡ c.args.index / 8 = omega arith in
    let d : suc (c.args.index % 8 - 1) ≡ c.args.index % 8 = omega arith in
    rw (e, d) at (c.row_count.ensures σ k λ nodes terms few below. t nodes terms few (omega arith))
