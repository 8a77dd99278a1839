-- The loop keeps: each count, with the symbols from `f` on, is that of all symbols.
use mathlib.Core.Path.{refl}
use native.Mathlib.Omega.{arith}
use Prim.Native.Nat.{◌<◌}
use lib.ListN.{length, length-set}
use Rattle.symbols.specs.Table.{signature_of}
use Rattle.enumerating.proofs.CellLaws.{counts-begun, counts-small, counts-one, counts-past, counts_end}
use Rattle.enumerating.proofs.counts.arity_counts.Goals as goal
use Rattle.enumerating.proofs.counts.arity_counts.Goals.{then-arity-lt-ARITIES, else-arity-lt-ARITIES}

pub loop-f-init : goal.loop-f-init
loop-f-init c = (refl, counts-begun (signature_of c.args.table.now))

pub overflow_add-counts : goal.overflow_add-counts
overflow_add-counts c =
    omega (
      arith,
      counts-small (signature_of c.args.table.now) c.loop-f.f c.loop-f.counts c.loop-f.invariant.1
          (omega (arith, c.count-f-end.ensures)) c.arity-arity.result (omega arith),
    )

pub loop-f-preserved : goal.loop-f-preserved
loop-f-preserved c =
    let σ = signature_of c.args.table.now in
    let v = c.loop-f in
    let h : v.f < length σ.symbols = omega (arith, c.count-f-end.ensures) in
    elim c.if-arity-lt-ARITIES.branch [
      | then-arity-lt-ARITIES w ↦
          rw w.counts-is (
            simp length-set v.invariant.0,
            counts-one σ v.f v.counts h v.invariant.1 c.arity-arity.result c.arity-arity.ensures.0
                w.if-arity-lt-ARITIES.true v.invariant.0,
          )
      | else-arity-lt-ARITIES w ↦
          rw w.counts-is (
            v.invariant.0,
            counts-past σ v.f v.counts h v.invariant.1 c.arity-arity.result c.arity-arity.ensures.0
                w.if-arity-lt-ARITIES.false,
          )
    ]

pub returns : goal.returns
returns c =
    counts_end (signature_of c.args.table.now) c.loop-f.f c.loop-f.counts (omega (arith, c.count-f-end.ensures))
    c.loop-f.invariant.1
