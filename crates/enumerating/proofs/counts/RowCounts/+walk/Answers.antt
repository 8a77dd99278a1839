-- A complete row is stored, and rows that are stored already are copied. Else the loop keeps: storing the rows of the
-- symbols from a number on at `end` gives what storing all of them gives, and the blocks end by `end`.
use mathlib.Core.Path.{◌≡◌, ap}
use native.Mathlib.Omega.{arith}
use Prim.Native.Nat.{◌+◌, ◌-◌}
use lib.ListN.{length, length-set, set}
use Rattle.symbols.specs.Table.{signature_of}
use Rattle.symbols.proofs.TableLaws.{few-at}
use Rattle.enumerating.proofs.RowLaws.{next-least}
use Rattle.enumerating.proofs.WalkLaws.{leaf_room, leaf-done, copy-ready, copy_done, walks-begun, ready_call, walks_more, walks-end}
use Rattle.enumerating.proofs.counts.RowCounts.+walk.Goals as goal

pub put_row-requires : goal.put_row-requires
put_row-requires t c = leaf_room c.requires c.if-nodes-eq0.true

pub returns-then-nodes-eq0 : goal.returns-then-nodes-eq0
returns-then-nodes-eq0 t c =
    leaf-done c.requires c.if-nodes-eq0.true _ c.put_row.ensures

pub overflow_sub-count : goal.overflow_sub-count
overflow_sub-count t c = (copy-ready c.requires (omega arith) c.in-Some.block c.in-Some.is).0

pub copy_rows-requires : goal.copy_rows-requires
copy_rows-requires t c =
    let k = copy-ready c.requires (omega arith) c.in-Some.block c.in-Some.is in
    (k.1, k.2, omega (arith, c.requires.within))

pub overflow_add-result : goal.overflow_add-result
overflow_add-result t c = omega (arith, leaf_room c.requires c.if-nodes-eq0.true, c.well_formed)

pub overflow_add-result-in-Some : goal.overflow_add-result-in-Some
overflow_add-result-in-Some t c =
    omega (arith, (copy-ready c.requires (omega arith) c.in-Some.block c.in-Some.is).2, c.well_formed)

pub returns-in-Some : goal.returns-in-Some
returns-in-Some t c =
    copy_done c.requires (omega arith) c.in-Some.block c.in-Some.is _ c.copy_rows.ensures.by_index

pub loop-f-init : goal.loop-f-init
loop-f-init t c = walks-begun c.requires (omega arith)

pub walk-end-requires : goal.walk-end-requires
walk-end-requires t c =
    let a = c.args in
    let v = c.loop-f in
    let f = c.in-Some-next_symbol.f in
    let e : length (set v.row (length a.row.now - a.nodes) f) ≡ length a.row.now = simp length-set v.invariant.long in (
      omega (arith, c.decreases, c.if-nodes-eq0.false),
      rw e (ready_call c.requires (omega arith) v.from v.end v.blocks v.row v.out v.invariant f
          c.in-Some-next_symbol.ensures.1 c.in-Some-next_symbol.ensures.0 _
          (ap (λ n. n + (a.terms - 1)) c.arity.ensures.0)),
    )

pub overflow_add-from : goal.overflow_add-from
overflow_add-from t c =
    omega (arith, few-at c.args.self.now.table.now (omega (arith, c.args.self.now.short)), c.in-Some-next_symbol.ensures)

pub loop-f-smaller : goal.loop-f-smaller
loop-f-smaller t c =
    omega (
      arith,
      next-least (signature_of c.args.self.now.table.now) (c.args.nodes - 1) (c.args.terms - 1) _ _ _
          c.in-Some-next_symbol.ensures.1,
      c.in-Some-next_symbol.ensures.0,
    )

pub loop-f-preserved : goal.loop-f-preserved
loop-f-preserved t c =
    let a = c.args in
    let v = c.loop-f in
    let f = c.in-Some-next_symbol.f in
    let e : length (set v.row (length a.row.now - a.nodes) f) ≡ length a.row.now = simp length-set v.invariant.long in
    walks_more c.requires (omega arith) v.from v.end v.blocks v.row v.out v.invariant f
    c.in-Some-next_symbol.ensures.1 c.in-Some-next_symbol.ensures.0 _ (ap (λ n. n + (a.terms - 1)) c.arity.ensures.0)
    _ _ _ _ (rw e at c.walk-end.ensures)

pub returns : goal.returns
returns t c =
    walks-end c.requires (omega arith) _ _ _ _ _ c.loop-f.invariant c.in_default-next_symbol.ensures
