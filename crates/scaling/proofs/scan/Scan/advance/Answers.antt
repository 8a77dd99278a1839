-- What is stored for the word has its coefficients as digits, and as many as it has arguments; two of them are stored
-- at once.
use mathlib.Core.Path.{◌≡◌}
use Prim.Native.Nat.{◌+◌, ◌-◌}
use native.Mathlib.Omega.{arith}
use Rattle.symbols.specs.Table.{signature_of}
use Rattle.scaling.specs.Scaled.{row_in}
use Rattle.scaling.proofs.StackLaws.{few-advanced, more-advanced}
use Rattle.scaling.proofs.scan.Scan.advance.Goals as goal
use Rattle.scaling.proofs.scan.Scan.advance.Goals.{then-node-gt2, else-node-gt2}

pub returns-clause-products_after : goal.returns-clause-products_after
returns-clause-products_after c =
    let a = c.args in
    let s = a.self.now in
    let v = a.weighing.now in
    let σ = signature_of v.table.now in
    let N = v.stored in
    let h = c.requires.node_word in
    let (p, q, r, m) = c.requires.called in
    let n = (row_in v.rows.now a.word).arity in
    elim c.if-node-gt2.branch [
      | then-node-gt2 w ↦
          let e : s.top - 1 + 2 + (n - 2) ≡ s.top - 1 + n = omega arith in
          rw w.self-is
          (more-advanced σ v.rows.now N a.word h s.products s.top p (omega (arith, s.room)) w.if-node-gt2.true
          (rw (c.cut.ensures, c.cut-2.ensures, e) at w.push.ensures.pushed))
      | else-node-gt2 w ↦
          rw (w.self-is, c.cut.ensures, c.cut-2.ensures)
          (few-advanced σ v.rows.now N a.word h s.products s.top p (omega (arith, s.room)) w.if-node-gt2.false)
    ]
