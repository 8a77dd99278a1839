-- Each return is a case of the definition; the last one is the definition's own call, with one node fewer allowed.
use mathlib.Core.Path.{refl, sym, ap, ◌∙◌}
use Prim.Native.Nat.{ℕ, ◌+◌, ◌-◌, ◌<◌}
use native.Mathlib.Omega.{arith}
use lib.ListN.{length-set, get_or}
use Rattle.std.specs.Prelude.{Some, Ok, Err}
use Rattle.format.specs.declared.ErrorCode.TheVariants.{TooManyNodes, NoSuchSymbol, VariableOutOfTurn}
use Rattle.answers.specs.Answer.{answer_of}
use Rattle.format.specs.Reading.{bit_source}
use Rattle.format.proofs.ForestLaws.{node-fault, out-of-turn}
use Rattle.answers.proofs.CellLaws.{node-read, node-unknown, owed-fits}
use Rattle.sides.proofs.SideLaws.{fewer-allowed, terms-none, terms-many, terms-fault, terms-before}
use Rattle.sides.proofs.+read_terms.Goals as goal

pub returns-then-owed-eq0 : goal.returns-then-owed-eq0
returns-then-owed-eq0 t c =
    let a = c.args in
    rw c.requires.no_error (record {
      forest_read = λ σ k unused e. terms-none (bit_source a.book.now.bytes.now) unused σ a.count.now a.owed a.from.at
          a.words.now (Ok (a.count.now, a.from.at)) _ _ c.if-owed-eq0.true c.requires.count_le_max_nodes.0 refl refl e;
      within = (c.requires.count_le_max_nodes.0, omega (arith, c.requires.from_ahead.within));
      words_len = (c.requires.count_le_max_nodes.2, c.requires.le_lowest.0, c.requires.le_lowest.1);
    })

pub returns-then-count-eq-MAX_NODES : goal.returns-then-count-eq-MAX_NODES
returns-then-count-eq-MAX_NODES t c =
    let a = c.args in
    record {
      forest_read = λ σ k unused e. terms-many (bit_source a.book.now.bytes.now) unused σ a.count.now a.owed a.from.at
          a.words.now (answer_of (Some TooManyNodes) a.count.now a.from.at) a.words.now a.lowest.now (omega arith) c.if-count-eq-MAX_NODES.true refl;
      within = tt;
      words_len = (c.requires.count_le_max_nodes.2, c.requires.le_lowest.0, c.requires.le_lowest.1);
    }

pub node-requires : goal.node-requires
node-requires t c =
    c.requires.from_ahead

pub overflow_cast-word : goal.overflow_cast-word
overflow_cast-word t c = omega (arith, (rw c.in-Ok.is at c.node.ensures.node_moved).0)

pub cell_at-cell-requires : goal.cell_at-cell-requires
cell_at-cell-requires t c =
    (rw c.in-Ok.is at c.node.ensures.node_moved).0

pub returns-then-cell-eq0 : goal.returns-then-cell-eq0
returns-then-cell-eq0 t c =
    let a = c.args in
    let told = c.in-Ok.is in
    let node = sym (rw told at c.node.ensures.result_value) in
    let fits = (rw told at c.node.ensures.node_moved).0 in
    let source = bit_source a.book.now.bytes.now in record {
      forest_read = λ σ k unused e. terms-fault source unused σ a.count.now a.owed a.from.at a.words.now
          (answer_of (Some NoSuchSymbol) a.count.now (a.from.at + 1)) _ a.lowest.now _ _
          (node-unknown source unused σ a.arities.now k (128 - a.count.now) a.owed a.from.at
          (omega (arith, c.if-count-eq-MAX_NODES.false, c.requires.count_le_max_nodes.0)) (omega (
            arith,
            c.if-owed-eq0.false,
          )) _ _ node fits
          (sym c.cell_at-cell.ensures.0 ∙ c.if-cell-eq0.true)) refl;
      within = tt;
      words_len = (simp length-set c.requires.count_le_max_nodes.2, c.requires.le_lowest.0, c.requires.le_lowest.1);
    }

pub returns-then-lowest-node : goal.returns-then-lowest-node
returns-then-lowest-node t c =
    let a = c.args in
    let node = sym (rw c.in-Ok.is at c.node.ensures.result_value) in
    let source = bit_source a.book.now.bytes.now in record {
      forest_read = λ σ k unused e. terms-fault source unused σ a.count.now a.owed a.from.at a.words.now
          (answer_of (Some VariableOutOfTurn) a.count.now (a.from.at + 1)) _ a.lowest.now _ _
          (out-of-turn source unused σ (128 - a.count.now) a.owed a.from.at
          (omega (arith, c.if-count-eq-MAX_NODES.false, c.requires.count_le_max_nodes.0)) (omega (
            arith,
            c.if-owed-eq0.false,
          )) _ _ node
          (omega (arith, c.if-lowest-node.true, e))) refl;
      within = tt;
      words_len = (simp length-set c.requires.count_le_max_nodes.2, c.requires.le_lowest.0, c.requires.le_lowest.1);
    }

pub unused_after-requires : goal.unused_after-requires
unused_after-requires t c =
    ((rw c.in-Ok.is at c.node.ensures.node_moved).0, c.if-lowest-node.false, c.requires.le_lowest.1)

pub overflow_add-cell : goal.overflow_add-cell
overflow_add-cell t c =
    let a = c.args in
    let counts = c.requires.count_le_max_nodes in
    let cell = c.cell_at-cell in
    let owed = owed-fits cell.result a.owed (128 - a.count.now) (omega (arith, c.if-cell-eq0.false))
    cell.ensures.1 (omega (arith, c.if-owed-eq0.false)) (omega (
      arith,
      c.if-count-eq-MAX_NODES.false,
      counts.0,
    )) counts.1 in
    record { fits = owed.0 }

pub read_terms-requires : goal.read_terms-requires
read_terms-requires t c =
    let a = c.args in
    let cell = c.cell_at-cell in
    let owed = (owed-fits cell.result a.owed (128 - a.count.now) (omega (arith, c.if-cell-eq0.false))
    cell.ensures.1 (omega (arith, c.if-owed-eq0.false)) (omega (
      arith,
      c.if-count-eq-MAX_NODES.false,
      c.requires.count_le_max_nodes.0,
    )) c.requires.count_le_max_nodes.1).1 in
    let (rises, most) = c.unused_after.ensures.lower_bound in
    let fewer = fewer-allowed a.count.now t c.requires.count_le_max_nodes.0 c.if-count-eq-MAX_NODES.false c.decreases
    in (
      fewer.0,
      (
        (rw c.in-Ok.is at c.node.ensures.node_moved).1,
        (
          (fewer.1, rw fewer.2 owed, simp length-set c.requires.count_le_max_nodes.2),
          ((omega (arith, rises, c.requires.le_lowest), most), c.requires.no_error),
        ),
      ),
    )

pub returns-in-Err : goal.returns-in-Err
returns-in-Err t c =
    let a = c.args in
    let node = sym (rw c.in-Err.is at c.node.ensures.result_value) in
    let source = bit_source a.book.now.bytes.now in record {
      forest_read = λ σ k unused e. terms-fault source unused σ a.count.now a.owed a.from.at a.words.now
          (Err c.in-Err.fault) a.words.now a.lowest.now _ _
          (node-fault source unused σ (128 - a.count.now) a.owed a.from.at
          (omega (arith, c.if-count-eq-MAX_NODES.false, c.requires.count_le_max_nodes.0)) (omega (
            arith,
            c.if-owed-eq0.false,
          )) _ _ node) refl;
      within = tt;
      words_len = (c.requires.count_le_max_nodes.2, c.requires.le_lowest.0, c.requires.le_lowest.1);
    }

pub returns-else-lowest-node : goal.returns-else-lowest-node
returns-else-lowest-node t c =
    let a = c.args in
    let node = sym (rw c.in-Ok.is at c.node.ensures.result_value) in
    let fits = (rw c.in-Ok.is at c.node.ensures.node_moved).0 in
    let cell = c.cell_at-cell.ensures.0 in
    let source = bit_source a.book.now.bytes.now in
    let some : 0 < get_or a.arities.now c.in-Ok.node.word 0 = omega (arith, cell, c.if-cell-eq0.false) in record {
      forest_read = λ σ k unused e. terms-before source unused σ a.count.now a.owed a.from.at a.words.now
          (answer_of c.read_terms.new.error c.read_terms.new.count c.read_terms.new.end) _ _ _ _ _
          (node-read source unused σ a.arities.now k (128 - a.count.now) a.owed a.from.at
          (omega (arith, c.if-count-eq-MAX_NODES.false, c.requires.count_le_max_nodes.0)) (omega (
            arith,
            c.if-owed-eq0.false,
          )) _ _ node fits some
          (omega (arith, c.if-lowest-node.false, e))) _
          (ap (λ (m : ℕ). m - 1 + (a.owed - 1)) cell)
          (c.read_terms.ensures.forest_read σ k _ (c.unused_after.ensures.by_index unused e));
      within = c.read_terms.ensures.within;
      words_len = c.read_terms.ensures.words_len;
    }
