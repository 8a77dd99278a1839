-- The four fields are read and tested in the order of the definition; the entry is stored after the earlier ones.
use Rattle.std.proofs.lemmas.Result.{err_from_is_err_and}
use mathlib.Core.Path.{refl, sym, ap, ◌∙◌}
use mathlib.Core.Bool.{false, not}
use lib.Dec.{eqb}
use Rattle.format.specs.Symbols.{ones}
use Rattle.terms.specs.Signature.{Symbol}
use Rattle.symbols.specs.Table.{symbols_in}
use Rattle.symbols.proofs.EntryLaws.{entry-words}
use Rattle.format.specs.Errors.{weight_inadmissible, rank_taken}
use Rattle.format.specs.Layout.{weight_width, rank_width}
use Rattle.reader.specs.Source.{input_of, source_of, table_of}
use Rattle.reader.specs.Symbol.{has_zero_weight_unary}
use Rattle.reader.proofs.SourceLaws.{tested-field, entry-stands, reached-entry}
use Rattle.reader.proofs.SymbolLaws.{symbol-parts, taken-put, stored_same, arity-unread, mark-unread, mark-refused}
use Rattle.reader.proofs.SymbolLaws.{weight-unread, rank-unread}
use Rattle.reader.proofs.WeightLaws.{has_more}
use Rattle.reader.proofs.symbol.read_symbol.Goals as goal

pub returns-in_err-arity : goal.returns-in_err-arity
returns-in_err-arity c w0 kept =
    let error = err_from_is_err_and c.from_residual.result c.from_residual.ensures.1 in
    rw (error.1, error.2) (arity-unread _ _ _ _ _ _ _ (rw c.in_err-arity.was at c.field.ensures.result_value))

pub returns-in_err-ac : goal.returns-in_err-ac
returns-in_err-ac c w0 kept =
    let error = err_from_is_err_and c.from_residual-in_err-ac.result c.from_residual-in_err-ac.ensures.1 in
    rw (error.1, error.2) (mark-unread _ _ _ _ _ _ _ (rw c.in_ok-arity.was at c.field.ensures.result_value) _ _
    (rw c.in_err-ac.was at c.field-2.ensures.result_value))

pub returns-then-not-binary_if_ac : goal.returns-then-not-binary_if_ac
returns-then-not-binary_if_ac c w0 kept =
    mark-refused _ _ _ _ _ _ _ (rw c.in_ok-arity.was at c.field.ensures.result_value) _ _
    (rw c.in_ok-ac.was at c.field-2.ensures.result_value) _ c.binary_if_ac.ensures
    (ap not c.if-not-binary_if_ac.true)

pub returns-in_err-weight : goal.returns-in_err-weight
returns-in_err-weight c w0 kept =
    let error = err_from_is_err_and c.from_residual-in_err-weight.result c.from_residual-in_err-weight.ensures.1 in
    rw (error.1, error.2) (weight-unread _ _ _ _ _ _ _ (rw c.in_ok-arity.was at c.field.ensures.result_value) _ _
    (rw c.in_ok-ac.was at c.field-2.ensures.result_value) _ c.binary_if_ac.ensures
    (ap not c.if-not-binary_if_ac.false) _ _ (rw c.in_err-weight.was at (c.read_weight.ensures.by_index w0 _ kept)).0)

pub returns-in_err-rank : goal.returns-in_err-rank
returns-in_err-rank c w0 kept =
    let error = err_from_is_err_and c.from_residual-in_err-rank.result c.from_residual-in_err-rank.ensures.1 in
    rw (error.1, error.2) (rank-unread _ _ _ _ _ _ _ (rw c.in_ok-arity.was at c.field.ensures.result_value) _ _
    (rw c.in_ok-ac.was at c.field-2.ensures.result_value) _ c.binary_if_ac.ensures
    (ap not c.if-not-binary_if_ac.false) _ _ (rw c.in_ok-weight.was at (c.read_weight.ensures.by_index w0 _ kept)).0 _ _
    (rw c.in_err-rank.was at (c.read_rank.ensures.result_value _ c.requires.taken_by)))

pub returns : goal.returns
returns c w0 kept =
    let a = c.args in
    let earlier = symbols_in false (table_of (input_of a.source) a.table.now) 0 a.number in
    let arity = sym (rw c.in_ok-arity.was at c.field.ensures.result_value) in
    let ac = sym (rw c.in_ok-ac.was at c.field-2.ensures.result_value) in
    let binary = sym c.binary_if_ac.ensures ∙ c.if-not-binary_if_ac.false in
    let rank = sym (rw c.in_ok-rank.was at (c.read_rank.ensures.result_value earlier c.requires.taken_by)) in
    let small = rw c.in_ok-rank.was at c.read_rank.ensures.below in
    let s : Symbol = record {
      arity = c.in_ok-arity.arity;
      ac = eqb c.in_ok-ac.ac 1;
      weight = c.in_ok-weight.weight;
      precedence = c.in_ok-rank.rank;
      coefficients = ones c.in_ok-arity.arity;
    } in
    let source = source_of (input_of a.source) in
    let ranked = (tested-field source rank_width _ rank_taken _ _ _ rank).0 in
    let (read, least) = rw c.in_ok-weight.was at (c.read_weight.ensures.by_index w0
    (has_zero_weight_unary earlier) kept) in
    let weight = sym read in
    let weighed = (tested-field source weight_width _ weight_inadmissible _ _ _ weight).0 in
    let stored = c.put_entry.ensures.by_index s refl
    (entry-stands (input_of a.source) a.number a.cursor.at _ _ _ _ _ _ _ _
    c.requires.reached arity ac weighed ranked) in (
      s,
      symbol-parts source a.form.number w0 earlier a.cursor.at
          ∙ rw (arity, ac, binary, weight, rank, a.form.plain),
      stored,
      rw stored (taken-put earlier s a.earlier.now.taken a.earlier.now.ranks small c.requires.taken_by),
      reached-entry (input_of a.source) a.number a.cursor.at _ _ _ _ _ _ _ _
          c.requires.reached arity ac weighed ranked,
      (
        stored_same (input_of a.source) _ _ _ _ _
            (entry-words _ _ _ _ s.coefficients (rw c.in_ok-ac.was at c.field-2.ensures.below))
            c.put_entry.ensures.stored,
        has_more a.form.number w0 _ earlier _ s stored least,
      ),
    )
