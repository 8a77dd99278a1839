-- The loop keeps: the symbols so far stand in the table, their ranks are marked, the least weights tell whether one of
-- arity 1 weighs 0, and the others are read from here on.
use Rattle.std.proofs.lemmas.Result.{err_from_is_err_and}
use native.Mathlib.Omega.{arith}
use mathlib.Core.Path.{◌≡◌, refl, sym, ap, ◌∙◌}
use mathlib.Core.List.{List}
use mathlib.Core.Bool.{false, false≢true}
use Rattle.terms.specs.Signature.{Symbol}
use Prim.Native.Nat.{◌+◌, ◌-◌}
use native.Mathlib.Nat.{sub-zero}
use Rattle.format.specs.Symbols.{symbols_reader}
use Rattle.symbols.specs.Table.{symbols_in}
use Rattle.symbols.proofs.TableLaws.{length_symbols}
use Rattle.symbols.proofs.EntryLaws.{table_more, table-start}
use Rattle.reader.specs.Source.{input_of, source_of, table_of}
use Rattle.reader.specs.Symbol.{has_zero_weight_unary}
use Rattle.reader.proofs.SourceLaws.{room-le, room-same}
use Rattle.reader.proofs.SymbolLaws.{taken_none, symbols-fault, symbols-past, symbols-done, stored_more, stored-none}
use Rattle.reader.proofs.WeightLaws.{weightless-told}
use Rattle.reader.proofs.symbol.read_symbols_from.Goals as goal

pub loop-number-init : goal.loop-number-init
loop-number-init c = (
  refl,
  taken_none,
  rw sub-zero,
  rw table-start c.requires.reached,
  stored-none (input_of c.args.source) c.args.table.now,
  (c.least_weights.ensures, λ late. absurd (false≢true late)),
)

pub read_symbol-requires : goal.read_symbol-requires
read_symbol-requires c =
    let v = c.loop-number.invariant in
    let a = c.args in
    let more = table_more c.loop-number.number a.header.symbols (omega arith) in record {
      room = (
        omega arith,
        room-le (input_of a.source) _ _ _ more
            (room-same (input_of a.source) _ a.table.now _ v.0 c.requires.room),
      );
      reached = v.3;
      taken_by = v.1;
    }

pub returns-in_err-here : goal.returns-in_err-here
returns-in_err-here c =
    let a = c.args in
    let v = c.loop-number.invariant in
    let error = err_from_is_err_and c.from_residual.result c.from_residual.ensures.1 in
    rw (error.1, error.2) (v.2 ∙ symbols-fault (source_of (input_of a.source)) a.header.form.number a.header.w0
    a.header.symbols c.loop-number.number
    (omega arith) (symbols_in false (table_of (input_of a.source) c.loop-number.table) 0 c.loop-number.number)
    c.loop-number.here.at _ _
    (rw c.in_err-here.was at (c.read_symbol.ensures a.header.w0 v.5)))

pub loop-number-preserved : goal.loop-number-preserved
loop-number-preserved c =
    let a = c.args in
    let v = c.loop-number.invariant in
    let told = c.read_symbol.ensures a.header.w0 v.5 in
    let (s, read, stored, taken, reached, put) = rw c.in_ok-here.was at told in (
      c.read_symbol.auto.table ∙ v.0,
      taken,
      v.2 ∙ symbols-past (source_of (input_of a.source)) a.header.form.number a.header.w0 a.header.symbols
          c.loop-number.number
          (omega arith) (symbols_in false (table_of (input_of a.source) c.loop-number.table) 0 c.loop-number.number)
          c.loop-number.here.at s _ read ∙
          ap (λ (ss : List Symbol). symbols_reader (source_of (input_of a.source)) a.header.form.number
          a.header.w0
          (a.header.symbols - (c.loop-number.number + 1)) ss c.in_ok-here.here.at) (sym stored),
      reached,
      rw stored (stored_more (input_of a.source) a.table.now c.loop-number.table _ c.loop-number.number
          (symbols_in false (table_of (input_of a.source) c.loop-number.table) 0 c.loop-number.number) s
          (sym (length_symbols false (table_of (input_of a.source) c.loop-number.table) 0 c.loop-number.number))
          v.4
          put.0),
      put.1,
    )

pub returns : goal.returns
returns c =
    let a = c.args in
    let v = c.loop-number.invariant in
    let number = c.loop-number.number in
    let e : number ≡ a.header.symbols = omega arith in
    let z : a.header.symbols - number ≡ 0 = omega arith in (
      v.2 ∙ symbols-done (source_of (input_of a.source)) a.header.form.number a.header.w0 (a.header.symbols - number)
          (symbols_in false (table_of (input_of a.source) c.loop-number.table) 0 number)
          c.loop-number.here.at z ∙ rw e,
      rw e at (weightless-told a.header.form.number a.header.w0
          (has_zero_weight_unary (symbols_in false (table_of (input_of a.source) c.loop-number.table) 0
          number))
          c.loop-number.earlier.least v.5),
      rw e at v.4,
    )
