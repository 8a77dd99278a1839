-- The loop keeps: the symbols so far stand in the table, their ranks are marked, the least weights tell whether one of
-- arity 1 weighs 0, and the others are read from here on.
use mathlib.Core.Path.{◌≡◌}
use mathlib.Core.List.{[]}
use mathlib.Core.Bool.{false}
use Prim.Native.Nat.{◌-◌}
use lib.ListN.{length}
use Rattle.format.specs.Symbols.{symbols_reader}
use Rattle.symbols.specs.Table.{symbols_in, table_words, symbols_words}
use Rattle.reader.specs.Source.{input_of, source_of, Reached, table_of, Stored}
use Rattle.reader.specs.Symbol.{TakenBy, has_zero_weight_unary, LeastKept}
use Rattle.reader.proofs.symbol.read_symbols_from.Given as goal

abbrev pub invariant-loop-number : goal.invariant-loop-number
invariant-loop-number l =
    (length l.table ≡ length l.initial.table) ×
    TakenBy (symbols_in false (table_of (input_of l.source) l.table) 0 l.number) l.earlier.taken ×
    (symbols_reader (source_of (input_of l.source)) l.header.form.number l.header.w0 l.header.symbols []
    l.initial.here.at ≡
    symbols_reader (source_of (input_of l.source)) l.header.form.number l.header.w0 (l.header.symbols - l.number)
    (symbols_in false (table_of (input_of l.source) l.table) 0 l.number) l.here.at) ×
    Reached (input_of l.source) (table_words l.number) l.here.at ×
    Stored (input_of l.source) 4 (symbols_words (symbols_in false (table_of
    (input_of l.source) l.table) 0 l.number)) l.initial.table
    l.table ×
    LeastKept l.header.form.number l.header.w0 (has_zero_weight_unary (symbols_in false
    (table_of (input_of l.source) l.table) 0 l.number)) l.earlier.least
