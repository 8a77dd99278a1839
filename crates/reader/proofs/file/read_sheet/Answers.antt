-- The head is read, the rules under the front of the sheet, which is its table, and all words are to be read then.
use Rattle.std.proofs.lemmas.Result.{err_from_is_err_and}
use mathlib.Core.Path.{sym, ap, ◌∙◌}
use native.Mathlib.Omega.{arith}
use mathlib.Core.List.{[]}
use lib.ListN.{take}
use lib.Seq.{length-take-le}
use Rattle.symbols.specs.Table.{signature_of}
use Rattle.symbols.proofs.EntryLaws.{table-le}
use Rattle.answers.specs.Answer.{ended}
use Rattle.reader.specs.Source.{Reached}
use Rattle.reader.proofs.SourceLaws.{read-words}
use Rattle.reader.proofs.WholeLaws.{sheet-unread, sheet-unended, sheet-read}
use Rattle.reader.proofs.file.read_sheet.Goals as goal

pub returns-in_err-head : goal.returns-in_err-head
returns-in_err-head c =
    let error = err_from_is_err_and c.from_residual.result c.from_residual.ensures.1 in
    rw (error.1, error.2) (sym (read-words c.args.sheet.now) ∙ rw c.in_err-head.was at c.read_sheet_head.ensures [])

pub slice_bounds-arities-end : goal.slice_bounds-arities-end
unfolding Reached
slice_bounds-arities-end c =
    let head = rw c.in_ok-head.was at c.read_sheet_head.ensures [] in
    sym (length-take-le _ c.args.sheet.now head.within.1)

pub arities-requires : goal.arities-requires
unfolding Reached
arities-requires c =
    let head = rw c.in_ok-head.was at c.read_sheet_head.ensures [] in
    let long = length-take-le _ c.args.sheet.now head.within.1 in
    omega (arith, long, head.within.0, table-le _ head.few_symbols)

pub read_word_rules-requires : goal.read_word_rules-requires
unfolding Reached
read_word_rules-requires c =
    let head = rw c.in_ok-head.was at c.read_sheet_head.ensures [] in record {
      at_bound = (
        omega (arith, head.within.0, table-le _ head.few_symbols),
        head.few_rules,
        c.unused_at_start-unused.ensures.1,
      );
      arities = (
        signature_of (take c.in_ok-head.head.cursor.at c.args.sheet.now),
        c.arities.ensures,
        rw (← head.within.0) at head.decoded.unscaled,
      );
    }

pub returns-in_err-end : goal.returns-in_err-end
returns-in_err-end c =
    let error = err_from_is_err_and c.from_residual-in_err-end.result c.from_residual-in_err-end.ensures.1 in
    rw (error.1, error.2) (sheet-unread c.args.sheet.now [] c.in_ok-head.head
    (rw c.in_ok-head.was at c.read_sheet_head.ensures []) c.arities.result c.arities.ensures _
    c.unused_at_start-unused.ensures.0 _ c.read_word_rules.ensures _ _ (ap ended c.in_err-end.was))

pub returns-then-end-sheet : goal.returns-then-end-sheet
returns-then-end-sheet c =
    sheet-unended c.args.sheet.now [] c.in_ok-head.head
    (rw c.in_ok-head.was at c.read_sheet_head.ensures []) c.arities.result c.arities.ensures _
    c.unused_at_start-unused.ensures.0 _ c.read_word_rules.ensures _ _ (ap ended c.in_ok-end.was)
    c.if-end-sheet.true

pub returns : goal.returns
returns c =
    sheet-read c.args.sheet.now [] c.in_ok-head.head
    (rw c.in_ok-head.was at c.read_sheet_head.ensures []) c.arities.result c.arities.ensures _
    c.unused_at_start-unused.ensures.0 _ c.read_word_rules.ensures _ _ (ap ended c.in_ok-end.was)
    c.if-end-sheet.false
