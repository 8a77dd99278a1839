-- What was unpacked is the file's sheet, or the words were too short for it and are as they were.
use mathlib.Core.Path.{ap, ◌∙◌}
use Prim.Native.Nat.{◌+◌, ◌≤◌}
use native.Mathlib.Omega.{arith}
use borrow.Author.Rules.{rules}
use lib.ListN.{length}
use Rattle.std.proofs.lemmas.Result.{err_from_is_err_and}
use Rattle.format.specs.Layout.{form_number}
use Rattle.format.specs.Format.{RuleFile}
use Rattle.format.specs.Packing.{unpacked}
use Rattle.format.proofs.FileLaws.{bytes-taken}
use Rattle.answers.proofs.InputLaws.{value-told, fault-told}
use Rattle.reader.proofs.StoredLaws.{stored-current}
use Rattle.decoder.proofs.DecodeLaws.{decode-fault, decode-short, decode-written}
use Rattle.decoder.proofs.decode.Goals as goal

pub returns-in_err-sheet : goal.returns-in_err-sheet
returns-in_err-sheet c =
    let a = c.args in
    let error = err_from_is_err_and c.from_residual.result c.from_residual.ensures.1 in
    let (fault, was, said) = fault-told 0 _ c.unpack.result c.map_err.result c.map_err.ensures.cases
    (λ f e q. search rules) _ c.in_err-sheet.was in
    let (read, same) = rw was at c.unpack.ensures in
    let (reply, output) = decode-fault a.book.now a.words.now _ _ read in
    rw (error.1, error.2, said, same) (record { result_value = reply; words_after = output })

pub overflow_add-total : goal.overflow_add-total
overflow_add-total c =
    let was = value-told 0 _ c.unpack.result c.map_err.result c.map_err.ensures.cases _ c.in_ok-sheet.was in
    let (file, end, read, sheet) = rw was at c.unpack.ensures in
    omega (arith, sheet.few, sheet.short)

pub returns-then-words-total : goal.returns-then-words-total
returns-then-words-total c =
    let a = c.args in
    let was = value-told 0 _ c.unpack.result c.map_err.result c.map_err.ensures.cases _ c.in_ok-sheet.was in
    let (file, end, read, sheet) = rw was at c.unpack.ensures in
    let same = stored-current file (bytes-taken form_number a.book.now file end read) in
    let size = sheet.size ∙ ap (λ (f : RuleFile). length (unpacked f)) same in
    let (reply, output) = decode-short a.book.now a.words.now file end read
    (omega (arith, size, c.if-words-total.true, c.unpack.auto.words)) in
    rw (sheet.kept (omega (arith, c.if-words-total.true, c.unpack.auto.words)))
    (record { result_value = reply; words_after = output })

pub returns : goal.returns
returns c =
    let a = c.args in
    let was = value-told 0 _ c.unpack.result c.map_err.result c.map_err.ensures.cases _ c.in_ok-sheet.was in
    let (file, end, read, sheet) = rw was at c.unpack.ensures in
    let same = stored-current file (bytes-taken form_number a.book.now file end read) in
    let size = sheet.size ∙ ap (λ (f : RuleFile). length (unpacked f)) same in
    let room : c.in_ok-sheet.sheet.front + c.in_ok-sheet.sheet.nodes ≤ length a.words.now =
    omega (arith, c.if-words-total.false, c.unpack.auto.words) in
    let (reply, output) = decode-written a.book.now a.words.now file end read (omega (arith, size, room)) in
    record {
      result_value = rw size reply;
      words_after = rw same at (sheet.stored room) ∙ output;
    }
