-- The sheet is the converted file's, so that its bits are the converted file's packed form.
use mathlib.Core.List.{List}
use mathlib.Core.Path.{◌∙◌}
use Prim.Native.Nat.{ℕ, ◌+◌, ◌*◌, ◌≤◌}
use native.Mathlib.Omega.{arith}
use borrow.Author.Rules.{rules}
use lib.ListN.{length}
use lib.Seq.{length-take-le}
use Rattle.std.proofs.Common.{replicate}
use Rattle.std.proofs.lemmas.List.{length-replicate}
use Rattle.std.proofs.lemmas.Result.{err_from_is_err_and}
use Rattle.format.specs.Layout.{max_bytes}
use Rattle.symbols.specs.Table.{max_table_words}
use Rattle.answers.proofs.InputLaws.{value-told, fault-told}
use Rattle.converter.proofs.ConvertLaws.{convert-fault, convert-short, convert-written, sheet-short, sheet-begin, sheet-packed, sheet-bits}
use Rattle.converter.proofs.convert_within.Goals as goal

room : (bytes : List ℕ) (n : ℕ) → (length bytes ≤ max_bytes → 5 * max_table_words + 8 * length bytes ≤ 5 * n) →
    length bytes ≤ max_bytes → 5 * max_table_words + 8 * length bytes ≤ 5 * length (replicate {A = ℕ} n 0)
room bytes n h short = rw (length-replicate {A = ℕ} n 0) (h short)

pub returns-in_err-unpacked : goal.returns-in_err-unpacked
returns-in_err-unpacked g c =
    let a = c.args in
    let error = err_from_is_err_and c.from_residual.result c.from_residual.ensures.1 in
    let (fault, was, said) = fault-told 0 _ c.unpack.result c.map_err.result c.map_err.ensures.cases
    (λ f e q. search rules) _ c.in_err-unpacked.was in
    let (read, same) = rw was at c.unpack.ensures in
    let (reply, output) = convert-fault a.book.now a.out.now _ _ read in
    rw (error.1, error.2, said) (record { result_value = reply; out_after = output })

pub returns-then-out-book : goal.returns-then-out-book
returns-then-out-book g c =
    let a = c.args in
    let was = value-told 0 _ c.unpack.result c.map_err.result c.map_err.ensures.cases _ c.in_ok-unpacked.was in
    let (file, end, read, parts) = rw was at c.unpack.ensures in
    let (reply, output) = convert-short a.book.now a.out.now file end read c.if-out-book.true in
    record { result_value = reply; out_after = output }

pub overflow_add-total : goal.overflow_add-total
overflow_add-total g c =
    let was = value-told 0 _ c.unpack.result c.map_err.result c.map_err.ensures.cases _ c.in_ok-unpacked.was in
    let (file, end, read, parts) = rw was at c.unpack.ensures in
    omega (arith, parts.few, parts.short)

pub write_items-requires : goal.write_items-requires
write_items-requires g c =
    let a = c.args in
    let was = value-told 0 _ c.unpack.result c.map_err.result c.map_err.ensures.cases _ c.in_ok-unpacked.was in
    let (file, end, read, parts) = rw was at c.unpack.ensures in
    let wide = room a.book.now g.row.WORDS c.requires.room in
    let fits = sheet-short a.book.now _ _ file _ _ parts wide in
    let long = length-take-le (c.in_ok-unpacked.unpacked.front + c.in_ok-unpacked.unpacked.nodes) c.unpack.new.words
    (omega (arith, fits, c.unpack.auto.words)) in
    let (begin, within) = sheet-begin a.book.now _ _ file _ _ parts wide end read in record {
      by_index = (begin, omega (arith, within, long));
      bytes_len = length-take-le (length a.book.now) a.out.now c.if-out-book.false
          ∙ sheet-bits a.book.now _ _ file _ _ parts wide end read;
    }

pub returns : goal.returns
returns g c =
    let a = c.args in
    let was = value-told 0 _ c.unpack.result c.map_err.result c.map_err.ensures.cases _ c.in_ok-unpacked.was in
    let (file, end, read, parts) = rw was at c.unpack.ensures in
    let wide = room a.book.now g.row.WORDS c.requires.room in
    let (reply, output) = convert-written a.book.now a.out.now file end read c.if-out-book.false in
    rw (c.write_items.ensures, sheet-packed a.book.now _ c.unpack.new.words file _ _ parts wide end read)
    (record { result_value = reply; out_after = output })
