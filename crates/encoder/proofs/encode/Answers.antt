-- The words that were read are those of the file's items, so that their bits are its packed form.
use native.Mathlib.Omega.{arith}
use mathlib.Core.Path.{◌∙◌}
use borrow.Author.Rules.{rules}
use lib.Seq.{length-take-le}
use Rattle.std.proofs.lemmas.Result.{err_from_is_err_and}
use Rattle.answers.proofs.InputLaws.{value-told, fault-told}
use Rattle.encoder.proofs.EncodeLaws.{file-listed, bytes-count, encode-fault, encode-long, encode-short, encode-done}
use Rattle.encoder.proofs.encode.Goals as goal

pub returns-in_err-head : goal.returns-in_err-head
returns-in_err-head c =
    let error = err_from_is_err_and c.from_residual.result c.from_residual.ensures.1 in
    let (fault, was, said) = fault-told 0 _ c.read_sheet.result c.map_err.result c.map_err.ensures.cases
    (λ f e q. search rules) _ c.in_err-head.was in
    let (reply, output) = encode-fault c.args.words.now c.args.bytes.now _ _ (rw was at c.read_sheet.ensures) in
    rw (error.1, error.2, said) (record { result_value = reply; bytes_after = output })

pub packed_bits-requires : goal.packed_bits-requires
packed_bits-requires c =
    let was = value-told 0 _ c.read_sheet.result c.map_err.result c.map_err.ensures.cases _ c.in_ok-head.was in
    let (file, end, read, parts) = rw was at c.read_sheet.ensures in
    let listed = file-listed c.args.words.now file end _ _ read parts in
    (listed.begin, listed.within, omega (arith, listed.short))

pub returns-then-count-gt-MAX_BYTES : goal.returns-then-count-gt-MAX_BYTES
returns-then-count-gt-MAX_BYTES c =
    let a = c.args in
    let was = value-told 0 _ c.read_sheet.result c.map_err.result c.map_err.ensures.cases _ c.in_ok-head.was in
    let (file, end, read, parts) = rw was at c.read_sheet.ensures in
    let count = bytes-count _ _ _ c.packed_bits.ensures c.div_ceil-count.ensures in
    let (reply, output) = encode-long a.words.now a.bytes.now file end _ _ read
    (file-listed a.words.now file end _ _ read parts) (rw count at c.if-count-gt-MAX_BYTES.true) in
    record { result_value = reply; bytes_after = output }

pub returns-then-bytes-count : goal.returns-then-bytes-count
returns-then-bytes-count c =
    let a = c.args in
    let was = value-told 0 _ c.read_sheet.result c.map_err.result c.map_err.ensures.cases _ c.in_ok-head.was in
    let (file, end, read, parts) = rw was at c.read_sheet.ensures in
    let count = bytes-count _ _ _ c.packed_bits.ensures c.div_ceil-count.ensures in
    let (reply, output) = encode-short a.words.now a.bytes.now file end _ _ read
    (file-listed a.words.now file end _ _ read parts) (rw count at c.if-count-gt-MAX_BYTES.false)
    (rw count at c.if-bytes-count.true) in
    record { result_value = reply; bytes_after = output }

pub write_items-requires : goal.write_items-requires
write_items-requires c =
    let a = c.args in
    let was = value-told 0 _ c.read_sheet.result c.map_err.result c.map_err.ensures.cases _ c.in_ok-head.was in
    let (file, end, read, parts) = rw was at c.read_sheet.ensures in
    let listed = file-listed a.words.now file end _ _ read parts in record {
      by_index = ((_, listed.begin), listed.within);
      bytes_len = length-take-le _ a.bytes.now c.if-bytes-count.false
          ∙ bytes-count _ _ _ c.packed_bits.ensures c.div_ceil-count.ensures;
    }

pub returns : goal.returns
returns c =
    let a = c.args in
    let was = value-told 0 _ c.read_sheet.result c.map_err.result c.map_err.ensures.cases _ c.in_ok-head.was in
    let (file, end, read, parts) = rw was at c.read_sheet.ensures in
    let count = bytes-count _ _ _ c.packed_bits.ensures c.div_ceil-count.ensures in
    let (reply, output) = encode-done a.words.now a.bytes.now file end _ _ read
    (file-listed a.words.now file end _ _ read parts) (rw count at c.if-count-gt-MAX_BYTES.false)
    (rw count at c.if-bytes-count.false) in
    rw (c.write_items.ensures, count) (record { result_value = reply; bytes_after = output })
