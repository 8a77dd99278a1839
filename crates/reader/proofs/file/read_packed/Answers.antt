-- The head is read, the rules under the front of its table, and what may follow them.
use Rattle.std.proofs.lemmas.Result.{err_from_is_err_and}
use mathlib.Core.Path.{ap}
use Rattle.reader.specs.Source.{Reached}
use Rattle.reader.proofs.WholeLaws.{packed-unread, packed-unended, packed-read}
use Rattle.bits.specs.Cursor.{told}
use Rattle.reader.proofs.file.read_packed.Goals as goal

pub returns-in_err-head : goal.returns-in_err-head
returns-in_err-head c =
    let error = err_from_is_err_and c.from_residual.result c.from_residual.ensures.1 in
    rw (error.1, error.2) (rw c.in_err-head.was at c.read_head.ensures)

pub read_packed_rules-requires : goal.read_packed_rules-requires
unfolding Reached
read_packed_rules-requires c =
    let head = rw c.in_ok-head.was at c.read_head.ensures in (head.within, head.few_rules)

pub returns-in_err-nodes : goal.returns-in_err-nodes
returns-in_err-nodes c =
    let a = c.args in
    let error = err_from_is_err_and c.from_residual-in_err-nodes.result c.from_residual-in_err-nodes.ensures.1 in
    rw (error.1, error.2) (packed-unread a.form.number a.book.now c.read_head.new.table a.words.now
    c.read_packed_rules.new.words c.in_ok-head.head (rw c.in_ok-head.was at c.read_head.ensures) _
    c.front-front.ensures.0 c.arities.result c.arities.ensures _ c.read_packed_rules.ensures _
    (ap told c.in_err-nodes.was))

pub returns-then-not-is_padding : goal.returns-then-not-is_padding
returns-then-not-is_padding c =
    let a = c.args in
    packed-unended a.form.number a.book.now c.read_head.new.table a.words.now
    c.read_packed_rules.new.words c.in_ok-head.head (rw c.in_ok-head.was at c.read_head.ensures) _
    c.front-front.ensures.0 c.arities.result c.arities.ensures _ c.read_packed_rules.ensures _ _
    (ap told c.in_ok-nodes.was) _ c.is_padding.ensures c.if-not-is_padding.true

pub returns : goal.returns
returns c =
    let a = c.args in
    packed-read a.form.number a.book.now c.read_head.new.table a.words.now
    c.read_packed_rules.new.words c.in_ok-head.head (rw c.in_ok-head.was at c.read_head.ensures) _
    c.front-front.ensures.0 c.arities.result c.arities.ensures _ c.read_packed_rules.ensures _ _
    (ap told c.in_ok-nodes.was) _ c.is_padding.ensures
    a.form.plain c.if-not-is_padding.false c.front-front.ensures.1
