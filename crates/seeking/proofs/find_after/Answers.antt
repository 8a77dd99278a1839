-- The rules that are marked are read past, then the others, and the next begins where the second reading does.
use mathlib.Core.Path.{sym, ◌∙◌}
use Prim.Native.Nat.{◌-◌}
use native.Mathlib.Omega.{arith}
use Rattle.symbols.specs.Table.{signature_of}
use Rattle.seeking.proofs.FindLaws.{standing-few, standing-unread, standing-cut, standing-unended, standing-left, standing-done}
use Rattle.seeking.proofs.find_after.Goals as goal

pub returns-then-count-marked : goal.returns-then-count-marked
returns-then-count-marked c form taken =
    let a = c.args in
    standing-few a.book.bytes.now form taken (signature_of a.table.now) a.count a.first.at a.marked
    c.if-count-marked.true

pub returns-in_default : goal.returns-in_default
returns-in_default c form taken =
    let a = c.args in
    let σ = signature_of a.table.now in
    let unread = rw c.in_default.is at (c.skip_rules.ensures.rules_skipped σ c.arities-arities.ensures
    c.requires.table.unscaled) in
    standing-unread a.book.bytes.now form taken σ a.count a.first.at a.marked _ _
    (unread a.count (omega (arith, c.if-count-marked.false)))

pub returns-in_default-skip_rules : goal.returns-in_default-skip_rules
returns-in_default-skip_rules c form taken =
    let a = c.args in
    let σ = signature_of a.table.now in
    let few = c.if-count-marked.false in
    let marked = rw c.in-Ok.is at (c.skip_rules.ensures.rules_skipped σ c.arities-arities.ensures
    c.requires.table.unscaled) in
    let (done, so) = marked a.count (omega (arith, few)) in
    let unread = rw c.in_default-skip_rules.is at (c.skip_rules-2.ensures.rules_skipped σ c.arities-arities.ensures
    c.requires.table.unscaled) in
    standing-cut a.book.bytes.now form taken σ a.count a.first.at a.marked (omega (arith, few)) done _ so _ _
    (unread (a.count - a.marked) (omega arith))

pub returns-then-marked-count : goal.returns-then-marked-count
returns-then-marked-count c form taken =
    let a = c.args in
    let σ = signature_of a.table.now in
    let few = c.if-count-marked.false in
    let marked = rw c.in-Ok.is at (c.skip_rules.ensures.rules_skipped σ c.arities-arities.ensures
    c.requires.table.unscaled) in
    let within = rw c.in-Ok.is at c.skip_rules.ensures.within in
    let (done, so) = marked a.count (omega (arith, few)) in
    let others = rw c.in-Ok-skip_rules.is at (c.skip_rules-2.ensures.rules_skipped σ c.arities-arities.ensures
    c.requires.table.unscaled) in
    let (rest, last) = others (a.count - a.marked) (omega arith) in
    standing-left a.book.bytes.now form taken σ a.count a.first.at a.marked (omega (arith, few)) done _ so rest
    _ last (sym c.is_padding.ensures ∙ c.if-not-is_padding.false) within c.if-marked-count.true

pub returns : goal.returns
returns c form taken =
    let a = c.args in
    let σ = signature_of a.table.now in
    let few = c.if-count-marked.false in
    let marked = rw c.in-Ok.is at (c.skip_rules.ensures.rules_skipped σ c.arities-arities.ensures
    c.requires.table.unscaled) in
    let (done, so) = marked a.count (omega (arith, few)) in
    let others = rw c.in-Ok-skip_rules.is at (c.skip_rules-2.ensures.rules_skipped σ c.arities-arities.ensures
    c.requires.table.unscaled) in
    let (rest, last) = others (a.count - a.marked) (omega arith) in
    standing-done a.book.bytes.now form taken σ a.count a.first.at a.marked (omega (arith, few)) done _ so rest
    _ last (sym c.is_padding.ensures ∙ c.if-not-is_padding.false) c.if-marked-count.false

pub returns-then-not-is_padding : goal.returns-then-not-is_padding
returns-then-not-is_padding c form taken =
    let a = c.args in
    let σ = signature_of a.table.now in
    let few = c.if-count-marked.false in
    let marked = rw c.in-Ok.is at (c.skip_rules.ensures.rules_skipped σ c.arities-arities.ensures
    c.requires.table.unscaled) in
    let (done, so) = marked a.count (omega (arith, few)) in
    let others = rw c.in-Ok-skip_rules.is at (c.skip_rules-2.ensures.rules_skipped σ c.arities-arities.ensures
    c.requires.table.unscaled) in
    let (rest, last) = others (a.count - a.marked) (omega arith) in
    standing-unended a.book.bytes.now form taken σ a.count a.first.at a.marked (omega (arith, few)) done _ so
    rest _ last (sym c.is_padding.ensures ∙ c.if-not-is_padding.true)
