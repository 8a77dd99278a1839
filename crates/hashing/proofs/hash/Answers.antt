-- The loop keeps: the stack has the entries of the terms that the words to the right of those left spell.
use Rattle.std.proofs.Common.{◌≡◌, ◌∙◌, arith, length-drop, add-zero, get_or, get_or-drop, ap, sym}
use Rattle.std.proofs.lemmas.List.{nil_from_length}
use Rattle.symbols.specs.Table.{signature_of}
use Rattle.symbols.proofs.TableLaws.{few-at}
use Rattle.hashing.specs.declared.Entry.{Entry}
use Rattle.hashing.specs.Listed.{listed}
use Rattle.hashing.specs.Entries.{fingerprint_in}
use Rattle.hashing.proofs.StackLaws.{stack-none, node-fits, node-stacked, stack-some, stack-end}
use Rattle.hashing.proofs.hash.Goals as goal

pub loop-word-init : goal.loop-word-init
loop-word-init c =
    let e : c.into_iter-word-iterator.result.iter.rest.now ≡ c.args.words.now = cc in rw e (stack-none _ _)

pub put-requires : goal.put-requires
put-requires c =
    let s = c.loop-word.stack in
    let fits = node-fits (few-at c.args.table.now (omega arith)) c.requires.1 _ _ (listed s)
    (rw c.in-Some.ensures.steps at c.loop-word.invariant) in
    omega (arith, fits, c.requires.1.short, length-drop s.top s.entries)

pub loop-word-preserved : goal.loop-word-preserved
loop-word-preserved c =
    rw c.put.ensures
    (node-stacked (few-at c.args.table.now (omega arith)) c.requires.1 _ _ (listed c.loop-word.stack)
    (rw c.in-Some.ensures.steps at c.loop-word.invariant))

pub bounds-stack-stack : goal.bounds-stack-stack
bounds-stack-stack c =
    let s = c.loop-word.stack in
    let some = stack-some (few-at c.args.table.now (omega arith)) c.requires.1 (listed s)
    (rw (nil_from_length _ c.in-None.ensures.steps.0) at c.loop-word.invariant) in
    omega (arith, some, length-drop s.top s.entries)

pub returns : goal.returns
returns c =
    let s = c.loop-word.stack in
    let d : Entry = record { root = 0; kept = 0 } in
    let first : get_or s.entries s.top d ≡ get_or (listed s) 0 d = sym (get_or-drop s.top s.entries 0 d ∙ rw add-zero) in
    c.value.ensures ∙ ap (fingerprint_in (signature_of c.args.table.now)) first
    ∙ stack-end (few-at c.args.table.now (omega arith)) c.requires.1 (listed s)
    (rw (nil_from_length _ c.in-None.ensures.steps.0) at c.loop-word.invariant) d
