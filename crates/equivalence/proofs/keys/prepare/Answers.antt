-- The loop keeps: the keys from i on are those of the terms that start there. A term's key is made of those of its
-- arguments, which stand to its right.
use native.Mathlib.Omega.{arith}
use lib.ListN.{length-set}
use Rattle.equivalence.proofs.PrepareLaws.{keyed-step}
use Rattle.equivalence.proofs.keys.prepare.Goals as goal

pub overflow_sub-keys : goal.overflow_sub-keys
overflow_sub-keys c =
    let a = c.args in
    let l = c.loop-i in
    let h = keyed-step a.table.now a.words.now l.keys l.i (omega arith)
    c.requires.complete (omega arith)
    (omega arith) (omega arith) (omega arith) l.invariant.1 c.arity.ensures.0
    c.is_ac.ensures
    c.gather-end.ensures.end_value c.gather-end.ensures.hash_value.0 in
    omega arith

pub overflow_add-keys-in-loop-i : goal.overflow_add-keys-in-loop-i
overflow_add-keys-in-loop-i c =
    let a = c.args in
    let l = c.loop-i in
    let h = keyed-step a.table.now a.words.now l.keys l.i (omega arith)
    c.requires.complete (omega arith)
    (omega arith) (omega arith) (omega arith) l.invariant.1 c.arity.ensures.0
    c.is_ac.ensures
    c.gather-end.ensures.end_value c.gather-end.ensures.hash_value.0 in
    omega arith

pub loop-i-preserved : goal.loop-i-preserved
loop-i-preserved c =
    let a = c.args in
    let l = c.loop-i in
    let h = keyed-step a.table.now a.words.now l.keys l.i (omega arith)
    c.requires.complete (omega arith)
    (omega arith) (omega arith) (omega arith) l.invariant.1 c.arity.ensures.0
    c.is_ac.ensures
    c.gather-end.ensures.end_value c.gather-end.ensures.hash_value.0 in
    (simp length-set l.invariant.0, h.2 _ (omega arith))
