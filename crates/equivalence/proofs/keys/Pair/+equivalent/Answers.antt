-- The cycle of the AC-equivalence test: what each member needs is shown in a file of its own.
use native.Mathlib.Omega.{arith}
use mathlib.Core.Path.{◌≡◌, refl, ◌∙◌, sym}
use Prim.Native.Nat.{◌+◌, ◌-◌, ◌<◌}
use lib.ListN.{length}
use Rattle.equivalence.proofs.PreparedLaws.{both-kept}
use Rattle.equivalence.proofs.StepLaws.{step-some, step-next, step-own}
use Rattle.equivalence.proofs.RemovalLaws.{removed-offsets}
use Rattle.equivalence.proofs.AlikeLaws.{cancelled-none, cancelled-own, cancelled-absent, cancelled-more, equivalent-keys, keys-roots, equivalent-elements, inner-left, inner-right, equivalent-rows, ac-small, equivalent-leaves, rows_none, rows-unlike, rows_more, rows-one}
use Rattle.equivalence.proofs.ElementLaws.{elements-few}
use Rattle.equivalence.specs.Offsets.{alike_at}
use mathlib.Core.Bool.{true, false}
use borrow.Author.Count.{below_more}
use Rattle.equivalence.proofs.keys.Pair.+equivalent.Goals.{partner-else-self-j-via-then-self-j+else-equivalent, partner-then-leaf, partner-else-leaf, partner-else-self-j-via-else-self-j}
use Rattle.equivalence.proofs.keys.Pair.+equivalent.Goals as goal

pub cancels-loop-owed-preserved-then-self-at : goal.cancels-loop-owed-preserved-then-self-at
cancels-loop-owed-preserved-then-self-at t c =
    let S = both-kept c.args.self.now.both_prepared in
    let f = c.args.f in
    let g = c.loop-owed.invariant in
    let own = c.if-self-at.true in
    let n = c.arity.ensures.0 in
    record {
      ahead = omega arith;
      terms = step-own S.left g.terms (omega arith) f own c.requires.f_bound n;
      rest = g.rest;
      same = cancelled-own S f g.terms g.rest (omega arith) own c.requires.f_bound n refl ∙ g.same;
    }

pub cancels-returns-in_default : goal.cancels-returns-in_default
cancels-returns-in_default t c =
    let g = c.loop-owed.invariant in
    cancelled-absent (both-kept c.args.self.now.both_prepared) c.args.f g.terms g.rest (omega arith)
    c.if-self-at.false c.in_default.ensures refl ∙ g.same

pub cancels-loop-owed-smaller : goal.cancels-loop-owed-smaller
cancels-loop-owed-smaller t c =
    let S = both-kept c.args.self.now.both_prepared in
    let p = step-some S.left c.loop-owed.invariant.terms (omega arith) in
    omega (arith, c.size_at-at.ensures.0)

pub cancels-loop-owed-preserved : goal.cancels-loop-owed-preserved
cancels-loop-owed-preserved t c =
    let S = both-kept c.args.self.now.both_prepared in
    let g = c.loop-owed.invariant in
    let p = c.in-Some.ensures in
    let w = c.size_at-at.ensures.0 in
    let d = c.delete.ensures.count_after in
    let o = rw d at c.delete.ensures.offsets_after in
    let some : c.in-Some.k ≡ c.loop-owed.offsets.count → ⊥ = λ e. omega (arith, p.0) in
    rw d (record {
      ahead = omega arith;
      terms = step-next S.left g.terms (omega arith) w;
      rest = removed-offsets c.args.self.now.left.table.now _ g.rest p.1 some _ o (omega arith);
      same = cancelled-more S c.args.f g.terms g.rest (omega arith) c.if-self-at.false p.1 some _ o w refl ∙ g.same;
    })

pub cancels-returns : goal.cancels-returns
cancels-returns t c =
    let g = c.loop-owed.invariant in
    cancelled-none (both-kept c.args.self.now.both_prepared) c.args.f g.terms g.rest (omega arith) ∙ g.same

-- Terms with equal keys have one root; its arguments decide, as flattenings where it is AC and as rows where it is not.
pub equivalent-returns-then-self-i : goal.equivalent-returns-then-self-i
equivalent-returns-then-self-i t c =
    equivalent-keys (both-kept c.args.self.now.both_prepared) c.args.i c.args.j c.requires.i_in_bounds.0 c.requires.i_in_bounds.1
    c.if-self-i.true

pub equivalent-flattenings_equivalent-requires : goal.equivalent-flattenings_equivalent-requires
equivalent-flattenings_equivalent-requires t c =
    let a = c.args in
    let table = a.self.now.left.table.now in
    let S = both-kept a.self.now.both_prepared in
    let n = c.arity-n.ensures.0 in
    let e = keys-roots S a.i a.j c.requires.i_in_bounds.0 c.requires.i_in_bounds.1 c.if-self-i.false in
    let ac = sym c.is_ac.ensures ∙ c.if-is_ac.true in
    let v = ac-small table S.small _ ac in
    let few = elements-few table S.right a.j _ S.small c.requires.i_in_bounds.1 (sym e) v (S.binary _ ac) n in
    let left = inner-left S a.i a.j c.requires.i_in_bounds.0 c.requires.i_in_bounds.1 e n in
    let right = inner-right S a.i a.j c.requires.i_in_bounds.0 c.requires.i_in_bounds.1 e n in
    (omega arith, ((left, right), (v, few)))

pub equivalent-returns-then-is_ac : goal.equivalent-returns-then-is_ac
equivalent-returns-then-is_ac t c =
    let a = c.args in
    let S = both-kept a.self.now.both_prepared in
    let e = keys-roots S a.i a.j c.requires.i_in_bounds.0 c.requires.i_in_bounds.1 c.if-self-i.false in
    equivalent-elements S a.i a.j c.requires.i_in_bounds.0 c.requires.i_in_bounds.1 e c.arity-n.ensures.0
    (sym c.is_ac.ensures ∙ c.if-is_ac.true) c.flattenings_equivalent.ensures

pub equivalent-rows_equivalent-requires : goal.equivalent-rows_equivalent-requires
equivalent-rows_equivalent-requires t c =
    let a = c.args in
    let S = both-kept a.self.now.both_prepared in
    let n = c.arity-n.ensures.0 in
    let e = keys-roots S a.i a.j c.requires.i_in_bounds.0 c.requires.i_in_bounds.1 c.if-self-i.false in (
      omega arith,
      (
        inner-left S a.i a.j c.requires.i_in_bounds.0 c.requires.i_in_bounds.1 e n,
        inner-right S a.i a.j c.requires.i_in_bounds.0 c.requires.i_in_bounds.1 e n,
      ),
    )

pub equivalent-returns : goal.equivalent-returns
equivalent-returns t c =
    let a = c.args in
    let S = both-kept a.self.now.both_prepared in
    let e = keys-roots S a.i a.j c.requires.i_in_bounds.0 c.requires.i_in_bounds.1 c.if-self-i.false in
    equivalent-rows S a.i a.j c.requires.i_in_bounds.0 c.requires.i_in_bounds.1 e c.arity-n.ensures.0
    (sym c.is_ac.ensures ∙ c.if-is_ac.false) c.rows_equivalent.ensures

pub partner-returns-then-equivalent : goal.partner-returns-then-equivalent
partner-returns-then-equivalent t c =
    let S = both-kept c.args.self.now.both_prepared in
    let e = c.get-j.ensures.0 in
    let inside : c.get-j.result < length c.args.self.now.right.words.now =
    rw e (c.requires.offsets_in.inside _ c.loop-k-test.true) in
    let d : alike_at c.args.self.now.left.table.now c.args.self.now.left.words.now c.args.i
    c.args.self.now.right.words.now c.get-j.result ≡ true =
    elim c.if-leaf.branch [
      | partner-then-leaf w ↦ sym (equivalent-leaves S c.args.i c.get-j.result c.requires.i_in_bounds inside
          (omega (arith, w.if-leaf.true, c.size_at-leaf.ensures.0)) (sym c.if-self-j.true))
      | partner-else-leaf w ↦ sym w.equivalent.ensures ∙ sym w.value-is ∙ c.if-equivalent.true
    ] in (
      c.loop-k-test.true,
      record {
        within = omega arith;
        before = c.loop-k.invariant;
        found = λ _. rw e at d;
      },
    )

pub partner-loop-k-preserved : goal.partner-loop-k-preserved
partner-loop-k-preserved t c =
    let S = both-kept c.args.self.now.both_prepared in
    let e = c.get-j.ensures.0 in
    let inside : c.get-j.result < length c.args.self.now.right.words.now =
    rw e (c.requires.offsets_in.inside _ c.loop-k-test.true) in
    let d : alike_at c.args.self.now.left.table.now c.args.self.now.left.words.now c.args.i
    c.args.self.now.right.words.now c.get-j.result ≡ false =
    elim c.else-self-j.branch [
      | partner-else-self-j-via-then-self-j+else-equivalent w ↦ elim w.if-leaf.branch [
        | partner-then-leaf w' ↦ absurd (cc (w'.value-is, w.if-equivalent.false))
        | partner-else-leaf w' ↦ sym w'.equivalent.ensures ∙ sym w'.value-is ∙ w.if-equivalent.false
      ]
      | partner-else-self-j-via-else-self-j w ↦ sym (equivalent-keys S c.args.i c.get-j.result c.requires.i_in_bounds inside
          (λ x. w.if-self-j.false (sym x)))
    ] in
    below_more _ _ c.loop-k.invariant (rw e at d)

pub rows_equivalent-returns-then-n-eq0 : goal.rows_equivalent-returns-then-n-eq0
rows_equivalent-returns-then-n-eq0 t c =
    rows_none (both-kept c.args.self.now.both_prepared) c.requires.stands.0 c.requires.stands.1 c.if-n-eq0.true

pub rows_equivalent-loop-init : goal.rows_equivalent-loop-init
rows_equivalent-loop-init t c =
    let left : c.args.n - 1 + 1 ≡ c.args.n = omega arith in
    rw left (record { ahead = omega arith; here = c.requires.stands.0; there = c.requires.stands.1; same = refl })

pub rows_equivalent-returns-then-not-equivalent : goal.rows_equivalent-returns-then-not-equivalent
rows_equivalent-returns-then-not-equivalent t c =
    let S = both-kept c.args.self.now.both_prepared in
    let g = c.loop.invariant in
    rows-unlike S g.here g.there (omega arith) (sym c.if-not-equivalent.true ∙ c.equivalent.ensures) ∙ g.same

pub rows_equivalent-loop-preserved : goal.rows_equivalent-loop-preserved
rows_equivalent-loop-preserved t c =
    let S = both-kept c.args.self.now.both_prepared in
    let g = c.loop.invariant in
    let w = c.size_at-at.ensures.0 in
    let v = c.size_at-to.ensures.0 in
    let e = sym c.if-not-equivalent.false ∙ c.equivalent.ensures in
    let left : c.args.n - (c.loop.counter + 1) + 1 ≡ c.args.n - c.loop.counter + 1 - 1 = omega arith in
    rw left (record {
      ahead = omega arith;
      here = step-next S.left g.here (omega arith) w;
      there = step-next S.right g.there (omega arith) v;
      same = rows_more S g.here g.there (omega arith) e w v refl ∙ g.same;
    })

pub rows_equivalent-returns : goal.rows_equivalent-returns
rows_equivalent-returns t c =
    let g = c.loop.invariant in
    rows-one (both-kept c.args.self.now.both_prepared) g.here g.there (omega arith) c.equivalent-2.ensures ∙ g.same
