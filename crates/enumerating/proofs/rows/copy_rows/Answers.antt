-- The loop keeps: `column` is that of word `i`, and the first `i` words are stored, whatever rows the words stand for. Those
-- copied stand before those stored, so they are as at the start.
use mathlib.Core.Path.{◌≡◌, refl, sym, ap, ◌∙◌}
use native.Mathlib.Nat.{mod-eq_of_lt}
use native.Mathlib.Omega.{arith}
use mathlib.Core.Bool.{cond}
use Prim.Native.Nat.{◌+◌}
use borrow.Author.Tests.{eq-eqb, ne_eqb, le-leb, lt-leb}
use lib.Dec.{eqb}
use lib.ListN.{length, length-set, get_or}
use lib.Seq.{sets, take_all}
use Rattle.enumerating.proofs.FrontLaws.{column_word, column-next, copy_more}
use Rattle.enumerating.proofs.rows.copy_rows.Goals as goal
use Rattle.enumerating.proofs.rows.copy_rows.Goals.{then-front-column, else-front-column, then-column-row, else-column-row}

pub loop-i-init : goal.loop-i-init
loop-i-init c = (sym (mod-eq_of_lt c.requires.2), refl, λ words r. refl)

pub loop-i-preserved : goal.loop-i-preserved
loop-i-preserved c =
    let a = c.args in
    let v = c.loop-i in
    let word : c.if-front-column.word
    ≡ column_word a.row.now a.front v.column (get_or v.out (a.from + v.i) 0) =
    elim c.if-front-column.branch [
      | then-front-column w ↦ w.word-is ∙ rw (le-leb _ _ w.if-front-column.true)
      | else-front-column w ↦ w.word-is ∙ rw (lt-leb _ _ w.if-front-column.false)
    ] in
    let next : c.if-column-row.column ≡ cond (eqb (v.column + 1) (length a.row.now)) 0 (v.column + 1) =
    elim c.if-column-row.branch [
      | then-column-row w ↦ w.column-is ∙ rw (eq-eqb _ _ w.if-column-row.true)
      | else-column-row w ↦ w.column-is ∙ rw (ne_eqb _ _ w.if-column-row.false)
    ] in (
      column-next (length a.row.now) v.i _ _ c.requires.2 v.invariant.0 next,
      simp length-set v.invariant.1,
      λ words r. copy_more a.row.now a.out.now v.out words a.front (length a.row.now) a.from a.to a.count v.i _ _
          c.requires.0 (omega arith) v.invariant.0 word r (v.invariant.2 words r),
    )

pub returns : goal.returns
returns c =
    let e : c.loop-i.i ≡ c.args.count = omega arith in record {
      by_index = λ words r. c.loop-i.invariant.2 words r ∙ ap (sets c.args.out.now c.args.to) (take_all
          c.loop-i.i words (omega (arith, r.long)));
      out_len_unchanged = c.loop-i.invariant.1;
    }
