-- The loop keeps: the first k elements are split by their roots.
use mathlib.Core.Path.{sym, ◌∙◌}
use Rattle.std.proofs.Common.{◌≡◌, arith, Less, Equal, Greater}
use Rattle.std.proofs.lemmas.Cmp.{ranked}
use Rattle.symbols.specs.Table.{signature_of}
use Rattle.equivalence.proofs.OffsetLaws.{offsets-own, offsets-length}
use Rattle.extensions.proofs.SplitLaws.{split-variable, split-above, split_below, split_level}
use Rattle.extensions.proofs.parts.Parts.list.Goals.{then-word-ge-FIRST_VARIABLE, else-word-ge-FIRST_VARIABLE+in-Greater, else-word-ge-FIRST_VARIABLE+in-Less, else-word-ge-FIRST_VARIABLE+in-Equal}
use Rattle.extensions.proofs.parts.Parts.list.Goals as goal

pub loop-k-preserved : goal.loop-k-preserved
loop-k-preserved c =
    let (all, S) = c.loop-k.invariant in
    let P = offsets-own (signature_of c.args.term.now.table.now) c.args.term.now.words.now _ _ _ c.elements.ensures in
    let l = c.loop-k-test.true in
    let e = c.get-p.ensures.0 in
    let rank = c.precedence-rank in
    elim c.if-word-ge-FIRST_VARIABLE.branch [
      | then-word-ge-FIRST_VARIABLE w ↦
          rw (w.self-is, w.push.ensures.bytes_after, w.push.ensures.count_after, e)
          (all, split-variable S P l (rw e at w.if-word-ge-FIRST_VARIABLE.true))
      | else-word-ge-FIRST_VARIABLE+in-Greater w ↦
          rw (w.self-is, w.push-in-Greater.ensures.bytes_after, w.push-in-Greater.ensures.count_after, e) (
            all,
            split-above S P l (rw e at w.if-word-ge-FIRST_VARIABLE.false)
                (rw (rank.ensures, w.precedence.ensures, e) at (ranked w.precedence.result rank.result Greater w.in-Greater.ensures)),
          )
      | else-word-ge-FIRST_VARIABLE+in-Less w ↦
          rw (w.self-is, w.push-in-Less.ensures.bytes_after, w.push-in-Less.ensures.count_after, e) (
            all,
            split_below S P l (rw e at w.if-word-ge-FIRST_VARIABLE.false)
                (rw (rank.ensures, w.precedence.ensures, e) at (ranked w.precedence.result rank.result Less w.in-Less.ensures)),
          )
      | else-word-ge-FIRST_VARIABLE+in-Equal w ↦
          rw w.self-is (
            all,
            split_level S P l (rw e at w.if-word-ge-FIRST_VARIABLE.false)
                (rw (rank.ensures, w.precedence.ensures, e) at (ranked w.precedence.result rank.result Equal w.in-Equal.ensures)),
          )
    ]

pub returns : goal.returns
returns c =
    let (all, S) = c.loop-k.invariant in
    let e : c.loop-k.k ≡ c.elements.new.offsets.count = omega arith in
    let E = c.elements.ensures in
    record {
      high = rw (e, E.there) at S.high;
      low = rw (e, E.there) at S.low;
      vars = rw (e, E.there) at S.vars_in;
      whole = all ∙ sym (offsets-length E);
    }
