-- The size of a whole part is kept by its key; a sum's is counted.
use native.Mathlib.Omega.{arith}
use mathlib.Core.Path.{◌≡◌, sym, ap, ◌∙◌}
use lib.ListN.{length}
use Prim.Native.Nat.{◌+◌}
use Rattle.equivalence.specs.Keys.{size_in}
use Rattle.equivalence.proofs.PreparedLaws.{prepared-kept}
use Rattle.pieces.proofs.PieceLaws.{whole_length, sum-words}
use Rattle.pieces.proofs.sizes.piece_size.Goals as goal

pub returns-then-piece-eq0-clause-value : goal.returns-then-piece-eq0-clause-value
returns-then-piece-eq0-clause-value c =
    let i = c.args.piece.offset in
    let d : i + c.size_at.result ≡ i + size_in c.args.term.now.keys.now i = omega (arith, c.size_at.ensures.0) in
    omega (arith, whole_length (prepared-kept c.args.term.now.prepared) c.requires c.if-piece-eq0.true d)

pub returns-clause-value : goal.returns-clause-value
returns-clause-value c =
    c.sum_size.ensures.value
    ∙ ap length (sym (sum-words (prepared-kept c.args.term.now.prepared) c.requires (omega (arith, c.if-piece-eq0.false))))
