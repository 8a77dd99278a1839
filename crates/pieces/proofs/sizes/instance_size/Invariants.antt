-- The loop keeps: the words counted, with those of the pattern's words that are left, are those of the instance.
use Rattle.symbols.specs.Table.{signature_of}
use Rattle.pieces.proofs.PieceLaws.{Measured}
use Rattle.pieces.proofs.sizes.instance_size.Given as goal

abbrev pub invariant-loop-word : goal.invariant-loop-word
invariant-loop-word l =
    Measured (signature_of l.term.table.now) l.term.words.now l.bindings.offsets l.bindings.masks l.pattern
    l.word-index l.count
