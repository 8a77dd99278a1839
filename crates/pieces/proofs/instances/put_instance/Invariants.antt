-- The loop keeps: the words put, with those of the pattern's words that are left, are those of the instance.
use Rattle.symbols.specs.Table.{signature_of}
use Rattle.pieces.proofs.PieceLaws.{Filling}
use Rattle.pieces.proofs.instances.put_instance.Given as goal

abbrev pub invariant-loop-word : goal.invariant-loop-word
invariant-loop-word l =
    Filling (signature_of l.term.table.now) l.term.words.now l.bindings.offsets l.bindings.masks l.pattern
    l.initial.out.words l.initial.out.count l.out.words l.out.count l.word-index
