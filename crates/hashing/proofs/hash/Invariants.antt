-- The loop keeps: the stack has the entries of the terms that the words to the right of those left spell.
use Rattle.symbols.specs.Table.{signature_of}
use Rattle.hashing.specs.Listed.{listed}
use Rattle.hashing.proofs.StackLaws.{Stacked}
use Rattle.hashing.proofs.hash.Given as goal

abbrev pub invariant-loop-word : goal.invariant-loop-word
invariant-loop-word l = Stacked (signature_of l.table) l.words l.word-iterator.iter.rest.now (listed l.stack)
