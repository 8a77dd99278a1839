-- The loop keeps: the bytes before this one are pushed.
use lib.ListN.{take}
use Rattle.text.specs.Put.{Pushed}
use Rattle.text.proofs.Text.push_bytes.Given as goal

abbrev pub invariant-loop-byte : goal.invariant-loop-byte
invariant-loop-byte l = Pushed l.initial.self (take l.byte-index l.bytes) l.self
