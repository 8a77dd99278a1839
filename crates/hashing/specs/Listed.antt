-- The entries of a stack, from its top on.
use Rattle.std.specs.Prelude.{List, drop}
use Rattle.hashing.specs.declared.Entry.{Entry}
use Rattle.hashing.specs.declared.Stack.{Stack}

abbrev pub listed : Stack → List Entry
listed s = drop s.top s.entries
