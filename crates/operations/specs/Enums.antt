-- What the replies of the functions stand for.
-- Renders: 01, "What form each place needs": "When an answer is an enum, a definition gives this paper's number and
-- values for each of its cases".
use Rattle.std.specs.Prelude.{ℕ, Result, Ok, Err}
use Rattle.format.specs.Errors.{number_of}
use Rattle.operations.specs.declared.Error as code
use Rattle.operations.specs.declared.Mark.{Mark}
use Rattle.operations.specs.declared.Mark.TheVariants as mark
use Rattle.operations.specs.Replies.{Error, Reply}
use Rattle.operations.specs.Replies.Reply.{accepted, refused}

-- 01's refusal that an error of the code stands for.
abbrev pub error_of : code.Error → Error
error_of e = record { code = number_of e.code; input = e.input; offset = e.offset }

-- The reply that the result of an operation stands for.
abbrev pub reply_of : {A : Type 0} → Result A code.Error → Reply A
reply_of (Ok a) = accepted a
reply_of (Err e) = refused (error_of e)

-- 01's and 02's number of each mark.
abbrev pub mark_number : Mark → ℕ
mark_number mark.FallsByWeight = 1
mark_number mark.FallsByRank = 2
mark_number mark.FallsByArguments = 3
mark_number mark.FallsByHighTerms = 4
mark_number mark.FallsByCount = 5
mark_number mark.FallsByLowTerms = 6
mark_number mark.VariableAdded = 7
mark_number mark.LeftLighter = 8
mark_number mark.SidesEqual = 9
mark_number mark.NoCase = 10
mark_number mark.FallsByWrapping = 11
