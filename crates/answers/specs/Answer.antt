-- What the results of reading stand for.
use Rattle.std.specs.Prelude.{ℕ, ◌<◌, ◌≤◌, Result, Ok, Err, Option, Some, None}
use Rattle.format.specs.Errors.{number_of}
use Rattle.format.specs.Reading.{Reading}
use Rattle.format.specs.Reading.Reading.{got, fault}
use Rattle.format.specs.declared.ErrorCode.{ErrorCode}
use Rattle.answers.specs.declared.Fault as code

-- The fault that reading tells, by the code of an error.
abbrev pub Fault : Type 0
Fault = code.Fault ErrorCode

-- A value with the offset past what was read, or the fault.
abbrev pub Answer : Type 0
Answer = Result (ℕ × ℕ) Fault

-- The reading of what a value stands for.
abbrev pub reading_of : {A : Type 0} → (ℕ → A) → Answer → Reading A
reading_of meaning (Ok (value, next)) = got (meaning value) next
reading_of meaning (Err f) = fault (number_of f.code) f.offset

-- The reading of a number, as the answer tells it.
abbrev pub reading : Answer → Reading ℕ
reading answer = reading_of (λ v. v) answer

-- A reading of which a number and the end are told.
abbrev pub answered : {A : Type 0} → (A → ℕ) → Reading A → Reading ℕ
answered value (got a next) = got (value a) next
answered value (fault code offset) = fault code offset

-- A reading of which the end alone is told, and what tells it.
abbrev pub end_of : {A : Type 0} → Reading A → Reading ℕ
end_of r = answered (λ _. 0) r

abbrev pub ended : Result ℕ Fault → Reading ℕ
ended (Ok next) = got 0 next
ended (Err f) = fault (number_of f.code) f.offset

-- The value is below that.
abbrev pub Below : ℕ → Answer → Type 0
Below bound (Ok (value, next)) = value < bound
Below bound (Err f) = Unit {0}

-- The value is at most that, and the end of what was read by that offset.
abbrev pub Within : ℕ → ℕ → Answer → Type 0
Within most last (Ok (value, next)) = (value ≤ most) × (next ≤ last)
Within most last (Err f) = Unit {0}

-- The answer that an error, if there is one, with a value and an offset beside it stands for.
abbrev pub answer_of : {C : Type 0} → Option C → ℕ → ℕ → Result (ℕ × ℕ) (code.Fault C)
answer_of None value offset = Ok (value, offset)
answer_of (Some code) value offset = Err (record { code = code; offset = offset })
