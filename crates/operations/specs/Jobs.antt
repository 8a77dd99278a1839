-- Jobs, rule files in one buffer that are marked rule by rule: their books, and which are sound and have rules left.
-- Renders: 02, order 13: "The desks are a list of records that the caller lends, each with its book's start and length
-- in one byte buffer and its count of rules marked"; 25.
use Rattle.std.specs.Prelude.{List, [], Bool, false, ◌&&◌, ℕ, ◌+◌, leb, ltb, get_or, take, drop}
use Rattle.std.proofs.Math.ListN
use Rattle.format.specs.Reading.{Reading}
use Rattle.format.specs.Reading.Reading.{got, fault}
use Rattle.format.specs.Format.{RuleFile, system_of}
use Rattle.format.specs.Files.{read_bytes}
use Rattle.operations.specs.declared.Job.{Job}
use Rattle.operations.specs.Marking.{marks_of}

abbrev pub max_jobs : ℕ
max_jobs = 32

-- 02: "Rule r of desk d is marked at byte 1,023 times d plus r."
abbrev pub job_marks : ℕ
job_marks = 1023

-- The job at an index; past the end one with an empty book.
abbrev pub job_at : List Job → ℕ → Job
job_at jobs i = get_or jobs i (record { start = 0; length = 0; marked = 0 })

-- A job's book.
abbrev pub book_of : List ℕ → Job → List ℕ
book_of buffer job = take job.length (drop job.start buffer)

-- The marks of a book's rules; none where it is refused.
abbrev pub marks_read : Reading RuleFile → List ℕ
marks_read (got file at) = marks_of (system_of file)
marks_read (fault code offset) = []

unfoldable pub book_marks : List ℕ → List ℕ
book_marks book = marks_read (read_bytes book)

-- Whether a book is read, and has at least so many rules.
abbrev pub count_holds : ℕ → Reading RuleFile → Bool
count_holds count (got file at) = leb count (ListN.length file.rules)
count_holds count (fault code offset) = false

-- 02: 25 is for "a record whose stretch leaves the buffer, whose book is refused or whose count exceeds N".
unfoldable pub is_sound : List ℕ → Job → Bool
is_sound buffer job =
    leb (job.start + job.length) (ListN.length buffer) && count_holds job.marked (read_bytes (book_of buffer job))

unfoldable pub has_left : List ℕ → Job → Bool
has_left buffer job = ltb job.marked (ListN.length (book_marks (book_of buffer job)))
