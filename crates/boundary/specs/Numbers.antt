-- The numbers of a reply that cross the boundary as signed ones.
use Rattle.std.specs.Prelude.{ℕ, max, ◌<◌, Option, Some, None}
use Rattle.operations.specs.declared.GreaterSide.{GreaterSide}
use Rattle.operations.specs.declared.GreaterSide.TheVariants.{Left, Right, Equivalent, Unrelated}
use Rattle.operations.specs.declared.Summary.{Summary}
use Rattle.operations.specs.Replies.{Reply}
use Rattle.operations.specs.Replies.Reply.{accepted, refused}

-- A number of a signed 64-bit value.
abbrev pub Small : ℕ → Type 0
Small n = n < 9223372036854775808

-- That number of an answer, or the error's offset.
abbrev pub number_of : {A : Type 0} → (A → ℕ) → Reply A → ℕ
number_of m (accepted a) = m a
number_of m (refused e) = e.offset

abbrev pub count_of : ℕ → ℕ
count_of n = n

-- The count of words of the greater side; 0 where there is none.
abbrev pub words_of : GreaterSide → ℕ
words_of (Left n) = n
words_of (Right n) = n
words_of Equivalent = 0
words_of Unrelated = 0

-- The number, of terms or of a job; 0 where there is none.
abbrev pub terms_of : Option ℕ → ℕ
terms_of (Some n) = n
terms_of None = 0

-- The greatest of the counts and the score.
abbrev pub most_of : Summary → ℕ
most_of s = max s.rules (max s.decreasing s.score)
