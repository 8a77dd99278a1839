-- The theorems on turns, by computation, for four turns over three jobs. Between the turns the others hand in, take
-- away, write over a book and write over marks; job 0 is served first and last, and has its marks then.
use Rattle.std.specs.Prelude.{Option, Some, None}
use mathlib.Core.List.{List, [], ◌∷◌, ◌++◌}
use mathlib.Core.Path.{◌≡◌, refl, sym, ◌∙◌}
use mathlib.Core.Bool.{false, false≢true}
use Prim.Native.Nat.{ℕ, suc, zero, ◌<◌}
use native.Mathlib.Omega.{arith}
use lib.ListN.{take, set, replicate}
use Rattle.multisets.specs.Multiset.{multiset_equal, multiset_greater, row_equal, row_greater}
use Rattle.terms.specs.Words.{forest_of}
use Rattle.terms.specs.Equivalence.{is_equivalent_to, is_equivalent}
use Rattle.terms.specs.Order.{none_oftener, flattened_mark, root_mark, decreasing_mark, is_greater_to, is_greater, mark}
use Rattle.format.specs.Reading.{bit_field}
use Rattle.format.specs.Symbols.{symbol_reader, symbols_reader, symbol_table_reader}
use Rattle.format.specs.Format.{forest_reader, side_reader, rule_reader, rules_reader, body_reader, file_reader}
use Rattle.format.specs.Files.{whole_reader, read_bytes_in}
use Rattle.format.specs.Listing.{listing}
use Rattle.operations.specs.declared.Job.{Job}
use Rattle.operations.specs.Replies.Reply.{accepted}
use Rattle.operations.specs.Marking.{marked}
use Rattle.operations.specs.Score.{nearest, score_of}
use Rattle.operations.specs.Jobs.{book_marks, is_sound, has_left}
use Rattle.operations.specs.Turns.{first_from, turn_of, turned}
use Rattle.guarantees.specs.Turns.{Call, run, job, ServesOnly}
use Rattle.guarantees.specs.Courses.{marks_for, JobKept, PassedOn, MarksKept}
use Rattle.guarantees.proofs.Theorems.{turn-serves-only, others-keep-all, idle-exactly}
use Rattle.guarantees.proofs.Theorems.{served-within, marks-as-alone}

-- The listing, of which so many rules are marked, and after it a book of one constant without rules.
abbrev whole : ℕ → Job
whole count = record { start = 0; length = 17; marked = count }

abbrev bare : Job
bare = record { start = 17; length = 9; marked = 0 }

abbrev books : List ℕ
books = listing ++ (32 ∷ 16 ∷ 0 ∷ 16 ∷ 0 ∷ 0 ∷ 0 ∷ 64 ∷ 0 ∷ [])

abbrev call : List Job → List ℕ → List ℕ → ℕ → Call
call jobs buffer marks last = record { jobs = jobs; buffer = buffer; marks = marks; last = last }

-- The marks at the start, and as each turn and the others after it left them.
abbrev marks₀ : List ℕ
marks₀ = replicate 3069 7

abbrev marks₁ : List ℕ
marks₁ = set (set marks₀ 0 2) 2046 9

abbrev marks₂ : List ℕ
marks₂ = set marks₁ 1024 10

abbrev marks₃ : List ℕ
marks₃ = set (set marks₂ 2046 2) 1024 0

abbrev marks₄ : List ℕ
marks₄ = set marks₃ 1 10

-- After the first turn job 2 hands in the listing and writes over its marks; after the second the book without rules is
-- written over; after the third job 1 takes its book away, hands in again and writes over its marks.
abbrev course : ℕ → Call
course zero = call (whole 0 ∷ whole 1 ∷ bare ∷ []) books marks₀ 2
course (suc zero) = call (whole 1 ∷ whole 1 ∷ whole 0 ∷ []) books marks₁ 0
course (suc (suc zero)) = call (whole 1 ∷ whole 2 ∷ whole 0 ∷ []) (listing ++ (0 ∷ [])) marks₂ 1
course (suc (suc (suc zero))) = call (whole 1 ∷ whole 0 ∷ whole 1 ∷ []) (listing ++ (0 ∷ [])) marks₃ 2
course (suc (suc (suc (suc k)))) = call (whole 2 ∷ whole 0 ∷ whole 1 ∷ []) (listing ++ (0 ∷ [])) marks₄ 0

-- ---- one turn

-- The second turn serves job 1, and changes its count and its byte.
second-served : ServesOnly (course 1) 1
unfolding turned turn_of first_from is_sound has_left book_marks read_bytes_in whole_reader file_reader body_reader
    symbol_table_reader symbols_reader symbol_reader rules_reader rule_reader side_reader forest_reader bit_field forest_of
second-served = turn-serves-only (course 1) 1 refl

second-changes : ((run (course 1)).jobs ≡ whole 1 ∷ whole 2 ∷ whole 0 ∷ []) × ((run (course 1)).marks ≡ marks₂)
unfolding turned turn_of first_from is_sound has_left book_marks read_bytes_in whole_reader file_reader body_reader
    symbol_table_reader symbols_reader symbol_reader rules_reader rule_reader side_reader forest_reader bit_field forest_of mark
    is_greater is_greater_to decreasing_mark root_mark flattened_mark none_oftener is_equivalent is_equivalent_to row_equal
    row_greater multiset_equal multiset_greater
second-changes = (refl, refl)

-- Of three jobs none has rules left.
abbrev finished : Call
finished = call (whole 2 ∷ whole 2 ∷ bare ∷ []) books marks₀ 1

finished-idle : (run finished).reply ≡ accepted None
unfolding turned turn_of first_from is_sound has_left book_marks read_bytes_in whole_reader file_reader body_reader
    symbol_table_reader symbols_reader symbol_reader rules_reader rule_reader side_reader forest_reader bit_field forest_of
finished-idle = refl

finished-left : (i : ℕ) → i < 3 → has_left finished.buffer (job finished i) ≡ false
finished-left = (idle-exactly finished None finished-idle).0 refl

finished-kept : ((run finished).jobs ≡ finished.jobs) × ((run finished).marks ≡ marks₀)
finished-kept =
    others-keep-all finished
    λ i e. let z : accepted None ≡ accepted (Some i) = sym finished-idle ∙ e in false≢true (cc)

-- ---- served within three turns

-- After the first turn job 0 has a rule left; the others are served before it, and it by the third turn from there.
abbrev later : ℕ → Call
later k = course (suc k)

later-replies : (k : ℕ) → k < 3 → (t : Option ℕ) × ((run (later k)).reply ≡ accepted t)
unfolding turned turn_of first_from is_sound has_left book_marks read_bytes_in whole_reader file_reader body_reader
    symbol_table_reader symbols_reader symbol_reader rules_reader rule_reader side_reader forest_reader bit_field forest_of
later-replies zero h = (Some 1, refl)
later-replies (suc zero) h = (Some 2, refl)
later-replies (suc (suc zero)) h = (Some 0, refl)
later-replies (suc (suc (suc k))) h = absurd (omega arith)

later-kept : (k : ℕ) → suc k < 3 → JobKept later 0 k × PassedOn later 0 k
unfolding turned turn_of first_from is_sound has_left book_marks read_bytes_in whole_reader file_reader body_reader
    symbol_table_reader symbols_reader symbol_reader rules_reader rule_reader side_reader forest_reader bit_field forest_of
later-kept zero h =
    (record { record-kept = refl; book-kept = refl }, record { number-kept = refl; last-passed = refl })
later-kept (suc zero) h =
    (record { record-kept = refl; book-kept = refl }, record { number-kept = refl; last-passed = refl })
later-kept (suc (suc k)) h = absurd (omega arith)

later-served : (k : ℕ) × (k < 3) × ((run (later k)).reply ≡ accepted (Some 0))
unfolding has_left book_marks read_bytes_in whole_reader file_reader body_reader symbol_table_reader symbols_reader symbol_reader
    rules_reader rule_reader side_reader forest_reader bit_field forest_of
later-served = served-within later 0 (omega arith) refl later-replies later-kept

-- ---- the marks of the whole run

run-kept : (k : ℕ) → k < 4 → JobKept course 0 k × MarksKept course 0 k
unfolding turned turn_of first_from is_sound has_left book_marks read_bytes_in whole_reader file_reader body_reader
    symbol_table_reader symbols_reader symbol_reader rules_reader rule_reader side_reader forest_reader bit_field forest_of mark
    is_greater is_greater_to decreasing_mark root_mark flattened_mark none_oftener is_equivalent is_equivalent_to row_equal
    row_greater multiset_equal multiset_greater
run-kept zero h = (record { record-kept = refl; book-kept = refl }, refl)
run-kept (suc zero) h = (record { record-kept = refl; book-kept = refl }, refl)
run-kept (suc (suc zero)) h = (record { record-kept = refl; book-kept = refl }, refl)
run-kept (suc (suc (suc zero))) h = (record { record-kept = refl; book-kept = refl }, refl)
run-kept (suc (suc (suc (suc k)))) h = absurd (omega arith)

-- The listing alone: two rules, of which one falls.
abbrev alone : List ℕ
alone = 0 ∷ 0 ∷ []

alone-replies : (marked listing alone).reply ≡ accepted (record { rules = 2; decreasing = 1; score = 50 })
unfolding marked score_of nearest read_bytes_in whole_reader file_reader body_reader symbol_table_reader symbols_reader
    symbol_reader rules_reader rule_reader side_reader forest_reader bit_field forest_of mark is_greater is_greater_to
    decreasing_mark root_mark flattened_mark none_oftener is_equivalent is_equivalent_to row_equal row_greater multiset_equal
    multiset_greater
alone-replies = refl

job-marked : take 2 (marks_for 0 marks₄) ≡ take 2 (marked listing alone).output
job-marked = marks-as-alone course 0 4 refl run-kept alone _ alone-replies refl

-- They are 2 and 10.
job-marks : take 2 (marks_for 0 marks₄) ≡ 2 ∷ 10 ∷ []
job-marks = refl
