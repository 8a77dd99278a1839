-- What a reader may rely on of turns one after another: turn k is lent `calls k`, and between two turns anyone may
-- change all that is not said to be kept. Proofs: proofs/Theorems.antt.
-- Renders: 02, order 13: "A desk with rules left is served within as many turns as there are desks, whoever else hands
-- in"; "has the marks that marking alone gives once its count is N".
use Rattle.std.specs.Prelude.{List, ◌≡◌, ℕ, suc, ◌*◌, ◌<◌, take, drop, Option, Some, None}
use Rattle.std.proofs.Math.ListN
use Rattle.operations.specs.declared.Summary.{Summary}
use Rattle.operations.specs.Replies.{Reply}
use Rattle.operations.specs.Replies.Reply.{accepted, refused}
use Rattle.operations.specs.Marking.{marked}
use Rattle.operations.specs.Jobs.{job_marks, job_at}
use Rattle.guarantees.specs.Turns.{Call, run, job, book, left}

-- What the caller passes on as the last served.
abbrev pub last_after : ℕ → Reply (Option ℕ) → ℕ
last_after last (accepted (Some i)) = i
last_after last (accepted None) = last
last_after last (refused e) = last

-- The stretch of the marks for job d.
abbrev pub marks_for : ℕ → List ℕ → List ℕ
marks_for d marks = take job_marks (drop (job_marks * d) marks)

module _ (calls : ℕ → Call) (d : ℕ) where
  -- From turn k to the next, job d has its index, its record but for what turn k did, and its book.
  pub record JobKept (k : ℕ) : Type 0 where
    pub record-kept : job (calls (suc k)) d ≡ job_at (run (calls k)).jobs d
    pub book-kept : book (calls (suc k)) d ≡ book (calls k) d

  -- 02: "if the caller passes on the last place, keeps .. the number of desks".
  pub record PassedOn (k : ℕ) : Type 0 where
    pub number-kept : ListN.length (calls (suc k)).jobs ≡ ListN.length (calls k).jobs
    pub last-passed : (calls (suc k)).last ≡ last_after (calls k).last (run (calls k)).reply

  -- The marks of job d are as turn k left them.
  abbrev pub MarksKept : ℕ → Type 0
  MarksKept k = marks_for d (calls (suc k)).marks ≡ marks_for d (run (calls k)).marks

-- A job with rules left is served by one of the first n turns, n the number of jobs, if none of them is refused.
abbrev pub ServedWithin : Type 0
ServedWithin = (calls : ℕ → Call) (d : ℕ) → let n = ListN.length (calls 0).jobs in
    d < n → left (calls 0) d →
    ((k : ℕ) → k < n → (t : Option ℕ) × ((run (calls k)).reply ≡ accepted t)) →
    ((k : ℕ) → suc k < n → JobKept calls d k × PassedOn calls d k) →
    (k : ℕ) × (k < n) × ((run (calls k)).reply ≡ accepted (Some d))

-- A job begun at count 0 has, once its count is N, the marks that marking its book alone writes; turns may be refused,
-- and the number of jobs and the last served may be any.
abbrev pub MarksAsAlone : Type 0
MarksAsAlone = (calls : ℕ → Call) (d m : ℕ) → (job (calls 0) d).marked ≡ 0 →
    ((k : ℕ) → k < m → JobKept calls d k × MarksKept calls d k) →
    (alone : List ℕ) (s : Summary) → (marked (book (calls 0) d) alone).reply ≡ accepted s →
    (job (calls m) d).marked ≡ s.rules →
    take s.rules (marks_for d (calls m).marks) ≡ take s.rules (marked (book (calls 0) d) alone).output
