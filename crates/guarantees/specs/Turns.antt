-- What a reader may rely on of one turn over a list of jobs. Proofs: proofs/Theorems.antt.
-- Renders: 02, order 13: "Only that desk's count and that byte change"; "It answers idle, changing nothing, if none
-- has".
use Rattle.std.specs.Prelude.{List, ◌↔◌, ◌≢◌, ◌≡◌, true, false, ℕ, suc, ◌+◌, ◌*◌, ◌<◌, get_or, Option, Some, None}
use Rattle.std.proofs.Math.ListN
use Rattle.operations.specs.declared.Job.{Job}
use Rattle.operations.specs.declared.Summary.{Summary}
use Rattle.operations.specs.Replies.Reply.{accepted}
use Rattle.operations.specs.Marking.{marked}
use Rattle.operations.specs.Jobs.{job_marks, job_at, book_of, has_left}
use Rattle.operations.specs.Turns.{TurnOutcome, turned}

-- What a turn is lent, and the index of the job that was served last.
pub record Call : Type 0 where
  pub jobs : List Job
  pub buffer : List ℕ
  pub marks : List ℕ
  pub last : ℕ

abbrev pub run : Call → TurnOutcome
run c = turned c.jobs c.buffer c.marks c.last

-- The job at an index, its book, whether it has rules left, and the byte of its next rule.
module _ (c : Call) (i : ℕ) where
  abbrev pub job : Job
  job = job_at c.jobs i

  abbrev pub book : List ℕ
  book = book_of c.buffer job

  abbrev pub left : Type 0
  left = has_left c.buffer job ≡ true

  abbrev pub next_byte : ℕ
  next_byte = job_marks * i + job.marked

-- The job at index i is served: it has rules left, its count is one more, and the byte of that rule is what marking
-- alone writes for it; no other job and no other byte has changed.
pub record ServesOnly (c : Call) (i : ℕ) : Type 0 where
  pub listed : i < ListN.length c.jobs
  pub unfinished : left c i
  pub as_many : ListN.length (run c).jobs ≡ ListN.length c.jobs
  pub counts : (job_at (run c).jobs i).marked ≡ suc (job c i).marked
  pub stays : ((job_at (run c).jobs i).start ≡ (job c i).start) × ((job_at (run c).jobs i).length ≡ (job c i).length)
  pub other_jobs : (j : ℕ) → j ≢ i → job_at (run c).jobs j ≡ job c j
  pub as_long : ListN.length (run c).marks ≡ ListN.length c.marks
  pub room : next_byte c i < ListN.length c.marks
  pub mark : (alone : List ℕ) (s : Summary) → (marked (book c i) alone).reply ≡ accepted s →
      get_or (run c).marks (next_byte c i) 0 ≡ get_or (marked (book c i) alone).output (job c i).marked 0
  pub other_bytes : (b : ℕ) → b ≢ next_byte c i → get_or (run c).marks b 0 ≡ get_or c.marks b 0

abbrev pub TurnServesOnly : Type 0
TurnServesOnly = (c : Call) (i : ℕ) → (run c).reply ≡ accepted (Some i) → ServesOnly c i

-- A turn that serves none, refused or idle, changes nothing.
abbrev pub OthersKeepAll : Type 0
OthersKeepAll = (c : Call) → ((i : ℕ) → (run c).reply ≢ accepted (Some i)) →
    ((run c).jobs ≡ c.jobs) × ((run c).marks ≡ c.marks)

-- Of turns that are not refused, those are idle that find no job with rules left.
abbrev pub IdleExactly : Type 0
IdleExactly = (c : Call) (t : Option ℕ) → (run c).reply ≡ accepted t →
    (t ≡ None) ↔ ((i : ℕ) → i < ListN.length c.jobs → has_left c.buffer (job c i) ≡ false)
