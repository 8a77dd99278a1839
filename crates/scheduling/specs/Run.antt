-- The turn after a search: its reply, and what it leaves in the marks and the jobs.
use Rattle.std.specs.Prelude.{List, ℕ, suc, ◌+◌, ◌*◌, leb, get_or, set, Option, Some, None}
use Rattle.std.proofs.Math.ListN
use Rattle.format.specs.Errors.{marks_too_short, no_such_job, bad_job}
use Rattle.operations.specs.declared.Job.{Job}
use Rattle.operations.specs.Replies.{Reply, ◌>>◌, demand}
use Rattle.operations.specs.Replies.Reply.{accepted, refused}
use Rattle.operations.specs.Jobs.{job_marks, job_at, book_of, book_marks}
use Rattle.scheduling.specs.declared.Found.{Found}
use Rattle.scheduling.specs.declared.Search.{Search}
use Rattle.scheduling.specs.Search.{is_allowed, bad_index}

-- The error of the first job that is not sound.
abbrev pub sound_reply : Option ℕ → Reply (Unit {0})
sound_reply (Some i) = refused (record { code = bad_job; input = 0; offset = i })
sound_reply None = accepted tt

-- The job that a turn serves, by the index of one that is not sound, what was found and how many bytes the marks have.
abbrev pub served_by : Option ℕ → Search → ℕ → Reply (Option Found)
served_by bad s room = do
  demand (is_allowed s.jobs s.last) no_such_job 0
  sound_reply bad
  demand (leb (job_marks * s.jobs) room) marks_too_short 2
  accepted s.next

unfoldable pub served : Search → ℕ → Reply (Option Found)
served s room = served_by s.bad s room

-- The same, but that a `bad` that is no job's index counts as none.
unfoldable pub taken : Search → ℕ → Reply (Option Found)
taken s room = served_by (bad_index s) s room

-- The reply to the turn: the index of that job.
abbrev pub index_reply : Reply (Option Found) → Reply (Option ℕ)
index_reply (accepted (Some f)) = accepted (Some f.index)
index_reply (accepted None) = accepted None
index_reply (refused e) = refused e

abbrev pub reply_of : Search → ℕ → Reply (Option ℕ)
reply_of s room = index_reply (served s room)

abbrev pub taken_reply : Search → ℕ → Reply (Option ℕ)
taken_reply s room = index_reply (taken s room)

-- The marks after it.
abbrev pub marks_by : List ℕ → List ℕ → Reply (Option Found) → List ℕ
marks_by buffer marks (accepted (Some f)) =
    set marks (job_marks * f.index + f.job.marked) (get_or (book_marks (book_of buffer f.job)) f.job.marked 0)
marks_by buffer marks (accepted None) = marks
marks_by buffer marks (refused e) = marks

unfoldable pub marks_after : Search → List ℕ → List ℕ → List ℕ
marks_after s buffer marks = marks_by buffer marks (served s (ListN.length marks))

unfoldable pub marks_taken : Search → List ℕ → List ℕ → List ℕ
marks_taken s buffer marks = marks_by buffer marks (taken s (ListN.length marks))

-- A job with another count, and the jobs with another count at an index.
abbrev pub recount : Job → ℕ → Job
recount job count = record { start = job.start; length = job.length; marked = count }

abbrev pub recounted : List Job → ℕ → ℕ → List Job
recounted jobs i count = set jobs i (recount (job_at jobs i) count)

-- The jobs after it: the one that is served has one rule more marked.
abbrev pub jobs_by : List Job → Reply (Option Found) → List Job
jobs_by jobs (accepted (Some f)) = recounted jobs f.index (suc f.job.marked)
jobs_by jobs (accepted None) = jobs
jobs_by jobs (refused e) = jobs
