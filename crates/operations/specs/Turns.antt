-- What a turn over a list of jobs gives back, the reply, the jobs and the marks afterwards, for every input.
-- Renders: 02, order 13: "desks, buffer and marks are inputs 0, 1 and 2"; "12 is for marks shorter than 1,023 times the
-- desks, after the two below"; 24 "tested first"; 25 "its place the lowest such desk".
use Rattle.std.specs.Prelude.{List, [], ◌∷◌, Bool, cond, ◌&&◌, ℕ, suc, zero, ◌+◌, ◌*◌, leb, ltb, length, get_or, set, Option, Some, None}
use Rattle.format.specs.Errors.{marks_too_short, no_such_job, bad_job}
use Rattle.operations.specs.declared.Job.{Job}
use Rattle.operations.specs.Replies.{Reply, ◌>>◌, demand}
use Rattle.operations.specs.Replies.Reply.{accepted, refused}
use Rattle.operations.specs.Jobs.{max_jobs, job_marks, job_at, book_of, book_marks, is_sound, has_left}

-- The first job from index i on that is not sound is an error of the jobs.
abbrev pub sound_from : List ℕ → ℕ → List Job → Reply (Unit {0})
sound_from buffer i [] = accepted tt
sound_from buffer i (job ∷ jobs) =
    cond (is_sound buffer job) (sound_from buffer (suc i) jobs)
    (refused (record { code = bad_job; input = 0; offset = i }))

-- The index after that one, going round n of them.
abbrev pub round_after : ℕ → ℕ → ℕ
round_after n i = cond (ltb (suc i) n) (suc i) 0

-- The first of so many indices from i on, going round n of them, that passes.
unfoldable pub first_from : ℕ → (ℕ → Bool) → ℕ → ℕ → Option ℕ
first_from n passes i zero = None
first_from n passes i (suc k) = cond (passes i) (Some i) (first_from n passes (round_after n i) k)

-- 02: "the next desk after the last served, going round, that has rules left".
abbrev pub next_turn : List Job → List ℕ → ℕ → Option ℕ
next_turn jobs buffer last =
    let n = length jobs in
    first_from n (λ i. has_left buffer (job_at jobs i)) (round_after n last) n

-- 24 first, then 25, then 12.
unfoldable pub turn_of : List Job → List ℕ → ℕ → ℕ → Reply (Option ℕ)
turn_of jobs buffer room last = do
  demand (leb 1 (length jobs) && leb (length jobs) max_jobs && ltb last (length jobs)) no_such_job 0
  sound_from buffer 0 jobs
  demand (leb (job_marks * length jobs) room) marks_too_short 2
  accepted (next_turn jobs buffer last)

-- The reply, and what was lent afterwards.
pub record TurnOutcome : Type 0 where
  pub reply : Reply (Option ℕ)
  pub jobs : List Job
  pub marks : List ℕ

-- A job with one rule more marked.
abbrev pub counted : Job → Job
counted job = record { start = job.start; length = job.length; marked = suc job.marked }

-- 02: "A turn marks one rule, the one its count numbers"; "it adds one to that count"; "It answers idle, changing
-- nothing, if none has."
abbrev pub after_turn : List Job → List ℕ → List ℕ → Reply (Option ℕ) → TurnOutcome
after_turn jobs buffer marks (accepted (Some i)) =
    let job = job_at jobs i in
    record {
      reply = accepted (Some i);
      jobs = set jobs i (counted job);
      marks = set marks (job_marks * i + job.marked) (get_or (book_marks (book_of buffer job)) job.marked 0);
    }
after_turn jobs buffer marks (accepted None) = record { reply = accepted None; jobs = jobs; marks = marks }
after_turn jobs buffer marks (refused e) = record { reply = refused e; jobs = jobs; marks = marks }

unfoldable pub turned : List Job → List ℕ → List ℕ → ℕ → TurnOutcome
turned jobs buffer marks last = after_turn jobs buffer marks (turn_of jobs buffer (length marks) last)
