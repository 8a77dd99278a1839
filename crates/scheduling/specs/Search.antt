-- A search over jobs, job by job, for the next that has rules left.
use Rattle.std.specs.Prelude.{List, ◌≡◌, Bool, true, cond, ◌&&◌, ℕ, suc, zero, ◌+◌, ◌≤◌, ◌<◌, leb, ltb}
use Rattle.std.specs.Prelude.{Option, Some, None, is_some, option_and_then}
use Rattle.std.proofs.Math.ListN
use Rattle.operations.specs.declared.Job.{Job}
use Rattle.operations.specs.Jobs.{max_jobs, job_at, book_of, has_left}
use Rattle.seeking.specs.declared.Standing.{Standing}
use Rattle.seeking.specs.declared.Standing.TheVariants.{Bad, Done, Left}
use Rattle.seeking.specs.One.{file_standing}
use Rattle.scheduling.specs.declared.Found.{Found}
use Rattle.scheduling.specs.declared.Search.{Search}

-- How a job stands: as its book does, where that lies in the buffer.
unfoldable pub standing_of : Job → List ℕ → Standing
standing_of job buffer =
    cond (leb (job.start + job.length) (ListN.length buffer)) (file_standing (book_of buffer job) job.marked) Bad

unfoldable pub is_allowed : ℕ → ℕ → Bool
is_allowed jobs last = leb 1 jobs && leb jobs max_jobs && ltb last jobs

-- The index comes after the last served, and the one that was found does not; or none was found.
abbrev pub precedes : ℕ → Option Found → ℕ → Bool
precedes last (Some f) i = ltb last i && leb f.index last
precedes last None i = true

unfoldable pub comes_first : Search → ℕ → Bool
comes_first s i = precedes s.last s.next i

unfoldable pub begun : ℕ → ℕ → Search
begun jobs last = record { jobs = jobs; last = last; bad = None; next = None }

-- What is found at an index: nothing where that is no job's.
abbrev pub at_index : {A : Type 0} → Search → ℕ → A → Option A
at_index s i a = cond (ltb i s.jobs) (Some a) None

-- The index of the job that is not sound: none where it is no job's.
abbrev pub bad_index : Search → Option ℕ
bad_index s = option_and_then (λ i. at_index s i i) s.bad

-- The search with a job that is not sound, and with one that comes first.
abbrev pub found_bad : Search → ℕ → Search
found_bad s i = record { jobs = s.jobs; last = s.last; bad = at_index s i i; next = s.next }

abbrev pub found_next : Search → ℕ → Job → ℕ → Search
found_next s i job at = record {
  jobs = s.jobs;
  last = s.last;
  bad = s.bad;
  next = at_index s i (record { index = i; job = job; at = at });
}

abbrev pub found_at : Standing → Search → ℕ → Job → Search
found_at Bad s i job = found_bad s i
found_at Done s i job = s
found_at (Left at) s i job = cond (comes_first s i) (found_next s i job at) s

-- The search once a job has been looked at too, by the index of one that is not sound: then nothing more is found.
abbrev pub looked_by : Option ℕ → Search → ℕ → Job → List ℕ → Search
looked_by bad s i job buffer =
    cond (is_allowed s.jobs s.last) (cond (is_some bad) s (found_at (standing_of job buffer) s i job)) s

unfoldable pub looked : Search → ℕ → Job → List ℕ → Search
looked s i job buffer = looked_by s.bad s i job buffer

-- The same, but that a `bad` that is no job's index counts as none.
unfoldable pub visited : Search → ℕ → Job → List ℕ → Search
visited s i job buffer = looked_by (bad_index s) s i job buffer

-- The search once the first i jobs have been looked at.
abbrev pub scanned : List Job → List ℕ → ℕ → ℕ → Search
scanned jobs buffer last zero = begun (ListN.length jobs) last
scanned jobs buffer last (suc i) = visited (scanned jobs buffer last i) i (job_at jobs i) buffer

-- A job that was found is one of so many, its book is in the buffer, and it has rules left, the next of which begins
-- there.
pub record FoundIn (jobs : ℕ) (buffer : List ℕ) (f : Found) : Type 0 where
  pub listed : f.index < jobs
  pub within : f.job.start + f.job.length ≤ ListN.length buffer
  pub unfinished : has_left buffer f.job ≡ true
  pub begins : file_standing (book_of buffer f.job) f.job.marked ≡ Left f.at

abbrev pub Ready : Search → List ℕ → Type 0
Ready s buffer = (f : Found) → s.next ≡ Some f → FoundIn s.jobs buffer f
