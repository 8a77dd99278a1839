-- A turn, by what the search over all jobs has found.
--     all-searched          past the loop all jobs were looked at
--     Turned, turned-by     the reply, the jobs and the marks are the definition's
--     found-listed          the job that is served is one of the list, and its count grows
--     turned-small          the numbers of its reply are below 2^63
use mathlib.Core.List.{List}
use mathlib.Core.Path.{◌≡◌, sym, ap, ◌∙◌}
use Prim.Native.Nat.{ℕ, ◌*◌, ◌≤◌, ◌<◌}
use native.Mathlib.Omega.{arith}
use lib.ListN
use lib.Dec.{leb}
use Rattle.multisets.proofs.Relations.{by_test}
use Rattle.std.specs.Prelude.{Option, Some, None}
use Rattle.operations.specs.declared.Job.{Job}
use Rattle.operations.specs.Replies.{Reply}
use Rattle.operations.specs.Replies.Reply.{accepted}
use Rattle.operations.specs.Jobs.{max_jobs, job_marks}
use Rattle.operations.specs.Turns.{turned}
use Rattle.scheduling.specs.declared.Found.{Found}
use Rattle.scheduling.specs.declared.Search.{Search}
use Rattle.scheduling.specs.Search.{is_allowed, begun, bad_index, scanned}
use Rattle.scheduling.specs.Run.{taken, index_reply, jobs_by, marks_taken}
use Rattle.scheduling.proofs.StandingLaws.{allowed-numbers, left-few}
use Rattle.scheduling.proofs.SearchLaws.{by_option, bad-listed, end, scanned-ready, scanned-found, scanned-idle}
use Rattle.scheduling.proofs.ReplyLaws.{taken-next, scanned-replied, scanned-jobs, scanned-marks}
use Rattle.boundary.specs.Numbers.{Small, number_of, terms_of}

pub all-searched : (jobs : List Job) (buffer : List ℕ) (last i : ℕ) (s : Search) → ListN.length jobs ≤ i →
    i ≤ ListN.length jobs → s ≡ scanned jobs buffer last i → s ≡ end jobs buffer last
all-searched jobs buffer last i s low high e =
    let n : i ≡ ListN.length jobs = omega arith in e ∙ ap (scanned jobs buffer last) n

module _ (jobs : List Job) (buffer marks : List ℕ) (last : ℕ) where
  -- What the search over all jobs has found, and the turn after it.
  pub record Turned (r : Reply (Option Found)) (after : List ℕ) : Type 0 where
    pub reply : index_reply r ≡ (turned jobs buffer marks last).reply
    pub counted : jobs_by jobs r ≡ (turned jobs buffer marks last).jobs
    pub marked : after ≡ (turned jobs buffer marks last).marks

  pub turned-by : (s : Search) (r : Reply (Option Found)) (after : List ℕ) → s ≡ end jobs buffer last →
      r ≡ taken s (ListN.length marks) → after ≡ marks_taken s buffer marks → Turned r after
  turned-by s r after found e m =
      let same : r ≡ taken (end jobs buffer last) (ListN.length marks) =
      e ∙ ap (λ (t : Search). taken t (ListN.length marks)) found in
      record {
        reply = ap index_reply same ∙ scanned-replied jobs buffer last marks;
        counted = ap (jobs_by jobs) same ∙ scanned-jobs jobs buffer last marks;
        marked = m ∙ ap (λ (t : Search). marks_taken t buffer marks) found ∙ scanned-marks jobs buffer last marks;
      }

  abbrev n : ℕ
  n = ListN.length jobs

  end-next : (f : Found) → (end jobs buffer last).next ≡ Some f → (f.index < n) × (n ≤ max_jobs) × (f.job.marked < 1023)
  unfolding begun
  end-next f e =
      by_test (is_allowed n last)
      (λ ok. let (within, few) = allowed-numbers n last ok in
      let F = scanned-found jobs buffer last within ok n (omega arith) in
      let r = scanned-ready jobs buffer last f e in
      (omega (arith, F.all, r.listed), few, (left-few buffer f.job r.unfinished).1))
      λ bars. let idle : None ≡ Some f = rw (scanned-idle jobs buffer last bars n) at e in absurd (cc)

  pub found-listed : (s : Search) (f : Found) → s ≡ end jobs buffer last →
      accepted (Some f) ≡ taken s (ListN.length marks) → (f.index < n) × (n ≤ max_jobs) × (f.job.marked < 1023)
  found-listed s f found e =
      let same : taken (end jobs buffer last) (ListN.length marks) ≡ accepted (Some f) =
      ap (λ (t : Search). taken t (ListN.length marks)) (sym found) ∙ sym e in
      end-next f (taken-next (end jobs buffer last) (ListN.length marks) (Some f) same).1

  taken-small : (s : Search) (room : ℕ) → ((f : Found) → s.next ≡ Some f → Small f.index) →
      Small (number_of terms_of (index_reply (taken s room)))
  unfolding taken
  taken-small s room next =
      by_test (is_allowed s.jobs s.last)
      (λ may. by_option (bad_index s)
      (λ none. by_test (leb (job_marks * s.jobs) room)
      (λ long. by_option s.next (λ e. rw (may, none, long, e) (omega arith)) λ f e. rw (may, none, long, e) (next f e))
      λ short. rw (may, none, short) (omega arith))
      λ b e. rw (may, e) (omega (arith, (bad-listed s b e).1, (allowed-numbers s.jobs s.last may).1)))
      λ bars. rw bars (omega arith)

  pub turned-small : Small (number_of terms_of (turned jobs buffer marks last).reply)
  turned-small =
      rw (← scanned-replied jobs buffer last marks)
      (taken-small (end jobs buffer last) (ListN.length marks) λ f e. let k = end-next f e in omega (arith, k))
