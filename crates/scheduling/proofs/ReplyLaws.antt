-- The turn after a search over all jobs is the definition's.
--     taken-next, served-next                          what a turn serves is what was found
--     served-taken                                     `served` and `taken` agree where `bad` is a job's or none
--     scanned-replied, scanned-jobs, scanned-marks     the reply, the jobs and the marks
use Rattle.std.specs.Prelude.{Option, Some, None}
use mathlib.Core.List.{List, [], ◌∷◌}
use mathlib.Core.Path.{◌≡◌, refl, sym, ap, ◌∙◌}
use mathlib.Core.Bool.{Bool, true, false, false≢true}
use Prim.Native.Nat.{ℕ, suc, zero, ◌+◌, ◌*◌, ◌<◌}
use native.Mathlib.Nat.{add-zero, add-suc, suc-add, zero-add}
use native.Mathlib.Omega.{arith}
use lib.Dec.{leb}
use lib.ListN.{get_or, set}
use lib.ListN
use Rattle.multisets.proofs.Relations.{by_test}
use Rattle.format.specs.Errors.{marks_too_short, no_such_job, bad_job}
use Rattle.operations.specs.declared.Job.{Job}
use Rattle.operations.specs.Replies.{Reply, ◌>>◌, demand}
use Rattle.operations.specs.Replies.Reply.{accepted, refused}
use Rattle.operations.specs.Jobs.{job_marks, job_at, book_of, book_marks, is_sound, has_left}
use Rattle.operations.specs.Turns.{round_after, sound_from, next_turn, turn_of, after_turn, turned}
use Rattle.operations.proofs.RoundLaws.{onward, onward-lt, distance, distance-lt, onward-distance, distance-onward}
use Rattle.operations.proofs.RoundLaws.{first_some, first-none}
use Rattle.scheduling.specs.declared.Found.{Found}
use Rattle.scheduling.specs.declared.Search.{Search}
use Rattle.scheduling.specs.Search.{is_allowed, begun, bad_index}
use Rattle.scheduling.specs.Run.{sound_reply, served_by, served, taken, index_reply, taken_reply}
use Rattle.scheduling.specs.Run.{marks_by, marks_taken, recounted, jobs_by}
use Rattle.scheduling.proofs.StandingLaws.{allowed-numbers}
use Rattle.scheduling.proofs.SearchLaws.{by_option, bad-listed, Searched, scanned-found, scanned-idle, end}

-- ---- the first of some jobs that is not sound, the first of them with that index
sound-all : (buffer : List ℕ) (i : ℕ) (jobs : List Job) →
    ((j : ℕ) → j < ListN.length jobs → is_sound buffer (job_at jobs j) ≡ true) → sound_from buffer i jobs ≡ accepted tt
sound-all buffer i [] h = refl
sound-all buffer i (job ∷ jobs) h =
    rw (h 0 (omega arith)) (sound-all buffer (suc i) jobs λ j k. h (suc j) (omega arith))

sound-until : (buffer : List ℕ) (i : ℕ) (jobs : List Job) (b : ℕ) → b < ListN.length jobs →
    is_sound buffer (job_at jobs b) ≡ false → ((j : ℕ) → j < b → is_sound buffer (job_at jobs j) ≡ true) →
    sound_from buffer i jobs ≡ refused (record { code = bad_job; input = 0; offset = i + b })
sound-until buffer i [] b h y before = absurd (omega arith)
sound-until buffer i (job ∷ jobs) zero h y before = rw (y, add-zero)
sound-until buffer i (job ∷ jobs) (suc b) h y before =
    rw (before 0 (omega arith), add-suc)
    (sound-until buffer (suc i) jobs b (omega arith) y (λ j k. before (suc j) (omega arith)) ∙ rw suc-add)

-- ---- the reply

-- What follows in a reply that is accepted.
demand-then : {B : Type 0} (a : Bool) (code input : ℕ) (r : Reply B) (t : B) →
    ◌>>◌ (demand a code input) r ≡ accepted t → (a ≡ true) × (r ≡ accepted t)
demand-then true code input r t e = (refl, e)
demand-then false code input r t e = absurd (false≢true (cc))

reply-then : {A B : Type 0} (x : Reply A) (r : Reply B) (t : B) → ◌>>◌ x r ≡ accepted t → r ≡ accepted t
reply-then (accepted a) r t e = e
reply-then (refused f) r t e = absurd (false≢true (cc))

next-by : (bad : Option ℕ) (s : Search) (room : ℕ) (x : Option Found) → served_by bad s room ≡ accepted x →
    (is_allowed s.jobs s.last ≡ true) × (s.next ≡ x)
next-by bad s room x e =
    let (may, a) = demand-then (is_allowed s.jobs s.last) no_such_job 0 _ x e in
    let b = reply-then (sound_reply bad) _ x a in
    let (long, q) = demand-then (leb (job_marks * s.jobs) room) marks_too_short 2 _ x b in (may, cc)

pub taken-next : (s : Search) (room : ℕ) (x : Option Found) → taken s room ≡ accepted x →
    (is_allowed s.jobs s.last ≡ true) × (s.next ≡ x)
unfolding taken
taken-next s room x e = next-by (bad_index s) s room x e

pub served-next : (s : Search) (room : ℕ) (x : Option Found) → served s room ≡ accepted x →
    (is_allowed s.jobs s.last ≡ true) × (s.next ≡ x)
unfolding served
served-next s room x e = next-by s.bad s room x e

pub served-taken : (s : Search) (room : ℕ) → bad_index s ≡ s.bad → served s room ≡ taken s room
unfolding served taken
served-taken s room h = rw h refl

module _ (jobs : List Job) (buffer : List ℕ) (last : ℕ) where
  abbrev number : ℕ
  number = ListN.length jobs

  abbrev found : Search
  found = end jobs buffer last

  abbrev passes : ℕ → Bool
  passes i = has_left buffer (job_at jobs i)

  module _ (ok : is_allowed number last ≡ true) where
    abbrev listed : last < number
    listed = (allowed-numbers number last ok).0

    abbrev F : Searched jobs buffer last listed number found
    F = scanned-found jobs buffer last listed ok number (omega arith)

    sound-same : sound_from buffer 0 jobs ≡ sound_reply (bad_index found)
    sound-same =
        by_option (bad_index found) (λ none. rw none (sound-all buffer 0 jobs (F.none_bad none)))
        λ b e. let (h, y, before) = F.first_bad b (bad-listed found b e).0 in
        rw e (sound-until buffer 0 jobs b h y before ∙ rw zero-add)

    next-same : bad_index found ≡ None → index_reply (accepted found.next) ≡ accepted (next_turn jobs buffer last)
    next-same sound =
        by_option found.next
        (λ none. rw none (ap accepted
        (sym (first-none number passes number (round_after number last) (onward-lt number 1 last listed)
        (F.none_left sound none)))))
        λ f e. let (g, own, y, there', begins) = F.own f e in
        let d = f.index in
        let there = onward-distance number last listed d g in
        let near = distance-lt number last listed d g in
        let (p, met) = first_some number passes number (distance number last listed d) (round_after number last) d near
        there there' in
        let few = met.soon in
        let here : p < number = rw (← met.there)
        (onward-lt number met.steps (round_after number last) (onward-lt number 1 last listed)) in
        let least = F.nearest sound f e p here met.passed in
        let at : distance number last listed p ≡ met.steps =
        ap (distance number last listed) (sym met.there)
        ∙ distance-onward number last listed met.steps (omega arith) in
        let steps : met.steps ≡ distance number last listed d = omega arith in
        let same : p ≡ d = sym met.there ∙ ap (onward number (round_after number last)) steps ∙ there in
        rw e (ap accepted (sym (met.first ∙ ap (λ (i : ℕ). Some i) same)))

  -- The reply to the turn is the definition's.
  pub scanned-reply : (room : ℕ) → taken_reply found room ≡ turn_of jobs buffer room last
  unfolding taken turn_of is_allowed begun
  scanned-reply room =
      by_test (is_allowed number last)
      (λ ok. let all = (F ok).all in
      let may : is_allowed found.jobs found.last ≡ true = rw (all, (F ok).from) ok in
      by_option (bad_index found)
      (λ none. rw (may, ok, sound-same ok, none, all)
      (by_test (leb (job_marks * number) room) (λ long. rw long (next-same ok none)) λ short. rw short refl))
      λ b e. rw (may, ok, sound-same ok, e) refl)
      λ bars. rw (scanned-idle jobs buffer last bars number, bars) refl

  after-reply : (marks : List ℕ) (r : Reply (Option ℕ)) → (after_turn jobs buffer marks r).reply ≡ r
  after-reply marks (accepted (Some i)) = refl
  after-reply marks (accepted None) = refl
  after-reply marks (refused e) = refl

  pub scanned-replied : (marks : List ℕ) →
      taken_reply found (ListN.length marks) ≡ (turned jobs buffer marks last).reply
  unfolding turned
  scanned-replied marks =
      scanned-reply (ListN.length marks) ∙ sym (after-reply marks (turn_of jobs buffer (ListN.length marks) last))

  -- The job that is served is the one with its index.
  served-own : (room : ℕ) (f : Found) → taken found room ≡ accepted (Some f) → f.job ≡ job_at jobs f.index
  unfolding begun
  served-own room f e =
      let (may, next) = taken-next found room (Some f) e in
      by_test (is_allowed number last) (λ ok. ((F ok).own f next).1)
      λ bars. let idle : None ≡ Some f = rw (scanned-idle jobs buffer last bars number) at next in absurd (cc)

  pub scanned-jobs : (marks : List ℕ) →
      jobs_by jobs (taken found (ListN.length marks)) ≡ (turned jobs buffer marks last).jobs
  unfolding turned
  scanned-jobs marks =
      go (taken found (ListN.length marks)) refl
      ∙ ap (λ (r : Reply (Option ℕ)). (after_turn jobs buffer marks r).jobs) (scanned-reply (ListN.length marks))
    where
      go : (r : Reply (Option Found)) → taken found (ListN.length marks) ≡ r →
          jobs_by jobs r ≡ (after_turn jobs buffer marks (index_reply r)).jobs
      go (accepted (Some f)) e =
          ap (λ (job : Job). recounted jobs f.index (suc job.marked)) (served-own (ListN.length marks) f e)
      go (accepted None) e = refl
      go (refused f) e = refl

  pub scanned-marks : (marks : List ℕ) → marks_taken found buffer marks ≡ (turned jobs buffer marks last).marks
  unfolding turned marks_taken
  scanned-marks marks =
      go (taken found (ListN.length marks)) refl
      ∙ ap (λ (r : Reply (Option ℕ)). (after_turn jobs buffer marks r).marks) (scanned-reply (ListN.length marks))
    where
      go : (r : Reply (Option Found)) → taken found (ListN.length marks) ≡ r →
          marks_by buffer marks r ≡ (after_turn jobs buffer marks (index_reply r)).marks
      go (accepted (Some f)) e =
          ap
          (λ (job : Job).
          set marks (job_marks * f.index + job.marked) (get_or (book_marks (book_of buffer job)) job.marked 0))
          (served-own (ListN.length marks) f e)
      go (accepted None) e = refl
      go (refused f) e = refl
