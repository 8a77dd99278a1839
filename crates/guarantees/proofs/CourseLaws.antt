-- Many turns over a list of jobs, one after another.
--     served-by       a job with rules left is served by the turn that its distance tells
--     marks-alone     the marks of a job, turn by turn, and once all its rules are marked
use Rattle.std.specs.Prelude.{Option, Some, None}
use mathlib.Core.List.{List, [], ◌∷◌, ◌++◌}
use mathlib.Core.Logic.{◌≢◌}
use mathlib.Core.Path.{◌≡◌, refl, sym, ap, ◌∙◌}
use mathlib.Core.Bool.{false≢true}
use Prim.Native.Nat.{ℕ, suc, zero, ◌+◌, ◌-◌, ◌*◌, ◌≤◌, ◌<◌}
use native.Mathlib.Omega.{arith}
use lib.Dec.{eqb}
use lib.ListN.{get_or, set, take, drop, length-drop}
use lib.ListN
use lib.Seq.{drop-set-lt, drop-set-add, take-set-le, take-suc-set, take-suc, take-take}
use lib.Seq.{take-length, take-append_seam}
use borrow.Author.Tests.{eqb-true, eqb-false}
use Rattle.multisets.proofs.Relations.{by_test, by_order}
use Rattle.operations.specs.declared.Job.{Job}
use Rattle.operations.specs.declared.Summary.{Summary}
use Rattle.operations.specs.Replies.{Reply}
use Rattle.operations.specs.Replies.Reply.{accepted, refused}
use Rattle.operations.specs.Marking.{marked}
use Rattle.operations.specs.Jobs.{job_marks, job_at, book_marks, has_left}
use Rattle.operations.specs.Turns.{round_after}
use Rattle.operations.proofs.RoundLaws.{onward, onward-add}
use Rattle.operations.proofs.RoundLaws.{first_some}
use Rattle.guarantees.specs.Turns.{Call, run, job, book, left}
use Rattle.guarantees.specs.Courses.{last_after, marks_for}
use Rattle.guarantees.specs.Courses.{JobKept, PassedOn, MarksKept}
use Rattle.guarantees.proofs.TurnLaws.{passes, allowed, marks-are, served-below, serves-only, keeps-all}
use Rattle.guarantees.proofs.TurnLaws.{alone-writes}

-- ---- served within a round

left-kept : (calls : ℕ → Call) (d : ℕ) → JobKept calls d 0 → job (calls 1) d ≡ job (calls 0) d → left (calls 0) d →
    left (calls 1) d
unfolding has_left
left-kept calls d kept same l = rw (kept.book-kept, ap (λ (j : Job). j.marked) same) l

-- By the turn whose number is the distance to the job, at most.
pub served-by : (b : ℕ) (calls : ℕ → Call) (n d j : ℕ) → j < b → ListN.length (calls 0).jobs ≡ n → j < n →
    left (calls 0) d → onward n (round_after n (calls 0).last) j ≡ d →
    ((k : ℕ) → k ≤ j → (t : Option ℕ) × ((run (calls k)).reply ≡ accepted t)) →
    ((k : ℕ) → k < j → JobKept calls d k × PassedOn calls d k) →
    (k : ℕ) × (k ≤ j) × ((run (calls k)).reply ≡ accepted (Some d))
served-by zero calls n d j h long near l there replied kept = absurd (omega arith)
served-by (suc b) calls n d j h long near l there replied kept =
    let (t, e) = replied 0 (omega arith) in
    let a = allowed (calls 0) t e in
    let (p, met) = first_some n (passes (calls 0)) n j (round_after n (calls 0).last) d near there l in
    let served : (run (calls 0)).reply ≡ accepted (Some p) =
    e ∙ ap (λ (u : Option ℕ). accepted u) (sym a.turn ∙ rw long met.first) in
    by_test (eqb p d)
    (λ q. (0, omega arith, served ∙ ap (λ (i : ℕ). accepted (Some i)) (eqb-true p d q)))
    λ q. let other : d ≢ p = λ s. eqb-false p d q (sym s) in
    let before : met.steps < j =
    by_order met.steps j (λ o. o) λ o. absurd (eqb-false p d q
    (sym met.there ∙ ap (onward n (round_after n (calls 0).last)) (same met.steps j met.soon o) ∙ there)) in
    let (kept_now, passed) = kept 0 (omega arith) in
    let last : (calls 1).last ≡ p = passed.last-passed ∙ ap (last_after (calls 0).last) served in
    let record_same : job (calls 1) d ≡ job (calls 0) d =
    kept_now.record-kept ∙ (serves-only (calls 0) p served).other_jobs d other in
    let rest = j - suc met.steps in
    let count : j ≡ met.steps + suc rest = omega arith in
    let later : onward n (round_after n (calls 1).last) rest ≡ d =
    rw last (ap (λ (i : ℕ). onward n i (suc rest)) (sym met.there)
    ∙ sym (onward-add n (round_after n (calls 0).last) met.steps (suc rest))
    ∙ ap (onward n (round_after n (calls 0).last)) (sym count) ∙ there) in
    let (k, within, at) =
    served-by b (λ k. calls (suc k)) n d rest (omega arith) (passed.number-kept ∙ long) (omega arith)
    (left-kept calls d kept_now record_same l) later (λ k o. replied (suc k) (omega arith))
    (λ k o. let (x, y) = kept (suc k) (omega arith) in (
      record { record-kept = x.record-kept; book-kept = x.book-kept },
      record { number-kept = y.number-kept; last-passed = y.last-passed },
    )) in
    (suc k, omega arith, at)
  where
    same : (x y : ℕ) → x ≤ y → y ≤ x → x ≡ y
    same x y h g = omega arith

-- ---- the marks of a job

-- A byte for another job lies outside the stretch for job d.
stretch-other : (d i r v : ℕ) (marks : List ℕ) → i ≢ d → r < job_marks →
    marks_for d (set marks (job_marks * i + r) v) ≡ marks_for d marks
stretch-other d i r v marks o h =
    by_order i d
    (λ l. ap (take job_marks) (drop-set-lt (job_marks * d) marks (job_marks * i + r) v (omega arith)))
    λ l. let apart : d < i = omega (arith, o) in
    let x = job_marks * i + r - job_marks * d in
    let there : job_marks * i + r ≡ job_marks * d + x = omega arith in
    rw there (ap (take job_marks) (drop-set-add (job_marks * d) marks x v)
    ∙ take-set-le job_marks (drop (job_marks * d) marks) x v (omega arith))

-- The first marks of the stretch are those of the book, as many as the count says.
record Progress (all : List ℕ) (d count : ℕ) (marks : List ℕ) : Type 0 where
  few : count ≤ ListN.length all
  same : take count (marks_for d marks) ≡ take count all

progress-one : (all marks : List ℕ) (d count : ℕ) → count < ListN.length all → count < job_marks →
    job_marks * d + count < ListN.length marks → Progress all d count marks →
    Progress all d (suc count) (set marks (job_marks * d + count) (get_or all count 0))
progress-one all marks d count less h room p =
    let rest = drop (job_marks * d) marks in
    record {
      few = less;
      same = rw (drop-set-add (job_marks * d) marks count (get_or all count 0))
          (take-take (suc count) job_marks (set rest count (get_or all count 0)) (omega arith)
          ∙ take-suc-set rest count (get_or all count 0) (omega (arith, length-drop (job_marks * d) marks))
          ∙ ap (λ (l : List ℕ). l ++ (get_or all count 0 ∷ []))
          (sym (take-take count job_marks rest (omega arith)) ∙ p.same)
          ∙ sym (take-suc all count 0 less));
    }

progress-turn : (c : Call) (d : ℕ) (all : List ℕ) → book_marks (book c d) ≡ all →
    Progress all d (job c d).marked c.marks → Progress all d (job_at (run c).jobs d).marked (run c).marks
progress-turn c d all b p = go (run c).reply refl
  where
    kept : ((i : ℕ) → (run c).reply ≢ accepted (Some i)) →
        Progress all d (job_at (run c).jobs d).marked (run c).marks
    kept none = let (x, y) = keeps-all c none in rw (x, y) p

    go : (r : Reply (Option ℕ)) → (run c).reply ≡ r → Progress all d (job_at (run c).jobs d).marked (run c).marks
    go (accepted (Some i)) e =
        by_test (eqb i d)
        (λ q. let s = eqb-true i d q in let e' = rw s at e in
        let o = serves-only c d e' in let (less, h) = served-below c d e' in
        rw (o.counts, marks-are c d e', b)
        (progress-one all c.marks d (job c d).marked (rw b at less) h o.room p))
        λ q. let apart : i ≢ d = eqb-false i d q in
        let o = serves-only c i e in
        rw (o.other_jobs d (λ s. apart (sym s)), marks-are c i e)
        (record {
          few = p.few;
          same = ap (take (job c d).marked)
              (stretch-other d i (job c i).marked _ c.marks apart (served-below c i e).1) ∙ p.same;
        })
    go (accepted None) e = kept λ i s. let z : accepted None ≡ accepted (Some i) = sym e ∙ s in false≢true (cc)
    go (refused f) e = kept λ i s. let z : refused f ≡ accepted (Some i) = sym e ∙ s in false≢true (cc)

-- From turn to turn the book is the same, and as many of its marks are there as the count says.
progress-all : (m : ℕ) (calls : ℕ → Call) (d : ℕ) → (job (calls 0) d).marked ≡ 0 →
    ((k : ℕ) → k < m → JobKept calls d k × MarksKept calls d k) →
    (book (calls m) d ≡ book (calls 0) d) ×
    Progress (book_marks (book (calls 0) d)) d (job (calls m) d).marked (calls m).marks
progress-all zero calls d begun kept = (refl, rw begun (record { few = omega arith; same = refl }))
progress-all (suc m) calls d begun kept =
    let (b, p) = progress-all m calls d begun (λ k h. kept k (omega arith)) in
    let (j, s) = kept m (omega arith) in
    let q = progress-turn (calls m) d (book_marks (book (calls 0) d)) (ap book_marks b) p in (
      j.book-kept ∙ b,
      rw j.record-kept
          (record { few = q.few; same = ap (take (job_at (run (calls m)).jobs d).marked) s ∙ q.same }),
    )

pub marks-alone : (m : ℕ) (calls : ℕ → Call) (d : ℕ) (alone : List ℕ) (s : Summary) → (job (calls 0) d).marked ≡ 0 →
    ((k : ℕ) → k < m → JobKept calls d k × MarksKept calls d k) →
    (marked (book (calls 0) d) alone).reply ≡ accepted s → (job (calls m) d).marked ≡ s.rules →
    take s.rules (marks_for d (calls m).marks) ≡ take s.rules (marked (book (calls 0) d) alone).output
marks-alone m calls d alone s begun kept reply all =
    let marks = book_marks (book (calls 0) d) in
    let (n, w) = alone-writes (book (calls 0) d) alone s reply in
    let (b, p) = progress-all m calls d begun kept in
    let q = rw all at p.same in
    q ∙ rw (w, n) (take-length marks ∙ sym (take-append_seam marks (drop (ListN.length marks) alone)))
