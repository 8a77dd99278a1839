-- One turn over a list of jobs.
--     allowed                                          what a turn that is not refused has been lent
--     marks-are, served-below, serves-only, keeps-all  what a turn does, by its reply
--     last-listed, none-of-idle, idle-of-none          the last served is a job; a turn that is idle
--     alone-writes                                     what marking a book alone writes
use Rattle.std.specs.Prelude.{Option, Some, None}
use mathlib.Core.List.{List, ◌++◌}
use mathlib.Core.Logic.{◌≢◌}
use mathlib.Core.Path.{◌≡◌, refl, sym, ap, ◌∙◌}
use mathlib.Core.Bool.{Bool, true, false, false≢true, ◌&&◌}
use Prim.Native.Nat.{ℕ, ◌*◌, ◌≤◌, ◌<◌}
use native.Mathlib.Omega.{arith}
use lib.Dec.{leb, ltb}
use lib.ListN.{get_or, set, drop, length-set, get_or-append}
use lib.ListN
use lib.Seq.{get_or-set_same, get_or-set_other}
use borrow.Author.Tests.{ltb-true, leb-true}
use Rattle.format.specs.Errors.{marks_too_short, no_such_job}
use Rattle.format.specs.Reading.{Reading}
use Rattle.format.specs.Reading.Reading.{got, fault}
use Rattle.format.specs.Format.{RuleFile}
use Rattle.format.specs.Files.{read_bytes}
use Rattle.format.specs.Statements.IsRead.{from_bytes}
use Rattle.format.proofs.Theorems.{readable-well-formed}
use Rattle.operations.specs.declared.Job.{Job}
use Rattle.operations.specs.declared.Summary.{Summary}
use Rattle.operations.specs.Replies.{Reply, ◌>>◌, demand}
use Rattle.operations.specs.Replies.Reply.{accepted, refused}
use Rattle.operations.specs.Marking.{marked}
use Rattle.operations.specs.Jobs.{max_jobs, job_marks, job_at, book_of, book_marks, has_left}
use Rattle.operations.specs.Turns.{round_after, sound_from, next_turn, turn_of, counted, TurnOutcome, after_turn, turned}
use Rattle.operations.proofs.RoundLaws.{onward-lt, distance-lt, onward-distance}
use Rattle.operations.proofs.RoundLaws.{first-none, first_passes, first-idle}
use Rattle.guarantees.specs.Turns.{Call, run, job, book, next_byte, ServesOnly}
use Rattle.guarantees.proofs.MarkedLaws.{length-marks, marked-both}

-- ---- an accepted reply

demand-then : {B : Type 0} (ok : Bool) (code input : ℕ) (r : Reply B) (b : B) →
    ◌>>◌ (demand ok code input) r ≡ accepted b → (ok ≡ true) × (r ≡ accepted b)
demand-then true code input r b e = (refl, e)
demand-then false code input r b e = absurd (false≢true (cc))

reply-then : {A B : Type 0} (x : Reply A) (r : Reply B) (b : B) → ◌>>◌ x r ≡ accepted b → r ≡ accepted b
reply-then (accepted a) r b e = e
reply-then (refused f) r b e = absurd (false≢true (cc))

third_of : (a b c : Bool) → (a && b && c) ≡ true → c ≡ true
third_of true true c e = e
third_of true false c e = absurd (false≢true e)
third_of false b c e = absurd (false≢true e)

module _ (c : Call) where
  abbrev pub number : ℕ
  number = ListN.length c.jobs

  abbrev pub passes : ℕ → Bool
  passes i = has_left c.buffer (job_at c.jobs i)

  abbrev reply : Reply (Option ℕ)
  reply = turn_of c.jobs c.buffer (ListN.length c.marks) c.last

  reply-is : (run c).reply ≡ reply
  unfolding turned
  reply-is = go reply
    where
      go : (r : Reply (Option ℕ)) → (after_turn c.jobs c.buffer c.marks r).reply ≡ r
      go (accepted (Some i)) = refl
      go (accepted None) = refl
      go (refused e) = refl

  -- A turn that is not refused.
  pub record Allowed (t : Option ℕ) : Type 0 where
    pub within : c.last < number
    pub room : job_marks * number ≤ ListN.length c.marks
    pub turn : next_turn c.jobs c.buffer c.last ≡ t

  pub allowed : (t : Option ℕ) → (run c).reply ≡ accepted t → Allowed t
  unfolding turn_of
  allowed t e =
      let (ok, a) = demand-then (leb 1 number && leb number max_jobs && ltb c.last number) no_such_job 0 _ t
      (sym reply-is ∙ e) in
      let b = reply-then (sound_from c.buffer 0 c.jobs) _ t a in
      let (long, same) = demand-then (leb (job_marks * number) (ListN.length c.marks)) marks_too_short 2 _ t b in
      record {
        within = ltb-true c.last number (third_of (leb 1 number) (leb number max_jobs) _ ok);
        room = leb-true (job_marks * number) (ListN.length c.marks) long;
        turn = cc;
      }

  pub last-listed : (t : Option ℕ) → (run c).reply ≡ accepted t → c.last < number
  last-listed t e = (allowed t e).within

  run_of : (r : Reply (Option ℕ)) → (run c).reply ≡ r → run c ≡ after_turn c.jobs c.buffer c.marks r
  unfolding turned
  run_of r e = ap (after_turn c.jobs c.buffer c.marks) (sym reply-is ∙ e)

  pub keeps-all : ((i : ℕ) → (run c).reply ≢ accepted (Some i)) → ((run c).jobs ≡ c.jobs) × ((run c).marks ≡ c.marks)
  keeps-all none = go (run c).reply refl
    where
      go : (r : Reply (Option ℕ)) → (run c).reply ≡ r → ((run c).jobs ≡ c.jobs) × ((run c).marks ≡ c.marks)
      go (accepted (Some i)) e = absurd (none i e)
      go (accepted None) e = let o = run_of _ e in (ap (λ x. x.jobs) o, ap (λ x. x.marks) o)
      go (refused f) e = let o = run_of _ e in (ap (λ x. x.jobs) o, ap (λ x. x.marks) o)

  pub none-of-idle : (run c).reply ≡ accepted None → (i : ℕ) → i < number → passes i ≡ false
  none-of-idle e i h =
      let a = allowed None e in
      ap passes (sym (onward-distance number c.last a.within i h))
      ∙ first-idle number passes number (round_after number c.last) a.turn _
      (distance-lt number c.last a.within i h)

  pub idle-of-none : (t : Option ℕ) → (run c).reply ≡ accepted t → ((i : ℕ) → i < number → passes i ≡ false) → t ≡ None
  idle-of-none t e none =
      let a = allowed t e in
      sym a.turn
      ∙ first-none number passes number (round_after number c.last) (onward-lt number 1 c.last a.within) none

-- ---- the marks of a book

book-few : (bytes : List ℕ) → ListN.length (book_marks bytes) < 1024
unfolding book_marks
book-few bytes = go (read_bytes bytes) refl
  where
    go : (r : Reading RuleFile) → read_bytes bytes ≡ r → ListN.length (book_marks bytes) < 1024
    go (got file end) e =
        rw e (omega (
          arith,
          length-marks file,
          (readable-well-formed file (from_bytes bytes end e)).0.within.rule_count,
        ))
    go (fault code offset) e = rw e (omega arith)

left_below : (buffer : List ℕ) (j : Job) → has_left buffer j ≡ true →
    j.marked < ListN.length (book_marks (book_of buffer j))
unfolding has_left
left_below buffer j e = ltb-true j.marked (ListN.length (book_marks (book_of buffer j))) e

-- What marking alone writes.
pub alone-writes : (bytes alone : List ℕ) (s : Summary) → (marked bytes alone).reply ≡ accepted s →
    (s.rules ≡ ListN.length (book_marks bytes)) ×
    ((marked bytes alone).output ≡ book_marks bytes ++ drop (ListN.length (book_marks bytes)) alone)
unfolding book_marks marked
alone-writes bytes alone s e = go (read_bytes bytes) refl
  where
    go : (r : Reading RuleFile) → read_bytes bytes ≡ r → (s.rules ≡ ListN.length (book_marks bytes)) ×
        ((marked bytes alone).output ≡ book_marks bytes ++ drop (ListN.length (book_marks bytes)) alone)
    go (got file end) h =
        let (a, b) = marked-both bytes alone file end h s e in
        (rw h (ap (λ (x : Summary). x.rules) a), b ∙ rw h)
    go (fault code offset) h = let x = rw h at e in absurd (false≢true (cc))

-- ---- a turn that serves a job

module _ (c : Call) (i : ℕ) (e : (run c).reply ≡ accepted (Some i)) where
  jobs-are : (run c).jobs ≡ set c.jobs i (counted (job c i))
  jobs-are = ap (λ (o : TurnOutcome). o.jobs) (run_of c (accepted (Some i)) e)

  pub marks-are : (run c).marks ≡
      set c.marks (next_byte c i) (get_or (book_marks (book c i)) (job c i).marked 0)
  marks-are = ap (λ (o : TurnOutcome). o.marks) (run_of c (accepted (Some i)) e)

  served-left : (i < number c) × (passes c i ≡ true)
  served-left =
      let a = allowed c (Some i) e in
      first_passes (number c) (passes c) (number c) (round_after (number c) c.last) i
      (onward-lt (number c) 1 c.last a.within) a.turn

  -- Its count is below N, which is at most 1,023.
  pub served-below : ((job c i).marked < ListN.length (book_marks (book c i))) × ((job c i).marked < job_marks)
  served-below =
      let h = left_below c.buffer (job c i) served-left.1 in (h, omega (arith, book-few (book c i)))

  served-room : next_byte c i < ListN.length c.marks
  served-room = omega (arith, (allowed c (Some i) e).room, served-left.0, served-below.1)

  pub serves-only : ServesOnly c i
  serves-only =
      let (listed, unfinished) = served-left in
      let own : job_at (run c).jobs i ≡ counted (job c i) = rw jobs-are (get_or-set_same c.jobs i _ _ listed) in
      record {
        listed = listed;
        unfinished = unfinished;
        as_many = rw jobs-are (length-set c.jobs i _);
        counts = ap (λ (j : Job). j.marked) own;
        stays = (ap (λ (j : Job). j.start) own, ap (λ (j : Job). j.length) own);
        other_jobs = λ j n. rw jobs-are (get_or-set_other c.jobs i j _ _ n);
        as_long = rw marks-are (length-set c.marks (next_byte c i) _);
        room = served-room;
        mark = λ alone s a. let (n, w) = alone-writes (book c i) alone s a in
            rw (marks-are, w)
            (get_or-set_same c.marks (next_byte c i) _ 0 served-room
            ∙ sym (get_or-append (book_marks (book c i)) _ 0 (job c i).marked served-below.0));
        other_bytes = λ b n. rw marks-are (get_or-set_other c.marks (next_byte c i) b _ 0 n);
      }
