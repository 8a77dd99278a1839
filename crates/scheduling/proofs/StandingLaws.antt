-- How a job stands, by its book.
--     Known, known                              what is known of a job by how it stands
--     left-few                                  a job with rules left has at most 1,023
--     allowed-numbers                           the numbers of a turn
use mathlib.Core.List.{List}
use mathlib.Core.Path.{◌≡◌, refl, ◌∙◌}
use mathlib.Core.Bool.{Bool, true, false, false≢true, ◌&&◌}
use Prim.Native.Nat.{ℕ, ◌+◌, ◌≤◌, ◌<◌}
use native.Mathlib.Omega.{arith}
use lib.Dec.{leb, ltb}
use lib.ListN.{length-map}
use lib.ListN
use Rattle.multisets.proofs.Relations.{by_order}
use borrow.Author.Tests.{lt-ltb, le-ltb, le-leb, lt-leb, ltb-true, leb-true}
use Rattle.format.specs.Reading.{Reading}
use Rattle.format.specs.Reading.Reading.{got, fault}
use Rattle.format.specs.Format.{RuleFile, system_of}
use Rattle.format.specs.Files.{read_bytes}
use Rattle.format.specs.Statements.IsRead.{from_bytes}
use Rattle.format.proofs.Theorems.{readable-well-formed}
use Rattle.operations.specs.declared.Job.{Job}
use Rattle.operations.specs.Marking.{marks_of}
use Rattle.operations.specs.Jobs.{max_jobs, book_of, book_marks, is_sound, has_left}
use Rattle.seeking.specs.declared.Standing.{Standing}
use Rattle.seeking.specs.declared.Standing.TheVariants.{Bad, Done, Left}
use Rattle.seeking.specs.One.{standing_in, file_standing}
use Rattle.scheduling.specs.Search.{standing_of, is_allowed}

length-marks : (file : RuleFile) → ListN.length (marks_of (system_of file)) ≡ ListN.length file.rules
length-marks file = length-map (system_of file).rules _ ∙ length-map file.rules _

-- ---- a job

module _ (buffer : List ℕ) (job : Job) where
  abbrev end : ℕ
  end = job.start + job.length

  -- What is known of a job by how it stands.
  abbrev pub Known : Standing → Type 0
  Known Bad = is_sound buffer job ≡ false
  Known Done = (is_sound buffer job ≡ true) × (has_left buffer job ≡ false)
  Known (Left at) =
      (is_sound buffer job ≡ true) × (has_left buffer job ≡ true)
      × (file_standing (book_of buffer job) job.marked ≡ Left at)

  known_in : end ≤ ListN.length buffer → (x : Reading RuleFile) → read_bytes (book_of buffer job) ≡ x →
      Known (standing_in job.marked x)
  unfolding is_sound has_left book_marks file_standing
  known_in h (got file last) e =
      let n = ListN.length file.rules in
      let inside = le-leb end (ListN.length buffer) h in
      by_order job.marked n
      (λ less. let a = le-leb job.marked n (omega arith) in let b = lt-ltb job.marked n less in
      rw (a, b) (rw (inside, e, a), rw (e, length-marks file, b), rw (e, a, b)))
      λ over. let b = le-ltb job.marked n over in by_order n job.marked
      (λ more. let a = lt-leb job.marked n more in rw a (rw (inside, e, a)))
      λ most. let a = le-leb job.marked n most in rw (a, b) (rw (inside, e, a), rw (e, length-marks file, b))
  known_in h (fault code offset) e = rw (le-leb end (ListN.length buffer) h, e)

  pub known : Known (standing_of job buffer)
  unfolding standing_of is_sound file_standing
  known =
      by_order (ListN.length buffer) end
      (λ h. rw (lt-leb end (ListN.length buffer) h) (rw (lt-leb end (ListN.length buffer) h)))
      λ h. rw (le-leb end (ListN.length buffer) h) (known_in h (read_bytes (book_of buffer job)) refl)

-- A count with rules left is below the number of rules, which is at most 1,023.
pub left-few : (buffer : List ℕ) (job : Job) → has_left buffer job ≡ true →
    (job.marked < ListN.length (book_marks (book_of buffer job))) × (job.marked < 1023)
unfolding has_left book_marks
left-few buffer job e =
    let h = ltb-true job.marked (ListN.length (book_marks (book_of buffer job))) e in
    (h, go (read_bytes (book_of buffer job)) refl h)
  where
    go : (r : Reading RuleFile) → read_bytes (book_of buffer job) ≡ r →
        job.marked < ListN.length (book_marks (book_of buffer job)) → job.marked < 1023
    go (got file last) q h =
        let k = rw q at h in omega (
          arith,
          length-marks file,
          (readable-well-formed file (from_bytes (book_of buffer job) last q)).0.within.rule_count,
        )
    go (fault code offset) q h = let k = rw q at h in absurd (omega arith)

-- ---- the numbers of a turn

module _ (jobs last : ℕ) where
  pub allowed-numbers : is_allowed jobs last ≡ true → (last < jobs) × (jobs ≤ max_jobs)
  unfolding is_allowed
  allowed-numbers e = go (leb 1 jobs) (leb jobs max_jobs) refl e
    where
      go : (a b : Bool) → leb jobs max_jobs ≡ b → (a && b && ltb last jobs) ≡ true → (last < jobs) × (jobs ≤ max_jobs)
      go true true q h = (ltb-true last jobs h, leb-true jobs max_jobs q)
      go true false q h = absurd (false≢true h)
      go false b q h = absurd (false≢true h)
