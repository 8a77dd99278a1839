-- What a search over jobs has found, job by job.
--     Searched, scanned-found  what is found once some jobs have been looked at
--     scanned-idle             nothing is looked at where the numbers are not allowed
--     by_option                an option by cases
--     bad-listed, scanned-bad  the index of a job that is not sound
--     looked-visited           `looked` and `visited` agree where `bad` is a job's or none
--     end, scanned-ready       the search over all jobs, which is ready for the turn
use Rattle.std.specs.Prelude.{Option, Some, None, is_some}
use mathlib.Core.List.{List}
use mathlib.Core.Path.{◌≡◌, refl, sym, ap, ◌∙◌}
use mathlib.Core.Bool.{Bool, true, false, cond, ◌&&◌, false≢true}
use Prim.Native.Nat.{ℕ, suc, zero, ◌+◌, ◌≤◌, ◌<◌}
use native.Mathlib.Omega.{arith}
use lib.Dec.{ltb}
use lib.ListN
use borrow.Author.Tests.{lt-ltb, le-ltb, le-leb, lt-leb, leb-true}
use Rattle.multisets.proofs.Relations.{by_test, by_order}
use Rattle.operations.specs.declared.Job.{Job}
use Rattle.operations.specs.Jobs.{job_at, book_of, is_sound, has_left}
use Rattle.operations.proofs.RoundLaws.{distance}
use Rattle.scheduling.specs.declared.Found.{Found}
use Rattle.scheduling.specs.declared.Search.{Search}
use Rattle.seeking.specs.declared.Standing.{Standing}
use Rattle.seeking.specs.declared.Standing.TheVariants.{Bad, Done, Left}
use Rattle.seeking.specs.One.{file_standing}
use Rattle.scheduling.specs.Search.{standing_of, is_allowed, comes_first, begun, found_bad, found_next, found_at}
use Rattle.scheduling.specs.Search.{bad_index, looked, visited, scanned, Ready}
use Rattle.scheduling.proofs.StandingLaws.{Known, known, allowed-numbers}

pub by_option : {A B : Type 0} (o : Option A) → (o ≡ None → B) → ((a : A) → o ≡ Some a → B) → B
by_option None f g = f refl
by_option (Some a) f g = g a refl

-- A `bad_index` is `bad`, and one of the jobs'.
pub bad-listed : (s : Search) (b : ℕ) → bad_index s ≡ Some b → (s.bad ≡ Some b) × (b < s.jobs)
bad-listed s b e =
    by_option s.bad (λ none. absurd (cc))
    λ i is. by_order i s.jobs
    (λ h. let q : i ≡ b = cc (rw (is, lt-ltb i s.jobs h) at e) in rw (← q) (is, h))
    λ h. let z : None ≡ Some b = rw (is, le-ltb i s.jobs h) at e in absurd (cc)

pub looked-visited : (s : Search) (i : ℕ) (job : Job) (buffer : List ℕ) → bad_index s ≡ s.bad →
    looked s i job buffer ≡ visited s i job buffer
unfolding looked visited
looked-visited s i job buffer h = rw h refl

-- ---- the search

module _ (jobs : List Job) (buffer : List ℕ) (last : ℕ) where
  abbrev n : ℕ
  n = ListN.length jobs

  abbrev sound : ℕ → Bool
  sound i = is_sound buffer (job_at jobs i)

  abbrev left : ℕ → Bool
  left i = has_left buffer (job_at jobs i)

  abbrev begins : ℕ → Standing
  begins i = file_standing (book_of buffer (job_at jobs i)) (job_at jobs i).marked

  module _ (within : last < n) where
    abbrev far : ℕ → ℕ
    far i = distance n last within i

    -- A job that was found is one of the first i, sound, and has rules left.
    abbrev Own : ℕ → Found → Type 0
    Own i f = (f.index < i) × (f.job ≡ job_at jobs f.index) × (sound f.index ≡ true) × (left f.index ≡ true)
        × (begins f.index ≡ Left f.at)

    -- The first that is not sound.
    abbrev FirstBad : ℕ → ℕ → Type 0
    FirstBad i b = (b < i) × (sound b ≡ false) × ((j : ℕ) → j < b → sound j ≡ true)

    -- What is found once the first i jobs have been looked at.
    pub record Searched (i : ℕ) (s : Search) : Type 0 where
      pub all : s.jobs ≡ n
      pub from : s.last ≡ last
      pub own : (f : Found) → s.next ≡ Some f → Own i f
      pub first_bad : (b : ℕ) → s.bad ≡ Some b → FirstBad i b
      pub none_bad : bad_index s ≡ None → (j : ℕ) → j < i → sound j ≡ true
      -- where all are sound, it is the first with rules left
      pub nearest : bad_index s ≡ None → (f : Found) → s.next ≡ Some f → (j : ℕ) → j < i → left j ≡ true →
          far f.index ≤ far j
      pub none_left : bad_index s ≡ None → s.next ≡ None → (j : ℕ) → j < i → left j ≡ false

    found_none : Searched 0 (begun n last)
    unfolding begun
    found_none = record {
      all = refl;
      from = refl;
      own = λ f e. absurd (cc);
      first_bad = λ b e. absurd (cc);
      none_bad = λ g j k. absurd (omega arith);
      nearest = λ g f e. absurd (cc);
      none_left = λ g e j k. absurd (omega arith);
    }

    -- The jobs below i + 1 are those below i, and i.
    one_more : (P : ℕ → Type 0) (i : ℕ) → ((j : ℕ) → j < i → P j) → P i → (j : ℕ) → j < suc i → P j
    one_more P i below at j h = by_order j i (λ l. below j l) λ l. let e : i ≡ j = omega arith in rw (← e) at

    -- Of two jobs, one on either side of the last served or both on one side, which comes first.
    far-below : (i j : ℕ) → i < j → j ≤ last → far i < far j
    far-below i j h k = rw (le-ltb last i (omega arith), le-ltb last j k) (omega arith)

    far-above : (i j : ℕ) → i < j → last < i → far i < far j
    far-above i j h k = rw (lt-ltb last i k, lt-ltb last j (omega arith)) (omega arith)

    far-round : (i j : ℕ) → j < n → last < j → i ≤ last → far j < far i
    far-round i j h k l = rw (lt-ltb last j k, le-ltb last i l) (omega arith)

    module _ (i : ℕ) (s : Search) (h : i < n) (F : Searched i s) (ok : bad_index s ≡ None) where
      inside : ltb i s.jobs ≡ true
      inside = lt-ltb i s.jobs (omega (arith, F.all, h))

      -- A job with no rules left, or one that comes later, changes nothing.
      found-kept : sound i ≡ true → (left i ≡ true → (f : Found) × (s.next ≡ Some f) × (far f.index ≤ far i)) →
          Searched (suc i) s
      found-kept y later = record {
        all = F.all;
        from = F.from;
        own = λ f e. let (a, b, c, d, g) = F.own f e in (omega arith, b, c, d, g);
        first_bad = λ b e. let (a, y, before) = F.first_bad b e in (omega arith, y, before);
        none_bad = λ g. one_more (λ j. sound j ≡ true) i (F.none_bad g) y;
        nearest = λ g f e. one_more (λ j. left j ≡ true → far f.index ≤ far j) i (F.nearest g f e)
            (λ l. let (f', e', near) = later l in let q : f' ≡ f = cc in rw (← q) near);
        none_left = λ g e. one_more (λ j. left j ≡ false) i (F.none_left g e)
            (by_test (left i) (λ l. let (f, e', near) = later l in absurd (cc)) λ l. l);
      }

      found-next : (at : ℕ) → sound i ≡ true → left i ≡ true → begins i ≡ Left at →
          ((f : Found) → s.next ≡ Some f → far i ≤ far f.index) → Searched (suc i) (found_next s i (job_at jobs i) at)
      found-next at y l there earlier = rw inside (record {
        all = F.all;
        from = F.from;
        own = λ f e. let q : record { index = i; job = job_at jobs i; at = at } ≡ f = cc in
            rw (← q) (omega arith, refl, y, l, there);
        first_bad = λ b e. let (a, y, before) = F.first_bad b e in (omega arith, y, before);
        none_bad = λ g. one_more (λ j. sound j ≡ true) i (F.none_bad g) y;
        nearest = λ g f e. let q : record { index = i; job = job_at jobs i; at = at } ≡ f = cc in
            rw (← q) (one_more (λ j. left j ≡ true → far i ≤ far j) i
            (λ j o t. by_option s.next (λ none. absurd (false≢true (sym (F.none_left g none j o) ∙ t)))
            λ f' e'. omega (arith, earlier f' e', F.nearest g f' e' j o t))
            (λ t. omega arith));
        none_left = λ g e. absurd (cc);
      })

      found-bad : sound i ≡ false → Searched (suc i) (found_bad s i)
      found-bad y = rw inside (record {
        all = F.all;
        from = F.from;
        own = λ f e. let (a, b, c, d, g) = F.own f e in (omega arith, b, c, d, g);
        first_bad = λ b e. let q : i ≡ b = cc in rw (← q) (omega arith, y, F.none_bad ok);
        none_bad = λ g. absurd (cc inside);
        nearest = λ g. absurd (cc inside);
        none_left = λ g. absurd (cc inside);
      })

      test-after : last < i → ltb s.last i ≡ true
      test-after k = lt-ltb s.last i (omega (arith, F.from))

      found_left : (at : ℕ) → sound i ≡ true → left i ≡ true → begins i ≡ Left at →
          Searched (suc i) (cond (comes_first s i) (found_next s i (job_at jobs i) at) s)
      unfolding comes_first
      found_left at y l there =
          by_option s.next
          (λ none. let first : comes_first s i ≡ true = rw none in
          rw first (found-next at y l there λ f e. absurd (cc)))
          λ f e. let below = (F.own f e).0 in by_order last i
          (λ k. by_order last f.index
          (λ m. let later : comes_first s i ≡ false =
          rw (e, test-after k, lt-leb f.index s.last (omega (arith, F.from))) in
          rw later (found-kept y λ t. (f, e, omega (arith, far-above f.index i below m))))
          λ m. let first : comes_first s i ≡ true =
          rw (e, test-after k, le-leb f.index s.last (omega (arith, F.from))) in
          rw first (found-next at y l there λ f' e'. let q : f ≡ f' = cc in
          rw (← q) (omega (arith, far-round f.index i h k m))))
          λ k. let later : comes_first s i ≡ false = rw (e, le-ltb s.last i (omega (arith, F.from))) in
          rw later (found-kept y λ t. (f, e, omega (arith, far-below f.index i below k)))

      found-at : (x : Standing) → Known buffer (job_at jobs i) x → Searched (suc i) (found_at x s i (job_at jobs i))
      found-at Bad k = found-bad k
      found-at Done k = found-kept k.0 λ t. absurd (false≢true (sym k.1 ∙ t))
      found-at (Left at) k = found_left at k.0 k.1 k.2

    -- After a fault nothing is looked at.
    found-stuck : (i : ℕ) (s : Search) (b : ℕ) → Searched i s → bad_index s ≡ Some b → Searched (suc i) s
    found-stuck i s b F h = record {
      all = F.all;
      from = F.from;
      own = λ f e. let (a, b, c, d, g) = F.own f e in (omega arith, b, c, d, g);
      first_bad = λ b e. let (a, y, before) = F.first_bad b e in (omega arith, y, before);
      none_bad = λ g. absurd (cc);
      nearest = λ g. absurd (cc);
      none_left = λ g. absurd (cc);
    }

    module _ (ok : is_allowed n last ≡ true) where
      found-more : (i : ℕ) (s : Search) → i < n → Searched i s → Searched (suc i) (visited s i (job_at jobs i) buffer)
      unfolding visited
      found-more i s h F =
          let may : is_allowed s.jobs s.last ≡ true = rw (F.all, F.from) ok in
          by_option (bad_index s)
          (λ none. let sound : is_some (bad_index s) ≡ false = rw none in
          rw (may, sound) (found-at i s h F none (standing_of (job_at jobs i) buffer) (known buffer (job_at jobs i))))
          λ b e. let stuck : is_some (bad_index s) ≡ true = rw e in rw (may, stuck) (found-stuck i s b F e)

      pub scanned-found : (i : ℕ) → i ≤ n → Searched i (scanned jobs buffer last i)
      scanned-found zero h = found_none
      scanned-found (suc i) h =
          found-more i (scanned jobs buffer last i) (omega arith) (scanned-found i (omega arith))

  -- Where the numbers are not allowed nothing is looked at.
  pub scanned-idle : is_allowed n last ≡ false → (i : ℕ) → scanned jobs buffer last i ≡ begun n last
  unfolding visited begun
  scanned-idle bars zero = refl
  scanned-idle bars (suc i) =
      let e = scanned-idle bars i in
      ap (λ (s : Search). visited s i (job_at jobs i) buffer) e ∙ rw bars

  pub scanned-bad : (i : ℕ) → i ≤ n → bad_index (scanned jobs buffer last i) ≡ (scanned jobs buffer last i).bad
  unfolding begun
  scanned-bad i h =
      let s = scanned jobs buffer last i in
      by_test (is_allowed n last)
      (λ ok. let F = scanned-found (allowed-numbers n last ok).0 ok i h in
      by_option s.bad (λ none. rw none refl)
      λ b e. rw (e, lt-ltb b s.jobs (omega (arith, F.all, (F.first_bad b e).0))) refl)
      λ bars. rw (scanned-idle bars i) refl

  -- ---- the turn after the search

  abbrev pub end : Search
  end = scanned jobs buffer last n

  sound-book : (job : Job) → is_sound buffer job ≡ true → job.start + job.length ≤ ListN.length buffer
  unfolding is_sound
  sound-book job e = leb-true (job.start + job.length) (ListN.length buffer) (first _ _ e)
    where
      first : (a b : Bool) → (a && b) ≡ true → a ≡ true
      first true b e = refl
      first false b e = absurd (false≢true e)

  pub scanned-ready : Ready end buffer
  unfolding begun
  scanned-ready f e =
      by_test (is_allowed n last)
      (λ ok. let within = (allowed-numbers n last ok).0 in
      let F = scanned-found within ok n (omega arith) in
      let (a, same, y, l, b) = F.own f e in
      record {
        listed = omega (arith, F.all);
        within = sound-book f.job (rw same y);
        unfinished = rw same l;
        begins = ap (λ (job : Job). file_standing (book_of buffer job) job.marked) same ∙ b;
      })
      λ bars. let idle : None ≡ Some f = rw (scanned-idle bars n) at e in absurd (cc)
