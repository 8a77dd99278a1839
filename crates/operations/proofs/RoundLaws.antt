-- Going round n indices, and the first of them that passes a test.
--     onward, onward-add, onward-lt        the index so many steps on
--     distance, distance-lt                how many steps after the one after `last` an index is met
--     onward-distance, distance-onward     the two undo each other
--     first_some, first-none, first_passes, first-idle      which index is the first, by what passes
use Rattle.std.specs.Prelude.{Some, None}
use mathlib.Core.Path.{◌≡◌, refl, ap, ◌∙◌}
use mathlib.Core.Bool.{Bool, true, false, cond, false≢true}
use Prim.Native.Nat.{ℕ, suc, zero, ◌+◌, ◌-◌, ◌≤◌, ◌<◌}
use native.Mathlib.Nat.{zero-add, suc-add}
use native.Mathlib.Omega.{arith}
use lib.Dec.{ltb}
use borrow.Author.Tests.{lt-ltb, le-ltb}
use Rattle.multisets.proofs.Relations.{by_test, by_order}
use Rattle.operations.specs.Turns.{round_after, first_from}

module _ (n : ℕ) where
  abbrev pub onward : ℕ → ℕ → ℕ
  onward i zero = i
  onward i (suc k) = onward (round_after n i) k

  pub onward-add : (i j k : ℕ) → onward i (j + k) ≡ onward (onward i j) k
  onward-add i zero k = rw zero-add
  onward-add i (suc j) k = rw suc-add (onward-add (round_after n i) j k)

  after-lt : (i : ℕ) → i < n → round_after n i < n
  after-lt i h = by_order (suc i) n (λ e. rw (lt-ltb (suc i) n e) e) λ e. rw (le-ltb (suc i) n e) (omega arith)

  pub onward-lt : (k i : ℕ) → i < n → onward i k < n
  onward-lt zero i h = h
  onward-lt (suc k) i h = onward-lt k (round_after n i) (after-lt i h)

  onward-up : (k i : ℕ) → i + k < n → onward i k ≡ i + k
  onward-up zero i h = omega arith
  onward-up (suc k) i h =
      rw (lt-ltb (suc i) n (omega arith)) (onward-up k (suc i) (omega arith) ∙ omega arith)

  -- To the first index, from the one after `last`.
  onward-first : (last : ℕ) → last < n → onward (round_after n last) (n - suc last) ≡ 0
  onward-first last h =
      by_order (suc last) n
      (λ e. let m = n - suc (suc last) in
      let k : n - suc last ≡ m + 1 = omega arith in
      let end : suc last + m ≡ n - 1 = omega arith in
      rw (lt-ltb (suc last) n e, k)
      (onward-add (suc last) m 1 ∙ ap (round_after n) (onward-up m (suc last) (omega arith) ∙ end)
      ∙ rw (le-ltb (suc (n - 1)) n (omega arith))))
      λ e. let k : n - suc last ≡ 0 = omega arith in rw (le-ltb (suc last) n e, k)

  module _ (last : ℕ) (within : last < n) where
    abbrev pub distance : ℕ → ℕ
    distance i = cond (ltb last i) (i - suc last) (n - suc last + i)

    pub distance-lt : (i : ℕ) → i < n → distance i < n
    distance-lt i h =
        by_order last i (λ e. rw (lt-ltb last i e) (omega arith)) λ e. rw (le-ltb last i e) (omega arith)

    pub onward-distance : (i : ℕ) → i < n → onward (round_after n last) (distance i) ≡ i
    onward-distance i h =
        by_order last i
        (λ e. rw (lt-ltb last i e, lt-ltb (suc last) n (omega arith))
        (onward-up (i - suc last) (suc last) (omega arith) ∙ omega arith))
        λ e. rw (le-ltb last i e)
        (onward-add (round_after n last) (n - suc last) i ∙ ap (λ (j : ℕ). onward j i) (onward-first last within)
        ∙ onward-up i 0 (omega arith) ∙ omega arith)

    -- The index after k steps.
    onward-at : (k : ℕ) → k < n → onward (round_after n last) k ≡
        cond (ltb (suc last + k) n) (suc last + k) (suc last + k - n)
    onward-at k h =
        by_order (suc last + k) n
        (λ e. rw (lt-ltb (suc last + k) n e, lt-ltb (suc last) n (omega arith)) (onward-up k (suc last) e))
        λ e. let m = suc last + k - n in
        let same : k ≡ (n - suc last) + m = omega arith in
        rw (le-ltb (suc last + k) n e)
        (ap (onward (round_after n last)) same ∙ onward-add (round_after n last) (n - suc last) m
        ∙ ap (λ (j : ℕ). onward j m) (onward-first last within) ∙ onward-up m 0 (omega arith) ∙ omega arith)

    pub distance-onward : (k : ℕ) → k < n → distance (onward (round_after n last) k) ≡ k
    distance-onward k h =
        by_order (suc last + k) n
        (λ e. let i : onward (round_after n last) k ≡ suc last + k = onward-at k h ∙ rw (lt-ltb (suc last + k) n e) in
        rw (i, lt-ltb last (suc last + k) (omega arith)) (omega arith))
        λ e. let m = suc last + k - n in
        let i : onward (round_after n last) k ≡ m = onward-at k h ∙ rw (le-ltb (suc last + k) n e) in
        rw (i, le-ltb last m (omega arith)) (omega arith)

  -- ---- the first that passes

  module _ (passes : ℕ → Bool) where
    -- Index p is the first from i on, and is met by step j.
    pub record Met (i j k p : ℕ) : Type 0 where
      pub first : first_from n passes i k ≡ Some p
      pub steps : ℕ
      pub soon : steps ≤ j
      pub there : onward i steps ≡ p
      pub passed : passes p ≡ true

    pub first_some : (k j i d : ℕ) → j < k → onward i j ≡ d → passes d ≡ true → (p : ℕ) × Met i j k p
    unfolding first_from
    first_some zero j i d h e t = absurd (omega arith)
    first_some (suc k) zero i d h e t =
        (d, record { first = rw (e, t); steps = 0; soon = omega arith; there = e; passed = t })
    first_some (suc k) (suc j) i d h e t =
        by_test (passes i)
        (λ y. (i, record { first = rw y; steps = 0; soon = omega arith; there = refl; passed = y }))
        λ y. let (p, m) = first_some k j (round_after n i) d (omega arith) e t in (
          p,
          record {
            first = rw y m.first;
            steps = suc m.steps;
            soon = omega (arith, m.soon);
            there = m.there;
            passed = m.passed;
          },
        )

    pub first-none : (k i : ℕ) → i < n → ((j : ℕ) → j < n → passes j ≡ false) → first_from n passes i k ≡ None
    unfolding first_from
    first-none zero i h none = refl
    first-none (suc k) i h none = rw (none i h) (first-none k (round_after n i) (after-lt i h) none)

    pub first_passes : (k i p : ℕ) → i < n → first_from n passes i k ≡ Some p → (p < n) × (passes p ≡ true)
    unfolding first_from
    first_passes zero i p h e = absurd (false≢true (cc))
    first_passes (suc k) i p h e =
        by_test (passes i)
        (λ y. let s : Some i ≡ Some p = rw y at e in let q : i ≡ p = cc in rw (← q) (h, y))
        λ y. first_passes k (round_after n i) p (after-lt i h) (rw y at e)

    pub first-idle : (k i : ℕ) → first_from n passes i k ≡ None → (x : ℕ) → x < k → passes (onward i x) ≡ false
    unfolding first_from
    first-idle zero i e x h = absurd (omega arith)
    first-idle (suc k) i e zero h =
        by_test (passes i) (λ y. let s : Some i ≡ None = rw y at e in absurd (false≢true (cc))) λ y. y
    first-idle (suc k) i e (suc x) h =
        by_test (passes i) (λ y. let s : Some i ≡ None = rw y at e in absurd (false≢true (cc)))
        λ y. first-idle k (round_after n i) (rw y at e) x (omega arith)
