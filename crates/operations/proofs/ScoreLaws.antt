-- The score, case by case, and how great it is at most.
--     nearest-below, nearest-above, nearest-even, nearest-odd     less than a half, more, and an exact half
--     score-none, score-some, score-le                            without rules, with some, and at most
use mathlib.Core.Path.{◌≡◌, ◌∙◌}
use mathlib.Core.Bool.{Bool, true, false, cond}
use Prim.Native.Nat.{ℕ, suc, ◌+◌, ◌*◌, ◌/◌, ◌%◌, ◌≤◌, ◌<◌}
use native.Mathlib.Nat.{div-le_self}
use native.Mathlib.Omega.{arith}
use lib.Dec.{eqb, ltb}
use borrow.Author.Tests.{lt-ltb, le-ltb, eq-eqb, ne_eqb}
use Rattle.multisets.proofs.Relations.{by_test}
use Rattle.operations.specs.Score.{even_one, nearest, score_of}

module _ (m n : ℕ) where
  pub nearest-below : 2 * (m % n) < n → nearest m n ≡ m / n
  unfolding nearest
  nearest-below h = rw (lt-ltb (2 * (m % n)) n h)

  pub nearest-above : n < 2 * (m % n) → nearest m n ≡ suc (m / n)
  unfolding nearest
  nearest-above h = rw (le-ltb (2 * (m % n)) n (omega arith), lt-ltb n (2 * (m % n)) h)

  nearest-half : 2 * (m % n) ≡ n → nearest m n ≡ even_one (m / n)
  unfolding nearest
  nearest-half h = rw (le-ltb (2 * (m % n)) n (omega arith), le-ltb n (2 * (m % n)) (omega arith))

  pub nearest-even : 2 * (m % n) ≡ n → m / n % 2 ≡ 0 → nearest m n ≡ m / n
  nearest-even h e = nearest-half h ∙ rw (eq-eqb (m / n % 2) 0 e)

  pub nearest-odd : 2 * (m % n) ≡ n → (m / n % 2 ≡ 0 → ⊥) → nearest m n ≡ suc (m / n)
  nearest-odd h e = nearest-half h ∙ rw (ne_eqb (m / n % 2) 0 e)

  -- One of the two beside it.
  either-le : (a b c : Bool) (k : ℕ) → cond a k (cond b (suc k) (cond c k (suc k))) ≤ suc k
  either-le true b c k = omega arith
  either-le false true c k = omega arith
  either-le false false true k = omega arith
  either-le false false false k = omega arith

  nearest-le : nearest m n ≤ suc m
  unfolding nearest
  nearest-le =
      omega (
        arith,
        either-le (ltb (2 * (m % n)) n) (ltb n (2 * (m % n))) (eqb (m / n % 2) 0) (m / n),
        div-le_self m n,
      )

module _ (decreasing rules : ℕ) where
  pub score-none : rules ≡ 0 → score_of decreasing rules ≡ 100
  unfolding score_of
  score-none h = rw (eq-eqb rules 0 h)

  pub score-some : (rules ≡ 0 → ⊥) → score_of decreasing rules ≡ nearest (100 * decreasing) rules
  unfolding score_of
  score-some h = rw (ne_eqb rules 0 h)

  pub score-le : score_of decreasing rules ≤ 100 * decreasing + 100
  unfolding score_of
  score-le =
      by_test (eqb rules 0) (λ e. rw e (omega arith))
      λ e. rw e (omega (arith, nearest-le (100 * decreasing) rules))
