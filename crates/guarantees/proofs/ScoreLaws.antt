-- The score is the nearest whole number, and the only one.
--     below-nearest, above-nearest, score-is-nearest     it is
--     nearest-unique                                     no other is
use mathlib.Core.Path.{◌≡◌, refl, ap, ◌∙◌}
use Prim.Native.Nat.{ℕ, suc, zero, ◌+◌, ◌-◌, ◌*◌, ◌/◌, ◌%◌, ◌≤◌, ◌<◌}
use native.Mathlib.Nat.{suc-mul, add-mul, mod-lt, div-add-mod'}
use native.Mathlib.Omega.{arith}
use lib.Dec.{eqb}
use borrow.Author.Tests.{eqb-true, eqb-false}
use Rattle.multisets.proofs.Relations.{by_test, by_order}
use Rattle.operations.specs.Score.{score_of}
use Rattle.operations.proofs.ScoreLaws.{nearest-below, nearest-above, nearest-even, nearest-odd, score-none, score-some}
use Rattle.guarantees.specs.Scores.{distance, IsNearest}

module _ (falling rules : ℕ) (some : 0 < rules) where
  abbrev below : ℕ
  below = 100 * falling / rules

  abbrev left : ℕ
  left = 100 * falling % rules

  below-nearest : 2 * left ≤ rules → (2 * left ≡ rules → below % 2 ≡ 0) → IsNearest falling rules below
  below-nearest h e =
      let d : distance (below * rules) (100 * falling) ≡ left = omega (arith, div-add-mod' (100 * falling) rules) in
      record { near = rw d h; half = λ f. e (rw d at f) }

  above-nearest : rules ≤ 2 * left → (2 * left ≡ rules → suc below % 2 ≡ 0) → IsNearest falling rules (suc below)
  above-nearest h e =
      let l : left < rules = mod-lt (100 * falling) some in
      let d : distance (suc below * rules) (100 * falling) ≡ rules - left =
      omega (arith, div-add-mod' (100 * falling) rules, suc-mul below rules) in
      record { near = rw d (omega arith); half = λ f. e (let g = rw d at f in omega arith) }

  pub score-is-nearest : IsNearest falling rules (score_of falling rules)
  score-is-nearest =
      rw (score-some falling rules (omega arith))
      (by_order (2 * left) rules
      (λ h. rw (nearest-below (100 * falling) rules h) (below-nearest (omega arith) (λ f. absurd (omega arith))))
      λ h. by_order rules (2 * left)
      (λ k. rw (nearest-above (100 * falling) rules k) (above-nearest h (λ f. absurd (omega arith))))
      λ k. let e : 2 * left ≡ rules = omega arith in
      by_test (eqb (below % 2) 0)
      (λ t. let z = eqb-true (below % 2) 0 t in
      rw (nearest-even (100 * falling) rules e z) (below-nearest k (λ f. z)))
      λ t. let z = eqb-false (below % 2) 0 t in
      rw (nearest-odd (100 * falling) rules e z) (above-nearest h (λ f. omega arith)))

  -- Of two such numbers the greater one would be one more, both at exactly a half and both even.
  not-both : {A : Type 0} (s t : ℕ) → t < s → IsNearest falling rules s → IsNearest falling rules t → A
  not-both s t l p q =
      let k = s - suc t in
      let e : s ≡ suc t + k = omega arith in
      let m : s * rules ≡ t * rules + rules + k * rules =
      ap (λ (x : ℕ). x * rules) e ∙ add-mul (suc t) k rules ∙ ap (λ (x : ℕ). x + k * rules) (suc-mul t rules) in
      let none : k * rules ≡ 0 = omega (arith, p.near, q.near) in
      let a : 2 * distance (s * rules) (100 * falling) ≡ rules = omega (arith, p.near, q.near) in
      let b : 2 * distance (t * rules) (100 * falling) ≡ rules = omega (arith, p.near, q.near) in
      go k e none (p.half a) (q.half b)
    where
      go : {A : Type 0} (k : ℕ) → s ≡ suc t + k → k * rules ≡ 0 → s % 2 ≡ 0 → t % 2 ≡ 0 → A
      go zero e n a b = absurd (omega arith)
      go (suc k) e n a b = absurd (omega (arith, suc-mul k rules))

  pub nearest-unique : (s t : ℕ) → IsNearest falling rules s → IsNearest falling rules t → s ≡ t
  nearest-unique s t p q =
      by_order s t (λ h. not-both t s h q p) λ h. by_order t s (λ k. not-both s t k p q) λ k. omega arith

pub full-score : (rules : ℕ) → score_of rules rules ≡ 100
full-score rules =
    by_test (eqb rules 0) (λ e. score-none rules rules (eqb-true rules 0 e))
    λ e. let some : 0 < rules = omega (arith, eqb-false rules 0 e) in
    nearest-unique rules rules some (score_of rules rules) 100 (score-is-nearest rules rules some)
    (record { near = omega arith; half = λ f. refl })
