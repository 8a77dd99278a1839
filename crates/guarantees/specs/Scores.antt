-- What the score is. Proofs: proofs/Theorems.antt.
-- Renders: 02, order 6: "rounds a score to the nearest whole number, and an exact half to the even one".
use Rattle.std.specs.Prelude.{◌↔◌, ◌≡◌, ℕ, ◌+◌, ◌-◌, ◌*◌, ◌%◌, ◌≤◌, ◌<◌}
use Rattle.operations.specs.Score.{score_of}

abbrev pub distance : ℕ → ℕ → ℕ
distance a b = (a - b) + (b - a)

-- Twice the distance of the score times N from 100 times the falling count is at most N, and at exactly N the score is
-- even.
pub record IsNearest (falling rules score : ℕ) : Type 0 where
  pub near : 2 * distance (score * rules) (100 * falling) ≤ rules
  pub half : 2 * distance (score * rules) (100 * falling) ≡ rules → score % 2 ≡ 0

-- That holds of the score, and of no other number.
abbrev pub ScoreNearest : Type 0
ScoreNearest = (falling rules : ℕ) → 0 < rules → (score : ℕ) →
    IsNearest falling rules score ↔ (score ≡ score_of falling rules)

-- The score is 100 where all rules fall, however many there are.
abbrev pub FullScore : Type 0
FullScore = (rules : ℕ) → score_of rules rules ≡ 100
