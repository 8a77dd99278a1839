-- The score of a rule file.
-- Renders: 02, order 6: "rounds a score to the nearest whole number, and an exact half to the even one", "an empty book
-- still scores 100"; 01, "Replies and refusals", Marking: "100 times falling rules divided by N".
use Rattle.std.specs.Prelude.{cond, ℕ, suc, ◌*◌, ◌/◌, ◌%◌, eqb, ltb}

-- The even one of k and k + 1.
abbrev pub even_one : ℕ → ℕ
even_one k = cond (eqb (k % 2) 0) k (suc k)

-- The whole number nearest to m divided by n: the one below where less than a half is left, the one above where more
-- is, and the even one of the two where it is an exact half.
unfoldable pub nearest : ℕ → ℕ → ℕ
nearest m n =
    let below = m / n in
    let left = m % n in
    cond (ltb (2 * left) n) below (cond (ltb n (2 * left)) (suc below) (even_one below))

-- The percentage of decreasing rules; 100 where there is no rule.
unfoldable pub score_of : ℕ → ℕ → ℕ
score_of decreasing rules = cond (eqb rules 0) 100 (nearest (100 * decreasing) rules)
