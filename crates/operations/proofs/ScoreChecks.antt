-- Scores, by computation: a falling count, a count of rules, and their score.
use mathlib.Core.Path.{◌≡◌, refl}
use mathlib.Core.List.{List, [], ◌∷◌, map}
use Prim.Native.Nat.{ℕ}
use Rattle.operations.specs.Score.{nearest, score_of}
use Rattle.operations.specs.Report.{verdict}

record Case : Type 0 where
  falling : ℕ
  rules : ℕ
  score : ℕ

abbrev of : ℕ → ℕ → ℕ → Case
of falling rules score = record { falling = falling; rules = rules; score = score }

abbrev cases : List Case
cases =
    of 1 8 12 ∷ of 3 8 38 ∷ of 5 8 62 ∷ of 7 8 88 ∷ of 1 2 50 ∷ of 1 200 0 ∷ of 3 200 2 ∷ of 0 0 100 ∷ of 1 3 33 ∷
    of 2 3 67 ∷ of 0 7 0 ∷ of 7 7 100 ∷ of 1022 1023 100 ∷ of 1017 1023 99 ∷ []

abbrev scored : Case → Case
scored c = of c.falling c.rules (score_of c.falling c.rules)

cases-hold : map scored cases ≡ cases
unfolding score_of nearest
cases-hold = refl

-- A book of which not every rule falls is returned, whatever its score.
still-returned : verdict (record { rules = 1023; decreasing = 1022; score = score_of 1022 1023 }) ≡ "returned"
still-returned = refl
