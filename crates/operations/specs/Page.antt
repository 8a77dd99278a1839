-- The page of a list of marks and margins, as bytes: a line for each, of 64 characters and byte 10.
-- Renders: 02, order 5: "one line a rule, 64 characters and byte 10. Columns 1-4 hold the rule number and 47-58 the
-- margin, both right-set; 6-45 hold words, left-set; the rest are spaces", and "The words for marks 1 to 10"; order 8:
-- of mark 11, "its words are "falls by wrapping"".
use mathlib.Core.List.{List, [], ◌∷◌, ◌++◌, Memᴰ}
use Rattle.std.specs.Prelude.{ℕ, suc, ◌-◌, ◌≤◌, ℤ, length, get_or}
use Prim.Native.String.{String}
use Rattle.operations.specs.Text.{ascii, decimal, signed_decimal, spaces, right_set, left_set}

-- The mark and the margin of a rule.
pub record Entry : Type 0 where
  pub mark : ℕ
  pub margin : ℤ

-- The words for mark 1, for mark 2, and so on.
abbrev pub mark_words : List String
mark_words =
    "falls by weight" ∷ "falls by rank" ∷ "falls by arguments" ∷ "falls by high terms" ∷ "falls by count" ∷
    "falls by low terms" ∷ "variable added" ∷ "left lighter" ∷ "sides equal" ∷ "no case" ∷
    "falls by wrapping" ∷ []

abbrev pub words_for : ℕ → List ℕ
words_for mark = ascii (get_or mark_words (mark - 1) "")

-- How many columns there are from the first to the last, both counted from 1.
abbrev pub columns : ℕ → ℕ → ℕ
columns first last = suc last - first

unfoldable pub page_line : ℕ → Entry → List ℕ
page_line number e =
    right_set (columns 1 4) (decimal number) ++ (spaces (columns 5 5) ++
    (left_set (columns 6 45) (words_for e.mark) ++ (spaces (columns 46 46) ++
    (right_set (columns 47 58) (signed_decimal e.margin) ++ (spaces (columns 59 64) ++ (10 ∷ []))))))

-- The lines of a list, the first of them with that number.
abbrev pub lines_from : ℕ → List Entry → List ℕ
lines_from n [] = []
lines_from n (e ∷ es) = page_line n e ++ lines_from (suc n) es

-- Rules are numbered from 0.
abbrev pub page : List Entry → List ℕ
page es = lines_from 0 es

-- A mark that has words, and a margin that its columns hold.
pub record Fits (e : Entry) : Type 0 where
  pub least : 1 ≤ e.mark
  pub most : e.mark ≤ length mark_words
  pub margin : length (signed_decimal e.margin) ≤ columns 47 58

abbrev pub AllFit : List Entry → Type 0
AllFit es = (e : Entry) → Memᴰ e es → Fits e
