-- Text as bytes: words, decimal numbers, lines, and text set in columns.
-- Renders: 01, "Sample book and cases": what `marker` prints, "Each ends in byte 10"; 02, order 5: "right-set",
-- "left-set", "spaces".
use Rattle.std.specs.Prelude.{List, [], ◌∷◌, ◌++◌, cond, ℕ, suc, zero, ◌+◌, ◌-◌, ◌/◌, ◌%◌, ℤ, pos, negsuc, ltb, length, replicate}
use Prim.Native.Char.{code as char_code}
use Prim.Native.String.{String, [] as []ˢ, ◌∷◌ as ◌∷ˢ◌}

-- The codes of the characters.
abbrev pub ascii : String → List ℕ
ascii []ˢ = []
ascii (c ∷ˢ s) = char_code c ∷ ascii s

-- The decimal digits of n, at most k of them.
unfoldable pub digits : ℕ → ℕ → List ℕ
digits zero n = []
digits (suc k) n = cond (ltb n 10) ((48 + n) ∷ []) (digits k (n / 10) ++ ((48 + n % 10) ∷ []))

-- Without leading zeros; n has at most n + 1 digits.
abbrev pub decimal : ℕ → List ℕ
decimal n = digits (suc n) n

abbrev pub signed_decimal : ℤ → List ℕ
signed_decimal (pos n) = decimal n
signed_decimal (negsuc n) = ascii "-" ++ decimal (suc n)

-- A line of words, with a space between any two.
abbrev pub line : List (List ℕ) → List ℕ
line [] = 10 ∷ []
line (w ∷ []) = w ++ (10 ∷ [])
line (w ∷ v ∷ ws) = w ++ (32 ∷ line (v ∷ ws))

abbrev pub spaces : ℕ → List ℕ
spaces n = replicate n 32

-- A text at the end of so many columns, and at their start.
abbrev pub right_set : ℕ → List ℕ → List ℕ
right_set width text = spaces (width - length text) ++ text

abbrev pub left_set : ℕ → List ℕ → List ℕ
left_set width text = text ++ spaces (width - length text)
