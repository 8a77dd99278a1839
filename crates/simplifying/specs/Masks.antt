-- Parts of a list by masks: the bits of a number, lowest first, say which elements are taken.
use Rattle.std.specs.Prelude.{List, [], ◌∷◌, ◌≡◌, cond, ℕ, ◌/◌, ◌%◌, eqb}
use Rattle.std.specs.Int.Bits.{bit_and}

-- Each bit of the first number is one of the second.
abbrev pub Within : ℕ → ℕ → Type 0
Within a m = bit_and a m ≡ a

unfoldable pub masked : {A : Type 0} → ℕ → List A → List A
masked m [] = []
masked m (a ∷ l) = cond (eqb (m % 2) 1) (a ∷ masked (m / 2) l) (masked (m / 2) l)
