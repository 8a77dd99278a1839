-- The occurrences of variables in a term, as the digits of one number.
use Rattle.std.specs.Prelude.{cond, ◌≡◌, ℕ, suc, zero, ◌+◌, ◌*◌, ◌/◌, ◌%◌, ◌<◌, eqb, ltb, Option, Some, None}
use Rattle.terms.specs.Term.{Term, measure, plain}

-- The place value of variable x among the n variables from k on: 256 to the power of x - k, and 0 for the others.
abbrev pub digit : ℕ → ℕ → ℕ → ℕ
digit k zero x = 0
digit k (suc n) x = cond (eqb k x) 1 0 + 256 * digit (suc k) n x

-- The occurrences of the n variables from k on, a digit each.
abbrev pub digits_of : ℕ → ℕ → Term → ℕ
digits_of k n = measure plain (λ (x : ℕ). digit k n x) (λ (f : ℕ). 0)

-- The first of the n digits that is greater in b than in a, n if none is.
unfoldable pub first_greater : ℕ → ℕ → ℕ → ℕ
first_greater zero a b = 0
first_greater (suc n) a b = cond (ltb (a % 256) (b % 256)) 0 (suc (first_greater n (a / 256) (b / 256)))

-- The number of the digit that was found among eight: 8 if none was.
abbrev pub digit_number : Option ℕ → ℕ
digit_number (Some x) = x
digit_number None = 8

-- There are n digits, each below 128: the occurrences of variables in a term of at most 128 nodes.
unfoldable pub SmallDigits : ℕ → ℕ → Type 0
SmallDigits zero a = a ≡ 0
SmallDigits (suc n) a = (a % 256 < 128) × SmallDigits n (a / 256)
