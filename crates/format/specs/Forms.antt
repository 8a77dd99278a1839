-- What a file's form means: which forms are read, from which number on its variables are unused, and how much its
-- symbols weigh at least.
-- Renders: 01, "Book layout": "Admissible"; "Replies and refusals", "Reading a book", 3; 02, order 4: "Form 2 has form
-- 1's layout; within a rule a variable's first appearance, left side first, must take the lowest unused number", "17
-- form 1, in place of reading on", "The converter reads as document 01 did"; order 8: "lets a symbol of arity 1 weigh
-- 0".
use Rattle.std.specs.Prelude.{Bool, cond, ℕ, suc, zero, eqb}
use Rattle.terms.specs.Term.{variable_count}
use Rattle.format.specs.Errors.{wrong_form, old_form}
use Rattle.format.specs.Layout.{first_form, coefficient_form}

-- Whether a reader of that form takes a file of the form that it reads.
abbrev pub is_taken : ℕ → ℕ → Bool
is_taken form read = eqb read form

-- The error of a form that is not taken.
abbrev pub form_error : ℕ → ℕ
form_error read = cond (eqb read first_form) old_form wrong_form

-- Whether the symbols of a file of that form have coefficients. 02, order 9: "In form 3 each symbol has, after its
-- rank, a 4-bit coefficient for each argument".
abbrev pub has_coefficients : ℕ → Bool
has_coefficients form = eqb form coefficient_form

-- Where variables come in any order all numbers count as used.
abbrev pub all_used : ℕ
all_used = variable_count

-- The lowest unused number at the start of a rule, in a file of that form.
abbrev pub unused_of : ℕ → ℕ
unused_of form = cond (eqb form first_form) all_used 0

-- The least weight of a symbol of that arity in a file of that form, which is tested at the symbol. In form 1 a symbol
-- of arity 1 weighs at least 1, as 01 has it.
abbrev pub least_weight_in : ℕ → ℕ → ℕ → ℕ
least_weight_in form w0 zero = w0
least_weight_in form w0 (suc zero) = cond (eqb form first_form) 1 0
least_weight_in form w0 (suc (suc n)) = 0
