-- What holds of every file that a reader of a form takes.
--     taken-first, taken-coefficients, taken-unused, taken-least    its form means what the reader's own means
--     taken_own                                 a reader takes files of its own form
--     taken-old                                 the converter takes those of form 1 alone
--     taken-fits                                every other reader takes forms that fit their field
use mathlib.Core.Path.{◌≡◌, refl, ap}
use mathlib.Core.Bool.{Bool, true, cond}
use Prim.Native.Nat.{ℕ, suc, zero, ◌^◌, ◌<◌}
use native.Mathlib.Omega.{arith}
use lib.Dec.{eqb}
use borrow.Author.Tests.{eqb-true}
use Rattle.multisets.proofs.Relations.{eqb-self}
use Rattle.format.specs.Layout.{form_width, first_form, form_number}
use Rattle.format.specs.Forms.{is_taken, has_coefficients, all_used, unused_of, least_weight_in}

pub taken-old : (read : ℕ) → is_taken first_form read ≡ true → read ≡ first_form
taken-old read t = eqb-true read first_form t

pub taken_own : (form : ℕ) → is_taken form form ≡ true
taken_own form = eqb-self form

pub taken-fits : (read : ℕ) → is_taken form_number read ≡ true → read < 2 ^ form_width
taken-fits read t = let e = eqb-true read form_number t in omega arith

module _ (form read : ℕ) (t : is_taken form read ≡ true) where
  pub taken-first : eqb read first_form ≡ eqb form first_form
  taken-first = ap (λ (n : ℕ). eqb n first_form) (eqb-true read form t)

  pub taken-coefficients : has_coefficients read ≡ has_coefficients form
  taken-coefficients = ap has_coefficients (eqb-true read form t)

  pub taken-unused : unused_of read ≡ unused_of form
  taken-unused = ap (λ (b : Bool). cond b all_used 0) taken-first

  pub taken-least : (w0 arity : ℕ) → least_weight_in read w0 arity ≡ least_weight_in form w0 arity
  taken-least w0 zero = refl
  taken-least w0 (suc zero) = ap (λ (b : Bool). cond b 1 0) taken-first
  taken-least w0 (suc (suc n)) = refl
