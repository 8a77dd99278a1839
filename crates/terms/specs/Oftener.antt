-- The variable test by its number: the first variable that occurs oftener on the right.
-- Renders: 02, order 3: "let it go up from variable 0, stop at the first that occurs oftener on the right and answer
-- its number, or 16 if none does"; order 9: occurrences are counted with the coefficients above them.
use Rattle.std.specs.Prelude.{cond, ℕ, suc, zero, ltb}
use Rattle.terms.specs.Signature.{Signature}
use Rattle.terms.specs.Term.{Term, variable_coefficient, variable_count}

module _ (σ : Signature) where
  -- Going up from variable x, n variables: the first that occurs oftener in t, the one past them if none does.
  unfoldable pub oftener_from : ℕ → ℕ → Term → Term → ℕ
  oftener_from x zero s t = x
  oftener_from x (suc n) s t =
      cond (ltb (variable_coefficient σ x s) (variable_coefficient σ x t)) x (oftener_from (suc x) n s t)

  unfoldable pub first_oftener : Term → Term → ℕ
  first_oftener s t = oftener_from 0 variable_count s t
