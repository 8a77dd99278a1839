-- A term under copies of one symbol.
-- Renders: 000, Definition 5.1, case 0, and 004, Definition 3.3, case 1: "s = f^k(t), t ∈ V for some k > 0"; 02,
-- order 8: "the right side is a variable and the left that variable under one or more copies of the wrapper".
use Rattle.std.specs.Prelude.{Bool, false, ◌&&◌, ℕ, eqb}
use Rattle.terms.specs.Term.{Term, Terms}
use Rattle.terms.specs.Term.Term.{var, app}
use Rattle.terms.specs.Term.Terms.{nil, cons}

-- s = f^k(t) for some k > 0.
pub data Iterated (f : ℕ) : Term → Term → Type 0 where
  once : {t : Term} → Iterated f (app f (cons t nil)) t
  more : {s t : Term} → Iterated f s t → Iterated f (app f (cons s nil)) t

-- The test for a variable: a term is f^k(x), and the arguments of a symbol are one such term.
module _ (f x : ℕ) where
  abbrev mutual
    pub is_power : Term → Bool
    is_power (var y) = eqb x y
    is_power (app g ts) = eqb f g && is_one_power ts

    pub is_one_power : Terms → Bool
    is_one_power nil = false
    is_one_power (cons t nil) = is_power t
    is_one_power (cons t (cons u us)) = false
