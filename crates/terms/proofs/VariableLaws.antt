-- The variables of a term: where none occurs, and which terms are expressions.
--     occurrences-past                   no variable past the last occurs in a well-formed term
--     coefficient-none, occurs-le        a variable that does not occur has the coefficient 0, one that does no less
--     coefficient-argument               no variable has a higher coefficient in an argument
--     not-ground, is_var-ground           a variable is no expression
--     none_oftener-ground, -everywhere    no variable occurs oftener in an expression; past the last, in any term
--     expressions                        the parts of an expression are expressions
use mathlib.Core.List.{List, Memᴰ}
use mathlib.Core.Path.{◌≡◌, refl, ap}
use mathlib.Core.Bool.{false, cond}
use Prim.Native.Nat.{ℕ, ◌≤◌}
use native.Mathlib.Omega.{arith}
use lib.Dec.{eqb}
use borrow.Author.Tests.{ne_eqb}
use Rattle.terms.specs.Signature.{Signature, scale, others, AllPositive, coefficients_of, Admissible}
use Rattle.terms.specs.Term.{Term, Terms, row, measures, occurrences, Ground, is_var, variable_count}
use Rattle.terms.specs.Term.{variable_coefficient, WellFormed, WellFormeds, Expression}
use Rattle.terms.specs.Term.Term.{var, app}
use Rattle.terms.specs.Term.Terms.{nil, cons}
use Rattle.terms.specs.Marks.{NoneOftener}
use Rattle.multisets.proofs.Relations.{by_order, eqb-self}
use Rattle.terms.proofs.TermLaws.{Hereditary}
use Rattle.terms.proofs.MeasureLaws.{scale-zero, scale-le, others-each, measure-argument}
use Rattle.terms.proofs.RewritingLaws.{occurrences_in}

-- The variable x in a row of terms with those coefficients.
abbrev pub variable_coefficients : Signature → ℕ → Terms → List ℕ → ℕ
variable_coefficients σ x = measures (coefficients_of σ) (λ (y : ℕ). cond (eqb x y) 1 0) (λ (f : ℕ). 0)

abbrev pub Grounds : Terms → Type 0
Grounds ts = (x : ℕ) → occurrences_in x ts ≡ 0

module _ (σ : Signature) (x : ℕ) (past : variable_count ≤ x) where
  mutual
    pub occurrences-past : (t : Term) → WellFormed σ t → occurrences x t ≡ 0
    occurrences-past (var y) w = rw (ne_eqb x y λ e. omega arith)
    occurrences-past (app f ts) w = omega (arith, occurrences_in-past ts w.2)

    occurrences_in-past : (ts : Terms) → WellFormeds σ ts → occurrences_in x ts ≡ 0
    occurrences_in-past nil w = refl
    occurrences_in-past (cons t ts) w = omega (arith, occurrences-past t w.0, occurrences_in-past ts w.1)

module _ (σ : Signature) (x : ℕ) where
  mutual
    pub coefficient-none : (t : Term) → occurrences x t ≡ 0 → variable_coefficient σ x t ≡ 0
    coefficient-none (var y) h = h
    coefficient-none (app f ts) h = omega (arith, coefficients-none ts (coefficients_of σ f) (omega arith))

    coefficients-none : (ts : Terms) (ks : List ℕ) → occurrences_in x ts ≡ 0 → variable_coefficients σ x ts ks ≡ 0
    coefficients-none nil ks h = refl
    coefficients-none (cons t ts) ks h =
        let e : variable_coefficient σ x t ≡ 0 = coefficient-none t (omega arith) in
        omega (arith, ap (scale ks) e, scale-zero ks, coefficients-none ts (others ks) (omega arith))

  module _ (A : Admissible σ) where
    mutual
      pub occurs-le : (t : Term) → occurrences x t ≤ variable_coefficient σ x t
      occurs-le (var y) = omega arith
      occurs-le (app f ts) = omega (arith, occurs_in-le ts (coefficients_of σ f) (A.coefficients_positive f))

      occurs_in-le : (ts : Terms) (ks : List ℕ) → AllPositive ks → occurrences_in x ts ≤ variable_coefficients σ x ts ks
      occurs_in-le nil ks p = omega arith
      occurs_in-le (cons t ts) ks p =
          omega (
            arith,
            occurs-le t,
            scale-le ks p (variable_coefficient σ x t),
            occurs_in-le ts (others ks) (others-each ks p),
          )

  pub coefficient-argument : Admissible σ → (f : ℕ) (ts : Terms) (u : Term) → Memᴰ u (row ts) →
      variable_coefficient σ x u ≤ variable_coefficient σ x (app f ts)
  coefficient-argument A =
      measure-argument (coefficients_of σ) (λ y. cond (eqb x y) 1 0) (λ g. 0) A.coefficients_positive

pub not-ground : (x : ℕ) → Ground (var x) → ⊥
not-ground x g = let h = rw eqb-self at (g x) in omega arith

pub is_var-ground : (t : Term) → Ground t → is_var t ≡ false
is_var-ground (var x) g = absurd (not-ground x g)
is_var-ground (app f ts) g = refl

pub none_oftener-ground : (σ : Signature) (s t : Term) → Ground t → NoneOftener σ s t
none_oftener-ground σ s t g x h = omega (arith, coefficient-none σ x t (g x))

pub none_oftener-everywhere : (σ : Signature) (s t : Term) → WellFormed σ t → NoneOftener σ s t → (x : ℕ) →
    variable_coefficient σ x t ≤ variable_coefficient σ x s
none_oftener-everywhere σ s t w o x =
    by_order x variable_count (o x) λ h. omega (arith, coefficient-none σ x t (occurrences-past σ x h t w))

pub expressions : (σ : Signature) → Hereditary (Expression σ) (λ (ts : Terms). WellFormeds σ ts × Grounds ts)
expressions σ = record {
  inner = λ f ts e. (e.0.2, λ x. omega (arith, e.1 x));
  head = λ t ts e. (e.0.0, λ x. omega (arith, e.1 x));
  tail = λ t ts e. (e.0.1, λ x. omega (arith, e.1 x));
}
