-- A variable under copies of one symbol.
--     is_power→Iterated, Iterated→is_power    the test decides
--     power-resp-equivalent                 it does not tell AC-equivalent terms apart
--     iterated-substitute                   substitutions keep the copies
--     iterated-unary, iterated-weight       the symbol has one argument, and each copy adds its weight
--     power-of-balanced                     a term that weighs as much as a variable which occurs in it is one
use mathlib.Core.List.{List}
use mathlib.Core.Logic.{◌⊎◌, inl, inr, ⊎_elim}
use mathlib.Core.Path.{◌≡◌, refl, sym, ap, ◌∙◌}
use mathlib.Core.Bool.{true, ◌&&◌, and-eq-true_iff as both, false≢true}
use Prim.Native.Nat.{ℕ, ◌+◌, ◌≤◌, ◌<◌}
use native.Mathlib.Omega.{arith}
use lib.ListN.{length}
use lib.Dec.{eqb}
use borrow.Author.Tests.{eq-eqb, eqb-true}
use Rattle.terms.specs.Signature.{Signature, scale, others, AllPositive, symbol_of, coefficients_of, IsSymbol}
use Rattle.terms.specs.Signature.{ZeroWeightUnary, Admissible}
use Rattle.terms.specs.Term.{Term, Terms, row, weight, variable_coefficient, WellFormed}
use Rattle.terms.specs.Term.{WellFormeds}
use Rattle.terms.specs.Term.Term.{var, app}
use Rattle.terms.specs.Term.Terms.{nil, cons}
use Rattle.terms.specs.Equivalence.{Equivalent, Equivalents}
use Rattle.terms.specs.Equivalence.Equivalent.{same, back, then, under, exchange, regroup}
use Rattle.terms.specs.Equivalence.Equivalents.{none, each}
use Rattle.terms.specs.Iterated.{Iterated, is_power, is_one_power}
use Rattle.terms.specs.Iterated.Iterated.{once, more}
use Rattle.terms.specs.Marks.{Balanced}
use Rattle.terms.specs.Rewriting.{Substitution, substitute}
use Rattle.multisets.proofs.Relations.{by_test, eqb-self}
use Rattle.terms.proofs.MeasureLaws.{scale-le, scale-pos, others-each}
use Rattle.terms.proofs.VariableLaws.{variable_coefficients}
use Rattle.terms.proofs.WeightLaws.{weights, weight-least}

module _ (f x : ℕ) where
  mutual
    iterated-of : (s : Term) → is_power f x s ≡ true → (s ≡ var x) ⊎ Iterated f s (var x)
    iterated-of (var y) e = inl (ap var (sym (eqb-true x y e)))
    iterated-of (app g ts) e =
        let h = (both (eqb f g) _).0 e in inr (rw (← eqb-true f g h.0) (iterated-one ts h.1))

    iterated-one : (ts : Terms) → is_one_power f x ts ≡ true → Iterated f (app f ts) (var x)
    iterated-one nil e = absurd (false≢true e)
    iterated-one (cons t nil) e = ⊎_elim (λ q. rw q once) (λ i. more i) (iterated-of t e)
    iterated-one (cons t (cons u us)) e = absurd (false≢true e)

  pub is_power→Iterated : (g : ℕ) (ts : Terms) → is_power f x (app g ts) ≡ true → Iterated f (app g ts) (var x)
  is_power→Iterated g ts e =
      let h = (both (eqb f g) _).0 e in rw (← eqb-true f g h.0) (iterated-one ts h.1)

  power-on : {s t : Term} → Iterated f s t → is_power f x t ≡ true → is_power f x s ≡ true
  power-on once e = (both _ _).1 (eqb-self f, e)
  power-on (more i) e = (both _ _).1 (eqb-self f, power-on i e)

  pub Iterated→is_power : {s : Term} → Iterated f s (var x) → is_power f x s ≡ true
  Iterated→is_power i = power-on i (eqb-self x)

  module _ (σ : Signature) where
    mutual
      pub power-resp-equivalent : {s t : Term} → Equivalent σ s t → is_power f x s ≡ is_power f x t
      power-resp-equivalent same = refl
      power-resp-equivalent (back d) = sym (power-resp-equivalent d)
      power-resp-equivalent (then d e) = power-resp-equivalent d ∙ power-resp-equivalent e
      power-resp-equivalent (under {f = g} d) = ap (◌&&◌ (eqb f g)) (one-power-resp-equivalents d)
      power-resp-equivalent (exchange a) = refl
      power-resp-equivalent (regroup a) = refl

      one-power-resp-equivalents : {ss ts : Terms} → Equivalents σ ss ts → is_one_power f x ss ≡ is_one_power f x ts
      one-power-resp-equivalents none = refl
      one-power-resp-equivalents (each d none) = power-resp-equivalent d
      one-power-resp-equivalents (each d (each e r)) = refl

pub iterated-substitute : (τ : Substitution) {f : ℕ} {s t : Term} → Iterated f s t →
    Iterated f (substitute τ s) (substitute τ t)
iterated-substitute τ once = once
iterated-substitute τ (more i) = more (iterated-substitute τ i)

pub iterated-unary : (σ : Signature) {f : ℕ} {s t : Term} → Iterated f s t → WellFormed σ s →
    (symbol_of σ f).arity ≡ 1
iterated-unary σ once w = sym w.1
iterated-unary σ (more i) w = sym w.1

module _ (σ : Signature) (A : Admissible σ) where
  argument-le : (f : ℕ) (t : Term) → weight σ t ≤ scale (coefficients_of σ f) (weight σ t)
  argument-le f t = scale-le (coefficients_of σ f) (A.coefficients_positive f) (weight σ t)

  pub iterated-weight : {f : ℕ} {s t : Term} → Iterated f s t → (symbol_of σ f).weight + weight σ t ≤ weight σ s
  iterated-weight {f} (once {t}) = omega (arith, argument-le f t)
  iterated-weight {f} (more {s} i) = omega (arith, argument-le f s, iterated-weight i)

module _ (σ : Signature) (A : Admissible σ) (x : ℕ) where
  -- Any other leaf weighs as much as the variable again.
  root-weightless : (g : ℕ) (ts : Terms) → WellFormed σ (app g ts) → weight σ (app g ts) ≤ σ.w0 →
      0 < variable_coefficient σ x (app g ts) → ZeroWeightUnary σ g
  root-weightless g nil w l o = absurd (omega arith)
  root-weightless g (cons t nil) w l o =
      record {
        unary = sym w.1;
        weightless = omega (arith, weight-least σ A t w.2.0, argument-le σ A g t);
      }
  root-weightless g (cons t (cons u us)) w l o =
      let ks = others (coefficients_of σ g) in
      absurd (omega (
        arith,
        A.variable_weighs,
        weight-least σ A t w.2.0,
        weight-least σ A u w.2.1.0,
        argument-le σ A g t,
        scale-le ks (others-each (coefficients_of σ g) (A.coefficients_positive g)) (weight σ u),
      ))

  module _ (f : ℕ) (i : IsSymbol σ f) (z : ZeroWeightUnary σ f) where
    mutual
      power-of-light : (t : Term) → WellFormed σ t → weight σ t ≤ σ.w0 → 0 < variable_coefficient σ x t →
          is_power f x t ≡ true
      power-of-light (var y) w l o = by_test (eqb x y) (λ e. e) λ e. absurd (let h = rw e at o in omega arith)
      power-of-light (app g ts) w l o =
          let y = root-weightless g ts w l o in
          let e = A.precedences_differ f g i w.0 (omega (
            arith,
            A.zero_weight_highest f g i w.0 z,
            A.zero_weight_highest g f w.0 i y,
          )) in
          (both _ _).1 (
            eq-eqb f g e,
            one-power-of-light ts (w.1 ∙ y.unary) w.2 (coefficients_of σ g) (A.coefficients_positive g)
                (omega arith) (omega arith),
          )

      one-power-of-light : (ts : Terms) → length (row ts) ≡ 1 → WellFormeds σ ts → (ks : List ℕ) → AllPositive ks →
          weights σ ts ks ≤ σ.w0 → 0 < variable_coefficients σ x ts ks → is_one_power f x ts ≡ true
      one-power-of-light nil n w ks p l o = absurd (omega arith)
      one-power-of-light (cons t nil) n w ks p l o =
          power-of-light t w.0 (omega (arith, scale-le ks p (weight σ t)))
          (scale-pos ks (variable_coefficient σ x t) (omega arith))
      one-power-of-light (cons t (cons u us)) n w ks p l o = absurd (omega arith)

  pub power-of-balanced : (f : ℕ) (ss : Terms) → WellFormed σ (app f ss) → WellFormed σ (var x) →
      Balanced σ (app f ss) (var x) → is_power f x (app f ss) ≡ true
  power-of-balanced f ss v w b =
      let l : weight σ (app f ss) ≤ σ.w0 = omega (arith, b.weights) in
      let o : 0 < variable_coefficient σ x (app f ss) = rw eqb-self at (b.none x w) in
      power-of-light f v.0 (root-weightless f ss v l o) (app f ss) v l o
