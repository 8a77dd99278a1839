-- The signature of 000, Example 8.3, with the example's rules.
--     admissible, heavy              the signature is admissible, and has no unary symbol of weight 0
--     counted                        the coefficients above a variable multiply
--     formed-rules, all-decreasing   the rules
--     ends, ceiling                  steps by them go on for ever from no term, and have a ceiling
use mathlib.Core.List.Memᴰ
use mathlib.Core.List.{[], ◌∷◌, map, Memᴰ}
use mathlib.Core.Path.{◌≡◌, refl, sym, ◌∙◌}
use mathlib.Core.Bool.{true, false≢true}
use mathlib.Core.WellFounded.{Acc}
use Prim.Native.Nat.{ℕ, suc, zero, ◌-◌, ◌*◌, ◌^◌, ◌≤◌, ◌<◌}
use native.Mathlib.Omega.{arith}
use Rattle.multisets.specs.Multiset.{multiset_equal, row_equal, multiset_greater, row_greater}
use Rattle.terms.specs.Signature.{least_weight, AllPositive, AllOnes, symbol_of, coefficients_of, IsSymbol}
use Rattle.terms.specs.Signature.{NoZeroWeightUnary, Admissible}
use Rattle.terms.specs.Term.{Term, weight, WellFormed, Expression}
use Rattle.terms.specs.Equivalence.{is_equivalent_to, is_equivalent}
use Rattle.terms.specs.Order.{none_oftener, flattened_mark, root_mark, decreasing_mark, is_greater_to, is_greater, mark}
use Rattle.terms.specs.Rewriting.{Rule, System, WellFormedRules, Decreasing, AllDecreasing, Step, Derivation, step_count}
use Rattle.terms.specs.Sample.{Case}
use Rattle.terms.specs.CoefficientSample.{example, o, s, f, ◌∘◌, x, y, example_rules}
use Rattle.terms.proofs.FormedTest.{is_formed, formed-decides}
use Rattle.terms.proofs.MeasureLaws.{replicate-ones, positive-of-ones}
use Rattle.theory.proofs.Steps.{steps-accessible}
use Rattle.theory.proofs.Ceiling.{step_count-ceiling}

-- ---- the signature

-- AC symbols have two arguments, with the coefficient 1.
ac-symbol : (g : ℕ) → (symbol_of example g).ac ≡ true →
    ((symbol_of example g).arity ≡ 2) × AllOnes (coefficients_of example g)
ac-symbol zero e = absurd (false≢true e)
ac-symbol (suc zero) e = absurd (false≢true e)
ac-symbol (suc (suc zero)) e = (refl, replicate-ones 2)
ac-symbol (suc (suc (suc zero))) e = absurd (false≢true e)
ac-symbol (suc (suc (suc (suc g)))) e = absurd (false≢true e)

four-each : AllPositive (4 ∷ 4 ∷ [])
four-each k (Memᴰ.head e) = rw e (omega arith)
four-each k (Memᴰ.tail m) = rw (Memᴰ.eq_of_singleton m) (omega arith)

positive : (g : ℕ) → AllPositive (coefficients_of example g)
positive zero = positive-of-ones [] (replicate-ones 0)
positive (suc zero) = positive-of-ones (1 ∷ []) (replicate-ones 1)
positive (suc (suc zero)) = positive-of-ones (1 ∷ 1 ∷ []) (replicate-ones 2)
positive (suc (suc (suc zero))) = four-each
positive (suc (suc (suc (suc g)))) = positive-of-ones [] (replicate-ones 0)

-- A symbol has its number as its rank, and weighs enough.
symbol : (g : ℕ) → IsSymbol example g →
    ((symbol_of example g).precedence ≡ g) ×
    (least_weight 1 (symbol_of example g).arity ≤ (symbol_of example g).weight) ×
    ((symbol_of example g).arity ≡ 1 → 1 ≤ (symbol_of example g).weight)
symbol zero h = (refl, omega arith, λ e. omega arith)
symbol (suc zero) h = (refl, omega arith, λ e. omega arith)
symbol (suc (suc zero)) h = (refl, omega arith, λ e. omega arith)
symbol (suc (suc (suc zero))) h = (refl, omega arith, λ e. omega arith)
symbol (suc (suc (suc (suc g)))) h = absurd (omega arith)

heavy : NoZeroWeightUnary example
heavy g h = (symbol g h).2

pub admissible : Admissible example
admissible = record {
  variable_weighs = omega arith;
  ac_binary = λ g e. (ac-symbol g e).0;
  weighs_enough = λ g i. (symbol g i).1;
  precedences_differ = λ g h i j e. sym (symbol g i).0 ∙ e ∙ (symbol h j).0;
  zero_weight_highest = λ g h i j z. absurd (omega (arith, heavy g i z.unary, z.weightless));
  ac_ones = λ g e. (ac-symbol g e).1;
  coefficients_positive = positive;
}

-- ---- the variable test

abbrev twice : Term → Term
twice t = t ∘ t

-- x counts 4 times in f(x, 0), and 16 times in f(f(x, 0), 0).
counted :
    (mark example (f x o) (twice (twice x)) ≡ 2) ×
    (mark example (f (f x o) o) (twice (twice (twice (twice x)))) ≡ 2) ×
    (mark example (f (f x o) o) (twice (twice (twice (twice x))) ∘ x) ≡ 7)
unfolding mark is_greater is_greater_to decreasing_mark root_mark flattened_mark none_oftener is_equivalent is_equivalent_to
    multiset_equal multiset_greater row_equal row_greater
counted = (refl, refl, refl)

-- ---- the rules

abbrev rule_of : Case → Rule
rule_of c = record { left = c.left; right = c.right }

abbrev system : System
system = record { signature = example; rules = map rule_of example_rules }

-- What holds of the four rules holds of each.
of-rules : (P : Rule → Type 0) → P (record { left = f o (x ∘ x); right = x }) →
    P (record { left = f x (s y); right = f (x ∘ y) o }) → P (record { left = f (s x) y; right = f (x ∘ y) o }) →
    P (record { left = f (x ∘ y) o; right = f x o ∘ f y o }) → (r : Rule) → Memᴰ r system.rules → P r
of-rules P a b c d r (Memᴰ.head e) = rw e a
of-rules P a b c d r (Memᴰ.tail (Memᴰ.head e)) = rw e b
of-rules P a b c d r (Memᴰ.tail (Memᴰ.tail (Memᴰ.head e))) = rw e c
of-rules P a b c d r (Memᴰ.tail (Memᴰ.tail (Memᴰ.tail m))) = rw (Memᴰ.eq_of_singleton m) d

formed : (t u : Term) → is_formed example t ≡ true → is_formed example u ≡ true →
    WellFormed example t × WellFormed example u
formed t u d e = ((formed-decides example t).0 d, (formed-decides example u).0 e)

formed-rules : WellFormedRules system
formed-rules =
    of-rules (λ r. WellFormed example r.left × WellFormed example r.right) (formed (f o (x ∘ x)) x refl refl)
    (formed (f x (s y)) (f (x ∘ y) o) refl refl) (formed (f (s x) y) (f (x ∘ y) o) refl refl)
    (formed (f (x ∘ y) o) (f x o ∘ f y o) refl refl)

all-decreasing : AllDecreasing system
unfolding is_greater is_greater_to decreasing_mark root_mark flattened_mark none_oftener is_equivalent is_equivalent_to
    multiset_equal multiset_greater row_equal row_greater
all-decreasing = of-rules (Decreasing example) refl refl refl refl

ends : (t : Term) → Acc (λ (v u : Term). Step system u v) t
ends = steps-accessible system admissible formed-rules all-decreasing

ceiling : {t u : Term} (d : Derivation system t u) → Expression example t →
    step_count system d < 5 ^ (2 * weight example t - 1)
ceiling d = step_count-ceiling system admissible heavy formed-rules all-decreasing d
