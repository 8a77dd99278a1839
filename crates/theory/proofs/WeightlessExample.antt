-- A signature with a unary symbol of weight 0: that of 000, Example 3.2. It is admissible, its marks, and a derivation
-- by a rule that mark 11 orients.
--     case-marks              the example's rules, and rules that mark 11 orients, at the root and within
--     admissible              the signature is admissible
--     unwrapping-descends     a derivation of two steps descends
--     no-ceiling              from f^n(a), which weighs as much as a, there are n steps
use mathlib.Core.List.Memᴰ
use mathlib.Core.List.{List, [], ◌∷◌, map}
use mathlib.Core.Path.{◌≡◌, refl, sym, ap, ◌∙◌}
use mathlib.Core.Bool.{true, false, false≢true}
use Prim.Native.Nat.{ℕ, suc, zero, ◌≤◌}
use native.Mathlib.Omega.{arith}
use Rattle.multisets.specs.Multiset.{multiset_equal, row_equal, multiset_greater, row_greater}
use Rattle.terms.specs.Signature.{Signature, least_weight, symbol_of, coefficients_of, IsSymbol, Ones, ZeroWeightUnary}
use Rattle.terms.specs.Signature.{Admissible}
use Rattle.terms.specs.Term.{Term, weight, WellFormed, Expression}
use Rattle.terms.specs.Term.Term.{var, app}
use Rattle.terms.specs.Term.Terms.{nil, cons}
use Rattle.terms.specs.Equivalence.{pair, is_equivalent_to, is_equivalent}
use Rattle.terms.specs.Equivalence.Equivalent.{same}
use Rattle.terms.specs.Order.{none_oftener, flattened_mark, root_mark, decreasing_mark, is_greater_to, is_greater, mark}
use Rattle.terms.specs.Rewriting.{Rule, System, WellFormedRules, Decreasing, AllDecreasing, Context, fill, Expressions}
use Rattle.terms.specs.Rewriting.{ExpressionContext, Step, Derivation, step_count, along, StronglySorted}
use Rattle.terms.specs.Rewriting.Context.{hole, inside}
use Rattle.terms.specs.Rewriting.Derivation.{done, more}
use Rattle.terms.specs.Sample.{entry}
use Rattle.theory.specs.TerminationStatements.{NoCeilingByWeight, CeilingFails}
use Rattle.terms.proofs.FormedTest.{is_formed, formed-decides}
use Rattle.terms.proofs.MeasureLaws.{replicate-ones, positive-of-ones}
use Rattle.theory.proofs.Steps.{along-descends}

-- The AC symbol +, the constant a and f, with f > a > +; f and + weigh nothing.
abbrev pub signature : Signature
signature = record { w0 = 1; symbols = entry 2 true 0 0 ∷ entry 0 false 1 1 ∷ entry 1 false 0 2 ∷ [] }

infixl 6 ◌⊕◌
abbrev pub ◌⊕◌ : Term → Term → Term
s ⊕ t = app 0 (pair s t)

abbrev pub a : Term
a = app 1 nil

abbrev pub f : Term → Term
f s = app 2 (cons s nil)

abbrev u : Term
u = var 0

-- ---- marks

record Case : Type 0 where
  left : Term
  right : Term
  mark : ℕ

abbrev line : Term → Term → ℕ → Case
line s t m = record { left = s; right = t; mark = m }

abbrev cases : List Case
cases =
    line (f (a ⊕ a)) (f a ⊕ f a) 2 ∷
    line (a ⊕ f (f a)) (f a ⊕ f a) 4 ∷
    line (f u) u 11 ∷
    line (f (f u)) u 11 ∷
    line (f (f u)) (f u) 3 ∷
    line (f u ⊕ u) (u ⊕ u) 4 ∷
    line (f u) (var 1) 7 ∷
    line u (f u) 10 ∷
    []

case-marks : map (λ (c : Case). mark signature c.left c.right) cases ≡ map (λ (c : Case). c.mark) cases
unfolding mark is_greater is_greater_to decreasing_mark root_mark flattened_mark none_oftener is_equivalent is_equivalent_to
    multiset_equal multiset_greater row_equal row_greater
case-marks = refl

-- ---- the signature

binary : (g : ℕ) → (symbol_of signature g).ac ≡ true → (symbol_of signature g).arity ≡ 2
binary zero e = refl
binary (suc zero) e = absurd (false≢true e)
binary (suc (suc zero)) e = absurd (false≢true e)
binary (suc (suc (suc g))) e = absurd (false≢true e)

-- A symbol has its number as its rank, and weighs enough; the last alone is unary and weighs 0.
symbol : (g : ℕ) → IsSymbol signature g →
    ((symbol_of signature g).precedence ≡ g) ×
    (least_weight 1 (symbol_of signature g).arity ≤ (symbol_of signature g).weight) ×
    (ZeroWeightUnary signature g → 2 ≤ g)
symbol zero h = (refl, omega arith, λ z. absurd (omega (arith, z.unary)))
symbol (suc zero) h = (refl, omega arith, λ z. absurd (omega (arith, z.unary)))
symbol (suc (suc zero)) h = (refl, omega arith, λ z. omega arith)
symbol (suc (suc (suc g))) h = absurd (omega arith)

ones : Ones signature
ones zero = replicate-ones 2
ones (suc zero) = replicate-ones 0
ones (suc (suc zero)) = replicate-ones 1
ones (suc (suc (suc g))) = replicate-ones 0

pub admissible : Admissible signature
admissible = record {
  variable_weighs = omega arith;
  ac_binary = binary;
  weighs_enough = λ g i. (symbol g i).1;
  precedences_differ = λ g h i j e. sym (symbol g i).0 ∙ e ∙ (symbol h j).0;
  zero_weight_highest = λ g h i j z. omega (arith, (symbol g i).2 z, (symbol g i).0, (symbol h j).0);
  ac_ones = λ g e. ones g;
  coefficients_positive = λ g. positive-of-ones (coefficients_of signature g) (ones g);
}

-- ---- a derivation

abbrev unwrap : Rule
unwrap = record { left = f u; right = u }

abbrev system : System
system = record { signature = signature; rules = unwrap ∷ [] }

formed : (t : Term) → is_formed signature t ≡ true → WellFormed signature t
formed t = (formed-decides signature t).0

formed-rules : WellFormedRules system
formed-rules r m = rw (Memᴰ.eq_of_singleton m) (formed (f u) refl, formed u refl)

unwrap-decreasing : Decreasing signature unwrap
unfolding is_greater is_greater_to decreasing_mark root_mark flattened_mark none_oftener is_equivalent is_equivalent_to
    multiset_equal multiset_greater row_equal row_greater
unwrap-decreasing = refl

all-decreasing : AllDecreasing system
all-decreasing r m = rw (Memᴰ.eq_of_singleton m) unwrap-decreasing

-- The rule with a for its variable, in a context.
step_in : (c : Context) → ExpressionContext signature c → Step system (fill c (f a)) (fill c a)
step_in c h = record {
  rule = unwrap;
  is_rule = Memᴰ.head refl;
  substitution = λ x. a;
  images = λ x. (formed a refl, λ y. refl);
  context = c;
  around = h;
  before = same;
  after = same;
}

none-around : Expressions signature []
none-around t m = absurd (Memᴰ.not-nil m)

unwrapping : Derivation system (f (f a)) a
unwrapping =
    more (step_in (inside 2 [] hole []) (omega arith, refl, none-around, tt, none-around)) (more (step_in hole tt) done)

unwrapping-descends : StronglySorted (λ (s t : Term). is_greater signature s t ≡ true) (along system unwrapping)
unwrapping-descends = along-descends system admissible formed-rules all-decreasing unwrapping

-- ---- no ceiling

-- f^n(a).
abbrev tower : ℕ → Term
tower zero = a
tower (suc n) = f (tower n)

tower-expression : (n : ℕ) → Expression signature (tower n)
tower-expression zero = (formed a refl, λ y. refl)
tower-expression (suc n) =
    let (w, g) = tower-expression n in ((omega arith, refl, (w, tt)), λ y. omega (arith, g y))

weight-tower : (n : ℕ) → weight signature (tower n) ≡ 1
weight-tower zero = refl
weight-tower (suc n) = omega (arith, weight-tower n)

unwrap-top : (t : Term) → Expression signature t → Step system (f t) t
unwrap-top t e = record {
  rule = unwrap;
  is_rule = Memᴰ.head refl;
  substitution = λ x. t;
  images = λ x. e;
  context = hole;
  around = tt;
  before = same;
  after = same;
}

unwrap-all : (n : ℕ) → Derivation system (tower n) a
unwrap-all zero = done
unwrap-all (suc n) = more (unwrap-top (tower n) (tower-expression n)) (unwrap-all n)

unwrap-count : (n : ℕ) → step_count system (unwrap-all n) ≡ n
unfolding unwrap-all
unwrap-count zero = refl
unwrap-count (suc n) = ap suc (unwrap-count n)

no-ceiling : NoCeilingByWeight system
no-ceiling ceiling h =
    let n = ceiling 1 in
    omega (
      arith,
      h (tower n) a (unwrap-all n) (tower-expression n),
      unwrap-count n,
      ap ceiling (weight-tower n),
    )

pub unwrapping-fails : CeilingFails
unwrapping-fails = (system, admissible, formed-rules, all-decreasing, no-ceiling)
