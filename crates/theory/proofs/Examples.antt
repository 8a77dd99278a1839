-- Derivations over 01's sample signature: the theorems are of things that there are.
--     admissible                     the sample signature is admissible
--     formed-rules, all-decreasing   three rules over it
--     inward, regrouped, downward    derivations of two, one and three steps, with their ceilings
use mathlib.Core.List.Memᴰ
use mathlib.Core.List.{[], ◌∷◌, Memᴰ}
use mathlib.Core.Path.{◌≡◌, refl, sym, ◌∙◌}
use mathlib.Core.Bool.{true, false≢true}
use Prim.Native.Nat.{ℕ, suc, zero, ◌-◌, ◌*◌, ◌^◌, ◌≤◌, ◌<◌}
use native.Mathlib.Omega.{arith}
use Rattle.multisets.specs.Multiset.{multiset_equal, row_equal, multiset_greater, row_greater}
use Rattle.terms.specs.Signature.{least_weight, symbol_of, coefficients_of, IsSymbol, Ones, NoZeroWeightUnary, Admissible}
use Rattle.terms.specs.Term.{Term, weight, WellFormed, Expression}
use Rattle.terms.specs.Equivalence.{is_equivalent_to, is_equivalent}
use Rattle.terms.specs.Equivalence.Equivalent.{same, then, under, exchange, regroup}
use Rattle.terms.specs.Equivalence.Equivalents.{none, each}
use Rattle.terms.specs.Order.{none_oftener, flattened_mark, root_mark, decreasing_mark, is_greater_to, is_greater}
use Rattle.terms.specs.Rewriting.{Rule, System, WellFormedRules, Decreasing, AllDecreasing, Context, fill}
use Rattle.terms.specs.Rewriting.{Expressions, ExpressionContext, Step, Derivation, step_count}
use Rattle.terms.specs.Rewriting.Context.{hole, inside}
use Rattle.terms.specs.Rewriting.Derivation.{done, more}
use Rattle.terms.specs.Sample.{sample, o, z, b, ◌⊕◌, neg, sub, u}
use Rattle.terms.proofs.FormedTest.{is_formed, formed-decides}
use Rattle.terms.proofs.MeasureLaws.{replicate-ones, positive-of-ones}
use Rattle.theory.proofs.Ceiling.{step_count-ceiling}

-- ---- the signature

sample-binary : (f : ℕ) → (symbol_of sample f).ac ≡ true → (symbol_of sample f).arity ≡ 2
sample-binary zero e = absurd (false≢true e)
sample-binary (suc zero) e = absurd (false≢true e)
sample-binary (suc (suc zero)) e = absurd (false≢true e)
sample-binary (suc (suc (suc zero))) e = refl
sample-binary (suc (suc (suc (suc zero)))) e = absurd (false≢true e)
sample-binary (suc (suc (suc (suc (suc zero))))) e = absurd (false≢true e)
sample-binary (suc (suc (suc (suc (suc (suc f)))))) e = absurd (false≢true e)

-- A symbol of the sample has its number as its rank, and weighs enough.
sample-symbol : (f : ℕ) → IsSymbol sample f →
    ((symbol_of sample f).precedence ≡ f) ×
    (least_weight 1 (symbol_of sample f).arity ≤ (symbol_of sample f).weight) ×
    ((symbol_of sample f).arity ≡ 1 → 1 ≤ (symbol_of sample f).weight)
sample-symbol zero h = (refl, omega arith, λ e. omega arith)
sample-symbol (suc zero) h = (refl, omega arith, λ e. omega arith)
sample-symbol (suc (suc zero)) h = (refl, omega arith, λ e. omega arith)
sample-symbol (suc (suc (suc zero))) h = (refl, omega arith, λ e. omega arith)
sample-symbol (suc (suc (suc (suc zero)))) h = (refl, omega arith, λ e. omega arith)
sample-symbol (suc (suc (suc (suc (suc zero))))) h = (refl, omega arith, λ e. omega arith)
sample-symbol (suc (suc (suc (suc (suc (suc f)))))) h = absurd (omega arith)

sample-ones : Ones sample
sample-ones zero = replicate-ones 0
sample-ones (suc zero) = replicate-ones 0
sample-ones (suc (suc zero)) = replicate-ones 0
sample-ones (suc (suc (suc zero))) = replicate-ones 2
sample-ones (suc (suc (suc (suc zero)))) = replicate-ones 1
sample-ones (suc (suc (suc (suc (suc zero))))) = replicate-ones 2
sample-ones (suc (suc (suc (suc (suc (suc f)))))) = replicate-ones 0

pub heavy : NoZeroWeightUnary sample
heavy f h = (sample-symbol f h).2

pub admissible : Admissible sample
admissible = record {
  variable_weighs = omega arith;
  ac_binary = sample-binary;
  weighs_enough = λ f h. (sample-symbol f h).1;
  precedences_differ = λ f g h k e. sym (sample-symbol f h).0 ∙ e ∙ (sample-symbol g k).0;
  zero_weight_highest = λ f g h k z. absurd (omega (arith, heavy f h z.unary, z.weightless));
  ac_ones = λ f a. sample-ones f;
  coefficients_positive = λ f. positive-of-ones (coefficients_of sample f) (sample-ones f);
}

-- ---- three rules

abbrev drop-z : Rule
drop-z = record { left = u ⊕ z; right = u }

abbrev z-to-o : Rule
z-to-o = record { left = z; right = o }

abbrev z-to-o-beside : Rule
z-to-o-beside = record { left = z ⊕ u; right = o ⊕ u }

abbrev sample_system : System
sample_system = record { signature = sample; rules = drop-z ∷ z-to-o ∷ z-to-o-beside ∷ [] }

-- What holds of the three rules holds of each.
of-rules : (P : Rule → Type 0) → P drop-z → P z-to-o → P z-to-o-beside → (r : Rule) →
    Memᴰ r sample_system.rules → P r
of-rules P a b c r (Memᴰ.head e) = rw e a
of-rules P a b c r (Memᴰ.tail (Memᴰ.head e)) = rw e b
of-rules P a b c r (Memᴰ.tail (Memᴰ.tail m)) = rw (Memᴰ.eq_of_singleton m) c

-- A given term passes the test of well-formedness by computing.
formed : (t : Term) → is_formed sample t ≡ true → WellFormed sample t
formed t = (formed-decides sample t).0

formed-rules : WellFormedRules sample_system
formed-rules =
    of-rules (λ r. WellFormed sample r.left × WellFormed sample r.right) (formed (u ⊕ z) refl, formed u refl)
    (formed z refl, formed o refl) (formed (z ⊕ u) refl, formed (o ⊕ u) refl)

all-decreasing : AllDecreasing sample_system
unfolding is_greater is_greater_to decreasing_mark root_mark flattened_mark none_oftener is_equivalent is_equivalent_to
    multiset_equal multiset_greater row_equal row_greater
all-decreasing = of-rules (Decreasing sample) refl refl refl

ceiling : {s t : Term} (d : Derivation sample_system s t) → Expression sample s →
    step_count sample_system d < 7 ^ (2 * weight sample s - 1)
ceiling d = step_count-ceiling sample_system admissible heavy formed-rules all-decreasing d

none-around : Expressions sample []
none-around t m = absurd (Memᴰ.not-nil m)

one-around : (s : Term) → Expression sample s → Expressions sample (s ∷ [])
one-around s e t m = rw (Memᴰ.eq_of_singleton m) e

-- ---- two steps by u + z -> u, the first inside a context and up to exchange

inner : Step sample_system (neg (z ⊕ o) ⊕ z) (neg o ⊕ z)
inner = record {
  rule = drop-z;
  is_rule = Memᴰ.head refl;
  substitution = λ x. o;
  images = λ x. (formed o refl, λ y. refl);
  context = inside 3 [] (inside 4 [] hole []) (z ∷ []);
  around = (
    omega arith,
    refl,
    none-around,
    (omega arith, refl, none-around, tt, none-around),
    one-around z (formed z refl, λ x. refl),
  );
  before = under (each (under (each (exchange refl) none)) (each same none));
  after = same;
}

outer : Step sample_system (neg o ⊕ z) (neg o)
outer = record {
  rule = drop-z;
  is_rule = Memᴰ.head refl;
  substitution = λ x. neg o;
  images = λ x. (formed (neg o) refl, λ y. refl);
  context = hole;
  around = tt;
  before = same;
  after = same;
}

inward : Derivation sample_system (neg (z ⊕ o) ⊕ z) (neg o)
inward = more inner (more outer done)

inward-count : step_count sample_system inward ≡ 2
unfolding inward
inward-count = refl

inward-ceiling : step_count sample_system inward < 1977326743
inward-ceiling = ceiling inward (formed (neg (z ⊕ o) ⊕ z) refl, λ x. refl)

-- ---- one step by z + u -> o + u, regrouped before and after

beside : Step sample_system (b ⊕ z ⊕ neg o) (o ⊕ b ⊕ neg o)
beside = record {
  rule = z-to-o-beside;
  is_rule = Memᴰ.tail (Memᴰ.tail (Memᴰ.head refl));
  substitution = λ x. b ⊕ neg o;
  images = λ x. (formed (b ⊕ neg o) refl, λ y. refl);
  context = hole;
  around = tt;
  before = then (under (each (exchange refl) (each same none))) (regroup refl);
  after = regroup refl;
}

regrouped : Derivation sample_system (b ⊕ z ⊕ neg o) (o ⊕ b ⊕ neg o)
regrouped = more beside done

regrouped-count : step_count sample_system regrouped ≡ 1
unfolding regrouped
regrouped-count = refl

regrouped-ceiling : step_count sample_system regrouped < 4747561509943
regrouped-ceiling = ceiling regrouped (formed (b ⊕ z ⊕ neg o) refl, λ x. refl)

-- ---- three steps by two rules

-- The rule z -> o in a context.
step_in : (c : Context) → ExpressionContext sample c → Step sample_system (fill c z) (fill c o)
step_in c h = record {
  rule = z-to-o;
  is_rule = Memᴰ.tail (Memᴰ.head refl);
  substitution = λ x. o;
  images = λ x. (formed o refl, λ y. refl);
  context = c;
  around = h;
  before = same;
  after = same;
}

first : Step sample_system (sub (z ⊕ z) z) (sub z z)
first = record {
  rule = drop-z;
  is_rule = Memᴰ.head refl;
  substitution = λ x. z;
  images = λ x. (formed z refl, λ y. refl);
  context = inside 5 [] hole (z ∷ []);
  around = (omega arith, refl, none-around, tt, one-around z (formed z refl, λ x. refl));
  before = same;
  after = same;
}

downward : Derivation sample_system (sub (z ⊕ z) z) (sub o o)
downward =
    more first
    (more (step_in (inside 5 (z ∷ []) hole [])
    (omega arith, refl, one-around z (formed z refl, λ x. refl), tt, none-around))
    (more (step_in (inside 5 [] hole (o ∷ []))
    (omega arith, refl, none-around, tt, one-around o (formed o refl, λ x. refl))) done))

downward-count : step_count sample_system downward ≡ 3
unfolding downward
downward-count = refl

downward-ceiling : step_count sample_system downward < 40353607
downward-ceiling = ceiling downward (formed (sub (z ⊕ z) z) refl, λ x. refl)
