-- A signature with coefficients, and four rules over it with their marks and margins.
-- Renders: 000, Example 8.3: the precedence f > ∘ > s > 0, the interpretation, and the rules (1) to (4); 02, order 9:
-- "Rule (4) of Example 8.3 there gets mark 2".
use Rattle.std.specs.Prelude.{List, [], ◌∷◌, true, false, pos}
use Rattle.terms.specs.Signature.{Signature}
use Rattle.terms.specs.Term.{Term}
use Rattle.terms.specs.Term.Term.{var, app}
use Rattle.terms.specs.Term.Terms.{nil, cons}
use Rattle.terms.specs.Equivalence.{pair}
use Rattle.terms.specs.Sample.{entry, Case, line}

-- The symbols 0, s, ∘ and f; f multiplies both its arguments by 4.
abbrev pub example : Signature
example = record {
  w0 = 1;
  symbols =
      entry 0 false 1 0 ∷
      entry 1 false 6 1 ∷
      entry 2 true 3 2 ∷
      record { arity = 2; ac = false; weight = 5; precedence = 3; coefficients = 4 ∷ 4 ∷ [] } ∷
      [];
}

-- 000 writes it 0.
abbrev pub o : Term
o = app 0 nil

abbrev pub s : Term → Term
s t = app 1 (cons t nil)

infixl 6 ◌∘◌
abbrev pub ◌∘◌ : Term → Term → Term
t ∘ u = app 2 (pair t u)

abbrev pub f : Term → Term → Term
f t u = app 3 (pair t u)

abbrev pub x : Term
x = var 0

abbrev pub y : Term
y = var 1

abbrev pub rule_four : Case
rule_four = line (f (x ∘ y) o) (f x o ∘ f y o) 2 (pos 0)

abbrev pub example_rules : List Case
example_rules =
    line (f o (x ∘ x)) x 1 (pos 28) ∷
    line (f x (s y)) (f (x ∘ y) o) 1 (pos 8) ∷
    line (f (s x) y) (f (x ∘ y) o) 1 (pos 8) ∷
    rule_four ∷
    []
