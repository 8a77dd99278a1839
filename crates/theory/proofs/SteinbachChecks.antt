-- Steinbach's order, run on 004's Example 3.4, and beside the order of 01 where + is ranked lowest and where it is not.
use mathlib.Core.List.{List, [], ◌∷◌, map}
use mathlib.Core.Path.{◌≡◌, refl}
use mathlib.Core.Bool.{Bool, true, false, false≢true}
use Prim.Native.Nat.{ℕ, suc, zero}
use native.Mathlib.Omega.{arith}
use Rattle.multisets.specs.Multiset.{multiset_equal, multiset_greater, row_equal, row_greater}
use Rattle.terms.specs.Signature.{Symbol, Signature}
use Rattle.terms.specs.Term.{Term}
use Rattle.terms.specs.Equivalence.{is_equivalent_to, is_equivalent}
use Rattle.terms.specs.Order.{none_oftener, flattened_mark, root_mark, decreasing_mark, is_greater_to, is_greater}
use Rattle.terms.specs.Steinbach.{none_more, steinbach_cases, steinbach_decreases, is_steinbach_greater_to}
use Rattle.terms.specs.Steinbach.{is_steinbach_greater}
use Rattle.terms.specs.Sample.{entry, sample, o, z, b, u, neg, ◌⊕◌}
use Rattle.theory.specs.SteinbachStatements.{AcLowest}

-- The sample's symbols with + ranked lowest and neg highest, neg as given. With o for a and neg for f, of
-- weight 0, it is Example 3.4's: f > a > +, w(+) = w(a) = 1.
abbrev with_neg : Symbol → Signature
with_neg n = record {
  w0 = 1;
  symbols =
      entry 0 false 1 1 ∷
      entry 0 false 1 2 ∷
      entry 0 false 3 3 ∷
      entry 2 true 1 0 ∷
      n ∷
      entry 2 false 1 4 ∷
      [];
}

abbrev lowest : ℕ → Signature
lowest w = with_neg (entry 1 false w 5)

-- neg weighs 1 and has the coefficient 2.
abbrev doubled : Signature
doubled = with_neg (record { arity = 1; ac = false; weight = 1; precedence = 5; coefficients = 2 ∷ [] })

ac-lowest : (w : ℕ) → AcLowest (lowest w)
ac-lowest w zero g h k e = absurd (false≢true e)
ac-lowest w (suc zero) g h k e = absurd (false≢true e)
ac-lowest w (suc (suc zero)) g h k e = absurd (false≢true e)
ac-lowest w (suc (suc (suc zero))) g h k e = omega arith
ac-lowest w (suc (suc (suc (suc zero)))) g h k e = absurd (false≢true e)
ac-lowest w (suc (suc (suc (suc (suc zero))))) g h k e = absurd (false≢true e)
ac-lowest w (suc (suc (suc (suc (suc (suc f)))))) g h k e = absurd (false≢true e)

not-in-sample : AcLowest sample → ⊥
not-in-sample L = omega (arith, L 3 0 (omega arith) (omega arith) refl)

-- Whether the left side is greater in the order of 01, and in Steinbach's.
record Pair : Type 0 where
  signature : Signature
  left : Term
  right : Term
  greater : Bool
  steinbach : Bool

abbrev line : Signature → Term → Term → Bool → Bool → Pair
line σ s t g h = record { signature = σ; left = s; right = t; greater = g; steinbach = h }

-- The rules of Example 3.4, by cases 2 and 4, and case 1; the second rule where f weighs 1, and pairs with variables;
-- then 01's starred case of mark 5, with + ranked lowest, and in the sample book, where it is not: there Steinbach's
-- order turns the case round. With a coefficient the orders differ by weight: 7 or 4 against 5.
abbrev pairs : List Pair
pairs =
    line (lowest 0) (neg (o ⊕ o)) (neg o ⊕ neg o) true true ∷
    line (lowest 0) (o ⊕ neg (neg o)) (neg o ⊕ neg o) true true ∷
    line (lowest 0) (neg (neg u)) u true true ∷
    line (lowest 0) u (neg u) false false ∷
    line (lowest 1) (o ⊕ neg (neg o)) (neg o ⊕ neg o) true true ∷
    line (lowest 1) (neg z ⊕ u) (neg o ⊕ u) true true ∷
    line (lowest 1) (neg u ⊕ o) (u ⊕ neg o) false false ∷
    line (lowest 1) (z ⊕ z ⊕ z) (z ⊕ b) false false ∷
    line (lowest 1) (z ⊕ b) (z ⊕ z ⊕ z) true true ∷
    line sample (z ⊕ z ⊕ z) (z ⊕ b) true false ∷
    line sample (z ⊕ b) (z ⊕ z ⊕ z) false true ∷
    line doubled (neg b) (b ⊕ o) true false ∷
    []

abbrev judged : Pair → Pair
judged p =
    line p.signature p.left p.right (is_greater p.signature p.left p.right)
    (is_steinbach_greater p.signature p.left p.right)

pairs-judged : map judged pairs ≡ pairs
unfolding is_greater is_greater_to decreasing_mark root_mark flattened_mark none_oftener is_equivalent is_equivalent_to
    multiset_equal multiset_greater row_equal row_greater is_steinbach_greater is_steinbach_greater_to steinbach_decreases
    steinbach_cases none_more
pairs-judged = refl
