-- The definitions run on small examples.
use mathlib.Core.List.{List, [], ◌∷◌, map, flat_map, Memᴰ}
use mathlib.Core.Path.{◌≡◌, refl}
use mathlib.Core.Bool.{Bool, true, ◌&&◌, and-eq-true_iff as both}
use Rattle.multisets.specs.Multiset.{every, multiset_equal, multiset_greater, row_equal, row_greater}
use Rattle.multisets.specs.Sorting.{sorted, splits}
use Prim.Native.Nat.{ℕ, suc, zero}
use Rattle.terms.specs.Term.{Term}
use Rattle.terms.specs.Equivalence.{is_equivalent_to, is_equivalent}
use Rattle.terms.specs.Order.{none_oftener, flattened_mark, root_mark, decreasing_mark, is_greater_to, is_greater}
use Rattle.terms.specs.Rewriting.{Rule, System, WellFormedRules, AllDecreasing}
use Rattle.terms.specs.Sample.{sample, o, z, b, ◌⊕◌, neg, sub, u}
use Rattle.simplifying.specs.Canonical.{arranged, Arranged}
use Rattle.simplifying.specs.Matching.{regroupings, groupings, matches}
use Rattle.simplifying.specs.Reducts.{results, results_beside, reducts}
use Rattle.simplifying.specs.Simplifying.{Simplification, least_reduct, simplified_within, simplified}
use Rattle.simplifying.specs.Simplifying.Simplification.{normal, stuck}
use Rattle.simplifying.specs.Outcomes.{NoStep, Reaches}
use Rattle.terms.proofs.FormedTest.{is_formed, formed-decides}
use Rattle.theory.proofs.Examples.{admissible, heavy}
use Rattle.simplifying.proofs.Theorems.{simplified-normal}

abbrev rule : Term → Term → Rule
rule l r = record { left = l; right = r }

record Example : Type 0 where
  rules : List Rule
  limit : ℕ
  before : Term
  after : Simplification

abbrev example : List Rule → ℕ → Term → Simplification → Example
example rs n s a = record { rules = rs; limit = n; before = s; after = a }

-- u + o -> u, u + neg(u) -> o, z + o -> b, and b -> neg(z), whose right side is the larger.
abbrev dropping : Rule
dropping = rule (u ⊕ o) u

abbrev cancelling : Rule
cancelling = rule (u ⊕ neg u) o

abbrev regrouping : Rule
regrouping = rule (z ⊕ o) b

abbrev growing : Rule
growing = rule b (neg z)

abbrev many_negs : ℕ → Term → Term
many_negs zero t = t
many_negs (suc n) t = neg (many_negs n t)

-- No rule; one rule at several depths; a non-linear rule in sums of four and of five; a rule that needs a regrouping,
-- with a rest that stays; the smallest of two results; a rule whose result fits, is too large, and fits after another
-- step.
abbrev examples : List Example
examples =
    example [] 24 (b ⊕ neg (z ⊕ o) ⊕ (z ⊕ o)) (normal (o ⊕ (z ⊕ (b ⊕ neg (o ⊕ z))))) ∷
    example (dropping ∷ []) 24 (neg (sub (z ⊕ (o ⊕ b)) (neg (o ⊕ o)) ⊕ o)) (normal (neg (sub (z ⊕ b) (neg o)))) ∷
    example (dropping ∷ (cancelling ∷ [])) 24 (z ⊕ b ⊕ (neg b ⊕ neg z)) (normal o) ∷
    example (cancelling ∷ []) 24 (z ⊕ neg (b ⊕ o) ⊕ (o ⊕ (b ⊕ z))) (normal (o ⊕ (z ⊕ z))) ∷
    example (regrouping ∷ []) 24 (z ⊕ neg b ⊕ o) (normal (b ⊕ neg b)) ∷
    example (dropping ∷ (regrouping ∷ [])) 24 (z ⊕ o) (normal z) ∷
    example (growing ∷ []) 24 (many_negs 22 b) (normal (many_negs 23 z)) ∷
    example (growing ∷ []) 24 (many_negs 23 b) stuck ∷
    example (dropping ∷ (growing ∷ [])) 24 (many_negs 20 (b ⊕ o)) (normal (many_negs 21 z)) ∷
    []

abbrev system_of : List Rule → System
system_of rs = record { signature = sample; rules = rs }

abbrev run : Example → Example
run e =
    example e.rules e.limit e.before (simplified (system_of e.rules) e.limit e.before)

examples-hold : map run examples ≡ examples
unfolding flat_map splits regroupings groupings matches results results_beside reducts least_reduct simplified_within
    simplified arranged sorted is_greater is_greater_to decreasing_mark root_mark flattened_mark none_oftener is_equivalent
    is_equivalent_to multiset_equal multiset_greater row_equal row_greater
examples-hold = refl

-- ---- the theorems are of things that there are

abbrev all_rules : List Rule
all_rules = dropping ∷ (cancelling ∷ (regrouping ∷ (growing ∷ [])))

every-member : {A : Type 0} (p : A → Bool) (l : List A) → every p l ≡ true → (a : A) → Memᴰ a l → p a ≡ true
every-member p [] e a x = elim x [ ]
every-member p (b ∷ l) e a (Memᴰ.head q) = rw q ((both (p b) _).0 e).0
every-member p (b ∷ l) e a (Memᴰ.tail m) = every-member p l ((both (p b) _).0 e).1 a m

formed-rules : WellFormedRules (system_of all_rules)
formed-rules r m =
    let h = every-member (λ (r : Rule). is_formed sample r.left && is_formed sample r.right) all_rules refl r m in
    let (v, w) = (both (is_formed sample r.left) _).0 h in
    ((formed-decides sample r.left).0 v, (formed-decides sample r.right).0 w)

all-decreasing : AllDecreasing (system_of all_rules)
unfolding is_greater is_greater_to decreasing_mark root_mark flattened_mark none_oftener is_equivalent is_equivalent_to
    multiset_equal multiset_greater row_equal row_greater
all-decreasing = every-member (λ (r : Rule). is_greater sample r.left r.right) all_rules refl

abbrev sum : Term
sum = z ⊕ b ⊕ (neg b ⊕ neg z)

-- A list of steps leads from the sum to o, and none leads on.
sum-reaches : Reaches (system_of all_rules) sum o × Arranged sample o × NoStep (system_of all_rules) o
unfolding flat_map splits regroupings groupings matches results results_beside reducts least_reduct simplified_within
    simplified arranged sorted is_greater is_greater_to decreasing_mark root_mark flattened_mark none_oftener is_equivalent
    is_equivalent_to multiset_equal multiset_greater row_equal row_greater
sum-reaches =
    simplified-normal (system_of all_rules) 24 heavy admissible formed-rules all-decreasing sum
    ((formed-decides sample sum).0 refl, λ x. refl) o refl
