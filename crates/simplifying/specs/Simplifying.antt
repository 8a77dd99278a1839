-- The smallest result of one step, and simplifying by it.
-- Renders: 02, request 14: "Of all results of one step, AC regrouping allowed, with at most 24 nodes, take the
-- smallest, and go on until no step exists." and "28 at some point steps exist and every result exceeds 24 nodes".
use Rattle.std.specs.Prelude.{List, [], ◌∷◌, Bool, ℕ, suc, zero, ◌-◌, ◌*◌, ◌^◌, length, leb}
use Rattle.multisets.specs.Multiset.{choose}
use Rattle.multisets.specs.Sorting.{sorted}
use Rattle.terms.specs.Signature.{Signature}
use Rattle.terms.specs.Term.{Term, size, weight}
use Rattle.terms.specs.Order.{is_greater}
use Rattle.terms.specs.Rewriting.{System}
use Rattle.simplifying.specs.Canonical.{canonical}
use Rattle.simplifying.specs.Reducts.{reducts}

-- More than the number of steps that lead on from a term (theory, StepCeiling).
abbrev pub step_ceiling : Signature → Term → ℕ
step_ceiling σ t = suc (length σ.symbols) ^ (2 * weight σ t - 1)

-- What one step gives: no step exists, every result is too large, or the smallest result.
pub data Reduction : Type 0 where
  irreducible : Reduction
  too_large : Reduction
  reduced : Term → Reduction

-- What simplifying gives: a term from which no step leads on, or 28.
pub data Simplification : Type 0 where
  normal : Term → Simplification
  stuck : Simplification

abbrev pub proceed : Term → (Term → Simplification) → Reduction → Simplification
proceed t simplify irreducible = normal t
proceed t simplify too_large = stuck
proceed t simplify (reduced u) = simplify u

module _ (R : System) (limit : ℕ) where
  abbrev pub fits : Term → Bool
  fits t = leb (size t) limit

  -- By all results, and by those that fit, smallest first.
  abbrev pub reduction : List Term → List Term → Reduction
  reduction [] us = irreducible
  reduction (t ∷ ts) [] = too_large
  reduction (t ∷ ts) (u ∷ us) = reduced (canonical R.signature u)

  unfoldable pub least_reduct : Term → Reduction
  least_reduct t = let ts = reducts R t in reduction ts (sorted (is_greater R.signature) (choose fits ts))

  -- In fewer than k steps.
  unfoldable pub simplified_within : ℕ → Term → Simplification
  simplified_within zero t = stuck
  simplified_within (suc k) t = proceed t (simplified_within k) (least_reduct t)

  unfoldable pub simplified : Term → Simplification
  simplified t = let s = canonical R.signature t in simplified_within (step_ceiling R.signature s) s

  abbrev pub counted : (Term → ℕ) → Reduction → ℕ
  counted count irreducible = 0
  counted count too_large = 0
  counted count (reduced u) = suc (count u)

  -- How many steps simplifying takes, counted up to k.
  unfoldable pub steps_within : ℕ → Term → ℕ
  steps_within zero t = 0
  steps_within (suc k) t = counted (steps_within k) (least_reduct t)

  unfoldable pub steps_left : Term → ℕ
  steps_left t = steps_within (step_ceiling R.signature t) t
