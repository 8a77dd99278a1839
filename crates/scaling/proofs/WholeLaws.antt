-- The weight of a whole term by the sum over its words, cut off at the limit.
--     weight-start, weight-whole     the sum over no words and over all
--     light-weight, light-count      02: a term whose weight is below the limit when cut off is not refused with 21
--     heavy-weight                   and one whose weight is not is
use mathlib.Core.List.{List}
use mathlib.Core.Path.{◌≡◌, refl}
use Prim.Native.Nat.{ℕ, ◌≤◌, ◌<◌}
use native.Mathlib.Omega.{arith}
use lib.ListN.{length}
use Rattle.terms.specs.Signature.{Signature, symbol_of}
use Rattle.terms.specs.Term.{Term, weight, variable_coefficient}
use Rattle.terms.specs.Words.{term_of}
use Rattle.format.specs.Statements.{IsTerm}
use Rattle.scaling.specs.Scaled.{limit, cut, scaled_sum, weight_to, Scaling}
use Rattle.scaling.proofs.NearLaws.{cut-light, cut-heavy, cut-of-near}
use Rattle.scaling.proofs.OffsetLaws.{whole, count-light}

pub weight-start : (σ : Signature) (ws : List ℕ) → 0 ≡ weight_to σ ws 0
unfolding scaled_sum
weight-start σ ws = refl

pub weight-whole : {σ : Signature} {ws : List ℕ} → Scaling σ → IsTerm σ ws → (k : ℕ) → k ≡ length ws →
    cut (weight_to σ ws k) ≡ cut (weight σ (term_of σ ws))
weight-whole {σ} {ws} S p k e =
    rw e (cut-of-near (whole S p (λ x. σ.w0) (λ f. (symbol_of σ f).weight)))

module _ (σ : Signature) (t : Term) {r : ℕ} (e : r ≡ cut (weight σ t)) where
  pub light-weight : r < limit → r ≡ weight σ t
  light-weight h = omega (arith, cut-light (weight σ t) (rw e at h))

  pub light-count : r < limit → 0 < σ.w0 → (x : ℕ) → variable_coefficient σ x t < limit
  light-count h p x = omega (arith, light-weight h, count-light σ p x t)

  pub heavy-weight : limit ≤ r → limit ≤ weight σ t
  heavy-weight h = cut-heavy (weight σ t) (rw e at h)
