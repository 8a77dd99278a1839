-- Steinbach's order: tests that agree on the parts, and the order without depth.
--     none_more-ones                where coefficients change no count, the test of occurrences is the order's
--     none_more-facts               what it says
--     steinbach_decreases-agree     the tests of two terms
--     is_steinbach_greater-unfolds   from the size on the depth does not matter
use mathlib.Core.List.{[]}
use mathlib.Core.Logic.{◌↔◌}
use mathlib.Core.Path.{◌≡◌, refl, ap₂}
use mathlib.Core.Bool.{Bool, true, ◌&&◌}
use Prim.Native.Nat.{ℕ, suc, zero, ◌≤◌, ◌<◌}
use lib.Dec.{leb}
use Rattle.terms.specs.Signature.{Signature}
use Rattle.terms.specs.Term.{Term, row, size, occurrences, variable_coefficient, flattenings}
use Rattle.terms.specs.Term.Term.{var, app}
use Rattle.terms.specs.Equivalence.{is_equivalent}
use Rattle.terms.specs.Order.{none_oftener}
use Rattle.terms.specs.Steinbach.{none_more, steinbach_cases, steinbach_decreases, is_steinbach_greater_to}
use Rattle.terms.specs.Steinbach.{is_steinbach_greater}
use Rattle.multisets.proofs.Agreement.{multiset_greater-agree, row_greater-agree}
use Rattle.terms.proofs.TermLaws.{Parts, smaller-parts, any-parts, AgreeOn, each-agree, AsksSmaller}
use Rattle.terms.proofs.TermLaws.{without-depth}
use Rattle.terms.proofs.OrderLaws.{none_oftener-facts}

pub none_more-ones : (σ : Signature) → ((x : ℕ) (t : Term) → variable_coefficient σ x t ≡ occurrences x t) →
    (n : ℕ) (s t : Term) → none_oftener σ n s t ≡ none_more n s t
unfolding none_oftener none_more
none_more-ones σ o zero s t = refl
none_more-ones σ o (suc n) s t = ap₂ ◌&&◌ (ap₂ leb (o n t) (o n s)) (none_more-ones σ o n s t)

-- A signature without symbols has no coefficients.
pub none_more-facts : (n : ℕ) (s t : Term) →
    none_more n s t ≡ true ↔ ((x : ℕ) → x < n → occurrences x t ≤ occurrences x s)
none_more-facts n s t =
    let bare : Signature = record { w0 = 1; symbols = [] } in
    rw (← none_more-ones bare (λ x u. refl) n s t) (none_oftener-facts bare n s t)

module _ (σ : Signature) (P Q : Term → Type 0) (like like' : Term → Term → Bool) (h : AgreeOn P Q like like')
    (greater greater' : Term → Term → Bool) (k : AgreeOn P Q greater greater') where
  steinbach_cases-agree : (s t : Term) → Parts P s → Parts Q t →
      steinbach_cases σ like greater s t ≡ steinbach_cases σ like' greater' s t
  unfolding steinbach_cases
  steinbach_cases-agree (var x) t p q = refl
  steinbach_cases-agree (app f ss) (var y) p q = refl
  steinbach_cases-agree (app f ss) (app g ts) p q =
      rw (
        multiset_greater-agree like like' greater greater' (flattenings f ss) (flattenings f ts)
            (each-agree h (p.1 f) (q.1 f)) (each-agree k (p.1 f) (q.1 f)),
        row_greater-agree like like' greater greater' (row ss) (row ts) (each-agree h p.0 q.0)
            (each-agree k p.0 q.0),
      )

  pub steinbach_decreases-agree : (s t : Term) → Parts P s → Parts Q t →
      steinbach_decreases σ like greater s t ≡ steinbach_decreases σ like' greater' s t
  unfolding steinbach_decreases
  steinbach_decreases-agree s t p q = rw (steinbach_cases-agree s t p q)

module _ (σ : Signature) where
  asks-smaller : AsksSmaller (steinbach_decreases σ (is_equivalent σ))
  asks-smaller greater greater' s t h =
      steinbach_decreases-agree σ (λ a. size a < size s) (λ b. Unit {0}) (is_equivalent σ) (is_equivalent σ)
      (λ a b p q. refl) greater greater' (λ a b p q. h a b p) s t (smaller-parts s) (any-parts t)

  pub is_steinbach_greater-unfolds : (s t : Term) →
      is_steinbach_greater σ s t ≡ steinbach_decreases σ (is_equivalent σ) (is_steinbach_greater σ) s t
  unfolding is_steinbach_greater_to is_steinbach_greater
  is_steinbach_greater-unfolds =
      without-depth (steinbach_decreases σ (is_equivalent σ)) asks-smaller (is_steinbach_greater_to σ) λ n s t. refl
