-- The fingerprint of a term, of 32 bits.
-- Renders: 02, order 2: "The fingerprint is 32 bits and wraps past the top on purpose. A leaf's is its word plus 1. A
-- non-AC symbol q starts at q + 1; for each argument the value becomes 31 times itself plus the argument's
-- fingerprint. An AC symbol q gives 65,599 times (q + 1), plus the fingerprints of its bag."
use Rattle.std.specs.Prelude.{List, [], ◌∷◌, cond, ℕ, suc, zero, ◌+◌, ◌*◌, ◌%◌, ◌^◌}
use Rattle.terms.specs.Signature.{Signature, symbol_of}
use Rattle.terms.specs.Term.{Term, size, row, flattenings}
use Rattle.terms.specs.Term.Term.{var, app}
use Rattle.terms.specs.Words.{first_variable}

abbrev pub row_factor : ℕ
row_factor = 31

abbrev pub bag_factor : ℕ
bag_factor = 65599

-- What is left of a number in 32 bits.
abbrev pub wrapped : ℕ → ℕ
wrapped n = n % 2 ^ 32

module _ {A : Type 0} (print : A → ℕ) where
  -- What becomes of a value over a row: for each argument 31 times itself plus the argument's fingerprint.
  abbrev pub in_row : ℕ → List A → ℕ
  in_row value [] = value
  in_row value (t ∷ ts) = in_row (wrapped (row_factor * value + print t)) ts

  -- The sum of the fingerprints of a multiset. 01: a bag.
  abbrev pub in_bag : List A → ℕ
  in_bag [] = 0
  in_bag (t ∷ ts) = print t + in_bag ts

module _ (σ : Signature) where
  -- The fingerprint, down to depth n. At depth 0 it is 0; no term of n nodes has a part that deep.
  unfoldable pub fingerprint_to : ℕ → Term → ℕ
  fingerprint_to zero t = 0
  fingerprint_to (suc n) (var x) = first_variable + x + 1
  fingerprint_to (suc n) (app q ts) =
      cond (symbol_of σ q).ac (wrapped (bag_factor * (q + 1) + in_bag (fingerprint_to n) (flattenings q ts)))
      (in_row (fingerprint_to n) (q + 1) (row ts))

  unfoldable pub fingerprint : Term → ℕ
  fingerprint t = fingerprint_to (size t) t
