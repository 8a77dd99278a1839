-- For each of 01's "Traps for an author of this marker" a pair of terms that the trap would get wrong, with its mark.
use mathlib.Core.Path.{◌≡◌, refl}
use mathlib.Core.List.{List, [], ◌∷◌, map}
use mathlib.Core.Bool.{true, false}
use Prim.Native.Nat.{ℕ}
use Rattle.multisets.specs.Multiset.{multiset_equal, multiset_greater, row_equal, row_greater}
use Rattle.terms.specs.Signature.{Signature}
use Rattle.terms.specs.Term.{Term}
use Rattle.terms.specs.Term.Term.{app}
use Rattle.terms.specs.Term.Terms.{nil, cons}
use Rattle.terms.specs.Equivalence.{pair, is_equivalent_to, is_equivalent}
use Rattle.terms.specs.Order.{none_oftener, flattened_mark, root_mark, decreasing_mark, is_greater_to, is_greater, mark}
use Rattle.terms.specs.Sample.{entry, sample, o, z, b, u, neg, ◌⊕◌}

-- The sample's constants and +, with + weightless, a low and a high symbol of arity 1, and a second AC symbol above +.
abbrev wider : Signature
wider = record {
  w0 = 1;
  symbols =
      entry 0 false 1 0 ∷
      entry 0 false 1 1 ∷
      entry 0 false 3 2 ∷
      entry 2 true 0 4 ∷
      entry 1 false 1 3 ∷
      entry 1 false 1 5 ∷
      entry 2 true 0 6 ∷
      [];
}

abbrev low : Term → Term
low s = app 4 (cons s nil)

abbrev high : Term → Term
high s = app 5 (cons s nil)

infixl 7 ◌⊗◌
abbrev ◌⊗◌ : Term → Term → Term
s ⊗ t = app 6 (pair s t)

record Trap : Type 0 where
  signature : Signature
  left : Term
  right : Term
  mark : ℕ

abbrev trap : Signature → Term → Term → ℕ → Trap
trap σ s t m = record { signature = σ; left = s; right = t; mark = m }

-- In the order of 01. The traps would say 4, 10, 9, 6 and 1.
abbrev traps : List Trap
traps =
    trap wider (high z ⊕ low u) (high o ⊕ u ⊕ o) 10 ∷
    trap sample (neg (z ⊕ o) ⊕ z) (neg (o ⊕ z) ⊕ o) 6 ∷
    trap wider (o ⊕ z ⊗ b) (z ⊕ o ⊗ b) 4 ∷
    trap sample (z ⊕ o ⊕ o) (z ⊕ z ⊕ o) 10 ∷
    trap sample b u 7 ∷
    []

trap-marks : map (λ (t : Trap). mark t.signature t.left t.right) traps ≡ map (λ (t : Trap). t.mark) traps
unfolding mark is_greater is_greater_to decreasing_mark root_mark flattened_mark none_oftener is_equivalent is_equivalent_to
    multiset_equal multiset_greater row_equal row_greater
trap-marks = refl
