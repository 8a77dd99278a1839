-- 02's two fingerprints of the sample, with those of a variable, of a multiset of three and of one under another
-- symbol, and of a term where it goes past 32 bits.
use mathlib.Core.Path.{◌≡◌, refl}
use mathlib.Core.List.{List, [], ◌∷◌, map}
use Prim.Native.Nat.{ℕ}
use Rattle.terms.specs.Term.{Term}
use Rattle.terms.specs.Fingerprint.{fingerprint_to, fingerprint}
use Rattle.terms.specs.Sample.{sample, o, z, b, u, neg, sub, ◌⊕◌}

record Case : Type 0 where
  term : Term
  print : ℕ

abbrev line : Term → ℕ → Case
line t n = record { term = t; print = n }

abbrev cases : List Case
cases =
    line (o ⊕ z) 262399 ∷
    line (sub z o) 5829 ∷
    line u 257 ∷
    line (o ⊕ z ⊕ b) 262402 ∷
    line (neg (o ⊕ z) ⊕ b) 524953 ∷
    line (sub (sub (sub (z ⊕ o) o) o) o) 3527887944 ∷
    []

fingerprints : map (λ (c : Case). fingerprint sample c.term) cases ≡ map (λ (c : Case). c.print) cases
unfolding fingerprint fingerprint_to
fingerprints = refl
