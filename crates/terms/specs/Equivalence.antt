-- AC-equivalence: the congruence that the exchange and the regrouping of AC symbols' arguments generate, and the test
-- that decides it.
-- Renders: 01, "The order": "AC-equal: joined by regrouping and exchanging arguments of AC symbols, at any depth."
use Rattle.std.specs.Prelude.{◌≡◌, Bool, true, false, cond, ◌&&◌, ℕ, suc, zero, eqb}
use Rattle.terms.specs.Signature.{Signature, symbol_of}
use Rattle.terms.specs.Term.{Term, Terms, size, row, flattenings}
use Rattle.terms.specs.Term.Term.{var, app}
use Rattle.terms.specs.Term.Terms.{nil, cons}
use Rattle.multisets.specs.Multiset.{multiset_equal, row_equal}

abbrev pub pair : Term → Term → Terms
pair s t = cons s (cons t nil)

module _ (σ : Signature) where
  mutual
    pub data Equivalent : Term → Term → Type 0 where
      same : {t : Term} → Equivalent t t
      back : {s t : Term} → Equivalent s t → Equivalent t s
      then : {s t u : Term} → Equivalent s t → Equivalent t u → Equivalent s u
      under : {f : ℕ} {ss ts : Terms} → Equivalents ss ts → Equivalent (app f ss) (app f ts)
      exchange : {f : ℕ} {s t : Term} → (symbol_of σ f).ac ≡ true → Equivalent (app f (pair s t)) (app f (pair t s))
      regroup : {f : ℕ} {s t u : Term} → (symbol_of σ f).ac ≡ true →
          Equivalent (app f (pair (app f (pair s t)) u)) (app f (pair s (app f (pair t u))))

    pub data Equivalents : Terms → Terms → Type 0 where
      none : Equivalents nil nil
      each : {s t : Term} {ss ts : Terms} → Equivalent s t → Equivalents ss ts → Equivalents (cons s ss) (cons t ts)

  -- The arguments of one symbol: as multisets of flattenings where it is AC, else in their order.
  abbrev pub arguments_alike : (Term → Term → Bool) → ℕ → Terms → Terms → Bool
  arguments_alike like f ss ts =
      cond (symbol_of σ f).ac (multiset_equal like (flattenings f ss) (flattenings f ts))
      (row_equal like (row ss) (row ts))

  -- The test, down to depth n. At depth 0 all terms are alike; no term of n nodes has a part that deep.
  unfoldable pub is_equivalent_to : ℕ → Term → Term → Bool
  is_equivalent_to zero s t = true
  is_equivalent_to (suc n) (var x) (var y) = eqb x y
  is_equivalent_to (suc n) (var x) (app g ts) = false
  is_equivalent_to (suc n) (app f ss) (var y) = false
  is_equivalent_to (suc n) (app f ss) (app g ts) = eqb f g && arguments_alike (is_equivalent_to n) f ss ts

  unfoldable pub is_equivalent : Term → Term → Bool
  is_equivalent s t = is_equivalent_to (size s) s t
