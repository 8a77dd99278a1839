-- Steinbach's order: the definition, and the test that decides it.
-- Renders: 004, Definition 3.3, its cases by their numbers, with 01's "Bag S is above bag T" for its extension to
-- multisets, as 02, order 7, asks: "over document 01's bag comparison". It knows no coefficients.
use mathlib.Core.List.{List, [], ◌∷◌, Memᴰ}
use Rattle.std.specs.Prelude.{◌≡◌, Bool, true, false, cond, ◌&&◌, ◌||◌, ℕ, suc, zero, ◌≤◌, ◌<◌, eqb, ltb, leb}
use Rattle.multisets.specs.Multiset.{is_empty, cancel, multiset_greater, row_greater}
use Rattle.terms.specs.Signature.{Signature, symbol_of}
use Rattle.terms.specs.Term.{Term, Terms, row, measure, plain, size, occurrences, variable_count, flattenings}
use Rattle.terms.specs.Term.Term.{var, app}
use Rattle.terms.specs.Equivalence.{Equivalent, is_equivalent}
use Rattle.terms.specs.Iterated.{Iterated, is_power}

-- None of the variables below n occurs oftener in t.
unfoldable pub none_more : ℕ → Term → Term → Bool
none_more zero s t = true
none_more (suc x) s t = leb (occurrences x t) (occurrences x s) && none_more x s t

-- ---- the definition

module _ (σ : Signature) where
  -- 01: "Of another term: its symbol's weight plus the weights of its arguments."
  abbrev pub plain_weight : Term → ℕ
  plain_weight = measure plain (λ (x : ℕ). σ.w0) (λ (f : ℕ). (symbol_of σ f).weight)

  -- No variable occurs oftener in t, and the weights are equal.
  pub record PlainlyEven (s t : Term) : Type 0 where
    pub variables : (x : ℕ) → occurrences x t ≤ occurrences x s
    pub weights : plain_weight s ≡ plain_weight t

  mutual
    pub data SteinbachGreater : Term → Term → Type 0 where
      heavier : {s t : Term} → ((x : ℕ) → occurrences x t ≤ occurrences x s) → plain_weight t < plain_weight s →
          SteinbachGreater s t
      case1 : {f x : ℕ} {s : Term} → PlainlyEven s (var x) → Iterated f s (var x) → SteinbachGreater s (var x)
      case2 : {f g : ℕ} {ss ts : Terms} → PlainlyEven (app f ss) (app g ts) →
          (symbol_of σ g).precedence < (symbol_of σ f).precedence → SteinbachGreater (app f ss) (app g ts)
      case3 : {f : ℕ} {ss ts : Terms} → PlainlyEven (app f ss) (app f ts) → (symbol_of σ f).ac ≡ false →
          SteinbachLex (row ss) (row ts) → SteinbachGreater (app f ss) (app f ts)
      case4 : {f : ℕ} {ss ts : Terms} → PlainlyEven (app f ss) (app f ts) → (symbol_of σ f).ac ≡ true →
          SteinbachAbove (flattenings f ss) (flattenings f ts) → SteinbachGreater (app f ss) (app f ts)

    -- AC-equivalent up to some place, and there greater.
    pub data SteinbachLex : List Term → List Term → Type 0 where
      ahead : {s t : Term} {ss ts : List Term} → SteinbachGreater s t → SteinbachLex (s ∷ ss) (t ∷ ts)
      level : {s t : Term} {ss ts : List Term} → Equivalent σ s t → SteinbachLex ss ts →
          SteinbachLex (s ∷ ss) (t ∷ ts)

    -- 01: once AC-equal pairs are struck out, something of S is left, and it covers what is left of T.
    pub data SteinbachAbove : List Term → List Term → Type 0 where
      left : {ss ts : List Term} → is_empty (cancel (is_equivalent σ) ss ts).left ≡ false →
          SteinbachCovered (cancel (is_equivalent σ) ss ts).left (cancel (is_equivalent σ) ss ts).right →
          SteinbachAbove ss ts

    -- Each of ys has a greater one in xs.
    pub data SteinbachCovered : List Term → List Term → Type 0 where
      nothing : {xs : List Term} → SteinbachCovered xs []
      another : {y : Term} {xs ys : List Term} (x : Term) → Memᴰ x xs → SteinbachGreater x y →
          SteinbachCovered xs ys → SteinbachCovered xs (y ∷ ys)

  -- ---- the test

  module _ (like greater : Term → Term → Bool) where
    -- Case 1; case 2; of two terms with one root, case 4 where it is AC, else case 3.
    unfoldable pub steinbach_cases : Term → Term → Bool
    steinbach_cases (var x) t = false
    steinbach_cases (app f ss) (var x) = is_power f x (app f ss)
    steinbach_cases (app f ss) (app g ts) =
        ltb (symbol_of σ g).precedence (symbol_of σ f).precedence ||
        (eqb f g &&
        cond (symbol_of σ f).ac (multiset_greater like greater (flattenings f ss) (flattenings f ts))
        (row_greater like greater (row ss) (row ts)))

    -- The whole definition, where like and greater compare the parts.
    unfoldable pub steinbach_decreases : Term → Term → Bool
    steinbach_decreases s t =
        none_more variable_count s t &&
        (ltb (plain_weight t) (plain_weight s) || (eqb (plain_weight t) (plain_weight s) && steinbach_cases s t))

  -- The test, down to depth n. At depth 0 nothing is greater; no term of n nodes has a part that deep.
  unfoldable pub is_steinbach_greater_to : ℕ → Term → Term → Bool
  is_steinbach_greater_to zero s t = false
  is_steinbach_greater_to (suc n) s t = steinbach_decreases (is_equivalent σ) (is_steinbach_greater_to n) s t

  unfoldable pub is_steinbach_greater : Term → Term → Bool
  is_steinbach_greater s t = is_steinbach_greater_to (size s) s t
