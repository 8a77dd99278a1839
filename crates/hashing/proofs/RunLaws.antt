-- Runs over a list, as folds whose steps wrap each number.
--     row-fold, bag-fold      a row, and the sum of a multiset
use Rattle.std.proofs.Common.{◌≡◌, ℕ, ◌+◌, ◌*◌, ◌<◌, List, [], ◌∷◌, refl, ap, ◌∙◌, fold, arith}
use Rattle.terms.specs.Fingerprint.{row_factor, wrapped, in_row, in_bag}

module _ {A : Type 0} (print : A → ℕ) where
  pub row-fold : (l : List A) (v : ℕ) →
      fold (λ (v : ℕ) (t : A). wrapped (wrapped (v * row_factor) + print t)) v l ≡ in_row print v l
  row-fold [] v = refl
  row-fold (t ∷ l) v =
      let e : wrapped (wrapped (v * row_factor) + print t) ≡ wrapped (row_factor * v + print t) = omega arith in
      row-fold l (wrapped (wrapped (v * row_factor) + print t)) ∙ ap (λ (x : ℕ). in_row print x l) e

  pub bag-fold : (l : List A) (v : ℕ) → v < 4294967296 →
      fold (λ (v : ℕ) (t : A). wrapped (v + print t)) v l ≡ wrapped (v + in_bag print l)
  bag-fold [] v h = omega arith
  bag-fold (t ∷ l) v h = bag-fold l (wrapped (v + print t)) (omega arith) ∙ omega arith
