-- The test of AC-equivalence is an equivalence at every depth, and from the size of its first term on the depth
-- does not matter.
--     is_equivalent-equivalence                           the test is an equivalence
--     is_equivalent-app, is_equivalent-app-var             what it says of two applications; of one and a variable
--     symbol-of-is_equivalent, arguments-of-is_equivalent  the same, taken apart
--     is_equivalent-of-arguments                          and put together
--     arguments_alike-agree                               tests that agree on the parts
--     is_equivalent_to-depth                               it is the test at every depth from the size on
-- That it decides Equivalent is in EquivalenceComplete and EquivalenceSound.
use mathlib.Core.Path.{◌≡◌, refl, sym, ap, ap₂}
use mathlib.Core.Bool.{Bool, true, false, cond, ◌&&◌, and-eq-true_iff as both, false≢true}
use Prim.Native.Nat.{ℕ, suc, zero, ◌+◌, ◌≤◌, ◌<◌}
use native.Mathlib.Omega.{arith}
use lib.Dec.{eqb}
use borrow.Author.Tests.{eqb-true}
use Rattle.multisets.specs.Multiset.{multiset_equal, row_equal}
use Rattle.terms.specs.Signature.{Signature, symbol_of}
use Rattle.terms.specs.Term.{Term, Terms, row, size, sizes, flattenings}
use Rattle.terms.specs.Term.Term.{var, app}
use Rattle.terms.specs.Equivalence.{arguments_alike, is_equivalent_to, is_equivalent}
use Rattle.multisets.proofs.Relations.{eqb-self, IsEquivalence, equivalence-cond, equivalence-along}
use Rattle.multisets.proofs.RowLaws.{row_equal-equivalence}
use Rattle.multisets.proofs.MultisetLaws.{multiset_equal-equivalence}
use Rattle.multisets.proofs.Agreement.{multiset_equal-agree, row_equal-agree}
use Rattle.terms.proofs.TermLaws.{size-pos, Parts, smaller-parts, any-parts, AgreeOn, each-agree}

module _ (σ : Signature) where
  arguments_alike-equivalence : (like : Term → Term → Bool) → IsEquivalence like → (f : ℕ) →
      IsEquivalence (arguments_alike σ like f)
  arguments_alike-equivalence like E f =
      equivalence-cond (symbol_of σ f).ac (λ (ss ts : Terms). multiset_equal like (flattenings f ss) (flattenings f ts))
      (λ (ss ts : Terms). row_equal like (row ss) (row ts))
      (equivalence-along (flattenings f) (multiset_equal like) (multiset_equal-equivalence like E))
      (equivalence-along row (row_equal like) (row_equal-equivalence like E))

  -- One level deeper.
  module _ (n : ℕ) (E : IsEquivalence (is_equivalent_to σ n)) where
    below : (f : ℕ) → IsEquivalence (arguments_alike σ (is_equivalent_to σ n) f)
    below = arguments_alike-equivalence (is_equivalent_to σ n) E

    deeper-refl : (s : Term) → is_equivalent_to σ (suc n) s s ≡ true
    unfolding is_equivalent_to
    deeper-refl (var x) = eqb-self x
    deeper-refl (app f ss) = (both _ _).1 (eqb-self f, (below f).reflexive ss)

    deeper-sym : (s t : Term) → is_equivalent_to σ (suc n) s t ≡ true → is_equivalent_to σ (suc n) t s ≡ true
    unfolding is_equivalent_to
    deeper-sym (var x) (var y) h = rw (eqb-true x y h) (eqb-self y)
    deeper-sym (var x) (app g ts) h = h
    deeper-sym (app f ss) (var y) h = h
    deeper-sym (app f ss) (app g ts) h =
        let k = (both (eqb f g) _).0 h in
        rw (← eqb-true f g k.0) ((both _ _).1 (eqb-self f, (below f).symmetric {a = ss} {b = ts} k.1))

    deeper-trans : (s t u : Term) → is_equivalent_to σ (suc n) s t ≡ true → is_equivalent_to σ (suc n) t u ≡ true →
        is_equivalent_to σ (suc n) s u ≡ true
    unfolding is_equivalent_to
    deeper-trans (var x) (var y) u h k = rw (eqb-true x y h) k
    deeper-trans (var x) (app g ts) u h k = absurd (false≢true h)
    deeper-trans (app f ss) (var y) u h k = absurd (false≢true h)
    deeper-trans (app f ss) (app g ts) (var z) h k = k
    deeper-trans (app f ss) (app g ts) (app i us) h k =
        let l = (both (eqb f g) _).0 h in
        let m = (both (eqb f i) (arguments_alike σ (is_equivalent_to σ n) f ts us)).0 (rw (eqb-true f g l.0) k) in
        (both (eqb f i) _).1 (m.0, (below f).transitive {a = ss} {b = ts} {c = us} l.1 m.1)

  pub is_equivalent_to-equivalence : (n : ℕ) → IsEquivalence (is_equivalent_to σ n)
  unfolding is_equivalent_to
  is_equivalent_to-equivalence zero = record { reflexive = λ s. refl; symmetric = λ h. refl; transitive = λ h k. refl }
  is_equivalent_to-equivalence (suc n) =
      let E = is_equivalent_to-equivalence n in
      record {
        reflexive = deeper-refl n E;
        symmetric = λ {a} {b}. deeper-sym n E a b;
        transitive = λ {a} {b} {c}. deeper-trans n E a b c;
      }

  pub arguments_alike-agree : (P Q : Term → Type 0) (like like' : Term → Term → Bool) → AgreeOn P Q like like' →
      (f : ℕ) (ss ts : Terms) → Parts P (app f ss) → Parts Q (app f ts) →
      arguments_alike σ like f ss ts ≡ arguments_alike σ like' f ss ts
  arguments_alike-agree P Q like like' h f ss ts p q =
      ap₂ (cond (symbol_of σ f).ac)
      (multiset_equal-agree like like' (flattenings f ss) (flattenings f ts) (each-agree h (p.1 f) (q.1 f)))
      (row_equal-agree like like' (row ss) (row ts) (each-agree h p.0 q.0))

  -- Tests that agree on smaller terms on the left.
  smaller-agree : (like like' : Term → Term → Bool) (f : ℕ) (ss ts : Terms) →
      ((s t : Term) → size s ≤ sizes ss → like s t ≡ like' s t) →
      arguments_alike σ like f ss ts ≡ arguments_alike σ like' f ss ts
  smaller-agree like like' f ss ts h =
      arguments_alike-agree (λ s. size s < size (app f ss)) (λ t. Unit {0}) like like' (λ s t l u. h s t (omega arith)) f
      ss ts (smaller-parts (app f ss)) (any-parts (app f ts))

  depth : (n m : ℕ) (s t : Term) → size s ≤ n → size s ≤ m → is_equivalent_to σ n s t ≡ is_equivalent_to σ m s t
  unfolding is_equivalent_to
  depth zero m s t h k = absurd (omega (arith, size-pos s))
  depth (suc n) zero s t h k = absurd (omega (arith, size-pos s))
  depth (suc n) (suc m) (var x) (var y) h k = refl
  depth (suc n) (suc m) (var x) (app g ts) h k = refl
  depth (suc n) (suc m) (app f ss) (var y) h k = refl
  depth (suc n) (suc m) (app f ss) (app g ts) h k =
      ap (◌&&◌ (eqb f g)) (smaller-agree (is_equivalent_to σ n) (is_equivalent_to σ m) f ss ts
      λ s t l. depth n m s t (omega arith) (omega arith))

  pub is_equivalent_to-depth : (n : ℕ) (s t : Term) → size s ≤ n → is_equivalent σ s t ≡ is_equivalent_to σ n s t
  unfolding is_equivalent
  is_equivalent_to-depth n s t h = depth (size s) n s t (omega arith) h

  pub is_equivalent-app : (f g : ℕ) (ss ts : Terms) →
      is_equivalent σ (app f ss) (app g ts) ≡ (eqb f g && arguments_alike σ (is_equivalent σ) f ss ts)
  unfolding is_equivalent_to
  is_equivalent-app f g ss ts =
      rw (is_equivalent_to-depth (suc (sizes ss)) (app f ss) (app g ts) (omega arith))
      (ap (◌&&◌ (eqb f g)) (smaller-agree (is_equivalent_to σ (sizes ss)) (is_equivalent σ) f ss ts
      λ s t l. sym (is_equivalent_to-depth (sizes ss) s t l)))

  pub is_equivalent-app-var : (f y : ℕ) (ss : Terms) → is_equivalent σ (app f ss) (var y) ≡ false
  unfolding is_equivalent_to
  is_equivalent-app-var f y ss = is_equivalent_to-depth (suc (sizes ss)) (app f ss) (var y) (omega arith)

  pub is_equivalent-equivalence : IsEquivalence (is_equivalent σ)
  is_equivalent-equivalence = record {
    reflexive =
        λ s. rw (is_equivalent_to-depth (size s) s s (omega arith)) ((is_equivalent_to-equivalence (size s)).reflexive s);
    symmetric = λ {a = s} {b = t} h. let n : ℕ = size s + size t in
        rw (is_equivalent_to-depth n t s (omega arith))
        ((is_equivalent_to-equivalence n).symmetric (rw (is_equivalent_to-depth n s t (omega arith)) at h));
    transitive = λ {a = s} {b = t} {c = u} h k. let n : ℕ = size s + size t in
        rw (is_equivalent_to-depth n s u (omega arith)) ((is_equivalent_to-equivalence n).transitive
        (rw (is_equivalent_to-depth n s t (omega arith)) at h) (rw (is_equivalent_to-depth n t u (omega arith)) at k));
  }

  -- ---- what the test says of two applications, taken apart

  pub symbol-of-is_equivalent : (f g : ℕ) (ss ts : Terms) → is_equivalent σ (app f ss) (app g ts) ≡ true → f ≡ g
  symbol-of-is_equivalent f g ss ts h = eqb-true f g ((both _ _).0 (rw (is_equivalent-app f g ss ts) at h)).0

  pub arguments-of-is_equivalent : (f g : ℕ) (ss ts : Terms) → is_equivalent σ (app f ss) (app g ts) ≡ true →
      arguments_alike σ (is_equivalent σ) f ss ts ≡ true
  arguments-of-is_equivalent f g ss ts h = ((both (eqb f g) _).0 (rw (is_equivalent-app f g ss ts) at h)).1

  pub is_equivalent-of-arguments : (f : ℕ) (ss ts : Terms) → arguments_alike σ (is_equivalent σ) f ss ts ≡ true →
      is_equivalent σ (app f ss) (app f ts) ≡ true
  is_equivalent-of-arguments f ss ts h = rw (is_equivalent-app f f ss ts) ((both _ _).1 (eqb-self f, h))
