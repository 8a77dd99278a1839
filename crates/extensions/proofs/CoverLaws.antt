-- Covering and the comparison of two lists of offsets as multisets.
--     Search, search-start, -none, -within, -more   the search for a greater term
--     above-none, above_at                          what it finds
--     covered-all, covered-not                      each has a greater one
--     multiset_outcome-equal, -short, -above, -not           what is left decides
use mathlib.Core.List.{List, [], ◌∷◌, map}
use mathlib.Core.Path.{◌≡◌, refl, sym, ◌∙◌}
use mathlib.Core.Bool.{Bool, true, false, cond}
use Prim.Native.Nat.{ℕ, suc, zero, ◌+◌, ◌≤◌, ◌<◌}
use native.Mathlib.Omega.{arith}
use lib.ListN.{length, get_or, take}
use lib.Seq.{get_or-take, length-take-le}
use Rattle.multisets.specs.Multiset.{some, every, is_empty, cancel, multiset_equal, multiset_greater}
use lib.Dec.{eqb}
use borrow.Author.Tests.{eqb-true}
use Rattle.multisets.proofs.Relations.{by_test, by_order}
use Rattle.multisets.proofs.MultisetLaws.{sum}
use Rattle.terms.specs.Signature.{Signature}
use Rattle.terms.specs.Term.{Term, size}
use Rattle.terms.specs.Equivalence.{is_equivalent}
use Rattle.terms.specs.Order.{is_greater}
use Rattle.symbols.specs.Table.{signature_of}
use Rattle.subterms.specs.Parts.{part_at}
use Rattle.equivalence.specs.Offsets.{AtOffsets, terms_at}
use Rattle.equivalence.proofs.OffsetLaws.{offsets-length}
use Rattle.extensions.specs.Compared.{greater_at, covered, multiset_outcome}
use Rattle.extensions.proofs.MeasureLaws.{cancel-within}

module _ {A : Type 0} (p : A → Bool) (g : ℕ → A) where
  some-none : (qs : List ℕ) → ((k : ℕ) → k < length qs → p (g (get_or qs k 0)) ≡ false) → some p (map g qs) ≡ false
  some-none [] h = refl
  some-none (q ∷ qs) h = rw (h 0 (omega arith), some-none qs (λ k l. h (suc k) (omega arith)))

  some_at : (qs : List ℕ) (r : ℕ) → r < length qs → p (g (get_or qs r 0)) ≡ true → some p (map g qs) ≡ true
  some_at [] r h e = absurd (omega arith)
  some_at (q ∷ qs) zero h e = rw e
  some_at (q ∷ qs) (suc r) h e = by_test (p (g q)) (λ d. rw d) λ d. rw d (some_at qs r (omega arith) e)

  every-all : (qs : List ℕ) → ((k : ℕ) → k < length qs → p (g (get_or qs k 0)) ≡ true) → every p (map g qs) ≡ true
  every-all [] h = refl
  every-all (q ∷ qs) h = rw (h 0 (omega arith), every-all qs (λ k l. h (suc k) (omega arith)))

  every-not : (qs : List ℕ) (r : ℕ) → r < length qs → p (g (get_or qs r 0)) ≡ false → every p (map g qs) ≡ false
  every-not [] r h e = absurd (omega arith)
  every-not (q ∷ qs) zero h e = rw e
  every-not (q ∷ qs) (suc r) h e = by_test (p (g q)) (λ d. rw d (every-not qs r (omega arith) e)) λ d. rw d

-- ---- the search

-- A search that begins at `first` and then goes up from 0: x is at hand, `next` comes after it, and all that were tried
-- failed.
pub record Search (p : ℕ → Bool) (first x next : ℕ) : Type 0 where
  pub start : next ≡ 0 → x ≡ first
  pub here : 0 < next → x + 1 ≡ next
  pub begun : 0 < next → p first ≡ false
  pub failed : (y : ℕ) → y + 1 < next → p y ≡ false

module _ {p : ℕ → Bool} {first : ℕ} where
  pub search-start : Search p first first 0
  search-start = record {
    start = λ l. refl;
    here = λ l. absurd (omega arith);
    begun = λ l. absurd (omega arith);
    failed = λ y l. absurd (omega arith);
  }

  module _ {x next : ℕ} (S : Search p first x next) where
    pub search-none : {n : ℕ} → first < n → n ≤ x → (y : ℕ) → y < n → p y ≡ false
    search-none f h y l =
        by_order 0 next (λ a. S.failed y (omega (arith, S.here a))) λ a. absurd (omega (arith, S.start (omega arith)))

    pub search-within : {n : ℕ} → x < n → next ≤ n
    search-within l = by_order 0 next (λ a. omega (arith, S.here a)) λ a. omega arith

    module _ (q : p x ≡ false) where
      first-failed : p first ≡ false
      first-failed =
          by_order 0 next S.begun λ a. let e : first ≡ x = sym (S.start (omega arith)) in rw e q

      before-failed : (y : ℕ) → y < next → p y ≡ false
      before-failed y l =
          by_order (y + 1) next (S.failed y) λ a. let e : y ≡ x = omega (arith, S.here (omega arith)) in rw e q

      more : {r : ℕ} → next ≤ r → ((y : ℕ) → y < r → p y ≡ false) → Search p first r (r + 1)
      more h f = record {
        start = λ l. absurd (omega arith);
        here = λ l. omega arith;
        begun = λ l. first-failed;
        failed = λ y l. f y (omega arith);
      }

      pub search-more : {r : ℕ} → r ≡ cond (eqb next first) (next + 1) next → Search p first r (r + 1)
      search-more {r} e =
          by_test (eqb next first)
          (λ z.
          let g : r ≡ next + 1 = rw z at e in
          let d = eqb-true next first z in
          more (omega arith) λ y l. by_order y next (before-failed y)
          λ a. let u : y ≡ first = omega arith in rw u first-failed)
          λ z. let g : r ≡ next = rw z at e in more (omega arith) λ y l. before-failed y (omega arith)

-- ---- covers

module _ (table : List ℕ) where
  abbrev σ : Signature
  σ = signature_of table

  -- Does the term at q have a greater one among those at offsets?
  abbrev pub some_above : List ℕ → List ℕ → ℕ → List ℕ → ℕ → Bool
  some_above s ps n t q = some (λ (a : Term). is_greater σ a (part_at σ t q)) (terms_at table s ps n)

  module _ {s ps : List ℕ} {n : ℕ} (P : AtOffsets σ s ps n (terms_at table s ps n)) (t : List ℕ) (q : ℕ) where
    pub above-none : ((k : ℕ) → k < n → greater_at table s (get_or ps k 0) t q ≡ false) → some_above s ps n t q ≡ false
    above-none h =
        let e = length-take-le n ps (omega (arith, P.room, P.few)) in
        some-none (λ a. is_greater σ a (part_at σ t q)) (part_at σ s) (take n ps)
        λ k l. let z : k < n = omega arith in rw (get_or-take n ps k 0 z) (h k z)

    pub above_at : (k : ℕ) → k < n → greater_at table s (get_or ps k 0) t q ≡ true → some_above s ps n t q ≡ true
    above_at k h f =
        let e = length-take-le n ps (omega (arith, P.room, P.few)) in
        some_at (λ a. is_greater σ a (part_at σ t q)) (part_at σ s) (take n ps) k (omega arith)
        (rw (get_or-take n ps k 0 h) f)

  module _ (s ps : List ℕ) (n : ℕ) {t qs : List ℕ} {m : ℕ} (Q : AtOffsets σ t qs m (terms_at table t qs m)) where
    abbrev test : Term → Bool
    test y = some (λ (x : Term). is_greater σ x y) (terms_at table s ps n)

    pub covered-all : ((k : ℕ) → k < m → some_above s ps n t (get_or qs k 0) ≡ true) →
        true ≡ covered table (terms_at table s ps n) (terms_at table t qs m)
    unfolding covered
    covered-all h =
        let e = length-take-le m qs (omega (arith, Q.room, Q.few)) in
        sym (every-all test (part_at σ t) (take m qs) λ k l. let z : k < m = omega arith in rw (get_or-take m qs k 0 z)
        (h k z))

    pub covered-not : (k : ℕ) → k < m → some_above s ps n t (get_or qs k 0) ≡ false →
        false ≡ covered table (terms_at table s ps n) (terms_at table t qs m)
    unfolding covered
    covered-not k h f =
        let e = length-take-le m qs (omega (arith, Q.room, Q.few)) in
        sym (every-not test (part_at σ t) (take m qs) k (omega arith) (rw (get_or-take m qs k 0 h) f))

  -- ---- compare

  empty : (l : List Term) → length l ≡ 0 → is_empty l ≡ true
  empty [] e = refl
  empty (a ∷ l) e = absurd (omega arith)

  filled : (l : List Term) → (length l ≡ 0 → ⊥) → is_empty l ≡ false
  filled [] e = absurd (e refl)
  filled (a ∷ l) e = refl

  module _ {s t : List ℕ} (xs ys : List Term) {ps qs : List ℕ} {a b : ℕ}
      (P : AtOffsets σ s ps a (cancel (is_equivalent σ) xs ys).left)
      (Q : AtOffsets σ t qs b (cancel (is_equivalent σ) xs ys).right) where
    pub multiset_outcome-equal : a ≡ 0 → b ≡ 0 → 1 ≡ multiset_outcome table xs ys
    unfolding multiset_outcome multiset_equal multiset_greater
    multiset_outcome-equal d e = rw (empty _ (offsets-length P ∙ d), empty _ (offsets-length Q ∙ e))

    pub multiset_outcome-short : a ≡ 0 → (b ≡ 0 → ⊥) → 0 ≡ multiset_outcome table xs ys
    unfolding multiset_outcome multiset_equal multiset_greater
    multiset_outcome-short d e = rw (empty _ (offsets-length P ∙ d), filled _ (λ z. e (sym (offsets-length Q) ∙ z)))

    module _ (d : a ≡ 0 → ⊥) where
      left-filled : is_empty (cancel (is_equivalent σ) xs ys).left ≡ false
      left-filled = filled (cancel (is_equivalent σ) xs ys).left (λ z. d (sym (offsets-length P) ∙ z))

      left-covered : (r : Bool) → r ≡ covered table (terms_at table s ps a) (terms_at table t qs b) →
          r ≡ covered table (cancel (is_equivalent σ) xs ys).left (cancel (is_equivalent σ) xs ys).right
      left-covered r h = rw (P.there, Q.there) at h

      pub multiset_outcome-above : true ≡ covered table (terms_at table s ps a) (terms_at table t qs b) → 2 ≡ multiset_outcome table xs ys
      unfolding multiset_outcome multiset_equal multiset_greater covered
      multiset_outcome-above h = let c = left-covered true h in rw (left-filled, ← c)

      pub multiset_outcome-not : false ≡ covered table (terms_at table s ps a) (terms_at table t qs b) → 0 ≡ multiset_outcome table xs ys
      unfolding multiset_outcome multiset_equal multiset_greater covered
      multiset_outcome-not h = let c = left-covered false h in rw (left-filled, ← c)

    pub left-sum : (sum size (terms_at table s ps a) ≤ sum size xs) × (sum size (terms_at table t qs b) ≤ sum size ys)
    left-sum = rw (P.there, Q.there) (cancel-within size (is_equivalent σ) xs ys)
