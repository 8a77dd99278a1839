-- The smallest result of one step, and simplifying by it.
--     first-not-greater                    the first of a sorted list
--     least_reduct-says                     what least_reduct gives is what is asked
--     reduces-resp, reduces-unique         AC-equivalent terms are asked the same; one thing only is asked
--     simplified-says, simplifies-unique   the same of simplifying
--     steps-fall                           the steps left are one less after each
use mathlib.Core.List.Memᴰ
use mathlib.Core.List.{List, [], ◌∷◌, Memᴰ}
use mathlib.Core.Path.{◌≡◌, refl, sym, ap, ◌∙◌}
use mathlib.Core.Bool.{false, true≢false}
use Prim.Native.Nat.{ℕ, suc, zero, ◌≤◌, ◌<◌}
use native.Mathlib.Omega.{arith}
use borrow.Author.Tests.{le-leb, leb-true}
use Rattle.multisets.specs.Multiset.{choose}
use Rattle.multisets.specs.Sorting.{sorted, Ascending}
use Rattle.terms.specs.Signature.{Signature, NoZeroWeightUnary, Admissible}
use Rattle.terms.specs.Term.{Term, size, Expression}
use Rattle.terms.specs.Equivalence.{Equivalent, is_equivalent}
use Rattle.terms.specs.Equivalence.Equivalent.{same, back}
use Rattle.terms.specs.Order.{is_greater}
use Rattle.terms.specs.Rewriting.{System, WellFormedRules, AllDecreasing, Step, Derivation, step_count}
use Rattle.terms.specs.Rewriting.Derivation.{done, more}
use Rattle.multisets.proofs.Relations.{by_order, refuted, Compared}
use Rattle.multisets.proofs.Relations.Compared.{above, alike, below}
use Rattle.multisets.proofs.MultisetMaps.{choose-member, member-choose}
use Rattle.multisets.proofs.SortingLaws.{sorted-member, member-sorted, sorted-ascending}
use Rattle.terms.proofs.EquivalenceLaws.{is_equivalent-equivalence}
use Rattle.terms.proofs.EquivalenceComplete.{Equivalent→is_equivalent}
use Rattle.terms.proofs.EquivalenceMeasures.{plain-resp-equivalent, expression-resp-equivalent}
use Rattle.terms.proofs.EquivalenceSound.{is_equivalent→Equivalent}
use Rattle.terms.proofs.RewritingLaws.{step-expressions}
use Rattle.theory.proofs.StrictOrder.{greater-resp-like}
use Rattle.theory.proofs.Ceiling.{step_count-ceiling}
use Rattle.simplifying.specs.Canonical.{canonical, Arranged}
use Rattle.simplifying.specs.Reducts.{reducts}
use Rattle.simplifying.specs.Simplifying.{step_ceiling, Reduction, Simplification, proceed}
use Rattle.simplifying.specs.Simplifying.{fits, reduction, least_reduct, simplified_within, simplified}
use Rattle.simplifying.specs.Simplifying.{counted, steps_within, steps_left}
use Rattle.simplifying.specs.Simplifying.Reduction.{irreducible, too_large, reduced}
use Rattle.simplifying.specs.Simplifying.Simplification.{normal, stuck}
use Rattle.simplifying.specs.Outcomes.{NoStep, Reaches, AllTooLarge, IsLeast, Reduces, Simplifies}
use Rattle.simplifying.specs.Outcomes.Simplifies.{ends, exceeds, goes_on}
use Rattle.simplifying.proofs.CanonicalLaws.{expression-order, expressions-compare, canonical-equivalent}
use Rattle.simplifying.proofs.CanonicalLaws.{canonical-arranged, arranged-unique, canonical-unique}
use Rattle.simplifying.proofs.CanonicalLaws.{canonical-expression}
use Rattle.simplifying.proofs.ResultLaws.{Among}
use Rattle.simplifying.proofs.ReductSound.{step-resp, reducts-sound}
use Rattle.simplifying.proofs.ReductComplete.{reducts-complete}

-- ---- the first of a sorted list

module _ (σ : Signature) (A : Admissible σ) where
  first-not-greater : (l : List Term) → ((t : Term) → Memᴰ t l → Expression σ t) → (t : Term) (ts : List Term) →
      sorted (is_greater σ) l ≡ t ∷ ts → Memᴰ t l × ((u : Term) → Memᴰ u l → is_greater σ t u ≡ false)
  first-not-greater l h t ts q =
      (m, λ u n. go u (rw q at (member-sorted (is_greater σ) l u n)))
    where
      m : Memᴰ t l
      m = sorted-member (is_greater σ) l t (rw q (Memᴰ.head refl))

      up : Ascending (is_greater σ) (t ∷ ts)
      up = rw q at (sorted-ascending (Expression σ) (is_equivalent σ) (is_equivalent-equivalence σ) (is_greater σ)
          (expression-order σ A) (expressions-compare σ A) l h)

      go : (u : Term) → Memᴰ u (t ∷ ts) → is_greater σ t u ≡ false
      go u (Memᴰ.head e) =
          rw e (refuted (is_greater σ t t) λ g. (expression-order σ A).irreflexive (h t m) (h t m) g
          ((is_equivalent-equivalence σ).reflexive t))
      go u (Memᴰ.tail n) = up.0 u n

-- ---- one step

module _ (R : System) (limit : ℕ) (A : Admissible R.signature) where
  abbrev σ : Signature
  σ = R.signature

  same_size : {s t : Term} → Equivalent σ s t → size s ≡ size t
  same_size = plain-resp-equivalent σ (λ x. 1) (λ f. 1)

  reduces-resp : {s s' : Term} → Equivalent σ s s' → (o : Reduction) → Reduces R limit s o → Reduces R limit s' o
  reduces-resp d irreducible h = λ t p. h t (step-resp R (back d) same p)
  reduces-resp d too_large ((t, p), h) = ((t, step-resp R d same p), λ t p. h t (step-resp R (back d) same p))
  reduces-resp d (reduced t) h = record {
    step = step-resp R d same h.step;
    canonical = h.canonical;
    fits = h.fits;
    least = λ u p. h.least u (step-resp R (back d) same p);
  }

  module _ (W : WellFormedRules R) where
    reached : {s t : Term} → Step R s t → Expression σ t
    reached p = (step-expressions R W p).1

    -- Of two terms neither of which is greater than the other, both canonical.
    least-unique : {s t u : Term} → IsLeast R limit s t → IsLeast R limit s u → t ≡ u
    least-unique {s} {t} {u} h k =
        go (expressions-compare σ A t u (reached h.step) (reached k.step))
      where
        go : Compared (is_equivalent σ) (is_greater σ) t u → t ≡ u
        go (above g) = absurd (true≢false (sym g ∙ h.least u k.step k.fits))
        go (alike l) =
            let v = reached h.step in
            let w = reached k.step in
            arranged-unique σ A t u v w h.canonical k.canonical
            (is_equivalent→Equivalent σ A.ac_binary t u v.0 w.0 l)
        go (below g) = absurd (true≢false (sym g ∙ k.least t h.step h.fits))

    pub reduces-unique : (s : Term) (o o' : Reduction) → Reduces R limit s o → Reduces R limit s o' → o ≡ o'
    reduces-unique s irreducible irreducible h k = refl
    reduces-unique s irreducible too_large h k = absurd (h k.0.0 k.0.1)
    reduces-unique s irreducible (reduced t) h k = absurd (h t k.step)
    reduces-unique s too_large irreducible h k = absurd (k h.0.0 h.0.1)
    reduces-unique s too_large too_large h k = refl
    reduces-unique s too_large (reduced t) h k = absurd (omega (arith, h.1 t k.step, k.fits))
    reduces-unique s (reduced t) irreducible h k = absurd (k t h.step)
    reduces-unique s (reduced t) too_large h k = absurd (omega (arith, k.1 t h.step, h.fits))
    reduces-unique s (reduced t) (reduced u) h k = ap reduced (least-unique h k)

    -- A list of results that holds all of them up to AC-equivalence, and the smallest of those that fit.
    module _ (s : Term) (l : List Term) (sound : (t : Term) → Memᴰ t l → Step R s t)
        (complete : (t : Term) → Step R s t → Among σ l t) where
      fitting : {u t : Term} → Memᴰ u l → Equivalent σ u t → size t ≤ limit → Memᴰ u (choose (fits R limit) l)
      fitting {u} m q z =
          member-choose (fits R limit) m (le-leb (size u) limit (omega (arith, same_size q)))

      all_large : sorted (is_greater σ) (choose (fits R limit) l) ≡ [] → (t : Term) → Step R s t → limit < size t
      all_large h t p =
          let (u, m, q) = complete t p in
          by_order limit (size t) (λ z. z)
          λ z. absurd (Memᴰ.not-nil (rw h at
          (member-sorted (is_greater σ) (choose (fits R limit) l) u (fitting m q z))))

      least-of : (t : Term) (ts : List Term) → sorted (is_greater σ) (choose (fits R limit) l) ≡ t ∷ ts →
          IsLeast R limit s (canonical σ t)
      least-of t ts h =
          let (i, k) = first-not-greater σ A (choose (fits R limit) l)
          (λ u n. reached (sound u (choose-member (fits R limit) l n).0)) t ts h in
          let (m, f) = choose-member (fits R limit) l i in
          let e = reached (sound t m) in
          let d = canonical-equivalent σ A.ac_binary t e.0 in
          record {
            step = step-resp R same (back d) (sound t m);
            canonical = canonical-arranged σ A t e;
            fits = omega (arith, leb-true (size t) limit f, same_size d);
            least = λ u p z. let (v, n, q) = complete u p in
                let x = reached p in
                greater-resp-like σ A (canonical σ t) t u v (canonical-expression σ A t e).0 e.0 x.0
                (expression-resp-equivalent σ (back q) x).0 (Equivalent→is_equivalent σ d)
                (Equivalent→is_equivalent σ (back q)) ∙ k v (fitting n q z);
          }

    reduction-says : (s : Term) (l : List Term) (sound : (t : Term) → Memᴰ t l → Step R s t)
        (complete : (t : Term) → Step R s t → Among σ l t) (us : List Term) →
        sorted (is_greater σ) (choose (fits R limit) l) ≡ us → Reduces R limit s (reduction R limit l us)
    reduction-says s [] sound complete us h = λ t p. Memᴰ.not-nil (complete t p).1
    reduction-says s (x ∷ l) sound complete [] h =
        ((x, sound x (Memᴰ.head refl)), all_large s (x ∷ l) sound complete h)
    reduction-says s (x ∷ l) sound complete (t ∷ ts) h = least-of s (x ∷ l) sound complete t ts h

    module _ (D : AllDecreasing R) where
      pub least_reduct-says : (s : Term) → Expression σ s → Reduces R limit s (least_reduct R limit s)
      unfolding least_reduct
      least_reduct-says s e =
          reduction-says s (reducts R s) (λ t. reducts-sound R A s t e) (λ t. reducts-complete R A W D s t e)
          (sorted (is_greater σ) (choose (fits R limit) (reducts R s))) refl

      pub least_reduct-resp : (s t : Term) → Expression σ s → Equivalent σ s t →
          least_reduct R limit s ≡ least_reduct R limit t
      least_reduct-resp s t e d =
          reduces-unique t (least_reduct R limit s) (least_reduct R limit t)
          (reduces-resp d (least_reduct R limit s) (least_reduct-says s e))
          (least_reduct-says t (expression-resp-equivalent σ d e))

      -- ---- simplifying

      within-says : (k : ℕ) (s : Term) → Expression σ s → ((t : Term) (d : Derivation R s t) → step_count R d < k) →
          Simplifies R limit s (simplified_within R limit k s)
      unfolding simplified_within
      within-says zero s e h = absurd (omega (arith, h s done))
      within-says (suc k) s e h =
          go (least_reduct R limit s) (least_reduct-says s e)
          λ t p. within-says k t (reached p) λ u d. omega (arith, h u (more p d))
        where
          go : (o : Reduction) → Reduces R limit s o →
              ((t : Term) → Step R s t → Simplifies R limit t (simplified_within R limit k t)) →
              Simplifies R limit s (proceed s (simplified_within R limit k) o)
          go irreducible h ih = ends h
          go too_large h ih = exceeds h
          go (reduced t) h ih = goes_on h (ih t h.step)

      pub simplified-says : NoZeroWeightUnary σ → (s : Term) → Expression σ s →
          Simplifies R limit (canonical σ s) (simplified R limit s)
      unfolding simplified
      simplified-says heavy s e =
          let c = canonical-expression σ A s e in
          within-says (step_ceiling σ (canonical σ s)) (canonical σ s) c
          λ t d. step_count-ceiling R A heavy W D d c

      -- ---- the steps left

      -- Every list of steps that leads on has fewer than k.
      abbrev Fewer : ℕ → Term → Type 0
      Fewer k s = (t : Term) (d : Derivation R s t) → step_count R d < k

      steps-stable : (k j : ℕ) (s : Term) → Expression σ s → Fewer k s → Fewer j s →
          steps_within R limit k s ≡ steps_within R limit j s
      unfolding steps_within
      steps-stable zero j s e h i = absurd (omega (arith, h s done))
      steps-stable (suc k) zero s e h i = absurd (omega (arith, i s done))
      steps-stable (suc k) (suc j) s e h i =
          go (least_reduct R limit s) (least_reduct-says s e) λ t p. steps-stable k j t (reached p)
          (λ u d. omega (arith, h u (more p d))) λ u d. omega (arith, i u (more p d))
        where
          go : (o : Reduction) → Reduces R limit s o →
              ((t : Term) → Step R s t → steps_within R limit k t ≡ steps_within R limit j t) →
              counted R limit (steps_within R limit k) o ≡ counted R limit (steps_within R limit j) o
          go irreducible h ih = refl
          go too_large h ih = refl
          go (reduced t) h ih = ap suc (ih t h.step)

      module _ (heavy : NoZeroWeightUnary σ) (s t : Term) (e : Expression σ s) (q : least_reduct R limit s ≡ reduced t)
        where
          steps_next : (k : ℕ) → Fewer k s → steps_within R limit k s ≡ suc (steps_left R limit t)
          unfolding steps_within steps_left
          steps_next zero h = absurd (omega (arith, h s done))
          steps_next (suc k) h =
              let r : IsLeast R limit s t = rw q at (least_reduct-says s e) in
              rw q (ap suc (steps-stable k (step_ceiling σ t) t (reached r.step)
              (λ u d. omega (arith, h u (more r.step d)))
              λ u d. step_count-ceiling R A heavy W D d (reached r.step)))

          -- One less after each step: what a loop of steps counts down.
          pub steps-fall : steps_left R limit s ≡ suc (steps_left R limit t)
          unfolding steps_left
          steps-fall = steps_next (step_ceiling σ s) λ u d. step_count-ceiling R A heavy W D d e

  pub simplified-resp : (s t : Term) → Expression σ s → Equivalent σ s t → simplified R limit s ≡ simplified R limit t
  unfolding simplified
  simplified-resp s t e d = rw (canonical-unique σ A s t e d)

-- ---- what a simplification is

module _ (R : System) (limit : ℕ) (A : Admissible R.signature) (W : WellFormedRules R) where
  pub simplifies-unique : {s : Term} {o o' : Simplification} → Simplifies R limit s o → Simplifies R limit s o' → o ≡ o'
  simplifies-unique (ends h) (ends k) = refl
  simplifies-unique (ends h) (exceeds k) = absurd (h k.0.0 k.0.1)
  simplifies-unique (ends h) (goes_on {t} l k) = absurd (h t l.step)
  simplifies-unique (exceeds h) (ends k) = absurd (k h.0.0 h.0.1)
  simplifies-unique (exceeds h) (exceeds k) = refl
  simplifies-unique (exceeds h) (goes_on {t} l k) = absurd (omega (arith, h.1 t l.step, l.fits))
  simplifies-unique (goes_on {t} l h) (ends k) = absurd (k t l.step)
  simplifies-unique (goes_on {t} l h) (exceeds k) = absurd (omega (arith, k.1 t l.step, l.fits))
  simplifies-unique (goes_on l h) (goes_on m k) = simplifies-unique h (rw (least-unique R limit A W m l) at k)

  -- What is said of the term where it ends, and of its being reached.
  abbrev pub Ends : Term → Simplification → Type 0
  Ends s (normal t) = Reaches R s t × Arranged R.signature t × NoStep R t
  Ends s stuck = (t : Term) × Reaches R s t × AllTooLarge R limit t

  reaches_more : {s s' t u : Term} → Equivalent R.signature s s' → Step R s' t → Reaches R t u →
      Reaches R s u
  reaches_more d p (v, e, q) = (v, more (step-resp R (back d) same p) e, q)

  ends_more : {s s' t : Term} (o : Simplification) → Equivalent R.signature s s' → Step R s' t → Ends t o → Ends s o
  ends_more (normal u) d p (r, a, h) = (reaches_more d p r, a, h)
  ends_more stuck d p (u, r, h) = (u, reaches_more d p r, h)

  simplifies-ends : {s s' : Term} {o : Simplification} → Equivalent R.signature s s' → Arranged R.signature s' →
      Simplifies R limit s' o → Ends s o
  simplifies-ends {s} d a (ends h) = ((s, done, d), a, h)
  simplifies-ends {s} {s'} d a (exceeds h) = (s', (s, done, d), h)
  simplifies-ends d a (goes_on {o} l h) = ends_more o d l.step (simplifies-ends same l.canonical h)

  pub simplified-ends : AllDecreasing R → NoZeroWeightUnary R.signature → (s : Term) → Expression R.signature s →
      (o : Simplification) → simplified R limit s ≡ o → Ends s o
  simplified-ends D heavy s e o q =
      simplifies-ends (back (canonical-equivalent R.signature A.ac_binary s e.0))
      (canonical-arranged R.signature A s e) (rw q at (simplified-says R limit A W D heavy s e))
