-- Lists as multisets: a list is its counts, and cancelling subtracts them.
--     sum, count                     sums over a list; how many of its elements are like a
--     member→count, count→member     counts and members
--     Takes, Found, remove-found     what removing finds
--     Difference, cancel-difference  what cancelling leaves
--     multiset_equal-*                by counts, sums, lengths and parts; an equivalence
--     some-counts, every-counts      tests of the elements by counts
-- The multiset extension of an order is in MultisetOrder, choosing and mapping in MultisetMaps.
use mathlib.Core.List.{List, [], ◌∷◌, ◌++◌, Memᴰ}
use mathlib.Core.Path.{◌≡◌, refl, sym, ap, ◌∙◌}
use mathlib.Core.Logic.{◌↔◌}
use mathlib.Core.Bool.{Bool, true, false, not, false≢true, and-eq-true_iff as both, or-true}
use Prim.Native.Nat.{ℕ, ◌+◌, ◌-◌, ◌<◌}
use native.Mathlib.Omega.{arith}
use lib.ListN.{length}
use Rattle.multisets.proofs.Relations.{by_test, IsEquivalence, like-resp-left, like-resp-right}
use Rattle.multisets.specs.Multiset.{Removal, Rest, keep, remove, some, every, is_empty, spend, cancel}
use Rattle.multisets.specs.Multiset.{multiset_equal}
use Rattle.multisets.specs.Multiset.Removal.{without, absent}

-- ---- sums and counts

abbrev pub bit : Bool → ℕ
bit true = 1
bit false = 0

module _ {A : Type 0} where
  abbrev pub sum : (A → ℕ) → List A → ℕ
  sum w [] = 0
  sum w (a ∷ l) = w a + sum w l

  pub sum-append : (w : A → ℕ) (l m : List A) → sum w (l ++ m) ≡ sum w l + sum w m
  sum-append w [] m = omega arith
  sum-append w (a ∷ l) m = omega (arith, sum-append w l m)

  pub sum_same : (v w : A → ℕ) → ((a : A) → v a ≡ w a) → (l : List A) → sum v l ≡ sum w l
  sum_same v w h [] = refl
  sum_same v w h (a ∷ l) = omega (arith, h a, sum_same v w h l)

  pub sum_one : (l : List A) → sum (λ (a : A). 1) l ≡ length l
  sum_one [] = refl
  sum_one (a ∷ l) = omega (arith, sum_one l)

  pub is_empty_sum : (w : A → ℕ) (l : List A) → is_empty l ≡ true → sum w l ≡ 0
  is_empty_sum w [] e = refl
  is_empty_sum w (a ∷ l) e = absurd (false≢true e)

module _ {A : Type 0} (like : A → A → Bool) where
  -- How many elements are like a.
  abbrev pub count : A → List A → ℕ
  count a l = sum (λ (b : A). bit (like a b)) l

  -- A function that does not tell like elements apart.
  abbrev pub Respects : {B : Type 0} → (A → B) → Type 0
  Respects f = (a b : A) → like a b ≡ true → f a ≡ f b

  pub count-append : (a : A) (l m : List A) → count a (l ++ m) ≡ count a l + count a m
  count-append a l m = sum-append (λ (b : A). bit (like a b)) l m

  module _ (E : IsEquivalence like) where
    pub count-resp : {a b : A} → like a b ≡ true → (l : List A) → count a l ≡ count b l
    count-resp {a} {b} e l =
        sum_same (λ (c : A). bit (like a c)) (λ (c : A). bit (like b c)) (λ c. ap bit (like-resp-left like E e c)) l

    pub count-here : (a : A) (l : List A) → 0 < count a (a ∷ l)
    count-here a l = omega (arith, ap bit (E.reflexive a))

    pub member→count : {a : A} {l : List A} → Memᴰ a l → 0 < count a l
    member→count {a} (Memᴰ.head {x = b} {xs = l} e) = rw (← e) (count-here a l)
    member→count (Memᴰ.tail m) = omega (arith, member→count m)

    pub count→member : (a : A) (l : List A) → 0 < count a l → (b : A) × Memᴰ b l × (like a b ≡ true)
    count→member a [] h = absurd (omega arith)
    count→member a (b ∷ l) h =
        by_test (like a b) (λ e. (b, Memᴰ.head refl, e))
        λ e. let r = count→member a l (omega (arith, ap bit e)) in (r.0, Memᴰ.tail r.1, r.2)

-- ---- removing

module _ {A : Type 0} where
  -- The second list is the first less one place, which holds a.
  pub data Takes (a : A) : List A → List A → Type 0 where
    here : {l : List A} → Takes a (a ∷ l) l
    later : {b : A} {l m : List A} → Takes a l m → Takes a (b ∷ l) (b ∷ m)

  pub takes-member : {a : A} {l m : List A} → Takes a l m → Memᴰ a l
  takes-member here = Memᴰ.head refl
  takes-member (later x) = Memᴰ.tail (takes-member x)

  pub takes-within : {a b : A} {l m : List A} → Takes a l m → Memᴰ b m → Memᴰ b l
  takes-within here i = Memᴰ.tail i
  takes-within (later x) (Memᴰ.head e) = Memᴰ.head e
  takes-within (later x) (Memᴰ.tail i) = Memᴰ.tail (takes-within x i)

  pub takes-sum : (w : A → ℕ) {a : A} {l m : List A} → Takes a l m → sum w l ≡ w a + sum w m
  takes-sum w here = refl
  takes-sum w (later x) = omega (arith, takes-sum w x)

  abbrev pub Found : (A → Bool) → List A → Removal A → Type 0
  Found p l (without m) = (a : A) × (p a ≡ true) × Takes a l m
  Found p l absent = sum (λ (a : A). bit (p a)) l ≡ 0

  keep-found : (p : A → Bool) (b : A) (l : List A) → p b ≡ false → (r : Removal A) → Found p l r →
      Found p (b ∷ l) (keep b r)
  keep-found p b l e (without m) (a, h, x) = (a, h, later x)
  keep-found p b l e absent h = omega (arith, ap bit e)

  pub remove-found : (p : A → Bool) (l : List A) → Found p l (remove p l)
  remove-found p [] = refl
  remove-found p (b ∷ l) =
      by_test (p b) (λ e. rw e (b, e, here)) λ e. rw e (keep-found p b l e (remove p l) (remove-found p l))

-- ---- cancelling

module _ {A : Type 0} (like : A → A → Bool) where
  -- What is left of two lists is the difference of their counts.
  pub record Difference (ss ts : List A) (r : Rest A) : Type 0 where
    pub counts : (a : A) →
        (count like a r.left ≡ count like a ss - count like a ts) ×
        (count like a r.right ≡ count like a ts - count like a ss)
    pub sums : (w : A → ℕ) → Respects like w → sum w r.left + sum w ts ≡ sum w r.right + sum w ss

  pub multiset_equal-split : (s : A) (ss ts : List A) → multiset_equal like (s ∷ ss) ts ≡ true →
      (a : A) × (us : List A) × (like s a ≡ true) × Takes a ts us × (multiset_equal like ss us ≡ true)
  unfolding multiset_equal
  multiset_equal-split s ss ts e =
      go (remove (like s) ts) (remove-found (like s) ts) ((both (is_empty (cancel like (s ∷ ss) ts).left) _).0 e)
    where
      go : (r : Removal A) → Found (like s) ts r →
          let rest = spend s (cancel like ss) ts r in (is_empty rest.left ≡ true) × (is_empty rest.right ≡ true) →
          (a : A) × (us : List A) × (like s a ≡ true) × Takes a ts us × (multiset_equal like ss us ≡ true)
      go (without us) (a, h, x) f = (a, us, h, x, (both _ _).1 f)
      go absent h f = absurd (false≢true f.0)

  module _ (E : IsEquivalence like) where
    -- A pair more, and an element more that has no partner.
    difference-pair : {s b : A} {ss ts us : List A} {r : Rest A} → like s b ≡ true → Takes b ts us →
        Difference ss us r → Difference (s ∷ ss) ts r
    difference-pair {s} {b} h x d = record {
      counts = λ a. omega (
        arith,
        takes-sum (λ c. bit (like a c)) x,
        ap bit (like-resp-right like E h a),
        d.counts a,
      );
      sums = λ w k. omega (arith, takes-sum w x, k s b h, d.sums w k);
    }

    difference-left : {ss ts : List A} {r : Rest A} (s : A) → count like s ts ≡ 0 → Difference ss ts r →
        Difference (s ∷ ss) ts (record { left = s ∷ r.left; right = r.right })
    difference-left {ts} s h d = record {
      counts = λ a. by_test (like a s) (λ e. omega (arith, count-resp like E e ts, d.counts a))
          λ e. omega (arith, ap bit e, d.counts a);
      sums = λ w k. omega (arith, d.sums w k);
    }

    pub cancel-difference : (ss ts : List A) → Difference ss ts (cancel like ss ts)
    cancel-difference [] ts = record { counts = λ a. omega arith; sums = λ w k. omega arith }
    cancel-difference (s ∷ ss) ts = go (remove (like s) ts) (remove-found (like s) ts) (cancel-difference ss)
      where
        go : (r : Removal A) → Found (like s) ts r → ((us : List A) → Difference ss us (cancel like ss us)) →
            Difference (s ∷ ss) ts (spend s (cancel like ss) ts r)
        go (without us) (b, h, x) ih = difference-pair h x (ih us)
        go absent h ih = difference-left s h (ih ts)

    pub is_empty-counts : (l : List A) → ((a : A) → count like a l ≡ 0) → is_empty l ≡ true
    is_empty-counts [] h = refl
    is_empty-counts (b ∷ l) h = absurd (omega (arith, h b, count-here like E b l))

    -- ---- equality of multisets

    pub multiset_equal-counts : (ss ts : List A) →
        multiset_equal like ss ts ≡ true ↔ ((a : A) → count like a ss ≡ count like a ts)
    unfolding multiset_equal
    multiset_equal-counts ss ts =
        let r = cancel like ss ts in
        let c = (cancel-difference ss ts).counts in (
          λ e a. let f = (both (is_empty r.left) _).0 e in
              let w : A → ℕ = λ b. bit (like a b) in
              omega (arith, c a, is_empty_sum w r.left f.0, is_empty_sum w r.right f.1),
          λ h. (both _ _).1 (
            is_empty-counts r.left λ a. omega (arith, c a, h a),
            is_empty-counts r.right λ a. omega (arith, c a, h a),
          ),
        )

    pub multiset_equal-sum : (w : A → ℕ) → Respects like w → (ss ts : List A) → multiset_equal like ss ts ≡ true →
        sum w ss ≡ sum w ts
    unfolding multiset_equal
    multiset_equal-sum w k ss ts e =
        let r = cancel like ss ts in
        let h = (both (is_empty r.left) _).0 e in
        omega (
          arith,
          (cancel-difference ss ts).sums w k,
          is_empty_sum w r.left h.0,
          is_empty_sum w r.right
              h.1,
        )

    pub multiset_equal-length : (ss ts : List A) → multiset_equal like ss ts ≡ true → length ss ≡ length ts
    multiset_equal-length ss ts e =
        omega (arith, sum_one ss, sum_one ts, multiset_equal-sum (λ a. 1) (λ a b h. refl) ss ts e)

    pub multiset_equal-equivalence : IsEquivalence (multiset_equal like)
    multiset_equal-equivalence = record {
      reflexive = λ l. (multiset_equal-counts l l).1 λ a. refl;
      symmetric = λ {a = l} {b = m} e. (multiset_equal-counts m l).1 λ a. sym ((multiset_equal-counts l m).0 e a);
      transitive = λ {a = l} {b = m} {c = n} e f.
          (multiset_equal-counts l n).1 λ a. (multiset_equal-counts l m).0 e a ∙ (multiset_equal-counts m n).0 f a;
    }

    pub multiset_equal-append : (ss ss' ts ts' : List A) → multiset_equal like ss ss' ≡ true →
        multiset_equal like ts ts' ≡ true →
        multiset_equal like (ss ++ ts) (ss' ++ ts') ≡ true
    multiset_equal-append ss ss' ts ts' e f =
        (multiset_equal-counts (ss ++ ts) (ss' ++ ts')).1
        λ a. omega (
          arith,
          count-append like a ss ts,
          count-append like a ss' ts',
          (multiset_equal-counts ss ss').0 e a,
          (multiset_equal-counts ts ts').0 f a,
        )

    pub multiset_equal-swap : (ss ts : List A) → multiset_equal like (ss ++ ts) (ts ++ ss) ≡ true
    multiset_equal-swap ss ts =
        (multiset_equal-counts (ss ++ ts) (ts ++ ss)).1
        λ a. omega (arith, count-append like a ss ts, count-append like a ts ss)

    pub multiset_equal-one : {s t : A} → like s t ≡ true → multiset_equal like (s ∷ []) (t ∷ []) ≡ true
    multiset_equal-one {s} {t} e =
        (multiset_equal-counts (s ∷ []) (t ∷ [])).1 λ a. omega (arith, ap bit (like-resp-right like E e a))

    -- ---- tests of the elements

    pub nonempty-counts : (l : List A) → not (is_empty l) ≡ true ↔ ((a : A) × (0 < count like a l))
    nonempty-counts [] = (λ e. absurd (false≢true e), λ h. absurd (omega arith))
    nonempty-counts (b ∷ l) = (λ e. (b, count-here like E b l), λ h. refl)

    pub some-counts : (p : A → Bool) → Respects like p → (l : List A) →
        some p l ≡ true ↔ ((a : A) × (0 < count like a l) × (p a ≡ true))
    some-counts p k [] = (λ e. absurd (false≢true e), λ h. absurd (omega arith))
    some-counts p k (b ∷ l) = (
      λ e. by_test (p b) (λ f. (b, count-here like E b l, f))
          λ f. let h = (some-counts p k l).0 (rw f at e) in (h.0, omega arith, h.2),
      λ h. by_test (like h.0 b) (λ f. rw (← k h.0 b f, h.2))
          λ f. rw ((some-counts p k l).1 (h.0, omega (arith, ap bit f), h.2)) (or-true (p b)),
    )

    pub every-counts : (p : A → Bool) → Respects like p → (l : List A) →
        every p l ≡ true ↔ ((a : A) → 0 < count like a l → p a ≡ true)
    every-counts p k [] = (λ e a h. absurd (omega arith), λ h. refl)
    every-counts p k (b ∷ l) = (
      λ e a n. by_test (like a b) (λ f. k a b f ∙ ((both _ _).0 e).0)
          λ f. (every-counts p k l).0 ((both (p b) _).0 e).1 a (omega (arith, ap bit f)),
      λ h. (both _ _).1 (h b (count-here like E b l), (every-counts p k l).1 λ a n. h a (omega arith)),
    )
