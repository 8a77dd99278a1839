-- Sums over lists that are compared as multisets.
--     length-flat_map, count-choose-flat_map     of lists that are joined
--     sum-less-one, sum-choose-le, sum-split   less one each; of the elements chosen by a test, by either of two tests
--     sum-le, sum-parts                        a part sums up to no more; two parts sum up to the whole
--     length-lt                                a proper part is shorter
--     sum-member, sum-pos                      a positive sum and its elements
use mathlib.Core.List.{List, [], ◌∷◌, ◌++◌, flat_map, Memᴰ}
use mathlib.Core.Path.{◌≡◌, refl, sym, ap, ◌∙◌}
use mathlib.Core.Bool.{Bool, true, false}
use Prim.Native.Nat.{ℕ, ◌+◌, ◌-◌, ◌≤◌, ◌<◌}
use native.Mathlib.Omega.{arith}
use lib.ListN.{length, length-append}
use Rattle.multisets.specs.Multiset.{choose, cancel}
use Rattle.multisets.proofs.Relations.{by_test, by_order, IsEquivalence}
use Rattle.multisets.proofs.MultisetLaws.{bit, sum, sum-append, sum_one, is_empty_sum, count, Respects}
use Rattle.multisets.proofs.MultisetLaws.{count-append, count-resp, count-here, cancel-difference}
use Rattle.multisets.proofs.MultisetLaws.{is_empty-counts, multiset_equal-counts, multiset_equal-sum}
use Rattle.multisets.proofs.MultisetMaps.{choose-append}

module _ {A B : Type 0} where
  pub length-flat_map : (f : A → List B) (l : List A) → length (flat_map f l) ≡ sum (λ (a : A). length (f a)) l
  unfolding flat_map
  length-flat_map f [] = refl
  length-flat_map f (a ∷ l) = length-append (f a) (flat_map f l) ∙ ap (◌+◌ (length (f a))) (length-flat_map f l)

  pub count-choose-flat_map : (like : B → B → Bool) (p : B → Bool) (b : B) (f : A → List B) (l : List A) →
      count like b (choose p (flat_map f l)) ≡ sum (λ (a : A). count like b (choose p (f a))) l
  unfolding flat_map
  count-choose-flat_map like p b f [] = refl
  count-choose-flat_map like p b f (a ∷ l) =
      rw choose-append (omega (
        arith,
        count-append like b (choose p (f a)) (choose p (flat_map f l)),
        count-choose-flat_map like p b f l,
      ))

module _ {A : Type 0} (w : A → ℕ) where
  pub sum-less-one : (l : List A) → ((a : A) → Memᴰ a l → 0 < w a) →
      sum w l ≡ sum (λ (a : A). w a - 1) l + length l
  sum-less-one [] h = refl
  sum-less-one (a ∷ l) h =
      omega (arith, h a (Memᴰ.head refl), sum-less-one l λ b m. h b (Memᴰ.tail m))

  pub sum-choose-le : (p : A → Bool) (l : List A) → sum w (choose p l) ≤ sum w l
  sum-choose-le p [] = omega arith
  sum-choose-le p (a ∷ l) =
      by_test (p a) (λ e. rw e (omega (arith, sum-choose-le p l))) λ e. rw e (omega (arith, sum-choose-le p l))

  -- Over the elements that pass either of two tests, where the others add nothing.
  pub sum-split : (p q : A → Bool) (l : List A) → ((a : A) → p a ≡ true → q a ≡ true → ⊥) →
      ((a : A) → Memᴰ a l → p a ≡ false → q a ≡ false → w a ≡ 0) →
      sum w l ≡ sum w (choose p l) + sum w (choose q l)
  sum-split p q [] d h = refl
  sum-split p q (a ∷ l) d h =
      let ih = sum-split p q l d λ b m. h b (Memᴰ.tail m) in
      by_test (p a)
      (λ e. by_test (q a) (λ g. absurd (d a e g)) λ g. rw (e, g) (omega arith))
      λ e. by_test (q a) (λ g. rw (e, g) (omega arith))
      λ g. rw (e, g) (omega (arith, h a (Memᴰ.head refl) e g))

module _ {A : Type 0} (like : A → A → Bool) (E : IsEquivalence like) where
  module _ (w : A → ℕ) (k : Respects like w) where
    pub sum-le : (ss ts : List A) → ((a : A) → count like a ts ≤ count like a ss) → sum w ts ≤ sum w ss
    sum-le ss ts h =
        let r = (cancel like ss ts).right in
        let d = cancel-difference like E ss ts in
        let e = is_empty-counts like E r λ a. omega (arith, h a, d.counts a) in
        omega (arith, d.sums w k, is_empty_sum w r e)

    pub sum-parts : (ss zs xs : List A) → ((a : A) → count like a ss ≡ count like a zs + count like a xs) →
        sum w ss ≡ sum w zs + sum w xs
    sum-parts ss zs xs h =
        multiset_equal-sum like E w k ss (zs ++ xs)
        ((multiset_equal-counts like E ss (zs ++ xs)).1 λ a. h a ∙ sym (count-append like a zs xs)) ∙ sum-append w zs xs

    pub sum-member : (l : List A) (a : A) → 0 < count like a l → w a ≤ sum w l
    sum-member [] a h = absurd (omega arith)
    sum-member (b ∷ l) a h =
        by_test (like a b) (λ e. omega (arith, k a b e)) λ e. omega (arith, sum-member l a (omega (arith, ap bit e)))

    pub sum-pos : (l : List A) → 0 < sum w l → (a : A) × (0 < count like a l) × (0 < w a)
    sum-pos [] h = absurd (omega arith)
    sum-pos (b ∷ l) h =
        by_order 0 (w b) (λ i. (b, count-here like E b l, i))
        λ i. let (a, n, j) = sum-pos l (omega arith) in (a, omega arith, j)

  -- A proper part is shorter.
  pub length-lt : (ss ts : List A) → ((a : A) → count like a ts ≤ count like a ss) → (s : A) →
      count like s ts < count like s ss → length ts < length ss
  length-lt ss ts h s k =
      omega (
        arith,
        sum_one ss,
        sum_one (s ∷ ts),
        sum-le (λ a. 1) (λ a b e. refl) ss (s ∷ ts) λ a. by_test (like a s)
            (λ e. omega (arith, ap bit e, count-resp like E e ss, count-resp like E e ts))
            λ e. omega (arith, ap bit e, h a),
      )
