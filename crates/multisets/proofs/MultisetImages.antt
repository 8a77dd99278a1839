-- Multisets under a map of elements to lists. Of two tests that no element passes together, p chooses the elements that
-- are compared and q others that may be in surplus; the rest has nothing in its image that passes p.
--     surplus_left, surplus_right, joined   what q chooses in surplus; what p chooses on the right, joined with it
--     joined-sum                          sums over equal choices
--     images-greater                      a choice above what is joined on the right is above the other's after the map
--     images-part, images-longer          an equal choice: the other's is a part of it, and it gains no fewer elements
use mathlib.Core.List.{List, ◌++◌, flat_map, Memᴰ}
use mathlib.Core.Path.{◌≡◌}
use mathlib.Core.Bool.{Bool, true, false}
use Prim.Native.Nat.{ℕ, ◌+◌, ◌-◌, ◌≤◌, ◌<◌}
use native.Mathlib.Omega.{arith}
use lib.ListN.{length}
use Rattle.multisets.specs.Multiset.{choose, cancel, multiset_equal, multiset_greater}
use Rattle.multisets.proofs.Relations.{IsEquivalence, IsStrictOrder}
use Rattle.multisets.proofs.MultisetLaws.{bit, sum, sum-append, count, Respects, count-append, count→member}
use Rattle.multisets.proofs.MultisetLaws.{cancel-difference, multiset_equal-sum}
use Rattle.multisets.proofs.MultisetOrder.{CoversList, Exchange, multiset_greater-mono}
use Rattle.multisets.proofs.MultisetOrder.{multiset_greater-exchange}
use Rattle.multisets.proofs.MultisetMaps.{choose-member, sum-flat_map}
use Rattle.multisets.proofs.SumLaws.{length-flat_map, count-choose-flat_map, sum-less-one, sum-choose-le}
use Rattle.multisets.proofs.SumLaws.{sum-split, sum-parts, sum-member, sum-pos}

module _ {A : Type 0} (like : A → A → Bool) (E : IsEquivalence like) (p q : A → Bool)
    (apart : (a : A) → p a ≡ true → q a ≡ true → ⊥) (ss ts : List A) where
  abbrev pub surplus_left : List A
  surplus_left = (cancel like (choose q ss) (choose q ts)).left

  abbrev pub surplus_right : List A
  surplus_right = (cancel like (choose q ss) (choose q ts)).right

  abbrev pub joined : List A
  joined = choose p ts ++ surplus_right

  -- A number that respects likeness, and is 0 where an element passes neither test.
  pub record Weighs (w : A → ℕ) : Type 0 where
    pub respects : Respects like w
    pub in_left : (a : A) → Memᴰ a ss → p a ≡ false → q a ≡ false → w a ≡ 0
    pub in_right : (a : A) → Memᴰ a ts → p a ≡ false → q a ≡ false → w a ≡ 0

  module _ (w : A → ℕ) (W : Weighs w) where
    sums_apart :
        (sum w ss + sum w joined ≡ sum w (choose p ss) + (sum w ts + sum w surplus_left)) ×
        (sum w ss ≡ sum w (choose p ss) + sum w (choose q ss))
    sums_apart =
        omega (
          arith,
          sum-split w p q ss apart W.in_left,
          sum-split w p q ts apart W.in_right,
          sum-append w (choose p ts) surplus_right,
          (cancel-difference like E (choose q ss) (choose q ts)).sums w W.respects,
        )

    pub joined-sum : multiset_equal like (choose p ss) joined ≡ true → sum w ss ≡ sum w ts + sum w surplus_left
    joined-sum e = omega (arith, multiset_equal-sum like E w W.respects (choose p ss) joined e, sums_apart)

  module _ (image : A → List A) where
    -- Of the image's elements, those that pass the test; how many of them are like b.
    abbrev pub chosen : A → List A
    chosen a = choose p (image a)

    abbrev pub chosen_count : A → A → ℕ
    chosen_count b a = count like b (chosen a)

    module _ (W : (b : A) → Weighs (chosen_count b)) where
      images-count : (b : A) (l : List A) → count like b (flat_map chosen l) ≡ sum (chosen_count b) l
      images-count b l = sum-flat_map (λ c. bit (like b c)) chosen l

      pub images-part : multiset_equal like (choose p ss) joined ≡ true → (b : A) →
          count like b (choose p (flat_map image ts)) ≤ count like b (choose p (flat_map image ss))
      images-part e b =
          omega (
            arith,
            count-choose-flat_map like p b image ss,
            count-choose-flat_map like p b image ts,
            joined-sum (chosen_count b) (W b) e,
          )

      module _ (greater : A → A → Bool) (O : IsStrictOrder like greater)
          (up : (a : A) → Memᴰ a ss → p a ≡ true →
          (b : A) × (0 < chosen_count b a) × ((c d : A) → Memᴰ c ts → greater a c ≡ true → 0 < chosen_count d c →
          greater b d ≡ true)) where
        module _ (x : Exchange like greater (choose p ss) joined) where
          left_in : (a : A) → 0 < count like a x.left →
              (b : A) × Memᴰ b ss × (p b ≡ true) × (like a b ≡ true)
          left_in a n =
              let (b, m, e) = count→member like E a (choose p ss) (omega (arith, x.from_left a)) in
              let (i, h) = choose-member p ss m in (b, i, h, e)

          right_in : (a : A) → 0 < count like a x.right → (b : A) × Memᴰ b ts × (like a b ≡ true)
          right_in a n =
              let d = (cancel-difference like E (choose q ss) (choose q ts)).counts a in
              let w : A → ℕ = λ c. bit (like a c) in
              count→member like E a ts (omega (
                arith,
                x.from_right a,
                count-append like a (choose p ts) surplus_right,
                sum-choose-le w p ts,
                sum-choose-le w q ts,
              ))

          left-image : (a b c : A) → 0 < count like a x.left → like a c ≡ true → 0 < chosen_count b c →
              0 < count like b (flat_map chosen x.left)
          left-image a b c n e h =
              let k = (W b).respects in
              omega (arith, images-count b x.left, sum-member like E (chosen_count b) k x.left a n, k a c e)

          covers-images : CoversList like greater (flat_map chosen x.left) (flat_map chosen x.right)
          covers-images = record {
            top =
                let (a, n) = x.covers.top in
                let (c, m, h, e) = left_in a n in
                let (b, k, over) = up c m h in (b, left-image a b c n e k);
            over = λ d n.
                let (y, i, j) =
                sum-pos like E (chosen_count d) (W d).respects x.right (omega (arith, images-count d x.right)) in
                let (a, l, g) = x.covers.over y i in
                let (c, m, h, e) = left_in a l in
                let (z, o, r) = right_in y i in
                let (b, k, over) = up c m h in
                let j' : 0 < chosen_count d z = omega (arith, (W d).respects y z r) in
                (b, left-image a b c l e k, over z d o (O.respects e r g) j');
          }

          -- Images of what is common, exchanged and in surplus, by counts.
          counted : (b : A) →
              (count like b (choose p (flat_map image ss)) ≡
              count like b (flat_map chosen (x.common ++ choose q ss)) + count like b (flat_map chosen x.left)) ×
              (count like b (choose p (flat_map image ts)) + count like b (flat_map chosen surplus_left) ≡
              count like b (flat_map chosen (x.common ++ choose q ss)) + count like b (flat_map chosen x.right))
          counted b =
              omega (
                arith,
                count-choose-flat_map like p b image ss,
                count-choose-flat_map like p b image ts,
                images-count b (x.common ++ choose q ss),
                images-count b x.left,
                images-count b x.right,
                images-count b surplus_left,
                sum-append (chosen_count b) x.common (choose q ss),
                sum-parts like E (chosen_count b) (W b).respects (choose p ss) x.common x.left x.from_left,
                sum-parts like E (chosen_count b) (W b).respects joined x.common x.right x.from_right,
                sums_apart (chosen_count b) (W b),
              )

        pub images-greater : multiset_greater like greater (choose p ss) joined ≡ true →
            multiset_greater like greater (choose p (flat_map image ss)) (choose p (flat_map image ts)) ≡ true
        images-greater g =
            let x = (multiset_greater-exchange like E greater O (choose p ss) joined).0 g in
            let left = choose p (flat_map image ss) in
            let right = choose p (flat_map image ts) in
            let more = flat_map chosen surplus_left in
            multiset_greater-mono like E greater O left (right ++ more) left right
            (λ b. omega (arith, count-append like b right more))
            ((multiset_greater-exchange like E greater O left (right ++ more)).1 (record {
              common = flat_map chosen (x.common ++ choose q ss);
              left = flat_map chosen x.left;
              right = flat_map chosen x.right;
              from_left = λ b. omega (arith, counted x b);
              from_right = λ b. omega (arith, counted x b, count-append like b right more);
              covers = covers-images x;
            }))

    -- The left side gains no fewer elements, where an image has one at the least, and more only for what q chooses.
    pub images-longer : Weighs (λ (a : A). length (image a) - 1) →
        ((a : A) → Memᴰ a ss → 0 < length (image a)) → ((a : A) → Memᴰ a ts → 0 < length (image a)) →
        multiset_equal like (choose p ss) joined ≡ true →
        length (flat_map image ts) + length ss ≤ length (flat_map image ss) + length ts
    images-longer W i j e =
        omega (
          arith,
          length-flat_map image ss,
          length-flat_map image ts,
          sum-less-one (λ (a : A). length (image a)) ss i,
          sum-less-one (λ (a : A). length (image a)) ts j,
          joined-sum (λ (a : A). length (image a) - 1) W e,
        )
