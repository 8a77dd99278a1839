-- Sorting and splitting a list.
--     Takes-*                             a list less one place: its elements, in an append
--     insert-takes, sorted-member         sorting keeps the elements
--     sorted-sorted                       a sorted list is sorted, where any two of its elements compare
--     row-of-sorted                       sorted lists that are equal as multisets are equal as rows
--     splits-takes, splits-equal          a split takes each element once; every parting of the multiset is a split
use mathlib.Core.List.Memᴰ
use mathlib.Core.List.{List, [], ◌∷◌, ◌++◌, Memᴰ}
use mathlib.Core.Logic.{◌⊎◌, inl, inr, ⊎_elim}
use mathlib.Core.Path.{◌≡◌, refl, sym, ap, ◌∙◌}
use mathlib.Core.Bool.{Bool, true, false, true≢false, and-eq-true_iff as both}
use Prim.Native.Nat.{suc, ◌<◌}
use native.Mathlib.Omega.{arith}
use lib.ListN.{length}
use Rattle.multisets.specs.Multiset.{Rest, multiset_equal, row_equal}
use Rattle.multisets.specs.Sorting.{Parted, insert, sorted, Ascending, on_either, splits}
use Rattle.multisets.specs.Sorting.Parted.{parted, on_left, on_right}
use Rattle.multisets.proofs.Relations.{by_test, refuted, IsEquivalence, Compared, above, alike, below}
use Rattle.multisets.proofs.Relations.{like-resp-right}
use Rattle.multisets.proofs.FlatMapLaws.{flat_map-member, member-flat_map}
use Rattle.multisets.proofs.Restriction.{IsStrictOrderOn}
use Rattle.multisets.proofs.MultisetLaws.{bit, count, Takes, here, later, takes-member, takes-within}
use Rattle.multisets.proofs.MultisetLaws.{count-here, count→member}
use Rattle.multisets.proofs.MultisetLaws.{takes-sum, multiset_equal-counts, multiset_equal-length}
use Rattle.multisets.proofs.MultisetLaws.{multiset_equal-split}

-- ---- a list less one place

module _ {A : Type 0} where
  pub takes-cases : {a b : A} {l m : List A} → Takes a l m → Memᴰ b l → (b ≡ a) ⊎ Memᴰ b m
  takes-cases here (Memᴰ.head e) = inl e
  takes-cases here (Memᴰ.tail i) = inr i
  takes-cases (later x) (Memᴰ.head e) = inr (Memᴰ.head e)
  takes-cases (later x) (Memᴰ.tail i) = ⊎_elim inl (λ j. inr (Memᴰ.tail j)) (takes-cases x i)

  pub takes-length : {a : A} {l m : List A} → Takes a l m → length l ≡ suc (length m)
  takes-length here = refl
  takes-length (later x) = ap suc (takes-length x)

  -- What is taken from two lists is taken from the first or from the second.
  pub takes-append : {a : A} (l m : List A) {n : List A} → Takes a (l ++ m) n →
      ((k : List A) × Takes a l k × (n ≡ k ++ m)) ⊎ ((k : List A) × Takes a m k × (n ≡ l ++ k))
  takes-append [] m {n} x = inr (n, x, refl)
  takes-append (b ∷ l) m here = inl (l, here, refl)
  takes-append (b ∷ l) m (later x) =
      ⊎_elim (λ (k, y, e). inl (b ∷ k, later y, ap (◌∷◌ b) e)) (λ (k, y, e). inr (k, y, ap (◌∷◌ b) e))
      (takes-append l m x)

-- ---- sorting

module _ {A : Type 0} (greater : A → A → Bool) where
  pub insert-takes : (a : A) (l : List A) → Takes a (insert greater a l) l
  insert-takes a [] = here
  insert-takes a (b ∷ l) = by_test (greater a b) (λ e. rw e (later (insert-takes a l))) λ e. rw e here

  pub sorted-member : (l : List A) (b : A) → Memᴰ b (sorted greater l) → Memᴰ b l
  unfolding sorted
  sorted-member [] b m = m
  sorted-member (a ∷ l) b m =
      ⊎_elim Memᴰ.head (λ i. Memᴰ.tail (sorted-member l b i))
      (takes-cases (insert-takes a (sorted greater l)) m)

  pub member-sorted : (l : List A) (b : A) → Memᴰ b l → Memᴰ b (sorted greater l)
  unfolding sorted
  member-sorted [] b x' = elim x' [ ]
  member-sorted (a ∷ l) b (Memᴰ.head e) = rw e (takes-member (insert-takes a (sorted greater l)))
  member-sorted (a ∷ l) b (Memᴰ.tail m) = takes-within (insert-takes a (sorted greater l)) (member-sorted l b m)

  pub sorted-length : (l : List A) → length (sorted greater l) ≡ length l
  unfolding sorted
  sorted-length [] = refl
  sorted-length (a ∷ l) = takes-length (insert-takes a (sorted greater l)) ∙ ap suc (sorted-length l)

module _ {A : Type 0} (P : A → Type 0) (like : A → A → Bool) (E : IsEquivalence like) (greater : A → A → Bool)
    (O : IsStrictOrderOn P like greater) (total : (a b : A) → P a → P b → Compared like greater a b) where
  abbrev Each : List A → Type 0
  Each l = (a : A) → Memᴰ a l → P a

  not-greater-trans : (a b c : A) → P a → P b → P c → greater a b ≡ false → greater b c ≡ false →
      greater a c ≡ false
  not-greater-trans a b c p q r e f = refuted (greater a c) λ g. go g (total b c q r)
    where
      go : greater a c ≡ true → Compared like greater b c → ⊥
      go g (above h) = true≢false (sym h ∙ f)
      go g (alike h) = true≢false (sym (O.respects p p r q (E.reflexive a) (E.symmetric h) g) ∙ e)
      go g (below h) = true≢false (sym (O.transitive p r q g h) ∙ e)

  not-greater-back : (a b : A) → P a → P b → greater a b ≡ true → greater b a ≡ false
  not-greater-back a b p q g =
      refuted (greater b a) λ h. O.irreflexive p p (O.transitive p q p g h) (E.reflexive a)

  insert-ascending : (a : A) (l : List A) → P a → Each l → Ascending greater l → Ascending greater (insert greater a l)
  insert-ascending a [] p q s = (λ b m. absurd (Memᴰ.not-nil m), tt)
  insert-ascending a (b ∷ l) p q (s, r) =
      by_test (greater a b)
      (λ e. rw e (
        λ c m. ⊎_elim (λ i. rw i (not-greater-back a b p (q b (Memᴰ.head refl)) e)) (s c)
            (takes-cases (insert-takes greater a l) m),
        insert-ascending a l p (λ c m. q c (Memᴰ.tail m)) r,
      ))
      λ e. rw e (λ c m. first e c m, (s, r))
    where
      first : greater a b ≡ false → (c : A) → Memᴰ c (b ∷ l) → greater a c ≡ false
      first e c (Memᴰ.head i) = rw i e
      first e c (Memᴰ.tail m) =
          not-greater-trans a b c p (q b (Memᴰ.head refl)) (q c (Memᴰ.tail m)) e (s c m)

  pub sorted-ascending : (l : List A) → Each l → Ascending greater (sorted greater l)
  unfolding sorted
  sorted-ascending [] q = tt
  sorted-ascending (a ∷ l) q =
      insert-ascending a (sorted greater l) (q a (Memᴰ.head refl))
      (λ b m. q b (Memᴰ.tail (sorted-member greater l b m)))
      (sorted-ascending l λ b m. q b (Memᴰ.tail m))

  -- The first of a sorted list is not greater than what is like one of its elements.
  first-least : (a : A) (l : List A) (c : A) → Each (a ∷ l) → P c → Ascending greater (a ∷ l) →
      0 < count like c (a ∷ l) → greater a c ≡ false
  first-least a l c q p (s, r) n = go (count→member like E c (a ∷ l) n)
    where
      go : (d : A) × Memᴰ d (a ∷ l) × (like c d ≡ true) → greater a c ≡ false
      go (d, Memᴰ.head i, e) =
          refuted (greater a c)
          λ g. O.irreflexive (q a (Memᴰ.head refl)) p g (E.symmetric (rw i at e))
      go (d, Memᴰ.tail m, e) =
          refuted (greater a c)
          λ g. true≢false (sym (O.respects (q a (Memᴰ.head refl)) (q a (Memᴰ.head refl)) p
          (q d (Memᴰ.tail m)) (E.reflexive a) e g) ∙ s d m)

  pub row-of-ascending : (l m : List A) → Each l → Each m → Ascending greater l → Ascending greater m →
      multiset_equal like l m ≡ true → row_equal like l m ≡ true
  unfolding row_equal
  row-of-ascending [] [] p q s r e = refl
  row-of-ascending [] (b ∷ m) p q s r e = absurd (omega (arith, multiset_equal-length like E [] (b ∷ m) e))
  row-of-ascending (a ∷ l) [] p q s r e = absurd (omega (arith, multiset_equal-length like E (a ∷ l) [] e))
  row-of-ascending (a ∷ l) (b ∷ m) p q s r e =
      let c = (multiset_equal-counts like E (a ∷ l) (b ∷ m)).0 e in
      let x = p a (Memᴰ.head refl) in
      let y = q b (Memᴰ.head refl) in
      let i = first-least a l b p y s (omega (arith, c b, count-here like E b m)) in
      let j = first-least b m a q x r (omega (arith, c a, count-here like E a l)) in
      let k : like a b ≡ true = both-least i j (total a b x y) in
      (both _ _).1 (
        k,
        row-of-ascending l m (λ d n. p d (Memᴰ.tail n)) (λ d n. q d (Memᴰ.tail n)) s.1 r.1
            ((multiset_equal-counts like E l m).1 λ d. omega (arith, c d, ap bit (like-resp-right like E k d))),
      )
    where
      both-least : greater a b ≡ false → greater b a ≡ false → Compared like greater a b → like a b ≡ true
      both-least i j (above g) = absurd (true≢false (sym g ∙ i))
      both-least i j (alike k) = k
      both-least i j (below g) = absurd (true≢false (sym g ∙ j))

-- ---- splitting

module _ {A : Type 0} where
  pub parted-left : {l m n : List A} → Parted l m n → (a : A) → Memᴰ a m → Memᴰ a l
  parted-left parted a i = i
  parted-left (on_left p) a (Memᴰ.head e) = Memᴰ.head e
  parted-left (on_left p) a (Memᴰ.tail i) = Memᴰ.tail (parted-left p a i)
  parted-left (on_right p) a i = Memᴰ.tail (parted-left p a i)

  pub parted-right : {l m n : List A} → Parted l m n → (a : A) → Memᴰ a n → Memᴰ a l
  parted-right parted a i = i
  parted-right (on_left p) a i = Memᴰ.tail (parted-right p a i)
  parted-right (on_right p) a (Memᴰ.head e) = Memᴰ.head e
  parted-right (on_right p) a (Memᴰ.tail i) = Memᴰ.tail (parted-right p a i)

  pub splits-parted : (l : List A) (r : Rest A) → Memᴰ r (splits l) → Parted l r.left r.right
  unfolding splits
  splits-parted [] r m = rw (Memᴰ.eq_of_singleton m) parted
  splits-parted (a ∷ l) r m =
      let (q, i, j) = flat_map-member (on_either a) (splits l) m in go q (splits-parted l q i) j
    where
      go : (q : Rest A) → Parted l q.left q.right → Memᴰ r (on_either a q) →
          Parted (a ∷ l) r.left r.right
      go q p (Memᴰ.head e) = rw e (on_left p)
      go q p (Memᴰ.tail i) = rw (Memᴰ.eq_of_singleton i) (on_right p)

  pub parted-splits : {l m n : List A} → Parted l m n → Memᴰ (record { left = m; right = n }) (splits l)
  unfolding splits
  parted-splits parted = Memᴰ.head refl
  parted-splits (on_left {a} p) = member-flat_map (on_either a) (parted-splits p) (Memᴰ.head refl)
  parted-splits (on_right {a} p) =
      member-flat_map (on_either a) (parted-splits p) (Memᴰ.tail (Memᴰ.head refl))

  module _ (like : A → A → Bool) (E : IsEquivalence like) where
    -- A pair more.
    multiset_equal-pair : {a b : A} {ts us : List A} (ss : List A) → like a b ≡ true → Takes b ts us →
        multiset_equal like ss us ≡ true → multiset_equal like (a ∷ ss) ts ≡ true
    multiset_equal-pair {a} {b} {ts} {us} ss e x h =
        (multiset_equal-counts like E (a ∷ ss) ts).1
        λ c. omega (
          arith,
          takes-sum (λ d. bit (like c d)) x,
          ap bit (like-resp-right like E e c),
          (multiset_equal-counts like E ss us).0 h c,
        )

    -- A list that is equal, as a multiset, to two lists has a split that is equal to them.
    pub parted-of-equal : (l ps qs : List A) → multiset_equal like l (ps ++ qs) ≡ true →
        (m : List A) × (n : List A) × Parted l m n × (multiset_equal like m ps ≡ true) ×
        (multiset_equal like n qs ≡ true)
    parted-of-equal [] [] [] e = ([], [], parted, e, e)
    parted-of-equal [] [] (q ∷ qs) e = absurd (omega (arith, multiset_equal-length like E [] (q ∷ qs) e))
    parted-of-equal [] (p ∷ ps) qs e = absurd (omega (arith, multiset_equal-length like E [] (p ∷ (ps ++ qs)) e))
    parted-of-equal (a ∷ l) ps qs e =
        let (b, us, k, x, h) = multiset_equal-split like a l (ps ++ qs) e in
        ⊎_elim
        (λ (v, y, i).
        let (m, n, p, d, g) = parted-of-equal l v qs (rw i at h) in
        (a ∷ m, n, on_left p, multiset_equal-pair m k y d, g))
        (λ (v, y, i).
        let (m, n, p, d, g) = parted-of-equal l ps v (rw i at h) in
        (m, a ∷ n, on_right p, d, multiset_equal-pair n k y g))
        (takes-append ps qs x)
