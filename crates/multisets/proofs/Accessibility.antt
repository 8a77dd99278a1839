-- Accessibility, the kit's `Acc`: no descent from an element goes on for ever. It passes to multisets and to rows.
--     endless-absurd                          an endless descent is absurd
--     Accessible, accessible-resp             of a test; of like elements
--     AllAccessible, multiset-accessible      a multiset of accessible elements, under the multiset extension
--     RowBelow, row-accessible                a row of accessible elements, among rows of its length
-- For multisets one element more is taken at a time (Dershowitz and Manna), over counts. Rows of any lengths would not
-- do: b is above a b, that above a a b, and so on.
use mathlib.Core.List.{List, [], ◌∷◌, ◌++◌, Memᴰ}
use mathlib.Core.Logic.{◌⊎◌, ⊎_elim}
use mathlib.Core.Path.{◌≡◌, refl, sym, ap, subst, ◌∙◌}
use mathlib.Core.Bool.{Bool, true, not, false≢true}
use mathlib.Core.WellFounded.Acc
use mathlib.Core.WellFounded.{Acc}
use Prim.Native.Nat.{ℕ, suc, zero, ◌+◌}
use native.Mathlib.Omega.{arith}
use lib.ListN.{length}
use Rattle.multisets.specs.Multiset.{Removal, remove, choose, multiset_equal, multiset_greater, row_greater}
use Rattle.multisets.specs.Multiset.Removal.{without, absent}
use Rattle.multisets.proofs.Relations.{by_test, IsEquivalence, IsStrictOrder, like-resp-right}
use Rattle.multisets.proofs.Relations.{greater-resp-right}
use Rattle.multisets.proofs.MultisetLaws.{bit, count, count-append, count-resp}
use Rattle.multisets.proofs.MultisetLaws.{Respects, Takes, takes-sum, Found, remove-found, multiset_equal-counts}
use Rattle.multisets.proofs.MultisetLaws.{multiset_equal-equivalence}
use Rattle.multisets.proofs.MultisetOrder.{Surplus, multiset_greater-counts, multiset_greater-mono}
use Rattle.multisets.proofs.MultisetOrder.{multiset-covered, multiset_greater-order}
use Rattle.multisets.proofs.MultisetMaps.{choose-member, choose-out}
use Rattle.multisets.proofs.SumLaws.{sum-split}

-- ---- descents

pub endless-absurd : {A : Type 0} {r : A → A → Type 0} {a : A} → Acc r a → (f : ℕ → A) → f 0 ≡ a →
    ((n : ℕ) → r (f (suc n)) (f n)) → ⊥
endless-absurd {r} (Acc.intro a h) f e d =
    endless-absurd (h (f 1) (subst (r (f 1)) e (d 0))) (λ n. f (suc n)) refl (λ n. d (suc n))

module _ {A : Type 0} (greater : A → A → Bool) where
  -- No descent from it goes on for ever.
  abbrev pub Accessible : A → Type 0
  Accessible = Acc (λ (b a : A). greater a b ≡ true)

  abbrev pub AllAccessible : List A → Type 0
  AllAccessible l = (a : A) → Memᴰ a l → Accessible a

module _ {A : Type 0} (like : A → A → Bool) (E : IsEquivalence like) (greater : A → A → Bool)
    (O : IsStrictOrder like greater) where
  pub accessible-resp : {a b : A} → like a b ≡ true → Accessible greater a → Accessible greater b
  accessible-resp {a} {b} e x =
      Acc.intro b λ c g. Acc.inv x (O.respects (E.symmetric e) (E.reflexive c) g)

-- ---- multisets

module _ {A : Type 0} (like : A → A → Bool) (E : IsEquivalence like) (greater : A → A → Bool)
    (O : IsStrictOrder like greater) where
  abbrev pub AccessibleList : List A → Type 0
  AccessibleList = Accessible (multiset_greater like greater)

  pub list-resp : (l m : List A) → multiset_equal like l m ≡ true → AccessibleList l → AccessibleList m
  list-resp l m =
      accessible-resp (multiset_equal like) (multiset_equal-equivalence like E) (multiset_greater like greater)
      (multiset_greater-order like E greater O)

  -- What is below a list with one element more: it keeps the element, or has elements below it instead.
  data BelowMore (a : A) (l m : List A) : Type 0 where
    keeps : (n : List A) → multiset_greater like greater l n ≡ true → multiset_equal like (a ∷ n) m ≡ true →
        BelowMore a l m
    lowers : (ks n : List A) → ((k : A) → Memᴰ k ks → greater a k ≡ true) →
        (multiset_greater like greater l n ≡ true) ⊎ (multiset_equal like l n ≡ true) →
        multiset_equal like (ks ++ n) m ≡ true → BelowMore a l m

  module _ (a : A) (l m : List A) (g : multiset_greater like greater (a ∷ l) m ≡ true) where
    more-keeps : (b : A) (n : List A) → like a b ≡ true → Takes b m n → BelowMore a l m
    more-keeps b n e x =
        let same : (c : A) → count like c m ≡ bit (like c a) + count like c n =
        λ c. omega (arith, takes-sum (λ d. bit (like c d)) x, ap bit (like-resp-right like E e c)) in
        keeps n (multiset_greater-mono like E greater O (a ∷ l) m l n (λ c. omega (arith, same c)) g)
        ((multiset_equal-counts like E (a ∷ n) m).1 λ c. omega (arith, same c))

    abbrev lower : A → Bool
    lower b = greater a b

    abbrev others : A → Bool
    others b = not (greater a b)

    count-apart : (c : A) → count like c m ≡ count like c (choose lower m) + count like c (choose others m)
    count-apart c =
        sum-split (λ d. bit (like c d)) lower others m (λ b h k. false≢true (rw h at k))
        λ b i h k. absurd (false≢true (sym (rw h at k)))

    -- What is not below a is covered by l.
    rest-covered : count like a m ≡ 0 → (t : A) → Surplus like (choose others m) l t →
        (s : A) × Surplus like l (choose others m) s × (greater s t ≡ true)
    rest-covered z t k =
        by_test (greater a t)
        (λ e. absurd (omega (arith, choose-out like E others respects t m (rw e))))
        λ e. by_test (like t a) (λ f. absurd (omega (arith, count-resp like E f m, count-apart t)))
        λ f. let (s, i, h) =
        ((multiset_greater-counts like E greater O (a ∷ l) m).0 g).over t (omega (arith, ap bit f, count-apart t)) in
        by_test (like s a) (λ j. absurd (false≢true (sym e ∙ O.respects j (E.reflexive t) h)))
        λ j. (s, omega (arith, ap bit j, count-apart s), h)
      where
        respects : Respects like others
        respects b c e = ap not (greater-resp-right like E greater O e a)

    more-lowers : count like a m ≡ 0 → BelowMore a l m
    more-lowers z =
        lowers (choose lower m) (choose others m) (λ k i. (choose-member lower m i).1)
        (multiset-covered like E greater O l (choose others m) (rest-covered z))
        ((multiset_equal-counts like E (choose lower m ++ choose others m) m).1
        λ c. omega (arith, count-apart c, count-append like c (choose lower m) (choose others m)))

    below_more : BelowMore a l m
    below_more = go (remove (like a) m) (remove-found (like a) m)
      where
        go : (r : Removal A) → Found (like a) m r → BelowMore a l m
        go (without n) (b, e, x) = more-keeps b n e x
        go absent z = more-lowers z

  -- One element may be put to every accessible list.
  abbrev Joins : A → Type 0
  Joins a = (l : List A) → AccessibleList l → AccessibleList (a ∷ l)

  join-all : (ks l : List A) → ((k : A) → Memᴰ k ks → Joins k) → AccessibleList l → AccessibleList (ks ++ l)
  join-all [] l j x = x
  join-all (k ∷ ks) l j x = j k (Memᴰ.head refl) (ks ++ l) (join-all ks l (λ b i. j b (Memᴰ.tail i)) x)

  module _ (a : A) (ih : (b : A) → greater a b ≡ true → Joins b) where
    joins-step : {l : List A} → AccessibleList l → AccessibleList (a ∷ l)
    joins-step (Acc.intro l x) = Acc.intro (a ∷ l) λ m g. go m (below_more a l m g) (λ n h. joins-step (x n h))
      where
        go : (m : List A) → BelowMore a l m →
            ((n : List A) → multiset_greater like greater l n ≡ true → AccessibleList (a ∷ n)) → AccessibleList m
        go m (keeps n h e) next = list-resp (a ∷ n) m e (next n h)
        go m (lowers ks n h c e) next =
            list-resp (ks ++ n) m e (join-all ks n (λ k i. ih k (h k i))
            (⊎_elim (λ d. x n d) (λ d. list-resp l n d (Acc.intro l x)) c))

  joins : {a : A} → Accessible greater a → Joins a
  joins (Acc.intro a x) l y = joins-step a (λ b g l' y'. joins (x b g) l' y') y

  pub multiset-accessible : (l : List A) → AllAccessible greater l → AccessibleList l
  multiset-accessible [] x =
      Acc.intro [] λ m g. absurd (omega (arith, ((multiset_greater-counts like E greater O [] m).0 g).top.1))
  multiset-accessible (a ∷ l) x =
      joins (x a (Memᴰ.head refl)) l (multiset-accessible l λ b i. x b (Memᴰ.tail i))

  -- ---- rows

  -- Below, of the same length, and of accessible elements.
  abbrev pub RowBelow : List A → List A → Type 0
  RowBelow m l = (row_greater like greater l m ≡ true) × (length m ≡ length l) × AllAccessible greater m

  abbrev pub AccessibleRow : List A → Type 0
  AccessibleRow = Acc RowBelow

  module _ (n : ℕ) (all : (m : List A) → length m ≡ n → AllAccessible greater m → AccessibleRow m) (a : A)
      (ih : (b : A) → greater a b ≡ true → (m : List A) → length m ≡ n → AccessibleRow m → AccessibleRow (b ∷ m)) where
    row_step : {l : List A} → AccessibleRow l → length l ≡ n → (b : A) → like a b ≡ true → AccessibleRow (b ∷ l)
    unfolding row_greater
    row_step (Acc.intro l x) k b e =
        Acc.intro (b ∷ l) λ m r. go m r λ m' r' c f. row_step (x m' r') (r'.1 ∙ k) c f
      where
        go : (m : List A) → RowBelow m (b ∷ l) →
            ((m' : List A) → RowBelow m' l → (c : A) → like a c ≡ true → AccessibleRow (c ∷ m')) → AccessibleRow m
        go [] r next = absurd (false≢true r.0)
        go (c ∷ m) (r, d, y) next =
            let z : AllAccessible greater m = λ q i. y q (Memᴰ.tail i) in
            by_test (like b c) (λ f. next m (rw f at r, omega arith, z) c (E.transitive e f))
            λ f. ih c (O.respects (E.symmetric e) (E.reflexive c) (rw f at r)) m (omega arith)
            (all m (omega arith) z)

  module _ (n : ℕ) (all : (m : List A) → length m ≡ n → AllAccessible greater m → AccessibleRow m) where
    row-joins : {a : A} → Accessible greater a → (m : List A) → length m ≡ n → AccessibleRow m → AccessibleRow (a ∷ m)
    row-joins (Acc.intro a x) m k y =
        row_step n all a (λ b g m' k' y'. row-joins (x b g) m' k' y') y k a (E.reflexive a)

  row-of-length : (n : ℕ) (l : List A) → length l ≡ n → AllAccessible greater l → AccessibleRow l
  unfolding row_greater
  row-of-length zero [] k x = Acc.intro [] λ m r. absurd (false≢true r.0)
  row-of-length zero (a ∷ l) k x = absurd (omega arith)
  row-of-length (suc n) [] k x = absurd (omega arith)
  row-of-length (suc n) (a ∷ l) k x =
      let y : AllAccessible greater l = λ b i. x b (Memᴰ.tail i) in
      row-joins n (row-of-length n) (x a (Memᴰ.head refl)) l (omega arith)
      (row-of-length n l (omega arith) y)

  pub row-accessible : (l : List A) → AllAccessible greater l → AccessibleRow l
  row-accessible l = row-of-length (length l) l refl
