-- Where any two of their elements compare, so do two multisets, and two rows of one length.
use mathlib.Core.List.{List, [], ◌∷◌, ◌++◌, Memᴰ}
use mathlib.Core.Path.{◌≡◌, refl}
use mathlib.Core.Bool.{Bool, true, not, and-eq-true_iff as both}
use Prim.Native.Nat.{◌+◌, ◌-◌, ◌<◌}
use native.Mathlib.Omega.{arith}
use lib.ListN.{length}
use borrow.Author.Tests.{not-false}
use Rattle.multisets.specs.Multiset.{is_empty, cancel, multiset_equal, multiset_greater, row_equal, row_greater}
use Rattle.multisets.proofs.Relations.{by_test, by_order, IsEquivalence, IsStrictOrder}
use Rattle.multisets.proofs.Relations.{Compared, above, alike, below, compared-resp-like, compared-sym}
use Rattle.multisets.proofs.RowLaws.{ahead, level, first-row}
use Rattle.multisets.proofs.MultisetLaws.{bit, count, count-append, count-resp, count→member, is_empty_sum}
use Rattle.multisets.proofs.MultisetLaws.{cancel-difference, multiset_equal-counts, nonempty-counts}
use Rattle.multisets.proofs.MultisetOrder.{Dominates, Peak, climb, multiset_greater-counts}

module _ {A : Type 0} (like : A → A → Bool) (E : IsEquivalence like)
    (greater : A → A → Bool) (O : IsStrictOrder like greater) where
  abbrev pub Total : List A → List A → Type 0
  Total l m = (a b : A) → Memᴰ a l → Memᴰ b m → Compared like greater a b

  -- An element in surplus that none lacking stands above is above each that is lacking.
  summit : (ss ts : List A) → ((a b : A) → 0 < count like a ss → 0 < count like b ts → Compared like greater a b) →
      (p : A) → count like p ts < count like p ss →
      ((z : A) → count like z ss < count like z ts → greater z p ≡ true → ⊥) → Dominates like greater ss ts
  summit ss ts total p k h =
      record { top = (p, k); over = λ t n. (p, k, go t n (total p t (omega arith) (omega arith))) }
    where
      go : (t : A) → count like t ss < count like t ts → Compared like greater p t → greater p t ≡ true
      go t n (above g) = g
      go t n (alike e) = absurd (omega (arith, count-resp like E e ss, count-resp like E e ts))
      go t n (below g) = absurd (h t n g)

  module _ (ss ts : List A) where
    -- What is in surplus on either side.
    abbrev rest : List A
    rest = (cancel like ss ts).left ++ (cancel like ss ts).right

    rest-counts : (a : A) →
        count like a rest ≡ (count like a ss - count like a ts) + (count like a ts - count like a ss)
    rest-counts a =
        omega (
          arith,
          count-append like a (cancel like ss ts).left (cancel like ss ts).right,
          (cancel-difference like E ss ts).counts a,
        )

    module _ (total : Total ss ts) where
      near : (a b : A) → 0 < count like a ss → 0 < count like b ts → Compared like greater a b
      near a b i j =
          let (c, m, e) = count→member like E a ss i in
          let (d, n, f) = count→member like E b ts j in
          compared-resp-like like E greater O (E.symmetric e) (E.symmetric f) (total c d m n)

      -- A highest element of what is in surplus decides.
      by-peak : (x : A) → Peak like E greater O rest [] rest x →
          Compared (multiset_equal like) (multiset_greater like greater) ss ts
      by-peak x m =
          let p = m.element in
          by_order (count like p ts) (count like p ss)
          (λ h. above ((multiset_greater-counts like E greater O ss ts).1 (summit ss ts near p h
          λ z k. m.highest z (omega (arith, rest-counts z)) (omega (arith, rest-counts z)))))
          λ h. below ((multiset_greater-counts like E greater O ts ss).1 (summit ts ss
          (λ a b i j. compared-sym like E greater O (near b a j i)) p (omega (arith, rest-counts p, m.surplus))
          λ z k. m.highest z (omega (arith, rest-counts z)) (omega (arith, rest-counts z))))

      pub multiset_compared : Compared (multiset_equal like) (multiset_greater like greater) ss ts
      multiset_compared =
          by_test (not (is_empty rest))
          (λ e. let (x, h) = (nonempty-counts like E rest).0 e in
          by-peak x (climb like E greater O rest [] rest x h))
          λ e. alike ((multiset_equal-counts like E ss ts).1
          λ a. omega (arith, is_empty_sum (λ b. bit (like a b)) rest (not-false (is_empty rest) e), rest-counts a))

  pub row_compared : (l m : List A) → length l ≡ length m → Total l m →
      Compared (row_equal like) (row_greater like greater) l m
  unfolding row_equal row_greater
  row_compared [] [] e total = alike refl
  row_compared [] (b ∷ m) e total = absurd (omega arith)
  row_compared (a ∷ l) [] e total = absurd (omega arith)
  row_compared (a ∷ l) (b ∷ m) e total =
      go (total a b (Memᴰ.head refl) (Memᴰ.head refl))
      (row_compared l m (omega arith) λ x y i j. total x y (Memᴰ.tail i) (Memᴰ.tail j))
    where
      go : Compared like greater a b → Compared (row_equal like) (row_greater like greater) l m →
          Compared (row_equal like) (row_greater like greater) (a ∷ l) (b ∷ m)
      go (above g) r = above (first-row like E greater O l m (ahead g))
      go (below g) r = below (first-row like E greater O m l (ahead g))
      go (alike f) (above h) = above (first-row like E greater O l m (level f h))
      go (alike f) (alike h) = alike ((both _ _).1 (f, h))
      go (alike f) (below h) = below (first-row like E greater O m l (level (E.symmetric f) h))
