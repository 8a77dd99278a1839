-- Where the tests give the relations, on elements that P holds of and elements that Q holds of, they give the article's
-- extensions to lists of such elements.
--     multiset_equal→MultisetEquivalent, multiset_greater→MultisetGreater, row_greater→LexGreater
use mathlib.Core.List.Memᴰ
use mathlib.Core.List.{List, [], ◌∷◌, append-nil}
use mathlib.Core.Path.{◌≡◌, refl}
use mathlib.Core.Bool.{true, ◌&&◌, and-eq-true_iff as both, false≢true}
use Rattle.multisets.specs.Multiset.{some, every, is_empty, covers, cancel, multiset_equal, multiset_greater, row_greater}
use Rattle.terms.specs.Signature.{Signature}
use Rattle.terms.specs.Term.{Term}
use Rattle.terms.specs.Equivalence.{Equivalent, is_equivalent}
use Rattle.terms.specs.Order.{is_greater}
use Rattle.terms.specs.Article.{Pairwise, MultisetEquivalent, Greater, LexGreater, MultisetGreater, Covered}
use Rattle.terms.specs.Article.Covered.{nothing, another}
use Rattle.terms.specs.Article.LexGreater.{ahead, level}
use Rattle.terms.specs.Article.MultisetGreater.{extend}
use Rattle.terms.specs.Article.Pairwise.{none, each}
use Rattle.multisets.proofs.Relations.{by_test}
use Rattle.multisets.proofs.MultisetMaps.{some-member}
use Rattle.terms.proofs.TermLaws.{Each}
use Rattle.theory.proofs.PermutationLaws.{permutation-member, Paired, Matched, cancel-matched}
use Rattle.theory.proofs.PermutationLaws.Paired.{alone, couple}

module _ (σ : Signature) (P Q : Term → Type 0)
    (equivalent : (a b : Term) → P a → Q b → is_equivalent σ a b ≡ true → Equivalent σ a b)
    (greater : (a b : Term) → P a → Q b → is_greater σ a b ≡ true → Greater σ a b) where
  -- ---- multisets

  pairwise : {zs zs' : List Term} → Paired (is_equivalent σ) zs zs' → Each P zs → Each Q zs' → Pairwise σ zs zs'
  pairwise alone p q = none
  pairwise (couple {a} {b} e c) p q =
      each (equivalent a b (p a (Memᴰ.head refl)) (q b (Memᴰ.head refl)) e)
      (pairwise c (λ c m. p c (Memᴰ.tail m)) λ c m. q c (Memᴰ.tail m))

  covered : (xs ys : List Term) → Each P xs → Each Q ys →
      every (λ (t : Term). some (λ (s : Term). is_greater σ s t) xs) ys ≡ true → Covered σ xs ys
  covered xs [] p q e = nothing
  covered xs (y ∷ ys) p q e =
      let h = (both (some (λ (s : Term). is_greater σ s y) xs) _).0 e in
      let (x, m, k) = some-member (λ (s : Term). is_greater σ s y) xs h.0 in
      another x m (greater x y (p x m) (q y (Memᴰ.head refl)) k)
      (covered xs ys p (λ b n. q b (Memᴰ.tail n)) h.1)

  module _ (ms ns : List Term) (p : Each P ms) (q : Each Q ns) where
    matched-pairwise : (xs ys : List Term) (m : Matched (is_equivalent σ) ms ns (record { left = xs; right = ys })) →
        Pairwise σ m.mine m.yours
    matched-pairwise xs ys m =
        pairwise m.pairs (λ a i. p a (permutation-member m.from_mine a (Memᴰ.append_left xs i)))
        λ b i. q b (permutation-member m.from_yours b (Memᴰ.append_left ys i))

    pub multiset_equal→MultisetEquivalent : multiset_equal (is_equivalent σ) ms ns ≡ true → MultisetEquivalent σ ms ns
    unfolding multiset_equal
    multiset_equal→MultisetEquivalent e =
        go (cancel (is_equivalent σ) ms ns).left (cancel (is_equivalent σ) ms ns).right
        (cancel-matched (is_equivalent σ) ms ns) e
      where
        go : (xs ys : List Term) → Matched (is_equivalent σ) ms ns (record { left = xs; right = ys }) →
            (is_empty xs && is_empty ys) ≡ true → MultisetEquivalent σ ms ns
        go [] [] m h = record {
          left = m.mine;
          right = m.yours;
          from_left = rw append-nil at m.from_mine;
          from_right = rw append-nil at m.from_yours;
          pairs = matched-pairwise [] [] m;
        }
        go [] (y ∷ ys) m h = absurd (false≢true h)
        go (x ∷ xs) ys m h = absurd (false≢true h)

    pub multiset_greater→MultisetGreater : multiset_greater (is_equivalent σ) (is_greater σ) ms ns ≡ true →
        MultisetGreater σ ms ns
    unfolding multiset_greater
    multiset_greater→MultisetGreater e =
        go (cancel (is_equivalent σ) ms ns).left (cancel (is_equivalent σ) ms ns).right
        (cancel-matched (is_equivalent σ) ms ns) e
      where
        go : (xs ys : List Term) → Matched (is_equivalent σ) ms ns (record { left = xs; right = ys }) →
            covers (is_greater σ) xs ys ≡ true → MultisetGreater σ ms ns
        go [] ys m h = absurd (false≢true h)
        go (x ∷ xs) ys m h =
            extend m.mine m.yours x xs ys m.from_mine m.from_yours (matched-pairwise (x ∷ xs) ys m)
            (covered (x ∷ xs) ys (λ a n. p a (permutation-member m.from_mine a (Memᴰ.append_right m.mine n)))
            (λ b n. q b (permutation-member m.from_yours b (Memᴰ.append_right m.yours n))) h)

  -- ---- rows

  pub row_greater→LexGreater : (ss ts : List Term) → Each P ss → Each Q ts →
      row_greater (is_equivalent σ) (is_greater σ) ss ts ≡ true → LexGreater σ ss ts
  unfolding row_greater
  row_greater→LexGreater [] ts p q e = absurd (false≢true e)
  row_greater→LexGreater (s ∷ ss) [] p q e = absurd (false≢true e)
  row_greater→LexGreater (s ∷ ss) (t ∷ ts) p q e =
      let x = p s (Memᴰ.head refl) in
      let y = q t (Memᴰ.head refl) in
      by_test (is_equivalent σ s t)
      (λ h. level (equivalent s t x y h)
      (row_greater→LexGreater ss ts (λ a m. p a (Memᴰ.tail m)) (λ b n. q b (Memᴰ.tail n)) (rw h at e)))
      λ h. ahead (greater s t x y (rw h at e))
