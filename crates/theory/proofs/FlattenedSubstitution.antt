-- Marks 4 to 6 are kept by substitutions. A flattening under a substitution is the images of its elements.
--     formed_image, images-formed     the flattening of a well-formed term's image
--     flattened-substitute           marks 4 to 6
use mathlib.Core.List.{List, [], ◌∷◌, ◌++◌, flat_map, Memᴰ}
use mathlib.Core.Logic.{⊎_elim}
use mathlib.Core.Path.{◌≡◌, refl, sym, ap, ◌∙◌}
use mathlib.Core.Bool.{Bool, true, false, cond, false≢true, true≢false}
use Prim.Native.Nat.{ℕ, ◌+◌, ◌-◌, ◌≤◌, ◌<◌}
use native.Mathlib.Omega.{arith}
use lib.ListN.{length}
use Rattle.multisets.specs.Multiset.{choose, cancel, multiset_equal, multiset_greater}
use Rattle.terms.specs.Signature.{Signature, symbol_of, Admissible}
use Rattle.terms.specs.Term.{Term, is_var, WellFormed}
use Rattle.terms.specs.Term.Term.{var, app}
use Rattle.terms.specs.Equivalence.{is_equivalent}
use Rattle.terms.specs.Order.{variables, root_above, root_below, high_part, low_part, high_equal, low_greater}
use Rattle.terms.specs.Rewriting.{Substitution, substitute, ExpressionSubstitution}
use Rattle.multisets.proofs.Relations.{by_test, by_order, IsEquivalence, IsStrictOrder}
use Rattle.multisets.proofs.MultisetLaws.{count, Respects, count-append, count-here, count→member, cancel-difference}
use Rattle.multisets.proofs.MultisetLaws.{multiset_equal-counts, multiset_equal-length, multiset_equal-equivalence}
use Rattle.multisets.proofs.MultisetOrder.{multiset_greater-mono, multiset-part}
use Rattle.multisets.proofs.MultisetMaps.{choose-member, multiset_equal-choose}
use Rattle.multisets.proofs.MultisetImages.{joined, Weighs, images-part, images-greater, images-longer}
use Rattle.multisets.proofs.Restriction.{like_within-view}
use Rattle.terms.proofs.TermLaws.{flattening-each, formed}
use Rattle.terms.proofs.FlatteningLaws.{NotRoot, flattening-long}
use Rattle.terms.proofs.FormedTest.{is_formed, formed-decides}
use Rattle.terms.proofs.RewritingLaws.{substitute-expression}
use Rattle.terms.proofs.SubstitutionLaws.{image, image-resp-is_equivalent}
use Rattle.theory.proofs.RootTests.{RootTest, above-test, below-test, not-both, root_test-respects}
use Rattle.theory.proofs.DecreasesView.{FlattenedDecreases}
use Rattle.theory.proofs.DecreasesView.FlattenedDecreases.{by_high, by_length, by_low}
use Rattle.theory.proofs.FlattenedCounts.{level-of-equal}
use Rattle.theory.proofs.FormedLaws.{like_formed, like_formed-equivalence, like_formed-root, Formed, equal-formed}
use Rattle.theory.proofs.StrictOrder.{greater_formed, greater_formed-order}
use Rattle.theory.proofs.FlattenedLaws.{flattened-high, flattened-level}
use Rattle.theory.proofs.Contexts.{greater-parts}

module _ (σ : Signature) (τ : Substitution) (f : ℕ) where
  -- The flattening of a well-formed term's image.
  abbrev pub formed_image : Term → List Term
  formed_image u = cond (is_formed σ u) (image τ f u) []

  pub images-formed : (l : List Term) → Formed σ l → flat_map (image τ f) l ≡ flat_map formed_image l
  unfolding flat_map
  images-formed [] h = refl
  images-formed (u ∷ l) h =
      rw ((formed-decides σ u).1 (h u (Memᴰ.head refl)))
      (ap (◌++◌ (image τ f u)) (images-formed l λ v m. h v (Memᴰ.tail m)))

  formed_image-member : (u v : Term) → WellFormed σ u → Memᴰ v (formed_image u) → Memᴰ v (image τ f u)
  formed_image-member u v w m = rw ((formed-decides σ u).1 w) at m

-- Elements of a flattening for f.
abbrev Elements : Signature → ℕ → List Term → Type 0
Elements σ f l = (u : Term) → Memᴰ u l → NotRoot f u × WellFormed σ u

module _ (σ : Signature) (A : Admissible σ) (τ : Substitution) (images : ExpressionSubstitution σ τ) (f : ℕ)
    (ac : (symbol_of σ f).ac ≡ true) where
  abbrev E : IsEquivalence (like_formed σ)
  E = like_formed-equivalence σ

  abbrev O : IsStrictOrder (like_formed σ) (greater_formed σ)
  O = greater_formed-order σ A

  -- ---- images

  image-formed : (u : Term) → WellFormed σ u → Formed σ (image τ f u)
  image-formed u w v m = flattening-each (formed σ) v (substitute τ u) f (substitute-expression σ τ images u w).0 m

  formed_image-respects : (s t : Term) → like_formed σ s t ≡ true →
      multiset_equal (like_formed σ) (formed_image σ τ f s) (formed_image σ τ f t) ≡ true
  formed_image-respects s t h =
      let (q, e) = (like_within-view (is_formed σ) (is_equivalent σ) s t).0 h in
      by_test (is_formed σ t)
      (λ y. let v = (formed-decides σ s).0 (q ∙ y) in
      let w = (formed-decides σ t).0 y in
      rw (q, y) (sym (equal-formed σ (image τ f s) (image τ f t) (image-formed s v) (image-formed t w))
      ∙ image-resp-is_equivalent σ A.ac_binary τ f ac s t v w e))
      λ n. rw (q, n) ((multiset_equal-equivalence (like_formed σ) E).reflexive [])

  image-long : (u : Term) → WellFormed σ u → 0 < length (formed_image σ τ f u)
  image-long u w =
      rw ((formed-decides σ u).1 w)
      (flattening-long σ f (A.ac_binary f ac) (substitute τ u) (substitute-expression σ τ images u w).0)

  -- The image of an element that is no variable is one element.
  image-one : (u : Term) → NotRoot f u → is_var u ≡ false → length (formed_image σ τ f u) - 1 ≡ 0
  image-one (var x) s v = absurd (true≢false v)
  image-one (app g us) s v = by_test (is_formed σ (app g us)) (λ y. rw (y, s)) λ y. rw y

  -- ---- what a test that goes by the root chooses of them

  module _ (p : Term → Bool) (P : RootTest p) where
    -- How many of the image's chosen elements are like b.
    abbrev number : Term → Term → ℕ
    number b u = count (like_formed σ) b (choose p (formed_image σ τ f u))

    number-respects : (b : Term) → Respects (like_formed σ) (number b)
    number-respects b s t e =
        (multiset_equal-counts (like_formed σ) E (choose p (formed_image σ τ f s)) (choose p (formed_image σ τ f t))).0
        (multiset_equal-choose (like_formed σ) E p (root_test-respects (like_formed-root σ) P) (formed_image σ τ f s)
        (formed_image σ τ f t) (formed_image-respects s t e)) b

    number-none : (b u : Term) → NotRoot f u → p u ≡ false → is_var u ≡ false → number b u ≡ 0
    number-none b (var x) s n v = absurd (true≢false v)
    number-none b (app g us) s n v =
        by_test (is_formed σ (app g us)) (λ y. rw (y, s, P.by_root g _ us, n)) λ y. rw y

    number-self : (u : Term) → NotRoot f u × WellFormed σ u → p u ≡ true → 0 < number (substitute τ u) u
    number-self (var x) h k = absurd (false≢true (sym (P.variable x) ∙ k))
    number-self (app g us) (s, w) k =
        rw ((formed-decides σ (app g us)).1 w, s, P.by_root g _ us, k)
        (count-here (like_formed σ) E (substitute τ (app g us)) [])

    -- What is greater than a term's image is greater than the chosen elements of its flattening.
    above-image : (s u b : Term) → WellFormed σ u → greater_formed σ s (substitute τ u) ≡ true → 0 < number b u →
        greater_formed σ s b ≡ true
    above-image s u b w g n =
        let (c, i, q) = count→member (like_formed σ) E b (choose p (formed_image σ τ f u)) n in
        O.respects (E.reflexive s) (E.symmetric q)
        (greater-parts σ A f (A.ac_binary f ac) s (substitute τ u) (substitute-expression σ τ images u w) g c
        (formed_image-member σ τ f u c w (choose-member p (formed_image σ τ f u) i).0))

  -- ---- two flattenings

  module _ (S T : List Term) (hS : Elements σ f S) (hT : Elements σ f T)
      (up : (u v : Term) → Memᴰ u S → Memᴰ v T → greater_formed σ u v ≡ true →
      greater_formed σ (substitute τ u) (substitute τ v) ≡ true) where
    abbrev S' : List Term
    S' = flat_map (formed_image σ τ f) S

    abbrev T' : List Term
    T' = flat_map (formed_image σ τ f) T

    module _ (p : Term → Bool) (P : RootTest p) where
      weighs : (b : Term) → Weighs (like_formed σ) E p is_var (not-both P) S T (number p P b)
      weighs b = record {
        respects = number-respects p P b;
        in_left = λ u m. number-none p P b u (hS u m).0;
        in_right = λ u m. number-none p P b u (hT u m).0;
      }

      rises : multiset_greater (like_formed σ) (greater_formed σ) (choose p S)
          (joined (like_formed σ) E p is_var (not-both P) S T) ≡ true →
          multiset_greater (like_formed σ) (greater_formed σ) (choose p S') (choose p T') ≡ true
      rises =
          images-greater (like_formed σ) E p is_var (not-both P) S T (formed_image σ τ f) weighs (greater_formed σ) O
          λ u m h. (
            substitute τ u,
            number-self p P u (hS u m) h,
            λ v b o g n. above-image p P (substitute τ u) v b (hT v o).1 (up u v m o g) n,
          )

    module _ (e : high_equal σ (like_formed σ) f S T ≡ true) where
      lengths-apart : length T' + length S ≤ length S' + length T
      lengths-apart =
          images-longer (like_formed σ) E (root_above σ f) is_var (not-both (above-test σ f)) S T (formed_image σ τ f)
          (record {
            respects = λ s t h. ap (λ (n : ℕ). n - 1) (multiset_equal-length (like_formed σ) E (formed_image σ τ f s)
                (formed_image σ τ f t) (formed_image-respects s t h));
            in_left = λ u m n. image-one u (hS u m).0;
            in_right = λ u m n. image-one u (hT u m).0;
          })
          (λ u m. image-long u (hS u m).1) (λ u m. image-long u (hT u m).1) e

      -- No variable is in surplus on the right.
      low-rises : low_greater σ (like_formed σ) (greater_formed σ) f S T ≡ true →
          multiset_greater (like_formed σ) (greater_formed σ) (low_part σ f S') (low_part σ f T') ≡ true
      low-rises g =
          let more = (cancel (like_formed σ) (variables S) (variables T)).right in
          rises (root_below σ f) (below-test σ f)
          (multiset_greater-mono (like_formed σ) E (greater_formed σ) O (low_part σ f S) (low_part σ f T) (low_part σ f S)
          (low_part σ f T ++ more) (λ a. omega (
            arith,
            (level-of-equal σ (like_formed σ) E (like_formed-root σ) f S T e).fewer a,
            (cancel-difference (like_formed σ) E (variables S) (variables T)).counts a,
            count-append (like_formed σ) a (low_part σ f T) more,
          )) g)

    module _ (ground : variables T' ≡ []) where
      abbrev Flat : Type 0
      Flat = FlattenedDecreases σ (like_formed σ) (greater_formed σ) f S' T'

      accessible_by_high : multiset_greater (like_formed σ) (greater_formed σ) (high_part σ f S') (high_part σ f T') ≡ true → Flat
      accessible_by_high = flattened-high σ (like_formed σ) E f (greater_formed σ) O S' T' ground

      -- Where the high parts are equal: mark 4, or what else decides.
      equal-highs : high_equal σ (like_formed σ) f S T ≡ true →
          (high_equal σ (like_formed σ) f S' T' ≡ true → Flat) → Flat
      equal-highs e h =
          ⊎_elim accessible_by_high (λ q. h (flattened-level σ (like_formed σ) E f (greater_formed σ) O S' T' ground q))
          (multiset-part (like_formed σ) E (greater_formed σ) O (high_part σ f S') (high_part σ f T')
          (images-part (like_formed σ) E (root_above σ f) is_var (not-both (above-test σ f)) S T (formed_image σ τ f)
          (weighs (root_above σ f) (above-test σ f)) e))

      pub flattened-substitute : FlattenedDecreases σ (like_formed σ) (greater_formed σ) f S T → Flat
      flattened-substitute (by_high g) = accessible_by_high (rises (root_above σ f) (above-test σ f) g)
      flattened-substitute (by_length e l) = equal-highs e λ q. by_length q (omega (arith, lengths-apart e))
      flattened-substitute (by_low e l g) =
          equal-highs e λ q. by_order (length T') (length S') (λ n. by_length q n)
          λ n. by_low q (omega (arith, lengths-apart e)) (low-rises e g)
