-- The article's order passes the test of the order, on well-formed terms.
--     equal_of, exchange-of     the article's relations of multisets, by counts
--     Greater→is_greater         the order
use mathlib.Core.List.Memᴰ
use mathlib.Core.List.{List, ◌∷◌, ◌++◌}
use mathlib.Core.Path.{◌≡◌, refl, sym, ap, ◌∙◌}
use mathlib.Core.Bool.{true}
use Prim.Native.Nat.{ℕ, ◌<◌}
use native.Mathlib.Omega.{arith}
use Rattle.multisets.specs.Multiset.{cancel, multiset_equal, multiset_greater, row_greater}
use Rattle.terms.specs.Signature.{Signature, Admissible}
use Rattle.terms.specs.Term.{Term, Terms, flattenings, WellFormed}
use Rattle.terms.specs.Term.Term.{app}
use Rattle.terms.specs.Equivalence.{Equivalent, is_equivalent}
use Rattle.terms.specs.Order.{variables, root_above, root_below, joined_high, high_equal, high_greater, is_greater}
use Rattle.terms.specs.Article.{Permutation, Even, Pairwise, MultisetEquivalent, not_below, not_below_joined, Greater}
use Rattle.terms.specs.Article.{LexGreater, MultisetGreater, Covered}
use Rattle.terms.specs.Article.Covered.{nothing, another}
use Rattle.terms.specs.Article.Greater.{heavier, case0, case1, case2, case3a, case3b, case3c}
use Rattle.terms.specs.Article.LexGreater.{ahead, level}
use Rattle.terms.specs.Article.MultisetGreater.{extend}
use Rattle.terms.specs.Article.Pairwise.{none, each}
use Rattle.multisets.proofs.Relations.{by_test, IsEquivalence, IsStrictOrder, like-resp-right}
use Rattle.multisets.proofs.RowLaws.{first-row}
use Rattle.multisets.proofs.RowLaws.First.{ahead as first-ahead, level as first-level}
use Rattle.multisets.proofs.MultisetLaws.{bit, count, count-append, count-here, member→count, multiset_equal-counts}
use Rattle.multisets.proofs.MultisetOrder.{CoversList, multiset_greater-exchange}
use Rattle.terms.proofs.TermLaws.{row-each, formed, flattenings-formed, each-choose}
use Rattle.terms.proofs.EquivalenceComplete.{Equivalent→is_equivalent}
use Rattle.terms.proofs.OrderLaws.{each-joined, joined_high-agree}
use Rattle.terms.proofs.IteratedLaws.{Iterated→is_power}
use Rattle.theory.proofs.DecreasesView.{RootDecreases, root-of-iterated, is_greater-view}
use Rattle.theory.proofs.DecreasesView.Decreases.{by_weight, by_root}
use Rattle.theory.proofs.DecreasesView.FlattenedDecreases.{by_high, by_length, by_low}
use Rattle.theory.proofs.DecreasesView.RootDecreases.{by_precedence, by_row, by_flattening}
use Rattle.theory.proofs.FormedLaws.{like_formed, like_formed-equivalence, like-formed, Formed}
use Rattle.theory.proofs.StrictOrder.{greater_formed, greater_formed-order, formed-view, greater_formed-view}
use Rattle.theory.proofs.PermutationLaws.{permutation-sum, permutation-member}
use Rattle.theory.proofs.ArticleComplete.{not_below-high}

module _ (σ : Signature) (A : Admissible σ) where
  abbrev E : IsEquivalence (like_formed σ)
  E = like_formed-equivalence σ

  abbrev O : IsStrictOrder (like_formed σ) (greater_formed σ)
  O = greater_formed-order σ A

  abbrev C : Term → List Term → ℕ
  C = count (like_formed σ)

  -- ---- multisets

  like-of : (a b : Term) → Equivalent σ a b → WellFormed σ a → WellFormed σ b → like_formed σ a b ≡ true
  like-of a b d v w = sym (like-formed σ a b v w) ∙ Equivalent→is_equivalent σ d

  pairwise-count : {zs zs' : List Term} → Pairwise σ zs zs' → Formed σ zs → Formed σ zs' → (a : Term) → C a zs ≡ C a zs'
  pairwise-count none f g a = refl
  pairwise-count (each {s} {t} d p) f g a =
      omega (
        arith,
        ap bit (like-resp-right (like_formed σ) E {a = s} {b = t}
            (like-of s t d (f s (Memᴰ.head refl)) (g t (Memᴰ.head refl))) a),
        pairwise-count p (λ b m. f b (Memᴰ.tail m)) (λ b m. g b (Memᴰ.tail m)) a,
      )

  permutation-count : {l m : List Term} → Permutation l m → (a : Term) → C a l ≡ C a m
  permutation-count p a = permutation-sum (λ b. bit (like_formed σ a b)) p

  equal_of : {ms ns : List Term} → Formed σ ms → Formed σ ns → MultisetEquivalent σ ms ns →
      multiset_equal (like_formed σ) ms ns ≡ true
  equal_of {ms} {ns} f g m =
      (multiset_equal-counts (like_formed σ) E ms ns).1
      λ a. omega (
        arith,
        permutation-count m.from_left a,
        permutation-count m.from_right a,
        pairwise-count m.pairs (λ b i. f b (permutation-member m.from_left b i))
            (λ b i. g b (permutation-member m.from_right b i)) a,
      )

  exchange-of : {ms ns : List Term} (zs zs' xs ys : List Term) → Permutation ms (zs ++ xs) →
      Permutation ns (zs' ++ ys) → Formed σ zs → Formed σ zs' → Pairwise σ zs zs' →
      CoversList (like_formed σ) (greater_formed σ) xs ys → multiset_greater (like_formed σ) (greater_formed σ) ms ns ≡ true
  exchange-of {ms} {ns} zs zs' xs ys p q f g d c =
      (multiset_greater-exchange (like_formed σ) E (greater_formed σ) O ms ns).1 (record {
        common = zs;
        left = xs;
        right = ys;
        from_left = λ a. permutation-count p a ∙ count-append (like_formed σ) a zs xs;
        from_right = λ a. omega (
          arith,
          permutation-count q a,
          count-append (like_formed σ) a zs' ys,
          pairwise-count d f g a,
        );
        covers = c;
      })

  -- ---- the lists of the article's case 3 are those of the marks 4 to 6

  module _ (f : ℕ) (ss ts : Terms) (v : WellFormed σ (app f ss)) (w : WellFormed σ (app f ts)) where
    abbrev S : List Term
    S = flattenings f ss

    abbrev T : List Term
    T = flattenings f ts

    in-S : Formed σ S
    in-S = flattenings-formed σ ss f v.2

    in-T : Formed σ T
    in-T = flattenings-formed σ ts f w.2

    joined_same : not_below_joined σ f S T ≡ joined_high σ (like_formed σ) f S T
    joined_same =
        ap (λ (l : List Term). l ++ (cancel (is_equivalent σ) (variables S) (variables T)).right)
        (not_below-high σ A f ts w)
        ∙ joined_high-agree σ (WellFormed σ) (WellFormed σ) (is_equivalent σ) (like_formed σ) (like-formed σ) f S T in-S
        in-T

    left-formed : Formed σ (not_below σ f S)
    left-formed = rw (not_below-high σ A f ss v) (each-choose (root_above σ f) S in-S)

    right-formed : Formed σ (not_below_joined σ f S T)
    right-formed = rw joined_same (each-joined σ (like_formed σ) f S T in-T)

    level-of : MultisetEquivalent σ (not_below σ f S) (not_below_joined σ f S T) →
        high_equal σ (like_formed σ) f S T ≡ true
    level-of e = rw (not_below-high σ A f ss v, joined_same) at (equal_of left-formed right-formed e)

    high-of : multiset_greater (like_formed σ) (greater_formed σ) (not_below σ f S) (not_below_joined σ f S T) ≡ true →
        high_greater σ (like_formed σ) (greater_formed σ) f S T ≡ true
    high-of e = rw (not_below-high σ A f ss v, joined_same) at e

  by-root : {s t : Term} → WellFormed σ s → WellFormed σ t → Even σ s t →
      RootDecreases σ (like_formed σ) (greater_formed σ) s t → is_greater σ s t ≡ true
  by-root {s} {t} v w o r =
      (formed-view σ s t v w).1 (by_root (record { none = λ x k. o.variables x; weights = sym o.weights }) r)

  -- ---- the order

  mutual
    pub Greater→is_greater : {s t : Term} → Greater σ s t → WellFormed σ s → WellFormed σ t → is_greater σ s t ≡ true
    Greater→is_greater (heavier {s} {t} o h) v w = (is_greater-view σ s t).1 (by_weight (λ x k. o x) h)
    Greater→is_greater (case0 {f} {x} o i) v w =
        by-root v w o (root-of-iterated σ (like_formed σ) (greater_formed σ) i (Iterated→is_power f x i))
    Greater→is_greater (case1 o h) v w = by-root v w o (by_precedence h)
    Greater→is_greater (case2 {ss} {ts} o c l) v w =
        by-root v w o (by_row c (LexGreater→row_greater l (λ a. row-each (formed σ) a ss v.2)
        (λ a. row-each (formed σ) a ts w.2)))
    Greater→is_greater (case3a {f} {ss} {ts} o c m) v w =
        by-root v w o (by_flattening c (by_high (high-of f ss ts v w (MultisetGreater→multiset_greater m
        (left-formed f ss ts v w) (right-formed f ss ts v w)))))
    Greater→is_greater (case3b {f} {ss} {ts} o c e h) v w =
        by-root v w o (by_flattening c (by_length (level-of f ss ts v w e) h))
    Greater→is_greater (case3c {f} {ss} {ts} o c e h m) v w =
        by-root v w o (by_flattening c (by_low (level-of f ss ts v w e) (sym h) (MultisetGreater→multiset_greater m
        (each-choose (root_below σ f) (flattenings f ss) (in-S f ss ts v w))
        (each-choose (root_below σ f) (flattenings f ts) (in-T f ss ts v w)))))

    LexGreater→row_greater : {ss ts : List Term} → LexGreater σ ss ts → Formed σ ss → Formed σ ts →
        row_greater (like_formed σ) (greater_formed σ) ss ts ≡ true
    LexGreater→row_greater (ahead {s} {t} {ss} {ts} d) f g =
        let v = f s (Memᴰ.head refl) in
        let w = g t (Memᴰ.head refl) in
        first-row (like_formed σ) E (greater_formed σ) O ss ts
        (first-ahead ((greater_formed-view σ s t).1 (v, w, Greater→is_greater d v w)))
    LexGreater→row_greater (level {s} {t} {ss} {ts} d l) f g =
        first-row (like_formed σ) E (greater_formed σ) O ss ts
        (first-level (like-of s t d (f s (Memᴰ.head refl)) (g t (Memᴰ.head refl)))
        (LexGreater→row_greater l (λ a m. f a (Memᴰ.tail m)) (λ a m. g a (Memᴰ.tail m))))

    MultisetGreater→multiset_greater : {ms ns : List Term} → MultisetGreater σ ms ns → Formed σ ms → Formed σ ns →
        multiset_greater (like_formed σ) (greater_formed σ) ms ns ≡ true
    MultisetGreater→multiset_greater (extend zs zs' x xs ys p q d c) f g =
        exchange-of zs zs' (x ∷ xs) ys p q (λ a m. f a (permutation-member p a (Memᴰ.append_left (x ∷ xs) m)))
        (λ a m. g a (permutation-member q a (Memᴰ.append_left ys m))) d (record {
          top = (x, count-here (like_formed σ) E x xs);
          over = λ t h. Covered→covers c (λ a m. f a (permutation-member p a (Memᴰ.append_right zs m)))
              (λ a m. g a (permutation-member q a (Memᴰ.append_right zs' m))) t h;
        })

    Covered→covers : {xs ys : List Term} → Covered σ xs ys → Formed σ xs → Formed σ ys → (t : Term) → 0 < C t ys →
        (s : Term) × (0 < C s xs) × (greater_formed σ s t ≡ true)
    Covered→covers nothing f g t h = absurd (omega arith)
    Covered→covers (another {y} x m d c) f g t h =
        let v = f x m in
        let w = g y (Memᴰ.head refl) in
        by_test (like_formed σ t y)
        (λ e. (
          x,
          member→count (like_formed σ) E m,
          O.respects (E.reflexive x) (E.symmetric e) ((greater_formed-view σ x y).1 (v, w, Greater→is_greater d v w)),
        ))
        λ e. Covered→covers c f (λ b n. g b (Memᴰ.tail n)) t (omega (arith, ap bit e))
