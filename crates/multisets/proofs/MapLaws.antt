-- The functions of multisets and rows after a map of the elements: each asks its tests of the elements' images.
--     choose-map, cancel-map                 what is chosen, what is left
--     multiset_equal-map, row_equal-map        likeness
--     multiset_greater-map, row_greater-map    the order
use mathlib.Core.List.{List, [], ◌∷◌, map}
use mathlib.Core.Path.{◌≡◌, refl, ap, ap₂, ◌∙◌}
use mathlib.Core.Bool.{Bool, cond, ◌&&◌, ◌||◌, not}
use Rattle.multisets.specs.Multiset.{Removal, Rest, keep, remove, choose, some, every, is_empty, spend, covers, cancel}
use Rattle.multisets.specs.Multiset.{multiset_equal, multiset_greater, row_equal, row_greater}
use Rattle.multisets.specs.Multiset.Removal.{without, absent}
use Rattle.multisets.proofs.Relations.{by_test}

module _ {A B : Type 0} (m : A → B) where
  -- A test of the images.
  abbrev pub along : (B → B → Bool) → A → A → Bool
  along test a b = test (m a) (m b)

  pub choose-map : (p : B → Bool) (q : A → Bool) → ((a : A) → p (m a) ≡ q a) → (l : List A) →
      choose p (map m l) ≡ map m (choose q l)
  choose-map p q h [] = refl
  choose-map p q h (a ∷ l) =
      rw (h a) (by_test (q a) (λ e. rw e (ap (◌∷◌ (m a)) (choose-map p q h l))) λ e. rw e (choose-map p q h l))

  is_empty-map : (l : List A) → is_empty (map m l) ≡ is_empty l
  is_empty-map [] = refl
  is_empty-map (a ∷ l) = refl

  some-map : (p : B → Bool) (l : List A) → some p (map m l) ≡ some (λ (a : A). p (m a)) l
  some-map p [] = refl
  some-map p (a ∷ l) = ap (◌||◌ (p (m a))) (some-map p l)

  covers-map : (greater : B → B → Bool) (xs ys : List A) →
      covers greater (map m xs) (map m ys) ≡ covers (along greater) xs ys
  covers-map greater xs ys = rw (is_empty-map xs) (ap (◌&&◌ (not (is_empty xs))) (go ys))
    where
      go : (ys : List A) → every (λ (t : B). some (λ (s : B). greater s t) (map m xs)) (map m ys) ≡
          every (λ (t : A). some (λ (s : A). greater (m s) (m t)) xs) ys
      go [] = refl
      go (y ∷ ys) = ap₂ ◌&&◌ (some-map (λ (s : B). greater s (m y)) xs) (go ys)

  -- ---- what is left

  abbrev removal_map : Removal A → Removal B
  removal_map (without l) = without (map m l)
  removal_map absent = absent

  abbrev rest_map : Rest A → Rest B
  rest_map r = record { left = map m r.left; right = map m r.right }

  keep-map : (a : A) (r : Removal A) → keep (m a) (removal_map r) ≡ removal_map (keep a r)
  keep-map a (without l) = refl
  keep-map a absent = refl

  remove-map : (p : B → Bool) (l : List A) → remove p (map m l) ≡ removal_map (remove (λ (a : A). p (m a)) l)
  remove-map p [] = refl
  remove-map p (a ∷ l) =
      by_test (p (m a)) (λ e. rw e) λ e. rw e (ap (keep (m a)) (remove-map p l) ∙ keep-map a (remove _ l))

  pub cancel-map : (like : B → B → Bool) (ss ts : List A) →
      cancel like (map m ss) (map m ts) ≡ rest_map (cancel (along like) ss ts)
  cancel-map like [] ts = refl
  cancel-map like (s ∷ ss) ts =
      ap (spend (m s) (cancel like (map m ss)) (map m ts)) (remove-map (like (m s)) ts)
      ∙ go (remove (along like s) ts) (cancel-map like ss)
    where
      go : (r : Removal A) →
          ((us : List A) → cancel like (map m ss) (map m us) ≡ rest_map (cancel (along like) ss us)) →
          spend (m s) (cancel like (map m ss)) (map m ts) (removal_map r) ≡
          rest_map (spend s (cancel (along like) ss) ts r)
      go (without us) ih = ih us
      go absent ih = rw (ih ts)

  -- ---- the extensions

  module _ (like : B → B → Bool) where
    pub multiset_equal-map : (ss ts : List A) →
        multiset_equal like (map m ss) (map m ts) ≡ multiset_equal (along like) ss ts
    unfolding multiset_equal
    multiset_equal-map ss ts =
        let r = cancel (along like) ss ts in
        ap (λ (r : Rest B). is_empty r.left && is_empty r.right) (cancel-map like ss ts)
        ∙ ap₂ ◌&&◌ (is_empty-map r.left) (is_empty-map r.right)

    pub row_equal-map : (ss ts : List A) → row_equal like (map m ss) (map m ts) ≡ row_equal (along like) ss ts
    unfolding row_equal
    row_equal-map [] [] = refl
    row_equal-map [] (t ∷ ts) = refl
    row_equal-map (s ∷ ss) [] = refl
    row_equal-map (s ∷ ss) (t ∷ ts) = ap (◌&&◌ (like (m s) (m t))) (row_equal-map ss ts)

    module _ (greater : B → B → Bool) where
      pub multiset_greater-map : (ss ts : List A) →
          multiset_greater like greater (map m ss) (map m ts) ≡ multiset_greater (along like) (along greater) ss ts
      unfolding multiset_greater
      multiset_greater-map ss ts =
          let r = cancel (along like) ss ts in
          ap (λ (r : Rest B). covers greater r.left r.right) (cancel-map like ss ts)
          ∙ covers-map greater r.left r.right

      pub row_greater-map : (ss ts : List A) →
          row_greater like greater (map m ss) (map m ts) ≡ row_greater (along like) (along greater) ss ts
      unfolding row_greater
      row_greater-map [] ts = refl
      row_greater-map (s ∷ ss) [] = refl
      row_greater-map (s ∷ ss) (t ∷ ts) =
          ap (λ (b : Bool). cond (like (m s) (m t)) b (greater (m s) (m t))) (row_greater-map ss ts)
