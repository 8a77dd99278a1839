-- The extensions ask their tests only of an element of the one list and an element of the other: tests that agree there
-- give the same.
use mathlib.Core.List.{List, [], ◌∷◌, Memᴰ}
use mathlib.Core.Path.{◌≡◌, refl, ap, ap₂, ◌∙◌}
use mathlib.Core.Bool.{Bool, cond, ◌&&◌, ◌||◌, not}
use Rattle.multisets.specs.Multiset.{Removal, Rest, keep, remove, some, every, is_empty, spend, covers, cancel}
use Rattle.multisets.specs.Multiset.{multiset_equal, multiset_greater, row_equal, row_greater}
use Rattle.multisets.specs.Multiset.Removal.{without, absent}
use Rattle.multisets.proofs.MultisetLaws.{Found, takes-within, remove-found}

module _ {A : Type 0} where
  abbrev AgreeOn : List A → (A → Bool) → (A → Bool) → Type 0
  AgreeOn l p q = (a : A) → Memᴰ a l → p a ≡ q a

  abbrev pub Agree : List A → List A → (A → A → Bool) → (A → A → Bool) → Type 0
  Agree l m f g = (a b : A) → Memᴰ a l → Memᴰ b m → f a b ≡ g a b

  some-agree : {p q : A → Bool} (l : List A) → AgreeOn l p q → some p l ≡ some q l
  some-agree [] h = refl
  some-agree (a ∷ l) h = ap₂ ◌||◌ (h a (Memᴰ.head refl)) (some-agree l λ b m. h b (Memᴰ.tail m))

  every-agree : {p q : A → Bool} (l : List A) → AgreeOn l p q → every p l ≡ every q l
  every-agree [] h = refl
  every-agree (a ∷ l) h = ap₂ ◌&&◌ (h a (Memᴰ.head refl)) (every-agree l λ b m. h b (Memᴰ.tail m))

  remove-agree : {p q : A → Bool} (l : List A) → AgreeOn l p q → remove p l ≡ remove q l
  remove-agree [] h = refl
  remove-agree (a ∷ l) h =
      ap₂ (λ (b : Bool) (r : Removal A). cond b (without l) (keep a r)) (h a (Memᴰ.head refl))
      (remove-agree l λ b m. h b (Memᴰ.tail m))

  -- What is left comes from the lists.
  pub record Leaves (ss ts : List A) (r : Rest A) : Type 0 where
    pub left : (a : A) → Memᴰ a r.left → Memᴰ a ss
    pub right : (a : A) → Memᴰ a r.right → Memᴰ a ts

  pub cancel-leaves : (like : A → A → Bool) (ss ts : List A) → Leaves ss ts (cancel like ss ts)
  cancel-leaves like [] ts = record { left = λ a m. m; right = λ a m. m }
  cancel-leaves like (s ∷ ss) ts = go (remove (like s) ts) (remove-found (like s) ts) (cancel-leaves like ss)
    where
      skip : {b : A} {l : List A} → Memᴰ b (s ∷ l) → (Memᴰ b l → Memᴰ b ss) → Memᴰ b (s ∷ ss)
      skip (Memᴰ.head e) h = Memᴰ.head e
      skip (Memᴰ.tail m) h = Memᴰ.tail (h m)

      go : (r : Removal A) → Found (like s) ts r → ((us : List A) → Leaves ss us (cancel like ss us)) →
          Leaves (s ∷ ss) ts (spend s (cancel like ss) ts r)
      go (without us) (a, h, x) ih =
          record { left = λ b m. Memᴰ.tail ((ih us).left b m); right = λ b m. takes-within x ((ih us).right b m) }
      go absent h ih = record { left = λ b m. skip m ((ih ts).left b); right = (ih ts).right }

  module _ (like like' : A → A → Bool) where
    pub cancel-agree : (ss ts : List A) → Agree ss ts like like' → cancel like ss ts ≡ cancel like' ss ts
    cancel-agree [] ts h = refl
    cancel-agree (s ∷ ss) ts h =
        ap (spend s (cancel like ss) ts) (remove-agree {q = like' s} ts λ b m. h s b (Memᴰ.head refl) m)
        ∙ go (remove (like' s) ts) (remove-found (like' s) ts) λ us k. cancel-agree ss us
        λ a b m n. h a b (Memᴰ.tail m) (k b n)
      where
        go : (r : Removal A) → Found (like' s) ts r →
            ((us : List A) → ((b : A) → Memᴰ b us → Memᴰ b ts) → cancel like ss us ≡ cancel like' ss us) →
            spend s (cancel like ss) ts r ≡ spend s (cancel like' ss) ts r
        go (without us) (a, h, x) ih = ih us λ b m. takes-within x m
        go absent h ih = rw (ih ts λ b m. m)

    pub multiset_equal-agree : (ss ts : List A) → Agree ss ts like like' →
        multiset_equal like ss ts ≡ multiset_equal like' ss ts
    unfolding multiset_equal
    multiset_equal-agree ss ts h = ap (λ (r : Rest A). is_empty r.left && is_empty r.right) (cancel-agree ss ts h)

    pub row_equal-agree : (ss ts : List A) → Agree ss ts like like' → row_equal like ss ts ≡ row_equal like' ss ts
    unfolding row_equal
    row_equal-agree [] [] h = refl
    row_equal-agree [] (t ∷ ts) h = refl
    row_equal-agree (s ∷ ss) [] h = refl
    row_equal-agree (s ∷ ss) (t ∷ ts) h =
        ap₂ ◌&&◌ (h s t (Memᴰ.head refl) (Memᴰ.head refl))
        (row_equal-agree ss ts λ a b m n. h a b (Memᴰ.tail m) (Memᴰ.tail n))

    module _ (greater greater' : A → A → Bool) where
      pub multiset_greater-agree : (ss ts : List A) → Agree ss ts like like' → Agree ss ts greater greater' →
          multiset_greater like greater ss ts ≡ multiset_greater like' greater' ss ts
      unfolding multiset_greater
      multiset_greater-agree ss ts h k =
          let r = cancel like ss ts in
          let leaves = cancel-leaves like ss ts in
          ap (λ (b : Bool). not (is_empty r.left) && b)
          (every-agree r.right λ t m. some-agree r.left λ s n. k s t (leaves.left s n) (leaves.right t m))
          ∙ ap (λ (r : Rest A). covers greater' r.left r.right) (cancel-agree ss ts h)

      pub row_greater-agree : (ss ts : List A) → Agree ss ts like like' → Agree ss ts greater greater' →
          row_greater like greater ss ts ≡ row_greater like' greater' ss ts
      unfolding row_greater
      row_greater-agree [] ts h k = refl
      row_greater-agree (s ∷ ss) [] h k = refl
      row_greater-agree (s ∷ ss) (t ∷ ts) h k =
          rw (
            h s t (Memᴰ.head refl) (Memᴰ.head refl),
            k s t (Memᴰ.head refl) (Memᴰ.head refl),
            row_greater-agree ss ts (λ a b m n. h a b (Memᴰ.tail m) (Memᴰ.tail n))
                (λ a b m n. k a b (Memᴰ.tail m) (Memᴰ.tail n)),
          )
