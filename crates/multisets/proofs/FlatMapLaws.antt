-- Lists that are mapped and joined.
--     flat_map-member, member-flat_map                           what stands in them
--     flat_map-one, flat_map-map, map-flat_map, flat_map-flat_map   one after another
--     flat_map-agree                                            maps that agree on the elements
use mathlib.Core.List.Memᴰ
use mathlib.Core.List.{List, [], ◌∷◌, ◌++◌, map, flat_map, Memᴰ}
use mathlib.Core.Logic.{⊎_elim}
use mathlib.Core.Path.{◌≡◌, refl, ap, ap₂, ◌∙◌}
use Rattle.multisets.proofs.MultisetMaps.{flat_map-append}

module _ {A B : Type 0} (f : A → List B) where
  pub flat_map-member : (l : List A) {b : B} → Memᴰ b (flat_map f l) → (a : A) × Memᴰ a l × Memᴰ b (f a)
  unfolding flat_map
  flat_map-member [] m = absurd (Memᴰ.not-nil m)
  flat_map-member (a ∷ l) m =
      ⊎_elim (λ i. (a, Memᴰ.head refl, i))
      (λ i. let (c, j, k) = flat_map-member l i in (c, Memᴰ.tail j, k)) (Memᴰ.append_cases (f a) m)

  pub member-flat_map : {a : A} {l : List A} {b : B} → Memᴰ a l → Memᴰ b (f a) → Memᴰ b (flat_map f l)
  unfolding flat_map
  member-flat_map (Memᴰ.head {xs = l} e) i = Memᴰ.append_left (flat_map f l) (rw e at i)
  member-flat_map (Memᴰ.tail {x = c} m) i = Memᴰ.append_right (f c) (member-flat_map m i)

  pub flat_map-agree : (g : A → List B) (l : List A) → ((a : A) → Memᴰ a l → f a ≡ g a) → flat_map f l ≡ flat_map g l
  unfolding flat_map
  flat_map-agree g [] h = refl
  flat_map-agree g (a ∷ l) h =
      ap₂ ◌++◌ (h a (Memᴰ.head refl)) (flat_map-agree g l λ b m. h b (Memᴰ.tail m))

pub flat_map-one : {A : Type 0} (l : List A) → flat_map (λ (a : A). a ∷ []) l ≡ l
unfolding flat_map
flat_map-one [] = refl
flat_map-one (a ∷ l) = ap (◌∷◌ a) (flat_map-one l)

map-append : {A B : Type 0} (f : A → B) (l m : List A) → map f (l ++ m) ≡ map f l ++ map f m
map-append f [] m = refl
map-append f (a ∷ l) m = ap (◌∷◌ (f a)) (map-append f l m)

module _ {A B C : Type 0} where
  pub flat_map-map : (f : B → List C) (g : A → B) (l : List A) → flat_map f (map g l) ≡ flat_map (λ (a : A). f (g a)) l
  unfolding flat_map
  flat_map-map f g [] = refl
  flat_map-map f g (a ∷ l) = ap (◌++◌ (f (g a))) (flat_map-map f g l)

  pub map-flat_map : (f : B → C) (g : A → List B) (l : List A) →
      map f (flat_map g l) ≡ flat_map (λ (a : A). map f (g a)) l
  unfolding flat_map
  map-flat_map f g [] = refl
  map-flat_map f g (a ∷ l) = map-append f (g a) (flat_map g l) ∙ ap (◌++◌ (map f (g a))) (map-flat_map f g l)

  pub flat_map-flat_map : (f : B → List C) (g : A → List B) (l : List A) →
      flat_map f (flat_map g l) ≡ flat_map (λ (a : A). flat_map f (g a)) l
  unfolding flat_map
  flat_map-flat_map f g [] = refl
  flat_map-flat_map f g (a ∷ l) =
      flat_map-append f (g a) (flat_map g l) ∙ ap (◌++◌ (flat_map f (g a))) (flat_map-flat_map f g l)
