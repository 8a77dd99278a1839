-- A list sorted by an order, and the ways to split a list in two.
-- Renders: 02, request 14: "smallest first".
use mathlib.Core.List.{List, [], ◌∷◌, flat_map, Memᴰ}
use Rattle.std.specs.Prelude.{◌≡◌, Bool, false, cond}
use Rattle.multisets.specs.Multiset.{Rest}

module _ {A : Type 0} where
  module _ (greater : A → A → Bool) where
    -- Before the first element that a is not greater than.
    abbrev pub insert : A → List A → List A
    insert a [] = a ∷ []
    insert a (b ∷ l) = cond (greater a b) (b ∷ insert a l) (a ∷ (b ∷ l))

    -- Smallest first.
    unfoldable pub sorted : List A → List A
    sorted [] = []
    sorted (a ∷ l) = insert a (sorted l)

    -- No element is greater than a later one.
    abbrev pub Ascending : List A → Type 0
    Ascending [] = Unit {0}
    Ascending (a ∷ l) = ((b : A) → Memᴰ b l → greater a b ≡ false) × Ascending l

  abbrev pub on_either : A → Rest A → List (Rest A)
  on_either a r =
      record { left = a ∷ r.left; right = r.right } ∷ (record { left = r.left; right = a ∷ r.right } ∷ [])

  -- All ways to put each element of a list to the left or to the right.
  unfoldable pub splits : List A → List (Rest A)
  splits [] = record { left = []; right = [] } ∷ []
  splits (a ∷ l) = flat_map (on_either a) (splits l)

  -- Each element of the first list stands in the second or in the third.
  pub data Parted : List A → List A → List A → Type 0 where
    parted : Parted [] [] []
    on_left : {a : A} {l m n : List A} → Parted l m n → Parted (a ∷ l) (a ∷ m) n
    on_right : {a : A} {l m n : List A} → Parted l m n → Parted (a ∷ l) m (a ∷ n)
