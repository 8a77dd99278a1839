-- Renumbering by first use, run on node words: symbol 3, then variables 5, 2, 5 and 0.
use mathlib.Core.List.{List, [], ◌∷◌}
use mathlib.Core.Path.{◌≡◌, refl}
use mathlib.Core.Bool.{true, false}
use Prim.Native.Nat.{ℕ}
use Rattle.terms.specs.FirstUse.{in_order_from, in_order, see, see_all, first_uses, place_in, rename_word, renumbered}

abbrev mixed : List ℕ
mixed = 3 ∷ (261 ∷ (258 ∷ (261 ∷ (256 ∷ []))))

mixed-uses : first_uses mixed ≡ 5 ∷ (2 ∷ (0 ∷ []))
unfolding see_all see
mixed-uses = refl

mixed-renumbered : renumbered mixed ≡ 3 ∷ (256 ∷ (257 ∷ (256 ∷ (258 ∷ []))))
unfolding see_all see place_in rename_word
mixed-renumbered = refl

in_order-mixed : (in_order mixed ≡ false) × (in_order (renumbered mixed) ≡ true)
unfolding in_order_from see_all see place_in rename_word
in_order-mixed = (refl, refl)

-- The second variable skips number 1.
skipped : in_order (256 ∷ (258 ∷ [])) ≡ false
unfolding in_order_from
skipped = refl
