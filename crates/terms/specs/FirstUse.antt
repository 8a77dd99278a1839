-- Variables in order of first use: the test of a rule's node words, and the renumbering that makes them pass it.
-- Renders: 02, order 4: "within a rule a variable's first appearance, left side first, must take the lowest unused
-- number" and "a converter, which renumbers". A rule's node words are those of its left side, then of its right.
use mathlib.Core.List.{List, [], ◌∷◌, ◌++◌, map, Memᴰ}
use Rattle.std.specs.Prelude.{◌≡◌, Bool, true, cond, ◌&&◌, ◌||◌, ℕ, suc, ◌+◌, ◌-◌, eqb, ltb, leb}
use Rattle.multisets.specs.Multiset.{some}
use Rattle.terms.specs.Words.{first_variable, words}
use Rattle.terms.specs.Rewriting.{Rule}
use Rattle.terms.specs.Renaming.{rename}

-- The lowest unused number, after a node word that takes it or not.
abbrev pub unused_after : ℕ → ℕ → ℕ
unused_after n w = cond (eqb w (first_variable + n)) (suc n) n

-- The same after several.
abbrev pub unused_after_all : ℕ → List ℕ → ℕ
unused_after_all n [] = n
unused_after_all n (w ∷ ws) = unused_after_all (unused_after n w) ws

-- No variable is out of turn, where n is the lowest unused number.
unfoldable pub in_order_from : ℕ → List ℕ → Bool
in_order_from n [] = true
in_order_from n (w ∷ ws) = leb w (first_variable + n) && in_order_from (unused_after n w) ws

abbrev pub in_order : List ℕ → Bool
in_order = in_order_from 0

-- The variables seen, and that of one more node word where it is new.
unfoldable pub see : List ℕ → ℕ → List ℕ
see seen w =
    cond (ltb w first_variable || some (eqb (w - first_variable)) seen) seen (seen ++ ((w - first_variable) ∷ []))

unfoldable pub see_all : List ℕ → List ℕ → List ℕ
see_all seen [] = seen
see_all seen (w ∷ ws) = see_all (see seen w) ws

-- The variables of the node words, each once, in order of first appearance.
abbrev pub first_uses : List ℕ → List ℕ
first_uses = see_all []

-- The place of a number in a list; past the end where it is not there.
unfoldable pub place_in : List ℕ → ℕ → ℕ
place_in [] x = 0
place_in (y ∷ l) x = cond (eqb x y) 0 (suc (place_in l x))

-- A node word under its variable's new number; a symbol's is unchanged.
unfoldable pub rename_word : (ℕ → ℕ) → ℕ → ℕ
rename_word ρ w = cond (ltb w first_variable) w (first_variable + ρ (w - first_variable))

-- A rule's node words, its variables renumbered by first use.
abbrev pub renumbered : List ℕ → List ℕ
renumbered ws = map (rename_word (place_in (first_uses ws))) ws

-- Different variables of the node words get different numbers.
abbrev pub OneToOneOnWords : (ℕ → ℕ) → List ℕ → Type 0
OneToOneOnWords ρ ws =
    (x y : ℕ) → Memᴰ (first_variable + x) ws → Memᴰ (first_variable + y) ws → ρ x ≡ ρ y → x ≡ y

-- The same of a rule's terms.
abbrev pub rename_rule : (ℕ → ℕ) → Rule → Rule
rename_rule ρ r = record { left = rename ρ r.left; right = rename ρ r.right }

abbrev pub rule_words : Rule → List ℕ
rule_words r = words r.left ++ words r.right

abbrev pub renumbered_rule : Rule → Rule
renumbered_rule r = rename_rule (place_in (first_uses (rule_words r))) r
