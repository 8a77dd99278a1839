-- Sums of some elements of a list, as terms and as words, and what a search along a pattern is to cover.
use mathlib.Core.List.{List, [], ◌∷◌, ◌++◌, Memᴰ}
use Rattle.std.specs.Prelude.{ℕ}
use Rattle.terms.specs.Signature.{Signature}
use Rattle.terms.specs.Term.{Term}
use Rattle.terms.specs.Term.Term.{var}
use Rattle.terms.specs.Bunch.{bunch_of}
use Rattle.simplifying.specs.Canonical.{term_or}
use Rattle.simplifying.specs.Masks.{masked}
use Rattle.simplifying.specs.Matching.{Bindings}
use Rattle.simplifying.specs.Agenda.{Agenda, follows}

-- The terms of a list, joined under f; variable 0 where there is none.
abbrev pub sum_of : ℕ → List Term → Term
sum_of f l = term_or (var 0) (bunch_of f l)

-- The sum of the elements that a mask takes.
abbrev pub masked_sum : ℕ → ℕ → List Term → Term
masked_sum f m l = sum_of f (masked m l)

-- Its words, by those of the elements.
unfoldable pub joined_words : ℕ → List (List ℕ) → List ℕ
joined_words f [] = []
joined_words f (v ∷ []) = v
joined_words f (v ∷ (w ∷ l)) = f ∷ (v ++ joined_words f (w ∷ l))

-- What holds of all that is bound at the end of some words of a pattern.
abbrev pub Covers : Signature → (Bindings → Type 0) → List ℕ → Agenda → Type 0
Covers σ P ws a = (d : Agenda) → Memᴰ d (follows σ ws a) → P d.bindings
