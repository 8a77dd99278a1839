-- The canonical form of a term.
-- Renders: 02, request 14: "Write AC arguments grouped to the right, smallest first."
use Rattle.std.specs.Prelude.{[], ◌∷◌, ◌≡◌, true, cond, ℕ}
use Rattle.multisets.specs.Sorting.{sorted, Ascending}
use Rattle.terms.specs.Signature.{Signature, symbol_of}
use Rattle.terms.specs.Term.{Term, Terms, flattening, flattenings}
use Rattle.terms.specs.Term.Term.{var, app}
use Rattle.terms.specs.Term.Terms.{nil, cons}
use Rattle.terms.specs.Bunch.{Bunch, bunch_of}
use Rattle.terms.specs.Bunch.Bunch.{empty, full}
use Rattle.terms.specs.Order.{is_greater}

abbrev pub term_or : Term → Bunch → Term
term_or t empty = t
term_or t (full u) = u

-- The first argument has another root than f.
abbrev pub GroupedRight : ℕ → Terms → Type 0
GroupedRight f nil = Unit {0}
GroupedRight f (cons t ts) = flattening f t ≡ t ∷ []

module _ (σ : Signature) where
  -- Of a symbol over arguments: where it is AC, over its flattening, smallest first and grouped to the right.
  unfoldable pub arranged : ℕ → Terms → Term
  arranged f ts =
      cond (symbol_of σ f).ac (term_or (app f ts) (bunch_of f (sorted (is_greater σ) (flattenings f ts)))) (app f ts)

  -- The arguments first.
  abbrev mutual
    pub canonical : Term → Term
    canonical (var x) = var x
    canonical (app f ts) = arranged f (canonicals ts)

    pub canonicals : Terms → Terms
    canonicals nil = nil
    canonicals (cons t ts) = cons (canonical t) (canonicals ts)

  -- What a canonical form is: AC symbols' arguments are grouped to the right, smallest first, at every depth.
  abbrev mutual
    pub Arranged : Term → Type 0
    Arranged (var x) = Unit {0}
    Arranged (app f ts) =
        ((symbol_of σ f).ac ≡ true → GroupedRight f ts × Ascending (is_greater σ) (flattenings f ts)) × ArrangedIn ts

    pub ArrangedIn : Terms → Type 0
    ArrangedIn nil = Unit {0}
    ArrangedIn (cons t ts) = Arranged t × ArrangedIn ts
