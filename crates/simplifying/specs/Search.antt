-- The rules that a search for the results of one step tries.
-- Renders: 02, request 14: "all results of one step, AC regrouping allowed".
use mathlib.Core.List.{Memᴰ}
use Rattle.std.specs.Prelude.{◌≡◌, true, ℕ}
use Rattle.terms.specs.Signature.{symbol_of}
use Rattle.terms.specs.Term.{Term, Terms, variable_count}
use Rattle.terms.specs.Term.Term.{app}
use Rattle.terms.specs.Rewriting.{Rule, System, Context, fill, substitute}
use Rattle.simplifying.specs.Matching.{Bindings, unbound, matches}
use Rattle.simplifying.specs.Reducts.{substitution_or}
use Rattle.simplifying.specs.Places.{extended}

module _ (R : System) where
  -- Each rule as it is, and, where its left side has an AC root, beside a rest, for which the number after the last
  -- variable stands.
  pub data Tried : Rule → Type 0 where
    as_it_is : {r : Rule} → Memᴰ r R.rules → Tried r
    beside_rest : {r : Rule} {f : ℕ} {ls : Terms} → Memᴰ r R.rules → r.left ≡ app f ls →
        (symbol_of R.signature f).ac ≡ true → Tried (extended f variable_count r)

  -- What holds of the results of a rule at an open place.
  abbrev pub Searched : (Term → Type 0) → Context → Term → Rule → Type 0
  Searched P c t r =
      (b : Bindings) → Memᴰ b (matches R.signature r.left t unbound) →
      P (fill c (substitute (substitution_or t b) r.right))
