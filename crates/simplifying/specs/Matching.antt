-- Matching a pattern against a term modulo AC.
-- Renders: 02, request 14: "Of all results of one step, AC regrouping allowed": 01's substitutions, as they are found.
use mathlib.Core.List.{List, [], ◌∷◌, flat_map}
use Rattle.std.specs.Prelude.{cond, ℕ, eqb}
use Rattle.multisets.specs.Multiset.{Rest}
use Rattle.multisets.specs.Sorting.{splits}
use Rattle.terms.specs.Signature.{Signature, symbol_of}
use Rattle.terms.specs.Term.{Term, Terms, flattenings}
use Rattle.terms.specs.Term.Term.{var, app}
use Rattle.terms.specs.Term.Terms.{nil, cons}
use Rattle.terms.specs.Equivalence.{pair, Equivalent, is_equivalent}
use Rattle.terms.specs.Bunch.{Bunch, bunch_of}
use Rattle.terms.specs.Bunch.Bunch.{empty, full}
use Rattle.terms.specs.Rewriting.{Substitution}

-- What a variable is bound to so far.
pub data Binding : Type 0 where
  free : Binding
  bound : Term → Binding

abbrev pub Bindings : Type 0
Bindings = ℕ → Binding

abbrev pub unbound : Bindings
unbound x = free

abbrev pub bind_to : ℕ → Term → Bindings → Bindings
bind_to x t b y = cond (eqb x y) (bound t) (b y)

-- Two arguments, where neither bunch is empty.
abbrev pub pairs : Bunch → Bunch → List Terms
pairs empty b = []
pairs (full s) empty = []
pairs (full s) (full t) = pair s t ∷ []

-- The ways to part the flattening of f's arguments in two, each part joined.
unfoldable pub regroupings : ℕ → Terms → List Terms
regroupings f ts =
    flat_map (λ (r : Rest Term). pairs (bunch_of f r.left) (bunch_of f r.right)) (splits (flattenings f ts))

module _ (σ : Signature) where
  -- The arguments with which t, up to AC-equivalence, is f of those arguments.
  unfoldable pub groupings : ℕ → Term → List Terms
  groupings f (var x) = []
  groupings f (app g ts) = cond (eqb f g) (cond (symbol_of σ f).ac (regroupings f ts) (ts ∷ [])) []

  -- What the variables are bound to is, up to AC-equivalence, what the substitution puts for them.
  abbrev pub AgreesAt : Binding → Term → Type 0
  AgreesAt free t = Unit {0}
  AgreesAt (bound u) t = Equivalent σ u t

  abbrev pub Agrees : Bindings → Substitution → Type 0
  Agrees b τ = (x : ℕ) → AgreesAt (b x) (τ x)

  -- A variable is bound, or what it is bound to is compared.
  abbrev pub bind : ℕ → Term → Bindings → Binding → List Bindings
  bind x t b free = bind_to x t b ∷ []
  bind x t b (bound u) = cond (is_equivalent σ u t) (b ∷ []) []

  -- The bindings, beyond the given ones, under which the pattern is AC-equivalent to the term.
  unfoldable mutual
    pub matches : Term → Term → Bindings → List Bindings
    matches (var x) t b = bind x t b (b x)
    matches (app f ps) t b = flat_map (λ (ts : Terms). matches_in ps ts b) (groupings f t)

    pub matches_in : Terms → Terms → Bindings → List Bindings
    matches_in nil nil b = b ∷ []
    matches_in nil (cons t ts) b = []
    matches_in (cons p ps) nil b = []
    matches_in (cons p ps) (cons t ts) b = flat_map (λ (c : Bindings). matches_in ps ts c) (matches p t b)
