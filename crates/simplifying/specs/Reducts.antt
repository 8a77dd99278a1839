-- The results of one step from an expression.
-- Renders: 02, request 14: "all results of one step, AC regrouping allowed".
use mathlib.Core.List.{List, [], ◌++◌, map, flat_map}
use Rattle.std.specs.Prelude.{cond, ℕ}
use Rattle.terms.specs.Signature.{symbol_of}
use Rattle.terms.specs.Term.{Term, Terms}
use Rattle.terms.specs.Term.Term.{var, app}
use Rattle.terms.specs.Term.Terms.{nil, cons}
use Rattle.terms.specs.Rewriting.{Rule, System, Substitution, substitute}
use Rattle.simplifying.specs.Matching.{Binding, Bindings, unbound, regroupings, matches}
use Rattle.simplifying.specs.Matching.Binding.{free, bound}

-- What stands for a variable: what it is bound to, or else the term given.
abbrev pub image_or : Term → Binding → Term
image_or t free = t
image_or t (bound u) = u

abbrev pub substitution_or : Term → Bindings → Substitution
substitution_or t b x = image_or t (b x)

module _ (R : System) where
  abbrev pub results_by : Rule → Term → List Term
  results_by r t =
      map (λ (b : Bindings). substitute (substitution_or t b) r.right) (matches R.signature r.left t unbound)

  -- The results of the rules on the whole of a term.
  unfoldable pub results : Term → List Term
  results t = flat_map (λ (r : Rule). results_by r t) R.rules

  -- The first argument exchanged for its results.
  abbrev pub results_first : Terms → List Terms
  results_first nil = []
  results_first (cons t ts) = map (λ (u : Term). cons u ts) (results t)

  -- The results of the rules on a part of an AC symbol's flattening; the rest stays beside them.
  unfoldable pub results_beside : ℕ → Terms → List Terms
  results_beside f ts = cond (symbol_of R.signature f).ac (flat_map results_first (regroupings f ts)) []

  -- The results at the root, and of each argument.
  unfoldable mutual
    pub reducts : Term → List Term
    reducts (var x) = []
    reducts (app f ts) = results (app f ts) ++ map (app f) (results_beside f ts ++ reducts_in ts)

    pub reducts_in : Terms → List Terms
    reducts_in nil = []
    reducts_in (cons t ts) = map (λ (u : Term). cons u ts) (reducts t) ++ map (cons t) (reducts_in ts)
