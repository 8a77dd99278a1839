-- Steps by the places of a term as it stands.
-- Renders: 01, "A step leads from s to t"; 02, request 14: "AC regrouping allowed".
use mathlib.Core.List.{Memᴰ}
use Rattle.std.specs.Prelude.{◌≡◌, true, ℕ}
use Rattle.terms.specs.Signature.{symbol_of}
use Rattle.terms.specs.Term.{Term, Expression}
use Rattle.terms.specs.Term.Term.{var, app}
use Rattle.terms.specs.Equivalence.{pair, Equivalent}
use Rattle.terms.specs.Rewriting.{Rule, System, Substitution, substitute, ExpressionSubstitution, Context, fill}

module _ (R : System) where
  -- A rule and a substitution that lead from the whole of t to u.
  pub record RuleStep (t u : Term) : Type 0 where
    pub rule : Rule
    pub is_rule : Memᴰ rule R.rules
    pub substitution : Substitution
    pub images : ExpressionSubstitution R.signature substitution
    pub before : Equivalent R.signature t (substitute substitution rule.left)
    pub after : Equivalent R.signature u (substitute substitution rule.right)

  -- The same beside a rest, under an AC symbol.
  pub record Beside (t u : Term) : Type 0 where
    pub symbol : ℕ
    pub is_ac : (symbol_of R.signature symbol).ac ≡ true
    pub rest : Term
    pub rest_expression : Expression R.signature rest
    pub rule : Rule
    pub is_rule : Memᴰ rule R.rules
    pub substitution : Substitution
    pub images : ExpressionSubstitution R.signature substitution
    pub before : Equivalent R.signature t (app symbol (pair (substitute substitution rule.left) rest))
    pub after : Equivalent R.signature u (app symbol (pair (substitute substitution rule.right) rest))

  pub data At (t u : Term) : Type 0 where
    by_rule : RuleStep t u → At t u
    beside_rest : Beside t u → At t u

  -- In a part of the term.
  pub record PlaceStep (s t : Term) : Type 0 where
    pub context : Context
    pub part : Term
    pub result : Term
    pub is_part : s ≡ fill context part
    pub is_result : t ≡ fill context result
    pub how : At part result

-- A rule with a further argument x of the AC symbol f on both sides: what it does to the whole, the rule does beside a
-- rest.
abbrev pub extended : ℕ → ℕ → Rule → Rule
extended f x r = record { left = app f (pair r.left (var x)); right = app f (pair r.right (var x)) }
