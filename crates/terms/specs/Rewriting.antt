-- Rewrite systems, contexts, substitutions, steps modulo AC, and derivations.
-- Renders: 01, "Rewrite steps and like comparisons", from "A rule falls" to "however long".
use mathlib.Core.List.{List, [], ◌∷◌, ◌++◌, Memᴰ}
use Rattle.std.specs.Prelude.{◌≡◌, true, ℕ, suc, ◌+◌, length}
use Rattle.terms.specs.Signature.{Signature, symbol_of, IsSymbol}
use Rattle.terms.specs.Term.{Term, Terms, arguments, WellFormed, Expression}
use Rattle.terms.specs.Term.Term.{var, app}
use Rattle.terms.specs.Term.Terms.{nil, cons}
use Rattle.terms.specs.Equivalence.{Equivalent}
use Rattle.terms.specs.Order.{is_greater}

pub record Rule : Type 0 where
  pub left : Term
  pub right : Term

-- 01: a book.
pub record System : Type 0 where
  pub signature : Signature
  pub rules : List Rule

abbrev pub WellFormedRules : System → Type 0
WellFormedRules R =
    (r : Rule) → Memᴰ r R.rules → WellFormed R.signature r.left × WellFormed R.signature r.right

-- 01: a rule falls.
abbrev pub Decreasing : Signature → Rule → Type 0
Decreasing σ r = is_greater σ r.left r.right ≡ true

-- 01: all rules fall.
abbrev pub AllDecreasing : System → Type 0
AllDecreasing R = (r : Rule) → Memᴰ r R.rules → Decreasing R.signature r

-- The open place alone, or a symbol with a context among its arguments.
pub data Context : Type 0 where
  hole : Context
  inside : ℕ → List Term → Context → List Term → Context

abbrev pub fill : Context → Term → Term
fill hole t = t
fill (inside f ss c ts) t = app f (arguments (ss ++ (fill c t ∷ ts)))

-- What stands for each variable.
abbrev pub Substitution : Type 0
Substitution = ℕ → Term

abbrev mutual
  pub substitute : Substitution → Term → Term
  substitute τ (var x) = τ x
  substitute τ (app f ts) = app f (substitute_in τ ts)

  pub substitute_in : Substitution → Terms → Terms
  substitute_in τ nil = nil
  substitute_in τ (cons t ts) = cons (substitute τ t) (substitute_in τ ts)

module _ (σ : Signature) where
  abbrev pub Expressions : List Term → Type 0
  Expressions ts = (t : Term) → Memᴰ t ts → Expression σ t

  -- An expression with one place left open.
  abbrev pub ExpressionContext : Context → Type 0
  ExpressionContext hole = Unit {0}
  ExpressionContext (inside f ss c ts) =
      IsSymbol σ f ×
      (length ss + suc (length ts) ≡ (symbol_of σ f).arity) ×
      Expressions ss × ExpressionContext c × Expressions ts

  -- An expression for each variable; for one that the rule lacks, any.
  abbrev pub ExpressionSubstitution : Substitution → Type 0
  ExpressionSubstitution τ = (x : ℕ) → Expression σ (τ x)

module _ (R : System) where
  pub record Step (s t : Term) : Type 0 where
    pub rule : Rule
    pub is_rule : Memᴰ rule R.rules
    pub substitution : Substitution
    pub images : ExpressionSubstitution R.signature substitution
    pub context : Context
    pub around : ExpressionContext R.signature context
    pub before : Equivalent R.signature s (fill context (substitute substitution rule.left))
    pub after : Equivalent R.signature t (fill context (substitute substitution rule.right))

  -- 01: a list of steps, each starting where the one before ended.
  pub data Derivation : Term → Term → Type 0 where
    done : {s : Term} → Derivation s s
    more : {s t u : Term} → Step s t → Derivation t u → Derivation s u

  abbrev pub step_count : {s t : Term} → Derivation s t → ℕ
  step_count done = 0
  step_count (more p d) = suc (step_count d)

  -- The expressions of a derivation, from the first to the last.
  abbrev pub along : {s t : Term} → Derivation s t → List Term
  along (done {s}) = s ∷ []
  along (more {s} p d) = s ∷ along d

-- Each element is related to each later one.
abbrev pub StronglySorted : {A : Type 0} → (A → A → Type 0) → List A → Type 0
StronglySorted R [] = Unit {0}
StronglySorted {A} R (a ∷ l) = ((b : A) → Memᴰ b l → R a b) × StronglySorted R l
