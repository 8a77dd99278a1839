-- Which variables of a pattern are shared, and the elements that they take.
-- Renders: 02, request 14: "all results of one step, AC regrouping allowed".
use mathlib.Core.List.{List, [], ◌∷◌, ◌++◌, map, flat_map, Memᴰ}
use Rattle.std.specs.Prelude.{◌≡◌, Bool, true, false, cond, ℕ, ◌≤◌, ◌<◌, length, eqb}
use Rattle.multisets.specs.Multiset.{multiset_equal}
use Rattle.multisets.specs.Sorting.{Parted}
use Rattle.terms.specs.Term.{Term, Terms, occurrences, flattening}
use Rattle.terms.specs.Term.Term.{var, app}
use Rattle.terms.specs.Term.Terms.{nil, cons}
use Rattle.terms.specs.Signature.{Signature}
use Rattle.terms.specs.Equivalence.{Equivalent}
use Rattle.terms.specs.Bunch.{bunch_of}
use Rattle.terms.specs.Bunch.Bunch.{full}
use Rattle.terms.specs.Rewriting.{Rule, Substitution, substitute}
use Rattle.simplifying.specs.Filling.{Filling}

-- The shared variables of a pattern, from left to right, each as often as it occurs.
module _ (shared : ℕ → Bool) where
  abbrev mutual
    pub shared_in : Term → List ℕ
    shared_in (var x) = cond (shared x) (x ∷ []) []
    shared_in (app g ts) = shared_ins ts

    pub shared_ins : Terms → List ℕ
    shared_ins nil = []
    shared_ins (cons t ts) = shared_in t ++ shared_ins ts

-- The elements, under f, of what a substitution puts for some variables.
abbrev pub image_elements : ℕ → Substitution → List ℕ → List Term
image_elements f τ xs = flat_map (λ (x : ℕ). flattening f (τ x)) xs

-- A filling of r by some elements of a list; the others, at least so many, are dropped, and none where none is to be.
pub record Shared (f : ℕ) (shared : ℕ → Bool) (τ : Substitution) (r : Term) (l : List Term) (drops : ℕ) (t : Term) :
    Type 0 where
  pub kept : List Term
  pub dropped : List Term
  pub parts : Parted l kept dropped
  pub enough : drops ≤ length dropped
  pub exact : drops ≡ 0 → length dropped ≡ 0
  pub filling : Filling f shared τ r kept t

-- No shared variable occurs twice.
abbrev pub Once : (ℕ → Bool) → Term → Type 0
Once shared p = (x : ℕ) → shared x ≡ true → occurrences x p ≤ 1

-- No number stands twice in a list.
abbrev pub Distinct : List ℕ → Type 0
Distinct [] = Unit {0}
Distinct (x ∷ xs) = (Memᴰ x xs → ⊥) × Distinct xs

-- The variables xs are the shared ones of r, and ds, which r lacks.
pub record Accounted (shared : ℕ → Bool) (r : Term) (xs ds : List ℕ) : Type 0 where
  pub all : multiset_equal eqb xs (shared_in shared r ++ ds) ≡ true
  pub distinct : Distinct ds
  pub dropped : (x : ℕ) → Memᴰ x ds → shared x ≡ true
  pub absent : (x : ℕ) → Memᴰ x ds → occurrences x r ≡ 0

-- A rule's left side with one variable, pool, in place of the sum of the variables xs: they occur at most once on the
-- right, and ds not at all.
pub record Pooled (σ : Signature) (f : ℕ) (shared : ℕ → Bool) (rule : Rule) (pool : ℕ) (left : Term) (xs ds : List ℕ) :
    Type 0 where
  pub sum : Term
  pub is_sum : bunch_of f (map var xs) ≡ full sum
  pub same : Equivalent σ rule.left (substitute (λ (y : ℕ). cond (eqb pool y) sum (var y)) left)
  pub apart : (x : ℕ) → 0 < occurrences x left → shared x ≡ false
  pub pools : 0 < occurrences pool left
  pub absent : occurrences pool rule.right ≡ 0
  pub once : Once shared rule.right
  pub all_shared : (x : ℕ) → Memᴰ x xs → shared x ≡ true
  pub covers : (x : ℕ) → 0 < occurrences x rule.right → shared x ≡ false → 0 < occurrences x left
  pub accounted : Accounted shared rule.right xs ds
