-- The order by variables, weights and roots.
--     greater-oftener, -weight, -level                        the variables, the weights, terms of equal weight
--     at-weight, -differing, -variable, -elements, -rows      the terms at two offsets
use mathlib.Core.List.{List}
use mathlib.Core.Path.{◌≡◌, refl, sym, ap, ◌∙◌}
use mathlib.Core.Bool.{Bool, true, false, cond}
use Prim.Native.Nat.{ℕ, ◌+◌, ◌≤◌, ◌<◌}
use native.Mathlib.Omega.{arith}
use lib.Dec.{ltb, leb, eqb}
use lib.ListN.{length, get_or}
use borrow.Author.Tests.{lt-ltb, le-ltb, eq-eqb, ne_eqb}
use Rattle.multisets.proofs.Relations.{by_test}
use Rattle.terms.specs.Signature.{Signature, symbol_of}
use Rattle.terms.specs.Term.{Term, weight, variable_count}
use Rattle.terms.specs.Equivalence.{is_equivalent}
use Rattle.terms.specs.Order.{none_oftener, root_mark, decreasing_mark, is_greater}
use Rattle.terms.specs.Oftener.{first_oftener}
use Rattle.terms.proofs.OrderLaws.{is_greater-unfolds}
use Rattle.terms.proofs.OftenerLaws.{oftener-some}
use Rattle.symbols.specs.Table.{signature_of}
use Rattle.symbols.proofs.TableLaws.{few-at}
use Rattle.subterms.specs.Parts.{part_at}
use Rattle.weights.specs.declared.totals.Totals.{Totals}
use Rattle.measures.specs.Sums.{Scale}
use Rattle.extensions.specs.Compared.{weight_at, none_oftener_at, higher_mark, is_higher, greater_at, root_at, rows_greater}
use Rattle.extensions.specs.Compared.{flattened_at, mark_or_none}
use Rattle.operations.specs.declared.Mark.{Mark}
use Rattle.operations.specs.declared.Mark.TheVariants as mark
use Rattle.operations.specs.Enums.{mark_number}
use Rattle.std.proofs.Common.{Option, Some, None, is_some}
use Rattle.extensions.proofs.RootLaws.{positive, root-variable, root-differing, root-elements, root-rows}

abbrev pub by_none : Bool → ℕ → ℕ → ℕ → ℕ
by_none none x y m = cond none (cond (ltb y x) 1 (cond (eqb y x) m 0)) 0

module _ (σ : Signature) (s t : Term) where
  abbrev pub root : ℕ
  root = root_mark σ (is_equivalent σ) (is_greater σ) s t

  pub unfolds : is_greater σ s t ≡ ltb 0 (by_none (none_oftener σ variable_count s t) (weight σ s) (weight σ t) root)
  unfolding decreasing_mark
  unfolds = is_greater-unfolds σ s t

  pub greater-oftener : {r : ℕ} → r ≡ first_oftener σ s t → r < variable_count → false ≡ is_greater σ s t
  greater-oftener e l = rw (unfolds, ← oftener-some σ s t e l)

  module _ (few : true ≡ none_oftener σ variable_count s t) {x y : ℕ} (p : x ≡ weight σ s) (q : y ≡ weight σ t) where
    greater-weight : (x ≡ y → ⊥) → ltb y x ≡ is_greater σ s t
    greater-weight d =
        by_test (ltb y x) (λ e. rw (unfolds, ← few, ← p, ← q, e))
        λ e. rw (unfolds, ← few, ← p, ← q, e, ne_eqb y x (λ z. d (sym z)))

    pub greater-level : x ≡ y → {r : Bool} → r ≡ ltb 0 root → r ≡ is_greater σ s t
    greater-level l h = h ∙ rw (unfolds, ← few, ← p, ← q, le-ltb y x (omega arith), eq-eqb y x (sym l))

-- ---- the terms at two offsets

higher-mark : (g : ℕ) → 0 < higher_mark g
higher-mark g = by_test (leb 256 g) (λ e. rw e (omega arith)) λ e. rw e (omega arith)

module _ {table s skeys t tkeys : List ℕ} {ssums tsums : List Totals}
    (S : Scale table s skeys ssums t tkeys tsums) (i j : ℕ)
    (few : true ≡ none_oftener_at table s i t j) {x y : ℕ} (p : x ≡ weight_at table s i) (q : y ≡ weight_at table t j) where
  level : x ≡ y → {r : Bool} → r ≡ ltb 0 (root_at table s i t j) → r ≡ greater_at table s i t j
  level = greater-level (signature_of table) (part_at (signature_of table) s i) (part_at (signature_of table) t j) few p q

  pub at-weight : (x ≡ y → ⊥) → ltb y x ≡ greater_at table s i t j
  at-weight =
      greater-weight (signature_of table) (part_at (signature_of table) s i) (part_at (signature_of table) t j) few p q

  module _ (l : x ≡ y) (h : i < length s) (k : j < length t) where
    pub at-differing : (get_or s i 0 ≡ get_or t j 0 → ⊥) → {r : Bool} → r ≡ is_higher table (get_or s i 0) (get_or t j 0) →
        r ≡ greater_at table s i t j
    at-differing d {r} e =
        let few' = few-at table S.sides.small in
        let same : weight_at table s i ≡ weight_at table t j = sym p ∙ l ∙ q in
        level l (positive (higher_mark (get_or t j 0)) (higher-mark (get_or t j 0)) r ∙ ap (ltb 0)
        (root-differing table s i t j h k S.admissible few' S.sides.left.complete S.sides.right.complete
        few same d e))

    pub at-variable : 256 ≤ get_or s i 0 → false ≡ greater_at table s i t j
    at-variable v = level l (ap (ltb 0) (root-variable table s i t j h k v))

    module _ (e : get_or s i 0 ≡ get_or t j 0) (v : get_or s i 0 < 256) {n : ℕ}
        (d : n ≡ (symbol_of (signature_of table) (get_or s i 0)).arity) where
      pub at-elements : (symbol_of (signature_of table) (get_or s i 0)).ac ≡ true → {m : ℕ} →
          m ≡ flattened_at table (get_or s i 0) s (i + 1) t (j + 1) n → ltb 0 m ≡ greater_at table s i t j
      at-elements c f = level l (ap (ltb 0) (root-elements table s i t j h k e v d c f))

      pub at_rows : (symbol_of (signature_of table) (get_or s i 0)).ac ≡ false → {r : Bool} →
          r ≡ rows_greater table s (i + 1) t (j + 1) n → r ≡ greater_at table s i t j
      at_rows c {r} f = level l (positive 3 (omega arith) r ∙ ap (ltb 0) (root-rows table s i t j h k e v d c f))

-- ---- the marks

pub positive-mark : (m : Mark) → 0 < mark_number m
positive-mark mark.FallsByWeight = omega arith
positive-mark mark.FallsByRank = omega arith
positive-mark mark.FallsByArguments = omega arith
positive-mark mark.FallsByHighTerms = omega arith
positive-mark mark.FallsByCount = omega arith
positive-mark mark.FallsByLowTerms = omega arith
positive-mark mark.VariableAdded = omega arith
positive-mark mark.LeftLighter = omega arith
positive-mark mark.SidesEqual = omega arith
positive-mark mark.NoCase = omega arith
positive-mark mark.FallsByWrapping = omega arith

-- A mark holds exactly if its number is not 0.
pub mark-some : (o : Option Mark) → is_some o ≡ ltb 0 (mark_or_none o)
mark-some (Some m) = sym (lt-ltb 0 (mark_number m) (positive-mark m))
mark-some None = refl
