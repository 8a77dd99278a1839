-- The mark of two terms, 1 to 11, and their relation.
--     whole-seven, -one, -eight, -root, -higher, -ten    each way that the mark is decided
--     whole-arguments                                    by the mark of the arguments
--     same-few                                           with the same root it is at most 6
--     greater-falls                                      the marks of the order
--     relation-greater, -equivalent, -less, -unrelated   the relation, by the marks both ways
--     level-greater, -less, -unrelated                   the relation, by the order both ways
use mathlib.Core.List.{List}
use mathlib.Core.Logic.{◌⊎◌, inl, inr}
use mathlib.Core.Path.{◌≡◌, refl, sym, ap, ◌∙◌}
use mathlib.Core.Bool.{Bool, true, false, cond, not, ◌&&◌, and-eq-true_iff as both}
use Prim.Native.Nat.{ℕ, ◌≤◌, ◌<◌}
use native.Mathlib.Omega.{arith}
use lib.Dec.{ltb, leb, eqb}
use lib.ListN.{length, get_or}
use borrow.Author.Tests.{eqb-true, ltb-true, lt-ltb, le-ltb, le-leb, eq-eqb, ne_eqb}
use Rattle.multisets.specs.Multiset.{row_greater}
use Rattle.multisets.proofs.Relations.{by_test, by_order}
use Rattle.terms.specs.Signature.{Signature, symbol_of, Admissible}
use Rattle.terms.specs.Term.{Term, Terms, row, weight, variable_count, flattenings, WellFormed}
use Rattle.terms.specs.Term.Term.{var, app}
use Rattle.terms.specs.Equivalence.{is_equivalent}
use Rattle.terms.specs.Iterated.{is_power}
use Rattle.terms.specs.Order.{none_oftener, high_greater, high_equal, low_greater, flattened_mark, root_mark, decreasing_mark}
use Rattle.terms.specs.Order.{is_greater, mark}
use Rattle.terms.specs.Oftener.{first_oftener}
use Rattle.terms.proofs.EquivalenceLaws.{is_equivalent-app-var, is_equivalent-equivalence}
use Rattle.terms.proofs.OrderLaws.{is_greater-unfolds}
use Rattle.terms.proofs.OftenerLaws.{oftener-some}
use Rattle.operations.specs.declared.Relation.TheVariants.{Greater, Less, Equivalent, Unrelated}
use Rattle.operations.specs.declared.Mark.{Mark}
use Rattle.operations.specs.declared.Mark.TheVariants.{FallsByWeight, FallsByRank, FallsByArguments, FallsByHighTerms, FallsByCount, FallsByLowTerms, VariableAdded, LeftLighter, SidesEqual, NoCase, FallsByWrapping}
use Rattle.operations.specs.Enums.{mark_number}
use Rattle.operations.specs.Comparing.{relation}
use Rattle.std.proofs.Common.{Option, Some, None, unwrap_or}
use Rattle.terms.specs.Marks.{is_decreasing}
use Rattle.symbols.specs.Table.{signature_of}
use Rattle.subterms.proofs.PartLaws.{symbol}
use Rattle.extensions.specs.Compared.{higher_mark, root_at, mark_or_none}
use Rattle.extensions.proofs.RootLaws.{root-variable}
use Rattle.extensions.proofs.GreaterLaws.{by_none, root, unfolds, positive-mark}
use Rattle.order.proofs.EquivalentLaws.{level, mark-of-equivalent}

abbrev by_mark : ℕ → Bool → ℕ → ℕ → Bool → ℕ
by_mark m none x y like =
    cond (ltb 0 m && ltb m 7) m (cond (not none) 7 (cond (ltb x y) 8 (cond like 9 (cond (eqb m 11) 11 10))))

module _ (σ : Signature) (s t : Term) where
  whole : mark σ s t
      ≡ by_mark (by_none (none_oftener σ variable_count s t) (weight σ s) (weight σ t) (root σ s t))
      (none_oftener σ variable_count s t) (weight σ s) (weight σ t) (is_equivalent σ s t)
  unfolding mark decreasing_mark
  whole = refl

  pub whole-seven : {r : ℕ} → r ≡ first_oftener σ s t → r < variable_count → 7 ≡ mark σ s t
  whole-seven e l = rw (whole, ← oftener-some σ s t e l)

  module _ (e : true ≡ none_oftener σ variable_count s t) {x y : ℕ} (p : x ≡ weight σ s) (q : y ≡ weight σ t) where
    pub whole-one : y < x → 1 ≡ mark σ s t
    whole-one l = rw (whole, ← e, ← p, ← q, lt-ltb y x l)

    pub whole-eight : x < y → 8 ≡ mark σ s t
    whole-eight l =
        rw (whole, ← e, ← p, ← q, le-ltb y x (omega arith), ne_eqb y x (λ z. omega arith), lt-ltb x y l)

    module _ (l : x ≡ y) {m : ℕ} (h : m ≡ root σ s t) where
      level-mark : mark σ s t ≡ cond (ltb 0 m && ltb m 7) m (cond (is_equivalent σ s t) 9 (cond (eqb m 11) 11 10))
      level-mark =
          rw (
            whole,
            ← e,
            ← p,
            ← q,
            ← h,
            le-ltb y x (omega arith),
            eq-eqb y x (sym l),
            le-ltb x y (omega arith),
          )

      pub whole-root : 0 < m → m < 7 → m ≡ mark σ s t
      whole-root a b = rw (level-mark, lt-ltb 0 m a, lt-ltb m 7 b)

      whole-eleven : m ≡ 11 → false ≡ is_equivalent σ s t → 11 ≡ mark σ s t
      whole-eleven k a = rw (level-mark, k, ← a)

      pub whole-higher : (g : ℕ) → m ≡ higher_mark g → false ≡ is_equivalent σ s t → m ≡ mark σ s t
      whole-higher g k a =
          by_test (leb 256 g) (λ d. let z : m ≡ 11 = k ∙ rw d in z ∙ whole-eleven z a)
          λ d. let z : m ≡ 2 = k ∙ rw d in whole-root (omega arith) (omega arith)

      pub whole-ten : m ≤ 0 → false ≡ is_equivalent σ s t → 10 ≡ mark σ s t
      whole-ten k a = rw (level-mark, le-ltb 0 m k, ← a, ne_eqb m 11 (λ z. omega arith))

    pub whole-arguments : x ≡ y → (o : Option Mark) → mark_or_none o ≡ root σ s t → root σ s t ≤ 6 →
        false ≡ is_equivalent σ s t → mark_number (unwrap_or o NoCase) ≡ mark σ s t
    whole-arguments l (Some m) h k a = whole-root l h (positive-mark m) (omega arith)
    whole-arguments l None h k a = whole-ten l h (omega arith) a

-- ---- which marks are the order's

module _ (σ : Signature) (like greater : Term → Term → Bool) where
  flattened-few : (f : ℕ) (ss ts : List Term) → flattened_mark σ like greater f ss ts ≤ 6
  unfolding flattened_mark
  flattened-few f ss ts =
      by_test (high_greater σ like greater f ss ts) (λ e. rw e (omega arith))
      λ e. by_test (high_equal σ like f ss ts)
      (λ d. by_test (ltb (length ts) (length ss)) (λ h. rw (e, d, h) (omega arith))
      λ h. by_test (eqb (length ts) (length ss) && low_greater σ like greater f ss ts)
      (λ k. rw (e, d, h, k) (omega arith))
      λ k. rw (e, d, h, k) (omega arith))
      λ d. rw (e, d) (omega arith)

  symbols-few : (f g : ℕ) (ss ts : Terms) → root_mark σ like greater (app f ss) (app g ts) ≤ 6
  unfolding root_mark
  symbols-few f g ss ts =
      by_test (ltb (symbol_of σ g).precedence (symbol_of σ f).precedence) (λ e. rw e (omega arith))
      λ e. by_test (eqb f g)
      (λ d. by_test (symbol_of σ f).ac (λ c. rw (e, d, c) (flattened-few f (flattenings f ss) (flattenings f ts)))
      λ c. by_test (row_greater like greater (row ss) (row ts)) (λ h. rw (e, d, c, h) (omega arith))
      λ h. rw (e, d, c, h) (omega arith))
      λ d. rw (e, d) (omega arith)

  -- At most 6, or 11 where the right is a variable and the left is none.
  root-few : (s t : Term) →
      (root_mark σ like greater s t ≤ 6) ⊎ ((root_mark σ like greater s t ≡ 11) × (is_equivalent σ s t ≡ false))
  unfolding root_mark
  root-few (var x) t = inl (omega arith)
  root-few (app f ss) (var y) =
      by_test (is_power f y (app f ss)) (λ e. inr (rw e, is_equivalent-app-var σ f y ss)) λ e. inl (rw e (omega arith))
  root-few (app f ss) (app g ts) = inl (symbols-few f g ss ts)

pub same-few : (table s : List ℕ) (i : ℕ) (t : List ℕ) (j : ℕ) → i < length s → j < length t →
    get_or s i 0 ≡ get_or t j 0 → root_at table s i t j ≤ 6
same-few table s i t j h k e =
    let σ = signature_of table in
    by_order (get_or s i 0) 256
    (λ v. rw (symbol σ s i h v, symbol σ t j k (omega arith))
    (symbols-few σ (is_equivalent σ) (is_greater σ) (get_or s i 0) (get_or t j 0) _ _))
    λ v. omega (arith, root-variable table s i t j h k v)

-- The marks after those of the order.
abbrev afterwards : Bool → Bool → Bool → Bool → ℕ
afterwards none lighter like wrapped =
    cond (not none) 7 (cond lighter 8 (cond like 9 (cond wrapped 11 10)))

none-falls : (none lighter like : Bool) → is_decreasing (afterwards none lighter like false) ≡ false
none-falls false lighter like = refl
none-falls true true like = refl
none-falls true false true = refl
none-falls true false false = refl

afterwards-nine : (none lighter like wrapped : Bool) → afterwards none lighter like wrapped ≡ 9 → like ≡ true
afterwards-nine none lighter true wrapped e = refl
afterwards-nine false lighter false wrapped e = absurd (omega arith)
afterwards-nine true true false wrapped e = absurd (omega arith)
afterwards-nine true false false true e = absurd (omega arith)
afterwards-nine true false false false e = absurd (omega arith)

mark-nine : (m : ℕ) (none : Bool) (x y : ℕ) (like : Bool) → by_mark m none x y like ≡ 9 → like ≡ true
mark-nine m none x y like e =
    by_test (ltb 0 m && ltb m 7)
    (λ a. let z : m ≡ 9 = rw a at e in absurd (omega (arith, ltb-true m 7 ((both (ltb 0 m) _).0 a).1)))
    λ a. afterwards-nine none (ltb x y) like (eqb m 11) (rw a at e)

-- The order and the mark of terms of equal weight, by the roots.
level-falls : (like : Bool) (x r : ℕ) → (r ≤ 6) ⊎ ((r ≡ 11) × (like ≡ false)) →
    ltb 0 r ≡ is_decreasing (by_mark r true x x like)
level-falls like x r (inr (e, d)) = rw (e, d, le-ltb x x (omega arith))
level-falls like x r (inl h) =
    by_order 0 r
    (λ l. rw (lt-ltb 0 r l, lt-ltb r 7 (omega arith), le-leb 1 r (omega arith), le-leb r 6 (omega arith)))
    λ l. let z : r ≡ 0 = omega arith in rw z (sym (none-falls true (ltb x x) like))

mark-falls : (none like : Bool) (x y r : ℕ) → (r ≤ 6) ⊎ ((r ≡ 11) × (like ≡ false)) →
    ltb 0 (by_none none x y r) ≡ is_decreasing (by_mark (by_none none x y r) none x y like)
mark-falls false like x y r few = refl
mark-falls true like x y r few =
    by_test (ltb y x) (λ e. rw e)
    λ e. by_test (eqb y x)
    (λ d. rw (e, d, eqb-true y x d) (level-falls like x r few))
    λ d. rw (e, d) (sym (none-falls true (ltb x y) like))

-- A term is greater exactly if the mark is one of the order's.
greater-falls : (σ : Signature) (s t : Term) {m : ℕ} → m ≡ mark σ s t → is_greater σ s t ≡ is_decreasing m
greater-falls σ s t h =
    unfolds σ s t
    ∙ mark-falls (none_oftener σ variable_count s t) (is_equivalent σ s t) (weight σ s) (weight σ t) (root σ s t)
    (root-few σ (is_equivalent σ) (is_greater σ) s t)
    ∙ ap is_decreasing (sym (h ∙ whole σ s t))

-- ---- the relation

module _ (σ : Signature) (s t : Term) {m : ℕ} (h : m ≡ mark σ s t) where
  module _ (A : Admissible σ) (v : WellFormed σ s) (w : WellFormed σ t) where
    pub unlike-of-mark : (m ≡ 9 → ⊥) → is_equivalent σ s t ≡ false
    unlike-of-mark d =
        by_test (is_equivalent σ s t) (λ e. absurd (d (h ∙ sym (mark-of-equivalent σ A s t v w e)))) λ e. e

    pub relation-equivalent : m ≡ 9 → Equivalent ≡ relation σ s t
    unfolding relation
    relation-equivalent e =
        let decides = by_none (none_oftener σ variable_count s t) (weight σ s) (weight σ t) (root σ s t) in
        let a = mark-nine decides (none_oftener σ variable_count s t) (weight σ s) (weight σ t) (is_equivalent σ s t)
        (sym (whole σ s t) ∙ sym h ∙ e) in
        let b = (is_equivalent-equivalence σ).symmetric a in
        let g : is_greater σ s t ≡ false = is_greater-unfolds σ s t ∙ ap (ltb 0) (level σ A s t v w a (is_greater σ)) in
        let l : is_greater σ t s ≡ false = is_greater-unfolds σ t s ∙ ap (ltb 0) (level σ A t s w v b (is_greater σ)) in
        rw (g, l, a)

  pub relation-greater : is_decreasing m ≡ true → Greater ≡ relation σ s t
  unfolding relation
  relation-greater l = rw (greater-falls σ s t h ∙ l)

module _ (σ : Signature) (s t : Term) {m n : ℕ} (h : m ≡ mark σ s t) (k : n ≡ mark σ t s)
    (l : is_decreasing m ≡ false) where
  pub relation-less : is_decreasing n ≡ true → Less ≡ relation σ s t
  unfolding relation
  relation-less p = rw (greater-falls σ s t h ∙ l, greater-falls σ t s k ∙ p)

  pub relation-unrelated : Admissible σ → WellFormed σ s → WellFormed σ t → (m ≡ 9 → ⊥) → is_decreasing n ≡ false →
      Unrelated ≡ relation σ s t
  unfolding relation
  relation-unrelated A v w d p =
      rw (greater-falls σ s t h ∙ l, greater-falls σ t s k ∙ p, unlike-of-mark σ s t h A v w d)

-- ---- the relation, by the order

module _ (σ : Signature) (s t : Term) where
  pub level-greater : true ≡ is_greater σ s t → Greater ≡ relation σ s t
  unfolding relation
  level-greater e = rw (← e)

  pub level-less : false ≡ is_greater σ s t → true ≡ is_greater σ t s → Less ≡ relation σ s t
  unfolding relation
  level-less e d = rw (← e, ← d)

  pub level-unrelated : false ≡ is_greater σ s t → false ≡ is_greater σ t s → false ≡ is_equivalent σ s t →
      Unrelated ≡ relation σ s t
  unfolding relation
  level-unrelated e d c = rw (← e, ← d, ← c)

pub not-nine : (m : Mark) → (m ≡ SidesEqual → ⊥) → mark_number m ≡ 9 → ⊥
not-nine SidesEqual n e = n refl
not-nine FallsByWeight n e = absurd (omega arith)
not-nine FallsByRank n e = absurd (omega arith)
not-nine FallsByArguments n e = absurd (omega arith)
not-nine FallsByHighTerms n e = absurd (omega arith)
not-nine FallsByCount n e = absurd (omega arith)
not-nine FallsByLowTerms n e = absurd (omega arith)
not-nine VariableAdded n e = absurd (omega arith)
not-nine LeftLighter n e = absurd (omega arith)
not-nine NoCase n e = absurd (omega arith)
not-nine FallsByWrapping n e = absurd (omega arith)
