-- The test of Steinbach's order decides the definition, on well-formed terms.
--     Passes, passes→test, test→passes     the test by weight, or by the cases for equal weights
--     greater-unlike                       the test tells AC-equivalent terms apart in no order
--     SteinbachGreater→test                what is greater passes
--     test→SteinbachGreater                what passes is greater
use mathlib.Core.List.Memᴰ
use mathlib.Core.List.{List, [], ◌∷◌}
use mathlib.Core.Path.{◌≡◌, refl, sym, ◌∙◌}
use mathlib.Core.Bool.{Bool, true, false, not, cond, false≢true, and-eq-true_iff as both}
use Prim.Native.Nat.{ℕ, suc, zero, ◌≤◌, ◌<◌}
use native.Mathlib.Omega.{arith}
use lib.Dec.{eqb, ltb}
use borrow.Author.Tests.{eq-eqb, eqb-true, le-ltb, lt-ltb, ltb-true, not-true}
use Rattle.multisets.specs.Multiset.{some, every, is_empty, cancel, multiset_greater, row_greater}
use Rattle.terms.specs.Signature.{Signature, symbol_of, Admissible}
use Rattle.terms.specs.Term.{Term, Terms, row, size, occurrences, flattenings, variable_count, WellFormed}
use Rattle.terms.specs.Term.Term.{var, app}
use Rattle.terms.specs.Equivalence.{is_equivalent}
use Rattle.terms.specs.Iterated.{Iterated}
use Rattle.terms.specs.Iterated.Iterated.{once, more}
use Rattle.terms.specs.Steinbach.{none_more, plain_weight, PlainlyEven, SteinbachGreater, SteinbachLex, SteinbachAbove}
use Rattle.terms.specs.Steinbach.{SteinbachCovered, steinbach_cases, steinbach_decreases, is_steinbach_greater}
use Rattle.terms.specs.Steinbach.SteinbachGreater.{heavier, case1, case2, case3, case4}
use Rattle.terms.specs.Steinbach.SteinbachLex.{ahead, level}
use Rattle.terms.specs.Steinbach.SteinbachAbove.{left}
use Rattle.terms.specs.Steinbach.SteinbachCovered.{nothing, another}
use Rattle.multisets.proofs.Relations.{by_test, by_order, refuted, eqb-self}
use Rattle.multisets.proofs.RowLaws.{row_greater-equal}
use Rattle.multisets.proofs.MultisetOrder.{multiset_greater-equal}
use Rattle.multisets.proofs.MultisetMaps.{some-member, some-of-member}
use Rattle.multisets.proofs.Agreement.{cancel-leaves}
use Rattle.terms.proofs.TermLaws.{size-pos, Each, Parts, smaller-parts, formed-parts, parts-both}
use Rattle.terms.proofs.EquivalenceLaws.{is_equivalent-app-var, symbol-of-is_equivalent, arguments-of-is_equivalent}
use Rattle.terms.proofs.EquivalenceComplete.{Equivalent→is_equivalent}
use Rattle.terms.proofs.IteratedLaws.{is_power→Iterated, Iterated→is_power}
use Rattle.terms.proofs.SteinbachLaws.{none_more-facts, is_steinbach_greater-unfolds}
use Rattle.terms.proofs.EquivalenceMeasures.{plain-resp-equivalent}
use Rattle.terms.proofs.VariableLaws.{occurrences-past}
use Rattle.terms.proofs.Theorems.{test-decides}

-- ---- the two ways in which the test passes

module _ (σ : Signature) where
  abbrev G : Term → Term → Bool
  G = is_steinbach_greater σ

  abbrev Cases : Term → Term → Bool
  Cases = steinbach_cases σ (is_equivalent σ) G

  data Passes (s t : Term) : Type 0 where
    by_weight : ((x : ℕ) → occurrences x t ≤ occurrences x s) → plain_weight σ t < plain_weight σ s → Passes s t
    by_cases : PlainlyEven σ s t → Cases s t ≡ true → Passes s t

  passes→test : {s t : Term} → Passes s t → G s t ≡ true
  unfolding steinbach_decreases
  passes→test {s} {t} (by_weight o h) =
      is_steinbach_greater-unfolds σ s t
      ∙ rw ((none_more-facts variable_count s t).1 (λ x k. o x), lt-ltb (plain_weight σ t) (plain_weight σ s) h)
  passes→test {s} {t} (by_cases o c) =
      is_steinbach_greater-unfolds σ s t
      ∙ rw (
        (none_more-facts variable_count s t).1 (λ x k. o.variables x),
        le-ltb (plain_weight σ t) (plain_weight σ s) (omega (arith, o.weights)),
        eq-eqb (plain_weight σ t) (plain_weight σ s) (sym o.weights),
        c,
      )

  test→passes : (s t : Term) → WellFormed σ t → G s t ≡ true → Passes s t
  unfolding steinbach_decreases
  test→passes s t w e =
      let (n, h) = (both (none_more variable_count s t) _).0 (sym (is_steinbach_greater-unfolds σ s t) ∙ e) in
      let o : (x : ℕ) → occurrences x t ≤ occurrences x s =
      λ x. by_order x variable_count ((none_more-facts variable_count s t).0 n x)
      λ l. omega (arith, occurrences-past σ x l t w) in
      by_test (ltb (plain_weight σ t) (plain_weight σ s)) (λ k. by_weight o (ltb-true _ _ k))
      λ k. let (q, c) = (both (eqb (plain_weight σ t) (plain_weight σ s)) _).0 (rw k at h) in
      by_cases (record { variables = o; weights = sym (eqb-true _ _ q) }) c

  same-root : (f : ℕ) (ss ts : Terms) →
      Cases (app f ss) (app f ts) ≡
      cond (symbol_of σ f).ac (multiset_greater (is_equivalent σ) G (flattenings f ss) (flattenings f ts))
      (row_greater (is_equivalent σ) G (row ss) (row ts))
  unfolding steinbach_cases
  same-root f ss ts = rw (le-ltb (symbol_of σ f).precedence (symbol_of σ f).precedence (omega arith), eqb-self)

  level-cases : (s t : Term) → is_equivalent σ s t ≡ true → Cases s t ≡ false
  unfolding steinbach_cases
  level-cases (var x) t e = refl
  level-cases (app f ss) (var y) e = absurd (false≢true (sym (is_equivalent-app-var σ f y ss) ∙ e))
  level-cases (app f ss) (app g ts) e =
      let q = symbol-of-is_equivalent σ f g ss ts e in
      let h = arguments-of-is_equivalent σ f g ss ts e in
      rw (← q) (same-root f ss ts ∙ by_test (symbol_of σ f).ac
      (λ c. rw c (multiset_greater-equal (is_equivalent σ) G (flattenings f ss) (flattenings f ts) (rw c at h)))
      λ c. rw c (row_greater-equal (is_equivalent σ) G (row ss) (row ts) (rw c at h)))

module _ (σ : Signature) (A : Admissible σ) where
  greater-unlike : (s t : Term) → WellFormed σ s → WellFormed σ t → G σ s t ≡ true → is_equivalent σ s t ≡ false
  greater-unlike s t v w g = refuted (is_equivalent σ s t) λ e. go e (test→passes σ s t w g)
    where
      go : is_equivalent σ s t ≡ true → Passes σ s t → ⊥
      go e (by_weight o h) =
          let d = (test-decides σ A.ac_binary s t v w).0 e in
          omega (arith, plain-resp-equivalent σ (λ x. σ.w0) (λ f. (symbol_of σ f).weight) d)
      go e (by_cases o c) = false≢true (sym (level-cases σ s t e) ∙ c)

  -- ---- from the definition

  iterated-case : {f x : ℕ} {s : Term} → Iterated f s (var x) → Cases σ s (var x) ≡ true
  unfolding steinbach_cases
  iterated-case {f} {x} once = Iterated→is_power f x once
  iterated-case {f} {x} (more i) = Iterated→is_power f x (more i)

  mutual
    unfolding steinbach_cases multiset_greater row_greater

    pub SteinbachGreater→test : {s t : Term} → SteinbachGreater σ s t → WellFormed σ s → WellFormed σ t →
        G σ s t ≡ true
    SteinbachGreater→test (heavier o h) v w = passes→test σ (by_weight o h)
    SteinbachGreater→test (case1 o i) v w = passes→test σ (by_cases o (iterated-case i))
    SteinbachGreater→test (case2 o h) v w = passes→test σ (by_cases o (rw (lt-ltb _ _ h)))
    SteinbachGreater→test (case3 {f} {ss} {ts} o c l) v w =
        passes→test σ (by_cases o (same-root σ f ss ts
        ∙ rw (c, Lex→row l (formed-parts σ (app f ss) v).0 (formed-parts σ (app f ts) w).0)))
    SteinbachGreater→test (case4 {f} {ss} {ts} o c m) v w =
        passes→test σ (by_cases o (same-root σ f ss ts
        ∙ rw (c, Above→multiset m ((formed-parts σ (app f ss) v).1 f) ((formed-parts σ (app f ts) w).1 f))))

    Lex→row : {ss ts : List Term} → SteinbachLex σ ss ts → Each (WellFormed σ) ss → Each (WellFormed σ) ts →
        row_greater (is_equivalent σ) (G σ) ss ts ≡ true
    Lex→row (ahead {s} {t} d) p q =
        let v = p s (Memᴰ.head refl) in
        let w = q t (Memᴰ.head refl) in
        let g = SteinbachGreater→test d v w in
        rw (greater-unlike s t v w g, g)
    Lex→row (level d l) p q =
        rw (Equivalent→is_equivalent σ d) (Lex→row l (λ a m. p a (Memᴰ.tail m)) λ a m. q a (Memᴰ.tail m))

    Above→multiset : {ss ts : List Term} → SteinbachAbove σ ss ts → Each (WellFormed σ) ss → Each (WellFormed σ) ts →
        multiset_greater (is_equivalent σ) (G σ) ss ts ≡ true
    Above→multiset (left {ss} {ts} e c) p q =
        let k = cancel-leaves (is_equivalent σ) ss ts in
        rw e (Covered→every c (λ a m. p a (k.left a m)) λ a m. q a (k.right a m))

    Covered→every : {xs ys : List Term} → SteinbachCovered σ xs ys → Each (WellFormed σ) xs → Each (WellFormed σ) ys →
        every (λ (t : Term). some (λ (s : Term). G σ s t) xs) ys ≡ true
    Covered→every nothing p q = refl
    Covered→every (another {y} x m d c) p q =
        (both _ _).1 (
          some-of-member (λ (s : Term). G σ s y) m (SteinbachGreater→test d (p x m) (q y (Memᴰ.head refl))),
          Covered→every c p λ a n. q a (Memᴰ.tail n),
        )

  -- ---- from the test, for left terms that P holds of

  module _ (P : Term → Type 0) (formed : (a : Term) → P a → WellFormed σ a)
      (ih : (a b : Term) → P a → WellFormed σ b → G σ a b ≡ true → SteinbachGreater σ a b) where
    row→Lex : (ss ts : List Term) → Each P ss → Each (WellFormed σ) ts →
        row_greater (is_equivalent σ) (G σ) ss ts ≡ true → SteinbachLex σ ss ts
    unfolding row_greater
    row→Lex [] ts p q e = absurd (false≢true e)
    row→Lex (s ∷ ss) [] p q e = absurd (false≢true e)
    row→Lex (s ∷ ss) (t ∷ ts) p q e =
        let x = p s (Memᴰ.head refl) in
        let y = q t (Memᴰ.head refl) in
        by_test (is_equivalent σ s t)
        (λ h. level ((test-decides σ A.ac_binary s t (formed s x) y).0 h)
        (row→Lex ss ts (λ a m. p a (Memᴰ.tail m)) (λ b n. q b (Memᴰ.tail n)) (rw h at e)))
        λ h. ahead (ih s t x y (rw h at e))

    every→Covered : (xs ys : List Term) → Each P xs → Each (WellFormed σ) ys →
        every (λ (t : Term). some (λ (s : Term). G σ s t) xs) ys ≡ true → SteinbachCovered σ xs ys
    every→Covered xs [] p q e = nothing
    every→Covered xs (y ∷ ys) p q e =
        let (h, k) = (both (some (λ (s : Term). G σ s y) xs) _).0 e in
        let (x, m, g) = some-member (λ (s : Term). G σ s y) xs h in
        another x m (ih x y (p x m) (q y (Memᴰ.head refl)) g)
        (every→Covered xs ys p (λ b n. q b (Memᴰ.tail n)) k)

    multiset→Above : (ss ts : List Term) → Each P ss → Each (WellFormed σ) ts →
        multiset_greater (is_equivalent σ) (G σ) ss ts ≡ true → SteinbachAbove σ ss ts
    unfolding multiset_greater
    multiset→Above ss ts p q e =
        let k = cancel-leaves (is_equivalent σ) ss ts in
        let (n, h) = (both (not (is_empty (cancel (is_equivalent σ) ss ts).left)) _).0 e in
        left (not-true _ n) (every→Covered _ _ (λ a m. p a (k.left a m)) (λ b m. q b (k.right b m)) h)

    cases→Greater : (s t : Term) → Parts P s → WellFormed σ t → PlainlyEven σ s t → Cases σ s t ≡ true →
        SteinbachGreater σ s t
    unfolding steinbach_cases
    cases→Greater (var x) t p w o e = absurd (false≢true e)
    cases→Greater (app f ss) (var x) p w o e = case1 o (is_power→Iterated f x f ss e)
    cases→Greater (app f ss) (app g ts) p w o e =
        by_test (ltb (symbol_of σ g).precedence (symbol_of σ f).precedence) (λ h. case2 o (ltb-true _ _ h))
        λ h. let (q, k) = (both (eqb f g) _).0 (rw h at e) in
        let r = eqb-true f g q in
        let u = formed-parts σ (app g ts) w in
        rw (← r) (by_test (symbol_of σ f).ac
        (λ c. case4 (rw (← r) at o) c
        (multiset→Above (flattenings f ss) (flattenings f ts) (p.1 f) (u.1 f) (rw c at k)))
        λ c. case3 (rw (← r) at o) c (row→Lex (row ss) (row ts) p.0 u.0 (rw c at k)))

  by_size : (n : ℕ) (s t : Term) → size s ≤ n → WellFormed σ s → WellFormed σ t → G σ s t ≡ true →
      SteinbachGreater σ s t
  by_size zero s t l v w e = absurd (omega (arith, size-pos s))
  by_size (suc n) s t l v w e = go (test→passes σ s t w e) λ a b k. by_size n a b (omega arith)
    where
      go : Passes σ s t → ((a b : Term) → size a < size s → WellFormed σ a → WellFormed σ b → G σ a b ≡ true →
          SteinbachGreater σ a b) → SteinbachGreater σ s t
      go (by_weight o h) ih = heavier o h
      go (by_cases o c) ih =
          cases→Greater (λ a. (size a < size s) × WellFormed σ a) (λ a p. p.1) (λ a b p. ih a b p.0 p.1) s t
          (parts-both (λ a. size a < size s) (WellFormed σ) s (smaller-parts s) (formed-parts σ s v)) w o c

  pub test→SteinbachGreater : (s t : Term) → WellFormed σ s → WellFormed σ t → G σ s t ≡ true →
      SteinbachGreater σ s t
  test→SteinbachGreater s t = by_size (size s) s t (omega arith)
