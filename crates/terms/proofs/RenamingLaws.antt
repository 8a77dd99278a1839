-- What a renaming of variables does to terms: to their measures, rows and flattenings, their roots and variables, and
-- to AC-equivalence.
--     measure-rename, weight-rename, formed-rename    what is measured; well-formedness
--     row-renames, flattenings-rename                 arguments and flattenings, one by one
--     Over, over-parts                                the variables of a term are among some numbers
--     coefficient-rename, occurrences-renamed         occurrences, before and after
--     is_power-rename                                  the test for a variable under copies of one symbol
--     is_equivalent-rename                             the test of AC-equivalence
use mathlib.Core.List.{List, ◌∷◌, ◌++◌, map, map-append}
use mathlib.Core.Path.{◌≡◌, refl, sym, ap, ap₂, ◌∙◌}
use mathlib.Core.Bool.{Bool, cond, ◌&&◌}
use Prim.Native.Nat.{ℕ, suc, zero, ◌+◌, ◌<◌}
use native.Mathlib.Omega.{arith}
use lib.Dec.{eqb}
use lib.ListN.{length, length-map}
use borrow.Author.Tests.{eqb-true, eq-eqb}
use Rattle.terms.specs.Signature.{Signature, scale, others, symbol_of, coefficients_of}
use Rattle.terms.specs.Term.{Term, Terms, row, measure, measures, plain, size, occurrences, is_var, flattening}
use Rattle.terms.specs.Term.{flattenings, variable_count, weight, variable_coefficient, WellFormed, WellFormeds}
use Rattle.terms.specs.Term.Term.{var, app}
use Rattle.terms.specs.Term.Terms.{nil, cons}
use Rattle.terms.specs.Equivalence.{arguments_alike, is_equivalent_to, is_equivalent}
use Rattle.terms.specs.Iterated.{is_power, is_one_power}
use Rattle.terms.specs.Order.{root_above, root_below}
use Rattle.terms.specs.Renaming.{rename, renames}
use Rattle.multisets.proofs.Relations.{by_test, by_order, same_test, eqb-self}
use Rattle.multisets.proofs.MapLaws.{along, multiset_equal-map, row_equal-map}
use Rattle.terms.proofs.TermLaws.{Hereditary, row-each, flattenings-each, Parts}
use Rattle.terms.proofs.EquivalenceLaws.{arguments_alike-agree}
use Rattle.terms.proofs.RewritingLaws.{occurrences_in}

module _ (ρ : ℕ → ℕ) where
  -- ---- measures

  module _ (c : ℕ → List ℕ) (v w : ℕ → ℕ) where
    mutual
      pub measure-rename : (t : Term) → measure c v w (rename ρ t) ≡ measure c (λ (x : ℕ). v (ρ x)) w t
      measure-rename (var x) = refl
      measure-rename (app f ts) = ap (◌+◌ (w f)) (measures-renames ts (c f))

      measures-renames : (ts : Terms) (ks : List ℕ) →
          measures c v w (renames ρ ts) ks ≡ measures c (λ (x : ℕ). v (ρ x)) w ts ks
      measures-renames nil ks = refl
      measures-renames (cons t ts) ks = ap₂ ◌+◌ (ap (scale ks) (measure-rename t)) (measures-renames ts (others ks))

  pub size-rename : (t : Term) → size (rename ρ t) ≡ size t
  size-rename = measure-rename plain (λ x. 1) (λ f. 1)

  pub weight-rename : (σ : Signature) (t : Term) → weight σ (rename ρ t) ≡ weight σ t
  weight-rename σ = measure-rename (coefficients_of σ) (λ x. σ.w0) (λ f. (symbol_of σ f).weight)

  -- ---- arguments and flattenings

  pub row-renames : (ts : Terms) → row (renames ρ ts) ≡ map (rename ρ) (row ts)
  row-renames nil = refl
  row-renames (cons t ts) = ap (◌∷◌ (rename ρ t)) (row-renames ts)

  module _ (f : ℕ) where
    mutual
      flattening-rename : (t : Term) → flattening f (rename ρ t) ≡ map (rename ρ) (flattening f t)
      flattening-rename (var x) = refl
      flattening-rename (app g ts) = by_test (eqb f g) (λ e. rw e (flattenings-rename ts)) λ e. rw e

      pub flattenings-rename : (ts : Terms) → flattenings f (renames ρ ts) ≡ map (rename ρ) (flattenings f ts)
      flattenings-rename nil = refl
      flattenings-rename (cons t ts) =
          ap₂ ◌++◌ (flattening-rename t) (flattenings-rename ts)
          ∙ sym (map-append (rename ρ) (flattening f t) (flattenings f ts))

  -- ---- roots

  pub is_var-rename : (t : Term) → is_var (rename ρ t) ≡ is_var t
  is_var-rename (var x) = refl
  is_var-rename (app f ts) = refl

  pub root_above-rename : (σ : Signature) (f : ℕ) (t : Term) → root_above σ f (rename ρ t) ≡ root_above σ f t
  root_above-rename σ f (var x) = refl
  root_above-rename σ f (app g ts) = refl

  pub root_below-rename : (σ : Signature) (f : ℕ) (t : Term) → root_below σ f (rename ρ t) ≡ root_below σ f t
  root_below-rename σ f (var x) = refl
  root_below-rename σ f (app g ts) = refl

-- ---- variables among some numbers

module _ (Among : ℕ → Type 0) where
  -- The variables of a term, or of a row, are among those numbers.
  abbrev pub Over : Term → Type 0
  Over t = (x : ℕ) → 0 < occurrences x t → Among x

  abbrev OverRow : Terms → Type 0
  OverRow ts = (x : ℕ) → 0 < occurrences_in x ts → Among x

  overs : Hereditary Over OverRow
  overs = record {
    inner = λ f ts h x o. h x (omega arith);
    head = λ t ts h x o. h x (omega arith);
    tail = λ t ts h x o. h x (omega arith);
  }

  pub over-parts : (t : Term) → Over t → Parts Over t
  over-parts (var x) h = tt
  over-parts (app f ts) h = (
    λ a. row-each overs a ts (λ x o. h x (omega arith)),
    λ g a. flattenings-each overs a ts g λ x o. h x (omega arith),
  )

  pub over-var : (x : ℕ) → Over (var x) → Among x
  over-var x h = h x (rw eqb-self (omega arith))

  module _ (σ : Signature) (ρ : ℕ → ℕ) (within : (x : ℕ) → Among x → ρ x < variable_count) where
    mutual
      pub formed-rename : (t : Term) → WellFormed σ t → Over t → WellFormed σ (rename ρ t)
      formed-rename (var x) w h = within x (over-var x h)
      formed-rename (app f ts) w h = (
        w.0,
        ap length (row-renames ρ ts) ∙ (length-map (row ts) (rename ρ) ∙ w.1),
        formeds-renames ts w.2 λ x o. h x (omega arith),
      )

      formeds-renames : (ts : Terms) → WellFormeds σ ts → OverRow ts → WellFormeds σ (renames ρ ts)
      formeds-renames nil w h = tt
      formeds-renames (cons t ts) w h =
          (formed-rename t w.0 λ x o. h x (omega arith), formeds-renames ts w.1 λ x o. h x (omega arith))

-- ---- occurrences after a renaming

mutual
  -- A variable of the renamed term comes from one of the term.
  pub occurrences-renamed : (ρ : ℕ → ℕ) (y : ℕ) (t : Term) → 0 < occurrences y (rename ρ t) →
      (x : ℕ) × (ρ x ≡ y) × (0 < occurrences x t)
  occurrences-renamed ρ y (var x) h =
      by_test (eqb y (ρ x)) (λ e. (x, sym (eqb-true y (ρ x) e), rw eqb-self (omega arith)))
      λ e. absurd (let k = rw e at h in omega arith)
  occurrences-renamed ρ y (app f ts) h =
      let (x, e, o) = occurrences_in-renamed ρ y ts (omega arith) in (x, e, omega arith)

  occurrences_in-renamed : (ρ : ℕ → ℕ) (y : ℕ) (ts : Terms) → 0 < occurrences_in y (renames ρ ts) →
      (x : ℕ) × (ρ x ≡ y) × (0 < occurrences_in x ts)
  occurrences_in-renamed ρ y nil h = absurd (omega arith)
  occurrences_in-renamed ρ y (cons t ts) h =
      by_order 0 (occurrences y (rename ρ t))
      (λ l. let (x, e, o) = occurrences-renamed ρ y t l in (x, e, omega arith))
      λ l. let (x, e, o) = occurrences_in-renamed ρ y ts (omega arith) in (x, e, omega arith)

module _ (ρ : ℕ → ℕ) (Among : ℕ → Type 0) (one : (x y : ℕ) → Among x → Among y → ρ x ≡ ρ y → x ≡ y) where
  pub eqb-rename : (x y : ℕ) → Among x → Among y → eqb (ρ x) (ρ y) ≡ eqb x y
  eqb-rename x y v w =
      same_test (eqb (ρ x) (ρ y)) (eqb x y) (λ e. eq-eqb x y (one x y v w (eqb-true (ρ x) (ρ y) e)))
      λ e. eq-eqb (ρ x) (ρ y) (ap ρ (eqb-true x y e))

  module _ (c : ℕ → List ℕ) (x : ℕ) (v : Among x) where
    abbrev counts : ℕ → ℕ → ℕ
    counts x y = cond (eqb x y) 1 0

    mutual
      count-rename : (t : Term) → Over Among t →
          measure c (counts (ρ x)) (λ (f : ℕ). 0) (rename ρ t) ≡ measure c (counts x) (λ (f : ℕ). 0) t
      count-rename (var y) h = rw (eqb-rename x y v (over-var Among y h))
      count-rename (app f ts) h = ap (◌+◌ 0) (counts-rename ts (c f) λ y o. h y (omega arith))

      counts-rename : (ts : Terms) (ks : List ℕ) → OverRow Among ts →
          measures c (counts (ρ x)) (λ (f : ℕ). 0) (renames ρ ts) ks ≡
          measures c (counts x) (λ (f : ℕ). 0) ts ks
      counts-rename nil ks h = refl
      counts-rename (cons t ts) ks h =
          ap₂ ◌+◌ (ap (scale ks) (count-rename t λ y o. h y (omega arith)))
          (counts-rename ts (others ks) λ y o. h y (omega arith))

  -- A variable counts after the renaming as before.
  pub coefficient-rename : (σ : Signature) (x : ℕ) → Among x → (t : Term) → Over Among t →
      variable_coefficient σ (ρ x) (rename ρ t) ≡ variable_coefficient σ x t
  coefficient-rename σ x v = count-rename (coefficients_of σ) x v

  module _ (f y : ℕ) (v : Among y) where
    mutual
      pub is_power-rename : (s : Term) → Over Among s → is_power f (ρ y) (rename ρ s) ≡ is_power f y s
      is_power-rename (var x) h = eqb-rename y x v (over-var Among x h)
      is_power-rename (app g ts) h = ap (◌&&◌ (eqb f g)) (is_one_power-renames ts λ x o. h x (omega arith))

      is_one_power-renames : (ts : Terms) → OverRow Among ts → is_one_power f (ρ y) (renames ρ ts) ≡ is_one_power f y ts
      is_one_power-renames nil h = refl
      is_one_power-renames (cons t nil) h = is_power-rename t λ x o. h x (omega arith)
      is_one_power-renames (cons t (cons u us)) h = refl

  -- ---- AC-equivalence

  module _ (σ : Signature) where
    arguments_alike-along : (like : Term → Term → Bool) (f : ℕ) (ss ts : Terms) →
        arguments_alike σ like f (renames ρ ss) (renames ρ ts) ≡ arguments_alike σ (along (rename ρ) like) f ss ts
    arguments_alike-along like f ss ts =
        rw (
          row-renames ρ ss,
          row-renames ρ ts,
          flattenings-rename ρ f ss,
          flattenings-rename ρ f ts,
        )
        (ap₂ (cond (symbol_of σ f).ac) (multiset_equal-map (rename ρ) like (flattenings f ss) (flattenings f ts))
        (row_equal-map (rename ρ) like (row ss) (row ts)))

    is_equivalent_to-rename : (n : ℕ) (s t : Term) → Over Among s → Over Among t →
        is_equivalent_to σ n (rename ρ s) (rename ρ t) ≡ is_equivalent_to σ n s t
    unfolding is_equivalent_to
    is_equivalent_to-rename zero s t h k = refl
    is_equivalent_to-rename (suc n) (var x) (var y) h k = eqb-rename x y (over-var Among x h) (over-var Among y k)
    is_equivalent_to-rename (suc n) (var x) (app g ts) h k = refl
    is_equivalent_to-rename (suc n) (app f ss) (var y) h k = refl
    is_equivalent_to-rename (suc n) (app f ss) (app g ts) h k =
        let like = is_equivalent_to σ n in
        ap (◌&&◌ (eqb f g)) (arguments_alike-along like f ss ts
        ∙ arguments_alike-agree σ (Over Among) (Over Among) (along (rename ρ) like) like (is_equivalent_to-rename n) f ss
        ts (over-parts Among (app f ss) h) (over-parts Among (app f ts) k))

    pub is_equivalent-rename : (s t : Term) → Over Among s → Over Among t →
        is_equivalent σ (rename ρ s) (rename ρ t) ≡ is_equivalent σ s t
    unfolding is_equivalent
    is_equivalent-rename s t h k = rw (size-rename ρ s) (is_equivalent_to-rename (size s) s t h k)
