-- Variables counted with the products above them, and the first that occurs oftener.
--     counted_start, counted-more, counted_same, counted     word by word
--     counted-light                                          each count is below the limit
--     more-step, more-oftener                                the first that is greater is the first that occurs oftener
use mathlib.Core.List.{List}
use mathlib.Core.Bool.{cond}
use mathlib.Core.Path.{◌≡◌, refl, sym, ap, ◌∙◌}
use Prim.Native.Nat.{ℕ, suc, zero, ◌+◌, ◌-◌, ◌*◌, ◌≤◌, ◌<◌}
use native.Mathlib.Nat.{mul-one, mul-zero, mul_comm, mul_assoc, mul-pos, mul-le-mul}
use native.Mathlib.Nat.{mul-lt-mul_of_pos_left, mul-le-mul_left}
use native.Mathlib.Omega.{arith}
use lib.Dec.{eqb, ltb}
use lib.ListN.{length, get_or, set, replicate, get_or-replicate}
use lib.Seq.{get_or-set_same, get_or-set_other}
use borrow.Author.Tests.{lt-ltb, le-ltb, eq-eqb, eqb-true, eqb-false}
use Rattle.multisets.proofs.Relations.{by_order, by_test}
use Rattle.terms.specs.Signature.{Signature}
use Rattle.terms.specs.Term.{Term, variable_coefficient, variable_count}
use Rattle.terms.specs.Words.{first_variable, term_of}
use Rattle.terms.specs.Oftener.{oftener_from, first_oftener}
use Rattle.scaling.specs.declared.sums.Offset.{Offset}
use Rattle.scaling.specs.Scaled.{limit, factor_at, count_to, offset_in, Side, Ends, CountedAt, more_from}
use Rattle.scaling.proofs.OffsetLaws.{scaled_to-suc, part-scaled, scaled-le, count-light}

-- The counts of the words from i to before k.
abbrev pub CountedTo : Signature → List ℕ → ℕ → ℕ → List ℕ → Type 0
CountedTo σ ws i k counts = (x : ℕ) → x < variable_count → count_to σ x ws i + get_or counts x 0 ≡ count_to σ x ws k

pub counted_start : (σ : Signature) (ws : List ℕ) (i : ℕ) → CountedTo σ ws i i (replicate 16 0)
counted_start σ ws i x h = omega (arith, get_or-replicate {A = ℕ} 16 x 0 0 h)

module _ {σ : Signature} {ws : List ℕ} {sums : List Offset} (S : Side σ ws sums) where
  light : (x : ℕ) → variable_coefficient σ x (term_of σ ws) < limit
  light x = omega (arith, count-light σ S.positive x (term_of σ ws), S.light)

  counts-below : (x k : ℕ) → count_to σ x ws k < limit
  counts-below x k = scaled-le S.scaling S.term (λ y. cond (eqb x y) 1 0) (λ f. 0) (light x) k

  module _ (i k : ℕ) (counts : List ℕ) (h : k < length ws) (so : CountedTo σ ws i k counts) where
    abbrev u : ℕ
    u = get_or ws k 0

    one_more : (x : ℕ) → count_to σ x ws (k + 1) ≡
        count_to σ x ws k + factor_at σ ws k * cond (ltb u first_variable) 0 (cond (eqb x (u - first_variable)) 1 0)
    one_more x =
        let q : k + 1 ≡ suc k = omega arith in
        rw q (scaled_to-suc σ ws k h (λ y. cond (eqb x y) 1 0) (λ f. 0))

    pub counted_same : u < first_variable → CountedTo σ ws i (k + 1) counts
    counted_same l x m =
        let e = rw (lt-ltb u first_variable l) at (one_more x) in omega (arith, mul-zero (factor_at σ ws k), so x m)

    module _ (l : first_variable ≤ u) (m : u < 272) (room : length counts ≡ 16) where
      abbrev y : ℕ
      y = u - first_variable

      at_own : count_to σ y ws (k + 1) ≡ count_to σ y ws k + factor_at σ ws k
      at_own =
          let e = rw (le-ltb u first_variable l, eq-eqb y y refl) at (one_more y) in
          omega (arith, mul-one (factor_at σ ws k))

      pub own-fits : (offset_in sums k).product ≡ factor_at σ ws k →
          get_or counts y 0 + (offset_in sums k).product < limit
      own-fits f = omega (arith, so y (omega arith), at_own, counts-below y (k + 1))

      pub counted-more : {f : ℕ} → f ≡ factor_at σ ws k →
          CountedTo σ ws i (k + 1) (set counts y (get_or counts y 0 + f))
      counted-more {f} d x n =
          by_test (eqb x y)
          (λ e.
          let q : x ≡ y = omega (arith, eqb-true x y e) in
          rw q (omega (
            arith,
            get_or-set_same counts y (get_or counts y 0 + f) 0 (omega arith),
            so y (omega arith),
            at_own,
          )))
          λ e.
          let o = rw (le-ltb u first_variable l, e) at (one_more x) in
          omega (
            arith,
            get_or-set_other counts y x (get_or counts y 0 + f) 0 (eqb-false x y e),
            so x n,
            mul-zero (factor_at σ ws k),
          )

  module _ {i end : ℕ} (P : Ends σ ws i end) (counts : List ℕ) where
    pub counted : CountedTo σ ws i end counts → CountedAt σ ws i counts
    counted so x h =
        let e = part-scaled S.scaling S.term (λ y. cond (eqb x y) 1 0) (λ f. 0) (light x) i P.inside in
        omega (arith, so x h, ap (count_to σ x ws) P.ends)

    pub counted-light : CountedAt σ ws i counts → (x : ℕ) → x < variable_count → get_or counts x 0 < limit
    counted-light so x h =
        let e = part-scaled S.scaling S.term (λ y. cond (eqb x y) 1 0) (λ f. 0) (light x) i P.inside in
        omega (arith, so x h, ap (count_to σ x ws) P.ends, counts-below x end)

-- ---- the first that occurs oftener

pub more-step : (left : List ℕ) (f : ℕ) (right : List ℕ) (g x : ℕ) → x < variable_count →
    get_or right x 0 * f ≤ get_or left x 0 * g →
    more_from left f right g (x + 1) (variable_count - (x + 1)) ≡ more_from left f right g x (variable_count - x)
unfolding more_from
more-step left f right g x h l =
    let e : variable_count - x ≡ suc (variable_count - (x + 1)) = omega arith in
    let q : x + 1 ≡ suc x = omega arith in
    rw (e, le-ltb _ _ l, q)

pub more-found : (left : List ℕ) (f : ℕ) (right : List ℕ) (g x : ℕ) → x < variable_count →
    get_or left x 0 * g < get_or right x 0 * f → x ≡ more_from left f right g x (variable_count - x)
unfolding more_from
more-found left f right g x h l =
    let e : variable_count - x ≡ suc (variable_count - (x + 1)) = omega arith in
    rw (e, lt-ltb _ _ l)

pub more-none : (left : List ℕ) (f : ℕ) (right : List ℕ) (g x : ℕ) → x ≡ variable_count →
    variable_count ≡ more_from left f right g x (variable_count - x)
unfolding more_from
more-none left f right g x e = rw e

-- Both sides times two positive numbers.
scaled-test : (f g a b : ℕ) → 0 < f → 0 < g → ltb (f * a * g) (g * b * f) ≡ ltb a b
scaled-test f g a b p q =
    let x : f * a * g ≡ f * g * a = mul_assoc f a g ∙ ap (◌*◌ f) (mul_comm a g) ∙ sym (mul_assoc f g a) in
    let y : g * b * f ≡ f * g * b = mul_comm (g * b) f ∙ sym (mul_assoc f g b) in
    by_order a b
    (λ l. rw (x, y, lt-ltb a b l) (lt-ltb _ _ (mul-lt-mul_of_pos_left l (mul-pos p q))))
    λ l. rw (x, y, le-ltb a b l) (le-ltb _ _ (mul-le-mul_left (f * g) l))

module _ (σ : Signature) (s t : Term) (left right : List ℕ) (f g : ℕ) (p : 0 < f) (q : 0 < g)
    (L : (x : ℕ) → x < variable_count → get_or left x 0 ≡ f * variable_coefficient σ x s)
    (R : (x : ℕ) → x < variable_count → get_or right x 0 ≡ g * variable_coefficient σ x t) where
  more-from : (n x : ℕ) → x + n ≤ variable_count → more_from left f right g x n ≡ oftener_from σ x n s t
  unfolding more_from oftener_from
  more-from zero x h = refl
  more-from (suc n) x h =
      rw (
        L x (omega arith),
        R x (omega arith),
        scaled-test f g (variable_coefficient σ x s) (variable_coefficient σ x t) p q,
        more-from n (suc x) (omega arith),
      )

  pub more-oftener : more_from left f right g 0 variable_count ≡ first_oftener σ s t
  unfolding first_oftener
  more-oftener = more-from variable_count 0 (omega arith)

pub below-product : {a b : ℕ} → a < limit → b ≤ limit → a * b ≤ 18446744069414584320
below-product {a} {b} h k = mul-le-mul (let l : a ≤ 4294967295 = omega arith in l) k
