-- Sums over words are measures of terms.
--     totals-forest               the words of some terms
--     term-sum                    the words of a term
--     place-below, place_at       the place value of a variable
--     occurrence-node             what a node adds to the digits
use mathlib.Core.List.{List, [], ◌∷◌, ◌++◌, append-nil}
use mathlib.Core.Path.{◌≡◌, refl, sym, ap, ◌∙◌}
use mathlib.Core.Bool.{cond}
use Prim.Native.Nat.{ℕ, suc, zero, ◌+◌, ◌-◌, ◌*◌, ◌/◌, ◌%◌, ◌^◌, ◌≤◌, ◌<◌}
use native.Mathlib.Omega.{arith}
use native.Mathlib.Nat.{pow-succ'}
use lib.Dec.{ltb, eqb}
use lib.ListN.{length, take, drop, take-append-drop}
use borrow.Author.Tests.{lt-ltb, le-ltb, eq-eqb, ne_eqb}
use Rattle.multisets.proofs.Relations.{by_test, by_order}
use Rattle.terms.specs.Signature.{Signature, symbol_of}
use Rattle.terms.specs.Term.{Term, measure, measures, plain, arguments}
use Rattle.terms.specs.Words.{first_variable, grow, forest_of, term_of}
use Rattle.terms.proofs.WordsLaws.{forest_of-words}
use Rattle.format.specs.Statements.{IsTerm}
use Rattle.weights.specs.Digits.{digit}
use Rattle.weights.specs.Nodes.{node, nodes}

-- ---- sums over words

module _ (σ : Signature) (v w : ℕ → ℕ) where
  abbrev pub totals : List Term → ℕ
  totals l = measures plain v w (arguments l) []

  totals-append : (l m : List Term) → totals (l ++ m) ≡ totals l + totals m
  totals-append [] m = omega arith
  totals-append (t ∷ l) m = omega (arith, totals-append l m)

  totals-grow : (u : ℕ) (ts : List Term) → totals (grow σ u ts) ≡ node v w u + totals ts
  totals-grow u ts =
      let a = (symbol_of σ u).arity in
      by_test (ltb u first_variable)
      (λ e. rw e (omega (arith, totals-append (take a ts) (drop a ts), ap totals (take-append-drop a ts))))
      λ e. rw e

  pub totals-forest : (us : List ℕ) → totals (forest_of σ us) ≡ nodes v w us
  unfolding forest_of
  totals-forest [] = refl
  totals-forest (u ∷ us) = totals-grow u (forest_of σ us) ∙ ap (λ (n : ℕ). node v w u + n) (totals-forest us)

-- The words of a term.
pub term-sum : (σ : Signature) → length σ.symbols ≤ first_variable → {ws : List ℕ} → IsTerm σ ws → (v w : ℕ → ℕ) →
    nodes v w ws ≡ measure plain v w (term_of σ ws)
unfolding forest_of
term-sum σ few {ws} p v w =
    let one = rw append-nil at (forest_of-words σ few (term_of σ ws) p.well_formed []) in
    sym (totals-forest σ v w ws) ∙ ap (λ (us : List ℕ). totals σ v w (forest_of σ us)) p.spelled
    ∙ ap (totals σ v w) one ∙ omega arith

-- ---- place values

pub place-below : (k n x : ℕ) → x < k → digit k n x ≡ 0
place-below k zero x h = refl
place-below k (suc n) x h =
    let d : k ≡ x → ⊥ = λ e. omega arith in rw (ne_eqb k x d, place-below (suc k) n x (omega arith))

pub place-past : (k n x : ℕ) → k + n ≤ x → digit k n x ≡ 0
place-past k zero x h = refl
place-past k (suc n) x h =
    let d : k ≡ x → ⊥ = λ e. omega arith in rw (ne_eqb k x d, place-past (suc k) n x (omega arith))

pub place_at : (n k d : ℕ) → d < n → digit k n (k + d) ≡ 256 ^ d
place_at zero k d h = absurd (omega arith)
place_at (suc n) k zero h =
    let e : k ≡ k + 0 = omega arith in
    rw (← e, eq-eqb k k refl, place-below (suc k) n k (omega arith))
place_at (suc n) k (suc d) h =
    let e : k ≡ k + suc d → ⊥ = λ e. omega arith in
    let f : k + suc d ≡ suc k + d = omega arith in
    rw (ne_eqb k (k + suc d) e, f, place_at n (suc k) d (omega arith))
    (omega (arith, pow-succ' 256 d))

pub power-shift : (d : ℕ) → d < 8 → (1 * 2 ^ (8 * d) % 2 ^ 64 ≡ 256 ^ d) × (256 ^ d ≤ 72057594037927936)
power-shift zero h = (refl, omega arith)
power-shift (suc zero) h = (refl, omega arith)
power-shift (suc (suc zero)) h = (refl, omega arith)
power-shift (suc (suc (suc zero))) h = (refl, omega arith)
power-shift (suc (suc (suc (suc zero)))) h = (refl, omega arith)
power-shift (suc (suc (suc (suc (suc zero))))) h = (refl, omega arith)
power-shift (suc (suc (suc (suc (suc (suc zero)))))) h = (refl, omega arith)
power-shift (suc (suc (suc (suc (suc (suc (suc zero))))))) h = (refl, omega arith)
power-shift (suc (suc (suc (suc (suc (suc (suc (suc d)))))))) h = absurd (omega arith)

-- ---- what a node adds

-- The eight variables from k on have the words from 8 * e on.
pub occurrence-node : (k e w : ℕ) → 8 * e ≡ 256 + k →
    cond (eqb (w / 8) e) (256 ^ (w % 8)) 0 ≡ node (digit k 8) (λ (f : ℕ). 0) w
occurrence-node k e w h =
    by_order w 256 (λ l. let d : w / 8 ≡ e → ⊥ = λ z. omega arith in rw (ne_eqb (w / 8) e d, lt-ltb w 256 l)) λ l.
    by_order w (256 + k)
    (λ m. let d : w / 8 ≡ e → ⊥ = λ z. omega arith in
    rw (ne_eqb (w / 8) e d, le-ltb w 256 l, place-below k 8 (w - 256) (omega arith)))
    λ m. by_order w (264 + k)
    (λ n. let x : w - 256 ≡ k + w % 8 = omega arith in
    rw (eq-eqb (w / 8) e (omega arith), le-ltb w 256 l, x, place_at 8 k (w % 8) (omega arith)))
    λ n. let d : w / 8 ≡ e → ⊥ = λ z. omega arith in
    rw (ne_eqb (w / 8) e d, le-ltb w 256 l, place-past k 8 (w - 256) (omega arith))
