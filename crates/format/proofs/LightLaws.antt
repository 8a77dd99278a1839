-- Sides that are not too heavy.
--     light-of, light-weight, light-same    a term whose weight and counts are at most the maximum
--     Unscaled, unscaled-light, unscaled-side  under a signature without coefficients no side is too heavy
--     unscaled-formed                  a file whose form has none has such a signature
use mathlib.Core.Path.{◌≡◌, refl, ap}
use mathlib.Core.List.{List, [], ◌∷◌, ◌++◌}
use mathlib.Core.Bool.{Bool, true, false, cond, ◌&&◌, and-eq-true_iff as both}
use Prim.Native.Nat.{ℕ, suc, zero, ◌+◌, ◌-◌, ◌*◌, ◌≤◌}
use native.Mathlib.Nat.{mul-suc}
use native.Mathlib.Omega.{arith}
use lib.ListN.{length, get_or, take, drop, take-append-drop}
use lib.Dec.{eqb, ltb, leb}
use borrow.Author.Tests.{le-leb, leb-true}
use Rattle.multisets.proofs.Relations.{by_test}
use Rattle.terms.specs.Signature.{Signature, symbol_of, coefficients_of, Ones}
use Rattle.terms.specs.Term.{Term, arguments, measure, measures, plain, weight, variable_coefficient, variable_count}
use Rattle.terms.specs.Term.Term.{var}
use Rattle.terms.specs.Words.{first_variable, forest_of, term_of}
use Rattle.terms.proofs.MeasureLaws.{measure-ones}
use Rattle.format.specs.Layout.{max_nodes, max_weight}
use Rattle.format.specs.Forms.{has_coefficients}
use Rattle.format.specs.Reading.{Source}
use Rattle.format.specs.Format.{RuleFile, counts_light, is_light, nodes_reader, side_reader}
use Rattle.format.specs.Statements.{Unscaled, WellFormedFile}
use Rattle.format.proofs.ReadingLaws.{HoldsOf, holds-map, and_then-held}
use Rattle.format.proofs.FormatLaws.{nodes-read}
use Rattle.format.proofs.SideLaws.{forest-le}
use Rattle.format.proofs.SymbolLaws.{ones-of-plain}

counts-light : (σ : Signature) (t : Term) → ((x : ℕ) → variable_coefficient σ x t ≤ max_weight) → (n : ℕ) →
    counts_light n σ t ≡ true
counts-light σ t h zero = refl
counts-light σ t h (suc n) = (both _ _).1 (le-leb (variable_coefficient σ n t) max_weight (h n), counts-light σ t h n)

pub light-of : (σ : Signature) (t : Term) → weight σ t ≤ max_weight →
    ((x : ℕ) → variable_coefficient σ x t ≤ max_weight) → is_light σ t ≡ true
light-of σ t w h = (both _ _).1 (le-leb (weight σ t) max_weight w, counts-light σ t h variable_count)

pub light-weight : (σ : Signature) (t : Term) → is_light σ t ≡ true → weight σ t ≤ max_weight
light-weight σ t e = leb-true (weight σ t) max_weight ((both (leb (weight σ t) max_weight) _).0 e).0

-- Terms that weigh alike and have the same counts.
pub light-same : (σ : Signature) (s t : Term) → weight σ s ≡ weight σ t →
    ((x : ℕ) → variable_coefficient σ x s ≡ variable_coefficient σ x t) → is_light σ s ≡ is_light σ t
light-same σ s t w h = rw w (ap (λ (b : Bool). leb (weight σ t) max_weight && b) (counts variable_count))
  where
    counts : (n : ℕ) → counts_light n σ s ≡ counts_light n σ t
    counts zero = refl
    counts (suc n) = rw (h n, counts n)

-- ---- without coefficients

module _ (σ : Signature) (v w : ℕ → ℕ) (bound : ℕ) (hv : (x : ℕ) → v x ≤ bound) (hw : (f : ℕ) → w f ≤ bound) where
  -- What some terms measure together.
  abbrev all : List Term → ℕ
  all ts = measures plain v w (arguments ts) []

  all_append : (ts us : List Term) → all (ts ++ us) ≡ all ts + all us
  all_append [] us = omega arith
  all_append (t ∷ ts) us = omega (arith, all_append ts us)

  forest-measure : (ws : List ℕ) → all (forest_of σ ws) ≤ bound * length ws
  unfolding forest_of
  forest-measure [] = omega arith
  forest-measure (u ∷ ws) =
      let ts = forest_of σ ws in
      let n = (symbol_of σ u).arity in
      let split = ap all (take-append-drop n ts) in
      let more = mul-suc bound (length ws) in
      by_test (ltb u first_variable)
      (λ e. rw e (omega (arith, hw u, all_append (take n ts) (drop n ts), forest-measure ws)))
      λ e. rw e (omega (arith, hv (u - first_variable), forest-measure ws))

  first-measure : (ts : List Term) → measure plain v w (get_or ts 0 (var 0)) ≤ all ts + bound
  first-measure [] = omega (arith, hv 0)
  first-measure (t ∷ ts) = omega arith

  term-measure : Ones σ → (ws : List ℕ) → measure (coefficients_of σ) v w (term_of σ ws) ≤ bound * length ws + bound
  term-measure ones ws =
      omega (
        arith,
        measure-ones (coefficients_of σ) v w ones (term_of σ ws),
        first-measure (forest_of σ ws),
        forest-measure ws,
      )

one-or-none : (x y : ℕ) → cond (eqb x y) 1 0 ≤ 65535
one-or-none x y = by_test (eqb x y) (λ e. rw e (omega arith)) λ e. rw e (omega arith)

module _ (σ : Signature) (unscaled : Unscaled σ) where
  pub unscaled-light : (ws : List ℕ) → length ws ≤ max_nodes → is_light σ (term_of σ ws) ≡ true
  unscaled-light ws h =
      light-of σ (term_of σ ws)
      (omega (
        arith,
        term-measure σ (λ x. σ.w0) (λ f. (symbol_of σ f).weight) 65535 (λ x. omega (arith, unscaled.w0))
            (λ f. omega (arith, unscaled.weight f)) unscaled.ones ws,
      ))
      λ x. omega (
        arith,
        term-measure σ (λ y. cond (eqb x y) 1 0) (λ f. 0) 65535 (one-or-none x) (λ f. omega arith) unscaled.ones ws,
      )

  pub unscaled-side : (source : Source) (limit unused at : ℕ) → limit ≤ max_nodes →
      side_reader source limit unused σ at ≡ nodes_reader source limit unused σ at
  unfolding side_reader HoldsOf
  unscaled-side source limit unused at h =
      and_then-held (nodes_reader source limit unused σ at) _
      (holds-map _ _ (nodes_reader source limit unused σ at) (nodes-read source limit unused σ at) λ ws end (f, o, p).
      rw (unscaled-light ws (omega (arith, forest-le σ f))))

pub unscaled-formed : (file : RuleFile) → WellFormedFile file → has_coefficients file.form ≡ false →
    Unscaled file.signature
unscaled-formed file w e = record {
  ones = ones-of-plain file.signature (w.plain e);
  w0 = w.within.w0;
  weight = w.within.weight;
}
