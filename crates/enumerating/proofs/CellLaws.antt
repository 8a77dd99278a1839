-- The cells of the table of counts, and the counts of arities.
--     no-nodes, no-terms, too_many              cells with no node, no term, more terms than nodes
--     row-begun, row_step, row-end              a cell as a sum over arities, step by step
--     no-constants                              without constants there are no terms
--     cells-none, cells-more                    the table without constants, and with one cell more
--     counts-begun, counts-small, counts-one, counts-past, counts_end     the counts of arities
use mathlib.Core.List.{List}
use mathlib.Core.Path.{◌≡◌, refl, sym, ap, ◌∙◌}
use Prim.Native.Nat.{ℕ, suc, zero, ◌+◌, ◌-◌, ◌*◌, ◌/◌, ◌%◌, ◌≤◌, ◌<◌}
use native.Mathlib.Nat.{zero-mul, mul-zero}
use native.Mathlib.Omega.{arith}
use mathlib.Core.Bool.{cond}
use lib.Dec.{eqb}
use lib.ListN.{length, get_or, set, replicate, length-map, get_or-replicate}
use lib.Seq.{get_or-set_same, get_or-set_other}
use borrow.Author.Tests.{ne_eqb, eqb-true, eqb-false}
use Rattle.multisets.proofs.Relations.{by_order, by_test}
use Rattle.terms.specs.Signature.{Signature, symbol_of}
use Rattle.terms.specs.Enumeration.{ground_rows}
use Rattle.terms.proofs.EnumerationLaws.{headed, rows_none, rows-symbol}
use Rattle.enumerating.specs.Counts.{capped, row_count, CellsTo, arity_count, ArityCounts}
use Rattle.enumerating.proofs.CountLaws.{capped-add, capped-times, sum_over, length_over, sum_same, sum-none}
use Rattle.enumerating.proofs.CountLaws.{by-arity, arity_count-le}

-- ---- cells

module _ (σ : Signature) where
  pub no-nodes : row_count σ 0 0 ≡ 1
  unfolding row_count ground_rows
  no-nodes = refl

  pub no-terms : (nodes terms : ℕ) → 0 < nodes → terms ≡ 0 → row_count σ nodes terms ≡ 0
  unfolding row_count ground_rows
  no-terms zero terms h e = absurd (omega arith)
  no-terms (suc nodes) terms h e = rw e

  pub too_many : (nodes terms : ℕ) → nodes < terms → row_count σ nodes terms ≡ 0
  unfolding row_count
  too_many nodes terms h = rw (rows_none σ nodes terms h)

  -- ---- a cell as a sum over arities

  abbrev pub rows_at : ℕ → ℕ → ℕ → ℕ
  rows_at nodes others a = length (ground_rows σ nodes (a + others))

  abbrev pub summand : ℕ → ℕ → ℕ → ℕ
  summand nodes others a = arity_count σ a 0 (length σ.symbols) * rows_at nodes others a

  row-sum : (nodes others to : ℕ) → nodes < to →
      length (ground_rows σ (suc nodes) (suc others)) ≡ sum_over (summand nodes others) 0 to
  row-sum nodes others to h =
      ap length (rows-symbol σ nodes others)
      ∙ length_over (λ f. headed f (ground_rows σ nodes ((symbol_of σ f).arity + others))) 0 (length σ.symbols)
      ∙ sum_same _ _ (λ f. length-map (ground_rows σ nodes ((symbol_of σ f).arity + others)) _) 0 (length σ.symbols)
      ∙ by-arity σ (rows_at nodes others) to
      (λ a l. ap length (rows_none σ nodes (a + others) (omega arith))) 0 (length σ.symbols)

  pub row-begun : (nodes others : ℕ) → nodes < 8 →
      capped (0 + sum_over (summand nodes others) 0 8) ≡ row_count σ (suc nodes) (suc others)
  unfolding row_count
  row-begun nodes others h = ap (λ n. capped (0 + n)) (sym (row-sum nodes others 8 h)) ∙ omega arith

  pub row_step : (nodes others total a count rows total' : ℕ) → a < 8 →
      count ≡ arity_count σ a 0 (length σ.symbols) → rows ≡ row_count σ nodes (a + others) →
      total' ≡ capped (total + capped (count * rows)) →
      capped (total' + sum_over (summand nodes others) (a + 1) (8 - (a + 1)))
      ≡ capped (total + sum_over (summand nodes others) a (8 - a))
  unfolding row_count
  row_step nodes others total a count rows total' h c r t =
      let s = summand nodes others in
      let e : 8 - a ≡ suc (8 - suc a) = omega arith in
      let d : a + 1 ≡ suc a = omega arith in
      let k : capped (count * rows) ≡ capped (s a) =
      ap (λ n. capped (count * n)) r ∙ capped-times count (rows_at nodes others a)
      ∙ ap (λ n. capped (n * rows_at nodes others a)) c in
      let rest = sum_over s (suc a) (8 - suc a) in
      ap (λ n. capped (total' + sum_over s n (8 - n))) d
      ∙ ap (λ n. capped (n + rest)) (t ∙ ap (λ n. capped (total + n)) k)
      ∙ capped-add total (s a) rest
      ∙ ap (λ n. capped (total + sum_over s a n)) (sym e)

  pub row-end : (nodes others total a : ℕ) → 8 ≤ a → total ≤ 65536 →
      capped (total + sum_over (summand nodes others) a (8 - a)) ≡ row_count σ (suc nodes) (suc others) →
      total ≡ row_count σ (suc nodes) (suc others)
  row-end nodes others total a h l e =
      let d : 8 - a ≡ 0 = omega arith in
      let k : capped (total + 0) ≡ row_count σ (suc nodes) (suc others) = rw d at e in
      let m : capped (total + 0) ≡ total = omega arith in sym m ∙ k

  -- ---- without constants

  module _ (none : arity_count σ 0 0 (length σ.symbols) ≡ 0) where
    pub no-constants : (nodes terms : ℕ) → 0 < nodes + terms → length (ground_rows σ nodes terms) ≡ 0
    unfolding ground_rows
    no-constants zero zero h = absurd (omega arith)
    no-constants zero (suc others) h = refl
    no-constants (suc nodes) zero h = refl
    no-constants (suc nodes) (suc others) h =
        row-sum nodes others (suc nodes) (omega arith)
        ∙ sum-none (summand nodes others) 0 (suc nodes)
        λ a i j. each a (λ b. no-constants nodes (suc b + others) (omega arith))
      where
        each : (a : ℕ) → ((b : ℕ) → rows_at nodes others (suc b) ≡ 0) → summand nodes others a ≡ 0
        each zero r = rw none (zero-mul (rows_at nodes others 0))
        each (suc b) r = rw (r b) (mul-zero (arity_count σ (suc b) 0 (length σ.symbols)))

    pub cells-none : CellsTo σ 64 (set (replicate 64 0) 0 1)
    unfolding row_count
    cells-none nodes terms few below =
        by_order 0 (8 * nodes + terms)
        (λ l. get_or-set_other (replicate 64 0) 0 (8 * nodes + terms) 1 0 (λ d. omega arith)
        ∙ get_or-replicate {A = ℕ} 64 (8 * nodes + terms) 0 0 below
        ∙ sym (ap capped (no-constants nodes terms (omega arith))))
        λ l. let m : nodes ≡ 0 = omega arith in
        let n : terms ≡ 0 = omega arith in
        rw (m, n) (sym (no-nodes))

  -- ---- the table

  pub cells-more : (cells : List ℕ) (i cell : ℕ) → CellsTo σ i cells → i < length cells →
      cell ≡ row_count σ (i / 8) (i % 8) → CellsTo σ (i + 1) (set cells i cell)
  cells-more cells i cell t h e nodes terms few below =
      by_order (8 * nodes + terms) i
      (λ l. get_or-set_other cells i (8 * nodes + terms) cell 0 (λ d. omega arith) ∙ t nodes terms few l)
      λ l. let at : 8 * nodes + terms ≡ i = omega arith in
      let m : i / 8 ≡ nodes = omega arith in
      let n : i % 8 ≡ terms = omega arith in
      rw at (get_or-set_same cells i cell 0 h) ∙ rw (m, n) at e

  -- ---- the counts of arities

  abbrev pub CountedTo : ℕ → List ℕ → Type 0
  CountedTo f counts =
      (a : ℕ) → a < 8 →
      get_or counts a 0 + arity_count σ a f (length σ.symbols - f) ≡ arity_count σ a 0 (length σ.symbols)

  pub counts-begun : CountedTo 0 (replicate 8 0)
  counts-begun a h =
      let e : length σ.symbols - 0 ≡ length σ.symbols = omega arith in
      rw e (omega (arith, get_or-replicate {A = ℕ} 8 a 0 0 h))

  pub counts-small : (f : ℕ) (counts : List ℕ) → CountedTo f counts → length σ.symbols < 256 → (a : ℕ) → a < 8 →
      get_or counts a 0 < 256
  counts-small f counts c h a l = omega (arith, c a l, arity_count-le σ a 0 (length σ.symbols))

  module _ (f : ℕ) (counts : List ℕ) (h : f < length σ.symbols) (c : CountedTo f counts) where
    counted : (more : List ℕ) →
        ((a : ℕ) → a < 8 → get_or more a 0 ≡ cond (eqb (symbol_of σ f).arity a) 1 0 + get_or counts a 0) →
        CountedTo (f + 1) more
    counted more m a l =
        let e : length σ.symbols - f ≡ suc (length σ.symbols - (f + 1)) = omega arith in
        let d : f + 1 ≡ suc f = omega arith in
        let k = rw e at (c a l) in
        rw d (omega (arith, m a l, rw d at k))

    module _ (arity : ℕ) (d : arity ≡ (symbol_of σ f).arity) where
      pub counts-one : arity < 8 → length counts ≡ 8 → CountedTo (f + 1) (set counts arity (get_or counts arity 0 + 1))
      counts-one h l =
          counted (set counts arity (get_or counts arity 0 + 1)) λ a k.
          rw (← d)
          (by_test (eqb arity a)
          (λ e. let t = eqb-true arity a e in
          rw (e, ← t) (get_or-set_same counts arity (get_or counts arity 0 + 1) 0 (omega arith) ∙ omega arith))
          λ e. rw e (get_or-set_other counts arity a (get_or counts arity 0 + 1) 0
          (λ d. eqb-false arity a e (sym d)) ∙ omega arith))

      pub counts-past : 8 ≤ arity → CountedTo (f + 1) counts
      counts-past h = counted counts λ a k. rw (← d) (rw (ne_eqb arity a (λ e. omega arith)) (omega arith))

  pub counts_end : (f : ℕ) (counts : List ℕ) → length σ.symbols ≤ f → CountedTo f counts → ArityCounts σ counts
  counts_end f counts h c a l =
      let e : length σ.symbols - f ≡ 0 = omega arith in
      let k = rw e at (c a l) in omega arith
