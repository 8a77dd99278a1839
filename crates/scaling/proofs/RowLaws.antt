-- What is stored for the node words, one after the other.
--     row_read                     the digits of a row are the coefficients
--     ranged-none, ranged-more     words from one on
--     node-rows                    all of them
use mathlib.Core.List.{List, []}
use mathlib.Core.Bool.{Bool, true, false}
use mathlib.Core.Path.{◌≡◌, refl, sym, ap, ◌∙◌}
use Prim.Native.Nat.{ℕ, suc, zero, ◌+◌, ◌*◌, ◌/◌, ◌%◌, ◌≤◌, ◌<◌}
use native.Mathlib.Omega.{arith}
use lib.ListN.{length, get_or, set, replicate, get_or-replicate, length-replicate, get_or-eq_default}
use borrow.Author.Tests.{lt-ltb}
use Rattle.multisets.proofs.Relations.{by_order}
use Rattle.terms.specs.Signature.{Symbol, Signature, symbol_of, coefficients_of}
use Rattle.terms.proofs.MeasureLaws.{replicate-ones}
use Rattle.format.specs.Forms.{has_coefficients}
use Rattle.format.specs.Symbols.{ones}
use Rattle.symbols.specs.Table.{digits, spelled, row_at, symbol_in, form_of, signature_of}
use Rattle.symbols.proofs.TableLaws.{symbol-at}
use Rattle.symbols.proofs.RowLaws.{spelled-snoc, digits-spelled}
use lib.Seq.{get_or-set_same, get_or-set_other}
use Rattle.scaling.specs.declared.rows.NodeRow.{NodeRow}
use Rattle.scaling.specs.Scaled.{no_row, row_in, Scaling, RowOf, NodeRows, Ranged}

-- What a signature says of a number that is no symbol's.
abbrev nothing : Symbol
nothing = record { arity = 0; ac = false; weight = 0; precedence = 0; coefficients = [] }

-- ---- the row of a symbol

digits-again : (n row : ℕ) → digits n (spelled (digits n row)) ≡ digits n row
unfolding digits
digits-again zero row = refl
digits-again (suc n) row =
    let s = spelled (digits n (row / 16)) in
    let q : (16 * s + row % 16) / 16 ≡ s = omega arith in
    let r : (16 * s + row % 16) % 16 ≡ row % 16 = omega arith in
    rw (spelled-snoc 0 (digits n (row / 16)) (row % 16), q, r, digits-again n (row / 16))

digits-ones : (n : ℕ) → digits n (spelled (ones n)) ≡ ones n
digits-ones n =
    rw (length-replicate {A = ℕ} n 1) at (digits-spelled (ones n) (λ k m. omega (arith, replicate-ones n k m)))

digits_in : (scaled : Bool) (table : List ℕ) (f : ℕ) →
    digits (symbol_in scaled table f).arity (spelled (symbol_in scaled table f).coefficients)
    ≡ (symbol_in scaled table f).coefficients
digits_in true table f = digits-again (get_or table (4 * f + 4) 0 % 8) (row_at table f)
digits_in false table f = digits-ones (get_or table (4 * f + 4) 0 % 8)

pub row_read : (table : List ℕ) (f : ℕ) {row : ℕ} → row ≡ spelled (coefficients_of (signature_of table) f) →
    digits (symbol_of (signature_of table) f).arity row ≡ coefficients_of (signature_of table) f
row_read table f e = rw e (read (symbol-at table f) (digits_in (has_coefficients (form_of table)) table f))
  where
    read : {s t : Symbol} → s ≡ t → digits t.arity (spelled t.coefficients) ≡ t.coefficients →
        digits s.arity (spelled s.coefficients) ≡ s.coefficients
    read d h = rw d h

-- ---- all node words

module _ (σ : Signature) where
  pub ranged-none : (from : ℕ) (rows : List NodeRow) → Ranged σ from from rows rows
  ranged-none from rows =
      record { inside = λ u h k. absurd (omega arith); lower = λ u h. refl; higher = λ u h. refl }

  pub ranged-more : (from to : ℕ) (before rows : List NodeRow) (r : NodeRow) → length rows ≡ 272 → from ≤ to → to < 272 →
      RowOf σ to r → Ranged σ from to before rows → Ranged σ from (to + 1) before (set rows to r)
  ranged-more from to before rows r long le lt e R = record {
    inside = λ u h k. by_order u to (λ l. rw (get_or-set_other rows to u r no_row (λ q. omega arith)) (R.inside u h l))
        λ l. let q : u ≡ to = omega arith in rw (q, get_or-set_same rows to r no_row (omega arith)) e;
    lower = λ u h. get_or-set_other rows to u r no_row (λ q. omega arith) ∙ R.lower u h;
    higher = λ u h. get_or-set_other rows to u r no_row (λ q. omega arith) ∙ R.higher u (omega arith);
  }

  module _ (S : Scaling σ) (middle after : List NodeRow)
      (R : Ranged σ 0 (length σ.symbols) (replicate 272 no_row) middle) (W : Ranged σ 256 272 middle after) where
    -- A symbol that the signature lacks weighs nothing and has no arguments.
    absent : (u : ℕ) → length σ.symbols ≤ u → u < 256 → RowOf σ u (row_in middle u)
    unfolding digits
    absent u h k =
        let none : symbol_of σ u ≡ nothing = get_or-eq_default σ.symbols nothing h in
        let zeros : row_in middle u ≡ no_row =
        R.higher u h ∙ get_or-replicate {A = NodeRow} 272 u no_row no_row (omega arith) in
        let r = ap (λ (s : Symbol). s.arity) none in
        rw zeros (record {
          weight = rw (lt-ltb u 256 k) (sym (ap (λ (s : Symbol). s.weight) none));
          light = omega arith;
          row = rw (r, ap (λ (s : Symbol). s.coefficients) none);
          arity = sym r;
        })

    pub node-rows : NodeRows σ after
    node-rows = record {
      scaling = S;
      node = λ u h. by_order u 256
          (λ l. rw (W.lower u l) (by_order u (length σ.symbols) (R.inside u (omega arith)) λ k. absent u k l))
          λ l. W.inside u l h;
    }
