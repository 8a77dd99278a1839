-- What a symbol table says of a symbol, by index.
--     symbol-at     a symbol's entry is its four words, also past the end
--     arity-lt      an arity is below 8
--     length_symbols    so many symbols are so many
--     table-ones    every coefficient is 1 where symbols have none of their own
--     full_at       a symbol has a coefficient for each argument
--     symbol-count  how many symbols a table has
--     few-at        a table of at most 1,025 words has at most 256 symbols
use mathlib.Core.List.{List, []}
use mathlib.Core.Path.{◌≡◌, refl, sym, ap, ◌∙◌}
use mathlib.Core.Bool.{Bool, true, false, cond}
use Prim.Native.Nat.{ℕ, suc, zero, ◌+◌, ◌-◌, ◌*◌, ◌/◌, ◌%◌, ◌≤◌, ◌<◌}
use native.Mathlib.Omega.{arith}
use native.Mathlib.Nat.{add-zero, zero-add}
use lib.ListN.{length, length-append, length-replicate, get_or, get_or-eq_default}
use Rattle.multisets.proofs.Relations.{by_order}
use Rattle.terms.specs.Signature.{Symbol, symbol_of, Ones}
use Rattle.terms.proofs.MeasureLaws.{replicate-ones}
use Rattle.format.specs.Forms.{has_coefficients}
use Rattle.symbols.specs.Table.{digits, row_at, symbol_in, symbols_in, form_of, symbol_at, symbols_at, signature_of}

abbrev none : Symbol
none = record { arity = 0; ac = false; weight = 0; precedence = 0; coefficients = [] }

module _ (scaled : Bool) (table : List ℕ) where
  symbols-at : (g n f : ℕ) → f < n → get_or (symbols_in scaled table g n) f none ≡ symbol_in scaled table (f + g)
  symbols-at g zero f h = absurd (omega arith)
  symbols-at g (suc n) zero h = rw zero-add
  symbols-at g (suc n) (suc f) h =
      let e : f + suc g ≡ suc f + g = omega arith in
      symbols-at (suc g) n f (omega arith) ∙ ap (symbol_in scaled table) e

  pub length_symbols : (g n : ℕ) → length (symbols_in scaled table g n) ≡ n
  length_symbols g zero = refl
  length_symbols g (suc n) = ap suc (length_symbols (suc g) n)

past_end : (scaled : Bool) (table : List ℕ) (f : ℕ) → (length table - 1) / 4 ≤ f → symbol_in scaled table f ≡ none
unfolding digits
past_end scaled table f h =
    let past : (i : ℕ) → 3 < i → get_or table (4 * f + i) 0 ≡ 0 = λ i k. get_or-eq_default table 0 (omega arith) in
    rw (past 4 (omega arith), past 5 (omega arith), past 6 (omega arith), past 7 (omega arith)) (empty scaled)
  where
    empty : (scaled : Bool) →
        record { arity = 0; ac = false; weight = 0; precedence = 0; coefficients = cond scaled [] [] } ≡ none
    empty true = refl
    empty false = refl

pub symbol-at : (table : List ℕ) (f : ℕ) → symbol_of (signature_of table) f ≡ symbol_at table f
unfolding signature_of
symbol-at table f =
    let n = (length table - 1) / 4 in
    let scaled = has_coefficients (form_of table) in
    by_order f n (λ h. symbols-at scaled table 0 n f h ∙ ap (symbol_at table) (add-zero f))
    λ h. get_or-eq_default (symbols_at table 0 n) none (omega (arith, length_symbols scaled table 0 n))
    ∙ sym (past_end scaled table f h)

pub arity-lt : (table : List ℕ) (f : ℕ) → (symbol_of (signature_of table) f).arity < 8
arity-lt table f = rw (symbol-at table f) (omega arith)

pub table-ones : (table : List ℕ) → has_coefficients (form_of table) ≡ false → Ones (signature_of table)
table-ones table e f k m =
    replicate-ones (get_or table (4 * f + 4) 0 % 8) k
    (rw (ap (λ (s : Symbol). s.coefficients) (symbol-at table f), e) at m)

length_digits : (n row : ℕ) → length (digits n row) ≡ n
unfolding digits
length_digits zero row = refl
length_digits (suc n) row = simp length-append (omega (arith, length_digits n (row / 16)))

pub full_at : (table : List ℕ) (f : ℕ) →
    length (symbol_of (signature_of table) f).coefficients ≡ (symbol_of (signature_of table) f).arity
full_at table f = rw (symbol-at table f) (each (has_coefficients (form_of table)))
  where
    each : (scaled : Bool) → length (symbol_in scaled table f).coefficients ≡ (symbol_in scaled table f).arity
    each true = length_digits (get_or table (4 * f + 4) 0 % 8) (row_at table f)
    each false = length-replicate (get_or table (4 * f + 4) 0 % 8) 1

pub symbol-count : (table : List ℕ) → length (signature_of table).symbols ≡ (length table - 1) / 4
unfolding signature_of
symbol-count table = length_symbols (has_coefficients (form_of table)) table 0 ((length table - 1) / 4)

pub few-at : (table : List ℕ) → length table ≤ 1025 → length (signature_of table).symbols ≤ 256
few-at table h = omega (arith, symbol-count table)

-- What the functions on a table cite.
pub ruleset table_laws = (symbol-at, symbol-count)
