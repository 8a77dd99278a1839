-- The ranks of the symbols of a table, one by one.
--     Unranked: unranked-more                   a search for a higher rank
--     outranked-layout                          the words for coefficients have no part in it
--     Searched: searched-more                   a search for a symbol that is outranked
use mathlib.Core.Path.{◌≡◌, refl, ◌∙◌}
use mathlib.Core.List.{List}
use mathlib.Core.Bool.{Bool, false, ◌&&◌}
use Prim.Native.Nat.{ℕ, suc, zero, ◌+◌, ◌-◌, ◌*◌, ◌≤◌, ◌<◌}
use native.Mathlib.Numerals.{add-one}
use native.Mathlib.Omega.{arith}
use lib.Dec.{eqb}
use lib.ListN.{get_or}
use borrow.Author.Tests.{le-ltb}
use Rattle.terms.specs.Signature.{Symbol}
use Rattle.format.specs.Symbols.{outranks, outranked_from, first_outranked}
use Rattle.symbols.specs.Table.{symbols_in, symbol_at, symbols_at}

module _ (table : List ℕ) (count : ℕ) where
  module _ (rank : ℕ) where
    -- None before g has a higher rank.
    abbrev pub Unranked : ℕ → Type 0
    Unranked g = outranks (symbols_at table 0 count) rank ≡ outranks (symbols_at table g (count - g)) rank

    pub unranked-more : (g : ℕ) → g < count → Unranked g → get_or table (4 * g + 7) 0 ≤ rank → Unranked (g + 1)
    unranked-more g h so l =
        let n : count - g ≡ suc (count - suc g) = omega arith in
        so ∙ rw (n, le-ltb rank (get_or table (4 * g + 7) 0) l, add-one g)

  abbrev symbols : List Symbol
  symbols = symbols_at table 0 count

  -- A symbol of arity 1 that weighs 0 and is outranked.
  abbrev pub is_too_low : ℕ → Bool
  is_too_low f =
      eqb (symbol_at table f).arity 1 && (eqb (symbol_at table f).weight 0
      && outranks (symbols_at table 0 count) (symbol_at table f).precedence)

  -- None before f is.
  abbrev pub Searched : ℕ → Type 0
  Searched f = first_outranked symbols ≡ f + outranked_from symbols (symbols_at table f (count - f))

  pub searched-more : (f : ℕ) → f < count → Searched f → is_too_low f ≡ false → Searched (f + 1)
  searched-more f h so low =
      let n : count - f ≡ suc (count - suc f) = omega arith in
      let z : outranked_from symbols (symbols_at table f (count - f)) ≡
      suc (outranked_from symbols (symbols_at table (f + 1) (count - (f + 1)))) = rw (n, low, add-one f) in
      omega arith

-- ---- with and without coefficients

module _ (a b : Bool) (table : List ℕ) where
  outranks-layout : (f n rank : ℕ) → outranks (symbols_in a table f n) rank ≡ outranks (symbols_in b table f n) rank
  outranks-layout f zero rank = refl
  outranks-layout f (suc n) rank = rw (outranks-layout (suc f) n rank)

  from-layout : (f m g n : ℕ) → outranked_from (symbols_in a table f m) (symbols_in a table g n)
      ≡ outranked_from (symbols_in b table f m) (symbols_in b table g n)
  from-layout f m g zero = refl
  from-layout f m g (suc n) = rw (outranks-layout f m (get_or table (4 * g + 7) 0), from-layout f m (suc g) n)

  pub outranked-layout : (n : ℕ) → first_outranked (symbols_in a table 0 n) ≡ first_outranked (symbols_in b table 0 n)
  outranked-layout n = from-layout 0 n 0 n
