-- How many rows of ground terms there are, in a table of 64 cells, and how many symbols have each arity.
use Rattle.std.specs.Prelude.{◌≡◌, List, cond, ℕ, suc, zero, ◌+◌, ◌-◌, ◌*◌, ◌<◌, eqb, length, get_or}
use Rattle.terms.specs.Signature.{Signature, symbol_of}
use Rattle.terms.specs.Enumeration.{ground_rows}

-- The number, or 65,536 if it is more.
abbrev pub capped : ℕ → ℕ
capped n = n - (n - 65536)

unfoldable pub row_count : Signature → ℕ → ℕ → ℕ
row_count σ nodes terms = capped (length (ground_rows σ nodes terms))

-- The cells before an index, eight for each count of nodes.
abbrev pub CellsTo : Signature → ℕ → List ℕ → Type 0
CellsTo σ to cells =
    (nodes terms : ℕ) → terms < 8 → 8 * nodes + terms < to → get_or cells (8 * nodes + terms) 0 ≡ row_count σ nodes terms

abbrev pub Cells : Signature → List ℕ → Type 0
Cells σ cells = CellsTo σ 64 cells

-- How many of n symbols from f on have that arity.
abbrev pub arity_count : Signature → ℕ → ℕ → ℕ → ℕ
arity_count σ a f zero = 0
arity_count σ a f (suc n) = cond (eqb (symbol_of σ f).arity a) 1 0 + arity_count σ a (suc f) n

-- How many symbols have each arity below 8.
abbrev pub ArityCounts : Signature → List ℕ → Type 0
ArityCounts σ counts = (a : ℕ) → a < 8 → get_or counts a 0 ≡ arity_count σ a 0 (length σ.symbols)
