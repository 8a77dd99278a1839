-- The symbol table as words, and the signature that it means. The header's four words are those of a sheet: the form is
-- the first, w0 the third. Each symbol has four words. Where symbols have no coefficients they are those of a sheet
-- too; else the first has the arity in its three lowest bits and the highest bits of the coefficients in the others, the
-- second the AC mark in its lowest bit and the other bits of the coefficients above it.
use Rattle.std.specs.Prelude.{List, [], ◌∷◌, ◌++◌, map, Bool, cond, ℕ, suc, zero, ◌+◌, ◌-◌, ◌*◌, ◌/◌, ◌%◌, eqb, length, get_or}
use Rattle.terms.specs.Signature.{Symbol, Signature}
use Rattle.format.specs.Layout.{form_number}
use Rattle.format.specs.Forms.{has_coefficients}
use Rattle.format.specs.Symbols.{ones}
use Rattle.format.specs.Packing.{item_word, symbol_items}

-- The n lowest hexadecimal digits of a number, the lowest last: a symbol's coefficients as one number, its row.
unfoldable pub digits : ℕ → ℕ → List ℕ
digits zero row = []
digits (suc n) row = digits n (row / 16) ++ (row % 16 ∷ [])

-- The number with these digits after its own, and the number of the digits alone.
unfoldable pub spelled_after : ℕ → List ℕ → ℕ
spelled_after row [] = row
spelled_after row (k ∷ ks) = spelled_after (16 * row + k) ks

abbrev pub spelled : List ℕ → ℕ
spelled ks = spelled_after 0 ks

-- Seven digits of 1, the row of an entry of arity 7 without coefficients.
abbrev pub seven_ones : ℕ
seven_ones = 17895697

-- The words of an entry that has coefficients.
abbrev pub scaled_words : ℕ → ℕ → ℕ → ℕ → ℕ → List ℕ
scaled_words arity ac weight rank row = (8 * (row / 32768) + arity) ∷ (2 * (row % 32768) + ac) ∷ weight ∷ rank ∷ []

abbrev pub row_at : List ℕ → ℕ → ℕ
row_at table f = 32768 * (get_or table (4 * f + 4) 0 / 8) + get_or table (4 * f + 5) 0 / 2

-- The symbol of number f, by whether symbols have coefficients; words past the end are zeros.
abbrev pub symbol_in : Bool → List ℕ → ℕ → Symbol
symbol_in scaled table f = record {
  arity = get_or table (4 * f + 4) 0 % 8;
  ac = eqb (get_or table (4 * f + 5) 0 % 2) 1;
  weight = get_or table (4 * f + 6) 0;
  precedence = get_or table (4 * f + 7) 0;
  coefficients =
      cond scaled (digits (get_or table (4 * f + 4) 0 % 8) (row_at table f)) (ones (get_or table (4 * f + 4) 0 % 8));
}

-- The n symbols from number f on.
abbrev pub symbols_in : Bool → List ℕ → ℕ → ℕ → List Symbol
symbols_in scaled table f zero = []
symbols_in scaled table f (suc n) = symbol_in scaled table f ∷ symbols_in scaled table (suc f) n

-- The form of the file.
abbrev pub form_of : List ℕ → ℕ
form_of table = get_or table 0 0

abbrev pub symbol_at : List ℕ → ℕ → Symbol
symbol_at table = symbol_in (has_coefficients (form_of table)) table

abbrev pub symbols_at : List ℕ → ℕ → ℕ → List Symbol
symbols_at table = symbols_in (has_coefficients (form_of table)) table

-- The weight of a variable.
abbrev pub weight_of : List ℕ → ℕ
weight_of table = get_or table 2 0

-- The last symbol's words may be fewer than four.
unfoldable pub signature_of : List ℕ → Signature
signature_of table = record { w0 = weight_of table; symbols = symbols_at table 0 ((length table - 1) / 4) }

-- How many words a table of so many symbols has, and how many one may have.
unfoldable pub table_words : ℕ → ℕ
table_words n = 4 + 4 * n

abbrev pub max_table_words : ℕ
max_table_words = 1024

-- The words of the symbols in a sheet of a form without coefficients, and all words before the rules, of which the
-- first is the form.
abbrev pub symbols_words : List Symbol → List ℕ
symbols_words [] = []
symbols_words (s ∷ ss) = map item_word (symbol_items form_number s) ++ symbols_words ss

abbrev pub front_words : ℕ → Signature → ℕ → List ℕ
front_words form σ rules = form ∷ length σ.symbols ∷ σ.w0 ∷ rules ∷ symbols_words σ.symbols
