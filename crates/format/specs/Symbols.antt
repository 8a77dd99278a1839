-- The symbol table of a rule file, over either source.
-- Renders: 01, "Book layout": "arity 3 bits, AC mark 1 bit, weight 16 bits, rank 8 bits"; "Replies and refusals",
-- "Reading a book", 6 to 8; 02, order 8: "Rank is known only when the table is read, so 7 for such a symbol is tested
-- after the last symbol and before the first rule, at its weight"; order 9: "after its rank, a 4-bit coefficient for
-- each argument, 1 to 15, and both are 1 for AC symbols".
use Rattle.std.specs.Prelude.{List, [], ◌∷◌, ◌++◌, Bool, false, cond, ◌&&◌, ◌||◌, not, ℕ, suc, zero, ◌+◌, ◌*◌, length, replicate, eqb, ltb, leb}
use Rattle.terms.specs.Signature.{Symbol}
use Rattle.format.specs.Errors.{ac_not_binary, weight_inadmissible, rank_taken, coefficient_inadmissible}
use Rattle.format.specs.Layout.{weight_width, arity_width, ac_width, rank_width, coefficient_width}
use Rattle.format.specs.Forms.{has_coefficients, least_weight_in}
use Rattle.format.specs.Reading.{Reader, ◌>>=◌, ◌>>◌, give, here, require, Source}

abbrev pub held_by : List Symbol → ℕ → Bool
held_by [] rank = false
held_by (s ∷ ss) rank = eqb rank s.precedence || held_by ss rank

-- A coefficient of 1 for each argument. 02, order 9: "Form 2 reads as all ones".
abbrev pub ones : ℕ → List ℕ
ones arity = replicate arity 1

-- Whether a number may be a coefficient of a symbol, AC or not. 02, order 9: "20 a coefficient of 0, or other than 1 on
-- an AC symbol".
abbrev pub is_coefficient : Bool → ℕ → Bool
is_coefficient ac k = cond ac (eqb k 1) (ltb 0 k)

-- Some symbol has a higher rank.
abbrev pub outranks : List Symbol → ℕ → Bool
outranks [] rank = false
outranks (s ∷ ss) rank = ltb rank s.precedence || outranks ss rank

-- How many of the symbols stand before the first of arity 1 that weighs 0 and that one of all outranks.
abbrev pub outranked_from : List Symbol → List Symbol → ℕ
outranked_from all [] = 0
outranked_from all (s ∷ ss) =
    cond (eqb s.arity 1 && (eqb s.weight 0 && outranks all s.precedence)) 0 (suc (outranked_from all ss))

-- The number of that symbol; where there is none, the count of symbols.
abbrev pub first_outranked : List Symbol → ℕ
first_outranked ss = outranked_from ss ss

module _ (source : Source) where
  -- One for each of so many arguments.
  unfoldable pub coefficients_reader : Bool → ℕ → Reader (List ℕ)
  coefficients_reader ac zero = give []
  coefficients_reader ac (suc n) = do
    offset ← here
    k ← source.field coefficient_width
    require (is_coefficient ac k) coefficient_inadmissible offset
    rest ← coefficients_reader ac n
    give (k ∷ rest)

  -- Those of a symbol in a file of that form.
  abbrev pub coefficients_in : ℕ → Bool → ℕ → Reader (List ℕ)
  coefficients_in form ac arity = cond (has_coefficients form) (coefficients_reader ac arity) (give (ones arity))

  -- In a file of that form, with that weight of a variable.
  unfoldable pub symbol_reader : ℕ → ℕ → List Symbol → Reader Symbol
  symbol_reader form w0 earlier = do
    arity_offset ← here
    arity ← source.field arity_width
    ac ← source.field ac_width
    require (eqb ac 0 || eqb arity 2) ac_not_binary arity_offset
    weight_offset ← here
    weight ← source.field weight_width
    require (leb (least_weight_in form w0 arity) weight) weight_inadmissible weight_offset
    rank_offset ← here
    rank ← source.field rank_width
    require (not (held_by earlier rank)) rank_taken rank_offset
    coefficients ← coefficients_in form (eqb ac 1) arity
    give (record { arity = arity; ac = eqb ac 1; weight = weight; precedence = rank; coefficients = coefficients })

  -- So many symbols more, after the earlier ones.
  unfoldable pub symbols_reader : ℕ → ℕ → ℕ → List Symbol → Reader (List Symbol)
  symbols_reader form w0 zero earlier = give earlier
  symbols_reader form w0 (suc n) earlier = do
    s ← symbol_reader form w0 earlier
    symbols_reader form w0 n (earlier ++ (s ∷ []))

  -- How far a symbol moves the offset on: up to its weight, and in all.
  abbrev pub weight_after : ℕ
  weight_after = source.moves arity_width + source.moves ac_width

  abbrev pub symbol_moves : ℕ → Symbol → ℕ
  symbol_moves form s =
      weight_after + source.moves weight_width + source.moves rank_width
      + cond (has_coefficients form) (s.arity * source.moves coefficient_width) 0

  -- The offset of the weight of the symbol of that number, where the symbols begin at an offset.
  abbrev pub weight_offset : ℕ → ℕ → List Symbol → ℕ → ℕ
  weight_offset form start [] f = start + weight_after
  weight_offset form start (s ∷ ss) zero = start + weight_after
  weight_offset form start (s ∷ ss) (suc f) = weight_offset form (start + symbol_moves form s) ss f

  -- So many symbols, and what is tested after the last of them.
  unfoldable pub symbol_table_reader : ℕ → ℕ → ℕ → Reader (List Symbol)
  symbol_table_reader form w0 n = do
    start ← here
    symbols ← symbols_reader form w0 n []
    require (eqb (first_outranked symbols) (length symbols)) weight_inadmissible
        (weight_offset form start symbols (first_outranked symbols))
    give symbols
