-- Sums over words that are measures of terms, and what each node word adds to them.
use Rattle.std.specs.Prelude.{List, [], ◌∷◌, cond, ◌≡◌, ℕ, suc, zero, ◌+◌, ◌-◌, ◌*◌, ◌≤◌, ◌<◌, ltb, length, get_or}
use Rattle.terms.specs.Signature.{Signature, symbol_of, Ones}
use Rattle.terms.specs.Term.{Term, measure, plain}
use Rattle.terms.specs.Words.{first_variable}
use Rattle.weights.specs.declared.totals.Totals.{Totals}
use Rattle.weights.specs.Digits.{digit}

-- The sum over the words of v at the variables and w at the symbols.
module _ (v w : ℕ → ℕ) where
  abbrev pub node : ℕ → ℕ
  node u = cond (ltb u first_variable) (w u) (v (u - first_variable))

  abbrev pub nodes : List ℕ → ℕ
  nodes [] = 0
  nodes (u ∷ us) = node u + nodes us

-- How many node words there are.
abbrev pub node_words : ℕ
node_words = 272

-- The sums over no words.
abbrev pub none : Totals
none = record { weight = 0; low = 0; high = 0 }

-- What is stored for an index.
abbrev pub stored_for : List Totals → ℕ → Totals
stored_for sums k = get_or sums k none

-- The sums of n nodes: a weight is below 65,536, a place value at most 256 to the power of 7.
pub record SumsWithin (n : ℕ) (r : Totals) : Type 0 where
  pub weight : r.weight ≤ 65536 * n
  pub low : r.low ≤ 72057594037927936 * n
  pub high : r.high ≤ 72057594037927936 * n

module _ (σ : Signature) where
  -- What is summed up: weights, the occurrences of the variables 0 to 7, those of the variables 8 to 15.
  abbrev pub at_variable : ℕ → ℕ → ℕ
  at_variable zero x = σ.w0
  at_variable (suc zero) x = digit 0 8 x
  at_variable (suc (suc kind)) x = digit 8 8 x

  abbrev pub at_symbol : ℕ → ℕ → ℕ
  at_symbol zero f = (symbol_of σ f).weight
  at_symbol (suc kind) f = 0

  abbrev pub node_sum : ℕ → ℕ → ℕ
  node_sum kind = node (at_variable kind) (at_symbol kind)

  abbrev pub word_sum : ℕ → List ℕ → ℕ
  word_sum kind = nodes (at_variable kind) (at_symbol kind)

  abbrev pub term_sum : ℕ → Term → ℕ
  term_sum kind = measure plain (at_variable kind) (at_symbol kind)

  -- What a word adds to the sums.
  pub record NodeTotals (word : ℕ) (r : Totals) : Type 0 where
    pub weight : r.weight ≡ node_sum 0 word
    pub low : r.low ≡ node_sum 1 word
    pub high : r.high ≡ node_sum 2 word
    pub light : r.weight < 65536
    pub small : SumsWithin 1 r

  -- What is stored for the node words is what each adds to the sums, where every coefficient is 1.
  pub record NodeSums (adds : List Totals) : Type 0 where
    pub few : length σ.symbols ≤ first_variable
    pub ones : Ones σ
    pub sum : (word : ℕ) → word < node_words → NodeTotals word (stored_for adds word)

  -- Stored so far: what the symbols below n add; what the variables with words below n add; all else as it was.
  pub record Weighed (n : ℕ) (before after : List Totals) : Type 0 where
    pub stored : (f : ℕ) → f < n → NodeTotals f (stored_for after f)
    pub others : (j : ℕ) → n ≤ j → stored_for after j ≡ stored_for before j

  pub record Occurring (n : ℕ) (before after : List Totals) : Type 0 where
    pub stored : (word : ℕ) → 256 ≤ word → word < n → NodeTotals word (stored_for after word)
    pub others : (j : ℕ) → j < 256 → stored_for after j ≡ stored_for before j
    pub past : (j : ℕ) → n ≤ j → stored_for after j ≡ stored_for before j
