-- The sums over a whole term, in three numbers.
use Rattle.std.specs.Prelude.{List, ◌≡◌, ℕ, ◌+◌, ◌-◌, ◌^◌, ◌≤◌, ◌<◌, Option, Some, None}
use Rattle.terms.specs.Signature.{Signature}
use Rattle.terms.specs.Term.{Term, size, weight, variable_count}
use Rattle.terms.specs.Words.{term_of}
use Rattle.weights.specs.declared.totals.Totals.{Totals}
use Rattle.weights.specs.Digits.{digits_of}
use Rattle.weights.specs.Nodes.{word_sum}

-- The sums of both.
abbrev pub added : Totals → Totals → Totals
added a b = record { weight = a.weight + b.weight; low = a.low + b.low; high = a.high + b.high }

pub record CanAdd (a b : Totals) : Type 0 where
  pub weight : a.weight + b.weight < 2 ^ 64
  pub low : a.low + b.low < 2 ^ 64
  pub high : a.high + b.high < 2 ^ 64

-- What is left of a less b.
abbrev pub taken : Totals → Totals → Totals
taken a b = record { weight = a.weight - b.weight; low = a.low - b.low; high = a.high - b.high }

pub record CanTake (a b : Totals) : Type 0 where
  pub weight : b.weight ≤ a.weight
  pub low : b.low ≤ a.low
  pub high : b.high ≤ a.high

-- The occurrences of the variables of a term of at most 128 nodes.
pub record Counted (t : Term) (r : Totals) : Type 0 where
  pub low : r.low ≡ digits_of 0 8 t
  pub high : r.high ≡ digits_of 8 8 t
  pub short : size t ≤ 128

-- Those of some term.
abbrev pub Counts : Totals → Type 0
Counts r = (t : Term) × Counted t r

-- 02's number of the variable that was found: 16 if none was.
abbrev pub oftener_number : Option ℕ → ℕ
oftener_number (Some x) = x
oftener_number None = variable_count

module _ (σ : Signature) where
  -- The sums over words.
  pub record WordTotals (ws : List ℕ) (r : Totals) : Type 0 where
    pub weight : r.weight ≡ word_sum σ 0 ws
    pub low : r.low ≡ word_sum σ 1 ws
    pub high : r.high ≡ word_sum σ 2 ws

  -- The weight of the term that words spell, of at most 128 nodes, and the occurrences of its variables.
  pub record Totalled (ws : List ℕ) (r : Totals) : Type 0 where
    pub weight : r.weight ≡ weight σ (term_of σ ws)
    pub counted : Counted (term_of σ ws) r
    pub small : r.weight ≤ 8388608
