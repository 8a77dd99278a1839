-- The words of a term, each with the product of the coefficients above it, and sums that count a word that many times.
use Rattle.std.specs.Prelude.{List, [], ◌∷◌, cond, ◌≡◌, ℕ, suc, zero, ◌+◌, ◌*◌, ◌/◌, ◌%◌, ◌≤◌, ◌<◌, eqb, ltb, leb, length, get_or, set, take, drop}
use Rattle.terms.specs.Signature.{Signature, AllPositive, symbol_of, coefficients_of}
use Rattle.terms.specs.Term.{size, weight, variable_coefficient, variable_count}
use Rattle.terms.specs.Words.{first_variable, term_of}
use Rattle.format.specs.Statements.{IsTerm}
use Rattle.symbols.specs.Table.{digits}
use Rattle.subterms.specs.Parts.{part_at}
use Rattle.weights.specs.Nodes.{node}
use Rattle.scaling.specs.declared.rows.NodeRow.{NodeRow}
use Rattle.scaling.specs.declared.sums.Offset.{Offset}

-- 02: "Weighing now gives up to 4,294,967,295"; the first number above it.
abbrev pub limit : ℕ
limit = 4294967296

-- The number, cut off at the limit.
unfoldable pub cut : ℕ → ℕ
cut n = cond (leb n limit) n limit

-- m times each coefficient, before the products that stand there.
abbrev pub pushed : ℕ → List ℕ → List ℕ → List ℕ
pushed m [] ms = ms
pushed m (c ∷ cs) ms = cut (m * c) ∷ pushed m cs ms

-- The products for n digits, the lowest first.
unfoldable pub push_row : ℕ → ℕ → ℕ → List ℕ → List ℕ
push_row m zero row ms = ms
push_row m (suc n) row ms = push_row m n (row / 16) (cut (m * (row % 16)) ∷ ms)

-- What is stored for a node word, and for an offset.
abbrev pub no_row : NodeRow
no_row = record { weight = 0; row = 0; arity = 0 }

abbrev pub row_in : List NodeRow → ℕ → NodeRow
row_in rows u = get_or rows u no_row

abbrev pub offset_in : List Offset → ℕ → Offset
offset_in sums k = get_or sums k (record { sum = 0; product = 0 })

-- A stack with the products for the two lowest digits stored from an index on.
abbrev pub two_more : ℕ → ℕ → List ℕ → ℕ → List ℕ
two_more m row stack end = set (set stack end (cut (m * (row % 16)))) (end + 1) (cut (m * (row / 16 % 16)))

-- The first n numbers of a stack, the last of them first.
unfoldable pub listed : List ℕ → ℕ → List ℕ
listed stack zero = []
listed stack (suc n) = get_or stack n 0 ∷ listed stack n

module _ (σ : Signature) where
  -- The products for the terms that are called for, the next term's first: before a word, and after it.
  abbrev pub step : List ℕ → ℕ → List ℕ
  step ms u = pushed (get_or ms 0 0) (coefficients_of σ u) (drop 1 ms)

  unfoldable pub pending : List ℕ → List ℕ → List ℕ
  pending ms [] = ms
  pending ms (u ∷ us) = pending (step ms u) us

  -- Those before offset k of a term's words, and the product above the word there.
  abbrev pub pending_at : List ℕ → ℕ → List ℕ
  pending_at ws k = pending (1 ∷ []) (take k ws)

  abbrev pub factor_at : List ℕ → ℕ → ℕ
  factor_at ws k = get_or (pending_at ws k) 0 0

  module _ (v w : ℕ → ℕ) where
    -- The sum over words, each times its product, and that over the first k words of a term.
    unfoldable pub scaled_sum : List ℕ → List ℕ → ℕ
    scaled_sum ms [] = 0
    scaled_sum ms (u ∷ us) = get_or ms 0 0 * node v w u + scaled_sum (step ms u) us

    abbrev pub scaled_to : List ℕ → ℕ → ℕ
    scaled_to ws k = scaled_sum (1 ∷ []) (take k ws)

  abbrev pub own_weight : ℕ → ℕ
  own_weight = node (λ (x : ℕ). σ.w0) (λ (f : ℕ). (symbol_of σ f).weight)

  abbrev pub weight_to : List ℕ → ℕ → ℕ
  weight_to = scaled_to (λ (x : ℕ). σ.w0) (λ (f : ℕ). (symbol_of σ f).weight)

  abbrev pub count_to : ℕ → List ℕ → ℕ → ℕ
  count_to x = scaled_to (λ (y : ℕ). cond (eqb x y) 1 0) (λ (f : ℕ). 0)

  -- Each symbol has a coefficient for each argument, and none is 0.
  pub record Scaling : Type 0 where
    pub few : length σ.symbols ≤ first_variable
    pub full : (f : ℕ) → length (coefficients_of σ f) ≡ (symbol_of σ f).arity
    pub positive : (f : ℕ) → AllPositive (coefficients_of σ f)

  -- What is stored for a node word: its own weight, its coefficients, its arity.
  pub record RowOf (u : ℕ) (r : NodeRow) : Type 0 where
    pub weight : r.weight ≡ own_weight u
    pub light : r.weight < 65536
    pub row : digits (symbol_of σ u).arity r.row ≡ coefficients_of σ u
    pub arity : r.arity ≡ (symbol_of σ u).arity

  -- What is stored for all node words; for those from one on to before another, the others as they were.
  pub record NodeRows (rows : List NodeRow) : Type 0 where
    pub scaling : Scaling
    pub node : (u : ℕ) → u < 272 → RowOf u (row_in rows u)

  pub record Ranged (from to : ℕ) (before after : List NodeRow) : Type 0 where
    pub inside : (u : ℕ) → from ≤ u → u < to → RowOf u (row_in after u)
    pub lower : (u : ℕ) → u < from → row_in after u ≡ row_in before u
    pub higher : (u : ℕ) → to ≤ u → row_in after u ≡ row_in before u

  -- What is stored for each offset of a term: the sum of the weights before it, and the product above the word there;
  -- past the words, 1 in its place.
  pub record ScaledUp (ws : List ℕ) (sums : List Offset) : Type 0 where
    pub room : length sums ≡ 129
    pub past : (offset_in sums (length ws)).product ≡ 1
    pub before : (k : ℕ) → k ≤ length ws → (offset_in sums k).sum ≡ weight_to ws k
    pub factor : (k : ℕ) → k < length ws → (offset_in sums k).product ≡ factor_at ws k

  -- A term that is not too heavy, with what is stored for its offsets.
  pub record Side (ws : List ℕ) (sums : List Offset) : Type 0 where
    pub scaling : Scaling
    pub positive : 0 < σ.w0
    pub term : IsTerm σ ws
    pub light : weight σ (term_of σ ws) < limit
    pub stored : ScaledUp ws sums

  -- The words of the part at i end before offset end.
  pub record Ends (ws : List ℕ) (i end : ℕ) : Type 0 where
    pub inside : i < length ws
    pub ends : end ≡ i + size (part_at σ ws i)

  -- The counts of the variables of the part at i, each times the product above it.
  abbrev pub CountedAt : List ℕ → ℕ → List ℕ → Type 0
  CountedAt ws i counts =
      (x : ℕ) → x < variable_count → get_or counts x 0 ≡ factor_at ws i * variable_coefficient σ x (part_at σ ws i)

-- Going up from x, n numbers: the first that is greater on the right, the left ones times g and the right ones times f;
-- the one past them if none is.
unfoldable pub more_from : List ℕ → ℕ → List ℕ → ℕ → ℕ → ℕ → ℕ
more_from left f right g x zero = x
more_from left f right g x (suc n) =
    cond (ltb (get_or left x 0 * g) (get_or right x 0 * f)) x (more_from left f right g (suc x) n)
