-- The sums over the words of a term.
--     sums-within-more                               sums of fewer nodes
--     totals-more, totals-next                       the sums with those of one more word
--     within-more, can_add                           they are small
--     number-some, number-none                       the variable that was found
--     term-nodes, totalled                           those of a whole term
use mathlib.Core.List.{List, [], ◌∷◌, ◌++◌}
use mathlib.Core.Path.{◌≡◌, sym, ◌∙◌}
use Prim.Native.Nat.{ℕ, ◌+◌, ◌≤◌, ◌<◌}
use Rattle.std.proofs.Common.{Option, Some, None, is_some, IfSome, true, false}
use Rattle.std.proofs.lemmas.Bool.{false≢true}
use Rattle.terms.specs.Term.{variable_count}
use native.Mathlib.Omega.{arith}
use lib.ListN.{length, get_or, take}
use Rattle.std.proofs.lemmas.List.{take_more}
use Rattle.terms.specs.Signature.{Signature, coefficients_of}
use Rattle.terms.specs.Words.{term_of}
use Rattle.terms.proofs.MeasureLaws.{measure-ones}
use Rattle.format.specs.Statements.{IsTerm}
use Rattle.subterms.proofs.PartLaws.{node-range}
use Rattle.subterms.proofs.FormedLaws.{term-complete, term-size}
use Rattle.weights.specs.declared.totals.Totals.{Totals}
use Rattle.weights.specs.Nodes.{node, nodes, at_variable, at_symbol, node_sum, word_sum, term_sum, SumsWithin, NodeTotals, NodeSums}
use Rattle.weights.specs.Totals.{oftener_number, added, CanAdd, WordTotals, Totalled}
use Rattle.weights.proofs.SumLaws.{term-sum}

pub sums-within-more : {m n : ℕ} {r : Totals} → m ≤ n → SumsWithin m r → SumsWithin n r
sums-within-more h b = record {
  weight = omega (arith, b.weight);
  low = omega (arith, b.low);
  high = omega (arith, b.high);
}

-- The sums over words and those of one more word before them.
module _ {σ : Signature} {word : ℕ} {ws : List ℕ} {here more : Totals} (T : WordTotals σ ws here)
    (M : NodeTotals σ word more) where
  pub totals-more : WordTotals σ (word ∷ ws) (added here more)
  totals-more = record {
    weight = omega (arith, T.weight, M.weight);
    low = omega (arith, T.low, M.low);
    high = omega (arith, T.high, M.high);
  }

-- And after them.
nodes-append : (v w : ℕ → ℕ) (us : List ℕ) (u : ℕ) → nodes v w (us ++ u ∷ []) ≡ nodes v w us + node v w u
nodes-append v w [] u = omega arith
nodes-append v w (t ∷ us) u = omega (arith, nodes-append v w us u)

pub totals-next : {σ : Signature} {i : ℕ} (ws : List ℕ) {here more : Totals} → i < length ws →
    WordTotals σ (take i ws) here → NodeTotals σ (get_or ws i 0) more → WordTotals σ (take (i + 1) ws) (added here more)
totals-next {σ} {i} ws h T M =
    let next : (kind : ℕ) → word_sum σ kind (take (i + 1) ws) ≡ word_sum σ kind (take i ws) + node_sum σ kind (get_or ws i 0)
    = λ kind. rw (take_more ws i 0 h) (nodes-append (at_variable σ kind) (at_symbol σ kind) (take i ws) (get_or ws i 0)) in
    record {
      weight = omega (arith, T.weight, M.weight, next 0);
      low = omega (arith, T.low, M.low, next 1);
      high = omega (arith, T.high, M.high, next 2);
    }

module _ {σ : Signature} {word n : ℕ} {here more : Totals} (b : SumsWithin n here) (M : NodeTotals σ word more) where
  pub within-more : SumsWithin (n + 1) (added here more)
  within-more = record {
    weight = omega (arith, b.weight, M.small.weight);
    low = omega (arith, b.low, M.small.low);
    high = omega (arith, b.high, M.small.high);
  }

  pub can_add : n ≤ 127 → CanAdd here more
  can_add h = record {
    weight = omega (arith, b.weight, M.small.weight);
    low = omega (arith, b.low, M.small.low);
    high = omega (arith, b.high, M.small.high);
  }

module _ {σ : Signature} {adds : List Totals} {ws : List ℕ} (N : NodeSums σ adds) (p : IsTerm σ ws) where
  pub term-nodes : (k : ℕ) → k < length ws → get_or ws k 0 < 272
  term-nodes k h = node-range σ ws (term-complete σ N.few p) k h N.few

  whole : (kind : ℕ) → word_sum σ kind ws ≡ term_sum σ kind (term_of σ ws)
  whole kind = term-sum σ N.few p (at_variable σ kind) (at_symbol σ kind)

  -- The sums over the words of a term are the term's.
  pub totalled : {r : Totals} → WordTotals σ ws r → SumsWithin (length ws) r → Totalled σ ws r
  totalled t b =
      let size = term-size p in
      record {
        weight = t.weight ∙ whole 0
            ∙ sym (measure-ones (coefficients_of σ) (at_variable σ 0) (at_symbol σ 0) N.ones (term_of σ ws));
        counted = record { low = t.low ∙ whole 1; high = t.high ∙ whole 2; short = omega (arith, p.short) };
        small = omega (arith, b.weight, p.short);
      }

-- ---- the first variable that occurs oftener

pub number-some : (o : Option ℕ) → IfSome o (λ x. x < variable_count) → is_some o ≡ true →
    oftener_number o < variable_count
number-some (Some x) h e = h
number-some None h e = absurd (false≢true e)

pub number-none : (o : Option ℕ) → is_some o ≡ false → variable_count ≤ oftener_number o
number-none (Some x) e = absurd (false≢true (sym e))
number-none None e = omega arith
