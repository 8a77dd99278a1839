-- Two whole terms, as reading decodes them: the words that spell them.
use Rattle.std.specs.Prelude.{List, true, ◌≡◌, ℕ, get_or}
use Rattle.terms.specs.Signature.{Signature}
use Rattle.terms.specs.Words.{term_of}
use Rattle.terms.specs.Order.{mark}
use Rattle.operations.specs.declared.Relation.{Relation}
use Rattle.operations.specs.Comparing.{relation}
use Rattle.symbols.specs.Table.{signature_of}
use Rattle.reader.specs.Promise.{Decoded}
use Rattle.weights.specs.declared.totals.Totals.{Totals}
use Rattle.weights.specs.Totals.{Totalled}
use Rattle.extensions.specs.Compared.{weight_at, none_oftener_at}

module _ (table : List ℕ) where
  abbrev σ : Signature
  σ = signature_of table

  abbrev pub mark_of : List ℕ → List ℕ → ℕ
  mark_of s t = mark σ (term_of σ s) (term_of σ t)

  abbrev pub relation_of : List ℕ → List ℕ → Relation
  relation_of s t = relation σ (term_of σ s) (term_of σ t)

  -- Of equal weight with the same root; no variable occurs oftener in the right one.
  pub record SameRoot (s t : List ℕ) : Type 0 where
    pub root : get_or s 0 0 ≡ get_or t 0 0
    pub few : true ≡ none_oftener_at table s 0 t 0
    pub level : weight_at table s 0 ≡ weight_at table t 0

  -- With these totals, of equal weight and with the same root.
  pub record Level (s : List ℕ) (a : Totals) (t : List ℕ) (b : Totals) : Type 0 where
    pub decoded : Decoded table s t
    pub left : Totalled σ s a
    pub right : Totalled σ t b
    pub level : a.weight ≡ b.weight
    pub root : get_or s 0 0 ≡ get_or t 0 0
