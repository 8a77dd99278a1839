-- The cells of the node words.
--     variable-cell, symbol-cell, no_cell     what stands in a cell
--     between_more                            one cell more that is written
--     cells-all                               those of the symbols and of the variables are all
use mathlib.Core.List.{List}
use mathlib.Core.Path.{◌≡◌, sym, ◌∙◌}
use Prim.Native.Nat.{ℕ, suc, ◌+◌, ◌≤◌, ◌<◌}
use native.Mathlib.Omega.{arith}
use lib.ListN.{length, set, replicate, get_or-replicate}
use lib.Seq.{get_or-set_same, get_or-set_other}
use borrow.Author.Tests.{lt-ltb, le-ltb, le-leb, lt-leb}
use Rattle.multisets.proofs.Relations.{by_order}
use Rattle.terms.specs.Signature.{Signature, symbol_of}
use Rattle.symbols.specs.Arities.{cell_of, Arities, Between}

module _ (σ : Signature) where
  pub variable-cell : (word : ℕ) → 256 ≤ word → cell_of σ word ≡ 1
  variable-cell word h = rw (le-leb 256 word h)

  pub symbol-cell : (word : ℕ) → word < 256 → word < length σ.symbols →
      cell_of σ word ≡ suc (symbol_of σ word).arity
  symbol-cell word h k = rw (lt-leb 256 word h, lt-ltb word (length σ.symbols) k)

  pub no_cell : (word : ℕ) → word < 256 → length σ.symbols ≤ word → cell_of σ word ≡ 0
  no_cell word h k = rw (lt-leb 256 word h, le-ltb word (length σ.symbols) k)

  pub between_more : (from to value : ℕ) (before cells : List ℕ) → from ≤ to → to < length cells →
      value ≡ cell_of σ to → Between σ from to before cells → Between σ from (to + 1) before (set cells to value)
  between_more from to value before cells le lt e b = record {
    inside = λ word h k. by_order word to
        (λ l. get_or-set_other cells to word value 0 (λ q. absurd (omega arith)) ∙ b.inside word h l)
        λ g. let q : word ≡ to = omega arith in rw (q, get_or-set_same cells to value 0 lt) e;
    lower = λ word h. get_or-set_other cells to word value 0 (λ q. absurd (omega arith)) ∙ b.lower word h;
    higher = λ word h. get_or-set_other cells to word value 0 (λ q. absurd (omega arith)) ∙ b.higher word (omega arith);
  }

  pub cells-all : (middle after : List ℕ) → length σ.symbols ≤ 256 →
      Between σ 0 (length σ.symbols) (replicate 272 0) middle → Between σ 256 272 middle after → Arities σ after
  cells-all middle after few b c word h =
      by_order word 256
      (λ l. c.lower word l
      ∙ by_order word (length σ.symbols)
      (λ k. b.inside word (omega arith) k)
      λ k. b.higher word k ∙ get_or-replicate 272 word 0 0 h ∙ sym (no_cell word l k))
      λ g. c.inside word g h
