-- What follows a node, by its cell in the table of arities.
--     node-read, node-unknown     a node that calls for so many terms, and one whose symbol is not there
--     owed-fits                   what is owed after a node stays small
use mathlib.Core.Path.{◌≡◌, sym, ap, ◌∙◌}
use mathlib.Core.List.{List}
use Prim.Native.Nat.{ℕ, ◌+◌, ◌-◌, ◌*◌, ◌^◌, ◌≤◌, ◌<◌}
use native.Mathlib.Omega.{arith}
use lib.ListN.{length, get_or}
use Rattle.multisets.proofs.Relations.{by_order}
use Rattle.terms.specs.Signature.{Signature, symbol_of}
use Rattle.terms.specs.Words.{first_variable}
use Rattle.terms.specs.FirstUse.{unused_after}
use Rattle.format.specs.Errors.{no_such_symbol}
use Rattle.format.specs.Reading.{Reading, Node, Source}
use Rattle.format.specs.Reading.Reading.{got, fault}
use Rattle.format.specs.Format.{forest_reader}
use Rattle.format.proofs.ForestLaws.{before, unknown-symbol, variable-read, symbol-read}
use Rattle.symbols.specs.Arities.{cell_of, Arities}
use Rattle.symbols.proofs.ArityLaws.{variable-cell, symbol-cell, no_cell}

pub owed-fits : (cell owed allowed : ℕ) → 0 < cell → cell < 2 ^ 32 → 0 < owed → 0 < allowed →
    owed + 2 ^ 32 * allowed ≤ 2 ^ 60 →
    (cell - 1 + (owed - 1) < 2 ^ 64) × (cell - 1 + (owed - 1) + 2 ^ 32 * (allowed - 1) ≤ 2 ^ 60)
owed-fits cell owed allowed c small o a h =
    let e : allowed ≡ 1 + (allowed - 1) = omega arith in
    omega arith

module _ (source : Source) (unused : ℕ) (σ : Signature) (cells : List ℕ) (k : Arities σ cells) (a n at : ℕ)
    (ha : 0 < a) (hn : 0 < n) (v : Node) (next : ℕ) (e : source.node at ≡ got v next) (small : v.word < 272) where
  cell : get_or cells v.word 0 ≡ cell_of σ v.word
  cell = k v.word small

  abbrev after : ℕ → Reading (List ℕ)
  after m = before v.word (forest_reader source (unused_after unused v.word) σ (a - 1) m next)

  pub node-read : 0 < get_or cells v.word 0 → v.word ≤ first_variable + unused →
      forest_reader source unused σ a n at ≡ after (get_or cells v.word 0 - 1 + (n - 1))
  node-read h u =
      by_order v.word first_variable
      (λ l. by_order v.word (length σ.symbols)
      (λ known.
      let c : get_or cells v.word 0 - 1 ≡ (symbol_of σ v.word).arity =
      omega (arith, cell, symbol-cell σ v.word l known) in
      symbol-read source unused σ a n at ha hn v next e l known ∙ ap (λ (m : ℕ). after (m + (n - 1))) (sym c))
      λ none. absurd (omega (arith, cell, no_cell σ v.word l none)))
      λ l.
      let c : get_or cells v.word 0 - 1 + (n - 1) ≡ n - 1 = omega (arith, cell, variable-cell σ v.word l) in
      variable-read source unused σ a n at ha hn v next e l u ∙ ap after (sym c)

  pub node-unknown : get_or cells v.word 0 ≡ 0 → forest_reader source unused σ a n at ≡ fault no_such_symbol v.offset
  node-unknown z =
      by_order v.word first_variable
      (λ l. by_order v.word (length σ.symbols)
      (λ known. absurd (omega (arith, cell, symbol-cell σ v.word l known)))
      λ none. unknown-symbol source unused σ a n at ha hn v next e l none)
      λ l. absurd (omega (arith, cell, variable-cell σ v.word l))
