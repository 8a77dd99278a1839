-- The words of a file.
--     node-words, rules-items             the nodes of rules as items, and back
--     unpacked-parts, unpacked-length     the header, the symbols and the rules, and how many words they are
use mathlib.Core.Path.{◌≡◌, refl, ap, ◌∙◌}
use mathlib.Core.List.{List, [], ◌∷◌, ◌++◌, map, flat_map, map-append}
use mathlib.Core.Bool.{false}
use Prim.Native.Nat.{ℕ, ◌+◌, ◌*◌}
use native.Mathlib.Omega.{arith}
use lib.ListN.{length, length-append}
use Rattle.terms.specs.Signature.{Symbol}
use Rattle.format.specs.Forms.{has_coefficients}
use Rattle.format.specs.Format.{Sides, RuleFile}
use Rattle.format.specs.Packing.{item_word, symbol_items, rule_items, items, unpacked}
use Rattle.format.specs.Packing.Item.{node}
use Rattle.symbols.specs.Table.{symbols_words}
use Rattle.symbols.proofs.EntryLaws.{length-symbols_words}
use Rattle.sides.specs.Side.{side_words, rules_words}

node-words : (l : List ℕ) → map item_word (map node l) ≡ l
node-words [] = refl
node-words (w ∷ l) = ap (λ (k : List ℕ). w ∷ k) (node-words l)

pub rules-items : (rs : List Sides) → flat_map rule_items rs ≡ map node (rules_words rs)
unfolding flat_map
rules-items [] = refl
rules-items (r ∷ rs) =
    rw (map-append node (side_words r) (rules_words rs), map-append node r.left r.right, rules-items rs)

symbols-words : (form : ℕ) → has_coefficients form ≡ false → (ss : List Symbol) →
    map item_word (flat_map (symbol_items form) ss) ≡ symbols_words ss
unfolding flat_map
symbols-words form none [] = refl
symbols-words form none (s ∷ ss) =
    map-append item_word (symbol_items form s) (flat_map (symbol_items form) ss) ∙ rw (none, symbols-words form none ss)

pub unpacked-parts : (file : RuleFile) → has_coefficients file.form ≡ false → unpacked file ≡ file.form ∷ length
    file.signature.symbols
    ∷ file.signature.w0 ∷ length file.rules ∷ (symbols_words file.signature.symbols ++ rules_words file.rules)
unfolding unpacked items
unpacked-parts file none =
    rw (
      map-append item_word (flat_map (symbol_items file.form) file.signature.symbols)
          (flat_map rule_items file.rules),
      symbols-words file.form none file.signature.symbols,
      rules-items file.rules,
      node-words (rules_words file.rules),
    )

pub unpacked-length : (file : RuleFile) → has_coefficients file.form ≡ false →
    length (unpacked file) ≡ 4 + 4 * length file.signature.symbols + length (rules_words file.rules)
unpacked-length file none =
    ap length (unpacked-parts file none)
    ∙ omega (
      arith,
      length-append (symbols_words file.signature.symbols) (rules_words file.rules),
      length-symbols_words file.signature.symbols,
    )
