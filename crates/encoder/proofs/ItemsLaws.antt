-- Laws of the items of a file's words.
--     flat_append      what two lists make up
--     items-add        items one after the other
--     file-items       the items of a file are those of its words
use mathlib.Core.List.{List, [], ◌∷◌, ◌++◌, map, flat_map, append_assoc}
use mathlib.Core.Path.{◌≡◌, refl, sym, ap, ◌∙◌}
use mathlib.Core.Bool.{false}
use Prim.Native.Nat.{ℕ, suc, zero, ◌+◌, ◌*◌, ◌%◌, ◌≤◌, ◌<◌}
use native.Mathlib.Nat.{add-zero, zero-add}
use native.Mathlib.Numerals.{add-one}
use native.Mathlib.Omega.{arith}
use lib.ListN.{length, length-append, get_or, drop}
use lib.Seq.{get_or-drop, drop-drop, drop-append_seam}
use borrow.Author.Tests.{lt-ltb, le-ltb}
use Rattle.terms.specs.Signature.{Symbol}
use Rattle.format.specs.Format.{RuleFile}
use Rattle.format.specs.Layout.{form_number}
use Rattle.format.specs.Forms.{has_coefficients}
use Rattle.format.proofs.CoefficientLaws.{plain-items}
use Rattle.format.specs.Packing.{Item, item_word, symbol_items, items, unpacked}
use Rattle.format.specs.Packing.Item.{field, node}
use Rattle.symbols.specs.Table.{symbols_words}
use Rattle.symbols.proofs.EntryLaws.{length-symbols_words}
use Rattle.sides.specs.Side.{rules_words}
use Rattle.sides.proofs.UnpackedLaws.{rules-items, unpacked-parts}
use Rattle.encoder.specs.Items.{item_at, items_from}

pub flat_append : {A B : Type 0} (f : A → List B) (xs ys : List A) → flat_map f (xs ++ ys) ≡ flat_map f xs ++ flat_map f ys
unfolding flat_map
flat_append f [] ys = refl
flat_append f (x ∷ xs) ys =
    ap (λ (zs : List _). f x ++ zs) (flat_append f xs ys) ∙ sym (append_assoc (f x) (flat_map f xs) (flat_map f ys))

module _ (words : List ℕ) (nodes : ℕ) where
  pub items-add : (i m n : ℕ) → items_from words nodes i (m + n) ≡ items_from words nodes i m ++ items_from words nodes
      (i + m) n
  items-add i zero n = rw (zero-add, add-zero)
  items-add i (suc m) n =
      let e : suc m + n ≡ suc (m + n) = omega arith in
      let k : suc i + m ≡ i + suc m = omega arith in
      ap (items_from words nodes i) e ∙ ap (λ (l : List Item). item_at words nodes i ∷ l)
      (items-add (suc i) m n ∙ ap (λ (j : ℕ). items_from words nodes (suc i) m ++ items_from words nodes j n) k)

  -- ---- nodes

  node-items : (ws : List ℕ) (at : ℕ) → nodes ≤ at → drop at words ≡ ws → items_from words nodes at (length ws) ≡
      map node ws
  node-items [] at h e = refl
  node-items (w ∷ ws) at h e =
      let here : get_or words at 0 ≡ w =
      ap (λ (i : ℕ). get_or words i 0) (sym (add-zero at)) ∙ sym (get_or-drop at words 0 0) ∙ ap (λ l. get_or l 0 0) e in
      let rest : drop (suc at) words ≡ ws = rw (← add-one at) (sym (drop-drop 1 at words) ∙ ap (drop 1) e) in
      rw (le-ltb at nodes h, here) (ap (◌∷◌ (node w)) (node-items ws (suc at) (omega arith) rest))

  -- ---- symbols

  symbol-item : (at j : ℕ) → at % 4 ≡ 0 → 4 ≤ at → j < 4 → at + j < nodes →
      item_at words nodes (at + j) ≡ field (get_or (3 ∷ 1 ∷ 16 ∷ 8 ∷ []) j 0) (get_or words (at + j) 0)
  symbol-item at j h k l m =
      let e : (at + j) % 4 ≡ j = omega arith in
      let g : 4 ≤ at + j = omega arith in
      rw (lt-ltb (at + j) nodes m, le-ltb (at + j) 4 g, e)

  symbol-items : (at : ℕ) (s : Symbol) (rest : List ℕ) → at % 4 ≡ 0 → 4 ≤ at → at + 4 ≤ nodes →
      drop at words ≡ map item_word (symbol_items form_number s) ++ rest → items_from words nodes at 4 ≡ symbol_items
      form_number s
  symbol-items at s rest h k l e =
      let word : (j : ℕ) → get_or words (at + j) 0 ≡ get_or (map item_word (symbol_items form_number s) ++ rest) j 0 =
      λ j. sym (get_or-drop at words j 0) ∙ ap (λ l. get_or l j 0) e in
      let item : (i j : ℕ) → i ≡ at + j → j < 4 → item_at words nodes i
      ≡ field (get_or (3 ∷ 1 ∷ 16 ∷ 8 ∷ []) j 0) (get_or (map item_word (symbol_items form_number s) ++ rest) j 0) =
      λ i j e m. ap (item_at words nodes) e ∙ symbol-item at j h k m (omega arith)
      ∙ ap (field (get_or (3 ∷ 1 ∷ 16 ∷ 8 ∷ []) j 0)) (word j) in
      let first = item at 0 (omega arith) (omega arith) in
      let second = item (suc at) 1 (omega arith) (omega arith) in
      let third = item (suc (suc at)) 2 (omega arith) (omega arith) in
      let fourth = item (suc (suc (suc at))) 3 (omega arith) (omega arith) in
      cc (first, second, third, fourth)

  symbols-items : (ss : List Symbol) (at : ℕ) (rest : List ℕ) → at % 4 ≡ 0 → 4 ≤ at → at + 4 * length ss ≤ nodes →
      drop at words ≡ symbols_words ss ++ rest → items_from words nodes at (4 * length ss) ≡ flat_map
      (symbol_items form_number) ss
  unfolding flat_map
  symbols-items [] at rest h k l e = refl
  symbols-items (s ∷ ss) at rest h k l e =
      let n : 4 * length (s ∷ ss) ≡ 4 + 4 * length ss = omega arith in
      let later : drop (at + 4) words ≡ symbols_words ss ++ rest = sym (drop-drop 4 at words) ∙ ap (drop 4) e in
      ap (items_from words nodes at) n ∙ items-add at 4 (4 * length ss)
      ∙ ap (λ (is : List Item). is ++ items_from words nodes (at + 4) (4 * length ss))
      (symbol-items at s (symbols_words ss ++ rest) h k (omega arith) e)
      ∙ ap (λ (is : List Item). symbol_items form_number s ++ is)
      (symbols-items ss (at + 4) rest (omega arith) (omega arith) (omega arith) later)

-- ---- the whole file

module _ (file : RuleFile) where
  abbrev ss : List Symbol
  ss = file.signature.symbols

  abbrev rest : List ℕ
  rest = symbols_words ss ++ rules_words file.rules

  abbrev whole : List ℕ
  whole = file.form ∷ length ss ∷ file.signature.w0 ∷ length file.rules ∷ rest

  abbrev header : List Item
  header = field 4 file.form ∷ field 8 (length ss) ∷ field 16 file.signature.w0 ∷ field 10
      (length file.rules) ∷ []

  abbrev begin : ℕ
  begin = 4 + 4 * length ss

  whole-items : has_coefficients file.form ≡ false → items_from whole begin 0 (length whole) ≡ items file
  unfolding items
  whole-items none =
      let from = items_from whole begin in
      let n = length (rules_words file.rules) in
      let long : length (symbols_words ss) ≡ 4 * length ss = length-symbols_words ss in
      let l : length whole ≡ 4 + (4 * length ss + n) =
      omega (arith, length-append (symbols_words ss) (rules_words file.rules), long) in
      let some : (i : ℕ) → i < 4 → i < begin = λ i h. omega arith in
      let first : from 0 4 ≡ header =
      rw (
        lt-ltb 0 begin (some 0 (omega arith)),
        lt-ltb 1 begin (some 1 (omega arith)),
        lt-ltb 2 begin (some 2 (omega arith)),
        lt-ltb 3 begin (some 3 (omega arith)),
      ) in
      let second : from 4 (4 * length ss) ≡ flat_map (symbol_items form_number) ss =
      symbols-items whole begin ss 4 (rules_words file.rules) refl (omega arith) (omega arith) refl in
      let last : drop begin whole ≡ rules_words file.rules =
      sym (drop-drop (4 * length ss) 4 whole) ∙ rw (← long) (drop-append_seam (symbols_words ss) (rules_words file.rules)) in
      let third : from (4 + 4 * length ss) n ≡ map node (rules_words file.rules) =
      node-items whole begin (rules_words file.rules) begin (omega arith) last in
      let later = from (4 + 4 * length ss) n in
      rw (plain-items file.form none ss) (ap (from 0) l ∙ items-add whole begin 0 4 (4 * length ss + n)
      ∙ ap (λ (is : List Item). from 0 4 ++ is) (items-add whole begin 4 (4 * length ss) n)
      ∙ ap (λ (is : List Item). is ++ (from 4 (4 * length ss) ++ later)) first
      ∙ ap (λ (is : List Item). header ++ (is ++ later)) second
      ∙ ap (λ (is : List Item). header ++ (flat_map (symbol_items form_number) ss ++ is))
      (third ∙ sym (rules-items file.rules)))

  pub file-items : has_coefficients file.form ≡ false → items_from (unpacked file) (4 + 4 * length ss) 0
      (length (unpacked file)) ≡ items file
  file-items none = rw (unpacked-parts file none) (whole-items none)
