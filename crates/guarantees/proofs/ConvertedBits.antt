-- The bits of a converted file beside those of the file that it was.
--     KeptOff           two lists of bits that agree off a mask
--     file-kept         the bits of the files, off the form's and the variables' numbers
--     first_byte        the bytes of a file in either form differ in the first
use mathlib.Core.List.{List, [], ◌∷◌, ◌++◌, map, flat_map}
use mathlib.Core.Path.{◌≡◌, refl, sym, ap, ap₂, ◌∙◌}
use mathlib.Core.Bool.{Bool, true, false, true≢false}
use Prim.Native.Nat.{ℕ, suc, zero, ◌+◌, ◌/◌, ◌≤◌}
use native.Mathlib.Omega.{arith}
use lib.ListN.{length, get_or, drop, replicate, length-map}
use borrow.Author.Tests.{lt-ltb, le-ltb}
use Rattle.multisets.proofs.MultisetMaps.{flat_map-append}
use Rattle.terms.specs.Signature.{Symbol}
use Rattle.terms.specs.Words.{first_variable}
use Rattle.terms.specs.FirstUse.{first_uses, place_in, rename_word}
use Rattle.terms.proofs.FirstUseLaws.{by_word, rename_word-symbol, rename_word-variable}
use Rattle.format.specs.Layout.{form_width, first_form, form_number, symbol_count_width, weight_width, rule_count_width}
use Rattle.format.specs.Layout.{arity_width, ac_width, rank_width, tag_width, symbol_width, variable_width}
use Rattle.format.specs.Reading.{spelt}
use Rattle.format.specs.Format.{Sides, RuleFile}
use Rattle.format.specs.Packing.{Item, symbol_items, rule_items, items, bits_of, item_bits, bytes_from, bytes_of, packed}
use Rattle.format.specs.Packing.Item.{node}
use Rattle.format.specs.Conversion.{converted_sides, converted_file}
use Rattle.format.proofs.PackingLaws.{Bits, items-bits}
use Rattle.format.proofs.FileLaws.{file_bits}
use Rattle.format.proofs.ConversionLaws.{file_before}
use Rattle.guarantees.specs.Conversions.{number_bits, converted_bits, in_first_form}

-- ---- bits off a mask

-- Bits that agree wherever the mask is not set.
pub data KeptOff : List Bool → List ℕ → List ℕ → Type 0 where
  none : KeptOff [] [] []
  kept : {ms : List Bool} {b : ℕ} {bs cs : List ℕ} → KeptOff ms bs cs → KeptOff (false ∷ ms) (b ∷ bs) (b ∷ cs)
  free : {ms : List Bool} {b c : ℕ} {bs cs : List ℕ} → KeptOff ms bs cs → KeptOff (true ∷ ms) (b ∷ bs) (c ∷ cs)

pub kept_at : {ms : List Bool} {bs cs : List ℕ} → KeptOff ms bs cs → (i : ℕ) → get_or ms i false ≡ false →
    get_or cs i 0 ≡ get_or bs i 0
kept_at none i h = refl
kept_at (kept p) zero h = refl
kept_at (kept p) (suc i) h = kept_at p i h
kept_at (free p) zero h = absurd (true≢false h)
kept_at (free p) (suc i) h = kept_at p i h

kept_append : {ms ns : List Bool} {bs cs ds es : List ℕ} → KeptOff ms bs cs → KeptOff ns ds es →
    KeptOff (ms ++ ns) (bs ++ ds) (cs ++ es)
kept_append none q = q
kept_append (kept p) q = kept (kept_append p q)
kept_append (free p) q = free (kept_append p q)

kept-bits : (n v : ℕ) → KeptOff (replicate n false) (bits_of n v) (bits_of n v)
kept-bits zero v = none
kept-bits (suc n) v = kept (kept-bits n v)

free-bits : (n v w : ℕ) → KeptOff (replicate n true) (bits_of n v) (bits_of n w)
free-bits zero v w = none
free-bits (suc n) v w = free (free-bits n v w)

-- ---- items

-- The bits of items beside those of others.
abbrev ItemsKept : List Item → List Item → Type 0
ItemsKept is js = KeptOff (flat_map number_bits is) (flat_map item_bits is) (flat_map item_bits js)

items-append : (is js ks ls : List Item) → ItemsKept is js → ItemsKept ks ls → ItemsKept (is ++ ks) (js ++ ls)
items-append is js ks ls p q =
    rw (flat_map-append number_bits is ks, flat_map-append item_bits is ks, flat_map-append item_bits js ls)
    (kept_append p q)

node_kept : (ρ : ℕ → ℕ) (w : ℕ) →
    KeptOff (number_bits (node w)) (item_bits (node w)) (item_bits (node (rename_word ρ w)))
node_kept ρ w =
    by_word w (λ l. rw (rename_word-symbol ρ w l, lt-ltb w first_variable l)
    (kept_append (kept-bits tag_width 0) (kept-bits symbol_width w)))
    λ x e. rw (
      e,
      rename_word-variable ρ x,
      le-ltb (first_variable + x) first_variable (omega arith),
      le-ltb (first_variable + ρ x) first_variable (omega arith),
    ) (kept_append (kept-bits tag_width 1) (free-bits variable_width _ _))

nodes-kept : (ρ : ℕ → ℕ) (ws : List ℕ) → ItemsKept (map node ws) (map node (map (rename_word ρ) ws))
unfolding flat_map
nodes-kept ρ [] = none
nodes-kept ρ (w ∷ ws) = kept_append (node_kept ρ w) (nodes-kept ρ ws)

sides-kept : (r : Sides) → ItemsKept (rule_items r) (rule_items (converted_sides r))
sides-kept r =
    let ρ = place_in (first_uses (r.left ++ r.right)) in
    items-append (map node r.left) (map node (converted_sides r).left) (map node r.right)
    (map node (converted_sides r).right) (nodes-kept ρ r.left) (nodes-kept ρ r.right)

rules-kept : (rs : List Sides) → ItemsKept (flat_map rule_items rs) (flat_map rule_items (map converted_sides rs))
unfolding flat_map
rules-kept [] = none
rules-kept (r ∷ rs) =
    items-append (rule_items r) (rule_items (converted_sides r)) (flat_map rule_items rs)
    (flat_map rule_items (map converted_sides rs)) (sides-kept r) (rules-kept rs)

symbols-kept : (ss : List Symbol) →
    ItemsKept (flat_map (symbol_items first_form) ss) (flat_map (symbol_items first_form) ss)
unfolding flat_map
symbols-kept [] = none
symbols-kept (s ∷ ss) =
    kept_append (kept-bits arity_width _) (kept_append (kept-bits ac_width _)
    (kept_append (kept-bits weight_width _) (kept_append (kept-bits rank_width _) (symbols-kept ss))))

pub file-kept : (f : RuleFile) → f.form ≡ first_form →
    KeptOff (converted_bits f) (file_bits f) (file_bits (converted_file f))
unfolding items flat_map
file-kept f old =
    let symbols = flat_map (symbol_items first_form) f.signature.symbols in
    let rules = flat_map rule_items f.rules in
    let new = flat_map rule_items (map converted_sides f.rules) in
    let all = items-append symbols symbols rules new (symbols-kept f.signature.symbols) (rules-kept f.rules) in
    simp (length-map f.rules converted_sides, old)
    (kept_append (free-bits form_width first_form form_number) (kept_append (kept-bits symbol_count_width _)
    (kept_append (kept-bits weight_width _) (kept_append (kept-bits rule_count_width _) all))))

-- ---- the first byte

spelt-from : (bit cit : ℕ → ℕ) (at n : ℕ) → ((i : ℕ) → at ≤ i → bit i ≡ cit i) → spelt bit at n ≡ spelt cit at n
spelt-from bit cit at zero e = refl
spelt-from bit cit at (suc n) e = rw (spelt-from bit cit at n e, e (at + n) (omega arith))

bytes_from-same : (bs cs : List ℕ) (at n : ℕ) → ((i : ℕ) → at ≤ i → get_or bs i 0 ≡ get_or cs i 0) →
    bytes_from bs at n ≡ bytes_from cs at n
bytes_from-same bs cs at zero e = refl
bytes_from-same bs cs at (suc n) e =
    ap₂ ◌∷◌ (spelt-from (λ i. get_or bs i 0) (λ i. get_or cs i 0) at 8 e)
    (bytes_from-same bs cs (at + 8) n λ i h. e i (omega arith))

-- Four bits for the form, then others.
abbrev headed : ℕ → List ℕ → List ℕ
headed form bits = bits_of form_width form ++ bits

get_or-headed : (form form' : ℕ) (bits : List ℕ) (i : ℕ) → form_width ≤ i →
    get_or (headed form bits) i 0 ≡ get_or (headed form' bits) i 0
get_or-headed form form' bits zero h = absurd (omega arith)
get_or-headed form form' bits (suc zero) h = absurd (omega arith)
get_or-headed form form' bits (suc (suc zero)) h = absurd (omega arith)
get_or-headed form form' bits (suc (suc (suc zero))) h = absurd (omega arith)
get_or-headed form form' bits (suc (suc (suc (suc i)))) h = refl

-- The first of their bytes apart.
bytes-headed : (form : ℕ) (bits : List ℕ) → bytes_of (headed form bits) ≡
    spelt (λ (i : ℕ). get_or (headed form bits) i 0) 0 8 ∷ bytes_from (headed form bits) 8 ((length bits + 3) / 8)
bytes-headed form bits =
    let n : (length (headed form bits) + 7) / 8 ≡ suc ((length bits + 3) / 8) = omega arith in
    ap (bytes_from (headed form bits) 0) n

forms-apart : (bits : List ℕ) → Bits bits →
    in_first_form (bytes_of (headed form_number bits)) ≡ bytes_of (headed first_form bits)
forms-apart bits small =
    ap in_first_form (bytes-headed form_number bits)
    ∙ ap₂ ◌∷◌ (omega (arith, small 0, small 1, small 2, small 3))
    (bytes_from-same (headed form_number bits) (headed first_form bits) 8 ((length bits + 3) / 8)
    λ i h. get_or-headed form_number first_form bits i (omega arith))
    ∙ sym (bytes-headed first_form bits)

pub first_byte : (f : RuleFile) → f.form ≡ form_number → in_first_form (packed f) ≡ packed (file_before f)
unfolding packed items flat_map
first_byte f now =
    let later = drop 1 (items (file_before f)) in
    simp now (forms-apart (flat_map item_bits later) (items-bits later))
