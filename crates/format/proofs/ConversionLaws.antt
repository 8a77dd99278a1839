-- A file of form 1 as one of form 2: the converted file of a readable one is readable, and as long.
--     symbols-before, before-heavy         symbols weigh enough in form 1 if no unary one weighs 0, and only then
--     converted-words                      a rule's node words are renumbered by first use
--     renumbered-fit                       the new numbers are such as a variable may have
--     converted-readable                   the converted file is readable
--     converted-bits, converted-length     it has as many bits, and as many bytes
--     file_before, readable-before, converted-same    a file of form 2 as one of form 1 is readable, if no unary symbol
--                                          weighs 0, and converts to itself
use mathlib.Core.Path.{◌≡◌, refl, sym, ap, ap₂, ◌∙◌}
use mathlib.Core.List.{List, [], ◌∷◌, ◌++◌, map, map-append, flat_map, Memᴰ}
use mathlib.Core.Bool.{true}
use Prim.Native.Nat.{ℕ, suc, zero, ◌+◌, ◌/◌, ◌≤◌, ◌<◌}
use native.Mathlib.Omega.{arith}
use lib.ListN.{length, take, drop, length-append, length-map}
use lib.Seq.{take_at, drop_at}
use lib.Dec.{lit<}
use borrow.Author.Tests.{le-ltb, le-leb}
use Rattle.multisets.proofs.MultisetMaps.{flat_map-append}
use Rattle.terms.specs.Signature.{Signature, symbol_of, NoZeroWeightUnary}
use Rattle.terms.specs.Term.{variable_count}
use Rattle.terms.specs.Words.{first_variable}
use Rattle.terms.specs.FirstUse.{first_uses, place_in, rename_word, renumbered, in_order_from, in_order}
use Rattle.terms.proofs.FirstUseLaws.{by_word, rename_word-symbol, rename_word-variable}
use Rattle.terms.proofs.FirstUseCount.{first_uses-few}
use Rattle.terms.proofs.FirstUseLaws.{place-lt, seen-word, renumbered-in_order, in_order-renumbered}
use Rattle.format.specs.Layout.{form_number, first_form, tag_width, variable_width, max_nodes}
use Rattle.format.specs.Forms.{has_coefficients, all_used, unused_of, least_weight_in}
use Rattle.format.specs.Format.{Sides, RuleFile}
use Rattle.format.specs.Packing.{Item, symbol_items, rule_items, items, item_bits, packed}
use Rattle.format.specs.Packing.Item.{node}
use Rattle.format.specs.Conversion.{converted_sides, converted_file}
use Rattle.format.proofs.FormLaws.{taken_own, taken-old}
use Rattle.format.proofs.ForestLaws.{known, argument_count}
use Rattle.format.proofs.SpellingLaws.{AllFit, all-fit-append, all-fit-split}
use Rattle.format.proofs.FormatLaws.{SymbolsOk, Forest, SideOk, RulesOk}
use Rattle.format.proofs.FormatLaws.Forest.{no_term, term_node}
use Rattle.format.proofs.PackingLaws.{length-bytes_of}
use Rattle.format.proofs.FileLaws.{Readable, file_bits}
use Rattle.format.proofs.SymbolLaws.{weighs-at, symbols-weigh}
use Rattle.format.proofs.SideLaws.{forest-le}
use Rattle.format.proofs.LightLaws.{unscaled-light, unscaled-formed}
use Rattle.format.specs.Statements.{Unscaled}
use Rattle.format.proofs.PromiseLaws.{readable-formed}
use Rattle.format.proofs.TermReading.{fit-in-order}

pub converted-words : (r : Sides) → (converted_sides r).left ++ (converted_sides r).right ≡ renumbered (r.left ++ r.right)
converted-words r = sym (map-append _ r.left r.right)

-- ---- the new numbers

fit-below : (ws : List ℕ) → AllFit (map node ws) → (x : ℕ) → Memᴰ (first_variable + x) ws → x < variable_count
fit-below [] _ x x5 = elim x5 [ ]
fit-below (w ∷ ws) (f, fits) x (Memᴰ.head e) = omega arith
fit-below (w ∷ ws) (f, fits) x (Memᴰ.tail m) = fit-below ws fits x m

renamed-fit : (ρ : ℕ → ℕ) (ws : List ℕ) →
    ((x : ℕ) → Memᴰ (first_variable + x) ws → ρ x < variable_count) → AllFit (map node (map (rename_word ρ) ws))
renamed-fit ρ [] h = tt
renamed-fit ρ (w ∷ ws) h = (
  by_word w (λ l. rw (rename_word-symbol ρ w l) (omega arith))
      λ x e. rw (e, rename_word-variable ρ x) (omega (arith, h x (Memᴰ.head (sym e)))),
  renamed-fit ρ ws λ x m. h x (Memᴰ.tail m),
)

pub renumbered-fit : (ws : List ℕ) → AllFit (map node ws) → AllFit (map node (renumbered ws))
renumbered-fit ws fits =
    renamed-fit (place_in (first_uses ws)) ws λ x m.
    omega (
      arith,
      place-lt (first_uses ws) x (seen-word ws [] x m),
      first_uses-few variable_count ws (fit-below ws fits),
    )

-- ---- a renamed word

-- What does not tell variables apart is the same of a renamed word.
kept : {A : Type 0} (f : ℕ → A) (a : A) → ((x : ℕ) → f (first_variable + x) ≡ a) → (ρ : ℕ → ℕ) (w : ℕ) →
    f (rename_word ρ w) ≡ f w
kept f a h ρ w =
    by_word w (λ l. ap f (rename_word-symbol ρ w l))
    λ x e. rw e (ap f (rename_word-variable ρ x) ∙ h (ρ x) ∙ sym (h x))

node-length : (ρ : ℕ → ℕ) (w : ℕ) → length (item_bits (node (rename_word ρ w))) ≡ length (item_bits (node w))
node-length =
    kept (λ (w : ℕ). length (item_bits (node w))) (tag_width + variable_width)
    λ x. rw (le-ltb (first_variable + x) first_variable (omega arith))

module _ (σ : Signature) where
  known-rename : (ρ : ℕ → ℕ) (w : ℕ) → known σ (rename_word ρ w) ≡ known σ w
  known-rename = kept (known σ) true λ x. rw (le-leb first_variable (first_variable + x) (omega arith))

  arguments-rename : (ρ : ℕ → ℕ) (w : ℕ) → argument_count σ (rename_word ρ w) ≡ argument_count σ w
  arguments-rename = kept (argument_count σ) 0 λ x. rw (le-leb first_variable (first_variable + x) (omega arith))

  forest-rename : (ρ : ℕ → ℕ) {a n : ℕ} {ws : List ℕ} → Forest σ a n ws → Forest σ a n (map (rename_word ρ) ws)
  forest-rename ρ no_term = no_term
  forest-rename ρ (term_node {a} {n} {w} {ws} k f) =
      let rest : Forest σ a (argument_count σ (rename_word ρ w) + n) (map (rename_word ρ) ws) =
      rw (arguments-rename ρ w) (forest-rename ρ f) in
      term_node (known-rename ρ w ∙ k) rest

-- ---- the symbols

least-less : (w0 arity : ℕ) → least_weight_in form_number w0 arity ≤ least_weight_in first_form w0 arity
least-less w0 zero = omega arith
least-less w0 (suc zero) = omega arith
least-less w0 (suc (suc n)) = omega arith

least-heavy : (w0 arity weight : ℕ) → (arity ≡ 1 → 1 ≤ weight) → least_weight_in form_number w0 arity ≤ weight →
    least_weight_in first_form w0 arity ≤ weight
least-heavy w0 zero weight heavy h = h
least-heavy w0 (suc zero) weight heavy h = heavy refl
least-heavy w0 (suc (suc n)) weight heavy h = h

-- What weighs enough in form 1 does in form 2.
symbols-now : (σ : Signature) → SymbolsOk first_form σ.w0 [] σ.symbols →
    SymbolsOk form_number σ.w0 [] σ.symbols
symbols-now σ oks =
    symbols-weigh first_form form_number σ.w0 σ.symbols refl oks λ f l.
    omega (arith, weighs-at oks f l, least-less σ.w0 (symbol_of σ f).arity)

-- And the other way round, if no unary symbol weighs 0.
pub symbols-before : (σ : Signature) → NoZeroWeightUnary σ → SymbolsOk form_number σ.w0 [] σ.symbols →
    SymbolsOk first_form σ.w0 [] σ.symbols
symbols-before σ heavy oks =
    symbols-weigh form_number first_form σ.w0 σ.symbols refl oks λ f l.
    least-heavy σ.w0 (symbol_of σ f).arity (symbol_of σ f).weight (heavy f l) (weighs-at oks f l)

-- In form 1 none does.
pub before-heavy : (σ : Signature) → SymbolsOk first_form σ.w0 [] σ.symbols → NoZeroWeightUnary σ
before-heavy σ oks f l unary = rw unary at (weighs-at oks f l)

-- ---- the file

pub rule-items : (r : Sides) → rule_items r ≡ map node (r.left ++ r.right)
rule-items r = sym (map-append node r.left r.right)

sides-fit : (r : Sides) → AllFit (rule_items r) → AllFit (rule_items (converted_sides r))
sides-fit r fits =
    rw (rule-items (converted_sides r), converted-words r)
    (renumbered-fit (r.left ++ r.right) (rw (rule-items r) at fits))

side-rename : (σ : Signature) → Unscaled σ → (ρ : ℕ → ℕ) (ws : List ℕ) → SideOk σ max_nodes ws →
    SideOk σ max_nodes (map (rename_word ρ) ws)
side-rename σ unscaled ρ ws ok =
    let f = forest-rename σ ρ ok.nodes in
    record { nodes = f; light = unscaled-light σ unscaled (map (rename_word ρ) ws) (forest-le σ f) }

converted-rules : (unused : ℕ) (σ : Signature) → Unscaled σ → (rs : List Sides) → RulesOk unused σ rs →
    AllFit (flat_map rule_items rs) → RulesOk 0 σ (map converted_sides rs) × AllFit
    (flat_map rule_items (map converted_sides rs))
unfolding flat_map
converted-rules unused σ unscaled [] ok fits = (tt, tt)
converted-rules unused σ unscaled (r ∷ rs) (f, g, o, ok) fits =
    let ρ = place_in (first_uses (r.left ++ r.right)) in
    let (here, later) = all-fit-split (rule_items r) (flat_map rule_items rs) fits in
    let (oks, rest) = converted-rules unused σ unscaled rs ok later in
    let in_turn : in_order_from 0 ((converted_sides r).left ++ (converted_sides r).right) ≡ true =
    rw (converted-words r) (renumbered-in_order (r.left ++ r.right)) in (
      (side-rename σ unscaled ρ r.left f, side-rename σ unscaled ρ r.right g, in_turn, oks),
      all-fit-append (rule_items (converted_sides r)) (flat_map rule_items (map converted_sides rs)) (sides-fit r here) rest,
    )

pub converted-readable : (f : RuleFile) → Readable first_form f → Readable form_number (converted_file f)
unfolding items
converted-readable f r =
    let σ = f.signature in
    let (count, (w0, (rules, rest))) = r.fits.1 in
    let old = taken-old f.form r.ok.form_taken in
    let (symbols, nodes) =
    all-fit-split (flat_map (symbol_items f.form) σ.symbols) (flat_map rule_items f.rules) rest in
    let unscaled = unscaled-formed f (readable-formed first_form f r) (ap has_coefficients old) in
    let (ok, fits) = converted-rules (unused_of f.form) σ unscaled f.rules r.ok.rules_ok nodes in
    let all = all-fit-append (flat_map (symbol_items form_number) σ.symbols) _ (rw old at symbols) fits in
    record {
      ok = record {
        form_taken = taken_own form_number;
        some_symbol = r.ok.some_symbol;
        variable_weighs = r.ok.variable_weighs;
        symbols_ok = symbols-now σ (rw old at r.ok.symbols_ok);
        none_outranked = r.ok.none_outranked;
        rules_ok = ok;
      };
      fits = (lit< tt, (count, (w0, (rw (length-map f.rules converted_sides) rules, all))));
    }

-- ---- its length

nodes-length : (ρ : ℕ → ℕ) (ws : List ℕ) →
    length (flat_map item_bits (map node (map (rename_word ρ) ws))) ≡ length (flat_map item_bits (map node ws))
unfolding flat_map
nodes-length ρ [] = refl
nodes-length ρ (w ∷ ws) =
    omega (
      arith,
      length-append (item_bits (node (rename_word ρ w))) (flat_map item_bits (map node (map (rename_word ρ) ws))),
      length-append (item_bits (node w)) (flat_map item_bits (map node ws)),
      node-length ρ w,
      nodes-length ρ ws,
    )

-- The bits of one list of items and of another after it.
items-length : (is js : List Item) →
    length (flat_map item_bits (is ++ js)) ≡ length (flat_map item_bits is) + length (flat_map item_bits js)
items-length is js =
    ap length (flat_map-append item_bits is js) ∙ length-append (flat_map item_bits is) (flat_map item_bits js)

sides-length : (r : Sides) →
    length (flat_map item_bits (rule_items (converted_sides r))) ≡ length (flat_map item_bits (rule_items r))
sides-length r =
    rw (rule-items (converted_sides r), converted-words r, rule-items r)
    (nodes-length (place_in (first_uses (r.left ++ r.right))) (r.left ++ r.right))

rules-length : (rs : List Sides) →
    length (flat_map item_bits (flat_map rule_items (map converted_sides rs))) ≡
    length (flat_map item_bits (flat_map rule_items rs))
unfolding flat_map
rules-length [] = refl
rules-length (r ∷ rs) =
    omega (
      arith,
      items-length (rule_items (converted_sides r)) (flat_map rule_items (map converted_sides rs)),
      items-length (rule_items r) (flat_map rule_items rs),
      sides-length r,
      rules-length rs,
    )

pub converted-bits : (f : RuleFile) → f.form ≡ first_form →
    length (file_bits (converted_file f)) ≡ length (file_bits f)
unfolding items flat_map
converted-bits f old =
    let symbols = flat_map (symbol_items first_form) f.signature.symbols in
    simp old (omega (
      arith,
      items-length symbols (flat_map rule_items (map converted_sides f.rules)),
      items-length symbols (flat_map rule_items f.rules),
      rules-length f.rules,
    ))

pub converted-length : (f : RuleFile) → f.form ≡ first_form → length (packed (converted_file f)) ≡ length (packed f)
unfolding packed
converted-length f old =
    length-bytes_of (file_bits (converted_file f))
    ∙ ap (λ (n : ℕ). (n + 7) / 8) (converted-bits f old)
    ∙ sym (length-bytes_of (file_bits f))

-- ---- a file of form 2

-- Its variables are also in an order that form 1 allows.
rules-in-any-order : (σ : Signature) (rs : List Sides) → RulesOk 0 σ rs → AllFit (flat_map rule_items rs) →
    RulesOk all_used σ rs
unfolding flat_map
rules-in-any-order σ [] ok fits = tt
rules-in-any-order σ (r ∷ rs) (f, g, o, ok) fits =
    let (here, later) = all-fit-split (rule_items r) (flat_map rule_items rs) fits in
    (f, g, fit-in-order (r.left ++ r.right) (rw (rule-items r) at here), rules-in-any-order σ rs ok later)

-- The file as one of form 1.
abbrev pub file_before : RuleFile → RuleFile
file_before f = record { form = first_form; signature = f.signature; rules = f.rules }

pub readable-before : (f : RuleFile) → f.form ≡ form_number → NoZeroWeightUnary f.signature → Readable form_number f →
    Readable first_form (file_before f)
unfolding items
readable-before f now heavy r =
    let symbols = flat_map (symbol_items f.form) f.signature.symbols in
    let (count, (w0, (rules, rest))) = r.fits.1 in
    let (front, nodes) = all-fit-split symbols (flat_map rule_items f.rules) rest in
    let all = all-fit-append (flat_map (symbol_items first_form) f.signature.symbols) _ (rw now at front) nodes in
    record {
      ok = record {
        form_taken = taken_own first_form;
        some_symbol = r.ok.some_symbol;
        variable_weighs = r.ok.variable_weighs;
        symbols_ok = symbols-before f.signature heavy (rw now at r.ok.symbols_ok);
        none_outranked = r.ok.none_outranked;
        rules_ok = rules-in-any-order f.signature f.rules (rw now at r.ok.rules_ok) nodes;
      };
      fits = (lit< tt, (count, (w0, (rules, all))));
    }

sides-same : (r : Sides) → in_order (r.left ++ r.right) ≡ true → converted_sides r ≡ r
sides-same r o =
    let word = rename_word (place_in (first_uses (r.left ++ r.right))) in
    let same = converted-words r ∙ in_order-renumbered (r.left ++ r.right) o in
    let n = length-map r.left word in
    ap₂ (λ (a b : List ℕ). record { left = a; right = b })
    (sym (take_at (map word r.left) (map word r.right) (length r.left) n)
    ∙ ap (take (length r.left)) same ∙ take_at r.left r.right (length r.left) refl)
    (sym (drop_at (map word r.left) (map word r.right) (length r.left) n)
    ∙ ap (drop (length r.left)) same ∙ drop_at r.left r.right (length r.left) refl)

rules-same : (σ : Signature) (rs : List Sides) → RulesOk 0 σ rs → map converted_sides rs ≡ rs
rules-same σ [] ok = refl
rules-same σ (r ∷ rs) (f, g, o, ok) = ap₂ ◌∷◌ (sides-same r o) (rules-same σ rs ok)

pub converted-same : (f : RuleFile) → f.form ≡ form_number → Readable form_number f → converted_file (file_before f) ≡ f
converted-same f now r =
    ap₂ (λ (form : ℕ) (rs : List Sides). record { form = form; signature = f.signature; rules = rs }) (sym now)
    (rules-same f.signature f.rules (rw now at r.ok.rules_ok))
