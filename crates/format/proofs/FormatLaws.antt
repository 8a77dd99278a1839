-- Reading a rule file from any source: what is read has the parts of a valid file and the source spells its items; and
-- a source that spells the items of a valid file reads as that file.
--     SymbolOk, SymbolsOk        what reading tests of the symbols
--     Forest                     what reading tests of the nodes of some terms
--     SideOk                     what reading tests of a side
--     FileOk                     what reading tests of a file
--     rules-length               as many rules as are called for
--     file-read, file-reads      the two directions
use mathlib.Core.Path.{◌≡◌, refl, sym, ap, ◌∙◌}
use mathlib.Core.List.{List, [], ◌∷◌, ◌++◌, map, flat_map, append-nil, append_assoc}
use mathlib.Core.Bool.{Bool, true, false, cond, ◌||◌, not, and-eq-true_iff as both}
use Prim.Native.Nat.{ℕ, suc, zero, ◌+◌, ◌<◌, ◌^◌}
use native.Mathlib.Omega.{arith}
use lib.ListN.{length}
use lib.Dec.{eqb, ltb, leb}
use Rattle.terms.specs.Signature.{Symbol, Signature}
use Rattle.terms.specs.Words.{first_variable, term_of}
use Rattle.terms.specs.FirstUse.{unused_after, unused_after_all, in_order_from}
use Rattle.terms.proofs.FirstUseLaws.{in_order-append}
use Rattle.format.specs.Layout.{form_width, symbol_count_width, weight_width, rule_count_width, arity_width}
use Rattle.format.specs.Layout.{ac_width, rank_width, max_nodes}
use Rattle.format.specs.Reading.{Source}
use Rattle.format.specs.Reading.Reading.{got}
use Rattle.format.specs.Forms.{is_taken, unused_of, least_weight_in}
use Rattle.format.specs.Symbols.{held_by, first_outranked, coefficients_in}
use Rattle.format.specs.Symbols.{symbol_reader, symbols_reader, weight_offset, symbol_table_reader}
use Rattle.format.specs.Format.{Sides, RuleFile, is_light, nodes_reader, side_reader}
use Rattle.format.specs.Format.{forest_reader, rule_reader, rules_reader, body_reader, file_reader}
use Rattle.format.specs.Packing.{symbol_items, rule_items, items}
use Rattle.format.specs.Packing.Item.{node}
use Rattle.format.proofs.ReadingLaws.{HoldsOf, holds-got, holds-map, holds_then, holds-require}
use Rattle.format.proofs.ForestLaws.{known, argument_count, nothing-owed}
use Rattle.format.proofs.CoefficientLaws.{Coefficients, coefficients-read, coefficients-reads}
use Rattle.format.proofs.SpellingLaws.{Spells, spells-append, spells-split}
use Rattle.format.proofs.SpellingLaws.Spells.{none, more}

-- ---- what reading tests

pub record SymbolOk (form w0 : ℕ) (earlier : List Symbol) (s : Symbol) : Type 0 where
  pub ac_binary : (eqb (cond s.ac 1 0) 0 || eqb s.arity 2) ≡ true
  pub weighs : leb (least_weight_in form w0 s.arity) s.weight ≡ true
  pub fresh : not (held_by earlier s.precedence) ≡ true
  pub coefficients : Coefficients form s.ac s.arity s.coefficients

-- Each symbol after those before it.
pub data SymbolsOk (form w0 : ℕ) : List Symbol → List Symbol → Type 0 where
  no_symbol : {earlier : List Symbol} → SymbolsOk form w0 earlier []
  symbol : {earlier : List Symbol} {s : Symbol} {ss : List Symbol} → SymbolOk form w0 earlier s →
      SymbolsOk form w0 (earlier ++ (s ∷ [])) ss → SymbolsOk form w0 earlier (s ∷ ss)

-- As many terms as are owed, with an allowance of nodes.
pub data Forest (σ : Signature) : ℕ → ℕ → List ℕ → Type 0 where
  no_term : {a : ℕ} → Forest σ a zero []
  term_node : {a n w : ℕ} {ws : List ℕ} → known σ w ≡ true → Forest σ a (argument_count σ w + n) ws →
      Forest σ (suc a) (suc n) (w ∷ ws)

-- A side: a term of so many nodes at most that is not too heavy.
pub record SideOk (σ : Signature) (limit : ℕ) (ws : List ℕ) : Type 0 where
  pub nodes : Forest σ limit 1 ws
  pub light : is_light σ (term_of σ ws) ≡ true

abbrev pub RulesOk : ℕ → Signature → List Sides → Type 0
RulesOk unused σ [] = Unit {0}
RulesOk unused σ (r ∷ rs) =
    SideOk σ max_nodes r.left × SideOk σ max_nodes r.right × (in_order_from unused (r.left ++ r.right) ≡ true)
    × RulesOk unused σ rs

-- By a reader of that form.
pub record FileOk (form : ℕ) (f : RuleFile) : Type 0 where
  pub form_taken : is_taken form f.form ≡ true
  pub some_symbol : ltb 0 (length f.signature.symbols) ≡ true
  pub variable_weighs : ltb 0 f.signature.w0 ≡ true
  pub symbols_ok : SymbolsOk f.form f.signature.w0 [] f.signature.symbols
  pub none_outranked : eqb (first_outranked f.signature.symbols) (length f.signature.symbols) ≡ true
  pub rules_ok : RulesOk (unused_of f.form) f.signature f.rules

ac-back : (ac : ℕ) → ac < 2 ^ ac_width → cond (eqb ac 1) 1 0 ≡ ac
ac-back zero h = refl
ac-back (suc zero) h = refl
ac-back (suc (suc n)) h = absurd (omega arith)

ac-same : (b : Bool) → eqb (cond b 1 0) 1 ≡ b
ac-same true = refl
ac-same false = refl

module _ (source : Source) where
  -- ---- nodes

  abbrev pub ForestRead : ℕ → Signature → ℕ → ℕ → ℕ → List ℕ → ℕ → Type 0
  ForestRead unused σ a n at ws end =
      Forest σ a n ws × (in_order_from unused ws ≡ true) × Spells source (map node ws) at end

  pub forest-read : (unused : ℕ) (σ : Signature) (a n at : ℕ) →
      HoldsOf (ForestRead unused σ a n at) (forest_reader source unused σ a n at)
  unfolding forest_reader HoldsOf in_order_from
  forest-read unused σ zero zero at = (no_term, refl, none)
  forest-read unused σ zero (suc n) at = tt
  forest-read unused σ (suc a) zero at = (no_term, refl, none)
  forest-read unused σ (suc a) (suc n) at =
      holds_then _ (source.node at) _ λ v next e.
      holds-require _ (known σ v.word) _ v.offset next _ λ k.
      holds-require _ (leb v.word (first_variable + unused)) _ v.offset next _ λ t.
      let after = unused_after unused v.word in
      let owed = argument_count σ v.word + n in
      holds_then _ (forest_reader source after σ a owed next) _ λ ws end r.
      let (f, o, p) = holds-got _ _ ws end (forest-read after σ a owed next) r in
      (term_node k f, (both _ _).1 (t, o), more (v.offset, e) p)

  pub forest-reads : (σ : Signature) (unused : ℕ) {a n : ℕ} {ws : List ℕ} → Forest σ a n ws →
      in_order_from unused ws ≡ true → {at end : ℕ} →
      Spells source (map node ws) at end → forest_reader source unused σ a n at ≡ got ws end
  unfolding forest_reader in_order_from
  forest-reads σ unused (no_term {a}) o {at} none = nothing-owed source unused σ a at
  forest-reads σ unused (term_node {w = w} k f) o (more e p) =
      let (t, rest) = (both (leb w (first_variable + unused)) _).0 o in
      rw (e.1, k, t, forest-reads σ (unused_after unused w) f rest p)

  -- ---- a side

  pub nodes-read : (limit unused : ℕ) (σ : Signature) (at : ℕ) →
      HoldsOf (ForestRead unused σ limit 1 at) (nodes_reader source limit unused σ at)
  nodes-read limit unused σ at = forest-read unused σ limit 1 at

  abbrev pub SideRead : ℕ → ℕ → Signature → ℕ → List ℕ → ℕ → Type 0
  SideRead limit unused σ at ws end =
      SideOk σ limit ws × (in_order_from unused ws ≡ true) × Spells source (map node ws) at end

  pub side-read : (limit unused : ℕ) (σ : Signature) (at : ℕ) →
      HoldsOf (SideRead limit unused σ at) (side_reader source limit unused σ at)
  unfolding side_reader HoldsOf
  side-read limit unused σ at =
      holds_then _ (nodes_reader source limit unused σ at) _ λ ws end e.
      holds-require _ (is_light σ (term_of σ ws)) _ at end _ λ light.
      let (f, o, p) = holds-got _ _ ws end (nodes-read limit unused σ at) e in
      (record { nodes = f; light = light }, o, p)

  pub side-reads : (limit unused : ℕ) (σ : Signature) {ws : List ℕ} → SideOk σ limit ws →
      in_order_from unused ws ≡ true → {at end : ℕ} → Spells source (map node ws) at end →
      side_reader source limit unused σ at ≡ got ws end
  unfolding side_reader
  side-reads limit unused σ ok o p = rw (forest-reads σ unused ok.nodes o p, ok.light)

  -- ---- rules

  module _ (unused : ℕ) (σ : Signature) where
    abbrev pub RuleRead : ℕ → Sides → ℕ → Type 0
    RuleRead at r end =
        SideOk σ max_nodes r.left × SideOk σ max_nodes r.right
        × (in_order_from unused (r.left ++ r.right) ≡ true) × Spells source (rule_items r) at end

    pub rule-read : (at : ℕ) → HoldsOf (RuleRead at) (rule_reader source unused σ at)
    unfolding rule_reader HoldsOf
    rule-read at =
        holds_then _ (side_reader source max_nodes unused σ at) _ λ ls mid e₁.
        let after = unused_after_all unused ls in
        holds_then _ (side_reader source max_nodes after σ mid) _ λ rs end e₂.
        let (f, o, p) = holds-got _ _ ls mid (side-read max_nodes unused σ at) e₁ in
        let (g, o', q) = holds-got _ _ rs end (side-read max_nodes after σ mid) e₂ in
        (f, g, in_order-append unused ls rs ∙ (both _ _).1 (o, o'), spells-append source p q)

    rule-reads : (r : Sides) (at end : ℕ) → RuleRead at r end → rule_reader source unused σ at ≡ got r end
    unfolding rule_reader
    rule-reads r at end (f, g, o, p) =
        let (mid, p₁, p₂) = spells-split source (map node r.left) p in
        let (o₁, o₂) =
        (both (in_order_from unused r.left) _).0 (sym (in_order-append unused r.left r.right) ∙ o) in
        rw (side-reads max_nodes unused σ f o₁ p₁, side-reads max_nodes (unused_after_all unused r.left) σ g o₂ p₂)

    abbrev pub RulesRead : ℕ → ℕ → List Sides → ℕ → Type 0
    RulesRead n at rs end = (length rs ≡ n) × RulesOk unused σ rs × Spells source (flat_map rule_items rs) at end

    pub rules-read : (n at : ℕ) → HoldsOf (RulesRead n at) (rules_reader source unused σ n at)
    unfolding rules_reader HoldsOf flat_map
    rules-read zero at = (refl, tt, none)
    rules-read (suc n) at =
        holds_then _ (rule_reader source unused σ at) _ λ r mid e₁.
        holds_then _ (rules_reader source unused σ n mid) _ λ rs end e₂.
        let (f, g, o, p) = holds-got _ _ r mid (rule-read at) e₁ in
        let (k, ok, q) = holds-got _ _ rs end (rules-read n mid) e₂ in
        (ap suc k, (f, g, o, ok), spells-append source p q)

    pub rules-length : (n at : ℕ) (rs : List Sides) (end : ℕ) → rules_reader source unused σ n at ≡ got rs end →
        length rs ≡ n
    rules-length n at rs end e = (holds-got _ _ rs end (rules-read n at) e).0

    rules-reads : (rs : List Sides) (at end : ℕ) → RulesOk unused σ rs →
        Spells source (flat_map rule_items rs) at end → rules_reader source unused σ (length rs) at ≡ got rs end
    unfolding rules_reader flat_map
    rules-reads [] at end h none = refl
    rules-reads (r ∷ rs) at end (f, g, o, h) p =
        let (mid, q, q') = spells-split source (rule_items r) p in
        rw (rule-reads r at mid (f, g, o, q), rules-reads rs mid end h q')

  -- ---- symbols

  symbol-reads : {form w0 : ℕ} {earlier : List Symbol} {s : Symbol} {at end : ℕ} → SymbolOk form w0 earlier s →
      Spells source (symbol_items form s) at end → symbol_reader source form w0 earlier at ≡ got s end
  unfolding symbol_reader
  symbol-reads {form} {s = s} ok (more e₁ (more e₂ (more e₃ (more e₄ p)))) =
      let scaled = coefficients-reads source form s.ac s.arity s.coefficients ok.coefficients p in
      rw (e₁, e₂, ok.ac_binary, e₃, ok.weighs, e₄, ok.fresh, ac-same s.ac, scaled)

  symbols-reads : {form w0 : ℕ} {earlier ss : List Symbol} → SymbolsOk form w0 earlier ss → (at end : ℕ) →
      Spells source (flat_map (symbol_items form) ss) at end →
      symbols_reader source form w0 (length ss) earlier at ≡ got (earlier ++ ss) end
  unfolding symbols_reader flat_map
  symbols-reads (no_symbol {earlier}) at end none = rw append-nil
  symbols-reads {form = form} (symbol {earlier} {s} {ss} ok oks) at end p =
      let (mid, q, r) = spells-split source (symbol_items form s) p in
      rw (symbol-reads ok q, symbols-reads oks mid end r, append_assoc earlier (s ∷ []) ss)

  abbrev SymbolRead : ℕ → ℕ → List Symbol → ℕ → Symbol → ℕ → Type 0
  SymbolRead form w0 earlier at s end = SymbolOk form w0 earlier s × Spells source (symbol_items form s) at end

  -- So many symbols after the earlier ones.
  abbrev pub SymbolsRead : ℕ → ℕ → ℕ → List Symbol → ℕ → List Symbol → ℕ → Type 0
  SymbolsRead form w0 n earlier at all end =
      (ss : List Symbol) × (all ≡ earlier ++ ss) × (length ss ≡ n) × SymbolsOk form w0 earlier ss ×
      Spells source (flat_map (symbol_items form) ss) at end

  module _ (fits : (width at v next : ℕ) → source.field width at ≡ got v next → v < 2 ^ width) where
    symbol-read : (form w0 : ℕ) (earlier : List Symbol) (at : ℕ) →
        HoldsOf (SymbolRead form w0 earlier at) (symbol_reader source form w0 earlier at)
    unfolding symbol_reader HoldsOf
    symbol-read form w0 earlier at =
        holds_then _ (source.field arity_width at) _ λ arity at₁ e₁.
        holds_then _ (source.field ac_width at₁) _ λ ac at₂ e₂.
        holds-require _ (eqb ac 0 || eqb arity 2) _ at at₂ _ λ binary.
        holds_then _ (source.field weight_width at₂) _ λ weight at₃ e₃.
        holds-require _ (leb (least_weight_in form w0 arity) weight) _ at₂ at₃ _ λ weighs.
        holds_then _ (source.field rank_width at₃) _ λ rank at₄ e₄.
        holds-require _ (not (held_by earlier rank)) _ at₃ at₄ _ λ fresh.
        holds_then _ (coefficients_in source form (eqb ac 1) arity at₄) _ λ ks end e₅.
        let same = ac-back ac (fits ac_width at₁ ac at₂ e₂) in
        let (scaled, p) = holds-got _ _ ks end (coefficients-read source form (eqb ac 1) arity at₄) e₅ in
        let s : Symbol = record {
          arity = arity;
          ac = eqb ac 1;
          weight = weight;
          precedence = rank;
          coefficients = ks;
        } in
        let ok : SymbolOk form w0 earlier s =
        record { ac_binary = rw same binary; weighs = weighs; fresh = fresh; coefficients = scaled } in
        (ok, rw same (more e₁ (more e₂ (more e₃ (more e₄ p)))))

    pub symbols-read : (form w0 n : ℕ) (earlier : List Symbol) (at : ℕ) →
        HoldsOf (SymbolsRead form w0 n earlier at) (symbols_reader source form w0 n earlier at)
    unfolding symbols_reader HoldsOf flat_map
    symbols-read form w0 zero earlier at = ([], sym (append-nil earlier), refl, no_symbol, none)
    symbols-read form w0 (suc n) earlier at =
        holds_then _ (symbol_reader source form w0 earlier at) _ λ s mid e.
        let (ok, p) = holds-got _ _ s mid (symbol-read form w0 earlier at) e in
        let up_to = earlier ++ (s ∷ []) in
        holds-map _ _ (symbols_reader source form w0 n up_to mid) (symbols-read form w0 n up_to mid)
        λ all end (ss, a, k, oks, q).
        (s ∷ ss, a ∙ append_assoc earlier (s ∷ []) ss, ap suc k, symbol ok oks, spells-append source p q)

    -- The symbols are read, and none is outranked.
    pub table-read : (form w0 n at : ℕ) → HoldsOf (λ ss end. (symbols_reader source form w0 n [] at ≡ got ss end) ×
        (eqb (first_outranked ss) (length ss) ≡ true)) (symbol_table_reader source form w0 n at)
    unfolding symbol_table_reader HoldsOf
    table-read form w0 n at =
        holds_then _ (symbols_reader source form w0 n [] at) _ λ ss end e.
        holds-require _ (eqb (first_outranked ss) (length ss)) _ (weight_offset source form at ss (first_outranked ss))
        end _ λ t.
        (e, t)

    pub file-read : (form at : ℕ) →
        HoldsOf (λ f end. FileOk form f × Spells source (items f) at end) (file_reader form source at)
    unfolding file_reader body_reader symbol_table_reader items HoldsOf
    file-read form at =
        holds_then _ (source.field form_width at) _ λ read at₁ e₁.
        holds-require _ (is_taken form read) _ at at₁ _ λ form_taken.
        let unused = unused_of read in
        holds_then _ (source.field symbol_count_width at₁) _ λ k at₂ e₂.
        holds-require _ (ltb 0 k) _ at₁ at₂ _ λ some.
        holds_then _ (source.field weight_width at₂) _ λ w0 at₃ e₃.
        holds-require _ (ltb 0 w0) _ at₂ at₃ _ λ weighs.
        holds_then _ (source.field rule_count_width at₃) _ λ n at₄ e₄.
        holds_then _ (symbol_table_reader source read w0 k at₄) _ λ ss at₅ table.
        holds_then _ (rules_reader source unused (record { w0 = w0; symbols = ss }) n at₅) _ λ rs end e₆.
        let (e₅, none_outranked) = holds-got _ _ ss at₅ (table-read read w0 k at₄) table in
        let (new, a, length-new, oks, p) = holds-got _ _ ss at₅ (symbols-read read w0 k [] at₄) e₅ in
        let σ : Signature = record { w0 = w0; symbols = ss } in
        let (length-rs, rules_ok, q) = holds-got _ _ rs end (rules-read unused σ n at₅) e₆ in
        let length-ss : length ss ≡ k = ap length a ∙ length-new in
        let symbols_ok : SymbolsOk read w0 [] ss = rw (← a) at oks in
        let r₂ : source.field symbol_count_width at₁ ≡ got (length ss) at₂ = rw (← length-ss) at e₂ in
        let r₄ : source.field rule_count_width at₃ ≡ got (length rs) at₄ = rw (← length-rs) at e₄ in
        let ok : FileOk form (record { form = read; signature = σ; rules = rs }) = record {
          form_taken = form_taken;
          some_symbol = rw length-ss some;
          variable_weighs = weighs;
          symbols_ok = symbols_ok;
          none_outranked = none_outranked;
          rules_ok = rules_ok;
        } in
        (ok, more e₁ (more r₂ (more e₃ (more r₄ (spells-append source (rw (← a) at p) q)))))

  pub file-reads : (form : ℕ) (f : RuleFile) (at end : ℕ) → FileOk form f → Spells source (items f) at end →
      file_reader form source at ≡ got f end
  unfolding file_reader body_reader symbol_table_reader items
  file-reads form f at end ok (more e₁ (more e₂ (more e₃ (more e₄ p)))) =
      let (mid, q, r) = spells-split source (flat_map (symbol_items f.form) f.signature.symbols) p in
      let symbols = symbols-reads ok.symbols_ok _ mid q in
      let rules = rules-reads (unused_of f.form) f.signature f.rules mid end ok.rules_ok r in
      rw (e₁, ok.form_taken, e₂, ok.some_symbol, e₃, ok.variable_weighs, e₄, symbols, ok.none_outranked, rules)
