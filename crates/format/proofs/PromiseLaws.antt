-- What the layers above rely on: of a readable file, and of a term that is read from words.
--     readable-formed            it is well formed
--     readable-system            and so are the rules that it means
--     first-term, whole-term     a term that is read from words
use mathlib.Core.Path.{◌≡◌, sym, ap, ◌∙◌}
use mathlib.Core.Bool.{true}
use mathlib.Core.List.Memᴰ
use mathlib.Core.List.{List, [], ◌∷◌, ◌++◌, map, flat_map, Memᴰ}
use Prim.Native.Nat.{ℕ, ◌≤◌, ◌<◌}
use native.Mathlib.Nat.{zero-add}
use native.Mathlib.Omega.{arith}
use lib.ListN.{length, get_or, take}
use lib.Seq.{ext_get_or, get_or-take, length-take-le, take_all}
use lib.Dec.{eqb}
use borrow.Author.Tests.{ltb-true, eqb-true}
use Rattle.terms.specs.Signature.{Signature, symbol_of}
use Rattle.terms.specs.Words.{term_of}
use Rattle.terms.specs.FirstUse.{in_order_from}
use Rattle.terms.specs.Rewriting.{WellFormedRules}
use Rattle.format.specs.Layout.{max_nodes}
use Rattle.format.specs.Reading.{word_source}
use Rattle.format.specs.Reading.Reading.{got}
use Rattle.format.specs.Forms.{all_used, unused_of}
use Rattle.format.specs.Format.{Sides, RuleFile, system_of, is_light, side_reader}
use Rattle.format.specs.Files.{read_first_term, read_term}
use Rattle.format.specs.Packing.{items, symbol_items, rule_items}
use Rattle.format.specs.Packing.Item.{node}
use Rattle.format.specs.Statements.{IsTerm, WellFormedFile}
use Rattle.format.proofs.ReadingLaws.{HoldsOf, holds-got, holds_then, holds-require}
use Rattle.format.proofs.SpellingLaws.{AllFit, all-fit-split, Agrees, agrees_at, spells→coded}
use Rattle.format.proofs.CoefficientLaws.{coefficient-fits}
use Rattle.format.proofs.FormatLaws.{Forest, RulesOk, side-read}
use Rattle.format.proofs.CodingLaws.{word_at, word-coding}
use Rattle.format.proofs.FileLaws.{Readable, nodes-each}
use Rattle.format.proofs.SideLaws.{side-formed, forest-le}
use Rattle.format.proofs.SymbolLaws.{coefficients-of-symbols, admissible-of-symbols, fits-at}

forest-term : (σ : Signature) (ws : List ℕ) → Forest σ max_nodes 1 ws → AllFit (map node ws) → IsTerm σ ws
forest-term σ ws f fits =
    let (e, w) = side-formed σ f fits in
    record { spelled = sym e; well_formed = w; short = forest-le σ f }

-- ---- a file

rules-at : (unused : ℕ) (σ : Signature) (rs : List Sides) → RulesOk unused σ rs → AllFit (flat_map rule_items rs) →
    (r : Sides) → Memᴰ r rs →
    (IsTerm σ r.left × IsTerm σ r.right) × (in_order_from unused (r.left ++ r.right) ≡ true)
    × (is_light σ (term_of σ r.left) ≡ true) × (is_light σ (term_of σ r.right) ≡ true)
unfolding flat_map
rules-at unused σ [] ok fits r m = absurd (Memᴰ.not-nil m)
rules-at unused σ (q ∷ rs) ok fits r (Memᴰ.head e) =
    let (here, later) = all-fit-split (rule_items q) (flat_map rule_items rs) fits in
    let (a, b) = all-fit-split (map node q.left) (map node q.right) here in
    rw e (
      (forest-term σ q.left ok.0.nodes a, forest-term σ q.right ok.1.nodes b),
      ok.2,
      ok.0.light,
      ok.1.light,
    )
rules-at unused σ (q ∷ rs) ok fits r (Memᴰ.tail m) =
    rules-at unused σ rs ok.3 (all-fit-split (rule_items q) (flat_map rule_items rs) fits).1 r m

module _ (form : ℕ) (f : RuleFile) (r : Readable form f) where
  pub readable-formed : WellFormedFile f
  unfolding items
  readable-formed =
      let σ = f.signature in
      let (count, (w0, (rules, rest))) = r.fits.1 in
      let (symbols, nodes) = all-fit-split (flat_map (symbol_items f.form) σ.symbols)
      (flat_map rule_items f.rules) rest in
      let each = fits-at f.form σ.symbols symbols in
      let scaled = coefficients-of-symbols f.form σ r.ok.symbols_ok r.ok.none_outranked in
      let here = rules-at (unused_of f.form) σ f.rules r.ok.rules_ok nodes in
      record {
        admissible =
            admissible-of-symbols f.form σ r.ok.symbols_ok r.ok.none_outranked
            (ltb-true 0 σ.w0 r.ok.variable_weighs);
        full = λ g. (scaled g).full;
        plain = λ e g. (scaled g).plain e;
        some_symbol = ltb-true 0 (length σ.symbols) r.ok.some_symbol;
        within = record {
          symbol_count = count;
          w0 = w0;
          rule_count = rules;
          arity = λ g. (each g).0;
          weight = λ g. (each g).1.1.0;
          precedence = λ g. (each g).1.1.1.0;
          coefficient = λ g. coefficient-fits f.form (symbol_of σ g).arity _ (scaled g).plain (each g).1.1.1.1;
        };
        sides = λ s m. (here s m).0;
        light = λ s m. ((here s m).2, (here s m).3);
        in_turn = λ s m. (here s m).1;
      }

  pub readable-system : WellFormedRules (system_of f)
  readable-system rule m =
      let (s, n, e) = Memᴰ.of_map _ f.rules m in
      let (a, b) = readable-formed.sides s n in
      rw (← e) (a.well_formed, b.well_formed)

-- ---- a term

module _ (σ : Signature) (input nodes : List ℕ) (end : ℕ) where
  pub first-term : read_first_term σ input ≡ got nodes end →
      (nodes ≡ take end input) × (end ≡ length nodes) × IsTerm σ nodes × (end ≤ length input)
      × (is_light σ (term_of σ nodes) ≡ true)
  unfolding read_first_term
  first-term e =
      let (f, o, p) = holds-got _ _ nodes end (side-read (word_source input) max_nodes all_used σ 0) e in
      let (fits, ends, l, a) = spells→coded (word-coding input) p (omega arith) in
      let same = nodes-each nodes in
      let cells : Agrees (word_at input) 0 nodes = rw same at a in
      let count : end ≡ length nodes = ends ∙ zero-add _ ∙ ap length same in
      let len = length-take-le end input l in
      let each : (i : ℕ) → i < length nodes → get_or nodes i 0 ≡ get_or (take end input) i 0 =
      λ i h. sym (agrees_at (word_at input) 0 nodes cells i h) ∙ ap (word_at input) (zero-add i)
      ∙ sym (get_or-take end input i 0 (omega arith)) in
      (ext_get_or 0 nodes (take end input) (omega arith) each, count, forest-term σ nodes f.nodes fits, l, f.light)

  term-read : HoldsOf (λ ws at. (read_first_term σ input ≡ got ws at) × (at ≡ length input)) (read_term σ input)
  unfolding read_first_term read_term HoldsOf
  term-read =
      holds_then _ (side_reader (word_source input) max_nodes all_used σ 0) _ λ ws at e.
      holds-require _ (eqb at (length input)) _ at at _ λ t.
      (e, eqb-true at (length input) t)

  pub whole-term : read_term σ input ≡ got nodes end → (nodes ≡ input) × (end ≡ length nodes) × IsTerm σ nodes
      × (is_light σ (term_of σ nodes) ≡ true)
  whole-term e =
      let (r, whole) = holds-got _ _ nodes end term-read e in
      let (front, count, term, within, light) = first-term r in
      (front ∙ take_all end input (omega arith), count, term, light)
