-- A well-formed file is readable.
--     term-forest              the words of a term have the form that reading tests, and fit
--     rules-of                 so do the sides of rules
--     well-formed-readable     and so the file is one that its bytes and its words read as
use mathlib.Core.Path.{◌≡◌, refl, ap}
use mathlib.Core.List.{List, [], ◌∷◌, ◌++◌, map, flat_map, Memᴰ}
use mathlib.Core.Bool.{Bool, true, false, cond}
use Prim.Native.Nat.{ℕ, ◌+◌, ◌-◌, ◌^◌, ◌≤◌, ◌<◌}
use native.Mathlib.Omega.{arith}
use lib.ListN.{length}
use lib.Dec.{lit<}
use borrow.Author.Tests.{lt-ltb}
use Rattle.terms.specs.Signature.{Signature, symbol_of, coefficients_of}
use Rattle.terms.specs.Term.{size}
use Rattle.terms.specs.Words.{first_variable, term_of}
use Rattle.terms.specs.FirstUse.{in_order_from}
use Rattle.terms.proofs.WordsLaws.{length-words}
use Rattle.format.specs.Layout.{form_width, ac_width, max_nodes}
use Rattle.format.specs.Forms.{is_taken, unused_of}
use Rattle.format.specs.Format.{Sides, RuleFile, is_light}
use Rattle.format.specs.Packing.{symbol_items, rule_items, items}
use Rattle.format.specs.Packing.Item.{node}
use Rattle.format.specs.Statements.{IsTerm, WellFormedFile}
use Rattle.format.proofs.SpellingLaws.{AllFit, all-fit-append}
use Rattle.format.proofs.CoefficientLaws.{coefficients-fit}
use Rattle.format.proofs.FormatLaws.{Forest, SymbolsOk, SideOk, RulesOk}
use Rattle.format.proofs.FileLaws.{Readable}
use Rattle.format.proofs.SymbolLaws.{ranked-of-admissible, fits-of}
use Rattle.format.proofs.TermReading.{words-fit, nodes-form}

module _ (σ : Signature) (few : length σ.symbols ≤ first_variable) where
  term-forest : (ws : List ℕ) → IsTerm σ ws → Forest σ max_nodes 1 ws × AllFit (map node ws)
  term-forest ws t =
      let u = term_of σ ws in
      let n : size u + (max_nodes - size u) ≡ max_nodes =
      omega (arith, t.short, length-words u, ap length t.spelled) in
      let f = rw n at (nodes-form σ few u t.well_formed (max_nodes - size u)) in
      (rw (← t.spelled) at f, rw (← t.spelled) at (words-fit σ few u t.well_formed))

  rules-of : (unused : ℕ) (rs : List Sides) →
      ((r : Sides) → Memᴰ r rs → IsTerm σ r.left × IsTerm σ r.right) →
      ((r : Sides) → Memᴰ r rs →
      (is_light σ (term_of σ r.left) ≡ true) × (is_light σ (term_of σ r.right) ≡ true)) →
      ((r : Sides) → Memᴰ r rs → in_order_from unused (r.left ++ r.right) ≡ true) →
      RulesOk unused σ rs × AllFit (flat_map rule_items rs)
  unfolding flat_map
  rules-of unused [] h light o = (tt, tt)
  rules-of unused (r ∷ rs) h light o =
      let (l, k) = h r (Memᴰ.head refl) in
      let (f, a) = term-forest r.left l in
      let (g, b) = term-forest r.right k in
      let (a-light, b-light) = light r (Memᴰ.head refl) in
      let (ok, fits) =
      rules-of unused rs (λ s m. h s (Memᴰ.tail m)) (λ s m. light s (Memᴰ.tail m))
      λ s m. o s (Memᴰ.tail m) in
      let left : SideOk σ max_nodes r.left = record { nodes = f; light = a-light } in
      let right : SideOk σ max_nodes r.right = record { nodes = g; light = b-light } in
      let both = all-fit-append (map node r.left) (map node r.right) a b in
      ((left, right, o r (Memᴰ.head refl), ok), all-fit-append (rule_items r) (flat_map rule_items rs) both fits)

bit-fits : (b : Bool) → cond b 1 0 < 2 ^ ac_width
bit-fits true = lit< tt
bit-fits false = lit< tt

-- By a reader that takes its form, if its symbols weigh what the form asks for.
pub well-formed-readable : (reader : ℕ) (file : RuleFile) → is_taken reader file.form ≡ true →
    file.form < 2 ^ form_width → WellFormedFile file →
    SymbolsOk file.form file.signature.w0 [] file.signature.symbols → Readable reader file
unfolding items
well-formed-readable reader file t form_fits w weigh =
    let σ = file.signature in
    let within = w.within in
    let few : length σ.symbols ≤ first_variable = omega (arith, within.symbol_count) in
    let (ok, rules) = rules-of σ few (unused_of file.form) file.rules w.sides w.light w.in_turn in
    let symbols = fits-of file.form σ.symbols (λ f.
    let scaled = coefficients-fit file.form (coefficients_of σ f) (within.coefficient f) in
    (within.arity f, (bit-fits (symbol_of σ f).ac, (within.weight f, (within.precedence f, scaled))))) in
    let rest =
    all-fit-append (flat_map (symbol_items file.form) σ.symbols) (flat_map rule_items file.rules) symbols rules in
    record {
      ok = record {
        form_taken = t;
        some_symbol = lt-ltb 0 (length σ.symbols) w.some_symbol;
        variable_weighs = lt-ltb 0 σ.w0 w.admissible.variable_weighs;
        symbols_ok = weigh;
        none_outranked = ranked-of-admissible σ w.admissible;
        rules_ok = ok;
      };
      fits = (form_fits, (within.symbol_count, (within.w0, (within.rule_count, rest))));
    }
