-- The words of terms that are read are those of well-formed terms.
--     TermsOf           so many well-formed terms and their words
--     forest-formed     what is read as a forest is spelled by the terms of `forest_of`
--     side-formed       what is read as one term is the words of `term_of`
--     forest-le, forest-short, side-short    it has no more nodes than are allowed
--     rule_fits         a rule that is read from bits fits
use mathlib.Core.Path.{◌≡◌, refl, sym, ap, ◌∙◌}
use mathlib.Core.List.{List, [], ◌∷◌, ◌++◌, map, append-nil, append_assoc}
use Prim.Native.Nat.{ℕ, suc, ◌+◌, ◌-◌, ◌≤◌, ◌<◌}
use native.Mathlib.Nat.{zero-add}
use native.Mathlib.Omega.{arith}
use lib.ListN.{length, get_or, take, drop, take-append-drop, length-drop}
use lib.Seq.{length-take-le}
use borrow.Author.Tests.{ltb-true, lt-ltb, le-ltb, lt-leb, le-leb}
use Rattle.multisets.proofs.Relations.{by_order}
use Rattle.terms.specs.Signature.{Signature, symbol_of, IsSymbol}
use Rattle.terms.specs.Term.{Term, row, arguments, variable_count, WellFormed, WellFormeds}
use Rattle.terms.specs.Term.Term.{var}
use Rattle.terms.specs.Words.{first_variable, words, words_of, grow, forest_of, term_of}
use Rattle.terms.proofs.TermLaws.{row-arguments}
use Rattle.format.specs.Reading.{Source, bit_source}
use Rattle.format.specs.Reading.Reading.{got}
use Rattle.format.specs.Format.{Sides, forest_reader, side_reader, rule_reader}
use Rattle.format.specs.Packing.{rule_items}
use Rattle.format.specs.Packing.Item.{node}
use Rattle.format.proofs.ReadingLaws.{holds-got}
use Rattle.format.proofs.SpellingLaws.{AllFit}
use Rattle.format.proofs.FormatLaws.{side-read, Forest, forest-read, rule-read}
use Rattle.format.proofs.CodingLaws.{spells-fit}
use Rattle.format.proofs.FormatLaws.Forest.{no_term, term_node}

-- The words of some terms.
abbrev pub list_words : List Term → List ℕ
list_words ts = words_of (arguments ts)

module _ (σ : Signature) where
  pub record TermsOf (n : ℕ) (ts : List Term) (ws : List ℕ) : Type 0 where
    pub count : length ts ≡ n
    pub spelled : list_words ts ≡ ws
    pub formed : WellFormeds σ (arguments ts)

  list_words-append : (ts us : List Term) → list_words (ts ++ us) ≡ list_words ts ++ list_words us
  list_words-append [] us = refl
  list_words-append (t ∷ ts) us =
      rw (list_words-append ts us) (sym (append_assoc (words t) (list_words ts) (list_words us)))

  formeds-split : (ts us : List Term) → WellFormeds σ (arguments (ts ++ us)) →
      WellFormeds σ (arguments ts) × WellFormeds σ (arguments us)
  formeds-split [] us h = (tt, h)
  formeds-split (t ∷ ts) us h = let (a, b) = formeds-split ts us h.1 in ((h.0, a), b)

  grow-symbol : (w n : ℕ) (ts : List Term) (ws : List ℕ) → w < first_variable → IsSymbol σ w →
      TermsOf ((symbol_of σ w).arity + n) ts ws → TermsOf (suc n) (grow σ w ts) (w ∷ ws)
  grow-symbol w n ts ws h s f =
      let m = (symbol_of σ w).arity in
      let k = f.count in
      let cut : take m ts ++ drop m ts ≡ ts = take-append-drop m ts in
      let (a, b) = formeds-split (take m ts) (drop m ts) (rw cut f.formed) in
      let join = sym (list_words-append (take m ts) (drop m ts)) ∙ ap list_words cut ∙ f.spelled in
      let full : length (row (arguments (take m ts))) ≡ m =
      rw (row-arguments (take m ts)) (length-take-le m ts (omega arith)) in
      rw (lt-ltb w first_variable h) (record {
        count = omega (arith, length-drop m ts);
        spelled = ap (◌∷◌ w) join;
        formed = ((s, full, a), b);
      })

  grow-variable : (w n : ℕ) (ts : List Term) (ws : List ℕ) → first_variable ≤ w → w < first_variable + variable_count →
      TermsOf n ts ws → TermsOf (suc n) (grow σ w ts) (w ∷ ws)
  grow-variable w n ts ws h l f =
      let back : first_variable + (w - first_variable) ≡ w = omega arith in
      rw (le-ltb w first_variable h) (record {
        count = ap suc f.count;
        spelled = rw back (ap (◌∷◌ w) f.spelled);
        formed = (omega arith, f.formed);
      })

  pub forest-formed : {a n : ℕ} {ws : List ℕ} → Forest σ a n ws → AllFit (map node ws) → TermsOf n (forest_of σ ws) ws
  unfolding forest_of
  forest-formed no_term fits = record { count = refl; spelled = refl; formed = tt }
  forest-formed (term_node {a} {n} {w} {ws} k f) fits =
      let ih = forest-formed f fits.1 in
      by_order w first_variable
      (λ h.
      let low = lt-leb first_variable w h in
      let s = ltb-true w (length σ.symbols) (rw low at k) in
      grow-symbol w n (forest_of σ ws) ws h s (rw low at ih))
      λ h.
      let high = le-leb first_variable w h in
      grow-variable w n (forest_of σ ws) ws h fits.0 (rw (high, zero-add n) at ih)

  pub forest-le : {a n : ℕ} {ws : List ℕ} → Forest σ a n ws → length ws ≤ a
  forest-le no_term = omega arith
  forest-le (term_node k f) = omega (arith, forest-le f)

  one-formed : (ts : List Term) (ws : List ℕ) → TermsOf 1 ts ws →
      (words (get_or ts 0 (var 0)) ≡ ws) × WellFormed σ (get_or ts 0 (var 0))
  one-formed [] ws f = absurd (omega (arith, f.count))
  one-formed (t ∷ []) ws f = (sym (append-nil (words t)) ∙ f.spelled, f.formed.0)
  one-formed (t ∷ u ∷ ts) ws f = absurd (omega (arith, f.count))

  pub side-formed : {a : ℕ} {ws : List ℕ} → Forest σ a 1 ws → AllFit (map node ws) →
      (words (term_of σ ws) ≡ ws) × WellFormed σ (term_of σ ws)
  side-formed {ws = ws} f fits = one-formed (forest_of σ ws) ws (forest-formed f fits)

pub forest-short : (source : Source) (unused : ℕ) (σ : Signature) (a n at : ℕ) (ws : List ℕ) (end : ℕ) →
    forest_reader source unused σ a n at ≡ got ws end → length ws ≤ a
forest-short source unused σ a n at ws end e =
    forest-le σ (holds-got _ _ ws end (forest-read source unused σ a n at) e).0

pub side-short : (source : Source) (limit unused : ℕ) (σ : Signature) (at : ℕ) (ws : List ℕ) (end : ℕ) →
    side_reader source limit unused σ at ≡ got ws end → length ws ≤ limit
side-short source limit unused σ at ws end e =
    forest-le σ (holds-got _ _ ws end (side-read source limit unused σ at) e).0.nodes

pub rule_fits : (bytes : List ℕ) (unused : ℕ) (σ : Signature) (at : ℕ) (r : Sides) (end : ℕ) →
    rule_reader (bit_source bytes) unused σ at ≡ got r end → AllFit (rule_items r)
rule_fits bytes unused σ at r end e =
    spells-fit bytes (holds-got _ _ r end (rule-read (bit_source bytes) unused σ at) e).3
