-- The words of a well-formed term, read as a term.
--     nodes-form         they have the form that reading tests
--     words-fit          and are within the widths
--     forest-cut         a forest of more nodes than are allowed stops after those
--     first_reads        they read as they are, whatever stands after them
--     term-reads         and alone
--     term-heavy         unless they are too heavy
--     term-refused       or they are more than are allowed
use mathlib.Core.Path.{◌≡◌, refl, ap, ◌∙◌}
use mathlib.Core.List.{List, [], ◌∷◌, ◌++◌, map, map-append, append-nil, append_assoc}
use mathlib.Core.Bool.{Bool, true, false, and-eq-true_iff as both}
use Prim.Native.Nat.{ℕ, suc, zero, ◌+◌, ◌-◌, ◌≤◌, ◌<◌}
use native.Mathlib.Nat.{zero-add}
use native.Mathlib.Omega.{arith}
use lib.Dec.{leb}
use lib.ListN.{length, take, drop, length-append, take-append-drop, get_or-append}
use lib.Seq.{length-take-le}
use borrow.Author.Tests.{lt-ltb, lt-leb, le-leb, ne_eqb}
use Rattle.multisets.proofs.Relations.{eqb-self}
use Rattle.terms.specs.Signature.{Signature}
use Rattle.terms.specs.Term.{Term, Terms, size, sizes, row, variable_count, WellFormed, WellFormeds}
use Rattle.terms.specs.Term.Term.{var, app}
use Rattle.terms.specs.Term.Terms.{nil, cons}
use Rattle.terms.specs.Words.{first_variable, words, words_of, term_of}
use Rattle.terms.specs.FirstUse.{unused_after, in_order_from}
use Rattle.terms.proofs.WordsLaws.{length-words, term_of-words}
use Rattle.format.specs.Errors.{too_many_nodes, side_too_heavy}
use Rattle.format.specs.Layout.{max_nodes}
use Rattle.format.specs.Reading.{Source, word_source}
use Rattle.format.specs.Reading.Reading.{got, fault}
use Rattle.format.specs.Forms.{all_used}
use Rattle.format.specs.Format.{forest_reader, is_light, side_reader}
use Rattle.format.specs.Files.{read_first_term, read_term}
use Rattle.format.specs.Packing.Item.{node}
use Rattle.format.proofs.ForestLaws.{known, argument_count}
use Rattle.format.proofs.SpellingLaws.{AllFit, all-fit-append, Spells, agrees-of, coded→spells}
use Rattle.format.proofs.SpellingLaws.Spells.{none, more}
use Rattle.format.proofs.FormatLaws.{Forest, SideOk, forest-reads, side-reads}
use Rattle.format.proofs.FormatLaws.Forest.{no_term, term_node}
use Rattle.format.proofs.CodingLaws.{word_at, word-coding}
use Rattle.format.proofs.FileLaws.{nodes-each}

fit-take : (a : ℕ) (ws : List ℕ) → AllFit (map node ws) → AllFit (map node (take a ws))
fit-take zero ws h = tt
fit-take (suc a) [] h = tt
fit-take (suc a) (w ∷ ws) h = (h.0, fit-take a ws h.1)

-- Where all numbers are used, no variable is out of turn.
pub fit-in-order : (ws : List ℕ) → AllFit (map node ws) → in_order_from all_used ws ≡ true
unfolding in_order_from
fit-in-order [] h = refl
fit-in-order (w ∷ ws) (h, hs) =
    let l : w < first_variable + variable_count = h in
    rw (
      le-leb w (first_variable + all_used) (omega arith),
      ne_eqb w (first_variable + all_used) (λ e. omega arith),
    ) (fit-in-order ws hs)

module _ (σ : Signature) (few : length σ.symbols ≤ first_variable) where
  mutual
    forest-words : (t : Term) → WellFormed σ t → (a n : ℕ) (ws : List ℕ) → Forest σ a n ws →
        Forest σ (size t + a) (suc n) (words t ++ ws)
    forest-words (var x) h a n ws f =
        let e : 1 + a ≡ suc a = omega arith in
        let w = first_variable + x in
        let v = le-leb first_variable w (omega arith) in
        let k : known σ w ≡ true = rw v in
        let g : Forest σ a (argument_count σ w + n) ws = rw (v, zero-add n) f in
        rw e (term_node k g)
    forest-words (app g ts) h a n ws f =
        let e : 1 + sizes ts + a ≡ suc (sizes ts + a) = omega arith in
        let v = lt-leb first_variable g (omega (arith, h.0)) in
        let k : known σ g ≡ true = rw (v, lt-ltb g (length σ.symbols) h.0) in
        let r : Forest σ (sizes ts + a) (argument_count σ g + n) (words_of ts ++ ws) =
        rw (v, ← h.1) (forest-words_of ts h.2 a n ws f) in
        rw e (term_node k r)

    forest-words_of : (ts : Terms) → WellFormeds σ ts → (a n : ℕ) (ws : List ℕ) → Forest σ a n ws →
        Forest σ (sizes ts + a) (length (row ts) + n) (words_of ts ++ ws)
    forest-words_of nil h a n ws f = rw (zero-add a, zero-add n) f
    forest-words_of (cons t ts) h a n ws f =
        let e : size t + sizes ts + a ≡ size t + (sizes ts + a) = omega arith in
        let c : suc (length (row ts)) + n ≡ suc (length (row ts) + n) = omega arith in
        rw (e, c, append_assoc (words t) (words_of ts) ws)
        (forest-words t h.0 (sizes ts + a) (length (row ts) + n) (words_of ts ++ ws)
        (forest-words_of ts h.1 a n ws f))

  mutual
    pub words-fit : (t : Term) → WellFormed σ t → AllFit (map node (words t))
    words-fit (var x) h = (omega arith, tt)
    words-fit (app g ts) h = (omega (arith, h.0), words_of-fit ts h.2)

    words_of-fit : (ts : Terms) → WellFormeds σ ts → AllFit (map node (words_of ts))
    words_of-fit nil h = tt
    words_of-fit (cons t ts) h =
        rw (map-append node (words t) (words_of ts))
        (all-fit-append (map node (words t)) (map node (words_of ts)) (words-fit t h.0) (words_of-fit ts h.1))

-- ---- too many nodes

-- As many nodes as are allowed, with terms still owed.
data Cut (σ : Signature) : ℕ → ℕ → List ℕ → Type 0 where
  spent : {n : ℕ} → Cut σ zero (suc n) []
  cut_node : {a n w : ℕ} {ws : List ℕ} → known σ w ≡ true → Cut σ a (argument_count σ w + n) ws →
      Cut σ (suc a) (suc n) (w ∷ ws)

forest-cut : {σ : Signature} {b n : ℕ} {ws : List ℕ} → Forest σ b n ws → (a : ℕ) → a < length ws → Cut σ a n (take a ws)
forest-cut no_term a h = absurd (omega arith)
forest-cut (term_node k f) zero h = spent
forest-cut (term_node k f) (suc a) h = cut_node k (forest-cut f a (omega arith))

cut-reads : (source : Source) {σ : Signature} (unused : ℕ) {a n : ℕ} {ws : List ℕ} → Cut σ a n ws →
    in_order_from unused ws ≡ true → {at end : ℕ} →
    Spells source (map node ws) at end → forest_reader source unused σ a n at ≡ fault too_many_nodes end
unfolding forest_reader in_order_from
cut-reads source unused spent o none = refl
cut-reads source unused (cut_node {w = w} k c) o (more e p) =
    let (t, rest) = (both (leb w (first_variable + unused)) _).0 o in
    rw (e.1, k, t, cut-reads source (unused_after unused w) c rest p)

-- ---- reading

front-spells : (ws vs : List ℕ) → AllFit (map node ws) → Spells (word_source (ws ++ vs)) (map node ws) 0 (length ws)
front-spells ws vs fits =
    let input = ws ++ vs in
    let same = nodes-each ws in
    let a = agrees-of (word_at input) 0 ws (λ i h. ap (word_at input) (zero-add i) ∙ get_or-append ws vs 0 i h) in
    rw (same, zero-add (length ws)) at
    (coded→spells (word-coding input) (map node ws) 0 fits (rw same (omega (arith, length-append ws vs))) (rw same a))

module _ (σ : Signature) (few : length σ.symbols ≤ first_variable) (t : Term) (h : WellFormed σ t) where
  pub nodes-form : (a : ℕ) → Forest σ (size t + a) 1 (words t)
  nodes-form a = rw (append-nil (words t)) at (forest-words σ few t h a 0 [] no_term)

  spelled-light : {b : Bool} → is_light σ t ≡ b → is_light σ (term_of σ (words t)) ≡ b
  spelled-light e = rw (term_of-words σ few t h) e

  pub first_reads : size t ≤ max_nodes → is_light σ t ≡ true → (rest : List ℕ) → read_first_term σ (words t ++ rest) ≡ got
      (words t) (size t)
  unfolding read_first_term
  first_reads l light rest =
      let all : size t + (max_nodes - size t) ≡ max_nodes = omega arith in
      let p = front-spells (words t) rest (words-fit σ few t h) in
      let f = rw all at (nodes-form (max_nodes - size t)) in
      let o = fit-in-order (words t) (words-fit σ few t h) in
      let ok : SideOk σ max_nodes (words t) = record { nodes = f; light = spelled-light light } in
      rw (side-reads (word_source (words t ++ rest)) max_nodes all_used σ ok o p, length-words t)

  pub term-reads : size t ≤ max_nodes → is_light σ t ≡ true → read_term σ (words t) ≡ got (words t) (size t)
  unfolding read_first_term read_term
  term-reads l light =
      let p : side_reader (word_source (words t)) max_nodes all_used σ 0 ≡ got (words t) (size t) =
      rw (append-nil (words t)) at (first_reads l light []) in
      rw (p, length-words t, eqb-self (size t))

  pub term-heavy : size t ≤ max_nodes → is_light σ t ≡ false → read_term σ (words t) ≡ fault side_too_heavy 0
  unfolding read_term side_reader
  term-heavy l heavy =
      let all : size t + (max_nodes - size t) ≡ max_nodes = omega arith in
      let p = rw (append-nil (words t)) at (front-spells (words t) [] (words-fit σ few t h)) in
      let f = rw all at (nodes-form (max_nodes - size t)) in
      let o = fit-in-order (words t) (words-fit σ few t h) in
      rw (forest-reads (word_source (words t)) σ all_used f o p, spelled-light heavy)

  pub term-refused : max_nodes < size t → read_term σ (words t) ≡ fault too_many_nodes max_nodes
  unfolding read_term side_reader
  term-refused l =
      let ws = words t in
      let n = length-take-le max_nodes ws (omega (arith, length-words t)) in
      let fits = fit-take max_nodes ws (words-fit σ few t h) in
      let p = rw (take-append-drop max_nodes ws, n) at (front-spells (take max_nodes ws) (drop max_nodes ws) fits) in
      let cut = forest-cut (nodes-form 0) max_nodes (omega (arith, length-words t)) in
      rw (cut-reads (word_source ws) all_used cut (fit-in-order (take max_nodes ws) fits) p)
