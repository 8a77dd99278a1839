-- Contexts by the words before their open place, and the words of a substituted term.
--     words-fill                  a filled context: the words before, those of the term, those after
--     fill-each                   what goes down to the parts
--     part-at, filled_at          the part at that offset, and the words with another term there
--     context-at                  each offset is that of a context
--     words-substitute            a substituted term: word by word
use mathlib.Core.List.{List, [], ◌∷◌, ◌++◌, append_assoc, append-nil, flat_map}
use mathlib.Core.Path.{◌≡◌, refl, sym, ap, ap₂, ◌∙◌}
use Prim.Native.Nat.{ℕ, suc, zero, ◌+◌, ◌-◌, ◌≤◌, ◌<◌}
use native.Mathlib.Omega.{arith}
use lib.ListN.{length, get_or, take, drop, length-append}
use lib.Seq.{take_at, drop_at}
use borrow.Author.Tests.{lt-ltb, le-ltb}
use Rattle.multisets.proofs.Relations.{by_order}
use Rattle.multisets.proofs.MultisetMaps.{flat_map-append}
use Rattle.terms.specs.Signature.{Signature}
use Rattle.terms.specs.Term.{Term, Terms, row, arguments, size, WellFormed}
use Rattle.terms.specs.Term.Term.{var, app}
use Rattle.terms.specs.Term.Terms.{nil, cons}
use Rattle.terms.specs.Words.{first_variable, words, words_of, term_of}
use Rattle.terms.specs.Rewriting.{Context, fill, Substitution, substitute, substitute_in}
use Rattle.terms.specs.Rewriting.Context.{hole, inside}
use Rattle.terms.proofs.TermLaws.{Hereditary, row-each, size-pos, arguments-row, among-member}
use Rattle.terms.proofs.WordsLaws.{length-words, forest_of-words}
use Rattle.simplifying.specs.Filling.{Shaped, Shapeds}
use Rattle.simplifying.specs.Holes.{words_before, words_after, image_words}

-- ---- a filled context

pub words_of-append : (ss ts : List Term) →
    words_of (arguments (ss ++ ts)) ≡ words_of (arguments ss) ++ words_of (arguments ts)
words_of-append [] ts = refl
words_of-append (s ∷ ss) ts =
    ap (◌++◌ (words s)) (words_of-append ss ts) ∙ sym (append_assoc (words s) (words_of (arguments ss)) (words_of
    (arguments ts)))

pub words-fill : (c : Context) (t : Term) → words (fill c t) ≡ words_before c ++ (words t ++ words_after c)
words-fill hole t = sym (append-nil (words t))
words-fill (inside f ss c ts) t = ap (◌∷◌ f) (simp (words_of-append, words-fill c t, append_assoc))

-- A property that goes down to the parts holds of what is in the open place.
pub fill-each : {P : Term → Type 0} {Q : Terms → Type 0} → Hereditary P Q → (c : Context) (t : Term) → P (fill c t) →
    P t
fill-each h hole t p = p
fill-each h (inside f ss c ts) t p =
    let us = arguments (ss ++ (fill c t ∷ ts)) in
    fill-each h c t (row-each h (fill c t) us (h.inner f us p) (among-member ss ts (fill c t)))

-- The offset of the open place.
abbrev pub hole_offset : Context → ℕ
hole_offset c = length (words_before c)

pub filled_at : (c : Context) (s t : Term) →
    words (fill c t) ≡ take (hole_offset c) (words (fill c s)) ++
    (words t ++ drop (hole_offset c + size s) (words (fill c s)))
filled_at c s t =
    let n = hole_offset c in
    let w = words-fill c s in
    let e : take n (words (fill c s)) ≡ words_before c = rw w (take_at (words_before c) (words s ++ words_after c) n
    refl) in
    let k : length (words_before c ++ words s) ≡ n + size s =
    length-append (words_before c) (words s) ∙ ap (◌+◌ n) (length-words s) in
    let d : drop (n + size s) (words (fill c s)) ≡ words_after c =
    rw (w, sym (append_assoc (words_before c) (words s) (words_after c)))
    (drop_at (words_before c ++ words s) (words_after c) (n + size s) k) in
    words-fill c t ∙ rw (e, d)

pub hole-inside : (c : Context) (t : Term) → hole_offset c < length (words (fill c t))
hole-inside c t =
    omega (
      arith,
      ap length (words-fill c t),
      length-append (words_before c) (words t ++ words_after c),
      length-append (words t) (words_after c),
      length-words t,
      size-pos t,
    )

module _ (σ : Signature) (few : length σ.symbols ≤ first_variable) where
  pub part-at : (c : Context) (t : Term) → WellFormed σ t → term_of σ (drop (hole_offset c) (words (fill c t))) ≡ t
  part-at c t w =
      let e : drop (hole_offset c) (words (fill c t)) ≡ words t ++ words_after c =
      rw (words-fill c t) (drop_at (words_before c) (words t ++ words_after c) (hole_offset c) refl) in
      rw e (ap (λ (ts : List Term). get_or ts 0 (var 0)) (forest_of-words σ few t w (words_after c)))

-- ---- the context at an offset

pub record Opened (s : Term) (i : ℕ) : Type 0 where
  pub context : Context
  pub part : Term
  pub whole : s ≡ fill context part
  pub offset : hole_offset context ≡ i

record OpenedIn (ts : Terms) (i : ℕ) : Type 0 where
  pub before : List Term
  pub context : Context
  pub part : Term
  pub after : List Term
  pub whole : row ts ≡ before ++ (fill context part ∷ after)
  pub offset : length (words_of (arguments before)) + hole_offset context ≡ i

mutual
  pub context-at : (s : Term) (i : ℕ) → i < length (words s) → Opened s i
  context-at (var x) zero h = record { context = hole; part = var x; whole = refl; offset = refl }
  context-at (var x) (suc i) h = absurd (omega arith)
  context-at (app f ts) zero h = record { context = hole; part = app f ts; whole = refl; offset = refl }
  context-at (app f ts) (suc i) h =
      let o = context-in ts i (omega arith) in
      record {
        context = inside f o.before o.context o.after;
        part = o.part;
        whole = ap (app f) (sym (arguments-row ts) ∙ ap arguments o.whole);
        offset = ap suc (length-append (words_of (arguments o.before)) (words_before o.context) ∙ o.offset);
      }

  context-in : (ts : Terms) (i : ℕ) → i < length (words_of ts) → OpenedIn ts i
  context-in nil i h = absurd (omega arith)
  context-in (cons t ts) i h =
      by_order i (length (words t))
      (λ k.
      let o = context-at t i k in
      record {
        before = [];
        context = o.context;
        part = o.part;
        after = row ts;
        whole = ap (λ (u : Term). u ∷ row ts) o.whole;
        offset = omega (arith, o.offset);
      })
      λ k.
      let o = context-in ts (i - length (words t)) (omega (arith, length-append (words t) (words_of ts))) in
      record {
        before = t ∷ o.before;
        context = o.context;
        part = o.part;
        after = o.after;
        whole = ap (◌∷◌ t) o.whole;
        offset = omega (arith, o.offset, length-append (words t) (words_of (arguments o.before)));
      }

-- ---- a substituted term

module _ (σ : Signature) (few : length σ.symbols ≤ first_variable) (τ : Substitution) where
  mutual
    unfolding flat_map

    pub words-substitute : (t : Term) → Shaped σ t → words (substitute τ t) ≡ flat_map (image_words τ) (words t)
    words-substitute (var x) s =
        let e : first_variable + x - first_variable ≡ x = omega arith in
        rw (le-ltb (first_variable + x) first_variable (omega arith), e) (sym (append-nil (words (τ x))))
    words-substitute (app f ts) s =
        rw (lt-ltb f first_variable (omega arith)) (ap (◌∷◌ f) (words-substitute_in ts s.2))

    words-substitute_in : (ts : Terms) → Shapeds σ ts → words_of (substitute_in τ ts) ≡ flat_map (image_words τ) (words_of ts)
    words-substitute_in nil s = refl
    words-substitute_in (cons t ts) s =
        ap₂ ◌++◌ (words-substitute t s.0) (words-substitute_in ts s.1)
        ∙ sym (flat_map-append (image_words τ) (words t) (words_of ts))
