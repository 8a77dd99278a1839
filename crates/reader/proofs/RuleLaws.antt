-- What the code that reads the rules has to show at each of its ends.
--     Done                       what a loop over the rules has read: done_none, done-fault, done_more, done_all
--     SoFar                      and stored: so-far-none, so-far-fault, so_far_more, so-far-done
--     rule-renumbered            a rule of the first form from bits
--     end-fault, end-got         a reading whose end is told
--     rule-unread, rule-half, rule-whole, rule_end    a rule among words
use Rattle.std.specs.Prelude.{Ok, Err}
use mathlib.Core.Path.{◌≡◌, refl, sym, ap, ◌∙◌}
use mathlib.Core.List.{List, [], ◌∷◌, ◌++◌, map, map-append, append_assoc, append-nil}
use Prim.Native.Nat.{ℕ, suc, ◌+◌, ◌-◌, ◌≤◌, ◌<◌}
use native.Mathlib.Nat.{add-zero, sub-zero}
use native.Mathlib.Omega.{arith}
use lib.Dec.{eqb}
use lib.ListN.{length, length-append, length-map}
use lib.Seq.{sets}
use borrow.Author.Tests.{eq-eqb}
use Rattle.multisets.proofs.Relations.{by_test}
use Rattle.multisets.proofs.ListLaws.{sets-append}
use Rattle.terms.specs.Signature.{Signature}
use Rattle.terms.specs.FirstUse.{unused_after_all, renumbered}
use Rattle.format.specs.Layout.{first_form, max_nodes}
use Rattle.format.specs.Reading.{Reading, and_then, give, Source, bit_source, word_source}
use Rattle.format.specs.Reading.Reading.{got, fault}
use Rattle.format.specs.Forms.{unused_of}
use Rattle.format.specs.Format.{Sides, nodes_reader, side_reader, rule_reader, rules_reader}
use Rattle.format.specs.Conversion.{converted_sides}
use Rattle.format.specs.Statements.{Unscaled}
use Rattle.format.proofs.LightLaws.{unscaled-side}
use Rattle.format.proofs.ReadingLaws.{and_then-give, and_then-assoc, and_then-same}
use Rattle.format.proofs.SideLaws.{rule_fits}
use Rattle.format.proofs.ConversionLaws.{converted-words}
use Rattle.variables.specs.Renumbering.{RuleRenumbered}
use Rattle.variables.proofs.NodeLaws.{nodes-of-rule}
use Rattle.format.specs.Errors.{number_of}
use Rattle.answers.specs.Answer.{answered, Fault}
use Rattle.words.proofs.TermLaws.{terms-end}
use Rattle.sides.specs.Side.{WordsRead, side_words, rules_words}
use Rattle.reader.specs.File.{sides_in, rules_in}

-- ---- so many rules

pub rules-step : (source : Source) (unused : ℕ) (σ : Signature) (n at : ℕ) →
    rules_reader source unused σ (suc n) at ≡ and_then (rule_reader source unused σ at)
    (λ r next. and_then (rules_reader source unused σ n next) (λ rest. give (r ∷ rest)))
unfolding rules_reader
rules-step source unused σ n at = refl

-- That many rules of the count are done, and the others are read from an offset on.
abbrev pub Done : Source → ℕ → Signature → ℕ → ℕ → ℕ → ℕ → List Sides → Type 0
Done source unused σ count start number at done =
    rules_reader source unused σ count start
    ≡ and_then (rules_reader source unused σ (count - number) at) (λ rest. give (done ++ rest))

module _ (source : Source) (unused : ℕ) (σ : Signature) (count start : ℕ) where
  pub done_none : Done source unused σ count start 0 start []
  done_none = rw sub-zero (sym (and_then-give (rules_reader source unused σ count start)))

  module _ (number at : ℕ) (done : List Sides) (so : Done source unused σ count start number at done) where
    pub done_all : count ≤ number → rules_reader source unused σ count start ≡ got done at
    unfolding rules_reader
    done_all h =
        let z : count - number ≡ 0 = omega arith in
        so ∙ rw (z, append-nil)

    module _ (more : number < count) where
      step-at : rules_reader source unused σ (count - number) at ≡ and_then (rule_reader source unused σ at)
          (λ r next. and_then (rules_reader source unused σ (count - (number + 1)) next) (λ rest. give (r ∷ rest)))
      step-at =
          let e : count - number ≡ suc (count - (number + 1)) = omega arith in
          rw e (rules-step source unused σ (count - (number + 1)) at)

      pub done-fault : (code offset : ℕ) → rule_reader source unused σ at ≡ fault code offset →
          rules_reader source unused σ count start ≡ fault code offset
      done-fault code offset e = so ∙ rw (step-at, e)

      pub done_more : (r : Sides) (next : ℕ) → rule_reader source unused σ at ≡ got r next →
          Done source unused σ count start (number + 1) next (done ++ (r ∷ []))
      done_more r next e =
          let rest = rules_reader source unused σ (count - (number + 1)) next in
          so ∙ rw (step-at, e) (and_then-assoc rest _ _
          ∙ and_then-same rest _ _
          (λ rs last. ap (λ (l : List Sides). got l last) (sym (append_assoc done (r ∷ []) rs))))

-- Their words are stored too, from an index on where there is room, the variables in order of first use.
abbrev pub SoFar : ℕ → Source → Signature → ℕ → ℕ → ℕ → ℕ → ℕ → ℕ → List ℕ → List ℕ → Type 0
SoFar form source σ count number start at index₀ index words₀ words =
    (done : List Sides) × Done source (unused_of form) σ count start number at done
    × (index ≡ index₀ + length (rules_words (rules_in form done)))
    × (index ≤ length words₀ → words ≡ sets words₀ index₀ (rules_words (rules_in form done)))

rules_words-append : (rs qs : List Sides) → rules_words (rs ++ qs) ≡ rules_words rs ++ rules_words qs
rules_words-append [] qs = refl
rules_words-append (r ∷ rs) qs =
    rw (rules_words-append rs qs) (sym (append_assoc (side_words r) (rules_words rs) (rules_words qs)))

rules_words-in : (form : ℕ) (rs : List Sides) (r : Sides) →
    rules_words (rules_in form (rs ++ (r ∷ []))) ≡ rules_words (rules_in form rs) ++ side_words (sides_in form r)
rules_words-in form rs r =
    let one = append-nil (side_words (sides_in form r)) in
    by_test (eqb form first_form)
    (λ e. rw (e, map-append converted_sides rs (r ∷ []))
    (rules_words-append (map converted_sides rs) (converted_sides r ∷ []) ∙ rw append-nil))
    λ e. rw e (rules_words-append rs (r ∷ []) ∙ rw append-nil)

none_in : (form : ℕ) → rules_words (rules_in form []) ≡ []
none_in form = by_test (eqb form first_form) (λ e. rw e) λ e. rw e

module _ (form : ℕ) (source : Source) (σ : Signature) (count start index₀ : ℕ) (words₀ : List ℕ) where
  abbrev unused : ℕ
  unused = unused_of form

  abbrev stored : List Sides → List ℕ
  stored rules = rules_words (rules_in form rules)

  pub so-far-none : SoFar form source σ count 0 start start index₀ index₀ words₀ words₀
  so-far-none =
      ([], done_none source unused σ count start, rw none_in (sym (add-zero index₀)), λ room. rw none_in)

  module _ (number at index : ℕ) (words : List ℕ) (more : number < count)
      (so : SoFar form source σ count number start at index₀ index words₀ words) where
    pub so-far-fault : (f : Fault) (after : List ℕ) →
        rule_reader source unused σ at ≡ fault (number_of f.code) f.offset →
        WordsRead stored (rules_reader source unused σ count start) index₀ words₀ (Err f) after
    so-far-fault f after e =
        done-fault source unused σ count start number at so.0 so.1 more (number_of f.code) f.offset e

    pub so_far_more : (end next : ℕ) (after : List ℕ) → length words ≡ length words₀ →
        WordsRead (λ (s : Sides). side_words (sides_in form s)) (rule_reader source unused σ at) index words (Ok
        (end, next))
        after → SoFar form source σ count (number + 1) start next index₀ end words₀ after
    so_far_more end next after same (r, read, long, put) =
        let (done, d, i, kept) = so in
        let words = side_words (sides_in form r) in
        let all : length (stored (done ++ (r ∷ []))) ≡ length (stored done) + length words =
        ap length (rules_words-in form done r) ∙ length-append (stored done) words in (
          done ++ (r ∷ []),
          done_more source unused σ count start number at done d more r next read,
          omega arith,
          λ room. put (omega arith) ∙ rw (i, kept (omega arith), rules_words-in form done r)
              (sym (sets-append words₀ index₀ (stored done) words)),
        )

  pub so-far-done : (index cursor : ℕ) (words : List ℕ) (number : ℕ) → number ≡ count →
      SoFar form source σ count number start cursor index₀ index words₀ words →
      WordsRead stored (rules_reader source unused σ count start) index₀ words₀ (Ok (index, cursor)) words
  so-far-done index cursor words number h (done, d, i, put) =
      (done, done_all source unused σ count start number cursor done d (omega arith), i, put)

-- ---- a rule from bits

-- A rule of the first form is renumbered.
pub rule-renumbered : (bytes : List ℕ) (form : ℕ) (σ : Signature) (at index : ℕ) (before between after : List ℕ)
    (end next : ℕ) → form ≡ first_form →
    WordsRead side_words (rule_reader (bit_source bytes) (unused_of form) σ at) index before (Ok (end, next)) between →
    RuleRenumbered index end between after →
    WordsRead (λ (s : Sides). side_words (sides_in form s)) (rule_reader (bit_source bytes) (unused_of form) σ at) index
    before (Ok (end, next)) after
rule-renumbered bytes form σ at index before between after end next first (r, read, long, stored) new =
    let f = eq-eqb form first_form first in
    let words : side_words (sides_in form r) ≡ renumbered (side_words r) = rw f (converted-words r) in
    let nodes = nodes-of-rule r (rule_fits bytes (unused_of form) σ at r next read) in
    let same : length (side_words (sides_in form r)) ≡ length (side_words r) = rw words (length-map
    (side_words r) _) in (
      r,
      read,
      omega arith,
      λ room. new before (side_words r) (stored room) (sym long) room nodes ∙ rw words,
    )

-- ---- among words

pub end-fault : {A : Type 0} (value : A → ℕ) (r : Reading A) (code offset : ℕ) → answered value r ≡ fault code offset →
    r ≡ fault code offset
end-fault value (got a at) code offset e = let z : ◌≡◌ {A = ℕ} 0 1 = cc in absurd (omega arith)
end-fault value (fault k o) code offset e = cc

pub end-got : {A : Type 0} (value : A → ℕ) (r : Reading A) (v next : ℕ) → answered value r ≡ got v next →
    (a : A) × (r ≡ got a next) × (v ≡ value a)
end-got value (got a at) v next e = (a, cc, cc)
end-got value (fault k o) v next e = let z : ◌≡◌ {A = ℕ} 0 1 = cc in absurd (omega arith)

module _ (words : List ℕ) (unused : ℕ) (σ : Signature) (plain : Unscaled σ) (at : ℕ) where
  abbrev side : ℕ → ℕ → Reading ℕ
  side u n = answered (unused_after_all u) (nodes_reader (word_source words) max_nodes u σ n)

  -- No side is too heavy.
  light : (u n : ℕ) → side_reader (word_source words) max_nodes u σ n ≡ nodes_reader (word_source words) max_nodes u σ n
  light u n = unscaled-side σ plain (word_source words) max_nodes u n (omega arith)

  abbrev rule : Reading Sides
  rule = rule_reader (word_source words) unused σ at

  pub rule-unread : (code offset : ℕ) → side unused at ≡ fault code offset → rule ≡ fault code offset
  unfolding rule_reader
  rule-unread code offset e =
      rw (
        light unused at,
        end-fault (unused_after_all unused) (nodes_reader (word_source words) max_nodes unused σ at)
            code offset e,
      )

  rule-of : (left right : List ℕ) (used next end : ℕ) →
      nodes_reader (word_source words) max_nodes unused σ at ≡ got left next → used ≡ unused_after_all unused left →
      nodes_reader (word_source words) max_nodes used σ next ≡ got right end →
      rule ≡ got (record { left = left; right = right }) end
  unfolding rule_reader
  rule-of left right used next end e u f = rw (light unused at, e, ← u, light used next, f)

  module _ (used next : ℕ) (e : side unused at ≡ got used next) where
    pub rule-half : (code offset : ℕ) → side used next ≡ fault code offset → rule ≡ fault code offset
    unfolding rule_reader
    rule-half code offset f =
        let (left, read, u) = end-got (unused_after_all unused) (nodes_reader (word_source words) max_nodes unused σ at)
        used next e in
        rw (
          light unused at,
          read,
          ← u,
          light used next,
          end-fault (unused_after_all used) (nodes_reader (word_source words) max_nodes used σ next) code
              offset f,
        )

    pub rule-whole : (after end : ℕ) → side used next ≡ got after end → (r : Sides) × (rule ≡ got r end)
    rule-whole after end f =
        let (left, read, u) = end-got (unused_after_all unused) (nodes_reader (word_source words) max_nodes unused σ at)
        used next e in
        let (right, read', u') = end-got (unused_after_all used) (nodes_reader
        (word_source words) max_nodes used σ next)
        after end f in
        (record { left = left; right = right }, rule-of left right used next end read u read')

  pub rule_end : (r : Sides) (end : ℕ) → rule ≡ got r end → end ≤ at + 256
  unfolding rule_reader
  rule_end r end e = go (side unused at) refl
    where
      ends : (used middle : ℕ) → side unused at ≡ got used middle → (b : Reading ℕ) → side used middle ≡ b →
          end ≤ at + 256
      ends used middle s (got after last) t =
          let (q, read) = rule-whole used middle s after last t in
          let same : last ≡ end = cc in
          omega (
            arith,
            terms-end words σ unused max_nodes 1 at used middle s,
            terms-end words σ used max_nodes 1 middle after last t,
          )
      ends used middle s (fault code offset) t =
          let z : ◌≡◌ {A = ℕ} 0 1 = cc (rule-half used middle s code offset t) in absurd (omega arith)

      go : (a : Reading ℕ) → side unused at ≡ a → end ≤ at + 256
      go (got used middle) s = ends used middle s (side used middle) refl
      go (fault code offset) s = let z : ◌≡◌ {A = ℕ} 0 1 = cc (rule-unread code offset s) in absurd (omega arith)
