-- Picking the greater of two terms, by the terms at the fronts of the words.
--     called-picked, called-compared   what is replied of two terms
--     terms-compared                   and of terms with no words after them
--     begins-front, read-begins        the words of a term at the front
--     handed-by, empty_of, no-side     the part, by what is replied
--     called-part                      the part, by the terms
use mathlib.Core.List.{List, [], ◌++◌, append-nil}
use mathlib.Core.Path.{◌≡◌, refl, sym, ap, ◌∙◌}
use mathlib.Core.Bool.{true}
use Prim.Native.Nat.{ℕ, ◌≤◌}
use native.Mathlib.Omega.{arith}
use lib.ListN.{length, take, drop, take-append-drop}
use lib.Seq.{take_at}
use Rattle.multisets.proofs.Relations.{by_test}
use Rattle.terms.specs.Signature.{Signature}
use Rattle.terms.specs.Term.{Term, size, WellFormed}
use Rattle.terms.specs.Words.{first_variable, words, term_of}
use Rattle.terms.specs.Equivalence.{is_equivalent}
use Rattle.terms.specs.Order.{is_greater}
use Rattle.terms.proofs.TermLaws.{size-pos}
use Rattle.terms.proofs.WordsLaws.{length-words, term_of-words}
use Rattle.format.specs.Layout.{form_number, max_nodes}
use Rattle.format.specs.Reading.Reading.{got}
use Rattle.format.specs.Format.{RuleFile, is_light}
use Rattle.format.specs.Files.{read_bytes, read_first_term, read_term}
use Rattle.format.specs.Statements.IsRead.{from_bytes}
use Rattle.format.proofs.FormLaws.{taken-coefficients}
use Rattle.format.proofs.LightLaws.{unscaled-formed, unscaled-light}
use Rattle.format.proofs.Theorems.{readable-well-formed, read-term-well-formed, well-formed-reads}
use Rattle.operations.specs.declared.Relation.{Relation}
use Rattle.operations.specs.declared.Relation.TheVariants as relation
use Rattle.operations.specs.declared.GreaterSide.{GreaterSide}
use Rattle.operations.specs.declared.GreaterSide.TheVariants.{Left, Right, Equivalent, Unrelated}
use Rattle.operations.specs.Replies.{Reply}
use Rattle.operations.specs.Replies.Reply.{accepted, refused}
use Rattle.operations.specs.Inputs.{TermReader, read_terms, read_inputs}
use Rattle.operations.specs.Comparing.{relation, comparison, compared}
use Rattle.operations.specs.Picking.{side_of, picked, of_greater, greater_part}
use Rattle.operations.proofs.InputLaws.{inputs_read}
use Rattle.operations.proofs.PickingLaws.{front-size, picked-read, picked-accepted}
use Rattle.guarantees.specs.Guarantees.{Holds}
use Rattle.guarantees.specs.Picks.{Begins, Called, NoSide, equivalent, unrelated, refusal, Handed, of_left}
use Rattle.guarantees.specs.Picks.{of_right}
use Rattle.guarantees.specs.Picks.{of_neither}

-- ---- what is read of two terms

-- What two readers have read of two terms under a book.
inputs-of : (reader : TermReader) (bytes left right : List ℕ) (file : RuleFile) (at : ℕ) → read_bytes bytes ≡ got file
    at →
    length file.signature.symbols ≤ first_variable → (s t : Term) → WellFormed file.signature s →
    WellFormed file.signature t → (m n : ℕ) → reader file.signature left ≡ got (words s) m →
    reader file.signature right ≡ got (words t) n →
    read_inputs reader bytes left right ≡ accepted (record { signature = file.signature; left = s; right = t })
unfolding read_inputs read_terms
inputs-of reader bytes left right file at h few s t v w m n l r =
    rw (h, l, r, term_of-words file.signature few s v, term_of-words file.signature few t w)

-- No term of a readable book's is too heavy.
term-light : (bytes : List ℕ) (file : RuleFile) → Holds bytes file → length file.signature.symbols ≤ first_variable →
    (t : Term) → WellFormed file.signature t → size t ≤ max_nodes → is_light file.signature t ≡ true
term-light bytes file (at, h) few t w short =
    let (formed, rules, current) = readable-well-formed file (from_bytes bytes at h) in
    let unscaled = unscaled-formed file formed (taken-coefficients form_number file.form current) in
    rw (term_of-words file.signature few t w) at
    (unscaled-light file.signature unscaled (words t) (omega (arith, length-words t)))

module _ (bytes left right : List ℕ) (file : RuleFile) (few : length file.signature.symbols ≤ first_variable)
    (s t : Term) (c : Called bytes left right file s t) where
  abbrev σ : Signature
  σ = file.signature

  called-inputs : read_inputs read_first_term bytes left right ≡ accepted (record { signature = σ; left = s; right = t })
  called-inputs =
      let (at, h) = c.holds in
      let l = c.left_begins in
      let r = c.right_begins in
      inputs-of read_first_term bytes left right file at h few s t l.well_formed r.well_formed (size s) (size t)
      (rw l.spelled (((well-formed-reads σ few s l.well_formed).0 l.short
      (term-light bytes file c.holds few s l.well_formed l.short)).1 l.rest))
      (rw r.spelled (((well-formed-reads σ few t r.well_formed).0 r.short
      (term-light bytes file c.holds few t r.well_formed r.short)).1 r.rest))

  pub called-picked : picked bytes left right ≡ accepted (side_of (relation σ s t) (size s) (size t))
  called-picked = picked-accepted bytes left right _ called-inputs

pub called-compared : (bytes : List ℕ) (file : RuleFile) → length file.signature.symbols ≤ first_variable →
    (s t : Term) →
    Called bytes (words s) (words t) file s t →
    compared bytes (words s) (words t) ≡ accepted (comparison file.signature s t)
unfolding compared
called-compared bytes file few s t c =
    let (at, h) = c.holds in
    let l = c.left_begins in
    let r = c.right_begins in
    rw (inputs-of read_term bytes (words s) (words t) file at h few s t l.well_formed r.well_formed (size s) (size t)
    ((well-formed-reads file.signature few s l.well_formed).0 l.short
    (term-light bytes file c.holds few s l.well_formed l.short)).0
    ((well-formed-reads file.signature few t r.well_formed).0 r.short
    (term-light bytes file c.holds few t r.well_formed r.short)).0)

pub terms-compared : (bytes : List ℕ) (file : RuleFile) → length file.signature.symbols ≤ first_variable →
    Holds bytes file → (s t : Term) → WellFormed file.signature s → WellFormed file.signature t →
    size s ≤ max_nodes → size t ≤ max_nodes →
    compared bytes (words s) (words t) ≡ accepted (comparison file.signature s t)
terms-compared bytes file few h s t v w i j = called-compared bytes file few s t (record {
  holds = h;
  left_begins = record { well_formed = v; short = i; rest = []; spelled = sym (append-nil (words s)) };
  right_begins = record { well_formed = w; short = j; rest = []; spelled = sym (append-nil (words t)) };
})

-- The front of the words that begin with a term's.
pub begins-front : (σ : Signature) (input : List ℕ) (t : Term) → Begins σ input t → take (size t) input ≡ words t
begins-front σ input t b = rw b.spelled (take_at (words t) b.rest (size t) (length-words t))

read-begins : (σ : Signature) (input nodes : List ℕ) (end : ℕ) → read_first_term σ input ≡ got nodes end →
    Begins σ input (term_of σ nodes)
read-begins σ input nodes end e =
    let (front, count, term, within, light) = (read-term-well-formed σ input nodes end).0 e in
    record {
      well_formed = term.well_formed;
      short = omega (arith, front-size σ nodes term, term.short);
      rest = drop end input;
      spelled = sym (take-append-drop end input) ∙ ap (λ (ws : List ℕ). ws ++ drop end input)
          (sym front ∙ term.spelled);
    }

-- ---- which side is the greater one

relation-greater : (σ : Signature) (s t : Term) → relation σ s t ≡ relation.Greater → is_greater σ s t ≡ true
unfolding relation
relation-greater σ s t e =
    by_test (is_greater σ s t) (λ g. g) λ g. by_test (is_greater σ t s)
    (λ l. let z : relation.Less ≡ relation.Greater = rw (g, l) at e in cc)
    λ l. by_test (is_equivalent σ s t)
    (λ q. let z : relation.Equivalent ≡ relation.Greater = rw (g, l, q) at e in cc)
    λ q. let z : relation.Unrelated ≡ relation.Greater = rw (g, l, q) at e in cc

relation-less : (σ : Signature) (s t : Term) → relation σ s t ≡ relation.Less → is_greater σ t s ≡ true
unfolding relation
relation-less σ s t e =
    by_test (is_greater σ s t) (λ g. let z : relation.Greater ≡ relation.Less = rw g at e in cc)
    λ g. by_test (is_greater σ t s) (λ l. l)
    λ l. by_test (is_equivalent σ s t)
    (λ q. let z : relation.Equivalent ≡ relation.Less = rw (g, l, q) at e in cc)
    λ q. let z : relation.Unrelated ≡ relation.Less = rw (g, l, q) at e in cc

side_left : (x : Relation) (l r n : ℕ) → Left n ≡ side_of x l r → (x ≡ relation.Greater) × (n ≡ l)
side_left relation.Greater l r n e = (refl, cc)
side_left relation.Less l r n e = (cc, cc)
side_left relation.Equivalent l r n e = (cc, cc)
side_left relation.Unrelated l r n e = (cc, cc)

side_right : (x : Relation) (l r n : ℕ) → Right n ≡ side_of x l r → (x ≡ relation.Less) × (n ≡ r)
side_right relation.Greater l r n e = (cc, cc)
side_right relation.Less l r n e = (refl, cc)
side_right relation.Equivalent l r n e = (cc, cc)
side_right relation.Unrelated l r n e = (cc, cc)

-- ---- the part

module _ (bytes left right : List ℕ) where
  -- What was picked, of which terms.
  record PickedOf (x : GreaterSide) : Type 0 where
    file : RuleFile
    s : Term
    t : Term
    called : Called bytes left right file s t
    side : x ≡ side_of (relation file.signature s t) (size s) (size t)

  picked_of : (x : GreaterSide) → picked bytes left right ≡ accepted x → PickedOf x
  picked_of x e =
      let (i, read, same) = picked-read bytes left right x e in
      let p = inputs_read read_first_term bytes left right i read in
      let σ = p.file.signature in
      record {
        file = p.file;
        s = term_of σ p.left_words;
        t = term_of σ p.right_words;
        called = record {
          holds = (p.end, p.holds);
          left_begins = read-begins σ left p.left_words p.left_end p.left_read;
          right_begins = read-begins σ right p.right_words p.right_end p.right_read;
        };
        side = rw p.inputs at same;
      }

  part_of : (r : Reply GreaterSide) → picked bytes left right ≡ r →
      greater_part bytes left right ≡ of_greater r (λ n. take n left) (λ n. take n right) []
  unfolding greater_part
  part_of r e = rw e

  pub handed-by : (r : Reply GreaterSide) → picked bytes left right ≡ r → Handed bytes left right
  handed-by (accepted (Left n)) e =
      let p = picked_of (Left n) e in
      let (x, m) = side_left _ _ _ n p.side in
      of_left p.called (relation-greater _ p.s p.t x) (e ∙ ap (λ (k : ℕ). accepted (Left k)) m)
      (part_of _ e ∙ ap (λ (k : ℕ). take k left) m ∙ begins-front _ left p.s p.called.left_begins)
  handed-by (accepted (Right n)) e =
      let p = picked_of (Right n) e in
      let (x, m) = side_right _ _ _ n p.side in
      of_right p.called (relation-less _ p.s p.t x) (e ∙ ap (λ (k : ℕ). accepted (Right k)) m)
      (part_of _ e ∙ ap (λ (k : ℕ). take k right) m ∙ begins-front _ right p.t p.called.right_begins)
  handed-by (accepted Equivalent) e = of_neither (rw e equivalent) (part_of _ e)
  handed-by (accepted Unrelated) e = of_neither (rw e unrelated) (part_of _ e)
  handed-by (refused f) e = of_neither (rw e refusal) (part_of _ e)

  pub empty_of : (r : Reply GreaterSide) → picked bytes left right ≡ r → NoSide r → greater_part bytes left right ≡ []
  empty_of (accepted (Left _)) e x6 = elim x6 [ ]
  empty_of (accepted (Right _)) e x7 = elim x7 [ ]
  empty_of (accepted Equivalent) e equivalent = part_of _ e
  empty_of (accepted Unrelated) e unrelated = part_of _ e
  empty_of (refused f) e refusal = part_of _ e

  pub no-side : Handed bytes left right → greater_part bytes left right ≡ [] → NoSide (picked bytes left right)
  no-side (of_left {s} c g e p) z =
      absurd (omega (arith, size-pos s, length-words s, ap length (sym p ∙ z)))
  no-side (of_right {t} c g e p) z =
      absurd (omega (arith, size-pos t, length-words t, ap length (sym p ∙ z)))
  no-side (of_neither n p) z = n

-- The part of slices that begin with two terms.
pub called-part : (bytes left right : List ℕ) (file : RuleFile) → length file.signature.symbols ≤ first_variable →
    (s t : Term) → Called bytes left right file s t → greater_part bytes left right ≡
    of_greater (accepted (side_of (relation file.signature s t) (size s) (size t))) (λ n. words s) (λ n. words t) []
called-part bytes left right file few s t c =
    part_of bytes left right _ (called-picked bytes left right file few s t c)
    ∙ go (relation file.signature s t)
  where
    go : (x : Relation) → of_greater (accepted (side_of x (size s) (size t))) (λ n. take n left) (λ n. take n right) [] ≡
        of_greater (accepted (side_of x (size s) (size t))) (λ n. words s) (λ n. words t) []
    go relation.Greater = begins-front file.signature left s c.left_begins
    go relation.Less = begins-front file.signature right t c.right_begins
    go relation.Equivalent = refl
    go relation.Unrelated = refl
