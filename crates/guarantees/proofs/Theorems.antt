-- The claims of specs/.
use mathlib.Core.List.{List, Memᴰ}
use mathlib.Core.Path.{◌≡◌, refl, sym, ap, ◌∙◌}
use mathlib.Core.Bool.{true}
use Prim.Native.Nat.{ℕ, ◌≤◌}
use native.Mathlib.Omega.{arith}
use lib.ListN.{length, get_or, take, length-map}
use Rattle.terms.specs.Signature.{Admissible, Ones}
use Rattle.terms.specs.Term.Term.{var}
use Rattle.terms.specs.Words.{first_variable, words}
use Rattle.terms.specs.Order.{mark, margin}
use Rattle.terms.specs.Oftener.{first_oftener}
use Rattle.terms.specs.Rewriting.{Rule, WellFormedRules, AllDecreasing}
use Rattle.terms.specs.Steinbach.{SteinbachGreater}
use Rattle.theory.proofs.Theorems.{greater-irreflexive, greater-transitive, closed-under-contexts, derivations-descend}
use Rattle.theory.proofs.Theorems.{steps-decrease, step-ceiling, no-endless-steps}
use Rattle.theory.proofs.Theorems.{exactly-one-mark, decreasing-marks, test-decides-article}
use Rattle.theory.proofs.Theorems.{agrees-with-steinbach, test-decides-steinbach}
use Rattle.format.specs.Reading.{Reading}
use Rattle.format.specs.Reading.Reading.{got, fault}
use Rattle.format.specs.Format.{RuleFile, system_of}
use Rattle.format.specs.Files.{read_bytes, read_term}
use Rattle.format.specs.Packing.{packed}
use Rattle.format.specs.Conversion.{converted_file}
use Rattle.operations.specs.Replies.{◌>>=◌, from_input}
use Rattle.operations.specs.Replies.Reply.{accepted}
use Rattle.format.specs.Statements.{IsRead}
use Rattle.format.specs.Statements.IsRead.{from_bytes}
use Rattle.format.proofs.SymbolLaws.{ones-of-plain}
use Rattle.format.specs.Layout.{form_number}
use Rattle.format.proofs.FormLaws.{taken-coefficients}
use Rattle.format.proofs.Theorems.{readable-well-formed}
use Rattle.operations.specs.Marking.{marks_of, summary_of}
use Rattle.terms.specs.Marks.{is_decreasing}
use Rattle.operations.specs.Inputs.{read_terms, read_inputs}
use Rattle.operations.specs.Comparing.{comparison, compared}
use Rattle.operations.specs.Picking.{picked}
use Rattle.operations.specs.Hashing.{fingerprinted_term, fingerprinted}
use Rattle.operations.specs.Variables.{oftener}
use Rattle.operations.specs.Converting.{converted}
use Rattle.guarantees.specs.Guarantees.{Holds, ReadableOrder, StepsFall, FilesDescend, FilesTerminate}
use Rattle.guarantees.specs.Guarantees.{FilesBounded}
use Rattle.guarantees.specs.Guarantees.{CountedAll, CountTells}
use Rattle.guarantees.specs.Guarantees.{Like, LikeComparisonsAgree, LikeFingerprintsAgree, MarksExact}
use Rattle.guarantees.specs.Guarantees.{FallingCounted}
use Rattle.guarantees.specs.Guarantees.{LikeVariableTestsAgree}
use Rattle.guarantees.proofs.MarkedLaws.{all-decreasing, marks-accepted}
use Rattle.guarantees.proofs.MarkedLaws.{counted-all, mark-written, falling-counted}
use Rattle.guarantees.proofs.MarkedLaws.{length-rules, get_or-member}
use Rattle.guarantees.proofs.LikeLaws.{AlikeInputs, refusals, comparison-like, terms-like, replies-agree}
use Rattle.guarantees.proofs.LikeLaws.{oftener-like, fingerprints-like}
use Rattle.guarantees.specs.Picks.{PartIsGreater, PartEmpty, WordsAfterIgnored, PicksAsCompared}
use Rattle.guarantees.proofs.PickLaws.{called-picked, called-compared, terms-compared, handed-by, empty_of}
use Rattle.guarantees.proofs.PickLaws.{no-side, called-part}
use Rattle.guarantees.specs.Conversions.{OldBooksRefused, OldBooksConvert, RenamedBooksAgree, NewBooksKept}
use Rattle.guarantees.proofs.ConversionLaws.{as_long, conversion, converted-wrote, books-agree, new-kept}
use Rattle.guarantees.proofs.ConversionLaws.{old-refused}
use Rattle.operations.specs.Score.{score_of}
use Rattle.operations.specs.Page.{page}
use Rattle.operations.specs.Paging.{entries_of}
use Rattle.operations.proofs.EntryLaws.{margin-fits, book-fits}
use Rattle.operations.proofs.PageLaws.{lines-injective, length-page}
use Rattle.guarantees.specs.Pages.{PagesTellApart, LinesEven, MarginsFit, BooksFit, BooksToldApart}
use Rattle.guarantees.proofs.PrintLaws.{line-even}
use Rattle.guarantees.specs.Scores.{ScoreNearest, FullScore}
use Rattle.guarantees.proofs.ScoreLaws.{score-is-nearest, nearest-unique, full-score}
use Rattle.terms.specs.Enumeration.{ground_terms}
use Rattle.terms.proofs.Theorems.{enumerates-expressions, enumerates-in-order}
use Rattle.guarantees.specs.Enumerations.{SmallExpressionsEnumerated}
use Rattle.guarantees.proofs.EnumerationLaws.{reads-back, counts-number, counts-more, lists-terms}
use Rattle.guarantees.specs.Steinbach.{RelationAsSteinbach, ComparesAsSteinbach}
use Rattle.operations.proofs.RoundLaws.{distance, distance-lt, onward-distance}
use Rattle.guarantees.specs.Turns.{TurnServesOnly, OthersKeepAll, IdleExactly}
use Rattle.guarantees.specs.Courses.{ServedWithin, MarksAsAlone}
use Rattle.guarantees.proofs.TurnLaws.{serves-only, keeps-all, none-of-idle, idle-of-none, last-listed}
use Rattle.guarantees.proofs.CourseLaws.{served-by, marks-alone}
use Rattle.guarantees.proofs.RelationLaws.{relation-exact, relation-accepted}
use Rattle.guarantees.specs.RoundTrips.{DecodeThenEncode, EncodeThenDecode}
use Rattle.guarantees.proofs.RoundTrip.{decode-encode, encode-decode}

-- ---- what a readable file promises

module _ (bytes : List ℕ) (file : RuleFile) (h : Holds bytes file) where
  read : IsRead file
  read = from_bytes bytes h.0 h.1

  pub admissible : Admissible file.signature
  admissible = (readable-well-formed file read).0.admissible

  -- 02: "Form 2 reads as all ones".
  one : Ones file.signature
  one =
      let (formed, rules, current) = readable-well-formed file read in
      ones-of-plain file.signature (formed.plain (taken-coefficients form_number file.form current))

  pub few : length file.signature.symbols ≤ first_variable
  few = omega (arith, (readable-well-formed file read).0.within.symbol_count)

  rules-formed : WellFormedRules (system_of file)
  rules-formed = (readable-well-formed file read).1

  rules-decrease : CountedAll bytes → AllDecreasing (system_of file)
  rules-decrease a r m =
      let (v, w) = rules-formed r m in
      let e = all-decreasing bytes a.marks file h.0 h.1 a.summary a.reply a.all r m in
      (decreasing-marks file.signature admissible r.left r.right v w).1 e

  rules-marked : AllDecreasing (system_of file) → (r : Rule) → Memᴰ r (system_of file).rules →
      is_decreasing (mark file.signature r.left r.right) ≡ true
  rules-marked a r m =
      let (v, w) = rules-formed r m in
      (decreasing-marks file.signature admissible r.left r.right v w).0 (a r m)

pub readable-order : ReadableOrder
readable-order bytes file h = let A = admissible bytes file h in record {
  irreflexive = λ s t x y. greater-irreflexive file.signature A s t x.0 y.0;
  transitive = λ s t u x y z. greater-transitive file.signature A s t x.0 y.0 u z.0;
  closed = closed-under-contexts file.signature A;
}

pub files-descend : FilesDescend
files-descend bytes file h a s t d x =
    derivations-descend (system_of file) (admissible bytes file h) (rules-formed bytes file h) a s t d

pub steps-fall : StepsFall
steps-fall bytes file h a s t p =
    steps-decrease (system_of file) (admissible bytes file h) (rules-formed bytes file h) s t p (a p.rule p.is_rule)

pub files-terminate : FilesTerminate
files-terminate bytes file h = no-endless-steps (system_of file) (admissible bytes file h) (rules-formed bytes file h)

pub files-bounded : FilesBounded
files-bounded bytes file h heavy a =
    step-ceiling (system_of file) (admissible bytes file h) heavy (rules-formed bytes file h) a

pub count-tells : CountTells
count-tells bytes file h = (
  rules-decrease bytes file h,
  λ a. record {
    marks = marks_of (system_of file);
    summary = summary_of (marks_of (system_of file));
    reply = marks-accepted bytes file h.0 h.1;
    all = counted-all bytes file h.0 h.1 (rules-marked bytes file h a);
  },
)

-- ---- like comparisons

-- Like inputs: lent the same bytes, and like terms where these are a readable book.
module _ (bytes left left' right right' : List ℕ)
    (h : (file : RuleFile) → Holds bytes file → Like file.signature left left' × Like file.signature right right')
  where
    like-inputs : AlikeInputs (read_inputs read_term bytes left right) (read_inputs read_term bytes left' right')
    unfolding read_inputs
    like-inputs = go (read_bytes bytes) refl
      where
        go : (r : Reading RuleFile) → read_bytes bytes ≡ r →
            AlikeInputs (◌>>=◌ (from_input 0 r) λ f. read_terms read_term f.signature left right)
            (◌>>=◌ (from_input 0 r) λ f. read_terms read_term f.signature left' right')
        go (fault code offset) e = refusals
        go (got file at) e =
            let (p, q) = h file (at, e) in
            terms-like file.signature (admissible bytes file (at, e))
            (few bytes file (at, e)) left left' right right'
            p q

pub like-comparisons-agree : LikeComparisonsAgree
unfolding compared
like-comparisons-agree bytes left left' right right' h =
    replies-agree (λ i. comparison i.signature i.left i.right) comparison-like
    (like-inputs bytes left left' right right' h)

pub like-variable-tests-agree : LikeVariableTestsAgree
unfolding oftener
like-variable-tests-agree bytes left left' right right' h =
    replies-agree (λ i. first_oftener i.signature i.left i.right) oftener-like
    (like-inputs bytes left left' right right' h)

pub like-fingerprints-agree : LikeFingerprintsAgree
unfolding fingerprinted
like-fingerprints-agree bytes term term' h = go (read_bytes bytes) refl
  where
    go : (r : Reading RuleFile) → read_bytes bytes ≡ r →
        (◌>>=◌ (from_input 0 r) λ f. fingerprinted_term f.signature term)
        ≡ (◌>>=◌ (from_input 0 r) λ f. fingerprinted_term f.signature term')
    go (fault code offset) e = refl
    go (got file at) e =
        fingerprints-like file.signature (admissible bytes file (at, e)) (few bytes file (at, e)) term term'
        (h file (at, e))

-- ---- picking

pub part-is-greater : PartIsGreater
part-is-greater bytes left right = handed-by bytes left right (picked bytes left right) refl

pub part-empty : PartEmpty
part-empty bytes left right = (
  no-side bytes left right (part-is-greater bytes left right),
  empty_of bytes left right (picked bytes left right) refl,
)

pub words-after-ignored : WordsAfterIgnored
words-after-ignored bytes left left' right right' file s t c d =
    let f = few bytes file c.holds in (
      called-picked bytes left right file f s t c ∙ sym (called-picked bytes left' right' file f s t d),
      called-part bytes left right file f s t c ∙ sym (called-part bytes left' right' file f s t d),
    )

pub picks-as-compared : PicksAsCompared
picks-as-compared bytes file s t c =
    let f = few bytes file c.holds in
    (called-compared bytes file f s t c, called-picked bytes (words s) (words t) file f s t c)

-- ---- Steinbach's order

pub relation-as-steinbach : RelationAsSteinbach
relation-as-steinbach bytes file h L s t v w =
    let σ = file.signature in
    let A = admissible bytes file h in
    relation-exact σ A (SteinbachGreater σ)
    (λ a b x y. rw (agrees-with-steinbach σ (one bytes file h) L A a b x y) (test-decides-steinbach σ A a b x y)) s t
    v w

pub compares-as-steinbach : ComparesAsSteinbach
compares-as-steinbach bytes file h L s t v w i j r =
    let c = terms-compared bytes file (few bytes file h) h s t v w i j in
    let (to, from) = relation-as-steinbach bytes file h L s t v w r in
    (λ p. to (relation-accepted (sym c ∙ p.1)), λ p. (margin file.signature s t, c ∙ rw (from p)))

-- ---- marks

pub marks-exact : MarksExact
marks-exact bytes marks file summary h e i l =
    let A = admissible bytes file h in
    let r : Rule = get_or (system_of file).rules i (record { left = var 0; right = var 0 }) in
    let m = get_or-member (system_of file).rules _ i (omega (arith, length-rules file)) in
    let (v, w) = rules-formed bytes file h r m in
    let (to, from) = decreasing-marks file.signature A r.left r.right v w in
    let (down, up) = test-decides-article file.signature A r.left r.right v w in
    rw (mark-written bytes marks file h.0 h.1 summary e i l (record { left = var 0; right = var 0 })) record {
      holds = exactly-one-mark file.signature A r.left r.right v w;
      decreasing = (λ m. down (from m), λ g. to (up g));
    }

pub falling-counted-read : FallingCounted
falling-counted-read bytes marks file summary h e = falling-counted bytes marks file h.0 h.1 summary e

-- ---- the round trips

pub decode-then-encode : DecodeThenEncode
decode-then-encode bytes output n small e buffer room =
    let w = decode-encode bytes output n small e buffer room in (w.reply, w.output)

pub encode-then-decode : EncodeThenDecode
encode-then-decode input output n e buffer room =
    let w = encode-decode input output n e buffer room in (w.reply, w.output)

-- ---- the converter

pub old-books-refused : OldBooksRefused
old-books-refused = old-refused

pub old-books-convert : OldBooksConvert
old-books-convert bytes output old small h room =
    let w = converted-wrote bytes old h small output room in
    let n = as_long bytes old h small in
    let book : take (length bytes) (converted bytes output).output ≡ packed (converted_file old) =
    ap (λ (k : ℕ). take k (converted bytes output).output) (sym n) ∙ w.output in
    (w.reply ∙ ap accepted n, converted_file old, rw book (conversion bytes old h small))

pub renamed-books-agree : RenamedBooksAgree
renamed-books-agree = books-agree

pub new-books-kept : NewBooksKept
new-books-kept bytes output file small h heavy room =
    let w = new-kept bytes output file small h heavy room in (w.reply, w.output)

-- ---- pages

pub pages-tell-apart : PagesTellApart
pages-tell-apart es fs h k e = lines-injective 0 es fs h k e

pub lines-even : LinesEven
lines-even = line-even

pub margins-fit : MarginsFit
margins-fit = margin-fits

pub books-fit : BooksFit
books-fit bytes file (end, e) =
    let i = from_bytes bytes end e in
    let few = (readable-well-formed file i).0.within.rule_count in
    let n : length (entries_of (system_of file)) ≡ length file.rules =
    length-map (system_of file).rules _ ∙ length-rules file in
    (book-fits file i, length-page (entries_of (system_of file)) (omega arith) (book-fits file i) ∙ rw n)

pub books-told-apart : BooksToldApart
books-told-apart bytes bytes' file file' (end, e) (end', e') = (
  pages-tell-apart (entries_of (system_of file)) (entries_of (system_of file')) (book-fits file (from_bytes bytes end e))
      (book-fits file' (from_bytes bytes' end' e')),
  λ d. ap page d,
)

-- ---- scores

pub score-nearest : ScoreNearest
score-nearest falling rules some score = (
  λ p. nearest-unique falling rules some score (score_of falling rules) p (score-is-nearest falling rules some),
  λ e. rw e (score-is-nearest falling rules some),
)

pub full-scores : FullScore
full-scores = full-score

-- ---- small expressions

pub small-expressions-enumerated : SmallExpressionsEnumerated
small-expressions-enumerated bytes file h n some small = record {
  terms = ground_terms file.signature n;
  exactly = enumerates-expressions file.signature n;
  sorted = enumerates-in-order file.signature n;
  read = reads-back file.signature (few bytes file h) n;
  number = counts-number bytes file h.0 h.1 n some small;
  more = counts-more bytes file h.0 h.1 n some small;
  written = lists-terms bytes file h.0 h.1 n some small;
}

-- ---- turns over a list of jobs

pub turn-serves-only : TurnServesOnly
turn-serves-only = serves-only

pub others-keep-all : OthersKeepAll
others-keep-all = keeps-all

pub idle-exactly : IdleExactly
idle-exactly c t e = (λ i. none-of-idle c (e ∙ ap (λ u. accepted u) i), idle-of-none c t e)

pub served-within : ServedWithin
served-within calls d h l replied kept =
    let n = length (calls 0).jobs in
    let last = last-listed (calls 0) (replied 0 (omega arith)).0 (replied 0 (omega arith)).1 in
    let near = distance-lt n (calls 0).last last d h in
    let (k, o, e) =
    served-by n calls n d (distance n (calls 0).last last d) near refl near l
    (onward-distance n (calls 0).last last d h) (λ k o. replied k (omega arith)) (λ k o. kept k (omega arith)) in
    (k, omega arith, e)

pub marks-as-alone : MarksAsAlone
marks-as-alone calls d m begun kept alone s reply all = marks-alone m calls d alone s begun kept reply all
