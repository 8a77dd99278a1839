-- The converter: what it makes of the rules, and of a book. The bits are in ConvertedBits.
--     sides-converted, rule-converted     a rule's sides, and the rule that they mean, are renumbered
--     each-renumbered, each-kept          the rules of a file, and what they keep
--     rules-agree                         rules that differ in a renaming alone are converted alike
--     conversion, converted-wrote         the new book beside the old one; a call that has room for it
--     books-agree, new-kept               books that are converted alike, books that are kept
--     old-refused                         no other operation reads a book of form 1
use mathlib.Core.List.{List, [], ◌∷◌, map, Memᴰ}
use mathlib.Core.Path.{◌≡◌, refl, sym, ap, ap₂, ◌∙◌}
use mathlib.Core.Bool.{false}
use Prim.Native.Nat.{ℕ, suc, zero, ◌≤◌, ◌<◌}
use native.Mathlib.Omega.{arith}
use lib.ListN.{length, get_or}
use lib.Dec.{leb}
use borrow.Author.Tests.{le-leb, eqb-true}
use Rattle.multisets.proofs.Relations.{by_test}
use Rattle.terms.specs.Signature.{Signature, NoZeroWeightUnary}
use Rattle.terms.specs.Term.{Term, WellFormed}
use Rattle.terms.specs.Words.{first_variable, words, term_of}
use Rattle.terms.specs.Rewriting.{Rule}
use Rattle.terms.specs.FirstUse.{in_order, first_uses, place_in, rule_words, renumbered_rule}
use Rattle.terms.proofs.WordsLaws.{term_of-words}
use Rattle.terms.proofs.RuleRenumbering.{words-rename, renumbering-one_to_one, renumbered_rule-in_order}
use Rattle.terms.proofs.RuleRenumbering.{renumbered_rule-renamed}
use Rattle.theory.specs.RenamingStatements.{Converted}
use Rattle.theory.proofs.Theorems.{rules-converted}
use Rattle.format.specs.Errors.{bytes_too_short}
use Rattle.format.specs.Layout.{first_form, form_number, form_width, max_bytes}
use Rattle.format.specs.Forms.{is_taken}
use Rattle.format.specs.Reading.{Reading, bit_at, bit_field, is_padding, bit_source}
use Rattle.format.specs.Reading.Reading.{got, fault}
use Rattle.format.specs.Format.{Sides, RuleFile, system_of, file_reader}
use Rattle.format.specs.Files.{whole_reader, read_bytes_in}
use Rattle.format.specs.Packing.{items, packed}
use Rattle.format.specs.Conversion.{converted_sides, converted_file}
use Rattle.format.specs.Statements.{IsTerm}
use Rattle.format.proofs.ReadingLaws.{HoldsOf, holds-got, holds_then, holds-require}
use Rattle.format.proofs.PackingLaws.{items-bits, bit_at-bytes_of}
use Rattle.format.proofs.FormLaws.{taken-old}
use Rattle.format.proofs.FileLaws.{Readable, bytes-readable, bytes-short, bytes_packed, file_bits, packed-reads}
use Rattle.format.proofs.PromiseLaws.{readable-formed}
use Rattle.format.proofs.ConversionLaws.{converted-readable, converted-length, file_before, readable-before}
use Rattle.format.proofs.ConversionLaws.{converted-same}
use Rattle.operations.specs.Replies.{outcome}
use Rattle.operations.specs.Coding.{write}
use Rattle.operations.specs.Marking.{summary_of}
use Rattle.operations.specs.Converting.{converted}
use Rattle.guarantees.specs.Guarantees.{Holds}
use Rattle.guarantees.specs.Conversions.{HeldBefore, Renamed, Renumbered, Each, none, more, converted_bits}
use Rattle.guarantees.specs.Conversions.{Conversion, in_first_form, OldBooksRefused, RenamedBooksAgree}
use Rattle.guarantees.proofs.ConvertedBits.{kept_at, file-kept, first_byte}
use Rattle.guarantees.proofs.RoundTrip.{Wrote, write-accepts}

-- ---- rules

-- The rule that sides mean.
abbrev rule_of : Signature → Sides → Rule
rule_of σ r = record { left = term_of σ r.left; right = term_of σ r.right }

-- The sides of a rule.
abbrev sides_of : Rule → Sides
sides_of q = record { left = words q.left; right = words q.right }

-- The sides of each rule are terms.
abbrev AllTerms : Signature → List Sides → Type 0
AllTerms σ rs = (r : Sides) → Memᴰ r rs → IsTerm σ r.left × IsTerm σ r.right

module _ (σ : Signature) (few : length σ.symbols ≤ first_variable) where
  module _ (q : Rule) (v : WellFormed σ q.left) (w : WellFormed σ q.right) where
    converted-sides : converted_sides (sides_of q) ≡ sides_of (renumbered_rule q)
    converted-sides =
        let ρ = place_in (first_uses (rule_words q)) in
        ap₂ (λ (a b : List ℕ). record { left = a; right = b }) (sym (words-rename σ few ρ q.left v))
        (sym (words-rename σ few ρ q.right w))

    rule-sides : rule_of σ (sides_of q) ≡ q
    rule-sides =
        ap₂ (λ (a b : Term). record { left = a; right = b }) (term_of-words σ few q.left v)
        (term_of-words σ few q.right w)

  module _ (r : Sides) (l : IsTerm σ r.left) (k : IsTerm σ r.right) where
    sides-converted : converted_sides r ≡ sides_of (renumbered_rule (rule_of σ r))
    sides-converted =
        ap₂ (λ (a b : List ℕ). converted_sides (record { left = a; right = b })) l.spelled k.spelled
        ∙ converted-sides (rule_of σ r) l.well_formed k.well_formed

    rule-converted : rule_of σ (converted_sides r) ≡ renumbered_rule (rule_of σ r)
    rule-converted =
        let c = rules-converted σ few (rule_of σ r) l.well_formed k.well_formed in
        ap (rule_of σ) sides-converted ∙ rule-sides (renumbered_rule (rule_of σ r)) c.left c.right

    rule-renumbered : Renumbered (rule_of σ r) (rule_of σ (converted_sides r))
    rule-renumbered = record {
      renamed = record {
        renaming = place_in (first_uses (rule_words (rule_of σ r)));
        one_to_one = renumbering-one_to_one (rule_of σ r);
        renamed = rule-converted;
      };
      in_turn = ap (λ (q : Rule). in_order (rule_words q)) rule-converted
          ∙ renumbered_rule-in_order σ few (rule_of σ r) l.well_formed k.well_formed;
    }

  each-renumbered : (rs : List Sides) → AllTerms σ rs →
      Each Renumbered (map (rule_of σ) rs) (map (rule_of σ) (map converted_sides rs))
  each-renumbered [] h = none
  each-renumbered (r ∷ rs) h =
      let (l, k) = h r (Memᴰ.head refl) in
      more (rule-renumbered r l k) (each-renumbered rs λ q m. h q (Memᴰ.tail m))

  -- What a renumbered rule has in common with the rule, all converted rules have with theirs.
  each-kept : {A : Type 0} (f : Rule → A) →
      ((q : Rule) → Converted σ q (renumbered_rule q) → f (renumbered_rule q) ≡ f q) → (rs : List Sides) →
      AllTerms σ rs → map f (map (rule_of σ) (map converted_sides rs)) ≡ map f (map (rule_of σ) rs)
  each-kept f e [] h = refl
  each-kept f e (r ∷ rs) h =
      let (l, k) = h r (Memᴰ.head refl) in
      let c = rules-converted σ few (rule_of σ r) l.well_formed k.well_formed in
      ap₂ ◌∷◌ (ap f (rule-converted r l k) ∙ e (rule_of σ r) c) (each-kept f e rs λ q m. h q (Memᴰ.tail m))

  sides-agree : (r r' : Sides) → IsTerm σ r.left × IsTerm σ r.right → IsTerm σ r'.left × IsTerm σ r'.right →
      Renamed (rule_of σ r) (rule_of σ r') → converted_sides r ≡ converted_sides r'
  sides-agree r r' (l, k) (l', k') p =
      sides-converted r l k
      ∙ ap sides_of (sym (renumbered_rule-renamed σ few (rule_of σ r) l.well_formed k.well_formed p.renaming
      p.one_to_one) ∙ ap renumbered_rule (sym p.renamed))
      ∙ sym (sides-converted r' l' k')

  rules-agree : (rs rs' : List Sides) → AllTerms σ rs → AllTerms σ rs' →
      Each Renamed (map (rule_of σ) rs) (map (rule_of σ) rs') → map converted_sides rs ≡ map converted_sides rs'
  rules-agree [] (r' ∷ rs') h h' x6 = elim x6 [ ]
  rules-agree (r ∷ rs) [] h h' x5 = elim x5 [ ]
  rules-agree [] [] h h' none = refl
  rules-agree (r ∷ rs) (r' ∷ rs') h h' (more p ps) =
      ap₂ ◌∷◌ (sides-agree r r' (h r (Memᴰ.head refl)) (h' r' (Memᴰ.head refl)) p)
      (rules-agree rs rs' (λ q m. h q (Memᴰ.tail m)) (λ q m. h' q (Memᴰ.tail m)) ps)

-- ---- a book of form 1

module _ (bytes : List ℕ) (old : RuleFile) (h : HeldBefore bytes old) where
  was-readable : Readable first_form old
  was-readable = bytes-readable first_form bytes old h.0 h.1

  few-symbols : length old.signature.symbols ≤ first_variable
  few-symbols = omega (arith, (readable-formed first_form old was-readable).within.symbol_count)

  all-terms : AllTerms old.signature old.rules
  all-terms = (readable-formed first_form old was-readable).sides

  module _ (small : (i : ℕ) → get_or bytes i 0 < 256) where
    was-packed : packed old ≡ bytes
    was-packed = bytes_packed first_form bytes old h.0 h.1 small

    pub as_long : length (packed (converted_file old)) ≡ length bytes
    as_long = converted-length old (taken-old old.form was-readable.ok.form_taken) ∙ ap length was-packed

    reads_now : Holds (packed (converted_file old)) (converted_file old)
    reads_now =
        let short = bytes-short first_form bytes old h.0 h.1 in
        (_, packed-reads form_number (converted_file old) (converted-readable old was-readable) (omega (arith, as_long)))

    other-bits : (i : ℕ) → get_or (converted_bits old) i false ≡ false →
        bit_at (packed (converted_file old)) i ≡ bit_at bytes i
    unfolding packed
    other-bits i m =
        let new = converted_file old in
        bit_at-bytes_of (file_bits new) (items-bits (items new)) i
        ∙ kept_at (file-kept old (taken-old old.form was-readable.ok.form_taken)) i m
        ∙ sym (bit_at-bytes_of (file_bits old) (items-bits (items old)) i)
        ∙ ap (λ (b : List ℕ). bit_at b i) was-packed

    pub conversion : Conversion bytes (packed (converted_file old)) old (converted_file old)
    conversion =
        let marks = each-kept old.signature few-symbols _ (λ q c. c.mark) old.rules all-terms in
        record {
          holds = reads_now;
          signature = refl;
          rules = each-renumbered old.signature few-symbols old.rules all-terms;
          bits = other-bits;
          marks = marks;
          margins = each-kept old.signature few-symbols _ (λ q c. c.margin) old.rules all-terms;
          summary = ap summary_of marks;
        }

    -- The new book is written, where there is room.
    converted-written : (output : List ℕ) →
        converted bytes output ≡ outcome (write bytes_too_short (packed (converted_file old)) output) output
    unfolding converted
    converted-written output = rw (h.1, as_long)

    pub converted-wrote : (output : List ℕ) → length bytes ≤ length output →
        Wrote (converted bytes output) (packed (converted_file old))
    converted-wrote output room =
        rw (converted-written output)
        (write-accepts bytes_too_short (packed (converted_file old)) output (rw as_long room))

-- ---- books that are converted alike

pub books-agree : RenamedBooksAgree
books-agree bytes bytes' output file file' small small' h h' e p =
    let terms' : AllTerms file.signature file'.rules = rw e at (all-terms bytes' file' h') in
    let p' : Each Renamed (system_of file).rules (map (rule_of file.signature) file'.rules) = rw e at p in
    let rules = rules-agree file.signature (few-symbols bytes file h) file.rules file'.rules
    (all-terms bytes file h) terms' p' in
    let same : converted_file file ≡ converted_file file' =
    ap₂ (λ (σ : Signature) (rs : List Sides). record { form = form_number; signature = σ; rules = rs }) (sym e)
    rules in
    converted-written bytes file h small output
    ∙ ap (λ (f : RuleFile). outcome (write bytes_too_short (packed f) output) output) same
    ∙ sym (converted-written bytes' file' h' small' output)

length-first : (bytes : List ℕ) → length (in_first_form bytes) ≡ length bytes
length-first [] = refl
length-first (b ∷ bytes) = refl

small-first : (bytes : List ℕ) → ((i : ℕ) → get_or bytes i 0 < 256) → (i : ℕ) → get_or (in_first_form bytes) i 0 < 256
small-first [] small i = small i
small-first (b ∷ bytes) small zero = omega arith
small-first (b ∷ bytes) small (suc i) = small (suc i)

pub new-kept : (bytes output : List ℕ) (file : RuleFile) → ((i : ℕ) → get_or bytes i 0 < 256) → Holds bytes file →
    NoZeroWeightUnary file.signature → length bytes ≤ length output →
    Wrote (converted (in_first_form bytes) output) bytes
new-kept bytes output file small (at, e) heavy room =
    let r = bytes-readable form_number bytes file at e in
    let now = bytes_packed form_number bytes file at e small in
    let form : file.form ≡ form_number = eqb-true file.form form_number r.ok.form_taken in
    let old = file_before file in
    let before : in_first_form bytes ≡ packed old = ap in_first_form (sym now) ∙ first_byte file form in
    let n = length-first bytes in
    let short : length (packed old) ≤ max_bytes =
    omega (arith, bytes-short form_number bytes file at e, ap length before) in
    let held : HeldBefore (in_first_form bytes) old = rw before
    (length (file_bits old), packed-reads first_form old (readable-before file form heavy r) short) in
    rw (converted-same file form r, now) at
    (converted-wrote (in_first_form bytes) old held (small-first bytes small) output (omega arith))

-- ---- other operations

holds-any : {A : Type 0} (P : A → ℕ → Type 0) (r : Reading A) → ((a : A) (at : ℕ) → P a at) → HoldsOf P r
unfolding HoldsOf
holds-any P (got a at) h = h a at
holds-any P (fault code offset) h = tt

-- The form that was read.
abbrev FormRead : List ℕ → RuleFile → ℕ → Type 0
FormRead bytes file at = (next : ℕ) × (bit_field bytes form_width 0 ≡ got first_form next)

file-form : (bytes : List ℕ) → HoldsOf (FormRead bytes) (file_reader first_form (bit_source bytes) 0)
unfolding file_reader
file-form bytes =
    holds_then _ (bit_field bytes form_width 0) _ λ read next e.
    holds-require _ (is_taken first_form read) _ 0 next _ λ t.
    holds-any _ _ λ file at. (next, rw (taken-old read t) at e)

bytes-form : (bytes : List ℕ) → HoldsOf (FormRead bytes) (read_bytes_in first_form bytes)
unfolding read_bytes_in whole_reader HoldsOf
bytes-form bytes =
    by_test (leb (length bytes) max_bytes)
    (λ short. rw short (holds_then _ (file_reader first_form (bit_source bytes) 0) _ λ file end e.
    holds-require _ (is_padding bytes end) _ end end _ λ t. holds-got _ _ file end (file-form bytes) e))
    λ long. rw long tt

pub old-refused : OldBooksRefused
unfolding read_bytes_in whole_reader file_reader
old-refused bytes file (at, e) =
    let (next, form) = holds-got _ _ file at (bytes-form bytes) e in
    rw (le-leb (length bytes) max_bytes (bytes-short first_form bytes file at e), form)
