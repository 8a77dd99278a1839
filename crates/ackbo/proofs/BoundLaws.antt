-- The numbers of every reply are below 2^63, so that they fit the values that cross the boundary.
--     decoded-small, encoded-small, converted-small, compared-small, picked-small    of an answer's count, and of an
--                                                      error's offset
--     oftener-small                                    of a variable's number, and of an error's offset
--     fingerprinted-small                              of a fingerprint, and of an error's offset
--     counted-small, listed_small                      of a number of terms or of words, and of an error's offset
--     paged-small                                      of the bytes of a page, and of an error's offset
--     marked-small, most-small                          of the counts and the score, and of an error's offset
use mathlib.Core.List.{List, flatten}
use mathlib.Core.Path.{◌≡◌, refl, ◌∙◌}
use mathlib.Core.Bool.{Bool, true, false}
use Prim.Native.Nat.{ℕ, ◌*◌, ◌≤◌, ◌<◌}
use native.Mathlib.Omega.{arith}
use lib.ListN.{length, length-map}
use lib.Dec.{leb}
use borrow.Author.Tests.{leb-true}
use Rattle.multisets.proofs.Relations.{by_test}
use Rattle.multisets.proofs.MultisetMaps.{choose-length}
use Rattle.terms.specs.Signature.{Signature}
use Rattle.terms.specs.Words.{term_of}
use Rattle.terms.specs.Fingerprint.{fingerprint}
use Rattle.terms.specs.Oftener.{first_oftener}
use Rattle.terms.specs.Enumeration.{ground_terms}
use Rattle.terms.proofs.OftenerLaws.{first_oftener-le}
use Rattle.terms.proofs.Theorems.{fingerprint-fits}
use Rattle.format.specs.Errors.{words_too_short, bytes_too_short, file_too_long, marks_too_short, page_too_short}
use Rattle.format.specs.Errors.{size_out_of_range, no_room_for_terms}
use Rattle.format.specs.Layout.{first_form, form_number, max_bytes}
use Rattle.format.specs.Reading.{Reading}
use Rattle.format.specs.Reading.Reading.{got, fault}
use Rattle.format.specs.Format.{RuleFile, system_of}
use Rattle.format.specs.Conversion.{converted_file}
use Rattle.format.specs.Files.{read_bytes_in, read_bytes, read_words, read_first_term, read_term}
use Rattle.format.specs.Packing.{packed, unpacked}
use Rattle.operations.specs.declared.Summary.{Summary}
use Rattle.operations.specs.Replies.{Reply, Written, ◌>>=◌, ◌>>◌, from_input, demand, outcome}
use Rattle.operations.specs.Replies.Reply.{accepted, refused}
use Rattle.format.specs.Statements.IsRead.{from_bytes}
use Rattle.operations.specs.Coding.{write, decoded, encoded}
use Rattle.operations.specs.Converting.{converted}
use Rattle.boundary.specs.Numbers.{Small, number_of, count_of, words_of, terms_of, most_of}
use Rattle.format.proofs.FaultLaws.{fault-small}
use Rattle.format.proofs.Theorems.{readable-well-formed, read-term-well-formed, faults-within}
use Rattle.operations.specs.Inputs.{TermReader, Inputs, read_terms, read_inputs}
use Rattle.operations.specs.Comparing.{comparison, compared}
use Rattle.operations.specs.Picking.{greater_side, picked}
use Rattle.operations.specs.Hashing.{fingerprinted_term, fingerprinted}
use Rattle.operations.specs.Variables.{oftener}
use Rattle.operations.specs.Enumerating.{is_size, max_terms, term_count, counted_terms, counted, listed_terms, listed}
use Rattle.operations.proofs.PickingLaws.{SideWithin, picked-accepted, picked-within}
use Rattle.operations.specs.declared.GreaterSide.{GreaterSide}
use Rattle.operations.specs.declared.GreaterSide.TheVariants.{Left, Right, Equivalent, Unrelated}
use Rattle.terms.specs.Marks.{is_decreasing}
use Rattle.operations.specs.Marking.{summary_of, marks_of, decreasing_count, marked}
use Rattle.operations.specs.Page.{page}
use Rattle.operations.specs.Paging.{entries_of, line_bytes, paged}
use Rattle.operations.proofs.ScoreLaws.{score-le}

abbrev nought : {A : Type 0} → A → ℕ
nought a = 0

module _ {A : Type 0} (m : A → ℕ) where
  read_small : {B : Type 0} (input : ℕ) (r : Reading B) (k : B → Reply A) →
      ((code offset : ℕ) → r ≡ fault code offset → Small offset) →
      ((b : B) (end : ℕ) → r ≡ got b end → Small (number_of m (k b))) → Small (number_of m (◌>>=◌ (from_input input r) k))
  read_small input (got b end) k h g = g b end refl
  read_small input (fault code offset) k h g = h code offset refl

  demand-small : (ok : Bool) (code input : ℕ) (r : Reply A) → (ok ≡ true → Small (number_of m r)) →
      Small (number_of m (◌>>◌ (demand ok code input) r))
  demand-small true code input r h = h refl
  demand-small false code input r h = omega arith

  outcome-small : (r : Reply (Written A)) (output : List ℕ) → Small (number_of (λ w. m w.value) r) →
      Small (number_of m (outcome r output).reply)
  outcome-small (accepted w) output h = h
  outcome-small (refused e) output h = h

abbrev count : Written ℕ → ℕ
count w = w.value

write-small : (code : ℕ) (front output : List ℕ) → Small (length output) →
    Small (number_of count (write code front output))
write-small code front output h =
    demand-small count (leb (length front) (length output)) code 1
    (accepted (record { value = length front; front = front }))
    λ t. omega (arith, leb-true (length front) (length output) t)

book-small : (form : ℕ) (bytes : List ℕ) (code offset : ℕ) → read_bytes_in form bytes ≡ fault code offset → Small offset
book-small form bytes code offset e = omega (arith, fault-small bytes form code offset e)

pub decoded-small : (bytes words : List ℕ) → Small (length words) → Small
    (number_of count_of (decoded bytes words).reply)
unfolding decoded
decoded-small bytes words h =
    let k : RuleFile → Reply (Written ℕ) = λ file. write words_too_short (unpacked file) words in
    outcome-small count_of (◌>>=◌ (from_input 0 (read_bytes bytes)) k) words
    (read_small count 0 (read_bytes bytes) k (book-small form_number bytes)
    λ file end e. write-small words_too_short (unpacked file) words h)

pub encoded-small : (words bytes : List ℕ) → Small (length words) → Small (length bytes) →
    Small (number_of count_of (encoded words bytes).reply)
unfolding encoded
encoded-small words bytes h g =
    let last : RuleFile → Reply (Written ℕ) = λ file. write bytes_too_short (packed file) bytes in
    let k : RuleFile → Reply (Written ℕ) =
    λ file. ◌>>◌ (demand (leb (length (packed file)) max_bytes) file_too_long 0) (last file) in
    outcome-small count_of (◌>>=◌ (from_input 0 (read_words words)) k) bytes
    (read_small count 0 (read_words words) k (λ code offset e. omega (arith, (faults-within words code offset).1 e))
    λ file end e. demand-small count (leb (length (packed file)) max_bytes) file_too_long 0 (last file)
    λ t. write-small bytes_too_short (packed file) bytes g)

pub converted-small : (bytes output : List ℕ) → Small (length bytes) →
    Small (number_of count_of (converted bytes output).reply)
unfolding converted
converted-small bytes output h =
    let last : RuleFile → Reply (Written ℕ) =
    λ file. accepted (record { value = length bytes; front = packed (converted_file file) }) in
    let k : RuleFile → Reply (Written ℕ) =
    λ file. ◌>>◌ (demand (leb (length bytes) (length output)) bytes_too_short 1) (last file) in
    outcome-small count_of (◌>>=◌ (from_input 0 (read_bytes_in first_form bytes)) k) output
    (read_small count 0 (read_bytes_in first_form bytes) k (book-small first_form bytes)
    λ file end e. demand-small count (leb (length bytes) (length output)) bytes_too_short 1 (last file) λ t. h)

-- What is replied of two terms that were read, by a reader whose faults lie within the words.
inputs-small : {A : Type 0} (m : A → ℕ) (reader : TermReader) (answer : Inputs → A) (bytes left right : List ℕ) →
    ((σ : Signature) (words : List ℕ) (code offset : ℕ) → reader σ words ≡ fault code offset → offset ≤ length words) →
    Small (length left) → Small (length right) →
    ((i : Inputs) → read_inputs reader bytes left right ≡ accepted i → Small (m (answer i))) →
    Small (number_of m (◌>>=◌ (read_inputs reader bytes left right) λ i. accepted (answer i)))
unfolding read_inputs read_terms
inputs-small m reader answer bytes left right within h g k =
    go (read_inputs reader bytes left right) k
    (read_small nought 0 (read_bytes bytes) (λ file. read_terms reader file.signature left right)
    (book-small form_number bytes)
    λ file end e. let σ = file.signature in
    read_small nought 1 (reader σ left) _ (λ code offset e. omega (arith, within σ left code offset e))
    λ s end e. read_small nought 2 (reader σ right) _ (λ code offset e. omega (arith, within σ right code offset e))
    λ t end e. omega arith)
  where
    go : (r : Reply Inputs) → ((i : Inputs) → r ≡ accepted i → Small (m (answer i))) → Small (number_of nought r) →
        Small (number_of m (◌>>=◌ r λ i. accepted (answer i)))
    go (accepted i) k n = k i refl
    go (refused e) k n = n

pub compared-small : (bytes left right : List ℕ) → Small (length left) → Small (length right) →
    Small (number_of nought (compared bytes left right))
unfolding compared
compared-small bytes left right h g =
    inputs-small nought read_term (λ i. comparison i.signature i.left i.right) bytes left right
    (λ σ words code offset. ((faults-within words code offset).2 σ).0) h g λ i e. omega arith

pub picked-small : (bytes left right : List ℕ) → Small (length left) → Small (length right) →
    Small (number_of words_of (picked bytes left right))
unfolding picked
picked-small bytes left right h g =
    inputs-small words_of read_first_term greater_side bytes left right
    (λ σ words code offset. ((faults-within words code offset).2 σ).1) h g λ i e.
    side-small (greater_side i)
    (picked-within bytes left right (greater_side i) (picked-accepted bytes left right i e))
  where
    side-small : (s : GreaterSide) → SideWithin (length left) (length right) s → Small (words_of s)
    side-small (Left n) w = omega arith
    side-small (Right n) w = omega arith
    side-small Equivalent w = omega arith
    side-small Unrelated w = omega arith

pub oftener-small : (bytes left right : List ℕ) → Small (length left) → Small (length right) →
    Small (number_of count_of (oftener bytes left right))
unfolding oftener
oftener-small bytes left right h g =
    inputs-small count_of read_term (λ i. first_oftener i.signature i.left i.right) bytes left right
    (λ σ words code offset. ((faults-within words code offset).2 σ).0) h g
    λ i e. omega (arith, first_oftener-le i.signature i.left i.right)

-- A fingerprint has 32 bits.
pub fingerprinted-small : (bytes words : List ℕ) → Small (length words) →
    Small (number_of count_of (fingerprinted bytes words))
unfolding fingerprinted fingerprinted_term
fingerprinted-small bytes words h =
    read_small count_of 0 (read_bytes bytes) (λ file. fingerprinted_term file.signature words)
    (book-small form_number bytes)
    λ file end e. let σ = file.signature in
    let few = (readable-well-formed file (from_bytes bytes end e)).0.within.symbol_count in
    read_small count_of 1 (read_term σ words) (λ t. accepted (fingerprint σ (term_of σ t)))
    (λ code offset e. omega (arith, ((faults-within words code offset).2 σ).0 e))
    λ t n r. omega (
      arith,
      fingerprint-fits σ (omega (arith, few)) (term_of σ t)
          ((read-term-well-formed σ words t n).1 r).2.well_formed,
    )

-- At most 65,535 terms are counted.
pub counted-small : (bytes : List ℕ) (n : ℕ) → Small (number_of terms_of (counted bytes n))
unfolding counted counted_terms
counted-small bytes n =
    read_small terms_of 0 (read_bytes bytes) (λ file. counted_terms file.signature n) (book-small form_number bytes)
    λ file end e. let number = length (ground_terms file.signature n) in
    demand-small terms_of (is_size n) size_out_of_range 0 (accepted (term_count number))
    λ t. by_test (leb number max_terms) (λ l. rw l (omega (arith, leb-true number max_terms l))) λ l. rw l (omega arith)

-- The words listed have room.
pub listed_small : (bytes words : List ℕ) (n : ℕ) → Small (length words) →
    Small (number_of count_of (listed bytes words n).reply)
unfolding listed listed_terms
listed_small bytes words n h =
    outcome-small count_of (◌>>=◌ (from_input 0 (read_bytes bytes)) λ file. listed_terms file.signature words n) words
    (read_small count 0 (read_bytes bytes) (λ file. listed_terms file.signature words n) (book-small form_number bytes)
    λ file end e. let terms = ground_terms file.signature n in
    let last : Reply (Written ℕ) = accepted (record { value = n * length terms; front = flatten terms }) in
    let room : Reply (Written ℕ) = ◌>>◌ (demand (leb (n * length terms) (length words)) no_room_for_terms 1) last in
    let few : Reply (Written ℕ) = ◌>>◌ (demand (leb (length terms) max_terms) no_room_for_terms 1) room in
    demand-small count (is_size n) size_out_of_range 0 few
    λ t. demand-small count (leb (length terms) max_terms) no_room_for_terms 1 room
    λ t. demand-small count (leb (n * length terms) (length words)) no_room_for_terms 1 last
    λ t. omega (arith, leb-true (n * length terms) (length words) t))

pub paged-small : (bytes output : List ℕ) → Small (length output) → Small (number_of count_of (paged bytes output).reply)
unfolding paged
paged-small bytes output h =
    let last : RuleFile → Reply (Written ℕ) = λ file. accepted (record {
      value = line_bytes * length file.rules;
      front = page (entries_of (system_of file));
    }) in
    let k : RuleFile → Reply (Written ℕ) =
    λ file. ◌>>◌ (demand (leb (line_bytes * length file.rules) (length output)) page_too_short 1) (last file) in
    outcome-small count_of (◌>>=◌ (from_input 0 (read_bytes bytes)) k) output
    (read_small count 0 (read_bytes bytes) k (book-small form_number bytes)
    λ file end e. demand-small count (leb (line_bytes * length file.rules) (length output)) page_too_short 1 (last file)
    λ t. omega (arith, leb-true (line_bytes * length file.rules) (length output) t))

-- A number of the summary is small if it is for every file of at most 1,023 rules.
pub marked-small : (bytes marks : List ℕ) (m : Summary → ℕ) →
    ((file : RuleFile) → length file.rules < 1024 → Small (m (summary_of (marks_of (system_of file))))) →
    Small (number_of m (marked bytes marks).reply)
unfolding marked
marked-small bytes marks m h =
    let value : Written Summary → ℕ = λ w. m w.value in
    let last : RuleFile → Reply (Written Summary) =
    λ file. accepted (record { value = summary_of (marks_of (system_of file)); front = marks_of (system_of file) }) in
    let k : RuleFile → Reply (Written Summary) =
    λ file. ◌>>◌ (demand (leb (length file.rules) (length marks)) marks_too_short 1) (last file) in
    outcome-small m (◌>>=◌ (from_input 0 (read_bytes bytes)) k) marks
    (read_small value 0 (read_bytes bytes) k (book-small form_number bytes)
    λ file end e. demand-small value (leb (length file.rules) (length marks)) marks_too_short 1 (last file)
    λ t. h file (readable-well-formed file (from_bytes bytes end e)).0.within.rule_count)

rule-marks : (file : RuleFile) → length (marks_of (system_of file)) ≡ length file.rules
rule-marks file = length-map (system_of file).rules _ ∙ length-map file.rules _

pub most-small : (file : RuleFile) → length file.rules < 1024 → Small (most_of (summary_of (marks_of (system_of file))))
most-small file h =
    let marks = marks_of (system_of file) in
    omega (
      arith,
      score-le (decreasing_count marks) (length marks),
      rule-marks file,
      choose-length is_decreasing marks,
    )
