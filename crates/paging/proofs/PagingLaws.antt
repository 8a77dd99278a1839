-- What the page of a rule file gives back, by what its bytes read as.
--     kept-entries                             the entries of the marks and margins that were kept elsewhere
--     kept-fit                                 they fit
--     page-refused, page-short, page-written   the ends of the operation
--     board-page, board-refusal, refusal-text  the text of the program
use Rattle.std.specs.Prelude.{Result, Ok, Err}
use mathlib.Core.List.{List, [], ◌∷◌, map}
use mathlib.Core.Path.{◌≡◌, refl, sym, ap, ◌∙◌}
use Prim.Native.Nat.{ℕ, ◌*◌, ◌≤◌, ◌<◌}
use native.Mathlib.Omega.{arith}
use native.Mathlib.Nat.{zero-add}
use lib.IntN.{ℤ}
use lib.ListN.{length, take, length-map}
use lib.Seq.{sets, sets-eq}
use borrow.Author.Tests.{le-leb, lt-leb}
use Rattle.terms.specs.Signature.{Signature}
use Rattle.terms.specs.Order.{mark, margin}
use Rattle.terms.specs.Rewriting.{Rule}
use Rattle.format.specs.Errors.{number_of, page_too_short}
use Rattle.format.specs.Reading.{Reading}
use Rattle.format.specs.Reading.Reading.{got, fault}
use Rattle.format.specs.Format.{RuleFile, system_of}
use Rattle.format.specs.Files.{read_bytes}
use Rattle.format.specs.Statements.IsRead.{from_bytes}
use Rattle.format.proofs.Theorems.{readable-well-formed}
use Rattle.operations.specs.Replies.{Error, Reply}
use Rattle.operations.specs.Replies.Reply.{accepted, refused}
use Rattle.operations.specs.Report.{refusal_line}
use Rattle.operations.specs.Page.{AllFit, page}
use Rattle.operations.specs.Paging.{entry_of, entries_of, line_bytes, paged, board}
use Rattle.operations.proofs.EntryLaws.{book-fits}
use Rattle.operations.proofs.PageLaws.{length-page}
use Rattle.answers.specs.Answer.{Fault}
use Rattle.marking.specs.declared.walk.Marked.{Marked}
use Rattle.marking.specs.Rule.{MarkedAs, WholeMarked}
use Rattle.marking.proofs.FoundLaws.{stored-fronts}
use Rattle.paging.specs.Entries.{entries}

entries-map : (σ : Signature) (rs : List Rule) →
    entries (map (λ (r : Rule). mark σ r.left r.right) rs) (map (λ (r : Rule). margin σ r.left r.right) rs)
    ≡ map (entry_of σ) rs
entries-map σ [] = refl
entries-map σ (r ∷ rs) = ap (◌∷◌ (entry_of σ r)) (entries-map σ rs)

page-fault : (bytes output : List ℕ) (code offset : ℕ) → read_bytes bytes ≡ fault code offset →
    (refused (record { code = code; input = 0; offset = offset }) ≡ (paged bytes output).reply)
    × (output ≡ (paged bytes output).output)
unfolding paged
page-fault bytes output code offset e = (rw e, rw e)

module _ (bytes : List ℕ) (x : Result Marked Fault) (marks₀ marks : List ℕ) (margins₀ margins : List ℤ)
    (all : WholeMarked (read_bytes bytes) x marks₀ marks margins₀ margins) where
  pub page-refused : (output : List ℕ) (f : Fault) → x ≡ Err f → (error : Error) →
      error ≡ record { code = number_of f.code; input = 0; offset = f.offset } →
      (refused error ≡ (paged bytes output).reply) × (output ≡ (paged bytes output).output)
  page-refused output f e error d = rw d (page-fault bytes output (number_of f.code) f.offset (rw e at all))

  module _ (m : Marked) (e : x ≡ Ok m) where
    pub page-short : (output : List ℕ) → length output < line_bytes * m.rules →
        (refused (record { code = page_too_short; input = 1; offset = 0 }) ≡ (paged bytes output).reply)
        × (output ≡ (paged bytes output).output)
    unfolding paged
    page-short output h =
        let (file, end, read, parts) = rw e at all in
        let no = lt-leb (line_bytes * length file.rules) (length output) (omega (arith, parts.count)) in
        rw (read, no) (refl, refl)

    module _ (room : 1023 ≤ length marks₀) (room' : 1023 ≤ length margins₀) where
      -- The entries that were kept are those of the file.
      kept-entries : (file : RuleFile) × (end : ℕ) × (read_bytes bytes ≡ got file end) ×
          MarkedAs file m.rules m.decreasing marks₀ marks margins₀ margins ×
          (entries (take m.rules marks) (take m.rules margins) ≡ entries_of (system_of file))
      kept-entries =
          let (file, end, read, parts) = rw e at all in
          let (kept, kept') = stored-fronts file m.rules m.decreasing marks₀ marks margins₀ margins parts room room' in
          (file, end, read, parts, rw (kept, kept') (entries-map file.signature (system_of file).rules))

      pub kept-fit : AllFit (entries (take m.rules marks) (take m.rules margins))
      kept-fit =
          let (file, end, read, parts, kept) = kept-entries in rw kept (book-fits file (from_bytes bytes end read))

      pub page-written : (output out : List ℕ) → line_bytes * m.rules ≤ length output →
          out ≡ sets output 0 (page (entries (take m.rules marks) (take m.rules margins))) →
          (accepted (line_bytes * m.rules) ≡ (paged bytes output).reply) × (out ≡ (paged bytes output).output)
      unfolding paged
      page-written output out h w =
          let (file, end, read, parts, kept) = kept-entries in
          let es = entries_of (system_of file) in
          let fits = le-leb (line_bytes * length file.rules) (length output) (omega (arith, parts.count)) in
          let k : length es ≡ m.rules =
          length-map (system_of file).rules _ ∙ length-map file.rules _ ∙ sym parts.count in
          let n : length (page es) ≡ line_bytes * length es =
          length-page es (omega (arith, parts.few)) (book-fits file (from_bytes bytes end read)) in (
            rw (read, fits) (ap (λ (n : ℕ). accepted (line_bytes * n)) parts.count),
            w ∙ rw (read, fits, kept, sets-eq (page es) output 0 (omega arith), zero-add),
          )

-- ---- the text of the program

by-reading : {A B : Type 0} (r : Reading A) → ((a : A) (end : ℕ) → r ≡ got a end → B) →
    ((code offset : ℕ) → r ≡ fault code offset → B) → B
by-reading (got a end) f g = f a end refl
by-reading (fault code offset) f g = g code offset refl

abbrev answers : {A : Type 0} → Reply A → ℕ
answers (accepted a) = 0
answers (refused e) = 1

-- An answer is no refusal, and answers that are the same have the same value.
no_answer : {A B : Type 0} {a : A} {e : Error} → accepted a ≡ refused e → B
no_answer h = let z : ◌≡◌ {A = ℕ} 0 1 = ap answers h in absurd (omega arith)

accepted-is : (m n : ℕ) → accepted m ≡ accepted n → m ≡ n
accepted-is m n h = cc

refused-is : (e f : Error) → ◌≡◌ {A = Reply ℕ} (refused e) (refused f) → e ≡ f
refused-is e f h = cc

module _ (bytes : List ℕ) (output : List ℕ) (room : 66495 ≤ length output) where
  -- There is room for the page of any file.
  paged-got : (file : RuleFile) (end : ℕ) → read_bytes bytes ≡ got file end →
      ((paged bytes output).reply ≡ accepted (length (board bytes)))
      × ((paged bytes output).output ≡ sets output 0 (board bytes)) × (length (board bytes) ≤ 66495)
  unfolding paged board
  paged-got file end e =
      let es = entries_of (system_of file) in
      let i = from_bytes bytes end e in
      let few = (readable-well-formed file i).0.within.rule_count in
      let fits = le-leb (line_bytes * length file.rules) (length output) (omega arith) in
      let k : length es ≡ length file.rules = length-map (system_of file).rules _ ∙ length-map file.rules _ in
      let n : length (page es) ≡ line_bytes * length es = length-page es (omega arith) (book-fits file i) in
      let c : line_bytes * length file.rules ≡ length (page es) = omega arith in
      rw (e, fits) (
        ap accepted c,
        rw (sets-eq (page es) output 0 (omega arith), zero-add),
        omega arith,
      )

  pub board-page : (count : ℕ) (out : List ℕ) → accepted count ≡ (paged bytes output).reply →
      out ≡ (paged bytes output).output →
      ((count ≡ length (board bytes)) × (count ≤ 66495)) × (out ≡ sets output 0 (board bytes))
  board-page count out r w =
      by-reading (read_bytes bytes)
      (λ file end e. let (reply, written, most) = paged-got file end e in
      let c : count ≡ length (board bytes) = accepted-is count (length (board bytes)) (r ∙ reply) in
      ((c, omega arith), w ∙ written))
      λ code offset e. no_answer (r ∙ sym (page-fault bytes output code offset e).0)

  pub board-refusal : (e : Error) (out : List ℕ) → refused e ≡ (paged bytes output).reply →
      out ≡ (paged bytes output).output → (read_bytes bytes ≡ fault e.code e.offset) × (out ≡ output)
  board-refusal e out r w =
      by-reading (read_bytes bytes) (λ file end d. no_answer (sym (r ∙ (paged-got file end d).0)))
      λ code offset d. let (reply, written) = page-fault bytes output code offset d in
      let same : e ≡ record { code = code; input = 0; offset = offset } = refused-is _ _ (r ∙ sym reply) in
      (d ∙ rw same, w ∙ sym written)

  pub refusal-text : (code offset r : ℕ) (mid out : List ℕ) → read_bytes bytes ≡ fault code offset → mid ≡ output →
      r ≡ length (refusal_line code offset) → out ≡ sets mid 0 (refusal_line code offset) →
      (r ≡ length (board bytes)) × (out ≡ sets output 0 (board bytes))
  unfolding board
  refusal-text code offset r mid out e same n w = rw e (n, w ∙ rw same)
