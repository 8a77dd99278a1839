-- What marking gives back for a readable file, and what it says of the rules.
--     marked-reply, marked-output     an accepted reply, and the marks written
--     all-decreasing, counted-all     the falling count is the count of rules exactly where every rule is decreasing
use mathlib.Core.List.Memᴰ
use mathlib.Core.List.{List, [], ◌∷◌, ◌++◌, map, Memᴰ}
use mathlib.Core.Logic.{⊎_elim}
use mathlib.Core.Path.{◌≡◌, refl, sym, ap, ◌∙◌}
use mathlib.Core.Bool.{Bool, true, false, false≢true}
use borrow.Author.Tests.{le-leb}
use Prim.Native.Nat.{ℕ, suc, zero, ◌≤◌, ◌<◌}
use native.Mathlib.Omega.{arith}
use lib.ListN.{length, get_or, take, drop, length-map, get_or-append}
use lib.Seq.{take_at}
use lib.Dec.{leb}
use Rattle.multisets.specs.Multiset.{choose}
use Rattle.multisets.proofs.MultisetMaps.{choose-length}
use Rattle.multisets.proofs.Relations.{by_test}
use Rattle.terms.specs.Order.{mark}
use Rattle.terms.specs.Rewriting.{Rule}
use Rattle.terms.specs.Marks.{is_decreasing}
use Rattle.format.specs.Reading.Reading.{got}
use Rattle.format.specs.Format.{RuleFile, system_of}
use Rattle.format.specs.Files.{read_bytes}
use Rattle.format.specs.Errors.{marks_too_short}
use Rattle.operations.specs.Replies.{Reply, Written, ◌>>◌, demand, outcome}
use Rattle.operations.specs.Replies.Reply.{accepted, refused}
use Rattle.operations.specs.declared.Summary.{Summary}
use Rattle.operations.specs.Marking.{marks_of, decreasing_count, summary_of, marked}

-- ---- lists

pub get_d_map : {A B : Type 0} (f : A → B) (l : List A) (a : A) (b : B) (i : ℕ) → i < length l →
    get_or (map f l) i b ≡ f (get_or l i a)
get_d_map f [] a b i h = absurd (omega arith)
get_d_map f (x ∷ l) a b zero h = refl
get_d_map f (x ∷ l) a b (suc i) h = get_d_map f l a b i (omega arith)

pub get_or-member : {A : Type 0} (l : List A) (a : A) (i : ℕ) → i < length l → Memᴰ (get_or l i a) l
get_or-member [] a i h = absurd (omega arith)
get_or-member (x ∷ l) a zero h = Memᴰ.head refl
get_or-member (x ∷ l) a (suc i) h = Memᴰ.tail (get_or-member l a i (omega arith))

module _ {A : Type 0} (p : A → Bool) where
  -- Where as many are chosen as there are, each is chosen.
  all-chosen : (l : List A) → length (choose p l) ≡ length l → (a : A) → Memᴰ a l → p a ≡ true
  all-chosen (b ∷ l) h a m =
      by_test (p b)
      (λ e. ⊎_elim (λ q. rw q e) (λ k. all-chosen l (omega (arith, rw e at h)) a k) (Memᴰ.cases_cons m))
      λ e. absurd (omega (arith, choose-length p l, rw e at h))
  all-chosen [] h a m = absurd (Memᴰ.not-nil m)

-- Where each passes, as many are chosen as there are.
chosen-all : {A B : Type 0} (f : A → B) (p : B → Bool) (l : List A) → ((a : A) → Memᴰ a l → p (f a) ≡ true) →
    length (choose p (map f l)) ≡ length (map f l)
chosen-all f p [] h = refl
chosen-all f p (a ∷ l) h = rw (h a (Memᴰ.head refl)) (ap suc (chosen-all f p l λ b m. h b (Memᴰ.tail m)))

-- ---- marking

pub length-rules : (file : RuleFile) → length (system_of file).rules ≡ length file.rules
length-rules file = length-map file.rules _

pub length-marks : (file : RuleFile) → length (marks_of (system_of file)) ≡ length file.rules
length-marks file = length-map (system_of file).rules _ ∙ length-rules file

-- The value of an accepted reply, and that a refusal is none.
abbrev value_or : {A : Type 0} → A → Reply A → A
value_or a (accepted b) = b
value_or a (refused e) = a

abbrev is_accepted : {A : Type 0} → Reply A → Bool
is_accepted (accepted a) = true
is_accepted (refused e) = false

demanded : {A : Type 0} (ok : Bool) (code input : ℕ) (w : Written A) (output : List ℕ) (v : A) →
    let r = outcome (◌>>◌ (demand ok code input) (accepted w)) output in
    r.reply ≡ accepted v → (v ≡ w.value) × (r.output ≡ w.front ++ drop (length w.front) output)
demanded true code input w output v e = (sym (ap (value_or v) e), refl)
demanded false code input w output v e = absurd (false≢true (ap is_accepted e))

module _ (bytes marks : List ℕ) (file : RuleFile) (at : ℕ) (reads : read_bytes bytes ≡ got file at) (summary : Summary)
    (reply : (marked bytes marks).reply ≡ accepted summary) where
  abbrev rule_marks : List ℕ
  rule_marks = marks_of (system_of file)

  pub marked-both : (summary ≡ summary_of rule_marks) ×
      ((marked bytes marks).output ≡ rule_marks ++ drop (length rule_marks) marks)
  unfolding marked
  marked-both =
      rw reads
      (demanded (leb (length file.rules) (length marks)) marks_too_short 1
      (record { value = summary_of rule_marks; front = rule_marks }) marks summary (rw reads at reply))

  -- The mark written for rule i is that of the order.
  pub mark-written : (i : ℕ) → i < length file.rules → (r : Rule) →
      get_or (marked bytes marks).output i 0 ≡
      (let q = get_or (system_of file).rules i r in mark file.signature q.left q.right)
  mark-written i h r =
      let n = length-marks file in
      let m = length-rules file in
      ap (λ (l : List ℕ). get_or l i 0) marked-both.1
      ∙ get_or-append rule_marks (drop (length rule_marks) marks) 0 i (omega arith)
      ∙ get_d_map _ (system_of file).rules r 0 i (omega arith)

  pub falling-counted : (summary.rules ≡ length file.rules) ×
      (summary.decreasing ≡ decreasing_count (take (length file.rules) (marked bytes marks).output))
  falling-counted =
      let n = length-marks file in
      let front : take (length file.rules) (marked bytes marks).output ≡ rule_marks =
      ap (take (length file.rules)) marked-both.1
      ∙ take_at rule_marks (drop (length rule_marks) marks) (length file.rules) n in
      let s = marked-both.0 in
      (ap (λ (s : Summary). s.rules) s ∙ n, rw front (ap (λ (s : Summary). s.decreasing) s))

  -- Where the falling count is the count of rules, every rule's mark is one of the order's.
  pub all-decreasing : summary.decreasing ≡ summary.rules → (r : Rule) → Memᴰ r (system_of file).rules →
      is_decreasing (mark file.signature r.left r.right) ≡ true
  all-decreasing e r m =
      let s = marked-both.0 in
      all-chosen is_decreasing rule_marks
      (ap (λ (s : Summary). s.decreasing) (sym s) ∙ e ∙ ap (λ (s : Summary). s.rules) s) _ (Memᴰ.map _ m)

-- Lent as many bytes as there are rules, marking counts them all where every rule's mark is one of the order's.
module _ (bytes : List ℕ) (file : RuleFile) (at : ℕ) (reads : read_bytes bytes ≡ got file at) where
  pub marks-accepted : (marked bytes (marks_of (system_of file))).reply ≡ accepted (summary_of (marks_of (system_of file)))
  unfolding marked
  marks-accepted =
      let h : length file.rules ≤ length (marks_of (system_of file)) = omega (arith, length-marks file) in
      rw (reads, le-leb (length file.rules) (length (marks_of (system_of file))) h)

  pub counted-all : ((r : Rule) → Memᴰ r (system_of file).rules →
      is_decreasing (mark file.signature r.left r.right) ≡ true) →
      (summary_of (marks_of (system_of file))).decreasing ≡ (summary_of (marks_of (system_of file))).rules
  counted-all h = chosen-all _ is_decreasing (system_of file).rules h
