-- Marking a rule that was found.
--     rule-at                           the rule with a number, and where it is read
--     first-marked                      marking one rule, under a table
--     one-marked, one-unread            the mark of a rule that is read and marked
--     never-found, found_within, mark-found      and in a file
use Rattle.std.specs.Prelude.{Result, Ok, Err}
use mathlib.Core.List.{List, [], ◌∷◌, map}
use mathlib.Core.Path.{◌≡◌, refl, sym, ap, ◌∙◌}
use mathlib.Core.Bool.{true, false≢true}
use Prim.Native.Nat.{ℕ, suc, zero, ◌-◌, ◌*◌, ◌≤◌, ◌<◌}
use native.Mathlib.Nat.{sub-zero}
use native.Mathlib.Omega.{arith}
use lib.Dec.{leb}
use lib.IntN.{ℤ}
use lib.ListN.{length, get_or, drop}
use lib.Seq.{sets}
use borrow.Author.Tests.{lt-ltb, le-ltb, le-leb, lt-leb}
use Rattle.multisets.proofs.Relations.{by_test, by_order}
use Rattle.terms.specs.Signature.{Signature}
use Rattle.format.specs.Layout.{form_number, max_bytes}
use Rattle.format.specs.Errors.{number_of, file_too_long}
use Rattle.format.specs.Reading.{Reading, and_then, give, Source, bit_source}
use Rattle.format.specs.Reading.Reading.{got, fault}
use Rattle.format.specs.Forms.{is_taken, unused_of}
use Rattle.format.specs.Format.{Sides, RuleFile, rule_reader, rules_reader}
use Rattle.format.specs.Files.{read_bytes, read_bytes_in}
use Rattle.format.proofs.FormatLaws.{rules-length}
use Rattle.format.proofs.FaultLaws.{within-got, whole-within, bits-bounded}
use Rattle.operations.specs.Jobs.{book_marks}
use Rattle.reader.specs.Source.Input.{from_bytes}
use Rattle.reader.specs.File.{rest_reader}
use Rattle.operations.specs.Enums.{mark_number}
use Rattle.answers.specs.Answer.{Answer, Fault}
use Rattle.reader.proofs.RuleLaws.{rules-step, done_none, done_more, done_all}
use Rattle.seeking.specs.declared.Standing.TheVariants.{Bad, Done, Left}
use Rattle.marking.specs.declared.rule.MarkedRule.{MarkedRule}
use Rattle.marking.specs.Rule.{sides_mark, MarksRead, AllMarked}
use Rattle.seeking.specs.One.{rules_bits, standing_in, file_standing}
use Rattle.marking.proofs.WalkLaws.{sides_themselves, marks-sides}
use Rattle.seeking.proofs.FindLaws.{rules-end, rest-whole}

-- ---- where a rule is read

rest_of : (r : Sides) (rules : List Sides) (end : ℕ) (y : Reading (List Sides)) →
    and_then y (λ rest. give (r ∷ rest)) ≡ got rules end →
    (rest : List Sides) × (y ≡ got rest end) × (rules ≡ r ∷ rest)
rest_of r rules end (got rest at) e = (rest, cc, cc)
rest_of r rules end (fault code offset) e = absurd (false≢true (cc))

first_of : (rules : List Sides) (end : ℕ) (x : Reading Sides) (k : ℕ → Reading (List Sides)) →
    and_then x (λ r next. and_then (k next) (λ rest. give (r ∷ rest))) ≡ got rules end →
    (r : Sides) × (next : ℕ) × (rest : List Sides) × (x ≡ got r next) × (k next ≡ got rest end) × (rules ≡ r ∷ rest)
first_of rules end (got r next) k e = let (rest, a, b) = rest_of r rules end (k next) e in (r, next, rest, refl, a, b)
first_of rules end (fault code offset) k e = absurd (false≢true (cc))

joined : (x : Reading Sides) (k : ℕ → Reading (List Sides)) (r : Sides) (next end : ℕ) (rest : List Sides) →
    x ≡ got r next → k next ≡ got rest end →
    and_then x (λ r next. and_then (k next) (λ rest. give (r ∷ rest))) ≡ got (r ∷ rest) end
joined x k r next end rest e f = rw (e, f)

module _ (source : Source) (unused : ℕ) (σ : Signature) where
  -- The rules before it, where they end, the rule, and it with those after it.
  record RuleAt (index count at end : ℕ) (rules : List Sides) : Type 0 where
    before : List Sides
    middle : ℕ
    skipped : rules_reader source unused σ index at ≡ got before middle
    rule : Sides
    next : ℕ
    read : rule_reader source unused σ middle ≡ got rule next
    others : rules_reader source unused σ (count - index) middle ≡ got (drop index rules) end
    same : (f : Sides → ℕ) → get_or (map f rules) index 0 ≡ f rule

  rule-at : (index count at end : ℕ) (rules : List Sides) → rules_reader source unused σ count at ≡ got rules end →
      index < count → RuleAt index count at end rules
  unfolding rules_reader
  rule-at zero zero at end rules e h = absurd (omega arith)
  rule-at (suc i) zero at end rules e h = absurd (omega arith)
  rule-at zero (suc n) at end rules e h =
      let (r, next, rest, a, b, c) = first_of rules end (rule_reader source unused σ at) (rules_reader source unused σ n)
      (sym (rules-step source unused σ n at) ∙ e) in
      record {
        before = [];
        middle = at;
        skipped = refl;
        rule = r;
        next = next;
        read = a;
        others = rw sub-zero e;
        same = λ f. ap (λ (l : List Sides). get_or (map f l) 0 0) c;
      }
  rule-at (suc i) (suc n) at end rules e h =
      let (r, next, rest, a, b, c) = first_of rules end (rule_reader source unused σ at) (rules_reader source unused σ n)
      (sym (rules-step source unused σ n at) ∙ e) in
      let R = rule-at i n next end rest b (omega arith) in
      let k : suc n - suc i ≡ n - i = omega arith in
      record {
        before = r ∷ R.before;
        middle = R.middle;
        skipped = rules-step source unused σ i at
            ∙ joined (rule_reader source unused σ at) (rules_reader source unused σ i) r next _ R.before a
            R.skipped;
        rule = R.rule;
        next = R.next;
        read = R.read;
        others = rw k (R.others ∙ ap (λ (l : List Sides). got (drop (suc i) l) end) (sym c));
        same = λ f. ap (λ (l : List Sides). get_or (map f l) (suc i) 0) c ∙ R.same f;
      }

-- ---- marking a rule that was found

module _ (source : Source) (unused : ℕ) (σ : Signature) (at : ℕ) (sides : Sides) (next : ℕ)
    (e : rule_reader source unused σ at ≡ got sides next) where
  one-read : rules_reader source unused σ 1 at ≡ got (sides ∷ []) next
  one-read =
      done_all source unused σ 1 at 1 next (sides ∷ [])
      (done_more source unused σ 1 at 0 at [] (done_none source unused σ 1 at) (omega arith) sides next e) (omega arith)

  -- Where one rule is marked, its mark stands first.
  pub first-marked : (r : Answer) (mark : ℕ) (marks₀ marks : List ℕ) (margins₀ margins : List ℤ) →
      AllMarked σ (rules_reader source unused σ 1 at) r (mark ∷ marks₀) marks margins₀ margins →
      get_or marks 0 0 ≡ sides_mark σ sides
  first-marked (Ok (decreasing, end)) mark marks₀ marks margins₀ margins (rules, read, listed) =
      let z : got rules end ≡ got (sides ∷ []) next = sym read ∙ one-read in
      let q : rules ≡ sides ∷ [] = cc in
      let stored : marks ≡ sets (mark ∷ marks₀) 0 (sides_mark σ sides ∷ []) = rw q at listed.marks in
      ap (λ (l : List ℕ). get_or l 0 0) stored
  first-marked (Err f) mark marks₀ marks margins₀ margins read =
      let z : fault (number_of f.code) f.offset ≡ got (sides ∷ []) next = sym read ∙ one-read in
      absurd (false≢true (cc))

-- A rule that is read there and marked has its mark.
module _ (σ : Signature) (reading : Reading Sides) (r : Result MarkedRule Fault)
    (read : MarksRead σ sides_themselves reading r) (sides : Sides) (next : ℕ) (e : reading ≡ got sides next) where
  pub one-marked : (m : MarkedRule) → r ≡ Ok m → mark_number m.mark ≡ sides_mark σ sides
  one-marked m q =
      let (a, f, x) = rw q at read in
      let z : got a m.cursor.at ≡ got sides next = sym f ∙ e in
      let same : a ≡ sides = cc in
      rw (← same) x.mark

  pub one-unread : {A : Type 0} (f : Fault) → r ≡ Err f → A
  one-unread f q =
      let z : fault (number_of f.code) f.offset ≡ got sides next = sym (rw q at read) ∙ e in absurd (false≢true (cc))

-- A rule that is found has its number below the count of rules.
left_is : (file : RuleFile) (marked last at : ℕ) → standing_in marked (got file last) ≡ Left at →
    (marked < length file.rules) × (at ≡ last - rules_bits (drop marked file.rules))
left_is file marked last at e =
    let n = length file.rules in
    by_order marked n
    (λ h. let z : Left (last - rules_bits (drop marked file.rules)) ≡ Left at =
    rw (le-leb marked n (omega arith), lt-ltb marked n h) at e in
    let b : last - rules_bits (drop marked file.rules) ≡ at = cc in (h, sym b))
    λ h. by_order n marked
    (λ g. let z : Bad ≡ Left at = rw (lt-leb marked n g) at e in absurd (false≢true (cc)))
    λ g. let z : Done ≡ Left at = rw (le-leb marked n g, le-ltb marked n h) at e in absurd (false≢true (cc))

module _ (bytes : List ℕ) (marked at : ℕ) (found : file_standing bytes marked ≡ Left at) where
  pub never-found : {A : Type 0} (code offset : ℕ) → read_bytes bytes ≡ fault code offset → A
  unfolding file_standing
  never-found code offset e = let z : Bad ≡ Left at = rw e at found in absurd (false≢true (cc))

  file-end : (file : RuleFile) (last : ℕ) → read_bytes bytes ≡ got file last → last ≤ 8 * length bytes
  unfolding read_bytes_in
  file-end file last e =
      by_test (leb (length bytes) max_bytes)
      (λ short. within-got (8 * length bytes) _ file last
      (whole-within (8 * length bytes) (bit_source bytes) (bits-bounded bytes) form_number 0 (omega arith))
      (rw short at e))
      λ long. let z : fault file_too_long 0 ≡ got file last = rw long at e in absurd (false≢true (cc))

  pub found_within : at ≤ 8 * length bytes
  unfolding file_standing
  found_within = go (read_bytes bytes) refl
    where
      go : (x : Reading RuleFile) → read_bytes bytes ≡ x → at ≤ 8 * length bytes
      go (got file last) e =
          let (less, place) = left_is file marked last at (rw e at found) in omega (arith, file-end file last e)
      go (fault code offset) e = never-found code offset e

  pub mark-found : (form : ℕ) → is_taken form_number form ≡ true → (σ : Signature) (count head mark : ℕ) →
      read_bytes bytes ≡ rest_reader form (from_bytes bytes) σ count head → head ≤ 8 * length bytes →
      ((sides : Sides) (next : ℕ) →
      rule_reader (bit_source bytes) (unused_of form_number) σ at ≡ got sides next → mark ≡ sides_mark σ sides) →
      mark ≡ get_or (book_marks bytes) marked 0
  unfolding file_standing book_marks
  mark-found form taken σ count head mark read h marks = go (rest_reader form (from_bytes bytes) σ count head) refl
    where
      there : (middle : ℕ) (rule : Sides) (next : ℕ) → middle ≡ at →
          rule_reader (bit_source bytes) (unused_of form_number) σ middle ≡ got rule next →
          rule_reader (bit_source bytes) (unused_of form_number) σ at ≡ got rule next
      there middle rule next m e = rw (← m) e

      go : (x : Reading RuleFile) → rest_reader form (from_bytes bytes) σ count head ≡ x →
          mark ≡ get_or (book_marks bytes) marked 0
      go (got file last) e =
          let whole = read ∙ e in
          let (rules, r, same) = rest-whole bytes form taken σ count head file last e in
          let (less, place) = left_is file marked last at (rw whole at found) in
          let less' = rw same at less in
          let place' = rw same at place in
          let n = rules-length (bit_source bytes) (unused_of form_number) σ count head rules last r in
          let R = rule-at (bit_source bytes) (unused_of form_number) σ marked count head last rules r (omega arith) in
          let (far, within) = rules-end bytes (unused_of form_number) σ marked head R.before R.middle R.skipped h
          in
          let (far', within') = rules-end bytes (unused_of form_number) σ (count - marked) R.middle (drop marked rules)
          last R.others within in
          let m : R.middle ≡ at = omega arith in
          rw (whole, same, marks-sides form σ rules)
          (marks R.rule R.next (there R.middle R.rule R.next m R.read) ∙ sym (R.same (sides_mark σ)))
      go (fault code offset) e = never-found code offset (read ∙ e)
