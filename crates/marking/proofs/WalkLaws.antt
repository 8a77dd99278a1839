-- The walk over the rules of a file: what a loop has read, counted and stored, and what that says of the file.
--     decreasing-append                                     how many marks are those of the order
--     ListedSoFar, listed-none, listed-fault, listed_more, listed-all     the loop
--     stored-front, marks-sides, marked-as                  what was stored first; a file whose rules are listed
use Rattle.std.specs.Prelude.{Ok, Err}
use mathlib.Core.List.{List, [], ◌∷◌, ◌++◌, map, map-append}
use mathlib.Core.Path.{◌≡◌, refl, sym, ap, ◌∙◌}
use Prim.Native.Nat.{ℕ, ◌+◌, ◌≤◌, ◌<◌}
use native.Mathlib.Omega.{arith}
use lib.IntN.{ℤ}
use lib.ListN.{length, take, drop, length-append, length-map, set}
use lib.Seq.{sets, sets-eq, take-append_seam}
use Rattle.multisets.specs.Multiset.{choose}
use Rattle.multisets.proofs.MultisetMaps.{choose-append}
use Rattle.multisets.proofs.ListLaws.{sets-append}
use Rattle.terms.specs.Signature.{Signature}
use Rattle.format.specs.Errors.{number_of}
use Rattle.format.specs.Reading.{Source}
use Rattle.format.specs.Reading.Reading.{fault}
use Rattle.format.specs.Format.{Sides, RuleFile, rule_reader, rules_reader, system_of}
use Rattle.reader.proofs.RuleLaws.{Done, done_none, done-fault, done_more, done_all}
use Rattle.terms.specs.Marks.{is_decreasing}
use Rattle.operations.specs.Marking.{marks_of, margins_of, decreasing_count}
use Rattle.marking.specs.declared.rule.MarkedRule.{MarkedRule}
use Rattle.operations.specs.Enums.{mark_number}
use Rattle.answers.specs.Answer.{Fault}
use Rattle.marking.specs.Rule.{sides_mark, sides_margin, MarksRead, Listed, AllMarked, MarkedAs}

abbrev pub sides_themselves : Sides → Sides
sides_themselves sides = sides

-- ---- how many marks are those of the order

decreasing-append : (l m : List ℕ) → decreasing_count (l ++ m) ≡ decreasing_count l + decreasing_count m
decreasing-append l m = ap length (choose-append is_decreasing l m) ∙ length-append (choose is_decreasing l)
    (choose is_decreasing m)

-- ---- the loop

-- One value more is stored, after those of what is done.
stored_more : {A : Type 0} (f : Sides → A) (l₀ l : List A) (i : ℕ) (a : A) (done : List Sides) (r : Sides) →
    length done ≡ i → l ≡ sets l₀ 0 (map f done) → a ≡ f r → set l i a ≡ sets l₀ 0 (map f (done ++ (r ∷ [])))
stored_more f l₀ l i a done r n e d =
    let k : 0 + length (map f done) ≡ i = omega (arith, length-map done f) in
    rw (map-append f done (r ∷ []), ← d, sets-append l₀ 0 (map f done) (a ∷ []), k, ← e)

module _ (source : Source) (unused : ℕ) (σ : Signature) (count start : ℕ) (marks₀ : List ℕ) (margins₀ : List ℤ) where
  -- Some rules are done, and listed.
  abbrev pub ListedSoFar : ℕ → ℕ → ℕ → List ℕ → List ℤ → Type 0
  ListedSoFar i at decreasing marks margins =
      (done : List Sides) × Done source unused σ count start i at done × (length done ≡ i)
      × Listed σ done decreasing marks₀ marks margins₀ margins

  pub listed-none : ListedSoFar 0 start 0 marks₀ margins₀
  listed-none =
      ([], done_none source unused σ count start, refl, record { falling = refl; marks = refl; margins = refl })

  module _ (i at decreasing : ℕ) (marks : List ℕ) (margins : List ℤ)
      (so : ListedSoFar i at decreasing marks margins) where
    pub listed-fault : i < count → (f : Fault) (marks' : List ℕ) (margins' : List ℤ) →
        rule_reader source unused σ at ≡ fault (number_of f.code) f.offset →
        AllMarked σ (rules_reader source unused σ count start) (Err f) marks₀ marks' margins₀ margins'
    listed-fault h f marks' margins' e =
        done-fault source unused σ count start i at so.0 so.1 h (number_of f.code) f.offset e

    pub listed_more : i < count → (n : ℕ) (m : MarkedRule) (marks' : List ℕ) (margins' : List ℤ) →
        MarksRead σ sides_themselves (rule_reader source unused σ at) (Ok m) →
        n ≡ decreasing_count (mark_number m.mark ∷ []) → marks' ≡ set marks i (mark_number m.mark) → margins' ≡ set margins i m.margin →
        ListedSoFar (i + 1) m.cursor.at (decreasing + n) marks' margins'
    listed_more h n m marks' margins' (r, e, x) one mark put =
        let (done, d, l, so') = so in
        let added : map (sides_mark σ) (done ++ (r ∷ [])) ≡ map (sides_mark σ) done ++ (mark_number m.mark ∷ []) =
        map-append (sides_mark σ) done (r ∷ []) ∙ rw x.mark in (
          done ++ (r ∷ []),
          done_more source unused σ count start i at done d h r m.cursor.at e,
          omega (arith, length-append done (r ∷ [])),
          record {
            falling = rw (added, decreasing-append (map (sides_mark σ) done) (mark_number m.mark ∷ []), ← so'.falling, ← one);
            marks = mark ∙ stored_more (sides_mark σ) marks₀ marks i (mark_number m.mark) done r l so'.marks x.mark;
            margins = put
                ∙ stored_more (sides_margin σ) margins₀ margins i m.margin done r l so'.margins x.margin;
          },
        )

    pub listed-all : count ≤ i → (next : ℕ) → next ≡ at →
        AllMarked σ (rules_reader source unused σ count start) (Ok (decreasing, next)) marks₀ marks margins₀
        margins
    listed-all h next same =
        let (done, d, l, so') = so in (done, rw same (done_all source unused σ count start i at done d h), so')

-- ---- the file

-- What was stored first stands first.
pub stored-front : {A : Type 0} (l l₀ l' : List A) (n : ℕ) → length l ≡ n → n ≤ length l₀ → l' ≡ sets l₀ 0 l →
    take n l' ≡ l
stored-front l l₀ l' n e room d =
    rw (d, ← e, sets-eq l l₀ 0 (omega arith)) (take-append_seam l (drop (0 + length l) l₀))

sides-map : {A B C : Type 0} (g : B → C) (f : A → B) (l : List A) → map g (map f l) ≡ map (λ (a : A). g (f a)) l
sides-map g f [] = refl
sides-map g f (a ∷ l) = ap (◌∷◌ (g (f a))) (sides-map g f l)

module _ (form : ℕ) (σ : Signature) (rs : List Sides) where
  abbrev pub listed_file : RuleFile
  listed_file = record { form = form; signature = σ; rules = rs }

  pub marks-sides : marks_of (system_of listed_file) ≡ map (sides_mark σ) rs
  marks-sides = sides-map _ _ rs

  pub marked-as : (count decreasing : ℕ) (marks₀ marks : List ℕ) (margins₀ margins : List ℤ) → length rs ≡ count →
      count < 1024 → decreasing ≤ count → Listed σ rs decreasing marks₀ marks margins₀ margins →
      MarkedAs listed_file count decreasing marks₀ marks margins₀ margins
  marked-as count decreasing marks₀ marks margins₀ margins n few most l =
      let margin : margins_of (system_of listed_file) ≡ map (sides_margin σ) rs = sides-map _ _ rs in
      record {
        count = sym n;
        few = few;
        most = most;
        falling = l.falling ∙ ap decreasing_count (sym marks-sides);
        marks = l.marks ∙ ap (sets marks₀ 0) (sym marks-sides);
        margins = l.margins ∙ ap (sets margins₀ 0) (sym margin);
      }
