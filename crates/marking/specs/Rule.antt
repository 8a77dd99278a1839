-- What marking the rules of a packed file gives: a rule's mark and margin, and those of all rules.
use Rattle.std.specs.Prelude.{List, map, ◌≡◌, ℕ, ◌≤◌, ◌<◌, ℤ, length, Result, Ok, Err}
use Rattle.std.proofs.lemmas.List.Edits.{sets}
use Rattle.terms.specs.Signature.{Signature}
use Rattle.terms.specs.Words.{term_of}
use Rattle.terms.specs.Order.{mark, margin}
use Rattle.format.specs.Reading.{Reading}
use Rattle.format.specs.Reading.Reading.{got, fault}
use Rattle.format.specs.Format.{Sides, RuleFile, system_of}
use Rattle.operations.specs.Marking.{marks_of, margins_of, decreasing_count}
use Rattle.format.specs.Errors.{number_of}
use Rattle.operations.specs.Enums.{mark_number}
use Rattle.answers.specs.Answer.{Answer, Fault}
use Rattle.marking.specs.declared.rule.MarkedRule.{MarkedRule}
use Rattle.marking.specs.declared.walk.Marked.{Marked}

module _ (σ : Signature) where
  -- The mark and the margin of a rule given by the node words of its sides.
  abbrev pub sides_mark : Sides → ℕ
  sides_mark r = mark σ (term_of σ r.left) (term_of σ r.right)

  abbrev pub sides_margin : Sides → ℤ
  sides_margin r = margin σ (term_of σ r.left) (term_of σ r.right)

  pub record Marks (r : Sides) (m : MarkedRule) : Type 0 where
    pub mark : mark_number m.mark ≡ sides_mark r
    pub margin : m.margin ≡ sides_margin r

  -- What was read, the sides that it makes, and the answer: the rule is marked, and the cursor is past it.
  abbrev pub MarksRead : {A : Type 0} → (A → Sides) → Reading A → Result MarkedRule Fault → Type 0
  MarksRead {A} sides_of reading (Ok m) = (a : A) × (reading ≡ got a m.cursor.at) × Marks (sides_of a) m
  MarksRead sides_of reading (Err f) = reading ≡ fault (number_of f.code) f.offset

  -- So many of the rules decrease, and their marks and margins stand first in the lists, as far as there is room.
  pub record Listed (rules : List Sides) (decreasing : ℕ) (marks₀ marks₁ : List ℕ) (margins₀ margins₁ : List ℤ) : Type 0
    where
      pub falling : decreasing ≡ decreasing_count (map sides_mark rules)
      pub marks : marks₁ ≡ sets marks₀ 0 (map sides_mark rules)
      pub margins : margins₁ ≡ sets margins₀ 0 (map sides_margin rules)

  -- What was read of all rules, the answer, and the lists before and after.
  abbrev pub AllMarked : Reading (List Sides) → Answer → List ℕ → List ℕ → List ℤ → List ℤ → Type 0
  AllMarked reading (Ok (decreasing, next)) marks₀ marks margins₀ margins =
      (rs : List Sides) × (reading ≡ got rs next) × Listed rs decreasing marks₀ marks margins₀ margins
  AllMarked reading (Err f) marks₀ marks margins₀ margins = reading ≡ fault (number_of f.code) f.offset

-- The rule ends by that offset.
abbrev pub MarkedWithin : ℕ → Result MarkedRule Fault → Type 0
MarkedWithin end (Ok m) = m.cursor.at ≤ end
MarkedWithin end (Err f) = Unit {0}

-- A file's rules are counted, with those that decrease, and their marks and margins stand first in the lists, as far as
-- there is room.
pub record MarkedAs (f : RuleFile) (rules decreasing : ℕ) (marks₀ marks₁ : List ℕ) (margins₀ margins₁ : List ℤ) : Type 0
  where
    pub count : rules ≡ length f.rules
    pub few : rules < 1024
    pub most : decreasing ≤ rules
    pub falling : decreasing ≡ decreasing_count (marks_of (system_of f))
    pub marks : marks₁ ≡ sets marks₀ 0 (marks_of (system_of f))
    pub margins : margins₁ ≡ sets margins₀ 0 (margins_of (system_of f))

-- What was read of a file, the answer, and the lists before and after.
abbrev pub WholeMarked : Reading RuleFile → Result Marked Fault → List ℕ → List ℕ → List ℤ → List ℤ → Type 0
WholeMarked reading (Ok m) marks₀ marks margins₀ margins =
    (f : RuleFile) × (end : ℕ) × (reading ≡ got f end) × MarkedAs f m.rules m.decreasing marks₀ marks margins₀ margins
WholeMarked reading (Err f) marks₀ marks margins₀ margins = reading ≡ fault (number_of f.code) f.offset
