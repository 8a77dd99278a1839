-- One rule of a packed file, by its number: where it begins, and what reading past those before it gives.
use mathlib.Core.List.{List, ◌++◌, flat_map}
use Rattle.std.specs.Prelude.{◌≡◌, cond, ℕ, ◌-◌, ◌≤◌, leb, ltb, length, drop, Result, Ok, Err}
use Rattle.terms.specs.Signature.{Signature}
use Rattle.format.specs.Reading.{Reading, and_then, give, Source}
use Rattle.format.specs.Reading.Reading.{got, fault}
use Rattle.format.specs.Format.{Sides, RuleFile, rules_reader}
use Rattle.format.specs.Packing.{rule_items, item_bits}
use Rattle.format.specs.Files.{read_bytes}
use Rattle.format.specs.Errors.{number_of}
use Rattle.answers.specs.Answer.{Fault}
use Rattle.bits.specs.declared.BitCursor.{BitCursor}
use Rattle.seeking.specs.declared.Standing.{Standing}
use Rattle.seeking.specs.declared.Standing.TheVariants.{Bad, Done, Left}

-- How many bits rules have.
abbrev pub rules_bits : List Sides → ℕ
rules_bits rules = length (flat_map item_bits (flat_map rule_items rules))

-- How a file stands of which so many rules are marked, by what was read of it. The next rule begins as many bits before
-- the end of the last one as it has with those after it.
abbrev pub standing_in : ℕ → Reading RuleFile → Standing
standing_in marked (got file end) =
    let rules = file.rules in
    cond (leb marked (length rules))
    (cond (ltb marked (length rules)) (Left (end - rules_bits (drop marked rules))) Done)
    Bad
standing_in marked (fault code offset) = Bad

unfoldable pub file_standing : List ℕ → ℕ → Standing
file_standing book marked = standing_in marked (read_bytes book)

-- What reading past a rule gives: where it ends, or its fault.
abbrev pub RuleSkipped : Reading Sides → Result BitCursor Fault → Type 0
RuleSkipped reading (Ok next) = (sides : Sides) × (reading ≡ got sides next.at)
RuleSkipped reading (Err f) = reading ≡ fault (number_of f.code) f.offset

-- What reading past so many rules, of as many or more, gives: they and those that follow, or their fault.
abbrev pub RulesSkipped : Source → ℕ → Signature → ℕ → ℕ → Result BitCursor Fault → Type 0
RulesSkipped source unused σ count at (Ok next) =
    (total : ℕ) → count ≤ total → (done : List Sides) × (rules_reader source unused σ total at
    ≡ and_then (rules_reader source unused σ (total - count) next.at) (λ rest. give (done ++ rest)))
RulesSkipped source unused σ count at (Err f) =
    (total : ℕ) → count ≤ total → rules_reader source unused σ total at ≡ fault (number_of f.code) f.offset

-- They end by that offset.
abbrev pub SkippedWithin : ℕ → Result BitCursor Fault → Type 0
SkippedWithin last (Ok next) = next.at ≤ last
SkippedWithin last (Err f) = Unit {0}
