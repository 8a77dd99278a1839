-- What an author may rely on of the converter. Proofs: proofs/Theorems.antt.
-- Renders: 02, order 4: "Form 1 books are read by no operation but one", "a converter, which renumbers and changes no
-- other bit but the form; the converted book has the marks the old one had", and of "one rule with different variable
-- numbers".
use mathlib.Core.List.{List, [], ◌∷◌, ◌++◌, flat_map}
use Rattle.std.specs.Prelude.{◌≡◌, Bool, true, false, cond, ℕ, ◌+◌, ◌*◌, ◌%◌, ◌≤◌, ◌<◌, length, get_or, take, drop, replicate, ltb}
use Rattle.terms.specs.Signature.{NoZeroWeightUnary}
use Rattle.terms.specs.Words.{first_variable}
use Rattle.terms.specs.Rewriting.{Rule}
use Rattle.terms.specs.Renaming.{OneToOneOn}
use Rattle.terms.specs.FirstUse.{in_order, rename_rule, rule_words}
use Rattle.format.specs.Errors.{old_form}
use Rattle.format.specs.Layout.{form_width, first_form, tag_width, symbol_width, variable_width}
use Rattle.format.specs.Reading.{bit_at}
use Rattle.format.specs.Reading.Reading.{got, fault}
use Rattle.format.specs.Format.{RuleFile, system_of}
use Rattle.format.specs.Files.{read_bytes_in, read_bytes}
use Rattle.format.specs.Packing.{Item, items}
use Rattle.format.specs.Packing.Item.{field, node}
use Rattle.operations.specs.Replies.Reply.{accepted}
use Rattle.operations.specs.Marking.{marks_of, margins_of, summary_of}
use Rattle.operations.specs.Converting.{converted}
use Rattle.guarantees.specs.Guarantees.{Holds}

-- The book reads as document 01 did, and holds that file.
abbrev pub HeldBefore : List ℕ → RuleFile → Type 0
HeldBefore bytes file = (at : ℕ) × (read_bytes_in first_form bytes ≡ got file at)

-- No operation but the converter reads it.
abbrev pub OldBooksRefused : Type 0
OldBooksRefused = (bytes : List ℕ) (file : RuleFile) → HeldBefore bytes file → read_bytes bytes ≡ fault old_form 0

-- ---- what is converted

-- The rule with its variables renamed, one to one.
pub record Renamed (r r' : Rule) : Type 0 where
  pub renaming : ℕ → ℕ
  pub one_to_one : OneToOneOn renaming r.left r.right
  pub renamed : r' ≡ rename_rule renaming r

-- The same, and in order of first use.
pub record Renumbered (r r' : Rule) : Type 0 where
  pub renamed : Renamed r r'
  pub in_turn : in_order (rule_words r') ≡ true

-- As many rules, each related to the one at its place.
pub data Each (R : Rule → Rule → Type 0) : List Rule → List Rule → Type 0 where
  none : Each R [] []
  more : {r r' : Rule} {rs rs' : List Rule} → R r r' → Each R rs rs' → Each R (r ∷ rs) (r' ∷ rs')

-- Whether each bit of an item is one of a variable's number.
abbrev pub number_bits : Item → List Bool
number_bits (field width v) = replicate width false
number_bits (node w) =
    cond (ltb w first_variable)
    (replicate (tag_width + symbol_width) false)
    (replicate tag_width false ++ replicate variable_width true)

-- Whether each bit of a file of form 1 is one of the form, or of a variable's number.
abbrev pub converted_bits : RuleFile → List Bool
converted_bits file = replicate form_width true ++ flat_map number_bits (drop 1 (items file))

-- The new book beside the old one: what it holds, and what is unchanged.
pub record Conversion (bytes book : List ℕ) (old new : RuleFile) : Type 0 where
  pub holds : Holds book new
  pub signature : new.signature ≡ old.signature
  pub rules : Each Renumbered (system_of old).rules (system_of new).rules
  pub bits : (i : ℕ) → get_or (converted_bits old) i false ≡ false → bit_at book i ≡ bit_at bytes i
  pub marks : marks_of (system_of new) ≡ marks_of (system_of old)
  pub margins : margins_of (system_of new) ≡ margins_of (system_of old)
  -- The count of rules, of those that fall, and the score.
  pub summary : summary_of (marks_of (system_of new)) ≡ summary_of (marks_of (system_of old))

-- Every book that reads as document 01 did converts, into an output with room, to a book as long that reads now.
abbrev pub OldBooksConvert : Type 0
OldBooksConvert = (bytes output : List ℕ) (old : RuleFile) → ((i : ℕ) → get_or bytes i 0 < 256) → HeldBefore bytes old →
    length bytes ≤ length output →
    ((converted bytes output).reply ≡ accepted (length bytes)) ×
    (new : RuleFile) × Conversion bytes (take (length bytes) (converted bytes output).output) old new

-- ---- what is converted alike

-- Two books that differ in a one-to-one renaming of the variables of each rule alone convert to the same bytes; or both
-- are refused, for want of room.
abbrev pub RenamedBooksAgree : Type 0
RenamedBooksAgree = (bytes bytes' output : List ℕ) (file file' : RuleFile) →
    ((i : ℕ) → get_or bytes i 0 < 256) → ((i : ℕ) → get_or bytes' i 0 < 256) → HeldBefore bytes file →
    HeldBefore bytes' file' → file'.signature ≡ file.signature →
    Each Renamed (system_of file).rules (system_of file').rules →
    converted bytes output ≡ converted bytes' output

-- The bytes with the form, the upper half of the first, that document 01 asked for.
abbrev pub in_first_form : List ℕ → List ℕ
in_first_form [] = []
in_first_form (b ∷ bytes) = (16 * first_form + b % 16) ∷ bytes

-- A book that reads now converts to itself, once its first byte says form 1, unless a unary symbol of it weighs 0,
-- which document 01 refused.
abbrev pub NewBooksKept : Type 0
NewBooksKept = (bytes output : List ℕ) (file : RuleFile) → ((i : ℕ) → get_or bytes i 0 < 256) → Holds bytes file →
    NoZeroWeightUnary file.signature → length bytes ≤ length output →
    ((converted (in_first_form bytes) output).reply ≡ accepted (length bytes)) ×
    (take (length bytes) (converted (in_first_form bytes) output).output ≡ bytes)
