-- The theorems of renumbering by first use, as types; what it keeps of the order is in the crate theory. The proofs
-- stand in proofs/Theorems.antt.
-- Renders: 02, order 4: "within a rule a variable's first appearance, left side first, must take the lowest unused
-- number", and that rules which differ in their variables' numbers alone become one.
use mathlib.Core.List.{List, map, Memᴰ}
use Rattle.std.specs.Prelude.{◌≡◌, true, ℕ, ◌+◌, ◌≤◌, ◌<◌, length}
use Rattle.terms.specs.Signature.{Signature}
use Rattle.terms.specs.Term.{Term, WellFormed}
use Rattle.terms.specs.Words.{first_variable, words}
use Rattle.terms.specs.Rewriting.{Rule}
use Rattle.terms.specs.Renaming.{rename, OneToOneOn}
use Rattle.terms.specs.FirstUse.{in_order, first_uses, place_in, rename_word, renumbered, OneToOneOnWords}
use Rattle.terms.specs.FirstUse.{rename_rule, rule_words, renumbered_rule}

-- ---- node words

-- Different variables get different numbers, below their count.
pub record NumberedApart (ws : List ℕ) : Type 0 where
  pub one_to_one : OneToOneOnWords (place_in (first_uses ws)) ws
  pub below : (x : ℕ) → Memᴰ (first_variable + x) ws → place_in (first_uses ws) x < length (first_uses ws)

abbrev pub NumbersApart : Type 0
NumbersApart = (ws : List ℕ) → NumberedApart ws

-- Renumbered words are in order, and words in order are unchanged: renumbering again changes nothing.
abbrev pub RenumberedInOrder : Type 0
RenumberedInOrder = (ws : List ℕ) → in_order (renumbered ws) ≡ true

abbrev pub InOrderUnchanged : Type 0
InOrderUnchanged = (ws : List ℕ) → in_order ws ≡ true → renumbered ws ≡ ws

abbrev pub RenumberedAgain : Type 0
RenumberedAgain = (ws : List ℕ) → renumbered (renumbered ws) ≡ renumbered ws

-- Words that differ by a renaming that is one to one become the same.
abbrev pub RenamingsAgree : Type 0
RenamingsAgree = (ρ : ℕ → ℕ) (ws : List ℕ) → OneToOneOnWords ρ ws → renumbered (map (rename_word ρ) ws) ≡ renumbered ws

-- ---- terms and rules

module _ (σ : Signature) where
  -- A symbol's word is no variable's.
  abbrev pub FewSymbols : Type 0
  FewSymbols = length σ.symbols ≤ first_variable

  abbrev pub WordsRenamed : Type 0
  WordsRenamed =
      FewSymbols → (ρ : ℕ → ℕ) (t : Term) → WellFormed σ t → words (rename ρ t) ≡ map (rename_word ρ) (words t)

  abbrev pub ForRules : (Rule → Type 0) → Type 0
  ForRules P = FewSymbols → (r : Rule) → WellFormed σ r.left → WellFormed σ r.right → P r

  -- The renumbered node words are those of the renumbered rule.
  abbrev pub RuleWordsRenumbered : Type 0
  RuleWordsRenumbered = ForRules λ r. rule_words (renumbered_rule r) ≡ renumbered (rule_words r)

  -- As of node words.
  abbrev pub RuleRenumberedAgain : Type 0
  RuleRenumberedAgain = ForRules λ r. renumbered_rule (renumbered_rule r) ≡ renumbered_rule r

  abbrev pub RuleRenamingsAgree : Type 0
  RuleRenamingsAgree =
      ForRules λ r. (ρ : ℕ → ℕ) → OneToOneOn ρ r.left r.right →
      renumbered_rule (rename_rule ρ r) ≡ renumbered_rule r

abbrev pub RuleInOrderUnchanged : Type 0
RuleInOrderUnchanged = (r : Rule) → in_order (rule_words r) ≡ true → renumbered_rule r ≡ r
