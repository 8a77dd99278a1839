-- What a reader may rely on, over the definitions that the operations' contracts cite. Proofs: proofs/Theorems.antt.
-- Renders: demand 3, with 01's "Rewrite steps and like comparisons"; demand 2, "Each mark is given exactly when its own
-- condition holds", 'falls' being Definition 5.1 of 000; 02, orders 2, 3 and 8: "For a book with a wrapper, users rely
-- on the strict fall of every step; the ceiling on steps is kept for books without one."
use Rattle.std.specs.Prelude.{List, ◌↔◌, ◌≡◌, true, false, ℕ, suc, ◌-◌, ◌*◌, ◌^◌, ◌<◌, length, get_or, take}
use Rattle.terms.specs.Signature.{Signature, NoZeroWeightUnary}
use Rattle.terms.specs.Term.{Term, weight, WellFormed, Expression}
use Rattle.terms.specs.Term.Term.{var}
use Rattle.terms.specs.Words.{words}
use Rattle.terms.specs.Equivalence.{Equivalent}
use Rattle.terms.specs.Order.{is_greater}
use Rattle.terms.specs.Marks.{is_decreasing, Marked}
use Rattle.terms.specs.Article.{Greater}
use Rattle.terms.specs.Rewriting.{Rule, Context, fill, ExpressionContext, Step, Derivation, step_count, along}
use Rattle.terms.specs.Rewriting.{StronglySorted, AllDecreasing}
use Rattle.format.specs.Reading.Reading.{got}
use Rattle.format.specs.Format.{RuleFile, system_of}
use Rattle.format.specs.Files.{read_bytes}
use Rattle.operations.specs.Replies.Reply.{accepted}
use Rattle.operations.specs.Comparing.{compared}
use Rattle.operations.specs.Hashing.{fingerprinted}
use Rattle.operations.specs.Variables.{oftener}
use Rattle.operations.specs.declared.Summary.{Summary}
use Rattle.operations.specs.Marking.{decreasing_count, marked}

-- 01: the book is readable, and holds that file.
abbrev pub Holds : List ℕ → RuleFile → Type 0
Holds bytes file = (at : ℕ) × (read_bytes bytes ≡ got file at)

-- ---- (a) the order on expressions

pub record OrderOnExpressions (σ : Signature) : Type 0 where
  -- Also up to AC-equality.
  pub irreflexive : (s t : Term) → Expression σ s → Expression σ t → Equivalent σ s t → is_greater σ s t ≡ false
  pub transitive : (s t u : Term) → Expression σ s → Expression σ t → Expression σ u → is_greater σ s t ≡ true →
      is_greater σ t u ≡ true → is_greater σ s u ≡ true
  -- 01: kept by contexts.
  pub closed : (c : Context) (s t : Term) → ExpressionContext σ c → Expression σ s → Expression σ t →
      is_greater σ s t ≡ true → is_greater σ (fill c s) (fill c t) ≡ true

abbrev pub ReadableOrder : Type 0
ReadableOrder = (bytes : List ℕ) (file : RuleFile) → Holds bytes file → OrderOnExpressions file.signature

-- ---- (b) and (c) lists of steps

module _ (file : RuleFile) where
  -- Every expression along a list of steps is greater than each later one.
  abbrev pub Descends : Type 0
  Descends = (s t : Term) (d : Derivation (system_of file) s t) → Expression file.signature s →
      StronglySorted (λ (u v : Term). is_greater file.signature u v ≡ true) (along (system_of file) d)

  -- A list of steps from an expression of weight W, over K symbols, has fewer than (K + 1)^(2 W - 1) steps.
  abbrev pub Bounded : Type 0
  Bounded = (s t : Term) (d : Derivation (system_of file) s t) → Expression file.signature s →
      step_count (system_of file) d < suc (length file.signature.symbols) ^ (2 * weight file.signature s - 1)

-- 01: for any readable book all of whose rules fall. 02, order 8: also for one with a wrapper, of every step, and so of
-- every list of steps.
abbrev pub StepsFall : Type 0
StepsFall = (bytes : List ℕ) (file : RuleFile) → Holds bytes file → AllDecreasing (system_of file) →
    (s t : Term) → Step (system_of file) s t → is_greater file.signature s t ≡ true

abbrev pub FilesDescend : Type 0
FilesDescend = (bytes : List ℕ) (file : RuleFile) → Holds bytes file → AllDecreasing (system_of file) → Descends file

-- Of any such book, with a wrapper or without: no list of steps goes on for ever.
abbrev pub FilesTerminate : Type 0
FilesTerminate = (bytes : List ℕ) (file : RuleFile) → Holds bytes file → AllDecreasing (system_of file) →
    (s : ℕ → Term) → ((n : ℕ) → Step (system_of file) (s n) (s (suc n))) → ⊥

-- The ceiling is for books without a wrapper.
abbrev pub FilesBounded : Type 0
FilesBounded = (bytes : List ℕ) (file : RuleFile) → Holds bytes file → NoZeroWeightUnary file.signature →
    AllDecreasing (system_of file) → Bounded file

-- The count of falling rules that marking gives is the count of rules.
pub record CountedAll (bytes : List ℕ) : Type 0 where
  pub marks : List ℕ
  pub summary : Summary
  pub reply : (marked bytes marks).reply ≡ accepted summary
  pub all : summary.decreasing ≡ summary.rules

-- All rules of a book fall exactly if marking counts as many.
abbrev pub CountTells : Type 0
CountTells = (bytes : List ℕ) (file : RuleFile) → Holds bytes file → CountedAll bytes ↔ AllDecreasing (system_of file)

-- ---- (d) like comparisons

-- 01: the same words, or AC-equal terms, of any size.
pub data Like (σ : Signature) : List ℕ → List ℕ → Type 0 where
  same_words : {ws : List ℕ} → Like σ ws ws
  equal_terms : {s t : Term} → WellFormed σ s → WellFormed σ t → Equivalent σ s t → Like σ (words s) (words t)

-- Lent the same bytes, and like terms where these are a readable book, comparing replies the same.
abbrev pub LikeComparisonsAgree : Type 0
LikeComparisonsAgree = (bytes left left' right right' : List ℕ) →
    ((file : RuleFile) → Holds bytes file → Like file.signature left left' × Like file.signature right right') →
    compared bytes left right ≡ compared bytes left' right'

-- 02, order 2: "AC-equal terms always agree". Lent the same bytes, and a like term where these are a readable book, the
-- fingerprint or the refusal is the same.
abbrev pub LikeFingerprintsAgree : Type 0
LikeFingerprintsAgree = (bytes term term' : List ℕ) →
    ((file : RuleFile) → Holds bytes file → Like file.signature term term') →
    fingerprinted bytes term ≡ fingerprinted bytes term'

-- 02, order 3: like inputs get the same variable, or the same refusal.
abbrev pub LikeVariableTestsAgree : Type 0
LikeVariableTestsAgree = (bytes left left' right right' : List ℕ) →
    ((file : RuleFile) → Holds bytes file → Like file.signature left left' × Like file.signature right right') →
    oftener bytes left right ≡ oftener bytes left' right'

-- ---- (e) marks

-- The mark's own condition holds, no other's does, and it is one of those that count as falling exactly if the left
-- side is greater by the article.
pub record ExactMark (σ : Signature) (r : Rule) (m : ℕ) : Type 0 where
  pub holds : (k : ℕ) → Marked σ k r.left r.right ↔ (m ≡ k)
  pub decreasing : (is_decreasing m ≡ true) ↔ Greater σ r.left r.right

abbrev pub MarksExact : Type 0
MarksExact = (bytes marks : List ℕ) (file : RuleFile) (summary : Summary) → Holds bytes file →
    (marked bytes marks).reply ≡ accepted summary → (i : ℕ) → i < length file.rules →
    ExactMark file.signature (get_or (system_of file).rules i (record { left = var 0; right = var 0 }))
    (get_or (marked bytes marks).output i 0)

-- The falling count counts the marks 1 to 6 and 11 that were written, one for each rule.
abbrev pub FallingCounted : Type 0
FallingCounted = (bytes marks : List ℕ) (file : RuleFile) (summary : Summary) → Holds bytes file →
    (marked bytes marks).reply ≡ accepted summary →
    (summary.rules ≡ length file.rules) ×
    (summary.decreasing ≡ decreasing_count (take (length file.rules) (marked bytes marks).output))
