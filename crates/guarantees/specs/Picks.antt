-- What a reader may rely on of picking the greater side. Proofs: proofs/Theorems.antt.
-- Renders: 02, order 1: "the greater side is handed back as a part of the caller's own words. Each slice may have words
-- after its term"; "The part is empty if neither side is greater or an input is refused."
use Rattle.std.specs.Prelude.{List, [], ◌++◌, ◌↔◌, ◌≡◌, true, ℕ, ◌≤◌}
use Rattle.terms.specs.Signature.{Signature}
use Rattle.terms.specs.Term.{Term, size, WellFormed}
use Rattle.terms.specs.Words.{words}
use Rattle.terms.specs.Order.{is_greater}
use Rattle.format.specs.Layout.{max_nodes}
use Rattle.format.specs.Format.{RuleFile}
use Rattle.operations.specs.Replies.{Error}
use Rattle.operations.specs.declared.GreaterSide.{GreaterSide}
use Rattle.operations.specs.declared.GreaterSide.TheVariants.{Left, Right, Equivalent, Unrelated}
use Rattle.operations.specs.Replies.{Reply}
use Rattle.operations.specs.Replies.Reply.{accepted, refused}
use Rattle.operations.specs.Comparing.{relation, comparison, compared}
use Rattle.operations.specs.Picking.{side_of, picked, greater_part}
use Rattle.guarantees.specs.Guarantees.{Holds}

-- The words begin with those of a term that can be read.
pub record Begins (σ : Signature) (input : List ℕ) (t : Term) : Type 0 where
  pub well_formed : WellFormed σ t
  pub short : size t ≤ max_nodes
  pub rest : List ℕ
  pub spelled : input ≡ words t ++ rest

-- The two terms of a call, under the book's signature.
pub record Called (bytes left right : List ℕ) (file : RuleFile) (s t : Term) : Type 0 where
  pub holds : Holds bytes file
  pub left_begins : Begins file.signature left s
  pub right_begins : Begins file.signature right t

-- Neither side is greater, or an input is refused.
pub data NoSide : Reply GreaterSide → Type 0 where
  equivalent : NoSide (accepted Equivalent)
  unrelated : NoSide (accepted Unrelated)
  refusal : {e : Error} → NoSide (refused e)

-- Which side is said is which side is handed back, and it is the greater one.
pub data Handed (bytes left right : List ℕ) : Type 0 where
  of_left : {file : RuleFile} {s t : Term} → Called bytes left right file s t → is_greater file.signature s t ≡ true →
      picked bytes left right ≡ accepted (Left (size s)) → greater_part bytes left right ≡ words s →
      Handed bytes left right
  of_right : {file : RuleFile} {s t : Term} → Called bytes left right file s t → is_greater file.signature t s ≡ true →
      picked bytes left right ≡ accepted (Right (size t)) → greater_part bytes left right ≡ words t →
      Handed bytes left right
  of_neither : NoSide (picked bytes left right) → greater_part bytes left right ≡ [] → Handed bytes left right

-- Every call hands back the greater term's own words, or nothing.
abbrev pub PartIsGreater : Type 0
PartIsGreater = (bytes left right : List ℕ) → Handed bytes left right

-- The part is empty exactly if neither side is greater or an input is refused.
abbrev pub PartEmpty : Type 0
PartEmpty = (bytes left right : List ℕ) → (greater_part bytes left right ≡ []) ↔ NoSide (picked bytes left right)

-- Words after the terms play no part.
abbrev pub WordsAfterIgnored : Type 0
WordsAfterIgnored = (bytes left left' right right' : List ℕ) (file : RuleFile) (s t : Term) →
    Called bytes left right file s t → Called bytes left' right' file s t →
    (picked bytes left right ≡ picked bytes left' right') ×
    (greater_part bytes left right ≡ greater_part bytes left' right')

-- With nothing after the terms the companion says left, right, AC-equal, unrelated exactly where comparing says greater,
-- less, AC-equal, unrelated.
abbrev pub PicksAsCompared : Type 0
PicksAsCompared = (bytes : List ℕ) (file : RuleFile) (s t : Term) → Called bytes (words s) (words t) file s t →
    (compared bytes (words s) (words t) ≡ accepted (comparison file.signature s t)) ×
    (picked bytes (words s) (words t) ≡ accepted (side_of (relation file.signature s t) (size s) (size t)))
