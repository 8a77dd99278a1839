-- Laws of picking the greater of two terms.
--     front-size       a term at the front of words has a word for each node
--     picked-read, picked-accepted     by the terms that were read
--     picked-within    the count of words is within the slice, and at most 128
use mathlib.Core.List.{List}
use mathlib.Core.Path.{◌≡◌, refl, sym, ap, ◌∙◌}
use mathlib.Core.Bool.{false≢true}
use Prim.Native.Nat.{ℕ, ◌≤◌}
use native.Mathlib.Omega.{arith}
use lib.ListN.{length}
use Rattle.terms.specs.Signature.{Signature}
use Rattle.terms.specs.Term.{size}
use Rattle.terms.specs.Words.{term_of}
use Rattle.terms.proofs.WordsLaws.{length-words}
use Rattle.format.specs.Layout.{max_nodes}
use Rattle.format.specs.Reading.Reading.{got}
use Rattle.format.specs.Files.{read_first_term}
use Rattle.format.specs.Statements.{IsTerm}
use Rattle.format.proofs.Theorems.{read-term-well-formed}
use Rattle.operations.specs.declared.Relation.{Relation}
use Rattle.operations.specs.declared.Relation.TheVariants as relation
use Rattle.operations.specs.declared.GreaterSide.{GreaterSide}
use Rattle.operations.specs.declared.GreaterSide.TheVariants.{Left, Right, Equivalent, Unrelated}
use Rattle.operations.specs.Replies.{Reply, ◌>>=◌}
use Rattle.operations.specs.Replies.Reply.{accepted, refused}
use Rattle.operations.specs.Inputs.{Inputs, read_inputs}
use Rattle.operations.specs.Comparing.{relation}
use Rattle.operations.specs.Picking.{side_of, greater_side, picked}
use Rattle.operations.proofs.InputLaws.{is_accepted, inputs_read}

pub front-size : (σ : Signature) (ws : List ℕ) → IsTerm σ ws → size (term_of σ ws) ≡ length ws
front-size σ ws t = sym (ap length t.spelled ∙ length-words (term_of σ ws))

-- A count of words that is within a slice.
abbrev pub Room : ℕ → ℕ → Type 0
Room room n = (n ≤ room) × (n ≤ max_nodes)

abbrev pub SideWithin : ℕ → ℕ → GreaterSide → Type 0
SideWithin l r (Left n) = Room l n
SideWithin l r (Right n) = Room r n
SideWithin l r Equivalent = Unit {0}
SideWithin l r Unrelated = Unit {0}

front-within : (σ : Signature) (input nodes : List ℕ) (end : ℕ) → read_first_term σ input ≡ got nodes end →
    Room (length input) (size (term_of σ nodes))
front-within σ input nodes end e =
    let (front, count, term, within, light) = (read-term-well-formed σ input nodes end).0 e in
    let s = front-size σ nodes term in
    (omega arith, omega (arith, term.short))

side-within : (l r m n : ℕ) → Room l m → Room r n → (x : Relation) → SideWithin l r (side_of x m n)
side-within l r m n a b relation.Greater = a
side-within l r m n a b relation.Less = b
side-within l r m n a b relation.Equivalent = tt
side-within l r m n a b relation.Unrelated = tt

module _ (bytes left right : List ℕ) where
  -- What was picked, was picked of two terms that were read.
  pub picked-read : (s : GreaterSide) → picked bytes left right ≡ accepted s →
      (i : Inputs) × (read_inputs read_first_term bytes left right ≡ accepted i) × (s ≡ greater_side i)
  unfolding picked
  picked-read s = go (read_inputs read_first_term bytes left right)
    where
      go : (r : Reply Inputs) → (◌>>=◌ r λ (i : Inputs). accepted (greater_side i)) ≡ accepted s →
          (i : Inputs) × (r ≡ accepted i) × (s ≡ greater_side i)
      go (accepted i) e = (i, refl, cc)
      go (refused e) h = absurd (false≢true (ap is_accepted h))

  pub picked-accepted : (i : Inputs) → read_inputs read_first_term bytes left right ≡ accepted i →
      picked bytes left right ≡ accepted (greater_side i)
  unfolding picked
  picked-accepted i e = rw e

  pub picked-within : (s : GreaterSide) → picked bytes left right ≡ accepted s →
      SideWithin (length left) (length right) s
  picked-within s e =
      let (i, read, same) = picked-read s e in
      let p = inputs_read read_first_term bytes left right i read in
      let σ = p.file.signature in
      rw (same, p.inputs)
      (side-within (length left) (length right) (size (term_of σ p.left_words)) (size (term_of σ p.right_words))
      (front-within σ left p.left_words p.left_end p.left_read)
      (front-within σ right p.right_words p.right_end p.right_read)
      (relation σ (term_of σ p.left_words) (term_of σ p.right_words)))
