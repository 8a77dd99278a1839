-- What a reviewer may rely on of comparing what is left once a common part is struck. Proofs:
-- proofs/CancellationTheorems.antt.
-- Renders: 02, order 11: "for variable-free terms this never changes the comparison's relation, wrapper books included,
-- and that such terms are never unrelated"; "so of the operation where neither joined term meets 10 [..]".
use Rattle.std.specs.Prelude.{List, ℕ, ◌≤◌}
use Rattle.terms.specs.Term.{Term, size, Expression}
use Rattle.terms.specs.Words.{words}
use Rattle.terms.specs.Equivalence.{Equivalent}
use Rattle.theory.specs.CancellingStatements.{IsAc, Joined, LeftOf, Element, Struck}
use Rattle.format.specs.Layout.{max_nodes}
use Rattle.format.specs.Format.{RuleFile}
use Rattle.operations.specs.declared.Relation.{Relation}
use Rattle.operations.specs.declared.Relation.TheVariants as said
use Rattle.guarantees.specs.Guarantees.{Holds}
use Rattle.guarantees.specs.Steinbach.{Replies}

-- Comparing s and t, and comparing s' and t', replies with one relation.
pub record RepliesAlike (bytes : List ℕ) (s t s' t' : Term) : Type 0 where
  pub relation : Relation
  pub before : Replies bytes (words s) (words t) relation
  pub after : Replies bytes (words s') (words t') relation

-- Two expressions that are read: of at most 128 nodes.
pub record AreRead (file : RuleFile) (s t : Term) : Type 0 where
  pub left : Expression file.signature s
  pub right : Expression file.signature t
  pub left_short : size s ≤ max_nodes
  pub right_short : size t ≤ max_nodes

abbrev pub NeverUnrelated : Type 0
NeverUnrelated = (bytes : List ℕ) (file : RuleFile) → Holds bytes file → (s t : Term) → AreRead file s t →
    Replies bytes (words s) (words t) said.Unrelated → ⊥

-- Under a readable book, for an AC symbol f of it: a part u of s and an AC-equal part u' of t.
pub record CommonPart (bytes : List ℕ) (file : RuleFile) (f : ℕ) (u u' : Term) : Type 0 where
  pub holds : Holds bytes file
  pub ac : IsAc file.signature f
  pub part : Expression file.signature u
  pub equivalent : Equivalent file.signature u u'

module _ (bytes : List ℕ) (file : RuleFile) (f : ℕ) (u u' : Term) where
  -- An operand struck from two joined terms, on whichever side of each it stands.
  abbrev pub OperandStruck : Type 0
  OperandStruck = CommonPart bytes file f u u' → (s t s' t' : Term) → AreRead file s t →
      Joined file.signature f s' u s → Joined file.signature f t' u' t → RepliesAlike bytes s t s' t'

  -- Any part of the bags struck, where something is left on both sides: s' and t', any expressions with those bags.
  abbrev pub PartStruck : Type 0
  PartStruck = CommonPart bytes file f u u' → (s t s' t' : Term) → AreRead file s t →
      Expression file.signature s' → Expression file.signature t' → LeftOf file.signature f s u s' →
      LeftOf file.signature f t u' t' → RepliesAlike bytes s t s' t'

  -- One element of the bags struck, at whatever places it stands.
  abbrev pub ElementStruck : Type 0
  ElementStruck = CommonPart bytes file f u u' → (s t s' t' : Term) → AreRead file s t →
      Expression file.signature s' → Expression file.signature t' → (i : Element file.signature f s u)
      (j : Element file.signature f t u') → Struck file.signature f i s' → Struck file.signature f j t' →
      RepliesAlike bytes s t s' t'

  -- Where the part is the whole of one side, u', and something of the other, s, is left.
  abbrev pub WholeSideStruck : Type 0
  WholeSideStruck = CommonPart bytes file f u u' → (s s' : Term) → AreRead file s u' →
      Expression file.signature s' → LeftOf file.signature f s u s' →
      Replies bytes (words s) (words u') said.Greater × Replies bytes (words u') (words s) said.Less

  -- Where it is the whole of both sides.
  abbrev pub BothSidesStruck : Type 0
  BothSidesStruck = CommonPart bytes file f u u' → AreRead file u u' →
      Replies bytes (words u) (words u') said.Equivalent
