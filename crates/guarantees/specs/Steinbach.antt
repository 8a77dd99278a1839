-- Comparing, under a book whose AC symbol is ranked lowest of all, answers what Steinbach's order says.
-- Renders: 02, order 7: "For a book with one AC symbol, ranked lowest of all, show that both orders, over document 01's
-- bag comparison, say the same of every pair of terms, variables included."
use Rattle.std.specs.Prelude.{List, ◌↔◌, ◌≡◌, ℕ, ◌≤◌, ℤ}
use Rattle.terms.specs.Signature.{Signature}
use Rattle.terms.specs.Term.{Term, size, WellFormed}
use Rattle.terms.specs.Words.{words}
use Rattle.terms.specs.Equivalence.{Equivalent}
use Rattle.terms.specs.Steinbach.{SteinbachGreater}
use Rattle.theory.specs.SteinbachStatements.{AcLowest}
use Rattle.format.specs.Layout.{max_nodes}
use Rattle.format.specs.Format.{RuleFile}
use Rattle.operations.specs.declared.Relation.{Relation}
use Rattle.operations.specs.declared.Relation.TheVariants as said
use Rattle.operations.specs.Replies.Reply.{accepted}
use Rattle.operations.specs.Comparing.{relation, compared}
use Rattle.guarantees.specs.Guarantees.{Holds}

-- What each relation says of two terms, for an order P. 01: unrelated is none of the three.
abbrev pub Says : (σ : Signature) (P : Term → Term → Type 0) → Relation → Term → Term → Type 0
Says σ P said.Greater s t = P s t
Says σ P said.Less s t = P t s
Says σ P said.Equivalent s t = Equivalent σ s t
Says σ P said.Unrelated s t = (P s t → ⊥) × (P t s → ⊥) × (Equivalent σ s t → ⊥)

-- Comparing replies with that relation, and a margin.
abbrev pub Replies : List ℕ → List ℕ → List ℕ → Relation → Type 0
Replies bytes left right r = (m : ℤ) × (compared bytes left right ≡ accepted (record { relation = r; margin = m }))

-- Of terms of any size, the relation is the one that Steinbach's order says.
abbrev pub RelationAsSteinbach : Type 0
RelationAsSteinbach = (bytes : List ℕ) (file : RuleFile) → Holds bytes file → AcLowest file.signature →
    (s t : Term) → WellFormed file.signature s → WellFormed file.signature t → (r : Relation) →
    relation file.signature s t ≡ r ↔ Says file.signature (SteinbachGreater file.signature) r s t

-- So comparing the words of terms of at most 128 nodes replies with a relation exactly if Steinbach's order says it.
abbrev pub ComparesAsSteinbach : Type 0
ComparesAsSteinbach = (bytes : List ℕ) (file : RuleFile) → Holds bytes file → AcLowest file.signature →
    (s t : Term) → WellFormed file.signature s → WellFormed file.signature t → size s ≤ max_nodes →
    size t ≤ max_nodes → (r : Relation) →
    Replies bytes (words s) (words t) r ↔ Says file.signature (SteinbachGreater file.signature) r s t
