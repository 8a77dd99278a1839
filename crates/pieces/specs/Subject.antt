-- The term that is to be simplified.
use Rattle.std.specs.Prelude.{List, ◌≡◌, ℕ, ◌≤◌, length}
use Rattle.terms.specs.Signature.{Signature, Admissible}
use Rattle.terms.specs.Term.{Term, Expression}
use Rattle.terms.specs.Words.{first_variable, words}
use Rattle.simplifying.specs.Canonical.{Arranged}

-- The words are those of an arranged expression over an admissible signature.
pub record Subject (σ : Signature) (ws : List ℕ) : Type 0 where
  pub admissible : Admissible σ
  pub few : length σ.symbols ≤ first_variable
  pub term : Term
  pub spelled : ws ≡ words term
  pub expression : Expression σ term
  pub arranged : Arranged σ term
