-- Terms with their variables renamed, and what is asked of a renaming.
-- Renders: 02, order 4: "one rule with different variable numbers" and "a converter, which renumbers".
use Rattle.std.specs.Prelude.{◌≡◌, ℕ, ◌+◌, ◌<◌}
use Rattle.terms.specs.Term.{Term, Terms, occurrences, variable_count}
use Rattle.terms.specs.Term.Term.{var, app}
use Rattle.terms.specs.Term.Terms.{nil, cons}

-- Each variable under its new number, all else unchanged.
abbrev mutual
  pub rename : (ℕ → ℕ) → Term → Term
  rename ρ (var x) = var (ρ x)
  rename ρ (app f ts) = app f (renames ρ ts)

  pub renames : (ℕ → ℕ) → Terms → Terms
  renames ρ nil = nil
  renames ρ (cons t ts) = cons (rename ρ t) (renames ρ ts)

-- The variable occurs in one of the two terms.
abbrev pub OccursIn : Term → Term → ℕ → Type 0
OccursIn s t x = 0 < occurrences x s + occurrences x t

-- Different variables of the two terms get different numbers.
abbrev pub OneToOneOn : (ℕ → ℕ) → Term → Term → Type 0
OneToOneOn ρ s t = (x y : ℕ) → OccursIn s t x → OccursIn s t y → ρ x ≡ ρ y → x ≡ y

-- Each variable of the two terms gets a number that a variable may have.
abbrev pub WithinCount : (ℕ → ℕ) → Term → Term → Type 0
WithinCount ρ s t = (x : ℕ) → OccursIn s t x → ρ x < variable_count
