-- How many nodes a filling has.
-- Renders: 02, request 14: "with at most 24 nodes".
use Rattle.std.specs.Prelude.{Bool, cond, ℕ, suc, ◌+◌}
use Rattle.terms.specs.Term.{Term, Terms, size}
use Rattle.terms.specs.Term.Term.{var, app}
use Rattle.terms.specs.Term.Terms.{nil, cons}
use Rattle.terms.specs.Bunch.{Bunch}
use Rattle.terms.specs.Bunch.Bunch.{empty, full}
use Rattle.terms.specs.Rewriting.{Substitution}

-- One more than the nodes of what is joined.
abbrev pub bunch_size : Bunch → ℕ
bunch_size empty = 0
bunch_size (full t) = suc (size t)

-- How many shared variables a pattern has.
module _ (shared : ℕ → Bool) where
  abbrev mutual
    pub shared_count : Term → ℕ
    shared_count (var x) = cond (shared x) 1 0
    shared_count (app g ts) = shared_counts ts

    pub shared_counts : Terms → ℕ
    shared_counts nil = 0
    shared_counts (cons t ts) = shared_count t + shared_counts ts

  -- The nodes of a pattern, with what is put for the variables that are not shared.
  module _ (τ : Substitution) where
    abbrev mutual
      pub own_size : Term → ℕ
      own_size (var x) = cond (shared x) 0 (size (τ x))
      own_size (app g ts) = 1 + own_sizes ts

      pub own_sizes : Terms → ℕ
      own_sizes nil = 0
      own_sizes (cons t ts) = own_size t + own_sizes ts
