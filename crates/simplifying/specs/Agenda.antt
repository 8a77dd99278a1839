-- Matching along a pattern's words: an agenda of the terms that are yet to be matched, as a program keeps it.
-- Renders: 02, request 14, as specs/Matching.antt does.
use mathlib.Core.List.{List, [], ◌∷◌, ◌++◌, map, flat_map}
use Rattle.std.specs.Prelude.{cond, ℕ, ◌-◌, ltb}
use Rattle.terms.specs.Signature.{Signature}
use Rattle.terms.specs.Term.{Term, Terms, row}
use Rattle.terms.specs.Words.{first_variable}
use Rattle.simplifying.specs.Matching.{Bindings, groupings, bind}

-- The terms that are yet to be matched, and what is bound so far.
pub record Agenda : Type 0 where
  pub pending : List Term
  pub bindings : Bindings

abbrev pub agenda : List Term → Bindings → Agenda
agenda ts b = record { pending = ts; bindings = b }

module _ (σ : Signature) where
  -- A variable takes the first term; a symbol takes it in each of its groupings, and calls for the arguments.
  abbrev pub advance : ℕ → List Term → Bindings → List Agenda
  advance w [] b = []
  advance w (t ∷ ts) b =
      let x = w - first_variable in
      cond (ltb w first_variable)
      (map (λ (us : Terms). agenda (row us ++ ts) b) (groupings σ w t))
      (map (λ (c : Bindings). agenda ts c) (bind σ x t b (b x)))

  -- Word by word.
  unfoldable pub follows : List ℕ → Agenda → List Agenda
  follows [] a = a ∷ []
  follows (w ∷ ws) a = flat_map (follows ws) (advance w a.pending a.bindings)
