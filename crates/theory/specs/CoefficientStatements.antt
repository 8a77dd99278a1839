-- The theorem of coefficients that are all 1, as a type. Its proof stands in proofs/Theorems.antt.
-- Renders: 02, order 9: "Form 2 reads as all ones".
use Rattle.std.specs.Prelude.{[], map, ◌≡◌, ℕ}
use Rattle.terms.specs.Signature.{Symbol, Signature, Ones}
use Rattle.terms.specs.Term.{Term, occurrences, weight, variable_coefficient}
use Rattle.terms.specs.Order.{is_greater, mark}
use Rattle.terms.specs.Steinbach.{plain_weight}

abbrev pub without_coefficients : Signature → Signature
without_coefficients σ = record {
  w0 = σ.w0;
  symbols =
      map (λ (s : Symbol). record {
        arity = s.arity;
        ac = s.ac;
        weight = s.weight;
        precedence = s.precedence;
        coefficients = [];
      }) σ.symbols;
}

module _ (σ : Signature) where
  -- The weight of 01 and the number of occurrences, and the order and the mark as they are without coefficients.
  pub record Unchanged (s t : Term) : Type 0 where
    pub weight : weight σ t ≡ plain_weight σ t
    pub occurrences : (x : ℕ) → variable_coefficient σ x t ≡ occurrences x t
    pub order : is_greater σ s t ≡ is_greater (without_coefficients σ) s t
    pub mark : mark σ s t ≡ mark (without_coefficients σ) s t

  -- Coefficients that are all 1 change nothing.
  abbrev pub OnesChangeNothing : Type 0
  OnesChangeNothing = Ones σ → (s t : Term) → Unchanged s t
