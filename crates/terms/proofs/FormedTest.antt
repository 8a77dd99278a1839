-- A test of well-formedness.
--     is_formed, formed-decides     the test, and that it decides
use mathlib.Core.Logic.{◌↔◌}
use mathlib.Core.Path.{◌≡◌, refl}
use mathlib.Core.Bool.{Bool, true, ◌&&◌, and-eq-true_iff as both}
use lib.ListN.{length}
use lib.Dec.{eqb, ltb}
use borrow.Author.Tests.{eq-eqb, eqb-true, lt-ltb, ltb-true}
use Rattle.terms.specs.Signature.{Signature, symbol_of}
use Rattle.terms.specs.Term.{Term, Terms, row, variable_count, WellFormed, WellFormeds}
use Rattle.terms.specs.Term.Term.{var, app}
use Rattle.terms.specs.Term.Terms.{nil, cons}

module _ (σ : Signature) where
  abbrev mutual
    pub is_formed : Term → Bool
    is_formed (var x) = ltb x variable_count
    is_formed (app f ts) =
        ltb f (length σ.symbols) && (eqb (length (row ts)) (symbol_of σ f).arity && are_formed ts)

    pub are_formed : Terms → Bool
    are_formed nil = true
    are_formed (cons t ts) = is_formed t && are_formed ts

  mutual
    pub formed-decides : (t : Term) → is_formed t ≡ true ↔ WellFormed σ t
    formed-decides (var x) = (ltb-true x variable_count, lt-ltb x variable_count)
    formed-decides (app f ts) = (
      λ e. let h = (both (ltb f (length σ.symbols)) _).0 e in
          let k = (both (eqb (length (row ts)) (symbol_of σ f).arity) _).0 h.1 in
          (ltb-true _ _ h.0, eqb-true _ _ k.0, (formeds-decide ts).0 k.1),
      λ w. (both _ _).1 (lt-ltb _ _ w.0, (both _ _).1 (eq-eqb _ _ w.1, (formeds-decide ts).1 w.2)),
    )

    formeds-decide : (ts : Terms) → are_formed ts ≡ true ↔ WellFormeds σ ts
    formeds-decide nil = (λ e. tt, λ w. refl)
    formeds-decide (cons t ts) = (
      λ e. let h = (both (is_formed t) _).0 e in ((formed-decides t).0 h.0, (formeds-decide ts).0 h.1),
      λ w. (both _ _).1 ((formed-decides t).1 w.0, (formeds-decide ts).1 w.1),
    )
