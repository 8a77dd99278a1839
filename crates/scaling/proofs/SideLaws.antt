-- What a part holds of its side, out of the truncation: its facts are equations and orders.
use mathlib.Core.List.{List}
use mathlib.Core.Logic.{∥∥₁_elim, ∥∥₁_map}
use Rattle.std.proofs.Common.{ℕ}
use Rattle.std.specs.Coded.{Coded-set, coded_ℕ, coded_list, le_prop}
use Rattle.terms.specs.Signature.{Signature}
use Rattle.terms.specs.Term.{Term, Terms, WellFormed, WellFormeds}
use Rattle.terms.specs.Term.Term.{var, app}
use Rattle.terms.specs.Term.Terms.{nil, cons}
use Rattle.terms.specs.Words.{term_of}
use Rattle.scaling.specs.declared.sums.Offset.{Offset}
use Rattle.scaling.specs.Scaled.{Side}

module _ (σ : Signature) where
  mutual
    formed : (t : Term) → ∥ WellFormed σ t ∥₁ → WellFormed σ t
    formed (var x) h = ∥∥₁_elim h le_prop (λ w. w)
    formed (app f ts) h = (
      ∥∥₁_elim h le_prop (λ w. w.0),
      ∥∥₁_elim h (Coded-set coded_ℕ _ _) (λ w. w.1),
      formeds ts (∥∥₁_map h (λ w. w.2)),
    )

    formeds : (ts : Terms) → ∥ WellFormeds σ ts ∥₁ → WellFormeds σ ts
    formeds nil h = tt
    formeds (cons t ts) h = (formed t (∥∥₁_map h (λ w. w.0)), formeds ts (∥∥₁_map h (λ w. w.1)))

  pub side-kept : {ws : List ℕ} {sums : List Offset} → ∥ Side σ ws sums ∥₁ → Side σ ws sums
  side-kept {ws} {sums} h = record {
    scaling = record {
      few = ∥∥₁_elim h le_prop (λ s. s.scaling.few);
      full = λ f. ∥∥₁_elim h (Coded-set coded_ℕ _ _) (λ s. s.scaling.full f);
      positive = λ f k m. ∥∥₁_elim h le_prop (λ s. s.scaling.positive f k m);
    };
    positive = ∥∥₁_elim h le_prop (λ s. s.positive);
    term = record {
      spelled = ∥∥₁_elim h (Coded-set (coded_list coded_ℕ) _ _) (λ s. s.term.spelled);
      well_formed = formed (term_of σ ws) (∥∥₁_map h (λ s. s.term.well_formed));
      short = ∥∥₁_elim h le_prop (λ s. s.term.short);
    };
    light = ∥∥₁_elim h le_prop (λ s. s.light);
    stored = record {
      room = ∥∥₁_elim h (Coded-set coded_ℕ _ _) (λ s. s.stored.room);
      past = ∥∥₁_elim h (Coded-set coded_ℕ _ _) (λ s. s.stored.past);
      before = λ k l. ∥∥₁_elim h (Coded-set coded_ℕ _ _) (λ s. s.stored.before k l);
      factor = λ k l. ∥∥₁_elim h (Coded-set coded_ℕ _ _) (λ s. s.stored.factor k l);
    };
  }
