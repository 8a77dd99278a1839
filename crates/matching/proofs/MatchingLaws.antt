-- What Sought holds of its pattern and term, out of the truncation: the term is told by its words, and what is said of
-- it are equations and orders.
use mathlib.Core.List.{List, [], ◌∷◌, Memᴰ}
use mathlib.Core.Path.{◌≡◌, refl, sym, ap, ◌∙◌, subst}
use mathlib.Core.Logic.{∥∥₁_elim, ∥∥₁_map}
use mathlib.Core.Bool.{Bool, true, false, false≢true}
use Prim.Native.Nat.{ℕ}
use lib.Dec.{eqb}
use Rattle.std.specs.Coded.{Coded-set, coded_ℕ, coded_bool, coded_list, le_prop}
use Rattle.multisets.specs.Sorting.{Ascending}
use Rattle.multisets.proofs.Relations.{by_test}
use Rattle.terms.specs.Signature.{Signature, Admissible}
use Rattle.terms.specs.Term.{Term, Terms, flattening, flattenings, occurrences}
use Rattle.terms.specs.Term.Term.{var, app}
use Rattle.terms.specs.Term.Terms.{nil, cons}
use Rattle.terms.specs.Words.{words}
use Rattle.terms.proofs.WordsLaws.{term_of-words}
use Rattle.terms.proofs.FlatteningLaws.{flattenings-roots}
use Rattle.simplifying.specs.Canonical.{Arranged, ArrangedIn, GroupedRight}
use Rattle.subterms.specs.Parts.{part_at, Complete}
use Rattle.subterms.proofs.FormedLaws.{part-formed}
use Rattle.equivalence.proofs.PreparedLaws.{prepared-kept}
use Rattle.pieces.specs.Subject.{Subject}
use Rattle.matching.specs.Bindings.{Matching}

-- A flattening that is the term alone is not one for the term's root.
alone : (f : ℕ) (t : Term) → ∥ flattening f t ≡ t ∷ [] ∥₁ → flattening f t ≡ t ∷ []
alone f (var x) h = refl
alone f (app g ts) h =
    by_test (eqb f g)
    (λ e. absurd (false≢true (∥∥₁_elim h (Coded-set coded_bool false true) (λ p. own e p))))
    λ e. rw e
  where
    own : eqb f g ≡ true → flattening f (app g ts) ≡ app g ts ∷ [] → false ≡ true
    own e p =
        let q : flattenings f ts ≡ app g ts ∷ [] = rw e at p in
        sym (flattenings-roots f ts (app g ts) (rw q (Memᴰ.head refl))) ∙ e

grouped : (f : ℕ) (ts : Terms) → ∥ GroupedRight f ts ∥₁ → GroupedRight f ts
grouped f nil h = tt
grouped f (cons t ts) h = alone f t h

ascending : {A : Type 0} (greater : A → A → Bool) (l : List A) → ∥ Ascending greater l ∥₁ → Ascending greater l
ascending greater [] h = tt
ascending greater (a ∷ l) h = (
  λ b m. ∥∥₁_elim h (Coded-set coded_bool _ _) (λ x. x.0 b m),
  ascending greater l (∥∥₁_map h (λ x. x.1)),
)

module _ (σ : Signature) where
  mutual
    arranged : (t : Term) → ∥ Arranged σ t ∥₁ → Arranged σ t
    arranged (var x) h = tt
    arranged (app f ts) h = (
      λ a. (
        grouped f ts (∥∥₁_map h (λ x. (x.0 a).0)),
        ascending _ (flattenings f ts) (∥∥₁_map h (λ x. (x.0 a).1)),
      ),
      arranged_in ts (∥∥₁_map h (λ x. x.1)),
    )

    arranged_in : (ts : Terms) → ∥ ArrangedIn σ ts ∥₁ → ArrangedIn σ ts
    arranged_in nil h = tt
    arranged_in (cons t ts) h = (arranged t (∥∥₁_map h (λ x. x.0)), arranged_in ts (∥∥₁_map h (λ x. x.1)))

  admissible : ∥ Admissible σ ∥₁ → Admissible σ
  admissible h = record {
    variable_weighs = ∥∥₁_elim h le_prop (λ x. x.variable_weighs);
    ac_binary = λ f a. ∥∥₁_elim h (Coded-set coded_ℕ _ _) (λ x. x.ac_binary f a);
    weighs_enough = λ f s. ∥∥₁_elim h le_prop (λ x. x.weighs_enough f s);
    precedences_differ = λ f g s r e. ∥∥₁_elim h (Coded-set coded_ℕ _ _) (λ x. x.precedences_differ f g s r e);
    zero_weight_highest = λ f g s r z. ∥∥₁_elim h le_prop (λ x. x.zero_weight_highest f g s r z);
    ac_ones = λ f a k m. ∥∥₁_elim h (Coded-set coded_ℕ _ _) (λ x. x.ac_ones f a k m);
    coefficients_positive = λ f k m. ∥∥₁_elim h le_prop (λ x. x.coefficients_positive f k m);
  }

  module _ (ws : List ℕ) where
    told : (S : Subject σ ws) → S.term ≡ part_at σ ws 0
    told S = sym (rw S.spelled (term_of-words σ S.few S.term S.expression.0))

    subject : Complete σ ws → ∥ Subject σ ws ∥₁ → Subject σ ws
    subject c h =
        let few = ∥∥₁_elim h le_prop (λ S. S.few) in
        record {
          admissible = admissible (∥∥₁_map h (λ S. S.admissible));
          few = few;
          term = part_at σ ws 0;
          spelled = ∥∥₁_elim h (Coded-set (coded_list coded_ℕ) _ _) (λ S. S.spelled ∙ ap words (told S));
          expression = (
            part-formed σ few ws 0 c,
            λ x. ∥∥₁_elim h (Coded-set coded_ℕ _ _)
                (λ S. subst (λ (t : Term). occurrences x t ≡ 0) (told S) (S.expression.1 x)),
          );
          arranged = arranged (part_at σ ws 0) (∥∥₁_map h (λ S. subst (Arranged σ) (told S) S.arranged));
        }

pub matching-kept : {σ : Signature} {ws keys ps : List ℕ} → ∥ Matching σ ws keys ps ∥₁ → Matching σ ws keys ps
matching-kept {σ} {ws} h =
    let P = prepared-kept (∥∥₁_map h (λ M. M.prepared)) in
    record {
      subject = subject σ ws P.complete (∥∥₁_map h (λ M. M.subject));
      prepared = P;
      short = ∥∥₁_elim h le_prop (λ M. M.short);
      pattern = record {
        short = ∥∥₁_elim h le_prop (λ M. M.pattern.short);
        nodes = λ k l. ∥∥₁_elim h le_prop (λ M. M.pattern.nodes k l);
      };
    }
