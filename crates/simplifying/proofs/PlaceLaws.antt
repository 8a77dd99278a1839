-- Steps by the places of a term as it stands: a rule on the whole of a part, or on a part of an AC symbol's elements.
--     place-sound, place-complete    these are the steps, all of them up to AC-equivalence
use mathlib.Core.List.Memᴰ
use mathlib.Core.List.{List, [], ◌∷◌, ◌++◌, map, Memᴰ}
use mathlib.Core.Logic.{⊎_elim}
use mathlib.Core.Path.{◌≡◌, refl, sym, ap, ◌∙◌}
use mathlib.Core.Bool.{true}
use Prim.Native.Nat.{ℕ}
use native.Mathlib.Omega.{arith}
use Rattle.terms.specs.Signature.{Signature, symbol_of, Admissible}
use Rattle.terms.specs.Term.{Term, Terms, row, arguments, WellFormeds, Expression}
use Rattle.terms.specs.Term.Term.{var, app}
use Rattle.terms.specs.Term.Terms.{nil, cons}
use Rattle.terms.specs.Equivalence.{pair, Equivalent}
use Rattle.terms.specs.Equivalence.Equivalent.{same, back, then, under}
use Rattle.terms.specs.Equivalence.Equivalents.{none, each}
use Rattle.terms.specs.Rewriting.{System, WellFormedRules, AllDecreasing, substitute, Context, fill}
use Rattle.terms.specs.Rewriting.{Step}
use Rattle.terms.specs.Rewriting.Context.{hole, inside}
use Rattle.multisets.proofs.Relations.{by_test}
use Rattle.multisets.proofs.FlatMapLaws.{flat_map-member}
use Rattle.terms.proofs.TermLaws.{arguments-row, row-each, among-member}
use Rattle.terms.proofs.EquivalenceMeasures.{expression-resp-equivalent}
use Rattle.terms.proofs.VariableLaws.{Grounds, expressions}
use Rattle.simplifying.specs.Matching.{regroupings}
use Rattle.simplifying.specs.Reducts.{results, results_first, results_beside, reducts, reducts_in}
use Rattle.simplifying.specs.Places.{RuleStep, Beside, At, PlaceStep}
use Rattle.simplifying.specs.Places.At.{by_rule, beside_rest}
use Rattle.simplifying.proofs.GroupingLaws.{regroupings-sound}
use Rattle.simplifying.proofs.ResultLaws.{results-sound}
use Rattle.simplifying.proofs.ReductSound.{step-resp, step-of-rule, around-step}
use Rattle.simplifying.proofs.ReductComplete.{reducts-complete}

module _ (R : System) where
  abbrev σ : Signature
  σ = R.signature

  -- ---- sound

  pair-expression : (f : ℕ) (s t : Term) → Expression σ (app f (pair s t)) → Expression σ t
  pair-expression f s t e =
      (expressions σ).head t nil ((expressions σ).tail s (cons t nil) ((expressions σ).inner f (pair s t) e))

  beside-step : {s t : Term} → Expression σ s → Beside R s t → Step R s t
  beside-step {s} {t} e p =
      let l = substitute p.substitution p.rule.left in
      let h = expression-resp-equivalent σ p.before e in
      step-resp R (back p.before) (back p.after)
      (around-step R p.symbol [] (p.rest ∷ []) h (record {
        rule = p.rule;
        is_rule = p.is_rule;
        substitution = p.substitution;
        images = p.images;
        context = hole;
        around = tt;
        before = same;
        after = same;
      }))

  at-step : {s t : Term} → Expression σ s → At R s t → Step R s t
  at-step e (by_rule p) = step-of-rule R p
  at-step e (beside_rest p) = beside-step e p

  fill_step : (c : Context) (s t : Term) → Expression σ (fill c s) → (Expression σ s → Step R s t) →
      Step R (fill c s) (fill c t)
  fill_step hole s t e p = p e
  fill_step (inside f ss c ts) s t e p =
      around-step R f ss ts e (fill_step c s t (row-each (expressions σ) (fill c s) (arguments (ss ++ (fill c s ∷ ts)))
      ((expressions σ).inner f (arguments (ss ++ (fill c s ∷ ts))) e) (among-member ss ts (fill c s))) p)

  pub place-sound : (s t : Term) → Expression σ s → PlaceStep R s t → Step R s t
  place-sound s t e p =
      rw (p.is_part, p.is_result) (fill_step p.context p.part p.result (rw p.is_part at e)
      λ h. at-step h p.how)

  -- ---- complete

  -- A place in one of the arguments.
  record PlaceIn (ss ts : Terms) : Type 0 where
    before : List Term
    after : List Term
    argument : Term
    exchanged : Term
    is_row : ss ≡ arguments (before ++ (argument ∷ after))
    is_new : ts ≡ arguments (before ++ (exchanged ∷ after))
    step : PlaceStep R argument exchanged

  place_inside : (f : ℕ) {ss ts : Terms} → PlaceIn ss ts → PlaceStep R (app f ss) (app f ts)
  place_inside f p = record {
    context = inside f p.before p.step.context p.after;
    part = p.step.part;
    result = p.step.result;
    is_part = ap (app f) (p.is_row ∙ ap (λ (t : Term). arguments (p.before ++ (t ∷ p.after))) p.step.is_part);
    is_result = ap (app f) (p.is_new ∙ ap (λ (t : Term). arguments (p.before ++ (t ∷ p.after))) p.step.is_result);
    how = p.step.how;
  }

  place-first : (t u : Term) (ts : Terms) → PlaceStep R t u → PlaceIn (cons t ts) (cons u ts)
  place-first t u ts p = record {
    before = [];
    after = row ts;
    argument = t;
    exchanged = u;
    is_row = ap (cons t) (sym (arguments-row ts));
    is_new = ap (cons u) (sym (arguments-row ts));
    step = p;
  }

  place-later : (t : Term) (ts us : Terms) → PlaceIn ts us → PlaceIn (cons t ts) (cons t us)
  place-later t ts us p = record {
    before = t ∷ p.before;
    after = p.after;
    argument = p.argument;
    exchanged = p.exchanged;
    is_row = ap (cons t) p.is_row;
    is_new = ap (cons t) p.is_new;
    step = p.step;
  }

  place_here : {s t : Term} → At R s t → PlaceStep R s t
  place_here {s} {t} p = record { context = hole; part = s; result = t; is_part = refl; is_result = refl; how = p }

  module _ (A : Admissible σ) where
    beside-of : (f : ℕ) (ts us : Terms) (u v w : Term) → (symbol_of σ f).ac ≡ true →
        Equivalent σ (app f ts) (app f (pair v w)) → pair u w ≡ us → Expression σ w → RuleStep R v u →
        Beside R (app f ts) (app f us)
    beside-of f ts us u v w c d q e p = record {
      symbol = f;
      is_ac = c;
      rest = w;
      rest_expression = e;
      rule = p.rule;
      is_rule = p.is_rule;
      substitution = p.substitution;
      images = p.images;
      before = then d (under (each p.before (each same none)));
      after = rw (← q) (under (each p.after (each same none)));
    }

    besides : (f : ℕ) (ts us : Terms) → Expression σ (app f ts) → Memᴰ us (results_beside R f ts) →
        Beside R (app f ts) (app f us)
    unfolding results_beside
    besides f ts us e m =
        by_test (symbol_of σ f).ac
        (λ c. let (vs, i, j) = flat_map-member (results_first R) (regroupings f ts) (rw c at m) in
        let d = regroupings-sound σ f c A.ac_binary ts e.0 vs i in
        one vs c d (expression-resp-equivalent σ d e) j)
        λ c. absurd (Memᴰ.not-nil (rw c at m))
      where
        one : (vs : Terms) → (symbol_of σ f).ac ≡ true → Equivalent σ (app f ts) (app f vs) → Expression σ (app f vs) →
            Memᴰ us (results_first R vs) → Beside R (app f ts) (app f us)
        one nil c d h m = absurd (Memᴰ.not-nil m)
        one (cons v nil) c d h m = absurd (omega (arith, h.0.1, A.ac_binary f c))
        one (cons v (cons w (cons x vs))) c d h m = absurd (omega (arith, h.0.1, A.ac_binary f c))
        one (cons v (cons w nil)) c d h m =
            let (u, i, q) = Memᴰ.of_map (λ (u : Term). cons u (cons w nil)) (results R v) m in
            beside-of f ts us u v w c d q (pair-expression f v w h) (results-sound R A v u
            ((expressions σ).head v (cons w nil) ((expressions σ).inner f (pair v w) h)) i)

    mutual
      unfolding reducts

      reducts-place : (s t : Term) → Expression σ s → Memᴰ t (reducts R s) → PlaceStep R s t
      reducts-place (var x) t e m = absurd (Memᴰ.not-nil m)
      reducts-place (app f ts) t e m =
          ⊎_elim (λ i. place_here (by_rule (results-sound R A (app f ts) t e i)))
          (λ i. let (us, j, q) = Memᴰ.of_map (app f) (results_beside R f ts ++ reducts_in R ts) i in
          rw (← q) (⊎_elim (λ k. place_here (beside_rest (besides f ts us e k)))
          (λ k. place_inside f (reducts_in-place ts us ((expressions σ).inner f ts e) k))
          (Memᴰ.append_cases (results_beside R f ts) j)))
          (Memᴰ.append_cases (results R (app f ts)) m)

      reducts_in-place : (ts us : Terms) → WellFormeds σ ts × Grounds ts → Memᴰ us (reducts_in R ts) → PlaceIn ts us
      reducts_in-place nil us e m = absurd (Memᴰ.not-nil m)
      reducts_in-place (cons t ts) us e m =
          ⊎_elim
          (λ i. let (u, j, q) = Memᴰ.of_map (λ (u : Term). cons u ts) (reducts R t) i in
          rw (← q) (place-first t u ts (reducts-place t u ((expressions σ).head t ts e) j)))
          (λ i. let (vs, j, q) = Memᴰ.of_map (cons t) (reducts_in R ts) i in
          rw (← q) (place-later t ts vs (reducts_in-place ts vs ((expressions σ).tail t ts e) j)))
          (Memᴰ.append_cases (map (λ (u : Term). cons u ts) (reducts R t)) m)

    pub place-complete : WellFormedRules R → AllDecreasing R → (s t : Term) → Expression σ s → Step R s t →
        (u : Term) × PlaceStep R s u × Equivalent σ u t
    place-complete W D s t e p =
        let (u, m, q) = reducts-complete R A W D s t e p in (u, reducts-place s u e m, q)
