-- Each reduct of an expression is reached from it by one step.
--     step-resp, step-of-rule            a step up to AC-equivalence; one by a rule on the whole
--     StepIn, step-inside                a step in one of a symbol's arguments
--     reducts-sound, reducts_in-sound     a reduct is reached by a step
use mathlib.Core.List.Memᴰ
use mathlib.Core.List.{List, [], ◌∷◌, ◌++◌, map, Memᴰ}
use mathlib.Core.List.{append_assoc}
use mathlib.Core.Logic.{⊎_elim}
use mathlib.Core.Path.{◌≡◌, sym, ◌∙◌}
use Prim.Native.Nat.{ℕ}
use lib.ListN.{length, length-append}
use Rattle.terms.specs.Signature.{Signature, symbol_of, Admissible}
use Rattle.terms.specs.Term.{Term, Terms, row, arguments, WellFormeds, Expression}
use Rattle.terms.specs.Term.Term.{var, app}
use Rattle.terms.specs.Term.Terms.{nil, cons}
use Rattle.terms.specs.Equivalence.{Equivalent}
use Rattle.terms.specs.Equivalence.Equivalent.{same, back, then, under}
use Rattle.terms.specs.Rewriting.{System, Step}
use Rattle.terms.specs.Rewriting.Context.{hole, inside}
use Rattle.multisets.proofs.Relations.{by_test}
use Rattle.multisets.proofs.FlatMapLaws.{flat_map-member}
use Rattle.terms.proofs.TermLaws.{row-arguments, arguments-row, row-each}
use Rattle.terms.proofs.RewritingLaws.{equivalents-among}
use Rattle.terms.proofs.EquivalenceMeasures.{expression-resp-equivalent}
use Rattle.terms.proofs.VariableLaws.{Grounds, expressions}
use Rattle.simplifying.specs.Matching.{regroupings}
use Rattle.simplifying.specs.Reducts.{results, results_first, results_beside, reducts, reducts_in}
use Rattle.simplifying.proofs.GroupingLaws.{regroupings-sound}
use Rattle.simplifying.specs.Places.{RuleStep}
use Rattle.simplifying.proofs.ResultLaws.{results-sound}

module _ (R : System) where
  abbrev σ : Signature
  σ = R.signature

  pub step-resp : {s s' t t' : Term} → Equivalent σ s s' → Equivalent σ t t' → Step R s t → Step R s' t'
  step-resp d e p = record {
    rule = p.rule;
    is_rule = p.is_rule;
    substitution = p.substitution;
    images = p.images;
    context = p.context;
    around = p.around;
    before = then (back d) p.before;
    after = then (back e) p.after;
  }

  pub step-of-rule : {s t : Term} → RuleStep R s t → Step R s t
  step-of-rule p = record {
    rule = p.rule;
    is_rule = p.is_rule;
    substitution = p.substitution;
    images = p.images;
    context = hole;
    around = tt;
    before = p.before;
    after = p.after;
  }

  -- ---- arguments

  -- A step in one of the arguments.
  pub data StepIn : Terms → Terms → Type 0 where
    first : {s t : Term} {ts : Terms} → Step R s t → StepIn (cons s ts) (cons t ts)
    later : {s : Term} {ss ts : Terms} → StepIn ss ts → StepIn (cons s ss) (cons s ts)

  pub around-step : (f : ℕ) (ps qs : List Term) {s t : Term} → Expression σ (app f (arguments (ps ++ (s ∷ qs)))) →
      Step R s t → Step R (app f (arguments (ps ++ (s ∷ qs)))) (app f (arguments (ps ++ (t ∷ qs))))
  around-step f ps qs {s} e p =
      let l = ps ++ (s ∷ qs) in
      let n : length l ≡ (symbol_of σ f).arity = rw row-arguments at e.0.1 in
      let part : (u : Term) → Memᴰ u l → Expression σ u =
      λ u m. row-each (expressions σ) u (arguments l) ((expressions σ).inner f (arguments l) e) (rw row-arguments m) in
      record {
        rule = p.rule;
        is_rule = p.is_rule;
        substitution = p.substitution;
        images = p.images;
        context = inside f ps p.context qs;
        around = (
          e.0.0,
          sym (length-append ps (s ∷ qs)) ∙ n,
          λ u m. part u (Memᴰ.append_left (s ∷ qs) m),
          p.around,
          λ u m. part u (Memᴰ.append_right ps (Memᴰ.tail m)),
        );
        before = under (equivalents-among σ ps qs p.before);
        after = under (equivalents-among σ ps qs p.after);
      }

  step-among : (f : ℕ) (ps : List Term) {ss ts : Terms} → StepIn ss ts →
      Expression σ (app f (arguments (ps ++ row ss))) →
      Step R (app f (arguments (ps ++ row ss))) (app f (arguments (ps ++ row ts)))
  step-among f ps (first {ts} p) e = around-step f ps (row ts) e p
  step-among f ps (later {s} p) e =
      simp append_assoc at (step-among f (ps ++ (s ∷ [])) p (simp append_assoc e))

  pub step-inside : (f : ℕ) {ss ts : Terms} → Expression σ (app f ss) → StepIn ss ts → Step R (app f ss) (app f ts)
  step-inside f {ss} {ts} e p =
      rw (arguments-row ss, arguments-row ts) at (step-among f [] p (rw (arguments-row ss) e))

  -- ---- reducts

  module _ (A : Admissible σ) where
    beside-sound : (f : ℕ) (ts us : Terms) → Expression σ (app f ts) → Memᴰ us (results_beside R f ts) →
        Step R (app f ts) (app f us)
    unfolding results_beside
    beside-sound f ts us e m =
        by_test (symbol_of σ f).ac
        (λ c. let (vs, i, j) = flat_map-member (results_first R) (regroupings f ts) (rw c at m) in
        let d = regroupings-sound σ f c A.ac_binary ts e.0 vs i in
        let h = expression-resp-equivalent σ d e in
        step-resp (back d) same (step-inside f h (one vs ((expressions σ).inner f vs h) j)))
        λ c. absurd (Memᴰ.not-nil (rw c at m))
      where
        one : (vs : Terms) → WellFormeds σ vs × Grounds vs → Memᴰ us (results_first R vs) → StepIn vs us
        one nil h m = absurd (Memᴰ.not-nil m)
        one (cons v vs) h m =
            let (u, i, q) = Memᴰ.of_map (λ (u : Term). cons u vs) (results R v) m in
            rw (← q) (first (step-of-rule (results-sound R A v u ((expressions σ).head v vs h) i)))

    mutual
      unfolding reducts

      pub reducts-sound : (s t : Term) → Expression σ s → Memᴰ t (reducts R s) → Step R s t
      reducts-sound (var x) t e m = absurd (Memᴰ.not-nil m)
      reducts-sound (app f ts) t e m =
          ⊎_elim (λ i. step-of-rule (results-sound R A (app f ts) t e i))
          (λ i. let (us, j, q) = Memᴰ.of_map (app f) (results_beside R f ts ++ reducts_in R ts) i in
          rw (← q) (⊎_elim (beside-sound f ts us e)
          (λ k. step-inside f e (reducts_in-sound ts us ((expressions σ).inner f ts e) k))
          (Memᴰ.append_cases (results_beside R f ts) j)))
          (Memᴰ.append_cases (results R (app f ts)) m)

      pub reducts_in-sound : (ts us : Terms) → WellFormeds σ ts × Grounds ts → Memᴰ us (reducts_in R ts) →
          StepIn ts us
      reducts_in-sound nil us e m = absurd (Memᴰ.not-nil m)
      reducts_in-sound (cons t ts) us e m =
          ⊎_elim
          (λ i. let (u, j, q) = Memᴰ.of_map (λ (u : Term). cons u ts) (reducts R t) i in
          rw (← q) (first (reducts-sound t u ((expressions σ).head t ts e) j)))
          (λ i. let (vs, j, q) = Memᴰ.of_map (cons t) (reducts_in R ts) i in
          rw (← q) (later (reducts_in-sound ts vs ((expressions σ).tail t ts e) j)))
          (Memᴰ.append_cases (map (λ (u : Term). cons u ts) (reducts R t)) m)
