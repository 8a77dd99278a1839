-- The results of the rules on the whole of an expression.
--     decreasing-variables                a decreasing rule has no variable on the right that it lacks on the left
--     substitute-agree                    substitutions that agree on a term's variables
--     matches-size                        a pattern that matches is no larger than the term
--     Among                               a term in a list, up to AC-equivalence
--     RuleStep, results-sound, -complete  the results are those of a rule and a substitution, all of them up to
--                                         AC-equivalence
use mathlib.Core.List.Memᴰ
use mathlib.Core.List.{List, Memᴰ}
use mathlib.Core.Path.{◌≡◌, refl}
use mathlib.Core.Bool.{true}
use Prim.Native.Nat.{ℕ, ◌≤◌, ◌<◌}
use native.Mathlib.Omega.{arith}
use Rattle.terms.specs.Signature.{Signature, AcBinary, Admissible}
use Rattle.terms.specs.Term.{Term, Terms, size, sizes, occurrences, WellFormed, Expression}
use Rattle.terms.specs.Term.Term.{var, app}
use Rattle.terms.specs.Term.Terms.{nil, cons}
use Rattle.terms.specs.Equivalence.{Equivalent, Equivalents}
use Rattle.terms.specs.Equivalence.Equivalent.{same, back, then, under}
use Rattle.terms.specs.Equivalence.Equivalents.{none, each}
use Rattle.terms.specs.Order.{is_greater}
use Rattle.terms.specs.Marks.{NoneOftener}
use Rattle.terms.specs.Rewriting.{Rule, System, WellFormedRules, AllDecreasing, Substitution, substitute, substitute_in}
use Rattle.terms.specs.Rewriting.{ExpressionSubstitution}
use Rattle.multisets.proofs.Relations.{eqb-self}
use Rattle.multisets.proofs.FlatMapLaws.{flat_map-member, member-flat_map}
use Rattle.terms.proofs.RewritingLaws.{occurrences_in}
use Rattle.terms.proofs.TermLaws.{size-pos}
use Rattle.terms.proofs.EquivalenceMeasures.{plain-resp-equivalent}
use Rattle.terms.proofs.VariableLaws.{coefficient-none, occurs-le, none_oftener-everywhere}
use Rattle.theory.proofs.DecreasesView.{is_greater-view}
use Rattle.theory.proofs.DecreasesView.Decreases.{by_weight, by_root}
use Rattle.simplifying.specs.Matching.{Binding, Bindings, unbound, AgreesAt, matches}
use Rattle.simplifying.specs.Matching.Binding.{free, bound}
use Rattle.simplifying.specs.Places.{RuleStep}
use Rattle.simplifying.specs.Reducts.{image_or, substitution_or, results_by, results}
use Rattle.simplifying.proofs.MatchingLaws.{IsImage, matches-sound, matches-complete}

module _ (σ : Signature) where
  none-oftener : (s t : Term) → is_greater σ s t ≡ true → NoneOftener σ s t
  none-oftener s t g = elim ((is_greater-view σ s t).0 g) [ by_weight o h ↦ o | by_root b r ↦ b.none ]

  decreasing-variables : Admissible σ → (s t : Term) → WellFormed σ t → is_greater σ s t ≡ true → (x : ℕ) →
      occurrences x s ≡ 0 → occurrences x t ≡ 0
  decreasing-variables A s t w g x h =
      omega (
        arith,
        occurs-le σ x A t,
        none_oftener-everywhere σ s t w (none-oftener s t g) x,
        coefficient-none σ x s h,
      )

  module _ (τ : Substitution) where
    mutual
      size-substitute : (t : Term) → size t ≤ size (substitute τ t)
      size-substitute (var x) = omega (arith, size-pos (τ x))
      size-substitute (app f ts) = omega (arith, sizes-substitute ts)

      sizes-substitute : (ts : Terms) → sizes ts ≤ sizes (substitute_in τ ts)
      sizes-substitute nil = omega arith
      sizes-substitute (cons t ts) = omega (arith, size-substitute t, sizes-substitute ts)

  module _ (τ υ : Substitution) where
    mutual
      pub substitute-agree : (t : Term) → ((x : ℕ) → 0 < occurrences x t → Equivalent σ (τ x) (υ x)) →
          Equivalent σ (substitute τ t) (substitute υ t)
      substitute-agree (var x) h = h x (rw eqb-self (omega arith))
      substitute-agree (app f ts) h = under (substitute_in-agree ts λ x n. h x (omega arith))

      pub substitute_in-agree : (ts : Terms) → ((x : ℕ) → 0 < occurrences_in x ts → Equivalent σ (τ x) (υ x)) →
          Equivalents σ (substitute_in τ ts) (substitute_in υ ts)
      substitute_in-agree nil h = none
      substitute_in-agree (cons t ts) h =
          each (substitute-agree t λ x n. h x (omega arith)) (substitute_in-agree ts λ x n. h x (omega arith))

-- ---- what is bound

pub agrees-own : (σ : Signature) (t : Term) (c : Binding) → AgreesAt σ c (image_or t c)
agrees-own σ t free = tt
agrees-own σ t (bound u) = same

pub matches-size : (σ : Signature) → AcBinary σ → (p t : Term) (b : Bindings) → Expression σ t →
    Memᴰ b (matches σ p t unbound) → size p ≤ size t
matches-size σ binary p t b e m =
    let τ = substitution_or t b in
    let h = matches-sound σ binary p t unbound b e (λ x. tt) m in
    omega (
      arith,
      size-substitute σ τ p,
      plain-resp-equivalent σ (λ x. 1) (λ f. 1) (h.agrees τ (λ x. agrees-own σ t (b x))).1,
    )

-- ---- rules

-- A term that is AC-equivalent to t stands in the list.
abbrev pub Among : Signature → List Term → Term → Type 0
Among σ l t = (u : Term) × Memᴰ u l × Equivalent σ u t

module _ (R : System) (A : Admissible R.signature) where
  abbrev σ : Signature
  σ = R.signature

  pub image-expression : (t : Term) (c : Binding) → Expression σ t → IsImage σ c → Expression σ (image_or t c)
  image-expression t free e i = e
  image-expression t (bound u) e i = i

  -- What is bound agrees; what is free does not occur.
  agrees_at : (t : Term) (τ : Substitution) (x : ℕ) (c : Binding) → (c ≡ free → ⊥) → AgreesAt σ c (τ x) →
      Equivalent σ (image_or t c) (τ x)
  agrees_at t τ x free h a = absurd (h refl)
  agrees_at t τ x (bound u) h a = a

  -- ---- matches of one rule

  pub match-sound : (p t : Term) (b : Bindings) → Expression σ t → Memᴰ b (matches σ p t unbound) →
      ExpressionSubstitution σ (substitution_or t b) × Equivalent σ t (substitute (substitution_or t b) p)
  match-sound p t b e m =
      let h = matches-sound σ A.ac_binary p t unbound b e (λ x. tt) m in (
        λ x. image-expression t (b x) e (h.images x),
        (h.agrees (substitution_or t b) (λ x. agrees-own σ t (b x))).1,
      )

  pub match-complete : (r : Rule) → ((x : ℕ) → occurrences x r.left ≡ 0 → occurrences x r.right ≡ 0) → (t :
      Term) →
      Expression σ t → (τ : Substitution) → Equivalent σ t (substitute τ r.left) →
      (b : Bindings) × Memᴰ b (matches σ r.left t unbound) ×
      Equivalent σ (substitute (substitution_or t b) r.right) (substitute τ r.right)
  match-complete r v t e τ d =
      let (b, k, a) = matches-complete σ A.ac_binary r.left t unbound τ e.0 d (λ x. tt) in
      let h = matches-sound σ A.ac_binary r.left t unbound b e (λ x. tt) k in (
        b,
        k,
        substitute-agree σ (substitution_or t b) τ r.right λ x n.
            agrees_at t τ x (b x) (λ f. omega (arith, v x (h.binds x f).1)) (a x),
      )

  -- ---- results

  pub results-sound : (t u : Term) → Expression σ t → Memᴰ u (results R t) → RuleStep R t u
  unfolding results
  results-sound t u e m =
      let (r, i, j) = flat_map-member (λ (r : Rule). results_by R r t) R.rules m in
      let (b, k, q) = Memᴰ.of_map (λ (b : Bindings). substitute (substitution_or t b) r.right)
      (matches σ r.left t unbound) j in
      let h = match-sound r.left t b e k in
      record {
        rule = r;
        is_rule = i;
        substitution = substitution_or t b;
        images = h.0;
        before = h.1;
        after = rw q same;
      }

  module _ (W : WellFormedRules R) (D : AllDecreasing R) where
    pub rule-variables : (r : Rule) → Memᴰ r R.rules → (x : ℕ) → occurrences x r.left ≡ 0 →
        occurrences x r.right ≡ 0
    rule-variables r m = decreasing-variables σ A r.left r.right (W r m).1 (D r m)

    pub results-complete : (t u : Term) → Expression σ t → RuleStep R t u →
        Among σ (results R t) u
    unfolding results
    results-complete t u e p =
        let r = p.rule in
        let (b, k, d) = match-complete r (rule-variables r p.is_rule) t e p.substitution p.before in (
          substitute (substitution_or t b) r.right,
          member-flat_map (λ (r : Rule). results_by R r t) p.is_rule
              (Memᴰ.map (λ (b : Bindings). substitute (substitution_or t b) r.right) k),
          then d (back p.after),
        )
