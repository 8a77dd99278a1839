-- A search that tries every rule at every place of an expression, and beside a rest where the left side has an AC root,
-- finds all results of one step up to AC-equivalence, and nothing else.
--     at-element                            a rule beside a rest, under another symbol than its left side's root
--     searched-sound, searched-complete     the results that are found, and that all are
use mathlib.Core.List.{List, [], ◌∷◌, ◌++◌, append-nil, Memᴰ}
use mathlib.Core.Path.{◌≡◌, refl, sym, ap, ◌∙◌}
use mathlib.Core.Bool.{true, false}
use Prim.Native.Nat.{ℕ, ◌≤◌}
use native.Mathlib.Omega.{arith}
use lib.Dec.{eqb}
use borrow.Author.Tests.{eqb-true}
use Rattle.multisets.specs.Multiset.{multiset_equal}
use Rattle.multisets.proofs.Relations.{by_test, eqb-self}
use Rattle.multisets.proofs.MultisetLaws.{Takes, takes-member, multiset_equal-split}
use Rattle.terms.specs.Signature.{Signature, Admissible}
use Rattle.terms.specs.Term.{Term, Terms, arguments, occurrences, variable_count, flattening, flattenings, WellFormed}
use Rattle.terms.specs.Term.{Expression}
use Rattle.terms.specs.Term.Term.{var, app}
use Rattle.terms.specs.Equivalence.{pair, Equivalent, is_equivalent}
use Rattle.terms.specs.Equivalence.Equivalent.{same, back, then}
use Rattle.terms.specs.Bunch.Bunch.{full}
use Rattle.terms.specs.Order.{is_greater}
use Rattle.terms.specs.Rewriting.{Rule, System, WellFormedRules, AllDecreasing, Substitution, substitute}
use Rattle.terms.specs.Rewriting.{ExpressionSubstitution, Context, fill, Step}
use Rattle.terms.specs.Rewriting.Context.{hole, inside}
use Rattle.terms.proofs.EquivalenceComplete.{Equivalent→is_equivalent}
use Rattle.terms.proofs.EquivalenceLaws.{symbol-of-is_equivalent, arguments-of-is_equivalent}
use Rattle.terms.proofs.EquivalenceMeasures.{formed-resp-equivalent}
use Rattle.terms.proofs.EquivalenceSound.{is_equivalent→Equivalent, from-full, same-trans, join-resp}
use Rattle.terms.proofs.EquivalenceSound.{same_refl}
use Rattle.terms.proofs.RewritingLaws.{fill-resp-equivalent}
use Rattle.terms.proofs.TermLaws.{flattenings-each}
use Rattle.terms.proofs.VariableLaws.{expressions, not-ground, occurrences-past}
use Rattle.terms.proofs.WeightLaws.{variable-lightest}
use Rattle.theory.proofs.DecreasesView.{Decreases, is_greater-view}
use Rattle.theory.proofs.DecreasesView.Decreases.{by_weight, by_root}
use Rattle.simplifying.specs.Reducts.{substitution_or}
use Rattle.simplifying.specs.Places.{Beside, At, PlaceStep, extended}
use Rattle.simplifying.specs.Places.At.{by_rule, beside_rest as beside_at}
use Rattle.simplifying.specs.Search.{Tried, Searched}
use Rattle.simplifying.specs.Search.Tried.{as_it_is, beside_rest}
use Rattle.simplifying.proofs.HoleLaws.{fill-each}
use Rattle.simplifying.proofs.ElementPlaces.{element_place}
use Rattle.simplifying.proofs.ReductComplete.{rest-joined}
use Rattle.simplifying.proofs.ResultLaws.{match-sound, match-complete, rule-variables}
use Rattle.simplifying.proofs.PlaceLaws.{place-complete}
use Rattle.simplifying.proofs.SearchLaws.{extended-beside, beside-extended}

-- A context in the open place of another.
abbrev within : Context → Context → Context
within hole d = d
within (inside f ss c ts) d = inside f ss (within c d) ts

fill-within : (c d : Context) (t : Term) → fill (within c d) t ≡ fill c (fill d t)
fill-within hole d t = refl
fill-within (inside f ss c ts) d t =
    ap (λ (u : Term). app f (arguments (ss ++ (u ∷ ts)))) (fill-within c d t)

module _ (R : System) (A : Admissible R.signature) where
  abbrev σ : Signature
  σ = R.signature

  -- ---- at an element

  -- A rule on the whole of a part of s that leads to t up to AC-equivalence.
  pub record AtPart (s t : Term) : Type 0 where
    pub context : Context
    pub part : Term
    pub whole : s ≡ fill context part
    pub rule : Rule
    pub is_rule : Memᴰ rule R.rules
    pub substitution : Substitution
    pub before : Equivalent σ part (substitute substitution rule.left)
    pub after : Equivalent σ (fill context (substitute substitution rule.right)) t

  at-element : {s t : Term} (p : Beside R s t) (ts : Terms) → s ≡ app p.symbol ts → Expression σ s →
      flattening p.symbol (substitute p.substitution p.rule.left) ≡
      substitute p.substitution p.rule.left ∷ [] → AtPart s t
  at-element {s} {t} p ts q e alone =
      go (multiset_equal-split (is_equivalent σ) l (flattening f p.rest) (flattenings f ts)
      (rw (p.is_ac, alone, append-nil) at (arguments-of-is_equivalent σ f f (pair l p.rest) ts
      (Equivalent→is_equivalent σ (back d)))))
    where
      f : ℕ
      f = p.symbol

      l : Term
      l = substitute p.substitution p.rule.left

      d : Equivalent σ (app f ts) (app f (pair l p.rest))
      d = rw q at p.before

      h : Expression σ (app f ts)
      h = rw q at e

      w : WellFormed σ (app f (pair l p.rest))
      w = (formed-resp-equivalent σ d).0 h.0

      go : (c : Term) × (us : List Term) × (is_equivalent σ l c ≡ true) × Takes c (flattenings f ts) us ×
          (multiset_equal (is_equivalent σ) (flattening f p.rest) us ≡ true) → AtPart s t
      go (c, us, x, k, m) =
          let g = flattenings-each (expressions σ) c ts f ((expressions σ).inner f ts h) (takes-member k) in
          let y = element_place σ A f p.is_ac (app f ts) c us h.0 (rw eqb-self k) in
          let r = rest-joined R A f p.is_ac p.rest ts us k w.2.1.0 h.0.2 m in
          let b = substitute p.substitution p.rule.right in
          record {
            context = y.context;
            part = c;
            whole = q ∙ y.whole;
            rule = p.rule;
            is_rule = p.is_rule;
            substitution = p.substitution;
            before = back (is_equivalent→Equivalent σ A.ac_binary l c w.2.0 g.0 x);
            after = then (from-full σ (same-trans σ (y.others b) (join-resp σ f (same_refl σ (full b)) r)))
                (back p.after);
          }

  in-context : (s : Term) (c : Context) (t u : Term) → s ≡ fill c t → AtPart t u → AtPart s (fill c u)
  in-context s c t u q x = record {
    context = within c x.context;
    part = x.part;
    whole = q ∙ ap (fill c) x.whole ∙ sym (fill-within c x.context x.part);
    rule = x.rule;
    is_rule = x.is_rule;
    substitution = x.substitution;
    before = x.before;
    after = rw (fill-within c x.context (substitute x.substitution x.rule.right))
        (fill-resp-equivalent σ c x.after);
  }

  -- A variable is not greater than any term.
  left-symbol : (l r : Term) → WellFormed σ r → is_greater σ l r ≡ true → (g : ℕ) × (ls : Terms) × (l ≡ app g ls)
  left-symbol (var x) r w h = absurd (go ((is_greater-view σ (var x) r).0 h))
    where
      go : Decreases σ (is_equivalent σ) (is_greater σ) (var x) r → ⊥
      go (by_root _ x5) = elim x5 [ ]
      go (by_weight o h) = omega (arith, variable-lightest σ A x r w)
  left-symbol (app g ls) r w h = (g, ls, refl)

  -- ---- sound

  fill-part : (c : Context) (t : Term) → Expression σ (fill c t) → Expression σ t
  fill-part = fill-each (expressions σ)

  pub searched-sound : (c : Context) (t : Term) (r : Rule) → Expression σ (fill c t) → Tried R r →
      Searched R (PlaceStep R (fill c t)) c t r
  searched-sound c t r e h b m = record {
    context = c;
    part = t;
    result = substitute (substitution_or t b) r.right;
    is_part = refl;
    is_result = refl;
    how = how h (match-sound R A r.left t b (fill-part c t e) m);
  }
    where
      how : {r : Rule} → Tried R r →
          ExpressionSubstitution σ (substitution_or t b) × Equivalent σ t (substitute (substitution_or t b) r.left) →
          At R t (substitute (substitution_or t b) r.right)
      how (as_it_is {r} i) (x, d) = by_rule (record {
        rule = r;
        is_rule = i;
        substitution = substitution_or t b;
        images = x;
        before = d;
        after = same;
      })
      how (beside_rest {r} {f} i q ac) (x, d) = beside_at (extended-beside R f variable_count ac r i (substitution_or t b)
          x t
          (substitute (substitution_or t b) (extended f variable_count r).right) d same)

  -- ---- complete

  module _ (W : WellFormedRules R) (D : AllDecreasing R) (s : Term) (e : Expression σ s) (P : Term → Type 0)
      (all : (c : Context) (t : Term) → s ≡ fill c t → (r : Rule) → Tried R r → Searched R P c t r) where
    -- Some result that is AC-equivalent to t.
    abbrev Found : Term → Type 0
    Found t = (u : Term) × P u × Equivalent σ u t

    by-match : (c : Context) (t : Term) → s ≡ fill c t → (r : Rule) → Tried R r →
        ((x : ℕ) → occurrences x r.left ≡ 0 → occurrences x r.right ≡ 0) → (τ : Substitution) →
        Equivalent σ t (substitute τ r.left) → (v : Term) → Equivalent σ (fill c (substitute τ r.right)) v →
        Found v
    by-match c t q r h x τ d v k =
        let (b, m, y) = match-complete R A r x t (fill-part c t (rw q at e)) τ d in
        (fill c (substitute (substitution_or t b) r.right), all c t q r h b m, then (fill-resp-equivalent σ c y) k)

    by_part : (t : Term) → AtPart s t → Found t
    by_part t p =
        by-match p.context p.part p.whole p.rule (as_it_is p.is_rule)
        (rule-variables R A W D p.rule p.is_rule) p.substitution p.before t p.after

    extended-variables : (f : ℕ) (r : Rule) → Memᴰ r R.rules → (x : ℕ) →
        occurrences x (extended f variable_count r).left ≡ 0 → occurrences x (extended f variable_count r).right ≡ 0
    extended-variables f r m x h = omega (arith, rule-variables R A W D r m x (omega arith))

    root-of : (f : ℕ) (us : Terms) (t : Term) → Expression σ t → Equivalent σ t (app f us) → (ts : Terms) × (t ≡ app f
        ts)
    root-of f us (var x) h d = absurd (not-ground x h.1)
    root-of f us (app g ts) h d =
        (ts, ap (λ (n : ℕ). app n ts) (symbol-of-is_equivalent σ g f ts us (Equivalent→is_equivalent σ d)))

    by-beside : (c : Context) (t u : Term) → s ≡ fill c t → Beside R t u → Found (fill c u)
    by-beside c t u q p =
        let (v, w) = W p.rule p.is_rule in go (left-symbol p.rule.left p.rule.right w (D p.rule
        p.is_rule))
      where
        f : ℕ
        f = p.symbol

        own : (ls : Terms) → p.rule.left ≡ app f ls → Found (fill c u)
        own ls k =
            let past : variable_count ≤ variable_count = omega arith in
            let (υ, x, y, z) = beside-extended R t u p variable_count
            (occurrences-past σ variable_count past p.rule.left (W p.rule p.is_rule).0)
            (occurrences-past σ variable_count past p.rule.right (W p.rule p.is_rule).1) in
            by-match c t q (extended f variable_count p.rule) (beside_rest p.is_rule k p.is_ac)
            (extended-variables f p.rule p.is_rule) υ y (fill c u) (fill-resp-equivalent σ c (back z))

        other : (g : ℕ) (ls : Terms) → p.rule.left ≡ app g ls → eqb f g ≡ false → Found (fill c u)
        other g ls k n =
            let h = fill-part c t (rw q at e) in
            let (ts, y) = root-of f (pair (substitute p.substitution p.rule.left) p.rest) t h p.before in
            by_part (fill c u) (in-context s c t u q (at-element p ts y h (rw (k, n))))

        go : (g : ℕ) × (ls : Terms) × (p.rule.left ≡ app g ls) → Found (fill c u)
        go (g, ls, k) =
            by_test (eqb f g) (λ y. own ls (k ∙ ap (λ (n : ℕ). app n ls) (sym (eqb-true f g y)))) (other g ls k)

    by_place : (t : Term) → PlaceStep R s t → Found t
    by_place t p = rw p.is_result (go p.how)
      where
        go : At R p.part p.result → Found (fill p.context p.result)
        go (by_rule x) =
            by-match p.context p.part p.is_part x.rule (as_it_is x.is_rule)
            (rule-variables R A W D x.rule x.is_rule) x.substitution x.before (fill p.context p.result)
            (fill-resp-equivalent σ p.context (back x.after))
        go (beside_at x) = by-beside p.context p.part p.result p.is_part x

    pub searched-complete : (t : Term) → Step R s t → Found t
    searched-complete t p =
        let (u, q, d) = place-complete R A W D s t e p in
        let (v, h, k) = by_place u q in (v, h, then k d)
