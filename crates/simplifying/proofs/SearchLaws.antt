-- What a search over the places of a term is to show, and what it may leave out.
--     extended-beside, beside-extended           a rule beside a rest is its extension on the whole
--     places-none, places-large, places-least    the outcome of one step by places
--     leftmost-at-most, bound-at-most            a term is at least its first constant; a bound beforehand
--     sum-filling, sum-fillings                  a sum of shared variables, however the list is split
--     filling-size, fillings-same-size           all fillings by one list have equally many nodes
use mathlib.Core.List.{List, [], ◌∷◌, Memᴰ}
use mathlib.Core.Path.{◌≡◌, refl, sym, ap, ◌∙◌}
use mathlib.Core.Bool.{Bool, true, cond, true≢false}
use Prim.Native.Nat.{ℕ, suc, ◌+◌, ◌≤◌, ◌<◌}
use native.Mathlib.Omega.{arith}
use lib.Dec.{eqb}
use borrow.Author.Tests.{eqb-true}
use Rattle.multisets.specs.Sorting.{Parted}
use Rattle.multisets.specs.Sorting.Parted.{parted, on_left, on_right}
use Rattle.terms.specs.Signature.{Signature, symbol_of, Admissible}
use Rattle.terms.specs.Term.{Term, Terms, size, sizes, occurrences, WellFormed, Expression}
use Rattle.terms.specs.Term.Term.{var, app}
use Rattle.terms.specs.Term.Terms.{nil, cons}
use Rattle.terms.specs.Equivalence.{Equivalent}
use Rattle.terms.specs.Equivalence.Equivalent.{same, back, then, under}
use Rattle.terms.specs.Equivalence.Equivalents.{none, each}
use Rattle.terms.specs.Bunch.{Bunch, join, bunch_of}
use Rattle.terms.specs.Bunch.Bunch.{empty, full}
use Rattle.terms.specs.Rewriting.{Rule, System, WellFormedRules, AllDecreasing, Substitution, substitute}
use Rattle.terms.specs.Rewriting.{ExpressionSubstitution}
use Rattle.multisets.proofs.Relations.{by_test, eqb-self}
use Rattle.multisets.proofs.MultisetLaws.{sum}
use Rattle.terms.proofs.EquivalenceMeasures.{plain-resp-equivalent, expression-resp-equivalent}
use Rattle.terms.proofs.EquivalenceSound.{SameBunch, from-full, same_refl, same-sym, same-trans, join-resp}
use Rattle.terms.proofs.RewritingLaws.{step-expressions}
use Rattle.terms.proofs.VariableLaws.{expressions, not-ground}
use Rattle.theory.proofs.Contexts.{greater-argument}
use Rattle.simplifying.specs.Canonical.{Arranged}
use Rattle.simplifying.specs.Outcomes.{NoStep, AllTooLarge, IsLeast}
use Rattle.simplifying.specs.Filling.{Filling, Fillings, AtMost, leftmost, SumOf}
use Rattle.simplifying.specs.FillingSize.{bunch_size, shared_count, shared_counts, own_size, own_sizes}
use Rattle.simplifying.specs.Filling.SumOf.{one, two}
use Rattle.simplifying.specs.Filling.Filling.{own, taken, node}
use Rattle.simplifying.specs.Filling.Fillings.{none as none_filled, each as each_filled}
use Rattle.simplifying.specs.Matching.{Binding, Bindings, AgreesAt, Agrees}
use Rattle.simplifying.specs.Matching.Binding.{free, bound}
use Rattle.simplifying.specs.Reducts.{image_or, substitution_or}
use Rattle.simplifying.specs.Places.{Beside, PlaceStep, extended}
use Rattle.simplifying.proofs.GroupingLaws.{parted-bunch}
use Rattle.simplifying.proofs.ResultLaws.{substitute-agree}
use Rattle.simplifying.proofs.ReductSound.{step-resp}
use Rattle.simplifying.proofs.MatchingLaws.{IsImage, Images}
use Rattle.simplifying.proofs.LeastLaws.{at-most-same, at-most-below, at-most-trans, at-most-resp}
use Rattle.simplifying.proofs.LeastLaws.{substitute-at-most}
use Rattle.simplifying.proofs.PlaceLaws.{place-sound, place-complete}

join-nil : (σ : Signature) (f : ℕ) (b : Bunch) → SameBunch σ (join f b empty) b
join-nil σ f empty = same_refl σ empty
join-nil σ f (full t) = same_refl σ (full t)

module _ (R : System) where
  abbrev σ : Signature
  σ = R.signature

  -- ---- beside a rest

  pub extended-beside : (f x : ℕ) → (symbol_of σ f).ac ≡ true → (r : Rule) → Memᴰ r R.rules → (υ : Substitution) →
      ExpressionSubstitution σ υ → (s t : Term) → Equivalent σ s (substitute υ (extended f x r).left) →
      Equivalent σ t (substitute υ (extended f x r).right) → Beside R s t
  extended-beside f x c r m υ i s t d e = record {
    symbol = f;
    is_ac = c;
    rest = υ x;
    rest_expression = i x;
    rule = r;
    is_rule = m;
    substitution = υ;
    images = i;
    before = d;
    after = e;
  }

  pub beside-extended : (s t : Term) (p : Beside R s t) (x : ℕ) → occurrences x p.rule.left ≡ 0 →
      occurrences x p.rule.right ≡ 0 →
      (υ : Substitution) × ExpressionSubstitution σ υ ×
      Equivalent σ s (substitute υ (extended p.symbol x p.rule).left) ×
      Equivalent σ t (substitute υ (extended p.symbol x p.rule).right)
  beside-extended s t p x m n = (
    υ,
    λ y. by_test (eqb x y) (λ e. rw e p.rest_expression) (λ e. rw e (p.images y)),
    then p.before (under (each (agree p.rule.left m) (each rest none))),
    then p.after (under (each (agree p.rule.right n) (each rest none))),
  )
    where
      υ : Substitution
      υ y = cond (eqb x y) p.rest (p.substitution y)

      rest : Equivalent σ p.rest (υ x)
      rest = rw eqb-self same

      agree : (q : Term) → occurrences x q ≡ 0 → Equivalent σ (substitute p.substitution q) (substitute υ q)
      agree q z = substitute-agree σ p.substitution υ q λ y h.
          by_test (eqb x y) (λ e. absurd (omega (arith, z, ap (λ (w : ℕ). occurrences w q) (eqb-true x y e))))
          λ e. rw e same

  -- ---- one step by places

  module _ (A : Admissible σ) (W : WellFormedRules R) (D : AllDecreasing R) (limit : ℕ) (s : Term)
      (e : Expression σ s) where
    pub places-none : ((t : Term) → PlaceStep R s t → ⊥) → NoStep R s
    places-none h t p = let (u, q, d) = place-complete R A W D s t e p in h u q

    pub places-large : (t : Term) → PlaceStep R s t → ((u : Term) → PlaceStep R s u → limit < size u) →
        AllTooLarge R limit s
    places-large t p h = (
      (t, place-sound R s t e p),
      λ u q. let (v, k, d) = place-complete R A W D s u e q in
          omega (arith, h v k, plain-resp-equivalent σ (λ x. 1) (λ f. 1) d),
    )

    pub places-least : (t u : Term) → PlaceStep R s t → Equivalent σ u t → Arranged σ u → size u ≤ limit →
        ((v : Term) → PlaceStep R s v → size v ≤ limit → AtMost σ u v) → IsLeast R limit s u
    places-least t u p d a n h = record {
      step = step-resp R same (back d) (place-sound R s t e p);
      canonical = a;
      fits = n;
      least = λ w q z. let (v, k, c) = place-complete R A W D s w e q in
          let x = (step-expressions R W q).1 in
          let y = expression-resp-equivalent σ (back c) x in
          let b = expression-resp-equivalent σ (back d) (step-expressions R W (place-sound R s t e p)).1 in
          at-most-resp σ A u u v w b b y x same c
          (h v k (omega (arith, plain-resp-equivalent σ (λ x. 1) (λ f. 1) c)));
    }

-- ---- a lower bound

module _ (σ : Signature) (A : Admissible σ) where
  mutual
    pub leftmost-at-most : (t : Term) → Expression σ t → Expression σ (leftmost t) × AtMost σ (leftmost t) t
    leftmost-at-most (var x) e = absurd (not-ground x e.1)
    leftmost-at-most (app g ts) e = leftmost-in g ts e

    leftmost-in : (g : ℕ) (ts : Terms) → Expression σ (app g ts) →
        Expression σ (leftmost (app g ts)) × AtMost σ (leftmost (app g ts)) (app g ts)
    leftmost-in g nil e = (e, at-most-same σ A (app g nil) (app g nil) e e same)
    leftmost-in g (cons u us) e =
        let y = (expressions σ).head u us ((expressions σ).inner g (cons u us) e) in
        let (x, k) = leftmost-at-most u y in (
          x,
          at-most-trans σ A (leftmost u) u (app g (cons u us)) x y e k (at-most-below σ A u (app g (cons u us)) y e
              (greater-argument σ A g (cons u us) u e.0 (Memᴰ.head refl))),
        )

  lower-at : (t u : Term) (c : Binding) → Expression σ t → Expression σ u → IsImage σ c → AgreesAt σ c u →
      (c ≡ free → AtMost σ t u) → Expression σ (image_or t c) × AtMost σ (image_or t c) u
  lower-at t u free e d i a h = (e, h refl)
  lower-at t u (bound v) e d i a h = (i, at-most-same σ A v u i d a)

  -- With a term for the free variables that is at most what will stand there, a pattern gives at most what it will
  -- give.
  pub bound-at-most : (r : Term) → WellFormed σ r → (t : Term) → Expression σ t → (b : Bindings) → Images σ b →
      (τ : Substitution) → ExpressionSubstitution σ τ → Agrees σ b τ → ((x : ℕ) → b x ≡ free → AtMost σ t (τ x)) →
      AtMost σ (substitute (substitution_or t b) r) (substitute τ r)
  bound-at-most r w t e b i τ d a h =
      substitute-at-most σ A (substitution_or t b) τ (λ x. (lower-at t (τ x) (b x) e (d x) (i x) (a x) (h x)).0) d r w
      λ x n. (lower-at t (τ x) (b x) e (d x) (i x) (a x) (h x)).1

-- ---- sums of shared variables

module _ (σ : Signature) (f : ℕ) (ac : (symbol_of σ f).ac ≡ true) (shared : ℕ → Bool) (τ : Substitution) where
  sum-variable : (x : ℕ) (l : List Term) (t : Term) → shared x ≡ true → Filling f shared τ (var x) l t →
      SameBunch σ (bunch_of f l) (full t)
  sum-variable x l t s (own z q) = absurd (true≢false (sym s ∙ z))
  sum-variable x l t s (taken z q) = rw q (same_refl σ (full t))

  -- What a filling of a sum gives is the list joined.
  pub sum-filling : {p : Term} → SumOf f shared p → (l : List Term) (t : Term) → Filling f shared τ p l t →
      SameBunch σ (bunch_of f l) (full t)
  sum-filling (one {x} s) l t k = sum-variable x l t s k
  sum-filling (two h i) l t (node (each_filled {t = u} {m} q k (each_filled {t = v} {m = n} r j none_filled))) =
      same-trans σ (parted-bunch σ f ac q) (join-resp σ f (sum-filling h m u k) (same-trans σ (parted-bunch σ f ac r)
      (same-trans σ (join-nil σ f (bunch_of f n)) (sum-filling i n v j))))

  pub sum-fillings : {p : Term} → SumOf f shared p → (l : List Term) (t u : Term) → Filling f shared τ p l t →
      Filling f shared τ p l u → Equivalent σ t u
  sum-fillings h l t u j k =
      from-full σ (same-trans σ (same-sym σ (sum-filling h l t j)) (sum-filling h l u k))

-- ---- sizes

module _ (f : ℕ) where
  join-size : (t : Term) (b : Bunch) (n : ℕ) → bunch_size b ≡ n → bunch_size (join f (full t) b) ≡ suc (size t) + n
  join-size t empty n q = omega arith
  join-size t (full u) n q = omega arith

  pub bunch-size : (l : List Term) → bunch_size (bunch_of f l) ≡ sum (λ (t : Term). suc (size t)) l
  bunch-size [] = refl
  bunch-size (t ∷ l) = join-size t (bunch_of f l) (sum (λ (u : Term). suc (size u)) l) (bunch-size l)

pub parted-sum : {A : Type 0} (w : A → ℕ) {l m n : List A} → Parted l m n → sum w l ≡ sum w m + sum w n
parted-sum w parted = omega arith
parted-sum w (on_left p) = omega (arith, parted-sum w p)
parted-sum w (on_right p) = omega (arith, parted-sum w p)

module _ (f : ℕ) (shared : ℕ → Bool) (τ : Substitution) where
  mutual
    -- A filling has the pattern's own nodes and those of the list, with one node less for each shared variable.
    pub filling-size : {p t : Term} {l : List Term} → Filling f shared τ p l t →
        size t + shared_count shared p ≡ own_size shared τ p + sum (λ (u : Term). suc (size u)) l
    filling-size (own {x} {t} s q) = rw (s, q) (omega arith)
    filling-size (taken {x} {l} {t} s q) = rw s (omega (arith, bunch-size f l, ap bunch_size q))
    filling-size (node hs) = omega (arith, fillings-size hs)

    fillings-size : {ps ts : Terms} {l : List Term} → Fillings f shared τ ps l ts →
        sizes ts + shared_counts shared ps ≡ own_sizes shared τ ps + sum (λ (u : Term). suc (size u)) l
    fillings-size none_filled = omega arith
    fillings-size (each_filled q k ks) =
        omega (arith, filling-size k, fillings-size ks, parted-sum (λ (u : Term). suc (size u)) q)

  pub fillings-same-size : (p : Term) (l : List Term) (t u : Term) → Filling f shared τ p l t →
      Filling f shared τ p l u → size t ≡ size u
  fillings-same-size p l t u j k = omega (arith, filling-size j, filling-size k)
