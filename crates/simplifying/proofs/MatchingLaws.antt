-- Matching finds bindings under which the pattern is AC-equivalent to the term, and finds all of them up to
-- AC-equivalence.
--     Images                    bindings to expressions
--     Matched, matches-sound    what is found
--     matches-complete          what is to be found is found
use mathlib.Core.List.Memᴰ
use mathlib.Core.List.{Memᴰ}
use mathlib.Core.Path.{◌≡◌, refl, sym}
use mathlib.Core.Bool.{true, false, false≢true}
use Prim.Native.Nat.{ℕ}
use native.Mathlib.Omega.{arith}
use lib.Dec.{eqb}
use borrow.Author.Tests.{eqb-true, eqb-false, ne_eqb}
use Rattle.terms.specs.Signature.{Signature, AcBinary}
use Rattle.terms.specs.Term.{Term, Terms, occurrences, WellFormed, WellFormeds, Expression}
use Rattle.terms.specs.Term.Term.{var, app}
use Rattle.terms.specs.Term.Terms.{nil, cons}
use Rattle.terms.specs.Equivalence.{Equivalent, Equivalents, is_equivalent}
use Rattle.terms.specs.Equivalence.Equivalent.{back, then, under}
use Rattle.terms.specs.Equivalence.Equivalents.{none, each}
use Rattle.terms.specs.Rewriting.{Substitution, substitute, substitute_in}
use Rattle.multisets.proofs.Relations.{by_test, eqb-self}
use Rattle.multisets.proofs.FlatMapLaws.{flat_map-member, member-flat_map}
use Rattle.terms.proofs.RewritingLaws.{occurrences_in}
use Rattle.terms.proofs.VariableLaws.{Grounds, expressions}
use Rattle.terms.proofs.EquivalenceComplete.{Equivalent→is_equivalent}
use Rattle.terms.proofs.EquivalenceMeasures.{expression-resp-equivalent, formed-resp-equivalent}
use Rattle.terms.proofs.EquivalenceMeasures.{formeds-resp-equivalents}
use Rattle.terms.proofs.EquivalenceSound.{is_equivalent→Equivalent}
use Rattle.simplifying.specs.Matching.{Binding, Bindings, bind_to, groupings, AgreesAt, Agrees, bind, matches}
use Rattle.simplifying.specs.Matching.{matches_in}
use Rattle.simplifying.specs.Matching.Binding.{free, bound}
use Rattle.simplifying.proofs.GroupingLaws.{groupings-sound, groupings-complete}

module _ (σ : Signature) where
  -- What a variable is bound to is an expression.
  abbrev pub IsImage : Binding → Type 0
  IsImage free = Unit {0}
  IsImage (bound u) = Expression σ u

  abbrev pub Images : Bindings → Type 0
  Images b = (x : ℕ) → IsImage (b x)

  -- Of bindings before and after: how often each variable occurs in the pattern, and what holds of a substitution that
  -- agrees.
  pub record Matched (b c : Bindings) (occurs : ℕ → ℕ) (Holds : Substitution → Type 0) : Type 0 where
    pub images : Images c
    pub agrees : (τ : Substitution) → Agrees σ c τ → Agrees σ b τ × Holds τ
    pub binds : (x : ℕ) → c x ≡ free → (b x ≡ free) × (occurs x ≡ 0)

  abbrev pub MatchedTo : Term → Term → Bindings → Bindings → Type 0
  MatchedTo p t b c =
      Matched b c (λ (x : ℕ). occurrences x p) (λ (τ : Substitution). Equivalent σ t (substitute τ p))

  abbrev pub MatchedAll : Terms → Terms → Bindings → Bindings → Type 0
  MatchedAll ps ts b c =
      Matched b c (λ (x : ℕ). occurrences_in x ps) (λ (τ : Substitution). Equivalents σ ts (substitute_in τ ps))

  -- ---- one variable

  module _ (x : ℕ) (t : Term) (b : Bindings) where
    bind_to-self : bind_to x t b x ≡ bound t
    bind_to-self = rw eqb-self

    bind_to-other : (y : ℕ) → eqb x y ≡ false → bind_to x t b y ≡ b y
    bind_to-other y e = rw e

    other : (y : ℕ) → eqb x y ≡ false → occurrences y (var x) ≡ 0
    other y q = rw (ne_eqb y x λ e. eqb-false x y q (sym e))

    -- A property of what each variable is bound to.
    bind_to-each : (P : ℕ → Binding → Type 0) → P x (bound t) → ((y : ℕ) → P y (b y)) → (y : ℕ) → P y (bind_to x t b y)
    bind_to-each P p h y =
        by_test (eqb x y) (λ e. rw (e, ← eqb-true x y e) p) λ e. rw e (h y)

    module _ (binary : AcBinary σ) (e : Expression σ t) (i : Images b) where
      bind-free : b x ≡ free → MatchedTo (var x) t b (bind_to x t b)
      bind-free f = record {
        images = bind_to-each (λ y c. IsImage c) e i;
        agrees = λ τ a. (
          λ y. by_test (eqb x y) (λ q. rw (← eqb-true x y q, f) tt) λ q. rw (bind_to-other y q) at (a y),
          rw bind_to-self at (a x),
        );
        binds = λ y g. by_test (eqb x y) (λ q. absurd (let z : false ≡ true = cc (rw q at g) in false≢true z))
            λ q. (rw q at g, other y q);
      }

      bind-bound : (u : Term) → b x ≡ bound u → is_equivalent σ u t ≡ true → MatchedTo (var x) t b b
      bind-bound u f l = record {
        images = i;
        agrees = λ τ a. (
          a,
          then (back (is_equivalent→Equivalent σ binary u t (rw f at (i x)).0 e.0 l)) (rw f at (a x)),
        );
        binds = λ y g. by_test (eqb x y)
            (λ q. absurd (let z : false ≡ true = cc (f, g, eqb-true x y q) in false≢true z)) λ q. (g, other y q);
      }

      bind-matched : (c : Binding) → b x ≡ c → (d : Bindings) → Memᴰ d (bind σ x t b c) → MatchedTo (var x) t b d
      bind-matched free f d m = rw (Memᴰ.eq_of_singleton m) (bind-free f)
      bind-matched (bound u) f d m =
          by_test (is_equivalent σ u t) (λ l. rw (Memᴰ.eq_of_singleton (rw l at m)) (bind-bound u f l))
          λ l. absurd (Memᴰ.not-nil (rw l at m))

  bind-complete : (x : ℕ) (t : Term) (b : Bindings) (c : Binding) → b x ≡ c → (τ : Substitution) →
      Equivalent σ t (τ x) → Agrees σ b τ → (d : Bindings) × Memᴰ d (bind σ x t b c) × Agrees σ d τ
  bind-complete x t b free f τ q a =
      (bind_to x t b, Memᴰ.head refl, bind_to-each x t b (λ y c. AgreesAt σ c (τ y)) q a)
  bind-complete x t b (bound u) f τ q a =
      (b, rw (Equivalent→is_equivalent σ (then (rw f at (a x)) (back q))) (Memᴰ.head refl), a)

  -- ---- patterns

  matched-none : (b : Bindings) → Images b → MatchedAll nil nil b b
  matched-none b i = record { images = i; agrees = λ τ a. (a, none); binds = λ x g. (g, refl) }

  matched-under : {b d : Bindings} {t : Term} {us : Terms} (f : ℕ) (ps : Terms) → Equivalent σ t (app f us) →
      MatchedAll ps us b d → MatchedTo (app f ps) t b d
  matched-under f ps q h = record {
    images = h.images;
    agrees = λ τ a. ((h.agrees τ a).0, then q (under (h.agrees τ a).1));
    binds = λ x g. ((h.binds x g).0, omega (arith, (h.binds x g).1));
  }

  matched-both : {b c d : Bindings} {t : Term} {ts : Terms} (p : Term) (ps : Terms) → MatchedTo p t b c →
      MatchedAll ps ts c d → MatchedAll (cons p ps) (cons t ts) b d
  matched-both p ps h k = record {
    images = k.images;
    agrees = λ τ a. let (g, es) = k.agrees τ a in let (j, q) = h.agrees τ g in (j, each q es);
    binds = λ x g. let (y, n) = k.binds x g in let (z, o) = h.binds x y in (z, omega arith);
  }

  module _ (binary : AcBinary σ) where
    mutual
      unfolding matches

      pub matches-sound : (p t : Term) (b d : Bindings) → Expression σ t → Images b → Memᴰ d (matches σ p t b) →
          MatchedTo p t b d
      matches-sound (var x) t b d e i m = bind-matched x t b binary e i (b x) refl d m
      matches-sound (app f ps) t b d e i m =
          let (us, j, k) = flat_map-member (λ (us : Terms). matches_in σ ps us b) (groupings σ f t) m in
          let q = groupings-sound σ binary f t us e.0 j in
          matched-under f ps q
          (matches_in-sound ps us b d ((expressions σ).inner f us (expression-resp-equivalent σ q e)) i k)

      pub matches_in-sound : (ps ts : Terms) (b d : Bindings) → WellFormeds σ ts × Grounds ts → Images b →
          Memᴰ d (matches_in σ ps ts b) → MatchedAll ps ts b d
      matches_in-sound nil nil b d e i m = rw (Memᴰ.eq_of_singleton m) (matched-none b i)
      matches_in-sound nil (cons t ts) b d e i m = absurd (Memᴰ.not-nil m)
      matches_in-sound (cons p ps) nil b d e i m = absurd (Memᴰ.not-nil m)
      matches_in-sound (cons p ps) (cons t ts) b d e i m =
          let (c, j, k) = flat_map-member (λ (c : Bindings). matches_in σ ps ts c) (matches σ p t b) m in
          let h = matches-sound p t b c ((expressions σ).head t ts e) i j in
          matched-both p ps h (matches_in-sound ps ts c d ((expressions σ).tail t ts e) h.images k)

    -- ---- all bindings

    mutual
      unfolding matches

      pub matches-complete : (p t : Term) (b : Bindings) (τ : Substitution) → WellFormed σ t →
          Equivalent σ t (substitute τ p) → Agrees σ b τ → (d : Bindings) × Memᴰ d (matches σ p t b) × Agrees σ d τ
      matches-complete (var x) t b τ w q a = bind-complete x t b (b x) refl τ q a
      matches-complete (app f ps) t b τ w q a =
          let (us, j, r) = groupings-complete σ binary f t (substitute_in τ ps) w q in
          let v = (formeds-resp-equivalents σ r).1 ((formed-resp-equivalent σ q).0 w).2 in
          let (d, k, g) = matches_in-complete ps us b τ v r a in
          (d, member-flat_map (λ (us : Terms). matches_in σ ps us b) j k, g)

      pub matches_in-complete : (ps ts : Terms) (b : Bindings) (τ : Substitution) → WellFormeds σ ts →
          Equivalents σ ts (substitute_in τ ps) → Agrees σ b τ →
          (d : Bindings) × Memᴰ d (matches_in σ ps ts b) × Agrees σ d τ
      matches_in-complete nil (cons t ts) b τ w x9 a = elim x9 [ ]
      matches_in-complete (cons p ps) nil b τ w x8 a = elim x8 [ ]
      matches_in-complete nil nil b τ w none a = (b, Memᴰ.head refl, a)
      matches_in-complete (cons p ps) (cons t ts) b τ w (each q r) a =
          let (c, j, g) = matches-complete p t b τ w.0 q a in
          let (d, k, h) = matches_in-complete ps ts c τ w.1 r g in
          (d, member-flat_map (λ (c : Bindings). matches_in σ ps ts c) j k, h)
