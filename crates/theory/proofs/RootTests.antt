-- Tests of a term that go by its root, and likenesses that keep roots.
--     KeepsRoots, is_equivalent-root          a likeness that keeps roots
--     RootTest, above-test, below-test       a test that goes by the root and that no variable passes
--     root_test-respects, is_var-respects      like terms share such tests
--     parts-equal                            what they choose of equal multisets is equal
--     not-both                               no variable passes one
--     Placed, place, above-says, below-says  a root above f, f itself, or below f; what the tests say
--     root-apart, high-not-low               every root but f is above f or below it, and no root is both
use mathlib.Core.List.{List}
use mathlib.Core.Path.{◌≡◌, refl, sym, ap, ◌∙◌}
use mathlib.Core.Bool.{Bool, true, false, not, false≢true}
use Prim.Native.Nat.{ℕ, ◌<◌}
use native.Mathlib.Omega.{arith}
use lib.Dec.{eqb}
use borrow.Author.Tests.{eqb-false, eqb-true, le-ltb, lt-ltb, ltb-true, ne_eqb}
use Rattle.multisets.specs.Multiset.{choose, multiset_equal}
use Rattle.terms.specs.Signature.{Signature, symbol_of, IsSymbol, Admissible}
use Rattle.terms.specs.Term.{Term, Terms, is_var, root_of}
use Rattle.terms.specs.Term.Term.{var, app}
use Rattle.terms.specs.Equivalence.{is_equivalent_to, is_equivalent}
use Rattle.terms.specs.Order.{root_above, root_below}
use Rattle.multisets.proofs.Relations.{by_order, IsEquivalence}
use Rattle.multisets.proofs.MultisetLaws.{Respects}
use Rattle.multisets.proofs.MultisetMaps.{multiset_equal-choose}
use Rattle.terms.proofs.EquivalenceLaws.{is_equivalent-app-var, symbol-of-is_equivalent}

-- A likeness of terms that keeps roots.
abbrev pub KeepsRoots : (Term → Term → Bool) → Type 0
KeepsRoots like = (s t : Term) → like s t ≡ true → root_of s ≡ root_of t

pub record RootTest (p : Term → Bool) : Type 0 where
  pub variable : (x : ℕ) → p (var x) ≡ false
  pub by_root : (g : ℕ) (ss ts : Terms) → p (app g ss) ≡ p (app g ts)

pub above-test : (σ : Signature) (f : ℕ) → RootTest (root_above σ f)
above-test σ f = record { variable = λ x. refl; by_root = λ g ss ts. refl }

pub below-test : (σ : Signature) (f : ℕ) → RootTest (root_below σ f)
below-test σ f = record { variable = λ x. refl; by_root = λ g ss ts. refl }

pub not-both : {p : Term → Bool} → RootTest p → (u : Term) → p u ≡ true → is_var u ≡ true → ⊥
not-both P (var x) h k = false≢true (sym (P.variable x) ∙ h)
not-both P (app g us) h k = false≢true k

-- What goes by the root is the same for terms with one root.
root-shared : (p : Term → Bool) → ((x y : ℕ) → p (var x) ≡ p (var y)) →
    ((g : ℕ) (ss ts : Terms) → p (app g ss) ≡ p (app g ts)) → (s t : Term) → root_of s ≡ root_of t → p s ≡ p t
root-shared p v r (var x) (var y) e = v x y
root-shared p v r (var x) (app g ts) e = absurd (let z : false ≡ true = cc e in false≢true z)
root-shared p v r (app f ss) (var y) e = absurd (let z : false ≡ true = cc e in false≢true z)
root-shared p v r (app f ss) (app g ts) e = let q : f ≡ g = cc e in rw (← q) (r f ss ts)

module _ {like : Term → Term → Bool} (roots : KeepsRoots like) where
  pub root_test-respects : {p : Term → Bool} → RootTest p → Respects like p
  root_test-respects {p} P s t e =
      root-shared p (λ x y. P.variable x ∙ sym (P.variable y)) P.by_root s t (roots s t e)

  pub is_var-respects : Respects like is_var
  is_var-respects s t e = root-shared is_var (λ x y. refl) (λ g ss ts. refl) s t (roots s t e)

-- What such a test chooses of equal multisets is equal.
pub parts-equal : {like : Term → Term → Bool} → IsEquivalence like → KeepsRoots like → {p : Term → Bool} → RootTest p →
    (ss ts : List Term) → multiset_equal like ss ts ≡ true → multiset_equal like (choose p ss) (choose p ts) ≡ true
parts-equal {like} E roots {p} P = multiset_equal-choose like E p (root_test-respects roots P)

pub is_equivalent-root : (σ : Signature) → KeepsRoots (is_equivalent σ)
unfolding is_equivalent is_equivalent_to
is_equivalent-root σ (var x) (var y) e = ap (λ (z : ℕ). root_of (var z)) (eqb-true x y e)
is_equivalent-root σ (var x) (app g ts) e = absurd (false≢true e)
is_equivalent-root σ (app f ss) (var y) e = absurd (false≢true (sym (is_equivalent-app-var σ f y ss) ∙ e))
is_equivalent-root σ (app f ss) (app g ts) e =
    ap (λ (h : ℕ). root_of (app h ss)) (symbol-of-is_equivalent σ f g ss ts e)

-- ---- a root beside the symbol f

pub high-not-low : (σ : Signature) (f : ℕ) (t : Term) → root_above σ f t ≡ true → root_below σ f t ≡ true → ⊥
high-not-low σ f (var x) h k = false≢true h
high-not-low σ f (app g us) h k =
    let i = ltb-true (symbol_of σ f).precedence (symbol_of σ g).precedence h in
    let j = ltb-true (symbol_of σ g).precedence (symbol_of σ f).precedence k in
    omega arith

module _ (σ : Signature) (f g : ℕ) where
  pub data Placed : Type 0 where
    placed_above : (symbol_of σ f).precedence < (symbol_of σ g).precedence → Placed
    placed_own : f ≡ g → Placed
    placed_below : (symbol_of σ g).precedence < (symbol_of σ f).precedence → Placed

  pub place : Admissible σ → IsSymbol σ f → IsSymbol σ g → Placed
  place A i j =
      by_order (symbol_of σ f).precedence (symbol_of σ g).precedence placed_above
      λ h. by_order (symbol_of σ g).precedence (symbol_of σ f).precedence placed_below
      λ k. placed_own (A.precedences_differ f g i j (omega arith))

  -- What the tests say of a term with the root g.
  abbrev pub RootSays : Bool → Bool → Type 0
  RootSays high low =
      (eqb f g ≡ false) ×
      ((us : Terms) → root_above σ f (app g us) ≡ high) × ((us : Terms) → root_below σ f (app g us) ≡ low)

  apart_of : ((symbol_of σ f).precedence ≡ (symbol_of σ g).precedence → ⊥) → eqb f g ≡ false
  apart_of h = ne_eqb f g λ e. h (ap (λ (k : ℕ). (symbol_of σ k).precedence) e)

  pub above-says : (symbol_of σ f).precedence < (symbol_of σ g).precedence → RootSays true false
  above-says l =
      let i = le-ltb (symbol_of σ g).precedence (symbol_of σ f).precedence (omega arith) in
      (apart_of λ e. omega arith, λ us. lt-ltb _ _ l, λ us. i)

  pub below-says : (symbol_of σ g).precedence < (symbol_of σ f).precedence → RootSays false true
  below-says l =
      let i = le-ltb (symbol_of σ f).precedence (symbol_of σ g).precedence (omega arith) in
      (apart_of λ e. omega arith, λ us. i, λ us. lt-ltb _ _ l)

  -- A root other than f is high or low.
  pub root-apart : Admissible σ → IsSymbol σ f → IsSymbol σ g → eqb f g ≡ false → (us : Terms) →
      root_above σ f (app g us) ≡ not (root_below σ f (app g us))
  root-apart A i j n us = elim (place A i j) [
    | placed_above l ↦ let (_, a, b) = above-says l in a us ∙ ap not (sym (b us))
    | placed_own e ↦ absurd (eqb-false f g n e)
    | placed_below l ↦ let (_, a, b) = below-says l in a us ∙ ap not (sym (b us))
  ]
