-- Flattenings for f: where their elements come from, their roots, and how long they are.
--     flattenings-member                    an element is one of an argument's flattening
--     flattenings-among                     of arguments among others
--     NotRoot, flattenings-roots            no element has the root f
--     flattening-long, flattenings-long     an element at the least for each argument
use mathlib.Core.List.Memᴰ
use mathlib.Core.List.{List, [], ◌∷◌, ◌++◌, append_assoc, Memᴰ}
use mathlib.Core.Logic.{⊎_elim}
use mathlib.Core.Path.{◌≡◌, refl, ap}
use mathlib.Core.Bool.{false}
use Prim.Native.Nat.{ℕ, ◌≤◌}
use native.Mathlib.Omega.{arith}
use lib.ListN.{length, length-append}
use lib.Dec.{eqb}
use borrow.Author.Tests.{eqb-true}
use Rattle.terms.specs.Signature.{Signature, symbol_of}
use Rattle.terms.specs.Term.{Term, Terms, row, arguments, flattening, flattenings, WellFormed, WellFormeds}
use Rattle.terms.specs.Term.Term.{var, app}
use Rattle.terms.specs.Term.Terms.{nil, cons}
use Rattle.multisets.proofs.Relations.{by_test}

module _ (f : ℕ) where
  pub flattenings-member : (ts : Terms) (u : Term) → Memᴰ u (flattenings f ts) →
      (t : Term) × Memᴰ t (row ts) × Memᴰ u (flattening f t)
  flattenings-member nil u m = absurd (Memᴰ.not-nil m)
  flattenings-member (cons t ts) u m =
      ⊎_elim (λ k. (t, Memᴰ.head refl, k))
      (λ k. let (s, i, j) = flattenings-member ts u k in (s, Memᴰ.tail i, j))
      (Memᴰ.append_cases (flattening f t) m)

  pub flattenings-among : (ss ts : List Term) (s : Term) →
      flattenings f (arguments (ss ++ (s ∷ ts))) ≡
      flattenings f (arguments ss) ++ (flattening f s ++ flattenings f (arguments ts))
  flattenings-among [] ts s = refl
  flattenings-among (r ∷ ss) ts s = rw (flattenings-among ss ts s, append_assoc)

  -- A variable, or a term that another symbol heads.
  abbrev pub NotRoot : Term → Type 0
  NotRoot (var x) = Unit {0}
  NotRoot (app g ts) = eqb f g ≡ false

  mutual
    pub flattening-roots : (t u : Term) → Memᴰ u (flattening f t) → NotRoot u
    flattening-roots (var x) u m = rw (Memᴰ.eq_of_singleton m) tt
    flattening-roots (app g ts) u m =
        by_test (eqb f g) (λ e. flattenings-roots ts u (rw e at m)) λ e. rw (Memᴰ.eq_of_singleton (rw e at m)) e

    pub flattenings-roots : (ts : Terms) (u : Term) → Memᴰ u (flattenings f ts) → NotRoot u
    flattenings-roots nil u m = absurd (Memᴰ.not-nil m)
    flattenings-roots (cons t ts) u m =
        ⊎_elim (λ k. flattening-roots t u k) (λ k. flattenings-roots ts u k)
        (Memᴰ.append_cases (flattening f t) m)

module _ (σ : Signature) (f : ℕ) (binary : (symbol_of σ f).arity ≡ 2) where
  mutual
    pub flattening-long : (t : Term) → WellFormed σ t → 1 ≤ length (flattening f t)
    flattening-long (var x) w = omega arith
    flattening-long (app g ts) (i, n, w) =
        by_test (eqb f g)
        (λ e. rw e (omega (
          arith,
          ap (λ (h : ℕ). (symbol_of σ h).arity) (eqb-true f g e),
          flattenings-long ts w,
        )))
        λ e. rw e (omega arith)

    pub flattenings-long : (ts : Terms) → WellFormeds σ ts → length (row ts) ≤ length (flattenings f ts)
    flattenings-long nil w = omega arith
    flattenings-long (cons t ts) (v, w) =
        simp length-append (omega (arith, flattening-long t v, flattenings-long ts w))
