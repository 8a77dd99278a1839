-- The test passes on AC-equivalent terms, and their flattenings are equal as multisets.
use mathlib.Core.List.{[], ◌++◌, append-nil, append_assoc}
use mathlib.Core.Path.{◌≡◌, refl}
use mathlib.Core.Bool.{true, false≢true, and-eq-true_iff as both}
use Prim.Native.Nat.{ℕ}
use lib.Dec.{eqb}
use borrow.Author.Tests.{eqb-true}
use Rattle.terms.specs.Signature.{Signature, symbol_of}
use Rattle.terms.specs.Term.{Term, Terms, row, flattening, flattenings}
use Rattle.terms.specs.Term.Term.{var, app}
use Rattle.multisets.specs.Multiset.{multiset_equal, row_equal}
use Rattle.terms.specs.Equivalence.{pair, Equivalent, Equivalents, is_equivalent_to, is_equivalent}
use Rattle.terms.specs.Equivalence.Equivalent.{same, back, then, under, exchange, regroup}
use Rattle.terms.specs.Equivalence.Equivalents.{none, each}
use Rattle.multisets.proofs.Relations.{by_test, IsEquivalence, eqb-self}
use Rattle.multisets.proofs.MultisetLaws.{multiset_equal-equivalence, multiset_equal-append, multiset_equal-swap}
use Rattle.multisets.proofs.MultisetLaws.{multiset_equal-one}
use Rattle.terms.proofs.EquivalenceLaws.{is_equivalent-equivalence, symbol-of-is_equivalent}
use Rattle.terms.proofs.EquivalenceLaws.{arguments-of-is_equivalent, is_equivalent-of-arguments}

module _ (σ : Signature) where
  E : IsEquivalence (is_equivalent σ)
  E = is_equivalent-equivalence σ

  module _ (f : ℕ) (ac : (symbol_of σ f).ac ≡ true) where
    of-flattenings : (ss ts : Terms) → multiset_equal (is_equivalent σ) (flattenings f ss) (flattenings f ts) ≡ true →
        is_equivalent σ (app f ss) (app f ts) ≡ true
    of-flattenings ss ts h = is_equivalent-of-arguments σ f ss ts (rw ac h)

    pub flattening-resp-is_equivalent : (s t : Term) → is_equivalent σ s t ≡ true →
        multiset_equal (is_equivalent σ) (flattening f s) (flattening f t) ≡ true
    unfolding is_equivalent is_equivalent_to
    flattening-resp-is_equivalent (var x) (var y) h = multiset_equal-one (is_equivalent σ) E {s = var x} {t = var y} h
    flattening-resp-is_equivalent (var x) (app g ts) h = absurd (false≢true h)
    flattening-resp-is_equivalent (app g ss) (var y) h = absurd (false≢true (E.symmetric {a = app g ss} {b = var y} h))
    flattening-resp-is_equivalent (app g ss) (app i ts) h =
        let p = symbol-of-is_equivalent σ g i ss ts h in
        rw (← p) (by_test (eqb f g)
        (λ e. let q = eqb-true f g e in rw e (rw ac at (rw (← q) at (arguments-of-is_equivalent σ g i ss ts h))))
        λ e. rw e (multiset_equal-one (is_equivalent σ) E {s = app g ss} {t = app g ts} (rw (← p) at h)))

    is_equivalent-exchange : (s t : Term) → is_equivalent σ (app f (pair s t)) (app f (pair t s)) ≡ true
    is_equivalent-exchange s t =
        of-flattenings (pair s t) (pair t s)
        (simp append-nil (multiset_equal-swap (is_equivalent σ) E (flattening f s) (flattening f t)))

    is_equivalent-regroup : (s t u : Term) →
        is_equivalent σ (app f (pair (app f (pair s t)) u)) (app f (pair s (app f (pair t u)))) ≡ true
    is_equivalent-regroup s t u = of-flattenings (pair (app f (pair s t)) u) (pair s (app f (pair t u)))
        (simp (eqb-self, append-nil, append_assoc)
        ((multiset_equal-equivalence (is_equivalent σ) E).reflexive
        (flattening f s ++ (flattening f t ++ flattening f u))))

  mutual
    unfolding row_equal

    pub Equivalent→is_equivalent : {s t : Term} → Equivalent σ s t → is_equivalent σ s t ≡ true
    Equivalent→is_equivalent (same {t}) = E.reflexive t
    Equivalent→is_equivalent (back d) = E.symmetric (Equivalent→is_equivalent d)
    Equivalent→is_equivalent (then d e) = E.transitive (Equivalent→is_equivalent d) (Equivalent→is_equivalent e)
    Equivalent→is_equivalent (under {f} {ss} {ts} d) =
        is_equivalent-of-arguments σ f ss ts
        (by_test (symbol_of σ f).ac (λ a. rw a (flattenings-equal d f a)) λ a. rw a (rows-equal d))
    Equivalent→is_equivalent (exchange {f} {s} {t} a) = is_equivalent-exchange f a s t
    Equivalent→is_equivalent (regroup {f} {s} {t} {u} a) = is_equivalent-regroup f a s t u

    rows-equal : {ss ts : Terms} → Equivalents σ ss ts → row_equal (is_equivalent σ) (row ss) (row ts) ≡ true
    rows-equal none = refl
    rows-equal (each d r) = (both _ _).1 (Equivalent→is_equivalent d, rows-equal r)

    flattenings-equal : {ss ts : Terms} → Equivalents σ ss ts → (f : ℕ) → (symbol_of σ f).ac ≡ true →
        multiset_equal (is_equivalent σ) (flattenings f ss) (flattenings f ts) ≡ true
    flattenings-equal none f a = (multiset_equal-equivalence (is_equivalent σ) E).reflexive []
    flattenings-equal (each {s} {t} {ss} {ts} d r) f a =
        multiset_equal-append (is_equivalent σ) E (flattening f s) (flattening f t) (flattenings f ss) (flattenings f ts)
        (flattening-resp-is_equivalent f a s t (Equivalent→is_equivalent d)) (flattenings-equal r f a)
