-- Fingerprints: that of each kind of term, and that AC-equivalent terms have the same.
--     in_row-same, in_row-lt, in_bag-same, in_bag-append     rows and multisets of fingerprints
--     fingerprint-var, fingerprint-app                   what the definition says, with no depth in it
--     fingerprint-lt                                     32 bits
--     fingerprint-resp-equivalent                        AC-equivalent terms
use mathlib.Core.List.{List, [], ◌∷◌, ◌++◌, Memᴰ}
use mathlib.Core.Path.{◌≡◌, refl, sym, ap, ap₂, ◌∙◌, subst}
use mathlib.Core.Bool.{true, cond}
use Prim.Native.Nat.{ℕ, suc, zero, ◌+◌, ◌*◌, ◌^◌, ◌≤◌, ◌<◌}
use native.Mathlib.Omega.{arith}
use lib.Dec.{eqb}
use lib.ListN.{length}
use borrow.Author.Tests.{eqb-true}
use Rattle.multisets.proofs.Relations.{by_test, eqb-self}
use Rattle.terms.specs.Signature.{Signature, symbol_of}
use Rattle.terms.specs.Term.{Term, Terms, size, sizes, row, flattening, flattenings, WellFormed}
use Rattle.terms.specs.Term.Term.{var, app}
use Rattle.terms.specs.Term.Terms.{nil, cons}
use Rattle.terms.specs.Words.{first_variable}
use Rattle.terms.specs.Equivalence.{Equivalent, Equivalents, pair}
use Rattle.terms.specs.Equivalence.Equivalent.{same, back, then, under, exchange, regroup}
use Rattle.terms.specs.Equivalence.Equivalents.{none, each}
use Rattle.terms.specs.Fingerprint.{row_factor, bag_factor, wrapped, in_row, in_bag, fingerprint_to, fingerprint}
use Rattle.terms.proofs.TermLaws.{size-pos, row-smaller, flattenings-smaller}

-- ---- rows and multisets

module _ {A : Type 0} (print print' : A → ℕ) where
  pub in_row-same : (l : List A) → ((a : A) → Memᴰ a l → print a ≡ print' a) → (v : ℕ) →
      in_row print v l ≡ in_row print' v l
  in_row-same [] h v = refl
  in_row-same (a ∷ l) h v =
      rw (h a (Memᴰ.head refl)) (in_row-same l (λ b m. h b (Memᴰ.tail m)) _)

  pub in_bag-same : (l : List A) → ((a : A) → Memᴰ a l → print a ≡ print' a) → in_bag print l ≡ in_bag print' l
  in_bag-same [] h = refl
  in_bag-same (a ∷ l) h = ap₂ ◌+◌ (h a (Memᴰ.head refl)) (in_bag-same l (λ b m. h b (Memᴰ.tail m)))

pub in_row-lt : {A : Type 0} (print : A → ℕ) (l : List A) (v : ℕ) → v < 2 ^ 32 → in_row print v l < 2 ^ 32
in_row-lt print [] v h = h
in_row-lt print (a ∷ l) v h = in_row-lt print l (wrapped (row_factor * v + print a)) (omega arith)

pub in_bag-append : {A : Type 0} (print : A → ℕ) (l m : List A) → in_bag print (l ++ m) ≡ in_bag print l + in_bag print m
in_bag-append print [] m = omega arith
in_bag-append print (a ∷ l) m = omega (arith, in_bag-append print l m)

module _ (σ : Signature) where
  -- ---- one step of the definition

  -- A symbol's fingerprint, by those of its multiset and of its row.
  abbrev step : (Term → ℕ) → ℕ → Terms → ℕ
  step print q ts =
      cond (symbol_of σ q).ac (wrapped (bag_factor * (q + 1) + in_bag print (flattenings q ts)))
      (in_row print (q + 1) (row ts))

  step_same : (print print' : Term → ℕ) (q : ℕ) (ts : Terms) →
      ((t : Term) → size t ≤ sizes ts → print t ≡ print' t) → step print q ts ≡ step print' q ts
  step_same print print' q ts h =
      rw (
        in_bag-same print print' (flattenings q ts) (λ t m. h t (flattenings-smaller ts q t m)),
        in_row-same print print' (row ts) (λ t m. h t (row-smaller ts t m)) (q + 1),
      )

  depth : (n m : ℕ) (t : Term) → size t ≤ n → size t ≤ m → fingerprint_to σ n t ≡ fingerprint_to σ m t
  unfolding fingerprint_to
  depth zero m t h k = absurd (omega (arith, size-pos t))
  depth (suc n) zero t h k = absurd (omega (arith, size-pos t))
  depth (suc n) (suc m) (var x) h k = refl
  depth (suc n) (suc m) (app q ts) h k =
      step_same (fingerprint_to σ n) (fingerprint_to σ m) q ts λ t l. depth n m t (omega arith) (omega arith)

  to-depth : (n : ℕ) (t : Term) → size t ≤ n → fingerprint σ t ≡ fingerprint_to σ n t
  unfolding fingerprint
  to-depth n t h = depth (size t) n t (omega arith) h

  pub fingerprint-var : (x : ℕ) → fingerprint σ (var x) ≡ first_variable + x + 1
  unfolding fingerprint fingerprint_to
  fingerprint-var x = refl

  pub fingerprint-app : (q : ℕ) (ts : Terms) → fingerprint σ (app q ts) ≡
      cond (symbol_of σ q).ac (wrapped (bag_factor * (q + 1) + in_bag (fingerprint σ) (flattenings q ts)))
      (in_row (fingerprint σ) (q + 1) (row ts))
  unfolding fingerprint_to
  fingerprint-app q ts =
      to-depth (suc (sizes ts)) (app q ts) (omega arith)
      ∙ step_same (fingerprint_to σ (sizes ts)) (fingerprint σ) q ts λ t l. sym (to-depth (sizes ts) t l)

  pub fingerprint-lt : length σ.symbols ≤ first_variable → (t : Term) → WellFormed σ t → fingerprint σ t < 2 ^ 32
  fingerprint-lt few (var x) h = rw (fingerprint-var x) (omega arith)
  fingerprint-lt few (app q ts) h =
      rw (fingerprint-app q ts) (by_test (symbol_of σ q).ac (λ e. rw e (omega arith))
      λ e. rw e (in_row-lt (fingerprint σ) (row ts) (q + 1) (omega (arith, h.0))))

  -- ---- AC-equivalent terms

  -- The fingerprints of a term's multiset for f together, and those of the arguments of f.
  abbrev bag_of : ℕ → Term → ℕ
  bag_of f t = in_bag (fingerprint σ) (flattening f t)

  abbrev bags_of : ℕ → Terms → ℕ
  bags_of f ts = in_bag (fingerprint σ) (flattenings f ts)

  -- Two terms that no fingerprint tells apart, and two rows of arguments.
  record Same (s t : Term) : Type 0 where
    print : fingerprint σ s ≡ fingerprint σ t
    bag : (f : ℕ) → bag_of f s ≡ bag_of f t

  record SameRows (ss ts : Terms) : Type 0 where
    in_rows : (v : ℕ) → in_row (fingerprint σ) v (row ss) ≡ in_row (fingerprint σ) v (row ts)
    bags : (f : ℕ) → bags_of f ss ≡ bags_of f ts

  module _ (f : ℕ) (ss ts : Terms) (b : bags_of f ss ≡ bags_of f ts) where
    own-bag : bag_of f (app f ss) ≡ bag_of f (app f ts)
    own-bag = rw (eqb-self f) b

    same-symbol : fingerprint σ (app f ss) ≡ fingerprint σ (app f ts) → Same (app f ss) (app f ts)
    same-symbol e = record {
      print = e;
      bag = λ g. by_test (eqb g f)
          (λ i. subst (λ (h : ℕ). bag_of h (app f ss) ≡ bag_of h (app f ts)) (sym (eqb-true g f i)) own-bag)
          λ i. rw (i, e);
    }

    same-ac : (symbol_of σ f).ac ≡ true → Same (app f ss) (app f ts)
    same-ac a = same-symbol (fingerprint-app f ss ∙ (rw (a, b) refl) ∙ sym (fingerprint-app f ts))

  same-under : (f : ℕ) (ss ts : Terms) → SameRows ss ts → Same (app f ss) (app f ts)
  same-under f ss ts r =
      same-symbol f ss ts (r.bags f)
      (fingerprint-app f ss ∙ (rw (r.bags f, r.in_rows (f + 1)) refl) ∙ sym (fingerprint-app f ts))

  bags-cons : (f : ℕ) (t : Term) (ts : Terms) → bags_of f (cons t ts) ≡ bag_of f t + bags_of f ts
  bags-cons f t ts = in_bag-append (fingerprint σ) (flattening f t) (flattenings f ts)

  bags-pair : (f : ℕ) (s t : Term) → bags_of f (pair s t) ≡ bag_of f s + bag_of f t
  bags-pair f s t = omega (arith, bags-cons f s (cons t nil), bags-cons f t nil)

  bag-pair : (f : ℕ) (s t : Term) → bag_of f (app f (pair s t)) ≡ bag_of f s + bag_of f t
  bag-pair f s t = rw (eqb-self f) (bags-pair f s t)

  bags-exchange : (f : ℕ) (s t : Term) → bags_of f (pair s t) ≡ bags_of f (pair t s)
  bags-exchange f s t = omega (arith, bags-pair f s t, bags-pair f t s)

  bags-regroup : (f : ℕ) (s t u : Term) → bags_of f (pair (app f (pair s t)) u) ≡ bags_of f (pair s (app f (pair t u)))
  bags-regroup f s t u =
      omega (
        arith,
        bags-pair f (app f (pair s t)) u,
        bags-pair f s (app f (pair t u)),
        bag-pair f s t,
        bag-pair f t u,
      )

  mutual
    same-of-equivalent : {s t : Term} → Equivalent σ s t → Same s t
    same-of-equivalent same = record { print = refl; bag = λ f. refl }
    same-of-equivalent (back d) =
        let h = same-of-equivalent d in record { print = sym h.print; bag = λ f. sym (h.bag f) }
    same-of-equivalent (then d e) =
        let h = same-of-equivalent d in
        let k = same-of-equivalent e in
        record { print = h.print ∙ k.print; bag = λ f. h.bag f ∙ k.bag f }
    same-of-equivalent (under {f} {ss} {ts} d) = same-under f ss ts (same-of-equivalents d)
    same-of-equivalent (exchange {f} {s} {t} a) = same-ac f (pair s t) (pair t s) (bags-exchange f s t) a
    same-of-equivalent (regroup {f} {s} {t} {u} a) =
        same-ac f (pair (app f (pair s t)) u) (pair s (app f (pair t u))) (bags-regroup f s t u) a

    same-of-equivalents : {ss ts : Terms} → Equivalents σ ss ts → SameRows ss ts
    same-of-equivalents none = record { in_rows = λ v. refl; bags = λ f. refl }
    same-of-equivalents (each {s} {t} {ss} {ts} d r) =
        let h = same-of-equivalent d in
        let k = same-of-equivalents r in
        record {
          in_rows = λ v. ap (λ (x : ℕ). in_row (fingerprint σ) (wrapped (row_factor * v + x)) (row ss)) h.print
              ∙ k.in_rows _;
          bags = λ f. bags-cons f s ss ∙ ap₂ ◌+◌ (h.bag f) (k.bags f) ∙ sym (bags-cons f t ts);
        }

  pub fingerprint-resp-equivalent : {s t : Term} → Equivalent σ s t → fingerprint σ s ≡ fingerprint σ t
  fingerprint-resp-equivalent d = (same-of-equivalent d).print
