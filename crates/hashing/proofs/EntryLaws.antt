-- Entries of terms: what is read of them, and what is kept of a node by those of its arguments.
--     past-last                          what the signature says of the words of variables
--     fingerprint_in-entry               an entry tells the fingerprint of its term
--     kept_by-symbol                     what is kept of a node, by its arguments' entries
use Rattle.std.proofs.Common.{◌≡◌, ℕ, ◌+◌, ◌*◌, ◌≤◌, true, false, cond, eqb, List, [], ◌∷◌, map, length, sym, refl, ap, ◌∙◌, arith, eqb-true}
use lib.ListN.{get_or-eq_default}
use Rattle.multisets.proofs.Relations.{by_test}
use Rattle.terms.specs.Signature.{Signature, symbol_of}
use Rattle.terms.specs.Term.{Term, Terms, arguments, flattening, flattenings}
use Rattle.terms.specs.Term.Term.{var, app}
use Rattle.terms.specs.Words.{first_variable}
use Rattle.terms.specs.Fingerprint.{row_factor, bag_factor, wrapped, in_row, in_bag, fingerprint}
use Rattle.terms.proofs.TermLaws.{row-arguments}
use Rattle.terms.proofs.FingerprintLaws.{in_bag-append, fingerprint-var, fingerprint-app}
use Rattle.subterms.specs.Parts.{root_word}
use Rattle.hashing.specs.Entries.{kept_of, term_entry, fingerprint_in, added_in, kept_by}

module _ (σ : Signature) (few : length σ.symbols ≤ first_variable) where
  pub past-last : (w : ℕ) → first_variable ≤ w →
      symbol_of σ w ≡ record { arity = 0; ac = false; weight = 0; precedence = 0; coefficients = [] }
  past-last w h = get_or-eq_default σ.symbols _ (omega arith)

  -- ---- what an entry tells

  -- The fingerprint by the root and by what is kept.
  by-kept : (t : Term) → fingerprint σ t ≡
      cond (symbol_of σ (root_word t)).ac (wrapped (bag_factor * (root_word t + 1) + kept_of σ t)) (kept_of σ t)
  by-kept (var x) = rw (past-last (first_variable + x) (omega arith)) (fingerprint-var σ x)
  by-kept (app f ts) =
      by_test (symbol_of σ f).ac (λ a. fingerprint-app σ f ts ∙ rw a (omega arith))
      λ a. fingerprint-app σ f ts ∙ rw a

  pub fingerprint_in-entry : (t : Term) → fingerprint_in σ (term_entry σ t) ≡ fingerprint σ t
  fingerprint_in-entry t = sym (by-kept t)

  -- ---- arguments

  module _ (f : ℕ) (ac : (symbol_of σ f).ac ≡ true) where
    own-kept : (g : ℕ) (ts : Terms) → f ≡ g →
        kept_of σ (app g ts) ≡ wrapped (in_bag (fingerprint σ) (flattenings f ts))
    own-kept g ts e =
        let a : (symbol_of σ g).ac ≡ true = ap (λ (h : ℕ). (symbol_of σ h).ac) (sym e) ∙ ac in rw (a, e) refl

    added-entry : (t : Term) →
        added_in σ f (term_entry σ t) ≡ cond (eqb f (root_word t)) (kept_of σ t) (fingerprint σ t)
    added-entry t = rw (fingerprint_in-entry t)

    added-bag : (t : Term) → wrapped (added_in σ f (term_entry σ t)) ≡ wrapped (in_bag (fingerprint σ) (flattening f t))
    added-bag (var x) =
        let z = fingerprint-var σ x in
        rw (added-entry (var x))
        (by_test (eqb f (first_variable + x)) (λ e. rw e (omega arith)) λ e. rw e (omega arith))
    added-bag (app g ts) =
        rw (added-entry (app g ts))
        (by_test (eqb f g) (λ e. rw e (omega (arith, own-kept g ts (eqb-true f g e)))) λ e. rw e (omega arith))

    added-entries : (l : List Term) →
        wrapped (in_bag (added_in σ f) (map (term_entry σ) l))
        ≡ wrapped (in_bag (fingerprint σ) (flattenings f (arguments l)))
    added-entries [] = refl
    added-entries (t ∷ l) =
        omega (
          arith,
          added-bag t,
          added-entries l,
          in_bag-append (fingerprint σ) (flattening f t) (flattenings f (arguments l)),
        )

  row-entries : (l : List Term) (v : ℕ) →
      in_row (fingerprint_in σ) v (map (term_entry σ) l) ≡ in_row (fingerprint σ) v l
  row-entries [] v = refl
  row-entries (t ∷ l) v =
      ap (λ (x : ℕ). in_row (fingerprint_in σ) (wrapped (row_factor * v + x)) (map (term_entry σ) l))
      (fingerprint_in-entry t)
      ∙ row-entries l (wrapped (row_factor * v + fingerprint σ t))

  pub kept_by-symbol : (f : ℕ) (l : List Term) →
      kept_by σ f (map (term_entry σ) l) ≡ kept_of σ (app f (arguments l))
  kept_by-symbol f l =
      by_test (symbol_of σ f).ac (λ a. rw a (added-entries f a l))
      λ a. rw (a, row-arguments) (row-entries l (f + 1))
