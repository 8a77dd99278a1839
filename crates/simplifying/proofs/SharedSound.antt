-- What is shared out of a term's elements is what a substitution gives under which the term is the sum.
--     sum-exchanged     a sum of images, in any order
--     shared-sound      the substitution
use mathlib.Core.List.{List, [], ◌∷◌, ◌++◌, map, Memᴰ}
use mathlib.Core.Path.{◌≡◌, sym, ◌∙◌, subst}
use mathlib.Core.Bool.{Bool, true, false, true≢false}
use Prim.Native.Nat.{ℕ, ◌<◌}
use native.Mathlib.Omega.{arith}
use lib.ListN.{length}
use lib.Dec.{eqb}
use borrow.Author.Tests.{eqb-true}
use Rattle.multisets.specs.Multiset.{multiset_equal}
use Rattle.terms.specs.Signature.{Signature, symbol_of, IsSymbol, Admissible}
use Rattle.terms.specs.Term.{Term, flattening, occurrences, Expression}
use Rattle.terms.specs.Equivalence.{Equivalent}
use Rattle.terms.specs.Equivalence.Equivalent.{same, back, then}
use Rattle.terms.specs.Bunch.{bunch_of}
use Rattle.terms.specs.Bunch.Bunch.{full}
use Rattle.terms.specs.Rewriting.{Substitution, substitute, ExpressionSubstitution}
use Rattle.multisets.proofs.Relations.{eqb-equivalence}
use Rattle.multisets.proofs.MultisetLaws.{Takes, multiset_equal-split, multiset_equal-length}
use Rattle.multisets.proofs.MultisetLaws.Takes.{here, later}
use Rattle.multisets.proofs.SortingLaws.{parted-left, parted-right}
use Rattle.terms.proofs.TermLaws.{flattening-each}
use Rattle.terms.proofs.VariableLaws.{expressions}
use Rattle.terms.proofs.EquivalenceSound.{SameBunch, both_empty, same_refl, same-sym, same-trans, join-resp}
use Rattle.terms.proofs.EquivalenceSound.{bunch-append, bunch-takes, flattening-joined}
use Rattle.simplifying.specs.Pooling.{shared_in, Shared, Once, Accounted}
use Rattle.simplifying.proofs.GroupingLaws.{parted-bunch}
use Rattle.simplifying.proofs.ResultLaws.{substitute-agree}
use Rattle.simplifying.proofs.FillingLaws.{bunch-expression}
use Rattle.simplifying.proofs.PoolingLaws.{empty-list, of-full}
use Rattle.simplifying.proofs.SharingLaws.{Sharing, Dropping, shared_in-occurs, map-agree, map-append}
use Rattle.simplifying.proofs.SharingLaws.{filling-sound, drop-sound}

takes-map : {A B : Type 0} (g : A → B) {a : A} {l m : List A} → Takes a l m → Takes (g a) (map g l) (map g m)
takes-map g here = here
takes-map g (later x) = later (takes-map g x)

module _ (σ : Signature) (f : ℕ) (ac : (symbol_of σ f).ac ≡ true) (υ : Substitution) where
  sum-exchanged : (xs ys : List ℕ) → multiset_equal eqb xs ys ≡ true →
      SameBunch σ (bunch_of f (map υ xs)) (bunch_of f (map υ ys))
  sum-exchanged [] ys e =
      rw (empty-list ys (sym (multiset_equal-length eqb eqb-equivalence [] ys e))) both_empty
  sum-exchanged (x ∷ xs) ys e =
      let (y, us, q, t, h) = multiset_equal-split eqb x xs ys e in
      rw (eqb-true x y q) (same-trans σ (join-resp σ f (same_refl σ (full (υ y))) (sum-exchanged xs us h))
      (same-sym σ (bunch-takes σ f ac (takes-map υ t))))

module _ (σ : Signature) (A : Admissible σ) (f : ℕ) (is_symbol : IsSymbol σ f) (ac : (symbol_of σ f).ac ≡ true)
    (shared : ℕ → Bool) (τ : Substitution) (images : ExpressionSubstitution σ τ) where
  sums : (l : List Term) → ((u : Term) → Memᴰ u l → Expression σ u) → (t : Term) → bunch_of f l ≡ full t →
      Expression σ t
  sums = bunch-expression σ A f is_symbol ac shared τ (λ x e. images x)

  module _ (r u : Term) (xs ds : List ℕ) (v : Term) (e : Expression σ u) (once : Once shared r)
      (accounted : Accounted shared r xs ds) (s : Shared f shared τ r (flattening f u) (length ds) v) where
    element : (t : Term) → Memᴰ t (flattening f u) → Expression σ t
    element t m = flattening-each (expressions σ) t u f e m

    abbrev Filled : Type 0
    Filled = Sharing σ f ac shared τ (Expression σ) images sums (shared_in shared r) s.kept λ υ.
        Equivalent σ v (substitute υ r)

    filled : Filled
    filled =
        filling-sound σ f ac shared τ (Expression σ) images sums s.filling once
        λ t m. element t (parted-left s.parts t m)

    module _ (a : Filled) (b : Dropping σ f ac shared τ (Expression σ) images sums a.substitution ds s.dropped)
      where
        kept_same : (x : ℕ) → 0 < occurrences x r → a.substitution x ≡ b.substitution x
        kept_same x h = sym (b.others x λ m. omega (arith, accounted.absent x m))

        whole_sum : SameBunch σ (full u) (bunch_of f (map b.substitution xs))
        whole_sum =
            let x : map a.substitution (shared_in shared r) ≡ map b.substitution (shared_in shared r) =
            map-agree a.substitution b.substitution (shared_in shared r)
            (λ y i. kept_same y (shared_in-occurs shared r y i).1) in
            same-trans σ (same-sym σ (flattening-joined σ f ac A.ac_binary u e.0))
            (same-trans σ (parted-bunch σ f ac s.parts)
            (same-trans σ (join-resp σ f (rw x at a.sum) b.sum)
            (same-trans σ (same-sym σ (bunch-append σ f ac (map b.substitution (shared_in shared r))
            (map b.substitution ds)))
            (rw (map-append b.substitution (shared_in shared r) ds) at (same-sym σ
            (sum-exchanged σ f ac b.substitution xs (shared_in shared r ++ ds) accounted.all))))))

    -- A substitution that differs on shared variables alone, gives v for r, and puts for xs what u is the sum of.
    pub shared-sound :
        (υ : Substitution) × ExpressionSubstitution σ υ × ((x : ℕ) → shared x ≡ false → υ x ≡ τ x) ×
        Equivalent σ v (substitute υ r) × ((t : Term) × (bunch_of f (map υ xs) ≡ full t) × Equivalent σ u t)
    shared-sound =
        let a = filled in
        let b = drop-sound σ f ac shared τ (Expression σ) images sums a.substitution a.image ds s.dropped
        s.enough s.exact accounted.distinct (λ t m. element t (parted-right s.parts t m)) in
        let (t, q, d) = of-full σ A.ac_binary f ac (bunch_of f (map b.substitution xs)) u
        (same-sym σ (whole_sum a b)) in (
          b.substitution,
          b.image,
          λ x h. b.others x (λ m. true≢false (sym (accounted.dropped x m) ∙ h)) ∙ a.others x h,
          then a.gives (substitute-agree σ a.substitution b.substitution r λ x h.
              subst (λ (w : Term). Equivalent σ (a.substitution x) w) (kept_same a b x h) same),
          (t, q, back d),
        )
