-- Sharing out the elements of a term among variables: every substitution is found, and every filling is one.
--     multiset-joined     a list that is equal to a flattening, joined
--     filling-complete    what a substitution gives is, up to AC-equivalence, a filling
use mathlib.Core.List.{List, [], ◌∷◌, ◌++◌, append-nil, map, flat_map, Memᴰ}
use mathlib.Core.Path.{◌≡◌, refl, sym, ap, ◌∙◌}
use mathlib.Core.Bool.{Bool, true, false, true≢false}
use Prim.Native.Nat.{ℕ, ◌≤◌}
use native.Mathlib.Omega.{arith}
use lib.ListN.{length, length-append}
use lib.Dec.{eqb}
use borrow.Author.Tests.{eqb-true}
use Rattle.multisets.specs.Multiset.{multiset_equal}
use Rattle.terms.specs.Signature.{Signature, symbol_of, AcBinary}
use Rattle.terms.specs.Term.{Term, Terms, flattening, WellFormed}
use Rattle.terms.specs.Term.Term.{var, app}
use Rattle.terms.specs.Term.Terms.{nil, cons}
use Rattle.terms.specs.Equivalence.{Equivalent, Equivalents, is_equivalent}
use Rattle.terms.specs.Equivalence.Equivalent.{same, under}
use Rattle.terms.specs.Equivalence.Equivalents.{none, each}
use Rattle.terms.specs.Bunch.{Bunch, join, bunch_of}
use Rattle.terms.specs.Bunch.Bunch.{empty, full}
use Rattle.terms.specs.Rewriting.{Substitution, substitute, substitute_in}
use Rattle.multisets.proofs.Relations.{by_test, IsEquivalence, eqb-self, eqb-equivalence}
use Rattle.multisets.proofs.MultisetLaws.{bit, sum, multiset_equal-length, multiset_equal-counts, multiset_equal-sum}
use Rattle.multisets.proofs.MultisetLaws.{multiset_equal-equivalence}
use Rattle.multisets.proofs.MultisetMaps.{flat_map-append, sum-flat_map}
use Rattle.multisets.proofs.SortingLaws.{parted-left, parted-right, parted-of-equal}
use Rattle.terms.proofs.TermLaws.{flattening-each, formed}
use Rattle.terms.proofs.FlatteningLaws.{flattening-long}
use Rattle.terms.proofs.EquivalenceLaws.{is_equivalent-equivalence}
use Rattle.terms.proofs.EquivalenceComplete.{Equivalent→is_equivalent, flattening-resp-is_equivalent}
use Rattle.terms.proofs.EquivalenceSound.{SameBunch, both_full, same-trans, multiset-sound}
use Rattle.terms.proofs.EquivalenceSound.{flattening-joined, is_equivalent→Equivalent}
use Rattle.simplifying.specs.Filling.{Filling, Fillings}
use Rattle.simplifying.specs.Filling.Filling.{own, taken, node}
use Rattle.simplifying.specs.Filling.Fillings.{none as none_filled, each as each_filled}
use Rattle.simplifying.proofs.FillingLaws.{full-inj}
use Rattle.simplifying.specs.Pooling.{shared_in, shared_ins, image_elements, Shared}

pub empty-list : {A : Type 0} (l : List A) → length l ≡ 0 → l ≡ []
empty-list [] h = refl
empty-list (a ∷ l) h = absurd (omega arith)

empty-not-full : {t : Term} → empty ≡ full t → ⊥
empty-not-full q = true≢false (ap (λ (b : Bunch). elim b [ empty ↦ true | full u ↦ false ]) q)

joined-full : (f : ℕ) (t : Term) (b : Bunch) → join f (full t) b ≡ empty → ⊥
joined-full f t empty q = empty-not-full (sym q)
joined-full f t (full u) q = empty-not-full (sym q)

module _ (σ : Signature) (binary : AcBinary σ) (f : ℕ) (ac : (symbol_of σ f).ac ≡ true) where
  abbrev Formed : List Term → Type 0
  Formed l = (t : Term) → Memᴰ t l → WellFormed σ t

  is_equivalent-multiset : IsEquivalence (multiset_equal (is_equivalent σ))
  is_equivalent-multiset = multiset_equal-equivalence (is_equivalent σ) (is_equivalent-equivalence σ)

  multiset-joined : (l : List Term) (t : Term) → Formed l → WellFormed σ t →
      multiset_equal (is_equivalent σ) l (flattening f t) ≡ true → SameBunch σ (bunch_of f l) (full t)
  multiset-joined l t h w e =
      same-trans σ (multiset-sound σ f ac (is_equivalent σ) l (flattening f t) (λ u v i j.
      is_equivalent→Equivalent σ binary u v (h u i) (flattening-each (formed σ) v t f w j)) e)
      (flattening-joined σ f ac binary t w)

  pub of-full : (b : Bunch) (t : Term) → SameBunch σ b (full t) → (u : Term) × (b ≡ full u) × Equivalent σ u t
  of-full empty t x = elim x [ ]
  of-full (full u) t (both_full d) = (u, refl, d)

  module _ (shared : ℕ → Bool) (τ : Substitution) (w : (x : ℕ) → WellFormed σ (τ x)) where
    filling-variable : (x : ℕ) (l : List Term) → Formed l →
        multiset_equal (is_equivalent σ) l (image_elements f τ (shared_in shared (var x))) ≡ true →
        (t : Term) × Filling f shared τ (var x) l t × Equivalent σ t (τ x)
    unfolding flat_map
    filling-variable x l h e =
        by_test (shared x)
        (λ s. let (u, q, d) = of-full (bunch_of f l) (τ x)
        (multiset-joined l (τ x) h (w x) (rw (s, append-nil) at e)) in (u, taken s q, d))
        λ s. (
          τ x,
          rw (empty-list l
              (multiset_equal-length (is_equivalent σ) (is_equivalent-equivalence σ) l [] (rw s at e)))
              (own s refl),
          same,
        )

    mutual
      unfolding flat_map

      -- What a substitution gives is a filling of the list that is equal to the shared variables' elements.
      pub filling-complete : (p : Term) (l : List Term) → Formed l →
          multiset_equal (is_equivalent σ) l (image_elements f τ (shared_in shared p)) ≡ true →
          (t : Term) × Filling f shared τ p l t × Equivalent σ t (substitute τ p)
      filling-complete (var x) l h e = filling-variable x l h e
      filling-complete (app g ps) l h e =
          let (ts, k, d) = fillings-complete ps l h e in (app g ts, node k, under d)

      fillings-complete : (ps : Terms) (l : List Term) → Formed l →
          multiset_equal (is_equivalent σ) l (image_elements f τ (shared_ins shared ps)) ≡ true →
          (ts : Terms) × Fillings f shared τ ps l ts × Equivalents σ ts (substitute_in τ ps)
      fillings-complete nil l h e = (
        nil,
        rw (empty-list l (multiset_equal-length (is_equivalent σ) (is_equivalent-equivalence σ) l [] e))
            none_filled,
        none,
      )
      fillings-complete (cons p ps) l h e =
          let (m, n, q, i, j) = parted-of-equal (is_equivalent σ) (is_equivalent-equivalence σ) l
          (image_elements f τ (shared_in shared p)) (image_elements f τ (shared_ins shared ps))
          (rw (flat_map-append (λ (x : ℕ). flattening f (τ x)) (shared_in shared p) (shared_ins shared ps)) at e) in
          let (t, k, d) = filling-complete p m (λ u a. h u (parted-left q u a)) i in
          let (ts, ks, ds) = fillings-complete ps n (λ u a. h u (parted-right q u a)) j in
          (cons t ts, each_filled q k ks, each d ds)

    -- ---- the elements of a sum

    elements-of-sum : (xs : List ℕ) (t : Term) → bunch_of f (map τ xs) ≡ full t → flattening f t ≡ image_elements f τ xs
    unfolding flat_map
    elements-of-sum [] t q = absurd (empty-not-full q)
    elements-of-sum (x ∷ []) t q = rw (← full-inj q, append-nil) refl
    elements-of-sum (x ∷ (y ∷ xs)) t q = go (bunch_of f (map τ (y ∷ xs))) refl q (elements-of-sum (y ∷ xs))
      where
        go : (b : Bunch) → bunch_of f (map τ (y ∷ xs)) ≡ b → join f (full (τ x)) b ≡ full t →
            ((u : Term) → bunch_of f (map τ (y ∷ xs)) ≡ full u → flattening f u ≡ image_elements f τ (y ∷ xs)) →
            flattening f t ≡ image_elements f τ (x ∷ (y ∷ xs))
        go empty p q ih = absurd (joined-full f (τ y) (bunch_of f (map τ xs)) p)
        go (full u) p q ih = rw (← full-inj q, eqb-self, append-nil) (ap (◌++◌ (flattening f (τ x))) (ih u p))

    elements-resp : (xs ys : List ℕ) → multiset_equal eqb xs ys ≡ true →
        multiset_equal (is_equivalent σ) (image_elements f τ xs) (image_elements f τ ys) ≡ true
    elements-resp xs ys e =
        (multiset_equal-counts (is_equivalent σ) (is_equivalent-equivalence σ) (image_elements f τ xs)
        (image_elements f τ ys)).1
        λ c. sum-flat_map (λ (a : Term). bit (is_equivalent σ c a)) (λ (x : ℕ). flattening f (τ x)) xs ∙
        multiset_equal-sum eqb eqb-equivalence
        (λ (x : ℕ). sum (λ (a : Term). bit (is_equivalent σ c a)) (flattening f (τ x)))
        (λ a b h. rw (eqb-true a b h) refl) xs ys e ∙
        sym (sum-flat_map (λ (a : Term). bit (is_equivalent σ c a)) (λ (x : ℕ). flattening f (τ x)) ys)

    elements-many : (xs : List ℕ) → length xs ≤ length (image_elements f τ xs)
    unfolding flat_map
    elements-many [] = omega arith
    elements-many (x ∷ xs) =
        omega (
          arith,
          length-append (flattening f (τ x)) (image_elements f τ xs),
          flattening-long σ f (binary f ac) (τ x) (w x),
          elements-many xs,
        )

    -- Where u is the sum of what is put for xs, the shared variables of r and those that r drops, what is put for r is
    -- shared out of u's elements.
    pub shared-complete : (r u t : Term) (xs ds : List ℕ) → WellFormed σ u → bunch_of f (map τ xs) ≡ full t →
        Equivalent σ u t → multiset_equal eqb xs (shared_in shared r ++ ds) ≡ true →
        (v : Term) × Shared f shared τ r (flattening f u) (length ds) v × Equivalent σ v (substitute τ r)
    unfolding flat_map
    shared-complete r u t xs ds h q d e =
        let i : multiset_equal (is_equivalent σ) (flattening f u) (image_elements f τ xs) ≡ true =
        rw (elements-of-sum xs t q) at (flattening-resp-is_equivalent σ f ac u t (Equivalent→is_equivalent σ d)) in
        let j = rw (flat_map-append (λ (x : ℕ). flattening f (τ x)) (shared_in shared r) ds) at
        (is_equivalent-multiset.transitive i (elements-resp xs (shared_in shared r ++ ds) e)) in
        let (m, n, p, a, b) = parted-of-equal (is_equivalent σ) (is_equivalent-equivalence σ) (flattening f u)
        (image_elements f τ (shared_in shared r)) (image_elements f τ ds) j in
        let (v, k, c) = filling-complete r m (λ s z. flattening-each (formed σ) s u f h (parted-left p s z)) a in
        let l = multiset_equal-length (is_equivalent σ) (is_equivalent-equivalence σ) n (image_elements f τ ds) b in (
          v,
          record {
            kept = m;
            dropped = n;
            parts = p;
            enough = omega (arith, l, elements-many ds);
            exact = λ z. l ∙ none-taken ds z;
            filling = k;
          },
          c,
        )
      where
        none-taken : (ds : List ℕ) → length ds ≡ 0 → length (image_elements f τ ds) ≡ 0
        none-taken ds z = rw (empty-list ds z) refl
