-- The groupings of a term are all ways to write it, up to AC-equivalence, as a symbol of arguments.
--     parted-bunch                               the two parts of a split, joined
--     equivalents-of-equivalent                  the arguments of a symbol that is not AC
--     regroupings-sound, groupings-sound         a grouping is AC-equivalent to the term
--     regroupings-complete, groupings-complete   every way to write it is among them
use mathlib.Core.List.Memᴰ
use mathlib.Core.List.{List, [], ◌∷◌, append-nil, Memᴰ}
use mathlib.Core.Path.{◌≡◌, refl}
use mathlib.Core.Bool.{true, false, cond, false≢true}
use Prim.Native.Nat.{ℕ}
use native.Mathlib.Omega.{arith}
use lib.Dec.{eqb}
use borrow.Author.Tests.{eqb-true}
use Rattle.multisets.specs.Multiset.{Rest, multiset_equal}
use Rattle.multisets.specs.Sorting.{splits, Parted}
use Rattle.multisets.specs.Sorting.Parted.{parted, on_left, on_right}
use Rattle.terms.specs.Signature.{Signature, symbol_of, AcBinary}
use Rattle.terms.specs.Term.{Term, Terms, flattening, flattenings, WellFormed}
use Rattle.terms.specs.Term.Term.{var, app}
use Rattle.terms.specs.Term.Terms.{nil, cons}
use Rattle.terms.specs.Equivalence.{pair, Equivalent, Equivalents, is_equivalent}
use Rattle.terms.specs.Equivalence.Equivalent.{same}
use Rattle.terms.specs.Equivalence.Equivalents.{none, each}
use Rattle.terms.specs.Bunch.{Bunch, join, bunch_of}
use Rattle.terms.specs.Bunch.Bunch.{empty, full}
use Rattle.multisets.proofs.Relations.{by_test, eqb-self}
use Rattle.multisets.proofs.FlatMapLaws.{flat_map-member, member-flat_map}
use Rattle.multisets.proofs.SortingLaws.{splits-parted, parted-splits, parted-left, parted-right}
use Rattle.multisets.proofs.SortingLaws.{parted-of-equal}
use Rattle.terms.proofs.TermLaws.{flattening-each, flattenings-formed, formed}
use Rattle.terms.proofs.EquivalenceLaws.{is_equivalent-equivalence, arguments-of-is_equivalent, symbol-of-is_equivalent}
use Rattle.terms.proofs.EquivalenceComplete.{Equivalent→is_equivalent}
use Rattle.terms.proofs.EquivalenceMeasures.{root-resp-equivalent, formed-resp-equivalent}
use Rattle.terms.proofs.EquivalenceSound.{SameBunch, both_empty, both_full, from-full, same_refl, same-sym, same-trans}
use Rattle.terms.proofs.EquivalenceSound.{join-resp, join-regroup, join-exchange, multiset-sound, flattening-joined}
use Rattle.terms.proofs.EquivalenceSound.{flattenings-whole, row-sound, is_equivalent→Equivalent}
use Rattle.simplifying.specs.Matching.{pairs, regroupings, groupings}

-- ---- splits

pairs-join : (f : ℕ) (b c : Bunch) (us : Terms) → Memᴰ us (pairs b c) → join f b c ≡ full (app f us)
pairs-join f empty c us m = absurd (Memᴰ.not-nil m)
pairs-join f (full s) empty us m = absurd (Memᴰ.not-nil m)
pairs-join f (full s) (full t) us m = rw (Memᴰ.eq_of_singleton m)

module _ (σ : Signature) (f : ℕ) (ac : (symbol_of σ f).ac ≡ true) where
  pub parted-bunch : {l m n : List Term} → Parted l m n → SameBunch σ (bunch_of f l) (join f (bunch_of f m) (bunch_of f n))
  parted-bunch parted = both_empty
  parted-bunch (on_left {a} {m} {n} p) =
      same-trans σ (join-resp σ f (same_refl σ (full a)) (parted-bunch p))
      (same-sym σ (join-regroup σ f ac (full a) (bunch_of f m) (bunch_of f n)))
  parted-bunch (on_right {a} {m} {n} p) =
      same-trans σ (join-resp σ f (same_refl σ (full a)) (parted-bunch p))
      (join-exchange σ f ac (full a) (bunch_of f m) (bunch_of f n))

  pairs_of : {b c : Bunch} {s t : Term} → SameBunch σ b (full s) → SameBunch σ c (full t) →
      (us : Terms) × Memᴰ us (pairs b c) × Equivalents σ us (pair s t)
  pairs_of (both_full {s} d) (both_full {s = t} e) = (pair s t, Memᴰ.head refl, each d (each e none))

  -- ---- an AC symbol

  module _ (binary : AcBinary σ) (ts : Terms) (w : WellFormed σ (app f ts)) where
    pub regroupings-sound : (us : Terms) → Memᴰ us (regroupings f ts) → Equivalent σ (app f ts) (app f us)
    unfolding regroupings
    regroupings-sound us m =
        let (r, i, j) = flat_map-member (λ (r : Rest Term). pairs (bunch_of f r.left) (bunch_of f r.right))
        (splits (flattenings f ts)) m in
        from-full σ (same-trans σ (same-sym σ (flattenings-whole σ f ac binary ts w))
        (rw (pairs-join f (bunch_of f r.left) (bunch_of f r.right) us j) at
        (parted-bunch (splits-parted (flattenings f ts) r i))))

    -- A part of the flattening that is equal to the flattening of u, joined.
    part-joined : (m : List Term) (u : Term) → ((t : Term) → Memᴰ t m → Memᴰ t (flattenings f ts)) →
        WellFormed σ u → multiset_equal (is_equivalent σ) m (flattening f u) ≡ true → SameBunch σ (bunch_of f m) (full u)
    part-joined m u within v e =
        same-trans σ (multiset-sound σ f ac (is_equivalent σ) m (flattening f u) (λ s t i j.
        is_equivalent→Equivalent σ binary s t (flattenings-formed σ ts f w.2 s (within s i))
        (flattening-each (formed σ) t u f v j)) e)
        (flattening-joined σ f ac binary u v)

    of_parts : {m n : List Term} {vs : Terms} → Parted (flattenings f ts) m n →
        (us : Terms) × Memᴰ us (pairs (bunch_of f m) (bunch_of f n)) × Equivalents σ us vs →
        (us : Terms) × Memᴰ us (regroupings f ts) × Equivalents σ us vs
    unfolding regroupings
    of_parts p (us, i, k) = (
      us,
      member-flat_map (λ (r : Rest Term). pairs (bunch_of f r.left) (bunch_of f r.right)) (parted-splits p) i,
      k,
    )

    pub regroupings-complete : (s t : Term) → Equivalent σ (app f ts) (app f (pair s t)) →
        (us : Terms) × Memᴰ us (regroupings f ts) × Equivalents σ us (pair s t)
    regroupings-complete s t d =
        let v = (formed-resp-equivalent σ d).0 w in
        let e = rw ac at (arguments-of-is_equivalent σ f f ts (pair s t) (Equivalent→is_equivalent σ d)) in
        let (m, n, p, g, h) = parted-of-equal (is_equivalent σ) (is_equivalent-equivalence σ) (flattenings f ts)
        (flattening f s) (flattening f t) (rw append-nil at e) in
        of_parts p (pairs_of (part-joined m s (parted-left p) v.2.0 g)
        (part-joined n t (parted-right p) v.2.1.0 h))

-- ---- any symbol

module _ (σ : Signature) (binary : AcBinary σ) where
  pub equivalents-of-equivalent : (f : ℕ) (ss ts : Terms) → (symbol_of σ f).ac ≡ false → WellFormed σ (app f ss) →
      Equivalent σ (app f ss) (app f ts) → Equivalents σ ss ts
  equivalents-of-equivalent f ss ts c w d =
      row-sound σ binary (is_equivalent σ) ss ts (λ s t l. is_equivalent→Equivalent σ binary s t) w.2
      ((formed-resp-equivalent σ d).0 w).2
      (rw c at (arguments-of-is_equivalent σ f f ss ts (Equivalent→is_equivalent σ d)))

  pub groupings-sound : (f : ℕ) (t : Term) (us : Terms) → WellFormed σ t → Memᴰ us (groupings σ f t) →
      Equivalent σ t (app f us)
  unfolding groupings
  groupings-sound f (var x) us w m = absurd (Memᴰ.not-nil m)
  groupings-sound f (app g ts) us w m =
      by_test (eqb f g) (λ e. go e (rw (← eqb-true f g e) at w) (rw e at m))
      λ e. absurd (Memᴰ.not-nil (rw e at m))
    where
      go : eqb f g ≡ true → WellFormed σ (app f ts) →
          Memᴰ us (cond (symbol_of σ f).ac (regroupings f ts) (ts ∷ [])) → Equivalent σ (app g ts) (app f us)
      go e w m =
          rw (← eqb-true f g e) (by_test (symbol_of σ f).ac (λ c. regroupings-sound σ f c binary ts w us (rw c at m))
          λ c. rw (Memᴰ.eq_of_singleton (rw c at m)) same)

  pub groupings-complete : (f : ℕ) (t : Term) (us : Terms) → WellFormed σ t → Equivalent σ t (app f us) →
      (vs : Terms) × Memᴰ vs (groupings σ f t) × Equivalents σ vs us
  unfolding groupings
  groupings-complete f (var x) us w d =
      absurd (let z : false ≡ true = cc (root-resp-equivalent σ d) in false≢true z)
  groupings-complete f (app g ts) us w d =
      let p : g ≡ f = symbol-of-is_equivalent σ g f ts us (Equivalent→is_equivalent σ d) in
      rw (p, eqb-self) (by_test (symbol_of σ f).ac
      (λ c. rw c (two us c (rw p at w) (rw p at d)))
      λ c. rw c (ts, Memᴰ.head refl, equivalents-of-equivalent f ts us c (rw p at w) (rw p at d)))
    where
      two : (us : Terms) → (symbol_of σ f).ac ≡ true → WellFormed σ (app f ts) → Equivalent σ (app f ts) (app f us) →
          (vs : Terms) × Memᴰ vs (regroupings f ts) × Equivalents σ vs us
      two nil c w d = absurd (omega (arith, ((formed-resp-equivalent σ d).0 w).1, binary f c))
      two (cons s nil) c w d = absurd (omega (arith, ((formed-resp-equivalent σ d).0 w).1, binary f c))
      two (cons s (cons t nil)) c w d = regroupings-complete σ f c binary ts w s t d
      two (cons s (cons t (cons u us))) c w d =
          absurd (omega (arith, ((formed-resp-equivalent σ d).0 w).1, binary f c))
