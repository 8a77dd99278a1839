-- In an arranged expression the parts of a flattening, joined, are arranged, and so is what a pattern's variables are
-- bound to.
--     parted-ascending                a split of a sorted list is two sorted lists
--     groupings-arranged              the groupings of an arranged expression
--     matches-arranged                what is bound
use mathlib.Core.List.Memᴰ
use mathlib.Core.List.{List, [], ◌∷◌, Memᴰ}
use mathlib.Core.Path.{◌≡◌}
use mathlib.Core.Bool.{Bool, true, cond}
use Prim.Native.Nat.{ℕ}
use lib.Dec.{eqb}
use borrow.Author.Tests.{eqb-true}
use Rattle.multisets.specs.Multiset.{Rest}
use Rattle.multisets.specs.Sorting.{splits, Ascending}
use Rattle.terms.specs.Signature.{Signature, symbol_of}
use Rattle.terms.specs.Term.{Term, Terms, flattenings}
use Rattle.terms.specs.Term.Term.{var, app}
use Rattle.terms.specs.Term.Terms.{nil, cons}
use Rattle.terms.specs.Equivalence.{is_equivalent}
use Rattle.terms.specs.Bunch.{Bunch, bunch_of}
use Rattle.terms.specs.Bunch.Bunch.{empty, full}
use Rattle.terms.specs.Order.{is_greater}
use Rattle.multisets.proofs.Relations.{by_test}
use Rattle.multisets.proofs.FlatMapLaws.{flat_map-member}
use Rattle.multisets.proofs.SortingLaws.{splits-parted, parted-left, parted-right}
use Rattle.multisets.specs.Sorting.{Parted}
use Rattle.multisets.specs.Sorting.Parted.{parted, on_left, on_right}
use Rattle.terms.proofs.TermLaws.{flattenings-each}
use Rattle.terms.proofs.FlatteningLaws.{flattenings-roots}
use Rattle.simplifying.specs.Canonical.{Arranged, ArrangedIn}
use Rattle.simplifying.specs.Matching.{Binding, Bindings, pairs, regroupings, groupings, bind, matches}
use Rattle.simplifying.specs.Matching.{matches_in}
use Rattle.simplifying.specs.Matching.Binding.{free, bound}
use Rattle.simplifying.proofs.CanonicalLaws.{bunch-joined, single-of-root, joined-arranged, arranged-parts}
use Rattle.simplifying.proofs.CanonicalLaws.{Single}

module _ {A : Type 0} (greater : A → A → Bool) where
  pub parted-ascending : {l m n : List A} → Parted l m n → Ascending greater l → Ascending greater m × Ascending
      greater n
  parted-ascending parted s = (tt, tt)
  parted-ascending (on_left p) (s, r) =
      let (h, k) = parted-ascending p r in ((λ b i. s b (parted-left p b i), h), k)
  parted-ascending (on_right p) (s, r) =
      let (h, k) = parted-ascending p r in (h, (λ b i. s b (parted-right p b i), k))

module _ (σ : Signature) where
  -- ---- groupings

  abbrev pub ArrangedBunch : Bunch → Type 0
  ArrangedBunch empty = Unit {0}
  ArrangedBunch (full t) = Arranged σ t

  pairs-arranged : (b c : Bunch) (us : Terms) → ArrangedBunch b → ArrangedBunch c → Memᴰ us (pairs b c) →
      ArrangedIn σ us
  pairs-arranged empty c us h k m = absurd (Memᴰ.not-nil m)
  pairs-arranged (full s) empty us h k m = absurd (Memᴰ.not-nil m)
  pairs-arranged (full s) (full t) us h k m = rw (Memᴰ.eq_of_singleton m) (h, (k, tt))

  pub bunch-arranged : (f : ℕ) (l : List Term) → ((u : Term) → Memᴰ u l → Arranged σ u × Single f u) →
      Ascending (is_greater σ) l → ArrangedBunch (bunch_of f l)
  bunch-arranged f [] h s = tt
  bunch-arranged f (t ∷ l) h s = rw (bunch-joined f t l) (joined-arranged σ f t l h s)

  regroupings-arranged : (f : ℕ) (ts : Terms) → (symbol_of σ f).ac ≡ true → Arranged σ (app f ts) → (us : Terms) →
      Memᴰ us (regroupings f ts) → ArrangedIn σ us
  unfolding regroupings
  regroupings-arranged f ts c a us m =
      let (r, i, j) = flat_map-member (λ (r : Rest Term). pairs (bunch_of f r.left) (bunch_of f r.right))
      (splits (flattenings f ts)) m in
      let p = splits-parted (flattenings f ts) r i in
      let (s, s') = parted-ascending (is_greater σ) p (a.0 c).1 in
      pairs-arranged (bunch_of f r.left) (bunch_of f r.right) us
      (bunch-arranged f r.left (λ u k. part u (parted-left p u k)) s)
      (bunch-arranged f r.right (λ u k. part u (parted-right p u k)) s') j
    where
      part : (u : Term) → Memᴰ u (flattenings f ts) → Arranged σ u × Single f u
      part u k = (
        flattenings-each (arranged-parts σ) u ts f a.1 k,
        single-of-root f u (flattenings-roots f ts u k),
      )

  groupings-arranged : (f : ℕ) (t : Term) (us : Terms) → Arranged σ t → Memᴰ us (groupings σ f t) → ArrangedIn σ us
  unfolding groupings
  groupings-arranged f (var x) us a m = absurd (Memᴰ.not-nil m)
  groupings-arranged f (app g ts) us a m =
      by_test (eqb f g) (λ e. go (rw (← eqb-true f g e) at a) (rw e at m)) λ e. absurd (Memᴰ.not-nil (rw e at m))
    where
      go : Arranged σ (app f ts) → Memᴰ us (cond (symbol_of σ f).ac (regroupings f ts) (ts ∷ [])) → ArrangedIn σ us
      go a m =
          by_test (symbol_of σ f).ac (λ c. regroupings-arranged f ts c a us (rw c at m))
          λ c. rw (Memᴰ.eq_of_singleton (rw c at m)) a.1

  -- ---- bindings

  abbrev ArrangedBinding : Binding → Type 0
  ArrangedBinding free = Unit {0}
  ArrangedBinding (bound u) = Arranged σ u

  abbrev ArrangedBindings : Bindings → Type 0
  ArrangedBindings b = (x : ℕ) → ArrangedBinding (b x)

  bind-arranged : (x : ℕ) (t : Term) (b : Bindings) (c : Binding) (d : Bindings) → Arranged σ t → ArrangedBindings b →
      Memᴰ d (bind σ x t b c) → ArrangedBindings d
  bind-arranged x t b free d a h m =
      rw (Memᴰ.eq_of_singleton m) λ y. by_test (eqb x y) (λ e. rw e a) λ e. rw e (h y)
  bind-arranged x t b (bound u) d a h m =
      by_test (is_equivalent σ u t) (λ l. rw (Memᴰ.eq_of_singleton (rw l at m)) h)
      λ l. absurd (Memᴰ.not-nil (rw l at m))

  mutual
    unfolding matches

    pub matches-arranged : (p t : Term) (b d : Bindings) → Arranged σ t → ArrangedBindings b →
        Memᴰ d (matches σ p t b) → ArrangedBindings d
    matches-arranged (var x) t b d a h m = bind-arranged x t b (b x) d a h m
    matches-arranged (app f ps) t b d a h m =
        let (us, i, j) = flat_map-member (λ (us : Terms). matches_in σ ps us b) (groupings σ f t) m in
        matches_in-arranged ps us b d (groupings-arranged f t us a i) h j

    matches_in-arranged : (ps ts : Terms) (b d : Bindings) → ArrangedIn σ ts → ArrangedBindings b →
        Memᴰ d (matches_in σ ps ts b) → ArrangedBindings d
    matches_in-arranged nil nil b d a h m = rw (Memᴰ.eq_of_singleton m) h
    matches_in-arranged nil (cons t ts) b d a h m = absurd (Memᴰ.not-nil m)
    matches_in-arranged (cons p ps) nil b d a h m = absurd (Memᴰ.not-nil m)
    matches_in-arranged (cons p ps) (cons t ts) b d a h m =
        let (c, i, j) = flat_map-member (λ (c : Bindings). matches_in σ ps ts c) (matches σ p t b) m in
        matches_in-arranged ps ts c d a.1 (matches-arranged p t b c a.0 h i) j
