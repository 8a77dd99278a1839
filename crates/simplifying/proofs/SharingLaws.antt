-- What a filling gives is what a substitution gives.
--     shared_in-occurs                  a shared variable of a pattern is shared and occurs in it
--     Sharing, filling-sound           the substitution of a filling; the list is the sum of what it puts
--     Dropping, drop-sound             what is left over, put for variables that a pattern lacks
use mathlib.Core.List.Memᴰ
use mathlib.Core.List.{List, [], ◌∷◌, ◌++◌, map, Memᴰ}
use mathlib.Core.Logic.{⊎_elim}
use mathlib.Core.Path.{◌≡◌, refl, sym, ap, ap₂, ◌∙◌, subst}
use mathlib.Core.Bool.{Bool, true, false, cond, true≢false}
use Prim.Native.Nat.{ℕ, ◌≤◌, ◌<◌}
use native.Mathlib.Omega.{arith}
use lib.ListN.{length}
use lib.Dec.{eqb, ltb}
use borrow.Author.Tests.{eqb-true, lt-ltb, le-ltb}
use Rattle.multisets.specs.Sorting.{Parted}
use Rattle.terms.specs.Signature.{Signature, symbol_of}
use Rattle.terms.specs.Term.{Term, Terms, occurrences}
use Rattle.terms.specs.Term.Term.{var, app}
use Rattle.terms.specs.Term.Terms.{nil, cons}
use Rattle.terms.specs.Equivalence.{Equivalent, Equivalents}
use Rattle.terms.specs.Equivalence.Equivalent.{same, then, under}
use Rattle.terms.specs.Equivalence.Equivalents.{none, each}
use Rattle.terms.specs.Bunch.{bunch_of}
use Rattle.terms.specs.Bunch.Bunch.{full}
use Rattle.terms.specs.Rewriting.{Substitution, substitute, substitute_in}
use Rattle.multisets.proofs.Relations.{by_test, eqb-self}
use Rattle.multisets.proofs.SortingLaws.{parted-left, parted-right}
use Rattle.terms.proofs.RewritingLaws.{occurrences_in}
use Rattle.terms.proofs.EquivalenceSound.{SameBunch, both_empty, same_refl, same-sym, same-trans, join-resp}
use Rattle.terms.proofs.EquivalenceSound.{bunch-append}
use Rattle.simplifying.specs.Filling.{Filling, Fillings}
use Rattle.simplifying.specs.Filling.Filling.{own, taken, node}
use Rattle.simplifying.specs.Filling.Fillings.{none as none_filled, each as each_filled}
use Rattle.simplifying.specs.Pooling.{shared_in, shared_ins, Once, Distinct}
use Rattle.simplifying.proofs.CanonicalLaws.{joined, bunch-joined}
use Rattle.simplifying.proofs.GroupingLaws.{parted-bunch}
use Rattle.simplifying.proofs.ResultLaws.{substitute-agree, substitute_in-agree}

pub map-agree : {A B : Type 0} (g h : A → B) (l : List A) → ((a : A) → Memᴰ a l → g a ≡ h a) → map g l ≡ map h l
map-agree g h [] k = refl
map-agree g h (a ∷ l) k = ap₂ ◌∷◌ (k a (Memᴰ.head refl)) (map-agree g h l λ b m. k b (Memᴰ.tail m))

pub map-append : {A B : Type 0} (g : A → B) (l m : List A) → map g (l ++ m) ≡ map g l ++ map g m
map-append g [] m = refl
map-append g (a ∷ l) m = ap (◌∷◌ (g a)) (map-append g l m)

module _ (shared : ℕ → Bool) where
  variable-occurs : (x y : ℕ) → Memᴰ y (cond (shared x) (x ∷ []) []) →
      (shared y ≡ true) × (0 < occurrences y (var x))
  variable-occurs x y m =
      by_test (shared x) (λ s. rw (Memᴰ.eq_of_singleton (rw s at m)) (s, rw eqb-self (omega arith)))
      λ s. absurd (Memᴰ.not-nil (rw s at m))

  mutual
    pub shared_in-occurs : (p : Term) (y : ℕ) → Memᴰ y (shared_in shared p) →
        (shared y ≡ true) × (0 < occurrences y p)
    shared_in-occurs (var x) y m = variable-occurs x y m
    shared_in-occurs (app g ps) y m = let (a, b) = shared_ins-occurs ps y m in (a, omega arith)

    pub shared_ins-occurs : (ps : Terms) (y : ℕ) → Memᴰ y (shared_ins shared ps) →
        (shared y ≡ true) × (0 < occurrences_in y ps)
    shared_ins-occurs nil y m = absurd (Memᴰ.not-nil m)
    shared_ins-occurs (cons p ps) y m =
        ⊎_elim (λ i. let (a, b) = shared_in-occurs p y i in (a, omega arith))
        (λ i. let (a, b) = shared_ins-occurs ps y i in (a, omega arith)) (Memᴰ.append_cases (shared_in shared p) m)

module _ (σ : Signature) (f : ℕ) (ac : (symbol_of σ f).ac ≡ true) (shared : ℕ → Bool) (τ : Substitution)
    (Image : Term → Type 0) (images : (x : ℕ) → Image (τ x))
    (sums : (l : List Term) → ((u : Term) → Memᴰ u l → Image u) → (t : Term) → bunch_of f l ≡ full t → Image t)
  where
    -- A substitution that differs from the given one on shared variables alone, and what it gives.
    pub record Sharing (xs : List ℕ) (l : List Term) (Gives : Substitution → Type 0) : Type 0 where
      pub substitution : Substitution
      pub image : (x : ℕ) → Image (substitution x)
      pub others : (x : ℕ) → shared x ≡ false → substitution x ≡ τ x
      pub gives : Gives substitution
      pub sum : SameBunch σ (bunch_of f l) (bunch_of f (map substitution xs))

    filling-own : (x : ℕ) (t : Term) → shared x ≡ false → τ x ≡ t →
        Sharing (shared_in shared (var x)) [] λ υ. Equivalent σ t (υ x)
    filling-own x t s q =
        record {
          substitution = τ;
          image = images;
          others = λ y e. refl;
          gives = subst (λ (u : Term). Equivalent σ u (τ x)) q same;
          sum = rw s both_empty;
        }

    filling-taken : (x : ℕ) (l : List Term) (t : Term) → ((u : Term) → Memᴰ u l → Image u) → shared x ≡ true →
        bunch_of f l ≡ full t →
        Sharing (shared_in shared (var x)) l λ υ. Equivalent σ t (υ x)
    filling-taken x l t h s q =
        record {
          substitution = λ y. cond (eqb x y) t (τ y);
          image = λ y. by_test (eqb x y) (λ e. rw e (sums l h t q)) λ e. rw e (images y);
          others = λ y e. by_test (eqb x y) (λ d. absurd (true≢false (sym s ∙ ap shared (eqb-true x y d) ∙ e)))
              λ d. rw d refl;
          gives = rw eqb-self same;
          sum = rw (s, q, eqb-self) (same_refl σ (full t));
        }

    equivalents-then : {ss ts us : Terms} → Equivalents σ ss ts → Equivalents σ ts us → Equivalents σ ss us
    equivalents-then none none = none
    equivalents-then (each d r) (each e s) = each (then d e) (equivalents-then r s)

    -- ---- an argument, and those after it

    module _ (p : Term) (ps : Terms) {t : Term} {ts : Terms} {l m n : List Term} (q : Parted l m n)
        (once : (x : ℕ) → shared x ≡ true → occurrences_in x (cons p ps) ≤ 1)
        (a : Sharing (shared_in shared p) m λ υ. Equivalent σ t (substitute υ p))
        (b : Sharing (shared_ins shared ps) n λ υ. Equivalents σ ts (substitute_in υ ps)) where
      abbrev either : Substitution
      either y = cond (ltb 0 (occurrences y p)) (a.substitution y) (b.substitution y)

      either_first : (x : ℕ) → 0 < occurrences x p → a.substitution x ≡ either x
      either_first x h = rw (lt-ltb 0 (occurrences x p) h) refl

      either-later : (x : ℕ) → 0 < occurrences_in x ps → b.substitution x ≡ either x
      either-later x h =
          by_test (shared x)
          (λ s. rw (le-ltb 0 (occurrences x p) (omega (arith, once x s))) refl)
          λ s. by_test (ltb 0 (occurrences x p)) (λ e. rw e (b.others x s ∙ sym (a.others x s))) λ e. rw e refl

      either-images : (x : ℕ) → Image (either x)
      either-images x = by_test (ltb 0 (occurrences x p)) (λ e. rw e (a.image x)) λ e. rw e (b.image x)

      either-others : (x : ℕ) → shared x ≡ false → either x ≡ τ x
      either-others x s = by_test (ltb 0 (occurrences x p)) (λ e. rw e (a.others x s)) λ e. rw e (b.others x s)

      either-sum : SameBunch σ (bunch_of f l) (bunch_of f (map either (shared_in shared p ++ shared_ins shared ps)))
      either-sum =
          let x : map a.substitution (shared_in shared p) ≡ map either (shared_in shared p) =
          map-agree a.substitution either (shared_in shared p)
          (λ y i. either_first y (shared_in-occurs shared p y i).1) in
          let z : map b.substitution (shared_ins shared ps) ≡ map either (shared_ins shared ps) =
          map-agree b.substitution either (shared_ins shared ps)
          (λ y i. either-later y (shared_ins-occurs shared ps y i).1) in
          rw (map-append either (shared_in shared p) (shared_ins shared ps))
          (same-trans σ (same-trans σ (parted-bunch σ f ac q) (join-resp σ f (rw x at a.sum) (rw z at b.sum)))
          (same-sym σ (bunch-append σ f ac (map either (shared_in shared p)) (map either (shared_ins shared ps)))))

      sharing-each : Sharing (shared_ins shared (cons p ps)) l λ υ. Equivalents σ (cons t ts) (substitute_in υ (cons p
          ps))
      sharing-each =
          record {
            substitution = either;
            image = either-images;
            others = either-others;
            gives = each
                (then a.gives (substitute-agree σ a.substitution either p λ x h.
                subst (λ (u : Term). Equivalent σ (a.substitution x) u) (either_first x h) same))
                (equivalents-then b.gives (substitute_in-agree σ b.substitution either ps λ x h.
                subst (λ (u : Term). Equivalent σ (b.substitution x) u) (either-later x h) same));
            sum = either-sum;
          }

    mutual
      pub filling-sound : {p t : Term} {l : List Term} → Filling f shared τ p l t → Once shared p →
          ((u : Term) → Memᴰ u l → Image u) →
          Sharing (shared_in shared p) l λ υ. Equivalent σ t (substitute υ p)
      filling-sound (own {x} {t} s q) o h = filling-own x t s q
      filling-sound (taken {x} {l} {t} s q) o h = filling-taken x l t h s q
      filling-sound (node {g} hs) o h =
          let s = fillings-sound hs (λ x e. omega (arith, o x e)) h in
          record {
            substitution = s.substitution;
            image = s.image;
            others = s.others;
            gives = under s.gives;
            sum = s.sum;
          }

      fillings-sound : {ps ts : Terms} {l : List Term} → Fillings f shared τ ps l ts →
          ((x : ℕ) → shared x ≡ true → occurrences_in x ps ≤ 1) → ((u : Term) → Memᴰ u l → Image u) →
          Sharing (shared_ins shared ps) l λ υ. Equivalents σ ts (substitute_in υ ps)
      fillings-sound none_filled o h =
          record { substitution = τ; image = images; others = λ y e. refl; gives = none; sum = both_empty }
      fillings-sound (each_filled {p} {ps} q k ks) o h =
          sharing-each p ps q o (filling-sound k (λ x e. omega (arith, o x e)) λ u i. h u (parted-left q u i))
          (fillings-sound ks (λ x e. omega (arith, o x e)) λ u i. h u (parted-right q u i))

    -- ---- variables that are dropped

    abbrev put : ℕ → Term → Substitution → Substitution
    put x t κ y = cond (eqb x y) t (κ y)

    put-image : (x : ℕ) (t : Term) (κ : Substitution) → Image t → ((y : ℕ) → Image (κ y)) → (y : ℕ) → Image (put x t κ
        y)
    put-image x t κ h k y = by_test (eqb x y) (λ e. rw e h) λ e. rw e (k y)

    put_other : (x : ℕ) (t : Term) (κ : Substitution) (y : ℕ) → (x ≡ y → ⊥) → put x t κ y ≡ κ y
    put_other x t κ y h = by_test (eqb x y) (λ e. absurd (h (eqb-true x y e))) λ e. rw e refl

    -- A substitution that differs on some variables alone, for which it puts the elements of a list.
    pub record Dropping (κ : Substitution) (ds : List ℕ) (l : List Term) : Type 0 where
      pub substitution : Substitution
      pub image : (x : ℕ) → Image (substitution x)
      pub others : (x : ℕ) → (Memᴰ x ds → ⊥) → substitution x ≡ κ x
      pub sum : SameBunch σ (bunch_of f l) (bunch_of f (map substitution ds))

    drop-one : (κ : Substitution) → ((x : ℕ) → Image (κ x)) → (d : ℕ) (e : Term) (l : List Term) →
        ((u : Term) → Memᴰ u (e ∷ l) → Image u) → Dropping κ (d ∷ []) (e ∷ l)
    drop-one κ k d e l h =
        let t = joined f e l in
        record {
          substitution = put d t κ;
          image = put-image d t κ (sums (e ∷ l) h t (bunch-joined f e l)) k;
          others = λ x n. put_other d t κ x λ q. n (Memᴰ.head (sym q));
          sum = rw (bunch-joined f e l, eqb-self) (same_refl σ (full t));
        }

    drop_more : (κ : Substitution) (d : ℕ) (ds : List ℕ) (e : Term) (l : List Term) → Image e →
        (Memᴰ d ds → ⊥) → Dropping κ ds l → Dropping κ (d ∷ ds) (e ∷ l)
    drop_more κ d ds e l h n r =
        record {
          substitution = put d e r.substitution;
          image = put-image d e r.substitution h r.image;
          others = λ x m. put_other d e r.substitution x (λ q. m (Memᴰ.head (sym q))) ∙
              r.others x λ i. m (Memᴰ.tail i);
          sum = rw (
            eqb-self,
            map-agree (put d e r.substitution) r.substitution ds λ y i.
                put_other d e r.substitution y λ q. n (subst (λ (z : ℕ). Memᴰ z ds) (sym q) i),
          )
              (join-resp σ f (same_refl σ (full e)) r.sum);
        }

    pub drop-sound : (κ : Substitution) → ((x : ℕ) → Image (κ x)) → (ds : List ℕ) (l : List Term) →
        length ds ≤ length l → (length ds ≡ 0 → length l ≡ 0) → Distinct ds → ((u : Term) → Memᴰ u l → Image u) →
        Dropping κ ds l
    drop-sound κ k [] [] n z p h =
        record { substitution = κ; image = k; others = λ x m. refl; sum = both_empty }
    drop-sound κ k [] (e ∷ l) n z p h = absurd (omega (arith, z refl))
    drop-sound κ k (d ∷ ds) [] n z p h = absurd (omega arith)
    drop-sound κ k (d ∷ []) (e ∷ l) n z p h = drop-one κ k d e l h
    drop-sound κ k (d ∷ (c ∷ ds)) (e ∷ l) n z p h =
        drop_more κ d (c ∷ ds) e l (h e (Memᴰ.head refl)) p.0
        (drop-sound κ k (c ∷ ds) l (omega arith) (λ q. absurd (omega arith)) p.1 λ u i. h u (Memᴰ.tail i))
