-- The canonical form of a term is AC-equivalent to it, is arranged, and is the only arranged term that is.
--     expression-order, expressions-compare      the order on expressions
--     canonical-equivalent                       a canonical form is AC-equivalent to the term
--     canonical-arranged                         it is grouped to the right, smallest first
--     arranged-unique, canonical-unique          AC-equivalent arranged terms are identical; so are canonical forms
use mathlib.Core.List.{List, [], ◌∷◌, append-nil, Memᴰ}
use mathlib.Core.Logic.{⊎_elim}
use mathlib.Core.Path.{◌≡◌, refl, sym, ap, ap₂, ◌∙◌}
use mathlib.Core.Bool.{Bool, true, false≢true, true≢false, and-eq-true_iff as both}
use Prim.Native.Nat.{ℕ, suc, zero, ◌≤◌, ◌<◌}
use native.Mathlib.Omega.{arith}
use lib.ListN.{length}
use lib.Dec.{eqb}
use borrow.Author.Tests.{eqb-true}
use Rattle.multisets.specs.Multiset.{row_equal}
use Rattle.multisets.specs.Sorting.{sorted, Ascending}
use Rattle.terms.specs.Signature.{Signature, symbol_of, AcBinary, Admissible}
use Rattle.terms.specs.Term.{Term, Terms, row, arguments, size, sizes, flattening, flattenings, WellFormed}
use Rattle.terms.specs.Term.{WellFormeds, Expression}
use Rattle.terms.specs.Term.Term.{var, app}
use Rattle.terms.specs.Term.Terms.{nil, cons}
use Rattle.terms.specs.Equivalence.{pair, Equivalent, Equivalents, arguments_alike, is_equivalent}
use Rattle.terms.specs.Equivalence.Equivalent.{same, back, then, under}
use Rattle.terms.specs.Equivalence.Equivalents.{none, each}
use Rattle.terms.specs.Bunch.{Bunch, bunch_of}
use Rattle.terms.specs.Bunch.Bunch.{full}
use Rattle.terms.specs.Order.{is_greater}
use Rattle.multisets.proofs.Relations.{by_test, eqb-self, Compared}
use Rattle.multisets.proofs.Relations.Compared.{above, alike, below}
use Rattle.multisets.proofs.Restriction.{IsStrictOrderOn}
use Rattle.multisets.proofs.SortingLaws.{insert-takes, sorted-member, sorted-length, sorted-ascending, row-of-ascending}
use Rattle.terms.proofs.TermLaws.{Hereditary, size-pos, row-each, flattenings-each, row-smaller, flattenings-smaller}
use Rattle.terms.proofs.TermLaws.{arguments-row}
use Rattle.terms.proofs.FlatteningLaws.{NotRoot, flattenings-roots, flattenings-long}
use Rattle.terms.proofs.EquivalenceLaws.{is_equivalent-equivalence, symbol-of-is_equivalent, arguments-of-is_equivalent}
use Rattle.terms.proofs.EquivalenceComplete.{Equivalent→is_equivalent}
use Rattle.terms.proofs.EquivalenceMeasures.{formed-resp-equivalent, expression-resp-equivalent}
use Rattle.terms.proofs.EquivalenceSound.{SameBunch, both_empty, both_full, same_refl, same-trans}
use Rattle.terms.proofs.EquivalenceSound.{bunch-two, join-resp, bunch-takes, flattenings-whole}
use Rattle.terms.proofs.VariableLaws.{Grounds, expressions, not-ground}
use Rattle.theory.proofs.StrictOrder.{is_greater-order}
use Rattle.theory.proofs.TotalOrder.{exactly-one}
use Rattle.simplifying.specs.Canonical.{term_or, arranged, canonical, canonicals, Arranged, ArrangedIn}

-- ---- the order on expressions

module _ (σ : Signature) (A : Admissible σ) where
  pub expression-order : IsStrictOrderOn (Expression σ) (is_equivalent σ) (is_greater σ)
  expression-order = let O = is_greater-order σ A in record {
    transitive = λ p q r. O.transitive p.0 q.0 r.0;
    irreflexive = λ p q. O.irreflexive p.0 q.0;
    respects = λ p q r s. O.respects p.0 q.0 r.0 s.0;
  }

  pub expressions-compare : (s t : Term) → Expression σ s → Expression σ t →
      Compared (is_equivalent σ) (is_greater σ) s t
  expressions-compare s t p q =
      ⊎_elim (λ h. above h.0)
      (⊎_elim (λ h. alike (Equivalent→is_equivalent σ h.1)) λ h. below h.2) (exactly-one σ A s t p q)

-- ---- joined terms

module _ (f : ℕ) where
  -- A term and more of them, joined from the right.
  abbrev pub joined : Term → List Term → Term
  joined t [] = t
  joined t (u ∷ l) = app f (pair t (joined u l))

  pub bunch-joined : (t : Term) (l : List Term) → bunch_of f (t ∷ l) ≡ full (joined t l)
  bunch-joined t [] = refl
  bunch-joined t (u ∷ l) = rw (bunch-joined u l)

  -- One element.
  abbrev pub Single : Term → Type 0
  Single t = flattening f t ≡ t ∷ []

  pub single-of-root : (t : Term) → NotRoot f t → Single t
  single-of-root (var x) h = refl
  single-of-root (app g ts) h = rw h

  pub flattening-of-joined : (t : Term) (l : List Term) → Single t → ((u : Term) → Memᴰ u l → Single u) →
      flattening f (joined t l) ≡ t ∷ l
  flattening-of-joined t [] h k = h
  flattening-of-joined t (u ∷ l) h k =
      rw (
        eqb-self,
        h,
        flattening-of-joined u l (k u (Memᴰ.head refl)) (λ v m. k v (Memᴰ.tail m)),
        append-nil,
      )

-- ---- AC-equivalence

module _ (σ : Signature) (binary : AcBinary σ) where
  sorted-bunch : (f : ℕ) → (symbol_of σ f).ac ≡ true → (greater : Term → Term → Bool) (l : List Term) →
      SameBunch σ (bunch_of f (sorted greater l)) (bunch_of f l)
  unfolding sorted
  sorted-bunch f ac greater [] = both_empty
  sorted-bunch f ac greater (t ∷ l) =
      same-trans σ (bunch-takes σ f ac (insert-takes greater t (sorted greater l)))
      (join-resp σ f (same_refl σ (full t)) (sorted-bunch f ac greater l))

  of-bunch : {b : Bunch} {t : Term} (u : Term) → SameBunch σ b (full t) → Equivalent σ (term_or u b) t
  of-bunch u (both_full d) = d

  arranged-equivalent : (f : ℕ) (ts : Terms) → WellFormed σ (app f ts) → Equivalent σ (arranged σ f ts) (app f ts)
  unfolding arranged
  arranged-equivalent f ts w =
      by_test (symbol_of σ f).ac
      (λ c. rw c (of-bunch (app f ts) (same-trans σ (sorted-bunch f c (is_greater σ) (flattenings f ts))
      (flattenings-whole σ f c binary ts w))))
      λ c. rw c same

  mutual
    pub canonical-equivalent : (t : Term) → WellFormed σ t → Equivalent σ (canonical σ t) t
    canonical-equivalent (var x) w = same
    canonical-equivalent (app f ts) w =
        let d : Equivalent σ (app f (canonicals σ ts)) (app f ts) = under (canonicals-equivalent ts w.2) in
        then (arranged-equivalent f (canonicals σ ts) ((formed-resp-equivalent σ d).1 w)) d

    canonicals-equivalent : (ts : Terms) → WellFormeds σ ts → Equivalents σ (canonicals σ ts) ts
    canonicals-equivalent nil w = none
    canonicals-equivalent (cons t ts) w = each (canonical-equivalent t w.0) (canonicals-equivalent ts w.1)

-- ---- arranged terms

pub arranged-parts : (σ : Signature) → Hereditary (Arranged σ) (ArrangedIn σ)
arranged-parts σ = record { inner = λ f ts a. a.1; head = λ t ts a. a.0; tail = λ t ts a. a.1 }

module _ (σ : Signature) (f : ℕ) where
  pub joined-arranged : (t : Term) (l : List Term) → ((u : Term) → Memᴰ u (t ∷ l) → Arranged σ u × Single f u) →
      Ascending (is_greater σ) (t ∷ l) → Arranged σ (joined f t l)
  joined-arranged t [] h s = (h t (Memᴰ.head refl)).0
  joined-arranged t (u ∷ l) h s =
      let (a, b) = h t (Memᴰ.head refl) in
      let h' : (v : Term) → Memᴰ v (u ∷ l) → Arranged σ v × Single f v = λ v m. h v (Memᴰ.tail m) in
      let e = flattening-of-joined f u l (h' u (Memᴰ.head refl)).1 (λ v m. (h' v (Memᴰ.tail m)).1) in
      (λ c. (b, rw (append-nil, b, e) s), (a, (joined-arranged u l h' s.1, tt)))

module _ (σ : Signature) (A : Admissible σ) where
  elements-sorted : (f : ℕ) (ts : Terms) → Expression σ (app f ts) →
      Ascending (is_greater σ) (sorted (is_greater σ) (flattenings f ts))
  elements-sorted f ts e =
      sorted-ascending (Expression σ) (is_equivalent σ) (is_equivalent-equivalence σ) (is_greater σ) (expression-order σ A)
      (expressions-compare σ A) (flattenings f ts)
      λ u. flattenings-each (expressions σ) u ts f ((expressions σ).inner f ts e)

  arranged-arranged : (f : ℕ) (ts : Terms) → Expression σ (app f ts) → ArrangedIn σ ts → Arranged σ (arranged σ f ts)
  unfolding arranged
  arranged-arranged f ts e a =
      by_test (symbol_of σ f).ac
      (λ c. rw c (go (sorted (is_greater σ) (flattenings f ts))
      (λ u m. part u (sorted-member (is_greater σ) (flattenings f ts) u m))
      (elements-sorted f ts e)
      (omega (
        arith,
        sorted-length (is_greater σ) (flattenings f ts),
        flattenings-long σ f (A.ac_binary f c) ts e.0.2,
        A.ac_binary f c,
      ))))
      λ c. rw c (λ d. absurd (true≢false (sym d ∙ c)), a)
    where
      part : (u : Term) → Memᴰ u (flattenings f ts) → Arranged σ u × Single f u
      part u m = (
        flattenings-each (arranged-parts σ) u ts f a m,
        single-of-root f u (flattenings-roots f ts u m),
      )

      go : (l : List Term) → ((u : Term) → Memᴰ u l → Arranged σ u × Single f u) → Ascending (is_greater σ) l →
          0 < length l → Arranged σ (term_or (app f ts) (bunch_of f l))
      go [] h s n = absurd (omega arith)
      go (t ∷ l) h s n = rw (bunch-joined f t l) (joined-arranged σ f t l h s)

  mutual
    pub canonical-arranged : (t : Term) → Expression σ t → Arranged σ (canonical σ t)
    canonical-arranged (var x) e = tt
    canonical-arranged (app f ts) e =
        arranged-arranged f (canonicals σ ts)
        (expression-resp-equivalent σ (back (under (canonicals-equivalent σ A.ac_binary ts e.0.2))) e)
        (canonicals-arranged ts ((expressions σ).inner f ts e))

    canonicals-arranged : (ts : Terms) → WellFormeds σ ts × Grounds ts → ArrangedIn σ (canonicals σ ts)
    canonicals-arranged nil e = tt
    canonicals-arranged (cons t ts) e =
        (canonical-arranged t ((expressions σ).head t ts e), canonicals-arranged ts ((expressions σ).tail t ts e))

-- ---- one arranged term

module _ (σ : Signature) (binary : AcBinary σ) (f : ℕ) (ac : (symbol_of σ f).ac ≡ true) where
  -- An arranged term is its flattening, joined.
  mutual
    arranged-joined : (t : Term) → WellFormed σ t → Arranged σ t → bunch_of f (flattening f t) ≡ full t
    arranged-joined (var x) w a = refl
    arranged-joined (app g ts) w a =
        by_test (eqb f g)
        (λ e. let p = eqb-true f g e in
        rw (e, ← p) (arguments-joined ts (rw (← p) at w.1 ∙ binary f ac) w.2 (rw (← p) at a)))
        λ e. rw e

    arguments-joined : (ts : Terms) → length (row ts) ≡ 2 → WellFormeds σ ts → Arranged σ (app f ts) →
        bunch_of f (flattenings f ts) ≡ full (app f ts)
    arguments-joined nil n w a = absurd (omega arith)
    arguments-joined (cons s ts) n w a =
        rw ((a.0 ac).0, last-joined ts (omega arith) w.1 a.1.1) (bunch-two f (cons s ts) n)

    last-joined : (ts : Terms) → length (row ts) ≡ 1 → WellFormeds σ ts → ArrangedIn σ ts →
        bunch_of f (flattenings f ts) ≡ bunch_of f (row ts)
    last-joined nil n w a = refl
    last-joined (cons t nil) n w a = rw append-nil (arranged-joined t w.0 a.0)
    last-joined (cons t (cons u ts)) n w a = absurd (omega arith)

row-unique : (like : Term → Term → Bool) (l m : List Term) →
    ((s t : Term) → Memᴰ s l → Memᴰ t m → like s t ≡ true → s ≡ t) → row_equal like l m ≡ true → l ≡ m
unfolding row_equal
row-unique like [] [] h e = refl
row-unique like [] (t ∷ m) h e = absurd (false≢true e)
row-unique like (s ∷ l) [] h e = absurd (false≢true e)
row-unique like (s ∷ l) (t ∷ m) h e =
    let (d, r) = (both (like s t) _).0 e in
    ap₂ ◌∷◌ (h s t (Memᴰ.head refl) (Memᴰ.head refl) d)
    (row-unique like l m (λ u v i j. h u v (Memᴰ.tail i) (Memᴰ.tail j)) r)

module _ (σ : Signature) (A : Admissible σ) where
  -- An arranged expression.
  abbrev Form : Term → Type 0
  Form t = Expression σ t × Arranged σ t

  abbrev Forms : Terms → Type 0
  Forms ts = (WellFormeds σ ts × Grounds ts) × ArrangedIn σ ts

  forms : Hereditary Form Forms
  forms = record {
    inner = λ f ts (e, a). ((expressions σ).inner f ts e, a.1);
    head = λ t ts (e, a). ((expressions σ).head t ts e, a.0);
    tail = λ t ts (e, a). ((expressions σ).tail t ts e, a.1);
  }

  arguments-unique : (f : ℕ) (ss ts : Terms) → Form (app f ss) → Form (app f ts) →
      ((s t : Term) → size s ≤ sizes ss → Form s → Form t → is_equivalent σ s t ≡ true → s ≡ t) →
      arguments_alike σ (is_equivalent σ) f ss ts ≡ true → ss ≡ ts
  arguments-unique f ss ts (v, a) (w, b) ih e =
      by_test (symbol_of σ f).ac
      (λ c. let r = row-of-ascending (Expression σ) (is_equivalent σ) (is_equivalent-equivalence σ) (is_greater σ)
      (expression-order σ A) (expressions-compare σ A) (flattenings f ss) (flattenings f ts)
      (λ u m. (flattenings-each forms u ss f (forms.inner f ss (v, a)) m).0)
      (λ u m. (flattenings-each forms u ts f (forms.inner f ts (w, b)) m).0) (a.0 c).1 (b.0 c).1 (rw c at e) in
      let q = row-unique (is_equivalent σ) (flattenings f ss) (flattenings f ts)
      (λ s t m n. ih s t (flattenings-smaller ss f s m) (flattenings-each forms s ss f (forms.inner f ss (v, a)) m)
      (flattenings-each forms t ts f (forms.inner f ts (w, b)) n)) r in
      let i = arguments-joined σ A.ac_binary f c ss (v.0.1 ∙ A.ac_binary f c) v.0.2 a in
      let j = arguments-joined σ A.ac_binary f c ts (w.0.1 ∙ A.ac_binary f c) w.0.2 b in
      cc (ap (bunch_of f) q))
      λ c. let q = row-unique (is_equivalent σ) (row ss) (row ts)
      (λ s t m n. ih s t (row-smaller ss s m) (row-each forms s ss (forms.inner f ss (v, a)) m)
      (row-each forms t ts (forms.inner f ts (w, b)) n)) (rw c at e) in
      sym (arguments-row ss) ∙ ap arguments q ∙ arguments-row ts

  unique-to : (n : ℕ) (s t : Term) → size s ≤ n → Form s → Form t → is_equivalent σ s t ≡ true → s ≡ t
  unique-to zero s t l v w e = absurd (omega (arith, size-pos s))
  unique-to (suc n) (var x) t l v w e = absurd (not-ground x v.0.1)
  unique-to (suc n) (app f ss) (var y) l v w e = absurd (not-ground y w.0.1)
  unique-to (suc n) (app f ss) (app g ts) l v w e =
      let p = symbol-of-is_equivalent σ f g ss ts e in
      ap₂ app p (arguments-unique f ss ts v (rw (← p) at w) (λ s t m. unique-to n s t (omega arith))
      (arguments-of-is_equivalent σ f g ss ts e))

  pub arranged-unique : (s t : Term) → Expression σ s → Expression σ t → Arranged σ s → Arranged σ t →
      Equivalent σ s t → s ≡ t
  arranged-unique s t v w a b d =
      unique-to (size s) s t (omega arith) (v, a) (w, b) (Equivalent→is_equivalent σ d)

  pub canonical-expression : (t : Term) → Expression σ t → Expression σ (canonical σ t)
  canonical-expression t e = expression-resp-equivalent σ (back (canonical-equivalent σ A.ac_binary t e.0)) e

  pub canonical-unique : (s t : Term) → Expression σ s → Equivalent σ s t → canonical σ s ≡ canonical σ t
  canonical-unique s t e d =
      let h = expression-resp-equivalent σ d e in
      arranged-unique (canonical σ s) (canonical σ t) (canonical-expression s e) (canonical-expression t h)
      (canonical-arranged σ A s e) (canonical-arranged σ A t h)
      (then (canonical-equivalent σ A.ac_binary s e.0)
      (then d (back (canonical-equivalent σ A.ac_binary t h.0))))
