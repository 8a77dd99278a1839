-- Well-formed terms that the test holds alike are AC-equivalent.
--     SameBunch, same-*, join-*, bunch-*   joined terms are a commutative monoid up to AC-equivalence
--     multiset-sound           lists that are equal as multisets, joined, are equivalent
--     flattening-joined        a term is equivalent to its flattening, joined
--     is_equivalent→Equivalent  so the test is sound
use mathlib.Core.List.{List, [], ◌∷◌, ◌++◌, Memᴰ}
use mathlib.Core.Path.{◌≡◌, refl, ◌∙◌}
use mathlib.Core.Bool.{Bool, true, false≢true, and-eq-true_iff as both}
use Prim.Native.Nat.{ℕ, suc, zero, ◌≤◌}
use native.Mathlib.Omega.{arith}
use lib.ListN.{length}
use lib.Dec.{eqb}
use borrow.Author.Tests.{eqb-true}
use Rattle.terms.specs.Signature.{Signature, symbol_of, AcBinary}
use Rattle.terms.specs.Term.{Term, Terms, size, sizes, row, flattening, flattenings, WellFormed, WellFormeds}
use Rattle.terms.specs.Term.Term.{var, app}
use Rattle.terms.specs.Term.Terms.{nil, cons}
use Rattle.multisets.specs.Multiset.{multiset_equal, row_equal}
use Rattle.terms.specs.Equivalence.{Equivalent, Equivalents, arguments_alike, is_equivalent_to, is_equivalent}
use Rattle.terms.specs.Equivalence.Equivalent.{same, back, then, under, exchange, regroup}
use Rattle.terms.specs.Equivalence.Equivalents.{none, each}
use Rattle.terms.specs.Bunch.{Bunch, join, bunch_of}
use Rattle.terms.specs.Bunch.Bunch.{empty, full}
use Rattle.multisets.proofs.Relations.{by_test, eqb-self}
use Rattle.multisets.proofs.MultisetLaws.{Takes, here, later, takes-member, takes-within, multiset_equal-split}
use Rattle.terms.proofs.TermLaws.{size-pos, flattenings-smaller, flattenings-formed}

module _ (f : ℕ) where
  pub bunch-two : (ts : Terms) → length (row ts) ≡ 2 → bunch_of f (row ts) ≡ full (app f ts)
  bunch-two nil e = absurd (omega arith)
  bunch-two (cons s nil) e = absurd (omega arith)
  bunch-two (cons s (cons t nil)) e = refl
  bunch-two (cons s (cons t (cons u ts))) e = absurd (omega arith)

module _ (σ : Signature) where
  pub data SameBunch : Bunch → Bunch → Type 0 where
    both_empty : SameBunch empty empty
    both_full : {s t : Term} → Equivalent σ s t → SameBunch (full s) (full t)

  pub from-full : {s t : Term} → SameBunch (full s) (full t) → Equivalent σ s t
  from-full (both_full h) = h

  pub same_refl : (a : Bunch) → SameBunch a a
  same_refl empty = both_empty
  same_refl (full s) = both_full same

  pub same-sym : {a b : Bunch} → SameBunch a b → SameBunch b a
  same-sym both_empty = both_empty
  same-sym (both_full h) = both_full (back h)

  pub same-trans : {a b c : Bunch} → SameBunch a b → SameBunch b c → SameBunch a c
  same-trans both_empty k = k
  same-trans (both_full h) (both_full k) = both_full (then h k)

  module _ (f : ℕ) where
    pub join-resp : {a b c d : Bunch} → SameBunch a b → SameBunch c d → SameBunch (join f a c) (join f b d)
    join-resp both_empty k = k
    join-resp (both_full h) both_empty = both_full h
    join-resp (both_full h) (both_full k) = both_full (under (each h (each k none)))

    module _ (ac : (symbol_of σ f).ac ≡ true) where
      pub join-swap : (a b : Bunch) → SameBunch (join f a b) (join f b a)
      join-swap empty empty = both_empty
      join-swap empty (full t) = both_full same
      join-swap (full s) empty = both_full same
      join-swap (full s) (full t) = both_full (exchange ac)

      pub join-regroup : (a b c : Bunch) → SameBunch (join f (join f a b) c) (join f a (join f b c))
      join-regroup empty b c = same_refl (join f b c)
      join-regroup (full s) empty c = same_refl (join f (full s) c)
      join-regroup (full s) (full t) empty = both_full same
      join-regroup (full s) (full t) (full u) = both_full (regroup ac)

      pub join-exchange : (a b c : Bunch) → SameBunch (join f a (join f b c)) (join f b (join f a c))
      join-exchange a b c =
          same-trans (same-sym (join-regroup a b c))
          (same-trans (join-resp (join-swap a b) (same_refl c)) (join-regroup b a c))

      pub bunch-append : (a b : List Term) → SameBunch (bunch_of f (a ++ b)) (join f (bunch_of f a) (bunch_of f b))
      bunch-append [] b = same_refl (bunch_of f b)
      bunch-append (s ∷ a) b =
          same-trans (join-resp (same_refl (full s)) (bunch-append a b))
          (same-sym (join-regroup (full s) (bunch_of f a) (bunch_of f b)))

      pub bunch-takes : {t : Term} {l m : List Term} → Takes t l m →
          SameBunch (bunch_of f l) (join f (full t) (bunch_of f m))
      bunch-takes {t} {l} here = same_refl (bunch_of f l)
      bunch-takes {t} (later {b = s} {m} x) =
          same-trans (join-resp (same_refl (full s)) (bunch-takes x)) (join-exchange (full s) (full t) (bunch_of f m))

      pub multiset-sound : (like : Term → Term → Bool) (ss ts : List Term) →
          ((s t : Term) → Memᴰ s ss → Memᴰ t ts → like s t ≡ true → Equivalent σ s t) →
          multiset_equal like ss ts ≡ true → SameBunch (bunch_of f ss) (bunch_of f ts)
      unfolding multiset_equal
      multiset-sound like [] [] h e = both_empty
      multiset-sound like [] (t ∷ ts) h e = absurd (false≢true e)
      multiset-sound like (s ∷ ss) ts h e =
          let (t, us, l, x, r) = multiset_equal-split like s ss ts e in
          same-trans
          (join-resp (both_full (h s t (Memᴰ.head refl) (takes-member x) l))
          (multiset-sound like ss us (λ u v m k. h u v (Memᴰ.tail m) (takes-within x k)) r))
          (same-sym (bunch-takes x))

      module _ (binary : AcBinary σ) where
        whole : (ts : Terms) → length (row ts) ≡ (symbol_of σ f).arity →
            SameBunch (bunch_of f (flattenings f ts)) (bunch_of f (row ts)) →
            SameBunch (bunch_of f (flattenings f ts)) (full (app f ts))
        whole ts n h = rw (bunch-two f ts (n ∙ binary f ac)) at h

        mutual
          pub flattening-joined : (t : Term) → WellFormed σ t → SameBunch (bunch_of f (flattening f t)) (full t)
          flattening-joined (var x) w = both_full same
          flattening-joined (app g ts) w =
              by_test (eqb f g)
              (λ e. let p = eqb-true f g e in rw (e, ← p) (whole ts (rw p w.1) (flattenings-joined ts w.2)))
              λ e. rw e (both_full same)

          pub flattenings-joined : (ts : Terms) → WellFormeds σ ts →
              SameBunch (bunch_of f (flattenings f ts)) (bunch_of f (row ts))
          flattenings-joined nil w = both_empty
          flattenings-joined (cons t ts) w =
              same-trans (bunch-append (flattening f t) (flattenings f ts))
              (join-resp (flattening-joined t w.0) (flattenings-joined ts w.1))

        pub flattenings-whole : (ts : Terms) → WellFormed σ (app f ts) →
            SameBunch (bunch_of f (flattenings f ts)) (full (app f ts))
        flattenings-whole ts w = rw eqb-self at (flattening-joined (app f ts) w)

  -- One level of the test, sound where the level below is.
  module _ (binary : AcBinary σ) (like : Term → Term → Bool) where
    pub row-sound : (ss ts : Terms) →
        ((s t : Term) → size s ≤ sizes ss → WellFormed σ s → WellFormed σ t → like s t ≡ true → Equivalent σ s t) →
        WellFormeds σ ss → WellFormeds σ ts → row_equal like (row ss) (row ts) ≡ true → Equivalents σ ss ts
    unfolding row_equal
    row-sound nil nil h v w e = none
    row-sound nil (cons t ts) h v w e = absurd (false≢true e)
    row-sound (cons s ss) nil h v w e = absurd (false≢true e)
    row-sound (cons s ss) (cons t ts) h v w e =
        let d = (both (like s t) _).0 e in
        each (h s t (omega arith) v.0 w.0 d.0)
        (row-sound ss ts (λ a b l. h a b (omega arith)) v.1 w.1 d.1)

    arguments_sound : (f : ℕ) (ss ts : Terms) →
        ((s t : Term) → size s ≤ sizes ss → WellFormed σ s → WellFormed σ t → like s t ≡ true → Equivalent σ s t) →
        WellFormed σ (app f ss) → WellFormed σ (app f ts) → arguments_alike σ like f ss ts ≡ true →
        Equivalent σ (app f ss) (app f ts)
    arguments_sound f ss ts h v w e = by_test (symbol_of σ f).ac
        (λ ac. from-full (same-trans (same-sym (flattenings-whole f ac binary ss v)) (same-trans
        (multiset-sound f ac like (flattenings f ss) (flattenings f ts) (λ s t m k.
        h s t (flattenings-smaller ss f s m) (flattenings-formed σ ss f v.2 s m)
        (flattenings-formed σ ts f w.2 t k))
        (rw ac at e))
        (flattenings-whole f ac binary ts w))))
        λ n. under (row-sound ss ts h v.2 w.2 (rw n at e))

  module _ (binary : AcBinary σ) where
    sound-to : (n : ℕ) (s t : Term) → size s ≤ n → WellFormed σ s → WellFormed σ t → is_equivalent_to σ n s t ≡ true →
        Equivalent σ s t
    unfolding is_equivalent_to
    sound-to zero s t l v w e = absurd (omega (arith, size-pos s))
    sound-to (suc n) (var x) (var y) l v w e = rw (eqb-true x y e) same
    sound-to (suc n) (var x) (app g ts) l v w e = absurd (false≢true e)
    sound-to (suc n) (app f ss) (var y) l v w e = absurd (false≢true e)
    sound-to (suc n) (app f ss) (app g ts) l v w e =
        let d = (both (eqb f g) _).0 e in
        let p = eqb-true f g d.0 in
        rw (← p)
        (arguments_sound binary (is_equivalent_to σ n) f ss ts (λ s t m. sound-to n s t (omega arith)) v (rw p w) d.1)

    pub is_equivalent→Equivalent : (s t : Term) → WellFormed σ s → WellFormed σ t → is_equivalent σ s t ≡ true →
        Equivalent σ s t
    unfolding is_equivalent
    is_equivalent→Equivalent s t = sound-to (size s) s t (omega arith)
