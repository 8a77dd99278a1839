-- The laws of rows: likeness element by element, and the lexicographic extension of an order.
--     row_equal-length, row_equal-equivalence     equal lengths; an equivalence
--     row_greater-equal                          equal rows are not greater, whatever the order is
--     row_greater-order                          a strict order; no equal lengths are asked
--     row_greater-among                          one element greater, the others the same
-- That it is total where the order is stands in Totality.
use mathlib.Core.List.{List, [], ◌∷◌, ◌++◌}
use mathlib.Core.Path.{◌≡◌, refl, ap}
use mathlib.Core.Bool.{Bool, true, false, false≢true, and-eq-true_iff as both}
use Prim.Native.Nat.{suc}
use lib.ListN.{length}
use Rattle.multisets.proofs.Relations.{by_test, IsEquivalence, IsStrictOrder, unlike-of-greater}
use Rattle.multisets.specs.Multiset.{row_equal, row_greater}

module _ {A : Type 0} (like : A → A → Bool) where
  pub row_equal-length : (l m : List A) → row_equal like l m ≡ true → length l ≡ length m
  unfolding row_equal
  row_equal-length [] [] e = refl
  row_equal-length [] (b ∷ m) e = absurd (false≢true e)
  row_equal-length (a ∷ l) [] e = absurd (false≢true e)
  row_equal-length (a ∷ l) (b ∷ m) e = ap suc (row_equal-length l m ((both (like a b) _).0 e).1)

  pub row_greater-equal : (greater : A → A → Bool) (l m : List A) → row_equal like l m ≡ true →
      row_greater like greater l m ≡ false
  unfolding row_equal row_greater
  row_greater-equal greater [] m e = refl
  row_greater-equal greater (a ∷ l) [] e = refl
  row_greater-equal greater (a ∷ l) (b ∷ m) e =
      let h = (both (like a b) _).0 e in rw h.0 (row_greater-equal greater l m h.1)

  module _ (E : IsEquivalence like) where
    row_equal-refl : (l : List A) → row_equal like l l ≡ true
    unfolding row_equal
    row_equal-refl [] = refl
    row_equal-refl (a ∷ l) = (both _ _).1 (E.reflexive a, row_equal-refl l)

    row_equal-sym : (l m : List A) → row_equal like l m ≡ true → row_equal like m l ≡ true
    unfolding row_equal
    row_equal-sym [] [] e = e
    row_equal-sym [] (b ∷ m) e = e
    row_equal-sym (a ∷ l) [] e = e
    row_equal-sym (a ∷ l) (b ∷ m) e =
        let h = (both (like a b) _).0 e in (both _ _).1 (E.symmetric h.0, row_equal-sym l m h.1)

    row_equal-trans : (l m n : List A) → row_equal like l m ≡ true → row_equal like m n ≡ true → row_equal like l n ≡ true
    unfolding row_equal
    row_equal-trans [] [] n e f = f
    row_equal-trans [] (b ∷ m) n e f = absurd (false≢true e)
    row_equal-trans (a ∷ l) [] n e f = absurd (false≢true e)
    row_equal-trans (a ∷ l) (b ∷ m) [] e f = f
    row_equal-trans (a ∷ l) (b ∷ m) (c ∷ n) e f =
        let h = (both (like a b) _).0 e in
        let k = (both (like b c) _).0 f in
        (both _ _).1 (E.transitive h.0 k.0, row_equal-trans l m n h.1 k.1)

    pub row_equal-equivalence : IsEquivalence (row_equal like)
    row_equal-equivalence =
        record {
          reflexive = row_equal-refl;
          symmetric = λ {a} {b}. row_equal-sym a b;
          transitive = λ {a} {b} {c}. row_equal-trans a b c;
        }

    module _ (greater : A → A → Bool) (O : IsStrictOrder like greater) where
      -- The first elements decide, or are alike.
      pub data First (a b : A) (l m : List A) : Type 0 where
        ahead : greater a b ≡ true → First a b l m
        level : like a b ≡ true → row_greater like greater l m ≡ true → First a b l m

      pub row_first : {a b : A} (l m : List A) → row_greater like greater (a ∷ l) (b ∷ m) ≡ true → First a b l m
      unfolding row_greater
      row_first {a} {b} l m h = by_test (like a b) (λ e. level e (rw e at h)) λ e. ahead (rw e at h)

      pub first-row : {a b : A} (l m : List A) → First a b l m → row_greater like greater (a ∷ l) (b ∷ m) ≡ true
      unfolding row_greater
      first-row l m (ahead g) = rw (unlike-of-greater like E greater O g) g
      first-row l m (level e h) = rw e h

      row_greater-trans : (l m n : List A) → row_greater like greater l m ≡ true → row_greater like greater m n ≡ true →
          row_greater like greater l n ≡ true
      unfolding row_greater
      row_greater-trans [] m n h k = absurd (false≢true h)
      row_greater-trans (a ∷ l) [] n h k = absurd (false≢true h)
      row_greater-trans (a ∷ l) (b ∷ m) [] h k = k
      row_greater-trans (a ∷ l) (b ∷ m) (c ∷ n) h k =
          first-row l n (go (row_greater-trans l m n) (row_first l m h) (row_first m n k))
        where
          go : (row_greater like greater l m ≡ true → row_greater like greater m n ≡ true →
              row_greater like greater l n ≡ true) →
              First a b l m → First b c m n → First a c l n
          go ih (ahead g) (ahead g') = ahead (O.transitive g g')
          go ih (ahead g) (level e k) = ahead (O.respects (E.reflexive a) e g)
          go ih (level e h) (ahead g) = ahead (O.respects (E.symmetric e) (E.reflexive c) g)
          go ih (level e h) (level f k) = level (E.transitive e f) (ih h k)

      row_greater-irrefl : (l m : List A) → row_greater like greater l m ≡ true → row_equal like l m ≡ true → ⊥
      unfolding row_equal row_greater
      row_greater-irrefl [] m h e = false≢true h
      row_greater-irrefl (a ∷ l) [] h e = false≢true h
      row_greater-irrefl (a ∷ l) (b ∷ m) h e =
          let k = (both (like a b) _).0 e in row_greater-irrefl l m (rw k.0 at h) k.1

      row_greater-resp : (l l' m m' : List A) → row_equal like l l' ≡ true → row_equal like m m' ≡ true →
          row_greater like greater l m ≡ true →
          row_greater like greater l' m' ≡ true
      unfolding row_equal row_greater
      row_greater-resp [] l' m m' e f h = absurd (false≢true h)
      row_greater-resp (a ∷ l) l' [] m' e f h = absurd (false≢true h)
      row_greater-resp (a ∷ l) [] (b ∷ m) m' e f h = absurd (false≢true e)
      row_greater-resp (a ∷ l) (a' ∷ l') (b ∷ m) [] e f h = absurd (false≢true f)
      row_greater-resp (a ∷ l) (a' ∷ l') (b ∷ m) (b' ∷ m') e f h =
          let i = (both (like a a') _).0 e in
          let j = (both (like b b') _).0 f in
          first-row l' m' (elim (row_first l m h) [
            | ahead g ↦ ahead (O.respects i.0 j.0 g)
            | level k n ↦ level (E.transitive (E.symmetric i.0) (E.transitive k j.0))
                (row_greater-resp l l' m m' i.1 j.1 n)
          ])

      pub row_greater-order : IsStrictOrder (row_equal like) (row_greater like greater)
      row_greater-order = record {
        transitive = λ {a} {b} {c}. row_greater-trans a b c;
        irreflexive = λ {a} {b}. row_greater-irrefl a b;
        respects = λ {a} {a'} {b} {b'}. row_greater-resp a a' b b';
      }

      -- One element greater, the others the same.
      pub row_greater-among : (ss ts : List A) {s t : A} → greater s t ≡ true →
          row_greater like greater (ss ++ (s ∷ ts)) (ss ++ (t ∷ ts)) ≡ true
      row_greater-among [] ts g = first-row ts ts (ahead g)
      row_greater-among (r ∷ ss) ts {s} {t} g =
          first-row (ss ++ (s ∷ ts)) (ss ++ (t ∷ ts)) (level (E.reflexive r) (row_greater-among ss ts g))
