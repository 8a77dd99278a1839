-- Multisets under choosing and flattening.
--     choose-append, -length, -member, -none, -same   what is chosen of a list
--     some-member, some-of-member                     an element that passes
--     choose-in, choose-out, multiset_equal-choose     choosing by a test that respects likeness
use mathlib.Core.List.Memᴰ
use mathlib.Core.List.{List, [], ◌∷◌, ◌++◌, flat_map, Memᴰ}
use mathlib.Core.List.{append_assoc}
use mathlib.Core.Path.{◌≡◌, refl, sym, ap, ap₂, ◌∙◌}
use mathlib.Core.Bool.{Bool, true, false, cond, true≢false, false≢true, or-true}
use Prim.Native.Nat.{ℕ, ◌≤◌}
use lib.ListN.{length}
use native.Mathlib.Omega.{arith}
use Rattle.multisets.proofs.Relations.{by_test, IsEquivalence}
use Rattle.multisets.specs.Multiset.{choose, some, multiset_equal}
use Rattle.multisets.proofs.MultisetLaws.{bit, sum, sum-append, count, Respects}
use Rattle.multisets.proofs.MultisetLaws.{multiset_equal-counts}

-- ---- choosing

module _ {A : Type 0} (p : A → Bool) where
  pub choose-append : (l m : List A) → choose p (l ++ m) ≡ choose p l ++ choose p m
  choose-append [] m = refl
  choose-append (a ∷ l) m =
      by_test (p a) (λ e. rw e (ap (◌∷◌ a) (choose-append l m))) λ e. rw e (choose-append l m)

  pub choose-length : (l : List A) → length (choose p l) ≤ length l
  choose-length [] = omega arith
  choose-length (a ∷ l) =
      by_test (p a) (λ e. rw e (omega (arith, choose-length l))) λ e. rw e (omega (arith, choose-length l))

  pub choose-member : (l : List A) {a : A} → Memᴰ a (choose p l) → Memᴰ a l × (p a ≡ true)
  choose-member [] m = absurd (Memᴰ.not-nil m)
  choose-member (b ∷ l) {a} m =
      by_test (p b) (λ e. go e (λ k. choose-member l k) (rw e at m))
      λ e. let (k, h) = choose-member l (rw e at m) in (Memᴰ.tail k, h)
    where
      go : p b ≡ true → (Memᴰ a (choose p l) → Memᴰ a l × (p a ≡ true)) → Memᴰ a (b ∷ choose p l) →
          Memᴰ a (b ∷ l) × (p a ≡ true)
      go e ih (Memᴰ.head q) = (Memᴰ.head q, rw q e)
      go e ih (Memᴰ.tail k) = let (i, h) = ih k in (Memᴰ.tail i, h)

  pub member-choose : {a : A} {l : List A} → Memᴰ a l → p a ≡ true → Memᴰ a (choose p l)
  member-choose (Memᴰ.head e) h = rw (← e, h) (Memᴰ.head refl)
  member-choose (Memᴰ.tail {x = b} m) h =
      by_test (p b) (λ e. rw e (Memᴰ.tail (member-choose m h))) λ e. rw e (member-choose m h)

  pub choose-none : (l : List A) → ((a : A) → Memᴰ a l → p a ≡ false) → choose p l ≡ []
  choose-none [] h = refl
  choose-none (a ∷ l) h = rw (h a (Memᴰ.head refl)) (choose-none l λ b m. h b (Memᴰ.tail m))

  pub choose-same : (q : A → Bool) (l : List A) → ((a : A) → Memᴰ a l → p a ≡ q a) → choose p l ≡ choose q l
  choose-same q [] h = refl
  choose-same q (a ∷ l) h =
      ap₂ (λ (b : Bool) (m : List A). cond b (a ∷ m) m) (h a (Memᴰ.head refl))
      (choose-same q l λ b m. h b (Memᴰ.tail m))

  pub some-member : (l : List A) → some p l ≡ true → (a : A) × Memᴰ a l × (p a ≡ true)
  some-member [] e = absurd (false≢true e)
  some-member (a ∷ l) e =
      by_test (p a) (λ h. (a, Memᴰ.head refl, h))
      λ h. let (b, m, k) = some-member l (rw h at e) in (b, Memᴰ.tail m, k)

  pub some-of-member : {a : A} {l : List A} → Memᴰ a l → p a ≡ true → some p l ≡ true
  some-of-member (Memᴰ.head e) h = rw (← e, h)
  some-of-member (Memᴰ.tail {x = b} m) h = rw (some-of-member m h) (or-true (p b))

module _ {A : Type 0} (like : A → A → Bool) (E : IsEquivalence like) (p : A → Bool) (k : Respects like p) where
  told-apart : (a b : A) → (p a ≡ p b → ⊥) → like a b ≡ false
  told-apart a b h = by_test (like a b) (λ f. absurd (h (k a b f))) λ f. f

  pub choose-in : (a : A) (l : List A) → p a ≡ true → count like a (choose p l) ≡ count like a l
  choose-in a [] h = refl
  choose-in a (b ∷ l) h =
      by_test (p b) (λ e. rw e (omega (arith, choose-in a l h)))
      λ e. rw e (omega (arith, choose-in a l h, ap bit (told-apart a b λ f. true≢false (sym h ∙ f ∙ e))))

  pub choose-out : (a : A) (l : List A) → p a ≡ false → count like a (choose p l) ≡ 0
  choose-out a [] h = refl
  choose-out a (b ∷ l) h =
      by_test (p b) (λ e. rw e (omega (
        arith,
        choose-out a l h,
        ap bit (told-apart a b λ f. false≢true (sym h ∙ f ∙ e)),
      )))
      λ e. rw e (choose-out a l h)

  pub multiset_equal-choose : (ss ts : List A) → multiset_equal like ss ts ≡ true →
      multiset_equal like (choose p ss) (choose p ts) ≡ true
  multiset_equal-choose ss ts e =
      (multiset_equal-counts like E (choose p ss) (choose p ts)).1
      λ a. by_test (p a) (λ f. omega (
        arith,
        choose-in a ss f,
        choose-in a ts f,
        (multiset_equal-counts like E ss ts).0 e a,
      ))
      λ f. omega (arith, choose-out a ss f, choose-out a ts f)

-- ---- flattening

module _ {A B : Type 0} where
  pub flat_map-append : (f : A → List B) (l m : List A) → flat_map f (l ++ m) ≡ flat_map f l ++ flat_map f m
  unfolding flat_map
  flat_map-append f [] m = refl
  flat_map-append f (a ∷ l) m = rw (flat_map-append f l m, append_assoc)

  pub sum-flat_map : (w : B → ℕ) (f : A → List B) (l : List A) → sum w (flat_map f l) ≡ sum (λ (a : A). sum w (f a)) l
  unfolding flat_map
  sum-flat_map w f [] = refl
  sum-flat_map w f (a ∷ l) = omega (arith, sum-append w (f a) (flat_map f l), sum-flat_map w f l)
