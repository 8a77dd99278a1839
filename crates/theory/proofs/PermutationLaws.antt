-- Permutations, and what cancelling matches.
--     permutation-sum, permutation-member     sums and members of one multiset
--     Matched, cancel-matched                 cancelling leaves two lists less pairs of like elements
use mathlib.Core.List.{List, [], ◌∷◌, ◌++◌, Memᴰ}
use mathlib.Core.Path.{◌≡◌, refl, ◌∙◌}
use mathlib.Core.Bool.{Bool, true}
use Prim.Native.Nat.{ℕ}
use native.Mathlib.Omega.{arith}
use Rattle.multisets.specs.Multiset.{Removal, Rest, remove, spend, cancel}
use Rattle.multisets.specs.Multiset.Removal.{without, absent}
use Rattle.terms.specs.Article.{Permutation}
use Rattle.terms.specs.Article.Permutation.{empty, keep, swap, after}
use Rattle.multisets.proofs.MultisetLaws.{sum, Takes, Found, remove-found}
use Rattle.multisets.proofs.MultisetLaws.Takes.{here, later}

module _ {A : Type 0} where
  pub permutation-sum : (w : A → ℕ) {l m : List A} → Permutation l m → sum w l ≡ sum w m
  permutation-sum w empty = refl
  permutation-sum w (keep p) = omega (arith, permutation-sum w p)
  permutation-sum w swap = omega arith
  permutation-sum w (after p q) = permutation-sum w p ∙ permutation-sum w q

  pub permutation_refl : (l : List A) → Permutation l l
  permutation_refl [] = empty
  permutation_refl (a ∷ l) = keep (permutation_refl l)

  -- What stands in the second list stands in the first.
  pub permutation-member : {l m : List A} → Permutation l m → (a : A) → Memᴰ a m → Memᴰ a l
  permutation-member empty a i = i
  permutation-member (keep p) a (Memᴰ.head e) = Memᴰ.head e
  permutation-member (keep p) a (Memᴰ.tail i) = Memᴰ.tail (permutation-member p a i)
  permutation-member swap a (Memᴰ.head e) = Memᴰ.tail (Memᴰ.head e)
  permutation-member swap a (Memᴰ.tail (Memᴰ.head e)) = Memᴰ.head e
  permutation-member swap a (Memᴰ.tail (Memᴰ.tail i)) = Memᴰ.tail (Memᴰ.tail i)
  permutation-member (after p q) a i = permutation-member p a (permutation-member q a i)

  takes-permutation : {a : A} {l m : List A} → Takes a l m → Permutation l (a ∷ m)
  takes-permutation (here {l}) = permutation_refl (_ ∷ l)
  takes-permutation (later x) = after (keep (takes-permutation x)) swap

  middle : (a : A) (l m : List A) → Permutation (a ∷ (l ++ m)) (l ++ (a ∷ m))
  middle a [] m = permutation_refl (a ∷ m)
  middle a (b ∷ l) m = after swap (keep (middle a l m))

  module _ (like : A → A → Bool) where
    pub data Paired : List A → List A → Type 0 where
      alone : Paired [] []
      couple : {a b : A} {l m : List A} → like a b ≡ true → Paired l m → Paired (a ∷ l) (b ∷ m)

    -- Two lists are pairs of like elements with what is left of them.
    pub record Matched (ss ts : List A) (r : Rest A) : Type 0 where
      pub mine : List A
      pub yours : List A
      pub pairs : Paired mine yours
      pub from_mine : Permutation ss (mine ++ r.left)
      pub from_yours : Permutation ts (yours ++ r.right)

    -- Another pair, and another element that has no partner.
    matched-pair : {s a : A} {ss ts us : List A} {r : Rest A} → like s a ≡ true → Takes a ts us → Matched ss us r →
        Matched (s ∷ ss) ts r
    matched-pair {s} {a} e x m = record {
      mine = s ∷ m.mine;
      yours = a ∷ m.yours;
      pairs = couple e m.pairs;
      from_mine = keep m.from_mine;
      from_yours = after (takes-permutation x) (keep m.from_yours);
    }

    matched-left : {ss ts : List A} {r : Rest A} (s : A) → Matched ss ts r →
        Matched (s ∷ ss) ts (record { left = s ∷ r.left; right = r.right })
    matched-left {r = r} s m = record {
      mine = m.mine;
      yours = m.yours;
      pairs = m.pairs;
      from_mine = after (keep m.from_mine) (middle s m.mine r.left);
      from_yours = m.from_yours;
    }

    pub cancel-matched : (ss ts : List A) → Matched ss ts (cancel like ss ts)
    cancel-matched [] ts =
        record { mine = []; yours = []; pairs = alone; from_mine = empty; from_yours = permutation_refl ts }
    cancel-matched (s ∷ ss) ts = go (remove (like s) ts) (remove-found (like s) ts) (cancel-matched ss)
      where
        go : (r : Removal A) → Found (like s) ts r → ((us : List A) → Matched ss us (cancel like ss us)) →
            Matched (s ∷ ss) ts (spend s (cancel like ss) ts r)
        go (without us) (a, h, x) ih = matched-pair h x (ih us)
        go absent h ih = matched-left s (ih ts)
