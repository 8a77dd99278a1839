-- Sums of the elements that masks take, and the regroupings of a sum by masks.
--     sum-some, words-sum, joined-more             sums of lists, and their words
--     sum-node                                     a sum of two terms or more
--     regroupings-divided, divided-regroupings     the regroupings of a sum are the masks within its mask
use mathlib.Core.List.{List, [], ◌∷◌, ◌++◌, map, Memᴰ}
use mathlib.Core.List.{append-nil}
use mathlib.Core.Path.{◌≡◌, refl, ap, ◌∙◌}
use Prim.Native.Nat.{ℕ, suc, zero, ◌-◌, ◌^◌, ◌≤◌, ◌<◌}
use native.Mathlib.Omega.{arith}
use lib.ListN.{length}
use mathlib.Core.Bool.{true, false, true≢false}
use Rattle.multisets.specs.Multiset.{Rest}
use Rattle.multisets.specs.Sorting.{Parted, splits}
use Rattle.multisets.proofs.FlatMapLaws.{flat_map-member, member-flat_map}
use Rattle.multisets.proofs.SortingLaws.{splits-parted, parted-splits}
use Rattle.terms.specs.Term.{Term, Terms, flattenings}
use Rattle.terms.specs.Term.Term.{var, app}
use Rattle.terms.specs.Equivalence.{pair}
use Rattle.terms.specs.Words.{words}
use Rattle.terms.specs.Bunch.{Bunch, bunch_of}
use Rattle.terms.specs.Bunch.Bunch.{empty, full}
use Rattle.simplifying.specs.Canonical.{term_or}
use Rattle.simplifying.specs.Masks.{Within, masked}
use Rattle.simplifying.specs.Matching.{pairs, regroupings}
use Rattle.simplifying.specs.Pieces.{sum_of, masked_sum, joined_words}
use Rattle.simplifying.proofs.MaskLaws.{masked-parted, parted-masked, masked-none, masked-some}
use Rattle.simplifying.proofs.MaskLaws.{within-le}
use Rattle.simplifying.proofs.CanonicalLaws.{joined, bunch-joined, Single, flattening-of-joined}

module _ (f : ℕ) where
  pub sum-some : (l : List Term) → 0 < length l → bunch_of f l ≡ full (sum_of f l)
  sum-some [] h = absurd (omega arith)
  sum-some (t ∷ l) h = rw (bunch-joined f t l)

  full-some : (l : List Term) (t : Term) → bunch_of f l ≡ full t → 0 < length l
  full-some [] t e = absurd (true≢false (ap (λ (b : Bunch). elim b [ empty ↦ true | full u ↦ false ]) e))
  full-some (s ∷ l) t e = omega arith

  pub joined-more : (v : List ℕ) (l : List (List ℕ)) → 0 < length l →
      joined_words f (v ∷ l) ≡ f ∷ (v ++ joined_words f l)
  unfolding joined_words
  joined-more v [] h = absurd (omega arith)
  joined-more v (w ∷ l) h = refl

  words-joined : (t : Term) (l : List Term) → words (joined f t l) ≡ joined_words f (words t ∷ map words l)
  unfolding joined_words
  words-joined t [] = refl
  words-joined t (u ∷ l) = ap (λ (ws : List ℕ). f ∷ (words t ++ ws)) (append-nil (words (joined f u l)) ∙ words-joined
      u l)

  pub words-sum : (l : List Term) → 0 < length l → words (sum_of f l) ≡ joined_words f (map words l)
  words-sum [] h = absurd (omega arith)
  words-sum (t ∷ l) h = rw (bunch-joined f t l) (words-joined t l)

  -- A sum of two terms or more, none of which has the root f.
  pub record IsNode (l : List Term) (t : Term) : Type 0 where
    pub arguments : Terms
    pub node : t ≡ app f arguments
    pub elements : flattenings f arguments ≡ l

  pub sum-node : (l : List Term) → ((u : Term) → Memᴰ u l → Single f u) → 2 ≤ length l → IsNode l (sum_of f l)
  sum-node [] h k = absurd (omega arith)
  sum-node (t ∷ []) h k = absurd (omega arith)
  sum-node (t ∷ (u ∷ l)) h k = record {
    arguments = pair t (joined f u l);
    node = rw (bunch-joined f u l);
    elements = rw (h t (mathlib.Core.List.Memᴰ.head refl), append-nil) (ap (◌∷◌ t)
        (flattening-of-joined f u l (h u (mathlib.Core.List.Memᴰ.tail (mathlib.Core.List.Memᴰ.head refl))) λ v m.
        h v (mathlib.Core.List.Memᴰ.tail (mathlib.Core.List.Memᴰ.tail m))));
  }

  -- ---- regroupings by masks

  -- Two arguments: what a mask within m takes of l, and what it leaves of what m takes.
  pub record Divided (m : ℕ) (l : List Term) (us : Terms) : Type 0 where
    pub mask : ℕ
    pub within : Within mask m
    pub some : 0 < length (masked mask l)
    pub rest : 0 < length (masked (m - mask) l)
    pub is_pair : us ≡ pair (masked_sum f mask l) (masked_sum f (m - mask) l)

  abbrev Full : Bunch → Type 0
  Full b = (t : Term) × (b ≡ full t)

  pair_of : (b c : Bunch) (us : Terms) → Memᴰ us (pairs b c) →
      Full b × Full c × (us ≡ pair (term_or (var 0) b) (term_or (var 0) c))
  pair_of empty c us m = absurd (mathlib.Core.List.Memᴰ.not-nil m)
  pair_of (full s) empty us m = absurd (mathlib.Core.List.Memᴰ.not-nil m)
  pair_of (full s) (full t) us m = ((s, refl), (t, refl), mathlib.Core.List.Memᴰ.eq_of_singleton m)

  module _ (ts : Terms) (m : ℕ) (l : List Term) (e : flattenings f ts ≡ masked m l) where
    abbrev split : Rest Term → List Terms
    split r = pairs (bunch_of f r.left) (bunch_of f r.right)

    of-split : (us : Terms) (r : Rest Term) → Parted (flattenings f ts) r.left r.right →
        Memᴰ us (split r) → Divided m l us
    of-split us r x k =
        let s = parted-masked l r.left r.right m (rw e at x) in
        let (p, q, d) = pair_of (bunch_of f r.left) (bunch_of f r.right) us k in
        record {
          mask = s.mask;
          within = s.within;
          some = rw s.takes (full-some r.left p.0 p.1);
          rest = rw s.leaves (full-some r.right q.0 q.1);
          is_pair = rw (s.takes, s.leaves) d;
        }

    pub regroupings-divided : (us : Terms) → Memᴰ us (regroupings f ts) → Divided m l us
    unfolding regroupings
    regroupings-divided us i =
        let (r, j, k) = flat_map-member split (splits (flattenings f ts)) i in
        of-split us r (splits-parted (flattenings f ts) r j) k

    pub divided-regroupings : (us : Terms) → Divided m l us → Memᴰ us (regroupings f ts)
    unfolding regroupings
    divided-regroupings us d =
        let r : Rest Term = record { left = masked d.mask l; right = masked (m - d.mask) l } in
        let x : Memᴰ r (splits (flattenings f ts)) = rw e (parted-splits (masked-parted l d.mask m
        d.within)) in
        let k : Memᴰ us (split r) =
        rw (sum-some (masked d.mask l) d.some, sum-some (masked (m - d.mask) l) d.rest, d.is_pair)
        (mathlib.Core.List.Memᴰ.head refl) in
        member-flat_map split x k

  -- The masks that take something and leave something.
  pub divided-of : (m : ℕ) (l : List Term) (a : ℕ) → m < 2 ^ length l → Within a m → 0 < a → a < m →
      Divided m l (pair (masked_sum f a l) (masked_sum f (m - a) l))
  divided-of m l a h w p q = record {
    mask = a;
    within = w;
    some = masked-some l a p (omega arith);
    rest = masked-some l (m - a) (omega arith) (omega arith);
    is_pair = refl;
  }

  pub divided-bounds : (m : ℕ) (l : List Term) (us : Terms) (d : Divided m l us) → (0 < d.mask) × (d.mask < m)
  divided-bounds m l us d = (
    pos_of d.mask d.some,
    omega (arith, within-le d.mask m d.within, pos_of (m - d.mask) d.rest),
  )
    where
      pos_of : (a : ℕ) → 0 < length (masked a l) → 0 < a
      pos_of zero h = absurd (omega (arith, ap length (masked-none l)))
      pos_of (suc a) h = omega arith
