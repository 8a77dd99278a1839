-- Masks: the numbers within a mask, and the parts of a list that they take.
--     within-bits, of-bits, within-le       by the lowest bit and the others
--     within-and, within-next               the numbers within a mask, from the greatest down
--     masked_off, masked_on                 the first element, by the lowest bit
--     masked-parted, parted-masked          a mask within another splits what that one takes in two
--     masked-none, masked-all, masked-some  no bit, all bits, some bit
--     masked-one, masked-two                one bit, more bits
--     masked-part                           what a mask takes is a part of the list
use mathlib.Core.List.{List, [], ◌∷◌}
use mathlib.Core.Path.{◌≡◌, refl, ap, ◌∙◌, subst}
use Prim.Native.Nat.{ℕ, suc, ◌+◌, ◌-◌, ◌*◌, ◌/◌, ◌%◌, ◌^◌, ◌≤◌, ◌<◌, min}
use native.Mathlib.Nat.{pow-suc, mod-eq_of_lt}
use native.Mathlib.Omega.{arith}
use lib.Arith.{bin_ind}
use lib.Pow.{pow_pos}
use lib.ListN.{length}
use lib.Bits.{bit_and, and_step, and_le_l, and_le_r, and_self, and_mask}
use borrow.Author.Tests.{eq-eqb, ne_eqb}
use Rattle.multisets.specs.Sorting.{Parted}
use Rattle.multisets.specs.Sorting.Parted.{parted, on_left, on_right}
use Rattle.multisets.proofs.Relations.{by_order}
use Rattle.simplifying.specs.Masks.{Within, masked}

-- ---- numbers within a mask

pub within-bits : (a m : ℕ) → Within a m → Within (a / 2) (m / 2) × (a % 2 ≤ m % 2)
within-bits a m w = omega (arith, and_step a m, w)

pub of-bits : (a m c : ℕ) → Within a (m / 2) → c ≤ m % 2 → Within (2 * a + c) m
of-bits a m c w h =
    let e : (2 * a + c) / 2 ≡ a = omega arith in
    let d : (2 * a + c) % 2 ≡ c = omega arith in
    and_step (2 * a + c) m ∙ rw (e, d, w) (omega arith)

pub within-le : (a m : ℕ) → Within a m → a ≤ m
within-le a m w = omega (arith, and_le_r a m, w)

pub within-and : (a m : ℕ) → Within (bit_and a m) m
within-and =
    bin_ind (λ (a : ℕ). (m : ℕ) → Within (bit_and a m) m) (λ m. refl) λ a ih m.
    let e : 2 * bit_and (a / 2) (m / 2) + min (a % 2) (m % 2) ≡ bit_and a m = omega (arith, and_step a m) in
    subst (λ (x : ℕ). Within x m) e
    (of-bits (bit_and (a / 2) (m / 2)) m (min (a % 2) (m % 2)) (ih (m / 2)) (omega arith))

-- Below a number within a mask, no number is passed over.
pub within-next : (a m x : ℕ) → Within a m → Within x m → x < a → x ≤ bit_and (a - 1) m
within-next =
    bin_ind (λ (a : ℕ). (m x : ℕ) → Within a m → Within x m → x < a → x ≤ bit_and (a - 1) m)
    (λ m x w v h. absurd (omega arith)) λ a ih m x w v h.
    let (w', c) = within-bits a m w in
    let (v', d) = within-bits x m v in
    by_order (a % 2) 1
    (λ k.
    let e : (a - 1) / 2 ≡ a / 2 - 1 = omega arith in
    let f : (a - 1) % 2 ≡ 1 = omega arith in
    let g : min 1 (m % 2) ≡ m % 2 = omega arith in
    omega (arith, rw (e, f, g) at (and_step (a - 1) m), ih (m / 2) (x / 2) w' v' (omega arith)))
    λ k.
    let e : (a - 1) / 2 ≡ a / 2 = omega arith in
    let f : (a - 1) % 2 ≡ 0 = omega arith in
    omega (arith, rw (e, f, w') at (and_step (a - 1) m))

-- ---- what a mask takes

module _ {A : Type 0} where
  pub masked_off : (m : ℕ) (a : A) (l : List A) → m % 2 ≡ 0 → masked m (a ∷ l) ≡ masked (m / 2) l
  unfolding masked
  masked_off m a l e = rw (ne_eqb (m % 2) 1 λ d. omega arith)

  pub masked_on : (m : ℕ) (a : A) (l : List A) → m % 2 ≡ 1 → masked m (a ∷ l) ≡ a ∷ masked (m / 2) l
  unfolding masked
  masked_on m a l e = rw (eq-eqb (m % 2) 1 e)

  pub masked-parted : (l : List A) (a m : ℕ) → Within a m → Parted (masked m l) (masked a l) (masked (m - a) l)
  unfolding masked
  masked-parted [] a m w = parted
  masked-parted (b ∷ l) a m w =
      let (v, c) = within-bits a m w in
      let k = within-le (a / 2) (m / 2) v in
      let d : (m - a) / 2 ≡ m / 2 - a / 2 = omega arith in
      let ih : Parted (masked (m / 2) l) (masked (a / 2) l) (masked ((m - a) / 2) l) =
      rw d (masked-parted l (a / 2) (m / 2) v) in
      by_order (m % 2) 1
      (λ h. rw (masked_off m b l (omega arith), masked_off a b l (omega arith), masked_off (m - a) b l (omega arith))
      ih)
      λ h. by_order (a % 2) 1
      (λ i. rw (masked_on m b l (omega arith), masked_off a b l (omega arith), masked_on (m - a) b l (omega arith))
      (on_right ih))
      λ i. rw (masked_on m b l (omega arith), masked_on a b l (omega arith), masked_off (m - a) b l (omega arith))
      (on_left ih)

  -- A mask within m that takes p of what m takes, and leaves q.
  pub record Splitting (m : ℕ) (l p q : List A) : Type 0 where
    pub mask : ℕ
    pub within : Within mask m
    pub takes : masked mask l ≡ p
    pub leaves : masked (m - mask) l ≡ q

  -- One more element, which m takes or not, and the mask with the bit c for it.
  longer : {p q : List A} (m c : ℕ) (b : A) (l p' q' : List A) (s : Splitting (m / 2) l p q) → c ≤ m % 2 →
      masked (2 * s.mask + c) (b ∷ l) ≡ p' → masked (m - (2 * s.mask + c)) (b ∷ l) ≡ q' →
      Splitting m (b ∷ l) p' q'
  longer m c b l p' q' s h e d = record {
    mask = 2 * s.mask + c;
    within = of-bits s.mask m c s.within h;
    takes = e;
    leaves = d;
  }

  pub parted-masked : (l p q : List A) (m : ℕ) → Parted (masked m l) p q → Splitting m l p q
  unfolding masked
  parted-masked [] p q m parted = record { mask = 0; within = refl; takes = refl; leaves = refl }
  parted-masked (b ∷ l) p q m h =
      by_order (m % 2) 1
      (λ i. off (parted-masked l p q (m / 2) (rw (masked_off m b l (omega arith)) at h)) (omega arith))
      λ i. on (rw (masked_on m b l (omega arith)) at h) (parted-masked l) (omega arith)
    where
      off : Splitting (m / 2) l p q → m % 2 ≡ 0 → Splitting m (b ∷ l) p q
      off s i =
          let k = within-le s.mask (m / 2) s.within in
          let a = 2 * s.mask + 0 in
          let e : a / 2 ≡ s.mask = omega arith in
          let d : (m - a) / 2 ≡ m / 2 - s.mask = omega arith in
          longer m 0 b l p q s (omega arith) (masked_off a b l (omega arith) ∙ rw e s.takes)
          (masked_off (m - a) b l (omega arith) ∙ rw d s.leaves)

      on : {p q : List A} → Parted (b ∷ masked (m / 2) l) p q →
          ((p q : List A) (n : ℕ) → Parted (masked n l) p q → Splitting n l p q) → m % 2 ≡ 1 → Splitting m (b ∷ l) p q
      on (on_left {m = p} {n = q} h) ih i =
          let s = ih p q (m / 2) h in
          let k = within-le s.mask (m / 2) s.within in
          let a = 2 * s.mask + 1 in
          let e : a / 2 ≡ s.mask = omega arith in
          let d : (m - a) / 2 ≡ m / 2 - s.mask = omega arith in
          longer m 1 b l (b ∷ p) q s (omega arith) (masked_on a b l (omega arith) ∙ rw e (ap (◌∷◌ b) s.takes))
          (masked_off (m - a) b l (omega arith) ∙ rw d s.leaves)
      on (on_right {m = p} {n = q} h) ih i =
          let s = ih p q (m / 2) h in
          let k = within-le s.mask (m / 2) s.within in
          let a = 2 * s.mask + 0 in
          let e : a / 2 ≡ s.mask = omega arith in
          let d : (m - a) / 2 ≡ m / 2 - s.mask = omega arith in
          longer m 0 b l p (b ∷ q) s (omega arith) (masked_off a b l (omega arith) ∙ rw e s.takes)
          (masked_on (m - a) b l (omega arith) ∙ rw d (ap (◌∷◌ b) s.leaves))

  -- ---- no bit, all bits, some bit

  pub masked-none : (l : List A) → masked 0 l ≡ []
  unfolding masked
  masked-none [] = refl
  masked-none (a ∷ l) = masked-none l

  pub masked-all : (l : List A) → masked (2 ^ length l - 1) l ≡ l
  unfolding masked
  masked-all [] = refl
  masked-all (a ∷ l) =
      let n = 2 ^ suc (length l) - 1 in
      let p = pow-suc 2 (length l) in
      let q = pow_pos (length l) in
      let e : n / 2 ≡ 2 ^ length l - 1 = omega arith in
      masked_on n a l (omega arith) ∙ rw e (ap (◌∷◌ a) (masked-all l))

  pub masked-some : (l : List A) (m : ℕ) → 0 < m → m < 2 ^ length l → 0 < length (masked m l)
  unfolding masked
  masked-some [] m h k = absurd (omega arith)
  masked-some (a ∷ l) m h k =
      by_order (m % 2) 1
      (λ i. rw (masked_off m a l (omega arith)) (masked-some l (m / 2) (omega arith) (omega (
        arith,
        pow-suc 2 (length
            l),
      ))))
      λ i. rw (masked_on m a l (omega arith)) (omega arith)

-- ---- one bit

-- What is left of a mask without its lowest bit, by the lowest bit and the others.
without-odd : (m : ℕ) → m % 2 ≡ 1 → bit_and (m - 1) m ≡ 2 * (m / 2)
without-odd m h =
    let e : (m - 1) / 2 ≡ m / 2 = omega arith in
    let d : (m - 1) % 2 ≡ 0 = omega arith in
    omega (arith, rw (e, d, and_self (m / 2)) at (and_step (m - 1) m))

without-even : (m : ℕ) → m % 2 ≡ 0 → 0 < m → bit_and (m - 1) m ≡ 2 * bit_and (m / 2 - 1) (m / 2)
without-even m h p =
    let e : (m - 1) / 2 ≡ m / 2 - 1 = omega arith in
    let d : min ((m - 1) % 2) (m % 2) ≡ 0 = omega arith in
    omega (arith, rw (e, d) at (and_step (m - 1) m))

module _ {A : Type 0} where
  pub masked-one : (l : List A) (m : ℕ) → 0 < m → bit_and (m - 1) m ≡ 0 → length (masked m l) ≤ 1
  unfolding masked
  masked-one [] m p h = omega arith
  masked-one (a ∷ l) m p h =
      by_order (m % 2) 1
      (λ k. rw (masked_off m a l (omega arith))
      (masked-one l (m / 2) (omega arith) (omega (arith, without-even m (omega arith) p))))
      λ k.
      let z : m / 2 ≡ 0 = omega (arith, without-odd m (omega arith)) in
      rw (masked_on m a l (omega arith), z, masked-none l) (omega arith)

  pub masked-two : (l : List A) (m : ℕ) → m < 2 ^ length l → 0 < bit_and (m - 1) m → 2 ≤ length (masked m l)
  unfolding masked
  masked-two [] m h p = absurd (omega (arith, and_le_l (m - 1) m))
  masked-two (a ∷ l) m h p =
      by_order (m % 2) 1
      (λ k. rw (masked_off m a l (omega arith)) (masked-two l (m / 2) (omega (arith, pow-suc 2 (length l)))
      (omega (arith, and_le_r (m - 1) m, without-even m (omega arith) (omega (arith, and_le_r (m - 1) m))))))
      λ k. rw (masked_on m a l (omega arith)) (omega (
        arith,
        masked-some l (m / 2)
            (omega (arith, without-odd m (omega arith))) (omega (arith, pow-suc 2 (length l))),
      ))

  -- What a mask takes is a part of the list.
  pub masked-part : (l : List A) (m : ℕ) → m < 2 ^ length l → Parted l (masked m l) (masked (2 ^ length l - 1 - m) l)
  masked-part l m h =
      let w : Within m (2 ^ length l - 1) = and_mask m (length l) ∙ mod-eq_of_lt h in
      subst (λ (k : List A). Parted k (masked m l) (masked (2 ^ length l - 1 - m) l)) (masked-all l)
      (masked-parted l m (2 ^ length l - 1) w)
