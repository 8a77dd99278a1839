-- Numbers that are equal, or both from the limit on; and numbers cut off at the limit.
--     near_add, near-trans, near-to        near numbers
--     near-product                         a product that is cut off
--     cut-le, cut-pos, cut-of-near         cutting off
--     cut-light, cut-heavy                 what 21 asks of a weight that is cut off
--     exact                                a number near one below the limit is that one
use mathlib.Core.Path.{◌≡◌, sym, ◌∙◌}
use Prim.Native.Nat.{ℕ, suc, zero, ◌+◌, ◌*◌, ◌≤◌, ◌<◌}
use native.Mathlib.Nat.{le-mul_of_pos_right}
use native.Mathlib.Omega.{arith}
use borrow.Author.Tests.{le-leb, lt-leb}
use Rattle.multisets.proofs.Relations.{by_order}
use Rattle.scaling.specs.Scaled.{limit, cut}

pub data Near (a b : ℕ) : Type 0 where
  exactly : a ≡ b → Near a b
  above : limit ≤ a → limit ≤ b → Near a b

pub near_add : {a b : ℕ} (x : ℕ) → Near a b → Near (x + a) (x + b)
near_add x (exactly e) = exactly (omega arith)
near_add x (above h k) = above (omega arith) (omega arith)

pub near-to : {a b : ℕ} (c d : ℕ) → c ≡ a → b ≡ d → Near a b → Near c d
near-to c d p q (exactly e) = exactly (omega arith)
near-to c d p q (above h k) = above (omega arith) (omega arith)

pub near-trans : {a b c : ℕ} → Near a b → Near b c → Near a c
near-trans (exactly d) (exactly e) = exactly (d ∙ e)
near-trans (exactly d) (above h k) = above (omega arith) k
near-trans (above h k) (exactly e) = above h (omega arith)
near-trans (above h k) (above i j) = above h j

pub exact : {a b : ℕ} → Near a b → b < limit → a ≡ b
exact (exactly e) l = e
exact (above h k) l = absurd (omega arith)

-- ---- cutting off

pub cut_small : (n : ℕ) → n ≤ limit → cut n ≡ n
unfolding cut
cut_small n h = rw (le-leb n limit h)

pub cut-large : (n : ℕ) → limit < n → cut n ≡ limit
unfolding cut
cut-large n h = rw (lt-leb n limit h)

pub cut-le : (n : ℕ) → cut n ≤ limit
cut-le n = by_order limit n (λ h. omega (arith, cut-large n h)) λ h. omega (arith, cut_small n h)

pub cut-pos : (n : ℕ) → 0 < n → 0 < cut n
cut-pos n p = by_order limit n (λ h. omega (arith, cut-large n h)) λ h. omega (arith, cut_small n h)

-- A weight that is cut off tells whether it is above the maximum, and is the weight if it is not.
pub cut-light : (n : ℕ) → cut n < limit → cut n ≡ n
cut-light n l = by_order limit n (λ h. omega (arith, cut-large n h)) λ h. cut_small n h

pub cut-heavy : (n : ℕ) → limit ≤ cut n → limit ≤ n
cut-heavy n l = by_order limit n (λ h. omega arith) λ h. omega (arith, cut_small n h)

pub cut-of-near : {a b : ℕ} → Near a b → cut a ≡ cut b
cut-of-near {a} {b} (exactly e) = rw e
cut-of-near {a} {b} (above h k) = top a h ∙ sym (top b k)
  where
    top : (n : ℕ) → limit ≤ n → cut n ≡ limit
    top n h = by_order limit n (cut-large n) λ l. omega (arith, cut_small n l)

near-large : (n p : ℕ) {a b : ℕ} → limit < n → Near a b → Near (cut n * p + a) (n * p + b)
near-large n zero l h = near-to _ _ (omega arith) (omega arith) h
near-large n (suc q) l h =
    let p : 0 < suc q = omega arith in
    above (omega (arith, cut-large n l, le-mul_of_pos_right (cut n) p)) (omega (arith, le-mul_of_pos_right n p))

pub near-product : (n p : ℕ) {a b : ℕ} → Near a b → Near (cut n * p + a) (n * p + b)
near-product n p h = by_order limit n (λ l. near-large n p l h) λ l. rw (cut_small n l) (near_add (n * p) h)
