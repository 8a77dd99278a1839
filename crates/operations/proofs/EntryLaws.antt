-- The marks and margins of rules, and that they fit on a page.
--     mark-within      a mark is one of 1 to 11
--     margin-fits      a margin below 10 to the 11 either way has its columns
--     book-fits        what a readable book's rules have fits
use mathlib.Core.List.Memᴰ
use mathlib.Core.Path.{◌≡◌}
use mathlib.Core.Bool.{Bool, true, false, cond, ◌&&◌, not, and-eq-true_iff as both}
use Prim.Native.Nat.{ℕ, ◌+◌, ◌^◌, ◌≤◌, ◌<◌}
use native.Mathlib.Omega.{arith}
use lib.Dec.{eqb, ltb}
use lib.IntN.{ℤ, nat_abs, sub_ℕ}
use lib.ListN.{length}
use borrow.Author.Tests.{ltb-true}
use Rattle.multisets.proofs.Relations.{by_test}
use Rattle.terms.specs.Signature.{Signature}
use Rattle.terms.specs.Term.{Term, weight, variable_count}
use Rattle.terms.specs.Words.{term_of}
use Rattle.terms.specs.Equivalence.{is_equivalent}
use Rattle.terms.specs.Order.{none_oftener, decreasing_mark, is_greater, mark, margin}
use Rattle.format.specs.Format.{Sides, RuleFile, system_of, is_light}
use Rattle.format.specs.Statements.{IsRead}
use Rattle.format.proofs.LightLaws.{light-weight}
use Rattle.format.proofs.Theorems.{readable-well-formed}
use Rattle.operations.specs.Text.{signed_decimal}
use Rattle.operations.specs.Page.{Fits, AllFit, columns}
use Rattle.operations.specs.Paging.{entry_of, entries_of}
use Rattle.operations.proofs.DecimalLaws.{signed-few}

-- ---- marks

other-within : (a b c d : Bool) → let m : ℕ = cond a 7 (cond b 8 (cond c 9 (cond d 11 10))) in (1 ≤ m) × (m ≤ 11)
other-within true b c d = omega arith
other-within false true c d = omega arith
other-within false false true d = omega arith
other-within false false false true = omega arith
other-within false false false false = omega arith

module _ (σ : Signature) where
  pub mark-within : (s t : Term) → (1 ≤ mark σ s t) × (mark σ s t ≤ 11)
  unfolding mark
  mark-within s t =
      let m = decreasing_mark σ (is_equivalent σ) (is_greater σ) s t in
      by_test (ltb 0 m && ltb m 7)
      (λ e.
      let (a, b) = (both (ltb 0 m) _).0 e in
      rw e (omega (arith, ltb-true 0 m a), omega (arith, ltb-true m 7 b)))
      λ e. rw e (other-within (not (none_oftener σ variable_count s t)) (ltb (weight σ s) (weight σ t))
      (is_equivalent σ s t) (eqb m 11))

-- ---- margins

pub margin-fits : (d : ℤ) → nat_abs d < 10 ^ 11 → length (signed_decimal d) ≤ columns 47 58
margin-fits d h = signed-few 10 d h

difference-most : (m n : ℕ) → nat_abs (sub_ℕ m n) ≤ m + n
difference-most m n = by_test (ltb m n) (λ e. rw e (omega (arith, ltb-true m n e))) λ e. rw e (omega arith)

module _ (σ : Signature) where
  sides-fit : (s t : Term) → is_light σ s ≡ true → is_light σ t ≡ true → Fits (entry_of σ (record { left = s; right = t }))
  sides-fit s t l r =
      record {
        least = (mark-within σ s t).0;
        most = (mark-within σ s t).1;
        margin = margin-fits (margin σ s t) (omega (
          arith,
          difference-most (weight σ s) (weight σ t),
          light-weight σ s l,
          light-weight σ t r,
        ));
      }

-- What the rules of a readable book have fits.
pub book-fits : (file : RuleFile) → IsRead file → AllFit (entries_of (system_of file))
book-fits file i e m =
    let σ = file.signature in
    let formed = (readable-well-formed file i).0 in
    let (rule, n, d) = Memᴰ.of_map (entry_of σ) (system_of file).rules m in
    let (sides, k, c) = Memᴰ.of_map (λ (x : Sides). record { left = term_of σ x.left; right = term_of σ x.right })
    file.rules n in
    let (l, r) = formed.light sides k in
    rw (← d, ← c) (sides-fit σ (term_of σ sides.left) (term_of σ sides.right) l r)
