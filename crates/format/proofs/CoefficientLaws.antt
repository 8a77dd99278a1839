-- Reading the coefficients of a symbol.
--     Admitted, ones-admitted              what reading tests of them; ones pass
--     admitted-ones, admitted-positive, admitted_of    the same in the words of an admissible signature
--     coefficients-fit, coefficient-fits   they are within their width
--     plain-items                          the items of symbols in a form without them
--     Coefficients                         what reading promises of them
--     coefficients-read, coefficients-reads    those that are read pass and are spelled; and the other way round
use mathlib.Core.Path.{◌≡◌, refl, sym, ap, ◌∙◌}
use mathlib.Core.List.{List, [], ◌∷◌, map, flat_map, Memᴰ}
use mathlib.Core.Bool.{Bool, true, false, true≢false}
use Prim.Native.Nat.{ℕ, suc, zero, ◌≤◌, ◌<◌, ◌^◌}
use native.Mathlib.Omega.{arith}
use lib.ListN.{length, length-replicate}
use borrow.Author.Tests.{eqb-true, ltb-true, eq-eqb, lt-ltb}
use Rattle.multisets.proofs.Relations.{by_test}
use Rattle.terms.specs.Signature.{Symbol, AllPositive, AllOnes}
use Rattle.terms.proofs.MeasureLaws.{replicate-ones}
use Rattle.format.specs.Layout.{form_number, coefficient_width}
use Rattle.format.specs.Forms.{has_coefficients}
use Rattle.format.specs.Reading.{Source}
use Rattle.format.specs.Reading.Reading.{got}
use Rattle.format.specs.Symbols.{ones, is_coefficient, coefficients_reader, coefficients_in}
use Rattle.format.specs.Packing.{coefficient_items, symbol_items}
use Rattle.format.specs.Packing.Item.{field}
use Rattle.format.proofs.ReadingLaws.{HoldsOf, holds-got, holds-map, holds_then, holds-require}
use Rattle.format.proofs.SpellingLaws.{AllFit, Spells}
use Rattle.format.proofs.SpellingLaws.Spells.{none, more}

abbrev pub Admitted : Bool → List ℕ → Type 0
Admitted ac [] = Unit {0}
Admitted ac (k ∷ ks) = (is_coefficient ac k ≡ true) × Admitted ac ks

one-admitted : (ac : Bool) → is_coefficient ac 1 ≡ true
one-admitted true = refl
one-admitted false = refl

pub ones-admitted : (ac : Bool) (n : ℕ) → Admitted ac (ones n)
ones-admitted ac zero = tt
ones-admitted ac (suc n) = (one-admitted ac, ones-admitted ac n)

pub admitted-ones : (ks : List ℕ) → Admitted true ks → AllOnes ks
admitted-ones [] _ k x3 = elim x3 [ ]
admitted-ones (j ∷ ks) (ok, oks) k (Memᴰ.head e) = e ∙ eqb-true j 1 ok
admitted-ones (j ∷ ks) (ok, oks) k (Memᴰ.tail m) = admitted-ones ks oks k m

positive_of : (ac : Bool) (k : ℕ) → is_coefficient ac k ≡ true → 1 ≤ k
positive_of true k ok = omega (arith, eqb-true k 1 ok)
positive_of false k ok = ltb-true 0 k ok

pub admitted-positive : (ac : Bool) (ks : List ℕ) → Admitted ac ks → AllPositive ks
admitted-positive ac [] _ k x3 = elim x3 [ ]
admitted-positive ac (j ∷ ks) (ok, oks) k (Memᴰ.head e) = rw e (positive_of ac j ok)
admitted-positive ac (j ∷ ks) (ok, oks) k (Memᴰ.tail m) = admitted-positive ac ks oks k m

admitted-one : (ac : Bool) (k : ℕ) → (ac ≡ true → k ≡ 1) → 1 ≤ k → is_coefficient ac k ≡ true
admitted-one true k one positive = eq-eqb k 1 (one refl)
admitted-one false k one positive = lt-ltb 0 k positive

pub admitted_of : (ac : Bool) (ks : List ℕ) → (ac ≡ true → AllOnes ks) → AllPositive ks → Admitted ac ks
admitted_of ac [] ones positive = tt
admitted_of ac (k ∷ ks) ones positive = (
  admitted-one ac k (λ e. ones e k (Memᴰ.head refl)) (positive k (Memᴰ.head refl)),
  admitted_of ac ks (λ e j m. ones e j (Memᴰ.tail m)) λ j m. positive j (Memᴰ.tail m),
)

-- Those of a symbol with so many arguments, in a file of that form.
pub record Coefficients (form : ℕ) (ac : Bool) (arity : ℕ) (ks : List ℕ) : Type 0 where
  pub full : length ks ≡ arity
  pub admitted : Admitted ac ks
  pub plain : has_coefficients form ≡ false → ks ≡ ones arity

-- ---- their width

all-fit-of : (ks : List ℕ) → ((k : ℕ) → Memᴰ k ks → k < 2 ^ coefficient_width) →
    AllFit (map (field coefficient_width) ks)
all-fit-of [] h = tt
all-fit-of (k ∷ ks) h = (h k (Memᴰ.head refl), all-fit-of ks λ j m. h j (Memᴰ.tail m))

pub coefficients-fit : (form : ℕ) (ks : List ℕ) → ((k : ℕ) → Memᴰ k ks → k < 2 ^ coefficient_width) →
    AllFit (coefficient_items form ks)
coefficients-fit form ks h = by_test (has_coefficients form) (λ e. rw e (all-fit-of ks h)) λ e. rw e tt

of-all-fit : (ks : List ℕ) → AllFit (map (field coefficient_width) ks) → (k : ℕ) → Memᴰ k ks →
    k < 2 ^ coefficient_width
of-all-fit [] _ k x3 = elim x3 [ ]
of-all-fit (j ∷ ks) (f, fs) k (Memᴰ.head e) = rw e f
of-all-fit (j ∷ ks) (f, fs) k (Memᴰ.tail m) = of-all-fit ks fs k m

pub coefficient-fits : (form n : ℕ) (ks : List ℕ) → (has_coefficients form ≡ false → ks ≡ ones n) →
    AllFit (coefficient_items form ks) → (k : ℕ) → Memᴰ k ks → k < 2 ^ coefficient_width
coefficient-fits form n ks plain fits k m =
    by_test (has_coefficients form) (λ e. of-all-fit ks (rw e at fits) k m)
    λ e. let one = replicate-ones n k (rw (plain e) at m) in omega arith

-- ---- a form without them

pub plain-items : (form : ℕ) → has_coefficients form ≡ false → (ss : List Symbol) →
    flat_map (symbol_items form) ss ≡ flat_map (symbol_items form_number) ss
unfolding flat_map
plain-items form e [] = refl
plain-items form e (s ∷ ss) = rw (e, plain-items form e ss)

-- ---- reading

module _ (source : Source) where
  all_read : (ac : Bool) (n at : ℕ) →
      HoldsOf (λ ks end. (length ks ≡ n) × Admitted ac ks × Spells source (map (field coefficient_width) ks) at end)
      (coefficients_reader source ac n at)
  unfolding coefficients_reader HoldsOf
  all_read ac zero at = (refl, tt, none)
  all_read ac (suc n) at =
      holds_then _ (source.field coefficient_width at) _ λ k mid e.
      holds-require _ (is_coefficient ac k) _ at mid _ λ ok.
      holds_then _ (coefficients_reader source ac n mid) _ λ ks end r.
      let (l, oks, p) = holds-got _ _ ks end (all_read ac n mid) r in
      (ap suc l, (ok, oks), more e p)

  all-reads : (ac : Bool) (ks : List ℕ) → Admitted ac ks → {at end : ℕ} →
      Spells source (map (field coefficient_width) ks) at end → coefficients_reader source ac (length ks) at ≡ got ks end
  unfolding coefficients_reader
  all-reads ac [] oks none = refl
  all-reads ac (k ∷ ks) (ok, oks) (more e p) = rw (e, ok, all-reads ac ks oks p)

  pub coefficients-read : (form : ℕ) (ac : Bool) (arity at : ℕ) →
      HoldsOf (λ ks end. Coefficients form ac arity ks × Spells source (coefficient_items form ks) at end)
      (coefficients_in source form ac arity at)
  unfolding HoldsOf
  coefficients-read form ac arity at =
      by_test (has_coefficients form)
      (λ e. rw e (holds-map _ _ (coefficients_reader source ac arity at) (all_read ac arity at) λ ks end (l, oks, p).
      (record { full = l; admitted = oks; plain = λ f. absurd (true≢false (sym e ∙ f)) }, p)))
      λ e. rw e (record { full = length-replicate arity 1; admitted = ones-admitted ac arity; plain = λ f. refl }, none)

  none_reads : (arity : ℕ) (ks : List ℕ) → ks ≡ ones arity → {at end : ℕ} → Spells source [] at end →
      got (ones arity) at ≡ got ks end
  none_reads arity ks e none = rw e

  pub coefficients-reads : (form : ℕ) (ac : Bool) (arity : ℕ) (ks : List ℕ) → Coefficients form ac arity ks →
      {at end : ℕ} → Spells source (coefficient_items form ks) at end → coefficients_in source form ac arity at ≡ got ks
      end
  coefficients-reads form ac arity ks c p =
      by_test (has_coefficients form)
      (λ e. rw (e, ← c.full) (all-reads ac ks c.admitted (rw e at p)))
      λ e. rw e (none_reads arity ks (c.plain e) (rw e at p))
