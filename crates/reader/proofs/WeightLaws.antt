-- Laws of a symbol's weight, and of symbols of arity 1 that weigh 0.
--     weighs-enough, weighs-less, weighs-too-little     the test of a weight, by what is kept and by the form
--     weightless-told                      the least weights tell whether a symbol of arity 1 weighs 0
--     has_more                             the least weights with one symbol more
--     none-outranked                       where none has, none is outranked
use mathlib.Core.Path.{◌≡◌, refl, sym}
use mathlib.Core.List.{List, [], ◌∷◌, ◌++◌}
use mathlib.Core.Bool.{Bool, true, false, false≢true, ◌&&◌, ◌||◌, not, or-false, or_assoc}
use Prim.Native.Nat.{ℕ, suc, zero, ◌≤◌, ◌<◌}
use native.Mathlib.Omega.{arith}
use lib.ListN.{length, get_or, set}
use lib.Dec.{eqb, leb}
use borrow.Author.Tests.{le-leb, lt-leb, eq-eqb, ne_eqb}
use Rattle.multisets.proofs.Relations.{by_test}
use Rattle.terms.specs.Signature.{Symbol}
use Rattle.format.specs.Layout.{first_form}
use Rattle.format.specs.Forms.{least_weight_in}
use Rattle.format.specs.Symbols.{outranks, outranked_from}
use Rattle.reader.specs.Symbol.{is_zero_weight_unary, has_zero_weight_unary, least_weights, LeastKept}

-- ---- the test

-- A list of zeros has nothing else.
zeros : (n : ℕ) → get_or {A = ℕ} (0 ∷ 0 ∷ 0 ∷ 0 ∷ 0 ∷ 0 ∷ []) n 0 ≡ 0
zeros zero = refl
zeros (suc zero) = refl
zeros (suc (suc zero)) = refl
zeros (suc (suc (suc zero))) = refl
zeros (suc (suc (suc (suc zero)))) = refl
zeros (suc (suc (suc (suc (suc zero))))) = refl
zeros (suc (suc (suc (suc (suc (suc n)))))) = refl

module _ (form w0 : ℕ) where
  pub weighs-enough : (weightless : Bool) (arity weight : ℕ) → (weightless ≡ true → eqb form first_form ≡ false) →
      get_or (least_weights w0 weightless) arity 0 ≤ weight →
      (leb (least_weight_in form w0 arity) weight ≡ true) × ((weightless || (eqb arity 1 && eqb weight 0)) ≡ weightless)
  weighs-enough weightless zero weight late h = (le-leb w0 weight h, or-false weightless)
  weighs-enough true (suc zero) weight late h = (rw (late refl) (le-leb 0 weight (omega arith)), refl)
  weighs-enough false (suc zero) weight late h = (
    by_test (eqb form first_form) (λ e. rw e (le-leb 1 weight h)) (λ e. rw e (le-leb 0 weight (omega arith))),
    ne_eqb weight 0 (λ e. omega arith),
  )
  weighs-enough weightless (suc (suc n)) weight late h =
      (le-leb 0 weight (omega arith), rw (ne_eqb (suc (suc n)) 1 (λ e. omega arith)) (or-false weightless))

  pub weighs-less : (weightless : Bool) (arity weight : ℕ) → weight < get_or (least_weights w0 weightless) arity 0 →
      (not (eqb form first_form) && eqb arity 1) ≡ true →
      (leb (least_weight_in form w0 arity) weight ≡ true)
      × LeastKept form w0 (weightless || (eqb arity 1 && eqb weight 0)) (set (least_weights w0 weightless) arity 0)
  weighs-less weightless zero weight h less =
      by_test (eqb form first_form) (λ e. absurd (false≢true (rw e at less))) λ e. absurd (false≢true (rw e at less))
  weighs-less true (suc zero) weight h less = absurd (omega arith)
  weighs-less false (suc zero) weight h less =
      by_test (eqb form first_form) (λ e. absurd (false≢true (rw e at less)))
      λ e. (rw e (le-leb 0 weight (omega arith)), rw (eq-eqb weight 0 (omega arith)) (refl, λ late. e))
  weighs-less weightless (suc (suc n)) weight h less = absurd (omega (arith, zeros n))

  pub weighs-too-little : (weightless : Bool) (arity weight : ℕ) → weight < get_or (least_weights w0 weightless) arity 0 →
      (not (eqb form first_form) && eqb arity 1) ≡ false → leb (least_weight_in form w0 arity) weight ≡ false
  weighs-too-little weightless zero weight h more = lt-leb w0 weight h
  weighs-too-little true (suc zero) weight h more = absurd (omega arith)
  weighs-too-little false (suc zero) weight h more =
      by_test (eqb form first_form) (λ e. rw e (lt-leb 1 weight h)) λ e. absurd (false≢true (sym (rw e at more)))
  weighs-too-little weightless (suc (suc n)) weight h more = absurd (omega (arith, zeros n))

pub weightless-told : (form w0 : ℕ) (weightless : Bool) (least : List ℕ) → LeastKept form w0 weightless least →
    eqb (get_or least 1 0) 0 ≡ weightless
weightless-told form w0 true least kept = rw kept.0
weightless-told form w0 false least kept = rw kept.0

-- ---- symbols of arity 1 that weigh 0

has-append : (ss : List Symbol) (s : Symbol) →
    has_zero_weight_unary (ss ++ (s ∷ [])) ≡ (has_zero_weight_unary ss || is_zero_weight_unary s)
has-append [] s = or-false (is_zero_weight_unary s)
has-append (t ∷ ss) s =
    rw (has-append ss s) (sym (or_assoc (is_zero_weight_unary t) (has_zero_weight_unary ss) (is_zero_weight_unary s)))

pub has_more : (form w0 : ℕ) (least : List ℕ) (ss all : List Symbol) (s : Symbol) → all ≡ ss ++ (s ∷ []) →
    LeastKept form w0 (has_zero_weight_unary ss || is_zero_weight_unary s) least →
    LeastKept form w0 (has_zero_weight_unary all) least
has_more form w0 least ss all s e kept = rw (e, has-append ss s) kept

-- Neither of the first two tests holds of it, so that not all three do.
fails-all : (a b c d : Bool) → ((a && b) || d) ≡ false → ((a && (b && c)) ≡ false) × (d ≡ false)
fails-all true true c d e = absurd (false≢true (sym e))
fails-all true false c d e = (refl, e)
fails-all false b c d e = (refl, e)

pub none-outranked : (all ss : List Symbol) → has_zero_weight_unary ss ≡ false → outranked_from all ss ≡ length ss
none-outranked all [] e = refl
none-outranked all (s ∷ ss) e =
    let (high, others) = fails-all (eqb s.arity 1) (eqb s.weight 0) (outranks all s.precedence)
    (has_zero_weight_unary ss) e in
    rw (high, none-outranked all ss others)
