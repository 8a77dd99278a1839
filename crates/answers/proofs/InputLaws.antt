-- A result whose fault was told to be in an input: `r.map_err(|fault| fault.in_input(i))`.
--     value-told, fault-told     it was read, or has the fault
use mathlib.Core.Path.{◌≡◌, refl, sym, ap, ◌∙◌}
use mathlib.Core.Bool.{false≢true}
use Prim.Native.Nat.{ℕ}
use Rattle.std.specs.Prelude.{Result, Ok, Err}
use Rattle.std.specs.Result.{MatchResult, IsErrAnd}
use Rattle.format.specs.Errors.{number_of}
use Rattle.operations.specs.declared.Error as code
use Rattle.operations.specs.Enums.{error_of}
use Rattle.operations.specs.Replies.{Error}
use Rattle.answers.specs.Answer.{Fault}

abbrev pub error_in : ℕ → Fault → Error
error_in input f = record { code = number_of f.code; input = input; offset = f.offset }

module _ {A : Type 0} (input : ℕ) (Q : Fault → code.Error → Type 0) where
  pub value-told : (r : Result A Fault) (m : Result A code.Error) →
      MatchResult r (λ a. m ≡ Ok a) (λ f. IsErrAnd m (Q f)) → (a : A) → m ≡ Ok a → r ≡ Ok a
  value-told (Ok b) m h a e = (cc)
  value-told (Err f) (Ok b) h a e = absurd h
  value-told (Err f) (Err d) h a e = absurd (false≢true (cc))

  pub fault-told : (r : Result A Fault) (m : Result A code.Error) →
      MatchResult r (λ a. m ≡ Ok a) (λ f. IsErrAnd m (Q f)) →
      ((f : Fault) (e : code.Error) → Q f e → error_of e ≡ error_in input f) → (e : code.Error) → m ≡ Err e →
      (f : Fault) × (r ≡ Err f) × (error_of e ≡ error_in input f)
  fault-told (Ok b) m h told e is = absurd (false≢true (cc))
  fault-told (Err f) (Ok b) h told e is = absurd h
  fault-told (Err f) (Err d) h told e is = let same : d ≡ e = cc in (f, refl, ap error_of (sym same) ∙ told f d h)
