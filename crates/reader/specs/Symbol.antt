-- What the answers of reading the symbols stand for.
use Rattle.std.specs.Prelude.{◌≡◌, List, [], ◌∷◌, ◌++◌, Bool, true, false, cond, ◌&&◌, ◌||◌, ℕ, ◌<◌, eqb}
use Rattle.std.specs.Prelude.{get_or, Result, Ok, Err}
use Rattle.terms.specs.Signature.{Symbol}
use Rattle.format.specs.Layout.{first_form}
use Rattle.format.specs.Reading.{Reading}
use Rattle.format.specs.Reading.Reading.{got, fault}
use Rattle.format.specs.Symbols.{held_by}
use Rattle.format.specs.Errors.{number_of}
use Rattle.answers.specs.Answer.{Answer, Fault}
use Rattle.bits.specs.declared.BitCursor.{BitCursor}

-- The ranks that are marked are those of the symbols.
abbrev pub TakenBy : List Symbol → List Bool → Type 0
TakenBy symbols taken = (rank : ℕ) → rank < 256 → get_or taken rank false ≡ held_by symbols rank

-- 02: the symbol is a wrapper; one of the symbols is.
abbrev pub is_zero_weight_unary : Symbol → Bool
is_zero_weight_unary s = eqb s.arity 1 && eqb s.weight 0

abbrev pub has_zero_weight_unary : List Symbol → Bool
has_zero_weight_unary [] = false
has_zero_weight_unary (s ∷ ss) = is_zero_weight_unary s || has_zero_weight_unary ss

-- The least weights of form 1 by the arity; that of arity 1 is 0 if such a symbol weighs 0.
abbrev pub least_weights : ℕ → Bool → List ℕ
least_weights w0 weightless = w0 ∷ cond weightless 0 1 ∷ 0 ∷ 0 ∷ 0 ∷ 0 ∷ 0 ∷ 0 ∷ []

-- These are kept, by whether a symbol of arity 1 weighs 0, which none does in form 1.
abbrev pub LeastKept : ℕ → ℕ → Bool → List ℕ → Type 0
LeastKept form w0 weightless least =
    (least ≡ least_weights w0 weightless) × (weightless ≡ true → eqb form first_form ≡ false)

-- What is kept after the weight of a symbol of that arity.
abbrev pub Weighed : ℕ → ℕ → ℕ → Bool → Answer → List ℕ → Type 0
Weighed form w0 arity weightless (Ok (weight, next)) least =
    LeastKept form w0 (weightless || (eqb arity 1 && eqb weight 0)) least
Weighed form w0 arity weightless (Err f) least = Unit {0}

-- What is read after the earlier symbols, where it ends and what is stored of it, the result, and the symbols and the
-- marks afterwards.
abbrev pub SymbolPut : Reading Symbol → List Symbol → (ℕ → Type 0) → (Symbol → Type 0) → Result BitCursor Fault →
    List Symbol → List Bool → Type 0
SymbolPut reading earlier End Put (Ok next) symbols taken =
    (s : Symbol) × (reading ≡ got s next.at) × (symbols ≡ earlier ++ (s ∷ [])) × TakenBy symbols taken × End next.at
    × Put s
SymbolPut reading earlier End Put (Err f) symbols taken = reading ≡ fault (number_of f.code) f.offset

-- What is read of all symbols and what is stored of them, the result, and the symbols afterwards.
abbrev pub TableRead : Reading (List Symbol) → (List Symbol → Type 0) → Result BitCursor Fault → List Symbol → Type 0
TableRead reading Put (Ok next) symbols = (reading ≡ got symbols next.at) × Put symbols
TableRead reading Put (Err f) symbols = reading ≡ fault (number_of f.code) f.offset

-- The same, and whether one of them has arity 1 and weighs 0.
abbrev pub SymbolsRead : Reading (List Symbol) → (List Symbol → Type 0) → Result (Bool × BitCursor) Fault →
    List Symbol → Type 0
SymbolsRead reading Put (Ok (weightless, next)) symbols =
    (reading ≡ got symbols next.at) × (weightless ≡ has_zero_weight_unary symbols) × Put symbols
SymbolsRead reading Put (Err f) symbols = reading ≡ fault (number_of f.code) f.offset
