-- Replies and errors, and what an operation leaves in its output.
-- Renders: 01, "Replies and refusals": "A refusal gives a number, which lent input is at fault (0 the first) and a
-- place", "a place not named is 0", "Nothing lent is changed", "later ones are unchanged".
use Rattle.std.specs.Prelude.{List, ◌++◌, Bool, cond, ℕ, length, drop}
use Rattle.format.specs.Reading.{Reading}
use Rattle.format.specs.Reading.Reading.{got, fault}

-- 01's refusal: a number, an input and a place.
pub record Error : Type 0 where
  pub code : ℕ
  pub input : ℕ
  pub offset : ℕ

-- An answer, or 01's refusal: a number, an input and a place.
pub data Reply (A : Type 0) : Type 0 where
  accepted : A → Reply A
  refused : Error → Reply A

module _ {A B : Type 0} where
  abbrev pub ◌>>=◌ : Reply A → (A → Reply B) → Reply B
  ◌>>=◌ (accepted a) k = k a
  ◌>>=◌ (refused e) k = refused e

  abbrev pub ◌>>◌ : Reply A → Reply B → Reply B
  ◌>>◌ (accepted a) r = r
  ◌>>◌ (refused e) r = refused e

-- What was read of an input, or the fault in it.
abbrev pub from_input : {A : Type 0} → ℕ → Reading A → Reply A
from_input input (got a at) = accepted a
from_input input (fault code offset) = refused (record { code = code; input = input; offset = offset })

-- That error of an input, at offset 0, unless the test holds.
abbrev pub demand : Bool → ℕ → ℕ → Reply (Unit {0})
demand ok code input = cond ok (accepted tt) (refused (record { code = code; input = input; offset = 0 }))

-- What an accepted call replies, and what it writes at the front of its output.
pub record Written (A : Type 0) : Type 0 where
  pub value : A
  pub front : List ℕ

-- The reply and the output afterwards.
pub record Outcome (A : Type 0) : Type 0 where
  pub reply : Reply A
  pub output : List ℕ

-- A refused call leaves the output as it was, an accepted one what stands after the front.
abbrev pub outcome : {A : Type 0} → Reply (Written A) → List ℕ → Outcome A
outcome (accepted w) output =
    record { reply = accepted w.value; output = w.front ++ drop (length w.front) output }
outcome (refused e) output = record { reply = refused e; output = output }
