-- Laws of one reading after another.
--     and_then-give      nothing after a reading
--     and_then-assoc     three readings one after another
--     and_then-same      what follows may be exchanged for what reads alike
--     and_then-held        what follows a reading gives what was read
--     HoldsOf             a property of what a reading gives: holds-got, holds-map, holds_then, holds-require
use mathlib.Core.Path.{◌≡◌, refl}
use mathlib.Core.Bool.{Bool, true, false}
use Prim.Native.Nat.{ℕ}
use Rattle.format.specs.Reading.{Reading, Reader, and_then, give, require}
use Rattle.format.specs.Reading.Reading.{got, fault}

pub and_then-give : {A : Type 0} (r : Reading A) → and_then r (λ a. give a) ≡ r
and_then-give (got a at) = refl
and_then-give (fault code offset) = refl

module _ {A B : Type 0} where
  pub and_then-assoc : {C : Type 0} (r : Reading A) (k : A → Reader B) (l : B → Reader C) →
      and_then (and_then r k) l ≡ and_then r (λ a at. and_then (k a at) l)
  and_then-assoc (got a at) k l = refl
  and_then-assoc (fault code offset) k l = refl

  pub and_then-same : (r : Reading A) (k l : A → Reader B) → ((a : A) (at : ℕ) → k a at ≡ l a at) →
      and_then r k ≡ and_then r l
  and_then-same (got a at) k l e = e a at
  and_then-same (fault code offset) k l e = refl

-- ---- what holds of a reading that gives a value

module _ {A : Type 0} (P : A → ℕ → Type 0) where
  -- The property of the value and the next offset; nothing is said of a fault.
  unfoldable pub HoldsOf : Reading A → Type 0
  HoldsOf (got a at) = P a at
  HoldsOf (fault code offset) = Unit {0}

  pub holds-got : (r : Reading A) (a : A) (at : ℕ) → HoldsOf r → r ≡ got a at → P a at
  unfolding HoldsOf
  holds-got r a at h e = rw e at h

pub holds-map : {A : Type 0} (P Q : A → ℕ → Type 0) (r : Reading A) → HoldsOf P r →
    ((a : A) (at : ℕ) → P a at → Q a at) → HoldsOf Q r
unfolding HoldsOf
holds-map P Q (got a at) h f = f a at h
holds-map P Q (fault code offset) h f = tt

module _ {B : Type 0} (P : B → ℕ → Type 0) where
  pub holds_then : {A : Type 0} (r : Reading A) (k : A → Reader B) →
      ((a : A) (next : ℕ) → r ≡ got a next → HoldsOf P (k a next)) → HoldsOf P (and_then r k)
  unfolding HoldsOf
  holds_then (got a at) k h = h a at refl
  holds_then (fault code offset) k h = tt

  pub holds-require : (ok : Bool) (code offset at : ℕ) (k : Unit {0} → Reader B) →
      (ok ≡ true → HoldsOf P (k tt at)) → HoldsOf P (and_then (require ok code offset at) k)
  unfolding HoldsOf
  holds-require true code offset at k h = h refl
  holds-require false code offset at k h = tt

-- What follows a reading gives what was read.
pub and_then-held : {A : Type 0} (r : Reading A) (k : A → Reader A) → HoldsOf (λ a at. k a at ≡ got a at) r →
    and_then r k ≡ r
unfolding HoldsOf
and_then-held (got a at) k h = h
and_then-held (fault code offset) k h = refl
