-- Laws of plain lists that the libraries lack.
--     sets-append   one list stored after another
--     put_part      what is copied to a part of a list is stored from the part's start on
--     front         a front within a list has as many elements as it is said to
use mathlib.Core.Path.{◌≡◌, sym, ◌∙◌}
use mathlib.Core.List.{List, [], ◌∷◌, ◌++◌, append_assoc}
use Prim.Native.Nat.{ℕ, suc, ◌+◌, ◌≤◌}
use native.Mathlib.Nat.{add-zero, suc-add, add-suc}
use native.Mathlib.Omega.{arith}
use lib.ListN.{length, set, take}
use lib.Seq.{sets, sets-eq, drop-drop, length-take-le}
use borrow.Rule.Slice.PartMut.{put_mid}

pub sets-append : {A : Type 0} (l : List A) (i : ℕ) (xs ys : List A) →
    sets l i (xs ++ ys) ≡ sets (sets l i xs) (i + length xs) ys
sets-append l i [] ys = rw add-zero
sets-append l i (x ∷ xs) ys = sets-append (set l i x) (suc i) xs ys ∙ rw (suc-add, add-suc)

pub put_part : {A : Type 0} (i n : ℕ) (l vs : List A) → n ≡ length vs → i + n ≤ length l →
    put_mid i n l vs ≡ sets l i vs
put_part i n l vs e h = rw (e, drop-drop, ← append_assoc) (sym (sets-eq vs l i (omega arith)))

pub front : {A : Type 0} (n : ℕ) (l : List A) → n ≤ length l → n ≡ length (take n l)
front n l h = sym (length-take-le n l h)
