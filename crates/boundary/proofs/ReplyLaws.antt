-- What crosses the boundary.
--     whole     storing as many values as there are stores these alone
use mathlib.Core.List.{List}
use mathlib.Core.Path.{◌≡◌, sym}
use Prim.Native.Nat.{◌+◌}
use native.Mathlib.Omega.{arith}
use lib.IntN.{ℤ}
use lib.ListN.{length, drop_of_length-le}
use lib.Seq.{sets, sets-eq}
use Rattle.std.proofs.lemmas.List.{append-nil}

pub whole : (old new : List ℤ) → length old ≡ 3 → length new ≡ 3 → new ≡ sets old 0 new
whole old new h g =
    rw (sets-eq new old 0 (omega arith), drop_of_length-le old {i = 0 + length new} (omega arith)) (sym (append-nil new))
