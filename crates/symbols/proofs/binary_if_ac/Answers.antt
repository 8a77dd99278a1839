-- 4 shifted by the arity is odd for two alone.
use mathlib.Core.Path.{◌≡◌, refl}
use mathlib.Core.Bool.{◌||◌}
use Prim.Native.Nat.{ℕ, suc, zero, ◌/◌, ◌%◌, ◌^◌, ◌<◌}
use native.Mathlib.Omega.{arith}
use lib.Dec.{eqb, leb}
use borrow.Author.Tests.{le-leb}
use Rattle.symbols.proofs.binary_if_ac.Goals as goal

odd-for-two : (arity ac : ℕ) → arity < 8 → ac < 2 → leb ac (4 / 2 ^ arity % 2) ≡ (eqb ac 0 || eqb arity 2)
odd-for-two arity zero h k = le-leb 0 (4 / 2 ^ arity % 2) (omega arith)
odd-for-two arity (suc (suc ac)) h k = absurd (omega arith)
odd-for-two zero (suc zero) h k = refl
odd-for-two (suc zero) (suc zero) h k = refl
odd-for-two (suc (suc zero)) (suc zero) h k = refl
odd-for-two (suc (suc (suc zero))) (suc zero) h k = refl
odd-for-two (suc (suc (suc (suc zero)))) (suc zero) h k = refl
odd-for-two (suc (suc (suc (suc (suc zero))))) (suc zero) h k = refl
odd-for-two (suc (suc (suc (suc (suc (suc zero)))))) (suc zero) h k = refl
odd-for-two (suc (suc (suc (suc (suc (suc (suc zero))))))) (suc zero) h k = refl
odd-for-two (suc (suc (suc (suc (suc (suc (suc (suc n)))))))) (suc zero) h k = absurd (omega arith)

pub returns : goal.returns
returns c = odd-for-two c.args.arity c.args.ac c.requires.0 c.requires.1
