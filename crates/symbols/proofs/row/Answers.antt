-- Of the seven digits those of the arguments are the last.
use mathlib.Core.Path.{sym, ap, ap₂, ◌∙◌}
use Prim.Native.Nat.{ℕ, ◌*◌, ◌%◌, ◌^◌, ◌<◌}
use native.Mathlib.Nat.{mod-le}
use native.Mathlib.Omega.{arith}
use lib.Pow.{pow_pos}
use Rattle.terms.specs.Signature.{Symbol}
use Rattle.format.specs.Forms.{has_coefficients}
use Rattle.format.proofs.PackingLaws.{one_shl}
use Rattle.symbols.specs.Table.{spelled, form_of}
use Rattle.symbols.proofs.TableLaws.{symbol-at, arity-lt}
use Rattle.symbols.proofs.RowLaws.{spelled-row}
use Rattle.symbols.proofs.row.Goals as goal

pub overflow_shl-result : goal.overflow_shl-result
overflow_shl-result c =
    let a = c.args in
    omega (arith, c.arity.ensures.0, arity-lt a.table.now a.f)

pub nonzero_rem-result : goal.nonzero_rem-result
nonzero_rem-result c =
    let a = c.args in
    let n : 4 * c.arity.result < 64 = omega (arith, c.arity.ensures.0, arity-lt a.table.now a.f) in
    rw (one_shl 64 (4 * c.arity.result) n) (pow_pos (4 * c.arity.result))

pub returns : goal.returns
returns c =
    let a = c.args in
    let n : 4 * c.arity.result < 64 = omega (arith, c.arity.ensures.0, arity-lt a.table.now a.f) in
    let digits = c.last_digits.ensures in
    let same = symbol-at a.table.now a.f in
    rw (one_shl 64 (4 * c.arity.result) n) (
      ap₂ (λ (row arity : ℕ). row % 2 ^ (4 * arity)) digits.0
          (c.arity.ensures.0 ∙ ap (λ (s : Symbol). s.arity) same)
          ∙ sym (spelled-row (has_coefficients (form_of a.table.now)) a.table.now a.f)
          ∙ ap (λ (s : Symbol). spelled s.coefficients) (sym same),
      omega (arith, digits.1, mod-le c.last_digits.result (2 ^ (4 * c.arity.result))),
    )
