-- The loop keeps: the first from x on is the first of all.
use mathlib.Core.Path.{refl, ◌∙◌}
use native.Mathlib.Omega.{arith}
use Rattle.scaling.proofs.CountLaws.{below-product, more-step, more-found, more-none}
use Rattle.scaling.proofs.parts.first_more.Goals as goal

pub loop-x-init : goal.loop-x-init
loop-x-init c = refl

pub overflow_mul-left : goal.overflow_mul-left
overflow_mul-left c = omega (
  arith,
  below-product (c.requires.by_index c.loop-x.x (omega arith)).0
      c.requires.f_le_limit.1,
)

pub overflow_mul-right : goal.overflow_mul-right
overflow_mul-right c = omega (
  arith,
  below-product (c.requires.by_index c.loop-x.x (omega arith)).1
      c.requires.f_le_limit.0,
)

pub returns-then-left-x-clause-value : goal.returns-then-left-x-clause-value
returns-then-left-x-clause-value c =
    let a = c.args in
    let l = c.loop-x in
    more-found a.left.now a.f a.right.now a.g l.x (omega arith) c.if-left-x.true ∙ l.invariant

pub loop-x-preserved : goal.loop-x-preserved
loop-x-preserved c =
    let a = c.args in
    let l = c.loop-x in
    more-step a.left.now a.f a.right.now a.g l.x (omega arith) c.if-left-x.false ∙ l.invariant

pub returns-clause-value : goal.returns-clause-value
returns-clause-value c =
    let a = c.args in
    let l = c.loop-x in
    more-none a.left.now a.f a.right.now a.g l.x (omega arith) ∙ l.invariant
