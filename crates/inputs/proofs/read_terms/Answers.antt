-- Each term is refused for its own fault, or its end is told.
use Rattle.std.proofs.lemmas.Result.{err_from_is_err_and}
use mathlib.Core.Path.{refl}
use Rattle.symbols.specs.Table.{signature_of}
use borrow.Author.Rules.{rules}
use Rattle.inputs.proofs.InputLaws.{Told, term-refused, term-told, left-fault, right-fault, terms-read}
use Rattle.inputs.proofs.read_terms.Goals as goal

pub returns-in_err-left : goal.returns-in_err-left
returns-in_err-left c =
    let a = c.args in
    let told : Told 1 c.front_term.result c.map_err.result = search rules in
    let σ = signature_of a.table.now in
    let error = err_from_is_err_and c.from_residual.result c.from_residual.ensures.1 in
    rw (error.1, error.2) (left-fault a.extent a.table.now a.left.now a.right.now _
    (term-refused _ _ _ 1 _ (c.front_term.ensures σ c.arities-arities.ensures c.requires.unscaled) told
    c.in_err-left.was))

pub returns-in_err-right : goal.returns-in_err-right
returns-in_err-right c =
    let a = c.args in
    let told : Told 1 c.front_term.result c.map_err.result = search rules in
    let told' : Told 2 c.front_term-2.result c.map_err-2.result = search rules in
    let σ = signature_of a.table.now in
    let error = err_from_is_err_and c.from_residual-in_err-right.result c.from_residual-in_err-right.ensures.1 in
    rw (error.1, error.2) (right-fault a.extent a.table.now a.left.now a.right.now _
    (term-told _ _ _ 1 _ (c.front_term.ensures σ c.arities-arities.ensures c.requires.unscaled) told c.in_ok-left.was) _
    (term-refused _ _ _ 2 _ (c.front_term-2.ensures σ c.arities-arities.ensures c.requires.unscaled) told'
    c.in_err-right.was))

pub returns : goal.returns
returns c =
    let a = c.args in
    let told : Told 1 c.front_term.result c.map_err.result = search rules in
    let told' : Told 2 c.front_term-2.result c.map_err-2.result = search rules in
    let σ = signature_of a.table.now in (
      refl,
      terms-read a.extent a.table.now a.left.now a.right.now _
          (term-told _ _ _ 1 _ (c.front_term.ensures σ c.arities-arities.ensures c.requires.unscaled) told
          c.in_ok-left.was) _
          (term-told _ _ _ 2 _ (c.front_term-2.ensures σ c.arities-arities.ensures c.requires.unscaled) told'
          c.in_ok-right.was)
          c.requires,
    )
