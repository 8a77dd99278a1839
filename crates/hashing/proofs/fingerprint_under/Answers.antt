-- The term is refused for its own fault, or it is all of its words and hashed.
use Rattle.std.proofs.lemmas.Result.{err_from_is_err_and}
use Rattle.std.proofs.Common.{rules}
use Rattle.symbols.specs.Table.{signature_of}
use Rattle.format.specs.Files.{read_term}
use Rattle.inputs.proofs.InputLaws.{Told, term-refused, term-told}
use Rattle.hashing.proofs.ReplyLaws.{term-fault, term-whole, term-hashed}
use Rattle.hashing.proofs.fingerprint_under.Goals as goal

pub returns-in_err-map_err : goal.returns-in_err-map_err
returns-in_err-map_err c =
    let a = c.args in
    let σ = signature_of a.table.now in
    let told : Told 1 c.front_term.result c.map_err.result = search rules in
    let error = err_from_is_err_and c.from_residual.result c.from_residual.ensures.1 in
    rw (error.1, error.2) (term-fault σ a.term.now _
    (term-refused (read_term σ a.term.now) _ _ 1 _ (c.front_term.ensures σ c.arities-arities.ensures c.requires.unscaled)
    told c.in_err-map_err.was))

pub hash-requires : goal.hash-requires
hash-requires c =
    let a = c.args in
    let σ = signature_of a.table.now in
    let told : Told 1 c.front_term.result c.map_err.result = search rules in
    let read = term-told (read_term σ a.term.now) _ _ 1 _ (c.front_term.ensures σ c.arities-arities.ensures
    c.requires.unscaled) told c.in_ok-map_err.was in
    (c.requires.short, term-whole σ a.term.now _ read)

pub returns : goal.returns
returns c =
    let a = c.args in
    let σ = signature_of a.table.now in
    let told : Told 1 c.front_term.result c.map_err.result = search rules in
    let read = term-told (read_term σ a.term.now) _ _ 1 _ (c.front_term.ensures σ c.arities-arities.ensures
    c.requires.unscaled) told c.in_ok-map_err.was in
    term-hashed σ a.term.now _ read _ c.hash.ensures
