-- Each branch is one of the definition.
use Rattle.std.proofs.Common.{ℕ, ◌+◌, ◌*◌, sym, ◌∙◌, rules, arith}
use Rattle.std.proofs.lemmas.Iterator.{YieldsList-from_slice}
use Rattle.std.proofs.lemmas.Iterator.Consumers.{fold_from_yields_List}
use Rattle.terms.specs.Fingerprint.{row_factor, wrapped}
use Rattle.symbols.specs.Table.{signature_of}
use Rattle.hashing.specs.declared.Entry.{Entry}
use Rattle.hashing.specs.Entries.{fingerprint_in, added_in}
use Rattle.hashing.proofs.RunLaws.{row-fold, bag-fold}
use Rattle.hashing.proofs.gathered.Goals as goal

pub returns-then-is_ac : goal.returns-then-is_ac
returns-then-is_ac c =
    let a = c.args in
    let print : Entry → ℕ = added_in (signature_of a.table.now) a.word in
    rw (sym c.is_ac.ensures ∙ c.if-is_ac.true)
    (fold_from_yields_List _ (λ (v : ℕ) (t : Entry). wrapped (v + print t)) _ _ c.fold.ensures.ran
    (YieldsList-from_slice a.entries.now cc) (λ v t r q k. search rules)
    ∙ bag-fold print a.entries.now 0 (omega arith) ∙ omega arith)

pub returns : goal.returns
returns c =
    let a = c.args in
    let print : Entry → ℕ = fingerprint_in (signature_of a.table.now) in
    rw (sym c.is_ac.ensures ∙ c.if-is_ac.false)
    (fold_from_yields_List _ (λ (v : ℕ) (t : Entry). wrapped (wrapped (v * row_factor) + print t)) _ _
    c.fold-2.ensures.ran (YieldsList-from_slice a.entries.now cc) (λ v t r q k. search rules)
    ∙ row-fold print a.entries.now _ ∙ rw c.from.ensures)
