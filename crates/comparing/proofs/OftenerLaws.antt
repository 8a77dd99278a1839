-- The ends of the variable test, by what its inputs read as.
use mathlib.Core.List.{List}
use mathlib.Core.Path.{◌≡◌, ap, ◌∙◌}
use Prim.Native.Nat.{ℕ}
use Rattle.std.specs.Prelude.{Result, Ok, Err}
use lib.ListN.{take}
use Rattle.terms.specs.Words.{term_of}
use Rattle.terms.specs.Oftener.{first_oftener}
use Rattle.format.specs.Files.{read_term}
use Rattle.operations.specs.Replies.Reply.{accepted, refused}
use Rattle.operations.specs.declared.Error as code
use Rattle.operations.specs.Enums.{error_of}
use Rattle.operations.specs.Inputs.{read_inputs}
use Rattle.operations.specs.Variables.{oftener}
use Rattle.symbols.specs.Table.{signature_of}
use Rattle.inputs.specs.Inputs.{InputsRead}
use Rattle.inputs.specs.declared.Ends.{Ends}

module _ (bytes table left right : List ℕ) (x : Result Ends code.Error)
    (read : InputsRead table left right (read_inputs read_term bytes left right) x) where
  pub test-refused : (e : code.Error) → x ≡ Err e → refused (error_of e) ≡ oftener bytes left right
  unfolding oftener
  test-refused e is = rw (rw is at read)

  pub tested : (ends : Ends) → x ≡ Ok ends → (v : ℕ) →
      v ≡ first_oftener (signature_of (take ends.front table))
      (term_of (signature_of (take ends.front table)) (take ends.left left))
      (term_of (signature_of (take ends.front table)) (take ends.right right)) → accepted v ≡ oftener bytes left right
  unfolding oftener
  tested ends is v d = ap accepted d ∙ rw (rw is at read).1.read
