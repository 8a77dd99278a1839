-- What the result of comparing two terms at the fronts of their words stands for.
use Rattle.std.specs.Prelude.{◌≡◌, Result, Ok, Err}
use Rattle.terms.specs.Term.{size}
use Rattle.operations.specs.declared.Error as code
use Rattle.operations.specs.Enums.{error_of}
use Rattle.operations.specs.Replies.{Reply}
use Rattle.operations.specs.Replies.Reply.{accepted, refused}
use Rattle.operations.specs.Inputs.{Inputs}
use Rattle.operations.specs.Comparing.{comparison}
use Rattle.comparing.specs.declared.Related.{Related}

-- How two terms that were read compare, and how many words they have.
pub record RelatedAs (i : Inputs) (x : Related) : Type 0 where
  pub compares : x.found ≡ comparison i.signature i.left i.right
  pub left_size : x.left ≡ size i.left
  pub right_size : x.right ≡ size i.right

-- What is read, and the result.
abbrev pub RelatedRead : Reply Inputs → Result Related code.Error → Type 0
RelatedRead reading (Ok x) = (i : Inputs) × (reading ≡ accepted i) × RelatedAs i x
RelatedRead reading (Err e) = reading ≡ refused (error_of e)
