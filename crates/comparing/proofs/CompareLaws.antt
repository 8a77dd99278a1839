-- The ends of comparing, by what its inputs read as.
--     ends-related                          by the ends of two terms
--     inputs-refused, inputs-compared       the replies
use mathlib.Core.List.{List}
use mathlib.Core.Path.{◌≡◌, sym, ap, ◌∙◌}
use Prim.Native.Nat.{ℕ}
use Rattle.std.specs.Prelude.{Result, Ok, Err}
use lib.ListN.{length, take}
use lib.Seq.{length-take-le}
use Rattle.terms.specs.Signature.{Signature}
use Rattle.terms.specs.Words.{term_of}
use Rattle.terms.proofs.WordsLaws.{length-words}
use Rattle.terms.specs.Term.{size}
use Rattle.format.specs.Files.{read_term}
use Rattle.format.specs.Statements.{IsTerm}
use Rattle.operations.specs.Replies.{Reply}
use Rattle.operations.specs.Replies.Reply.{accepted, refused}
use Rattle.operations.specs.declared.Error as code
use Rattle.operations.specs.Enums.{error_of}
use Rattle.operations.specs.declared.Comparison.{Comparison}
use Rattle.operations.specs.Inputs.{Inputs, read_inputs}
use Rattle.operations.specs.Comparing.{comparison, compared}
use Rattle.symbols.specs.Table.{signature_of}
use Rattle.inputs.specs.Inputs.{InputsRead}
use Rattle.inputs.specs.declared.Ends.{Ends}
use Rattle.comparing.specs.declared.Related.{Related}
use Rattle.comparing.specs.Related.{RelatedRead}

-- A term has a word for each node.
front-size : (σ : Signature) (words : List ℕ) (n : ℕ) → length (take n words) ≡ n → IsTerm σ (take n words) →
    n ≡ size (term_of σ (take n words))
front-size σ words n e t = sym e ∙ ap length t.spelled ∙ length-words (term_of σ (take n words))

module _ (table left right : List ℕ) (reading : Reply Inputs) (x : Result Ends code.Error) (ends : Ends) where
  pub ends-related : x ≡ Ok ends → InputsRead table left right reading x → (c : Comparison) →
      c ≡ comparison (signature_of (take ends.front table))
      (term_of (signature_of (take ends.front table)) (take ends.left left))
      (term_of (signature_of (take ends.front table)) (take ends.right right)) →
      RelatedRead reading (Ok (record { found = c; left = ends.left; right = ends.right }))
  ends-related e read c d =
      let at = (rw e at read).1 in (
        _,
        at.read,
        record {
          compares = d;
          left_size = front-size _ left ends.left (length-take-le ends.left left at.left_within) at.decoded.left;
          right_size = front-size _ right ends.right (length-take-le ends.right right at.right_within) at.decoded.right;
        },
      )

read-compared : (bytes left right : List ℕ) (i : Inputs) → read_inputs read_term bytes left right ≡ accepted i →
    (c : Comparison) → c ≡ comparison i.signature i.left i.right → accepted c ≡ compared bytes left right
unfolding compared
read-compared bytes left right i read c e = ap accepted e ∙ rw read

module _ (bytes left right : List ℕ) (x : Result Related code.Error)
    (read : RelatedRead (read_inputs read_term bytes left right) x) where
  pub inputs-refused : (e : code.Error) → x ≡ Err e → refused (error_of e) ≡ compared bytes left right
  unfolding compared
  inputs-refused e is = rw (rw is at read)

  pub inputs-compared : (y : Related) → x ≡ Ok y → accepted y.found ≡ compared bytes left right
  inputs-compared y is =
      let (i, same, how) = rw is at read in read-compared bytes left right i same y.found how.compares
