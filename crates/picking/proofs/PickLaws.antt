-- The ends of picking, by what its inputs read as, and the part that is handed back.
--     inputs-refused, inputs-picked     the companion reply
--     left-front, right-front           the count of words is that of the part
--     part                              the part, by the reply
use mathlib.Core.List.{List, []}
use mathlib.Core.Path.{◌≡◌, sym, ap}
use Prim.Native.Nat.{ℕ}
use Rattle.std.specs.Prelude.{Result, Ok, Err}
use lib.ListN.{length, take}
use lib.Seq.{length-take-le}
use Rattle.format.specs.Files.{read_first_term}
use Rattle.operations.specs.Replies.{Reply}
use Rattle.operations.specs.Replies.Reply.{accepted, refused}
use Rattle.operations.specs.declared.Error as code
use Rattle.operations.specs.Enums.{error_of}
use Rattle.operations.specs.declared.Comparison.{Comparison}
use Rattle.operations.specs.declared.GreaterSide.{GreaterSide}
use Rattle.operations.specs.declared.GreaterSide.TheVariants.{Left, Right}
use Rattle.operations.specs.Inputs.{read_inputs}
use Rattle.operations.specs.Comparing.{relation as relation_of}
use Rattle.operations.specs.Picking.{side_of, picked, of_greater, greater_part}
use Rattle.operations.proofs.PickingLaws.{picked-within}
use Rattle.comparing.specs.declared.Related.{Related}
use Rattle.comparing.specs.Related.{RelatedRead}

module _ (bytes left right : List ℕ) where
  module _ (x : Result Related code.Error) (read : RelatedRead (read_inputs read_first_term bytes left right) x) where
    pub inputs-refused : (e : code.Error) → x ≡ Err e → refused (error_of e) ≡ picked bytes left right
    unfolding picked
    inputs-refused e is = rw (rw is at read)

    pub inputs-picked : (y : Related) → x ≡ Ok y →
        accepted (side_of y.found.relation y.left y.right) ≡ picked bytes left right
    unfolding picked
    inputs-picked y is =
        let (i, reads, how) = rw is at read in
        let same : y.found.relation ≡ relation_of i.signature i.left i.right =
        ap (λ (d : Comparison). d.relation) how.compares in
        rw (same, how.left_size, how.right_size, reads)

  -- ---- the part, by what a reply is known to be

  pub left-front : (n : ℕ) → accepted (Left n) ≡ picked bytes left right → n ≡ length (take n left)
  left-front n e = sym (length-take-le n left (picked-within bytes left right _ (sym e)).0)

  pub right-front : (n : ℕ) → accepted (Right n) ≡ picked bytes left right → n ≡ length (take n right)
  right-front n e = sym (length-take-le n right (picked-within bytes left right _ (sym e)).0)

  pub part : (reply : Reply GreaterSide) → reply ≡ picked bytes left right →
      of_greater reply (λ n. take n left) (λ n. take n right) [] ≡ greater_part bytes left right
  unfolding greater_part
  part reply e = rw (sym e)
