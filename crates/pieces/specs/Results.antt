-- A term with the instance of a pattern in place of one of its parts.
use Rattle.std.specs.Prelude.{List, ◌++◌, ℕ, ◌+◌, ◌<◌, length, take, drop}
use Rattle.terms.specs.Signature.{Signature}
use Rattle.terms.specs.Term.{size}
use Rattle.subterms.specs.Parts.{part_at}
use Rattle.pieces.specs.Pieces.{instance_words, Filled}

module _ (σ : Signature) (ws offsets masks ps : List ℕ) (i : ℕ) where
  -- The words before the part, those of the instance, and those after the part.
  abbrev pub result_words : List ℕ
  result_words = take i ws ++ (instance_words σ ws offsets masks ps ++ drop (i + size (part_at σ ws i)) ws)

  -- The part stands there.
  pub record IsResult : Type 0 where
    pub filled : Filled σ ws offsets masks ps
    pub inside : i < length ws
