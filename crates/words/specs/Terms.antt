-- Reading terms from words: the test of a node word, and the term at the front.
use Rattle.std.specs.Prelude.{List, cond, ℕ, eqb, ltb, leb, get_or, Result, Ok, Err}
use Rattle.terms.specs.Signature.{Signature}
use Rattle.format.specs.declared.ErrorCode.{ErrorCode}
use Rattle.format.specs.declared.ErrorCode.TheVariants.{WordTooWide, NoSuchSymbol, VariableOutOfTurn}
use Rattle.format.specs.Reading.{Reading}
use Rattle.format.specs.Files.{read_first_term, read_term}
use Rattle.words.specs.declared.Extent.{Extent}
use Rattle.words.specs.declared.Extent.TheVariants.{Whole, Front}

-- The test of a node word, by its cell and the word of the lowest unused variable.
abbrev pub node_check : List ℕ → ℕ → ℕ → Result (Unit {0}) ErrorCode
node_check cells lowest word =
    cond (leb 272 word) (Err WordTooWide)
    (cond (eqb (get_or cells word 0) 0) (Err NoSuchSymbol) (cond (ltb lowest word) (Err VariableOutOfTurn) (Ok tt)))

-- How a term is read, by how much of the words it is to be.
abbrev pub reader_of : Extent → Signature → List ℕ → Reading (List ℕ)
reader_of Whole = read_term
reader_of Front = read_first_term
