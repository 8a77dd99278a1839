-- The words that were read stand first, and the lowest unused variable is the number of its word.
use mathlib.Core.Path.{refl}
use native.Mathlib.Omega.{arith}
use Rattle.format.specs.Layout.{max_nodes}
use Rattle.format.specs.Reading.{bit_source}
use Rattle.format.specs.Format.{nodes_reader}
use Rattle.answers.specs.Answer.{answer_of}
use Rattle.sides.proofs.SideLaws.{side-read}
use Rattle.sides.proofs.read_side.Goals as goal

pub overflow_sub-unused : goal.overflow_sub-unused
overflow_sub-unused c = c.read_terms.ensures.words_len.1

pub read_terms-requires : goal.read_terms-requires
read_terms-requires c =
    let a = c.args in
    record {
      from_ahead = c.empty.ensures a.book.bytes.now a.cursor.at c.requires.cursor_bound;
      count_le_max_nodes = (omega arith, omega arith, c.requires.words_len.0);
      le_lowest = (omega arith, omega (arith, c.requires.words_len.1));
      no_error = refl;
    }

pub returns : goal.returns
returns c =
    let a = c.args in
    rw (c.moved.ensures, c.answer_of.ensures) (record {
      side_read = λ σ k. side-read a.unused.now a.words.now c.read_terms.new.words c.read_terms.new.lowest _
          (answer_of c.read_terms.new.error c.read_terms.new.count c.read_terms.new.end)
          (nodes_reader (bit_source a.book.bytes.now) max_nodes a.unused.now σ a.cursor.at) c.requires.words_len.0 refl
          (c.read_terms.ensures.forest_read σ k a.unused.now refl);
      within = c.read_terms.ensures.within;
      words_len_2 = (c.read_terms.ensures.words_len.0, omega (arith, c.read_terms.ensures.words_len.2));
    })
