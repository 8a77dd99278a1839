-- The code, the end and the lowest unused variable after the term make the answer.
use native.Mathlib.Omega.{arith}
use mathlib.Core.Path.{refl}
use Rattle.words.proofs.TermLaws.{all-allowed}
use Rattle.words.proofs.term.Goals as goal

pub terms-requires : goal.terms-requires
terms-requires c =
    let a = c.args in record {
      at_le_limit = (omega arith, omega arith, c.min-stop.ensures);
      at_bound = (rw (all-allowed a.at a.most) (omega arith), omega arith, omega arith);
      no_error = refl;
    }

pub overflow_sub-lowest : goal.overflow_sub-lowest
overflow_sub-lowest c = omega (arith, c.terms.ensures.le_lowest.0)
