-- Both terms are whole, so both are prepared, and the test is the one of their parts at 0.
use Rattle.order.proofs.WholeLaws.{table-small, left-complete, right-complete, left-some, right-some}
use Rattle.order.proofs.level.prepare_both.Goals as goal

pub prepare-requires-clause-complete : goal.prepare-requires-clause-complete
prepare-requires-clause-complete c = left-complete c.requires

pub prepare-requires-2-clause-complete : goal.prepare-requires-2-clause-complete
prepare-requires-2-clause-complete c = right-complete c.requires

pub equivalent-requires : goal.equivalent-requires
equivalent-requires c =
    let P = c.paired.ensures in
    record { i_in_bounds = rw (P.left, P.right) (left-some c.requires, right-some c.requires) }

pub returns : goal.returns
returns c =
    let P = c.paired.ensures in
    record {
      value = rw (P.table, P.left, P.right) at c.equivalent.ensures;
      both_prepared = record {
        small = table-small c.requires;
        binary = c.requires.symbols.admissible.ac_binary;
        left = c.prepare.ensures;
        right = c.prepare-2.ensures;
      };
    }
