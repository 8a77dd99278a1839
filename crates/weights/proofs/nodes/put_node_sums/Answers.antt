-- The symbols' weights are stored, then what the variables add; all else is 0.
use mathlib.Core.Path.{◌≡◌, sym, ◌∙◌}
use native.Mathlib.Omega.{arith}
use lib.ListN.{length, get_or, get_or-replicate, get_or-eq_default}
use borrow.Author.Tests.{lt-ltb}
use Rattle.multisets.proofs.Relations.{by_order}
use Rattle.terms.specs.Signature.{symbol_of}
use Rattle.symbols.specs.Table.{signature_of}
use Rattle.weights.specs.Nodes.{none}
use Rattle.weights.proofs.nodes.put_node_sums.Goals as goal

pub returns : goal.returns
returns c =
    let σ = signature_of c.args.table.now in
    let W = c.put_weights.ensures.0 in
    let V = c.put_variables.ensures.0 in
    record {
      few = omega (arith, c.count.ensures);
      ones = c.requires.table_len_bound.1;
      sum = λ word h. by_order word 256
          (λ l. by_order word (length σ.symbols) (λ m. rw (V.others word l) (W.stored word (omega (arith, c.count.ensures))))
          λ m.
          let z : get_or c.put_variables.new.adds word none ≡ none =
          V.others word l ∙ W.others word (omega (arith, c.count.ensures))
          ∙ (rw c.requires.adds_value (get_or-replicate 272 word none none (omega arith))) in
          let w : (symbol_of σ word).weight ≡ 0 = rw (get_or-eq_default σ.symbols _ m) in
          rw z (record {
            weight = rw (lt-ltb word 256 l) (sym w);
            low = rw (lt-ltb word 256 l);
            high = rw (lt-ltb word 256 l);
            light = omega arith;
            small = record { weight = omega arith; low = omega arith; high = omega arith };
          }))
          λ l. V.stored word l (omega arith);
    }
