-- What a Measured holds of its terms.
--     scale           both sides of a comparison by the order
--     right-totals    the sums over a part of the right one, under the table of the left one
use Rattle.std.proofs.Common.{◌≡◌, ℕ, List}
use Rattle.terms.specs.Term.{weight}
use Rattle.symbols.specs.Table.{signature_of}
use Rattle.subterms.specs.Parts.{part_at}
use Rattle.equivalence.proofs.PreparedLaws.{both-kept}
use Rattle.weights.specs.declared.totals.Totals.{Totals}
use Rattle.weights.specs.Totals.{Counted}
use Rattle.measures.specs.Sums.{Scale}
use Rattle.extensions.specs.declared.measured.Measured.{Measured}

module _ (m : Measured) where
  pub scale : Scale m.pair.left.table.now m.pair.left.words.now m.pair.left.keys.now m.left_sums.now
      m.pair.right.words.now m.pair.right.keys.now m.right_sums.now
  scale = record {
    admissible = m.admissible;
    sides = both-kept m.pair.both_prepared;
    left = m.left_summed;
    right = m.right_summed;
  }

  abbrev Sums : List ℕ → ℕ → Totals → Type 0
  Sums table j r =
      (r.weight ≡ weight (signature_of table) (part_at (signature_of table) m.pair.right.words.now j))
      × Counted (part_at (signature_of table) m.pair.right.words.now j) r

  pub right-totals : (j : ℕ) {r : Totals} → Sums m.pair.right.table.now j r → Sums m.pair.left.table.now j r
  right-totals j h = rw m.pair.one_table h
