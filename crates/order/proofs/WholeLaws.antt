-- Two whole terms: what is known of their words, and what is prepared of them.
--     table-small                              the table
--     left-some, left-complete, turned, ..     their words, and the two turned round
--     level-turned                             the two of equal weight, turned round
use mathlib.Core.List.{List}
use mathlib.Core.Path.{sym}
use Prim.Native.Nat.{ℕ, ◌≤◌, ◌<◌}
use native.Mathlib.Omega.{arith}
use lib.ListN.{length}
use Rattle.symbols.specs.Table.{signature_of}
use Rattle.symbols.proofs.TableLaws.{few-at}
use Rattle.reader.specs.Promise.{Decoded}
use Rattle.subterms.specs.Parts.{Complete}
use Rattle.subterms.proofs.FormedLaws.{term-some, term-complete}
use Rattle.weights.specs.declared.totals.Totals.{Totals}
use Rattle.order.specs.Whole.{Level}

module _ {table s t : List ℕ} (S : Decoded table s t) where
  pub table-small : length table ≤ 1025
  table-small = omega (arith, S.symbols.short)

  pub left-some : 0 < length s
  left-some = term-some S.left

  pub right-some : 0 < length t
  right-some = term-some S.right

  pub left-complete : Complete (signature_of table) s
  left-complete = term-complete (signature_of table) (few-at table table-small) S.left

  pub right-complete : Complete (signature_of table) t
  right-complete = term-complete (signature_of table) (few-at table table-small) S.right

  pub turned : Decoded table t s
  turned = record { symbols = S.symbols; left = S.right; right = S.left }

pub level-turned : {table s t : List ℕ} {a b : Totals} → Level table s a t b → Level table t b s a
level-turned L = record {
  decoded = turned L.decoded;
  left = L.right;
  right = L.left;
  level = sym L.level;
  root = sym L.root;
}
