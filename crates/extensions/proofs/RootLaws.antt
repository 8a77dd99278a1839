-- The comparison of two terms by their roots and rows of arguments.
--     lex-none, lex-here, lex-more                                    rows of arguments
--     root-variable, -wrapped, -differing, -elements, -rows, -row     the mark by the roots
use mathlib.Core.List.{List}
use mathlib.Core.Path.{◌≡◌, sym, ap, ap₂, ◌∙◌}
use mathlib.Core.Bool.{Bool, true, false, cond}
use Prim.Native.Nat.{ℕ, ◌+◌, ◌-◌, ◌≤◌, ◌<◌}
use native.Mathlib.Omega.{arith}
use lib.Dec.{ltb}
use lib.ListN.{length, get_or, get_or-eq_default}
use borrow.Author.Tests.{lt-ltb, le-ltb, le-leb, lt-leb, ne_eqb}
use Rattle.multisets.specs.Multiset.{row_greater}
use Rattle.multisets.proofs.Relations.{by_test, by_order, eqb-self}
use Rattle.terms.specs.Signature.{Symbol, Signature, symbol_of, Admissible}
use Rattle.terms.specs.Term.{size, arguments, variable_count}
use Rattle.terms.specs.Term.Term.{var, app}
use Rattle.terms.specs.Equivalence.{is_equivalent}
use Rattle.terms.specs.Order.{none_oftener, root_mark, is_greater}
use Rattle.terms.specs.Marks.{Balanced}
use Rattle.terms.proofs.TermLaws.{row-arguments}
use Rattle.terms.proofs.OrderLaws.{none_oftener-facts}
use Rattle.terms.proofs.IteratedLaws.{power-of-balanced}
use Rattle.symbols.specs.Table.{signature_of}
use Rattle.subterms.specs.Parts.{part_at, parts_at, Complete, Stands}
use Rattle.equivalence.specs.Keys.{BothPrepared, size_in}
use Rattle.equivalence.specs.Offsets.{alike_at}
use Rattle.subterms.proofs.PartLaws.{variable, symbol}
use Rattle.subterms.proofs.FormedLaws.{part-formed}
use Rattle.equivalence.proofs.StepLaws.{row_next, prepared-size}
use Rattle.extensions.proofs.MeasureLaws.{row_nodes}
use Rattle.extensions.specs.Compared.{weight_at, none_oftener_at, higher_mark, is_higher, greater_at, root_at, rows_greater}
use Rattle.extensions.specs.Compared.{flattened_at}

-- ---- rows

module _ {table s skeys t tkeys : List ℕ} (S : BothPrepared table s skeys t tkeys) {i j n : ℕ}
    (a : Stands (signature_of table) s i n)
    (b : Stands (signature_of table) t j n) where
  pub lex-none : n ≡ 0 → false ≡ rows_greater table s i t j n
  unfolding row_greater
  lex-none e = rw e

  lex-step : 0 < n → rows_greater table s i t j n
      ≡ cond (alike_at table s i t j) (rows_greater table s (i + size (part_at (signature_of table) s i)) t
      (j + size (part_at (signature_of table) t j)) (n - 1)) (greater_at table s i t j)
  unfolding row_greater
  lex-step p =
      let σ = signature_of table in
      ap₂ (row_greater (is_equivalent σ) (is_greater σ)) (row_next σ s i S.left.complete n p a)
      (row_next σ t j S.right.complete n p b)

  pub lex-here : {r : Bool} → 0 < n → false ≡ alike_at table s i t j → r ≡ greater_at table s i t j → r ≡ rows_greater
      table s i t j n
  lex-here p e h = h ∙ rw (lex-step p, ← e)

  pub lex-more : {w v : ℕ} {r : Bool} → 0 < n → true ≡ alike_at table s i t j → w ≡ size_in skeys i →
      v ≡ size_in tkeys j →
      r ≡ rows_greater table s (i + w) t (j + v) (n - 1) → r ≡ rows_greater table s i t j n
  lex-more p e d g h =
      (rw (d, g, prepared-size S.left i (omega arith), prepared-size S.right j (omega arith)) at h)
      ∙ rw (lex-step p, ← e)

-- What is still ahead of a scan of two rows answers for the whole.
pub record RowsGoing (table s t : List ℕ) (i j n at to left : ℕ) : Type 0 where
  pub here : Stands (signature_of table) s at left
  pub there : Stands (signature_of table) t to left
  pub same : rows_greater table s at t to left ≡ rows_greater table s i t j n
  pub nodes : row_nodes table s t at to left ≤ row_nodes table s t i j n

-- ---- the roots

-- What decides is a mark, or 0.
pub positive : (m : ℕ) → 0 < m → (r : Bool) → r ≡ ltb 0 (cond r m 0)
positive m h r = by_test r (λ e. rw (e, lt-ltb 0 m h)) λ e. rw e

module _ (table s : List ℕ) (i : ℕ) (t : List ℕ) (j : ℕ) (h : i < length s) (k : j < length t) where
  abbrev σ : Signature
  σ = signature_of table

  both-symbols : get_or s i 0 < 256 → get_or t j 0 < 256 → root_at table s i t j ≡ root_mark σ (is_equivalent σ) (is_greater σ)
      (app (get_or s i 0) (arguments (parts_at σ s (i + 1) (symbol_of σ (get_or s i 0)).arity)))
      (app (get_or t j 0) (arguments (parts_at σ t (j + 1) (symbol_of σ (get_or t j 0)).arity)))
  unfolding root_mark
  both-symbols v u = ap₂ (root_mark σ (is_equivalent σ) (is_greater σ)) (symbol σ s i h v) (symbol σ t j k u)

  pub root-variable : 256 ≤ get_or s i 0 → 0 ≡ root_at table s i t j
  unfolding root_mark
  root-variable v = rw (variable σ s i h v)

  module _ (A : Admissible σ) (few : length σ.symbols ≤ 256) (a : Complete σ s) (b : Complete σ t)
      (none : true ≡ none_oftener_at table s i t j) (l : weight_at table s i ≡ weight_at table t j) where
    -- A variable, and as heavy a term above it.
    root-wrapped : get_or s i 0 < 256 → 256 ≤ get_or t j 0 → root_at table s i t j ≡ 11
    unfolding root_mark
    root-wrapped v u =
        let f = get_or s i 0 in
        let ss = arguments (parts_at σ s (i + 1) (symbol_of σ f).arity) in
        let x = get_or t j 0 - 256 in
        let left : part_at σ s i ≡ app f ss = symbol σ s i h v in
        let right : part_at σ t j ≡ var x = variable σ t j k u in
        let none' : none_oftener σ variable_count (app f ss) (var x) ≡ true = rw (left, right) at (sym none) in
        let balanced : Balanced σ (app f ss) (var x) = record {
          none = (none_oftener-facts σ variable_count (app f ss) (var x)).0 none';
          weights = rw (left, right) at (sym l);
        } in
        let power = power-of-balanced σ A x f ss (rw left at (part-formed σ few s i a))
        (rw right at (part-formed σ few t j b)) balanced in
        rw (left, right, power)

    pub root-differing : (get_or s i 0 ≡ get_or t j 0 → ⊥) → {r : Bool} →
        r ≡ is_higher table (get_or s i 0) (get_or t j 0) → cond r (higher_mark (get_or t j 0)) 0 ≡ root_at table s i t j
    unfolding root_mark is_higher
    root-differing d q =
        rw q (by_order (get_or s i 0) 256
        (λ v. by_order (get_or t j 0) 256
        (λ u. rw (both-symbols v u, lt-ltb (get_or s i 0) 256 v, lt-leb 256 (get_or t j 0) u, ne_eqb _ _ d))
        λ u. rw (lt-ltb (get_or s i 0) 256 v, le-leb 256 (get_or t j 0) u) (sym (root-wrapped v u)))
        λ v. rw (variable σ s i h v, le-ltb (get_or s i 0) 256 v))

  module _ (e : get_or s i 0 ≡ get_or t j 0) where
    module _ (v : get_or s i 0 < 256) {n : ℕ} (d : n ≡ (symbol_of σ (get_or s i 0)).arity) where
      abbrev rank : ℕ
      rank = (symbol_of σ (get_or s i 0)).precedence

      same : root_at table s i t j ≡ root_mark σ (is_equivalent σ) (is_greater σ)
          (app (get_or s i 0) (arguments (parts_at σ s (i + 1) n))) (app (get_or s i 0) (arguments (parts_at σ t (j + 1) n)))
      same = rw d (rw (← e) at (both-symbols v (omega arith)))

      pub root-elements : (symbol_of σ (get_or s i 0)).ac ≡ true → {r : ℕ} →
          r ≡ flattened_at table (get_or s i 0) s (i + 1) t (j + 1) n → r ≡ root_at table s i t j
      unfolding root_mark
      root-elements c q = q ∙ rw (same, le-ltb rank rank (omega arith), eqb-self, c)

      pub root-rows : (symbol_of σ (get_or s i 0)).ac ≡ false → {r : Bool} →
          r ≡ rows_greater table s (i + 1) t (j + 1) n → cond r 3 0 ≡ root_at table s i t j
      unfolding root_mark
      root-rows c q =
          rw (q, same, le-ltb rank rank (omega arith), eqb-self, c, row-arguments, row-arguments)

    -- A variable has no arguments.
    pub root-row : length σ.symbols ≤ 256 → (symbol_of σ (get_or s i 0)).ac ≡ false → {n : ℕ} →
        n ≡ (symbol_of σ (get_or s i 0)).arity → {r : Bool} → r ≡ rows_greater table s (i + 1) t (j + 1) n →
        cond r 3 0 ≡ root_at table s i t j
    unfolding row_greater
    root-row few c {n} d {r} q =
        by_order (get_or s i 0) 256 (λ v. root-rows v d c q)
        λ v.
        let z : n ≡ 0 = d ∙ ap (λ (x : Symbol). x.arity) (get_or-eq_default σ.symbols _ (omega arith)) in
        let e : r ≡ false = q ∙ rw z in
        rw e (root-variable v)
