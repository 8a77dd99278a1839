-- The cycle of the comparison, member by member.
use mathlib.Core.Path.{◌≡◌, refl, sym, ◌∙◌}
use Prim.Native.Nat.{◌+◌, ◌-◌}
use native.Mathlib.Omega.{arith}
use borrow.Author.Count.{below_more}
use Rattle.symbols.specs.Table.{signature_of}
use Rattle.equivalence.specs.Offsets.{terms_at}
use Rattle.equivalence.proofs.OffsetLaws.{offsets-own}
use Rattle.equivalence.proofs.StepLaws.{step-next}
use Rattle.terms.proofs.OftenerLaws.{oftener-none}
use Rattle.weights.proofs.TotalLaws.{number-some, number-none}
use Rattle.extensions.proofs.MeasuredLaws.{scale, right-totals}
use Rattle.extensions.proofs.MeasureLaws.{offset-size, inner-rows, inner-nodes, inner-elements, elements-sum, next-total}
use Rattle.extensions.proofs.CoverLaws.{left-sum, multiset_outcome-equal, multiset_outcome-short, multiset_outcome-above, multiset_outcome-not, above-none, above_at, covered-all, covered-not, search-start, search-none, search-within, search-more}
use Rattle.extensions.proofs.FlattenedLaws.{parts-four, parts_none, parts-five, parts-fewer, parts-six, parts-level, parted-few, joined-offsets, high-nodes, low-nodes, not-above}
use Rattle.extensions.proofs.RootLaws.{lex-none, lex-here, lex-more}
use Rattle.extensions.proofs.GreaterLaws.{at-weight, at-differing, at-variable, at-elements, at_rows, greater-oftener, mark-some}
use Rattle.extensions.proofs.measured.Measured.+compare.Goals as goal

-- What cancelling leaves decides: nothing at all is equal, something on the left that covers the right is above.
pub compare-returns-then-right-eq0 : goal.compare-returns-then-right-eq0
compare-returns-then-right-eq0 t c =
    let m = c.args.self.now.pair in
    let T = m.left.table.now in
    let x = c.args.left.now in
    let y = c.args.right.now in
    multiset_outcome-equal T (terms_at T m.left.words.now x.bytes x.count) (terms_at T m.right.words.now y.bytes y.count)
    c.cancel.ensures.offsets c.cancel.ensures.offsets_2 c.if-left-eq0.true c.if-right-eq0.true

pub compare-returns-then-left-eq0 : goal.compare-returns-then-left-eq0
compare-returns-then-left-eq0 t c =
    let m = c.args.self.now.pair in
    let T = m.left.table.now in
    let x = c.args.left.now in
    let y = c.args.right.now in
    multiset_outcome-short T (terms_at T m.left.words.now x.bytes x.count) (terms_at T m.right.words.now y.bytes y.count)
    c.cancel.ensures.offsets c.cancel.ensures.offsets_2 c.if-left-eq0.true c.if-right-eq0.false

pub compare-covers-requires : goal.compare-covers-requires
compare-covers-requires t c =
    let m = c.args.self.now.pair in
    let T = m.left.table.now in
    let x = c.args.left.now in
    let y = c.args.right.now in
    let d = c.decreases in
    let l = left-sum T (terms_at T m.left.words.now x.bytes x.count) (terms_at T m.right.words.now y.bytes y.count)
    c.cancel.ensures.offsets c.cancel.ensures.offsets_2 in
    let σ = signature_of T in (
      omega (arith, d),
      (
        offsets-own σ m.left.words.now _ _ _ c.cancel.ensures.offsets,
        (omega arith, offsets-own σ m.right.words.now _ _ _ c.cancel.ensures.offsets_2),
      ),
    )

pub compare-returns-then-covers : goal.compare-returns-then-covers
compare-returns-then-covers t c =
    let m = c.args.self.now.pair in
    let T = m.left.table.now in
    let x = c.args.left.now in
    let y = c.args.right.now in
    multiset_outcome-above T (terms_at T m.left.words.now x.bytes x.count) (terms_at T m.right.words.now y.bytes y.count)
    c.cancel.ensures.offsets c.cancel.ensures.offsets_2 c.if-left-eq0.false (sym c.if-covers.true ∙ c.covers.ensures)

pub compare-returns : goal.compare-returns
compare-returns t c =
    let m = c.args.self.now.pair in
    let T = m.left.table.now in
    let x = c.args.left.now in
    let y = c.args.right.now in
    multiset_outcome-not T (terms_at T m.left.words.now x.bytes x.count) (terms_at T m.right.words.now y.bytes y.count)
    c.cancel.ensures.offsets c.cancel.ensures.offsets_2 c.if-left-eq0.false (sym c.if-covers.false ∙ c.covers.ensures)

-- Each of the right needs a greater one.
pub covers-left-init : goal.covers-left-init
covers-left-init t c = search-start

pub covers-returns-then-left-x : goal.covers-returns-then-left-x
covers-returns-then-left-x t c =
    let m = c.args.self.now.pair in
    let T = m.left.table.now in
    let x = c.args.left.now in
    let none = above-none T c.requires.offsets_in m.right.words.now c.get-j.result
    (search-none c.left.invariant c.right.invariant.0 c.if-left-x.true) in
    covered-not T m.left.words.now x.bytes x.count c.requires.offsets_in_2 c.right.k c.right-test.true
    (rw c.get-j.ensures.0 at none)

pub covers-greater-requires : goal.covers-greater-requires
covers-greater-requires t c =
    let d = c.decreases in
    let x = c.left.x in
    let k = c.right.k in
    let inside = c.if-left-x.false in
    let below = c.right-test.true in
    rw (c.get-j.ensures.0, c.get.ensures.0) (
      omega (arith, d, offset-size c.requires.offsets_in x inside, offset-size c.requires.offsets_in_2 k below),
      (c.requires.offsets_in.inside x inside, c.requires.offsets_in_2.inside k below),
    )

pub covers-past-x-requires : goal.covers-past-x-requires
covers-past-x-requires t c =
    omega (arith, search-within c.left.invariant c.if-left-x.false, c.requires.offsets_in.few)

pub covers-left-smaller : goal.covers-left-smaller
covers-left-smaller t c =
    omega (arith, search-within c.left.invariant c.if-left-x.false, c.past-x.ensures.1)

pub covers-left-preserved : goal.covers-left-preserved
covers-left-preserved t c =
    let not = sym c.greater.ensures ∙ c.if-greater.false in
    search-more c.left.invariant (rw c.get.ensures.0 at not) c.past-x.ensures.0

pub covers-right-preserved : goal.covers-right-preserved
covers-right-preserved t c =
    let m = c.args.self.now.pair in
    let inside = c.if-left-x.false in
    let g = rw c.get.ensures.0 at (sym c.greater.ensures ∙ c.if-greater.true) in
    let above = above_at m.left.table.now c.requires.offsets_in m.right.words.now c.get-j.result c.left.x inside g in
    (inside, below_more _ _ c.right.invariant.1 (rw c.get-j.ensures.0 at above))

pub covers-returns : goal.covers-returns
covers-returns t c =
    let m = c.args.self.now.pair in
    let x = c.args.left.now in
    covered-all m.left.table.now m.left.words.now x.bytes x.count c.requires.offsets_in_2
    (λ y l. c.right.invariant.1 y (omega arith))

-- A variable that occurs oftener on the right rules it out; otherwise weights, roots and arguments decide.
pub greater-exceeds-requires : goal.greater-exceeds-requires
greater-exceeds-requires t c =
    let m = c.args.self.now in
    let A = c.total_at-left.ensures in
    let (w, B) = right-totals m c.args.j (c.total_at-right.ensures.weight_value, c.total_at-right.ensures.counted) in
    let first = c.first_oftener.ensures.value (signature_of m.pair.left.table.now) m.left_summed.ones _ _ A.counted B in
    let d = c.decreases in
    (omega (arith, d), (c.requires, oftener-none _ _ _ first (number-none _ c.if-is_none.ensures)))

pub greater-returns-else-is_none : goal.greater-returns-else-is_none
greater-returns-else-is_none t c =
    let m = c.args.self.now in
    let A = c.total_at-left.ensures in
    let (w, B) = right-totals m c.args.j (c.total_at-right.ensures.weight_value, c.total_at-right.ensures.counted) in
    let first = c.first_oftener.ensures.value (signature_of m.pair.left.table.now) m.left_summed.ones _ _ A.counted B in
    c.if-is_none.false ∙ greater-oftener _ _ _ first (number-some _ c.first_oftener.ensures.below c.if-is_none.ensures)

-- The arguments have fewer nodes.
pub exceeds-returns-then-x-y : goal.exceeds-returns-then-x-y
exceeds-returns-then-x-y t c =
    let m = c.args.self.now in
    let (p, q) = c.requires.i_in_bounds in
    let few = c.requires.none_oftener in
    let x = c.total_at-x.ensures.weight_value in
    let y = (right-totals m c.args.j (c.total_at-y.ensures.weight_value, c.total_at-y.ensures.counted)).0 in
    at-weight (scale m) c.args.i c.args.j few x y c.if-x-y.true

pub exceeds-returns-then-f-g : goal.exceeds-returns-then-f-g
exceeds-returns-then-f-g t c =
    let m = c.args.self.now in
    let (p, q) = c.requires.i_in_bounds in
    let few = c.requires.none_oftener in
    let x = c.total_at-x.ensures.weight_value in
    let y = (right-totals m c.args.j (c.total_at-y.ensures.weight_value, c.total_at-y.ensures.counted)).0 in
    at-differing (scale m) c.args.i c.args.j few x y c.if-x-y.false p q c.if-f-g.true c.higher.ensures

pub exceeds-returns-then-f-ge-FIRST_VARIABLE : goal.exceeds-returns-then-f-ge-FIRST_VARIABLE
exceeds-returns-then-f-ge-FIRST_VARIABLE t c =
    let m = c.args.self.now in
    let (p, q) = c.requires.i_in_bounds in
    let few = c.requires.none_oftener in
    let x = c.total_at-x.ensures.weight_value in
    let y = (right-totals m c.args.j (c.total_at-y.ensures.weight_value, c.total_at-y.ensures.counted)).0 in
    at-variable (scale m) c.args.i c.args.j few x y c.if-x-y.false p q c.if-f-ge-FIRST_VARIABLE.true

pub exceeds-flattened-requires : goal.exceeds-flattened-requires
exceeds-flattened-requires t c =
    let S = (scale c.args.self.now).sides in
    let (p, q) = c.requires.i_in_bounds in
    let d = c.decreases in
    let e = c.if-f-g.false in
    let n = c.arity-n.ensures.0 in
    let nodes = inner-nodes S c.args.i c.args.j p q e n c.if-f-ge-FIRST_VARIABLE.false in
    let rows = inner-rows S c.args.i c.args.j p q e n in
    let elements = inner-elements S c.args.i c.args.j p q e n (sym c.is_ac.ensures ∙ c.if-is_ac.true) in
    (omega (arith, d, nodes), (rows, elements))

pub exceeds-returns-then-is_ac : goal.exceeds-returns-then-is_ac
exceeds-returns-then-is_ac t c =
    let m = c.args.self.now in
    let (p, q) = c.requires.i_in_bounds in
    let few = c.requires.none_oftener in
    let x = c.total_at-x.ensures.weight_value in
    let y = (right-totals m c.args.j (c.total_at-y.ensures.weight_value, c.total_at-y.ensures.counted)).0 in
    c.is_some.ensures ∙ mark-some c.flattened.result
    ∙ at-elements (scale m) c.args.i c.args.j few x y c.if-x-y.false p q c.if-f-g.false c.if-f-ge-FIRST_VARIABLE.false
    c.arity-n.ensures.0 (sym c.is_ac.ensures ∙ c.if-is_ac.true) c.flattened.ensures

pub exceeds-rows_greater-requires : goal.exceeds-rows_greater-requires
exceeds-rows_greater-requires t c =
    let S = (scale c.args.self.now).sides in
    let (p, q) = c.requires.i_in_bounds in
    let d = c.decreases in
    let e = c.if-f-g.false in
    let n = c.arity-n.ensures.0 in
    let nodes = inner-nodes S c.args.i c.args.j p q e n c.if-f-ge-FIRST_VARIABLE.false in
    let rows = inner-rows S c.args.i c.args.j p q e n in
    (omega (arith, d, nodes), rows)

pub exceeds-returns : goal.exceeds-returns
exceeds-returns t c =
    let m = c.args.self.now in
    let (p, q) = c.requires.i_in_bounds in
    let few = c.requires.none_oftener in
    let x = c.total_at-x.ensures.weight_value in
    let y = (right-totals m c.args.j (c.total_at-y.ensures.weight_value, c.total_at-y.ensures.counted)).0 in
    at_rows (scale m) c.args.i c.args.j few x y c.if-x-y.false p q c.if-f-g.false c.if-f-ge-FIRST_VARIABLE.false
    c.arity-n.ensures.0 (sym c.is_ac.ensures ∙ c.if-is_ac.false) c.rows_greater.ensures

-- The parts listed are those of the definition; their outcomes decide, and their nodes are fewer than the term's.
pub flattened-join_surplus-requires-clause-b_bound : goal.flattened-join_surplus-requires-clause-b_bound
flattened-join_surplus-requires-clause-b_bound t c =
    let B = rw (← c.args.self.now.pair.one_table) at c.list-2.ensures in
    omega (arith, parted-few B, c.requires.f_bound.2)

pub flattened-compare-requires : goal.flattened-compare-requires
flattened-compare-requires t c =
    let m = c.args.self.now.pair in
    let T = m.left.table.now in
    let A = c.list.ensures in
    let B = rw (← m.one_table) at c.list-2.ensures in
    let J = joined-offsets T A B c.join_surplus.ensures in
    let d = c.decreases in
    let x = elements-sum (signature_of T) c.args.f m.left.words.now c.args.i c.args.n in
    let y = elements-sum (signature_of T) c.args.f m.right.words.now c.args.j c.args.n in
    (omega (arith, d, high-nodes T A B J, x, y), (offsets-own _ _ _ _ _ A.high, offsets-own _ _ _ _ _ J))

pub flattened-returns-in-Above : goal.flattened-returns-in-Above
flattened-returns-in-Above t c =
    let m = c.args.self.now.pair in
    let T = m.left.table.now in
    let A = c.list.ensures in
    let B = rw (← m.one_table) at c.list-2.ensures in
    let J = joined-offsets T A B c.join_surplus.ensures in
    parts-four T A B J c.in-Above.ensures refl

pub flattened-returns-in-Neither : goal.flattened-returns-in-Neither
flattened-returns-in-Neither t c =
    let m = c.args.self.now.pair in
    let T = m.left.table.now in
    let A = c.list.ensures in
    let B = rw (← m.one_table) at c.list-2.ensures in
    let J = joined-offsets T A B c.join_surplus.ensures in
    parts_none T A B J c.in-Neither.ensures refl

pub flattened-returns-then-right-left : goal.flattened-returns-then-right-left
flattened-returns-then-right-left t c =
    let m = c.args.self.now.pair in
    let T = m.left.table.now in
    let A = c.list.ensures in
    let B = rw (← m.one_table) at c.list-2.ensures in
    let J = joined-offsets T A B c.join_surplus.ensures in
    parts-five T A B J c.in-Equivalent.ensures refl c.if-right-left.true

pub flattened-returns-then-left-right : goal.flattened-returns-then-left-right
flattened-returns-then-left-right t c =
    let m = c.args.self.now.pair in
    let T = m.left.table.now in
    let A = c.list.ensures in
    let B = rw (← m.one_table) at c.list-2.ensures in
    let J = joined-offsets T A B c.join_surplus.ensures in
    parts-fewer T A B J c.in-Equivalent.ensures refl c.if-left-right.true

pub flattened-compare-requires-2 : goal.flattened-compare-requires-2
flattened-compare-requires-2 t c =
    let m = c.args.self.now.pair in
    let T = m.left.table.now in
    let A = c.list.ensures in
    let B = rw (← m.one_table) at c.list-2.ensures in
    let J = joined-offsets T A B c.join_surplus.ensures in
    let d = c.decreases in
    let x = elements-sum (signature_of T) c.args.f m.left.words.now c.args.i c.args.n in
    let y = elements-sum (signature_of T) c.args.f m.right.words.now c.args.j c.args.n in
    (omega (arith, d, low-nodes T A B, x, y), (offsets-own _ _ _ _ _ A.low, offsets-own _ _ _ _ _ B.low))

pub flattened-returns-in-Above-compare : goal.flattened-returns-in-Above-compare
flattened-returns-in-Above-compare t c =
    let m = c.args.self.now.pair in
    let T = m.left.table.now in
    let A = c.list.ensures in
    let B = rw (← m.one_table) at c.list-2.ensures in
    let J = joined-offsets T A B c.join_surplus.ensures in
    parts-six T A B J c.in-Equivalent.ensures refl c.if-right-left.false c.if-left-right.false c.in-Above-compare.ensures refl

pub flattened-returns-in_default : goal.flattened-returns-in_default
flattened-returns-in_default t c =
    let m = c.args.self.now.pair in
    let T = m.left.table.now in
    let A = c.list.ensures in
    let B = rw (← m.one_table) at c.list-2.ensures in
    let J = joined-offsets T A B c.join_surplus.ensures in
    parts-level T A B J c.in-Equivalent.ensures refl c.if-right-left.false c.if-left-right.false c.compare-2.ensures
    (not-above c.compare-2.result c.in_default.not-Above)

-- What is ahead of the two rows answers for the whole, and has no more nodes.
pub rows_greater-greater-requires : goal.rows_greater-greater-requires
rows_greater-greater-requires t c =
    let S = (scale c.args.self.now).sides in
    let d = c.decreases in
    let g = c.loop.invariant in
    let p = next-total S.left g.here (omega arith) refl in
    let q = next-total S.right g.there (omega arith) refl in
    (omega (arith, d, g.nodes, p, q), (omega arith, omega arith))

pub rows_greater-returns-then-not-equivalent_by_keys : goal.rows_greater-returns-then-not-equivalent_by_keys
rows_greater-returns-then-not-equivalent_by_keys t c =
    let S = (scale c.args.self.now).sides in
    let g = c.loop.invariant in
    lex-here S g.here g.there (omega arith) (sym c.if-not-equivalent_by_keys.true ∙ c.equivalent_by_keys.ensures)
    c.greater.ensures ∙ g.same

pub rows_greater-loop-preserved : goal.rows_greater-loop-preserved
rows_greater-loop-preserved t c =
    let S = (scale c.args.self.now).sides in
    let l = c.loop in
    let g = l.invariant in
    let x = c.size_at-at.ensures.0 in
    let y = c.size_at-to.ensures.0 in
    let e = sym c.if-not-equivalent_by_keys.false ∙ c.equivalent_by_keys.ensures in
    let u = next-total S.left g.here (omega arith) x in
    let v = next-total S.right g.there (omega arith) y in
    let z : c.args.n - l.counter - 1 ≡ c.args.n - (l.counter + 1) = omega arith in
    rw (← z) (record {
      here = step-next S.left g.here (omega arith) x;
      there = step-next S.right g.there (omega arith) y;
      same = lex-more S g.here g.there (omega arith) e x y refl ∙ g.same;
      nodes = omega (arith, g.nodes);
    })

pub rows_greater-returns : goal.rows_greater-returns
rows_greater-returns t c =
    let g = c.loop.invariant in
    lex-none (scale c.args.self.now).sides g.here g.there (omega arith) ∙ g.same
