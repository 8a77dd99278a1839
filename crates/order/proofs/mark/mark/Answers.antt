-- The variables decide first, then the weights, then the roots; terms with different roots are not equivalent.
use native.Mathlib.Omega.{arith}
use mathlib.Core.List.{List}
use mathlib.Core.Bool.{Bool, true, cond}
use mathlib.Core.Path.{◌≡◌, sym, ◌∙◌}
use Prim.Native.Nat.{ℕ}
use lib.ListN.{get_or}
use Rattle.symbols.proofs.TableLaws.{few-at}
use Rattle.symbols.specs.Table.{signature_of}
use Rattle.extensions.specs.Compared.{weight_at, none_oftener_at, higher_mark, is_higher, root_at}
use Rattle.reader.specs.Promise.{Decoded}
use Rattle.terms.proofs.OftenerLaws.{oftener-none}
use Rattle.equivalence.proofs.AlikeLaws.{roots-differ}
use Rattle.weights.proofs.TotalLaws.{number-some, number-none}
use Rattle.extensions.proofs.RootLaws.{root-differing}
use Rattle.order.proofs.MarkLaws.{whole-seven, whole-one, whole-eight, whole-higher, whole-ten}
use Rattle.order.proofs.WholeLaws.{table-small, left-some, right-some, left-complete, right-complete}
use Rattle.order.proofs.mark.mark.Goals as goal

-- The mark by two roots that differ.
differing : {table s t : List ℕ} (S : Decoded table s t) → true ≡ none_oftener_at table s 0 t 0 →
    weight_at table s 0 ≡ weight_at table t 0 → (get_or s 0 0 ≡ get_or t 0 0 → ⊥) → {r : Bool} →
    r ≡ is_higher table (get_or s 0 0) (get_or t 0 0) → cond r (higher_mark (get_or t 0 0)) 0 ≡ root_at table s 0 t 0
differing {table} {s} {t} S none l d e =
    root-differing table s 0 t 0 (left-some S) (right-some S) S.symbols.admissible (few-at table (table-small S))
    (left-complete S) (right-complete S) none l d e

pub returns-then-is_some : goal.returns-then-is_some
returns-then-is_some c =
    let S = c.requires.decoded in
    let (A, B) = c.requires.totalled in
    let ones = c.args.weighing.now.stored.ones in
    let first = c.first_oftener.ensures.value (signature_of c.args.weighing.now.table.now) ones _ _ A.counted B.counted in
    whole-seven _ _ _ first (number-some _ c.first_oftener.ensures.below (sym c.is_some.ensures ∙ c.if-is_some.true))

pub returns-then-y-x : goal.returns-then-y-x
returns-then-y-x c =
    let S = c.requires.decoded in
    let (A, B) = c.requires.totalled in
    let ones = c.args.weighing.now.stored.ones in
    let first = c.first_oftener.ensures.value (signature_of c.args.weighing.now.table.now) ones _ _ A.counted B.counted in
    let none = oftener-none _ _ _ first (number-none _ (sym c.is_some.ensures ∙ c.if-is_some.false)) in
    whole-one _ _ _ none A.weight B.weight c.if-y-x.true

pub returns-then-x-y : goal.returns-then-x-y
returns-then-x-y c =
    let S = c.requires.decoded in
    let (A, B) = c.requires.totalled in
    let ones = c.args.weighing.now.stored.ones in
    let first = c.first_oftener.ensures.value (signature_of c.args.weighing.now.table.now) ones _ _ A.counted B.counted in
    let none = oftener-none _ _ _ first (number-none _ (sym c.is_some.ensures ∙ c.if-is_some.false)) in
    whole-eight _ _ _ none A.weight B.weight c.if-x-y.true

pub bounds-left-0 : goal.bounds-left-0
bounds-left-0 c =
    left-some c.requires.decoded

pub bounds-right-0 : goal.bounds-right-0
bounds-right-0 c =
    right-some c.requires.decoded

pub mark_level-requires : goal.mark_level-requires
mark_level-requires c =
    let S = c.requires.decoded in
    let (A, B) = c.requires.totalled in
    let ones = c.args.weighing.now.stored.ones in
    let first = c.first_oftener.ensures.value (signature_of c.args.weighing.now.table.now) ones _ _ A.counted B.counted in
    let none = oftener-none _ _ _ first (number-none _ (sym c.is_some.ensures ∙ c.if-is_some.false)) in
    (S, record { root = c.if-f-g.true; few = none; level = omega (arith, A.weight, B.weight) })

pub returns-then-higher : goal.returns-then-higher
returns-then-higher c =
    let S = c.requires.decoded in
    let (A, B) = c.requires.totalled in
    let ones = c.args.weighing.now.stored.ones in
    let first = c.first_oftener.ensures.value (signature_of c.args.weighing.now.table.now) ones _ _ A.counted B.counted in
    let none = oftener-none _ _ _ first (number-none _ (sym c.is_some.ensures ∙ c.if-is_some.false)) in
    let s = c.args.left.now.words.now in
    let t = c.args.right.now.words.now in
    let root = differing S none (omega (arith, c.if-y-x.false, c.if-x-y.false, A.weight, B.weight)) c.if-f-g.false
    (sym c.if-higher.true ∙ c.higher.ensures) in
    let differ = roots-differ _ s 0 t 0 (left-some S) (right-some S) c.if-f-g.false in
    whole-higher _ _ _ none A.weight B.weight (omega (arith, c.if-y-x.false, c.if-x-y.false)) (c.higher_mark.ensures ∙ root)
    (get_or t 0 0) c.higher_mark.ensures (sym differ)

pub returns : goal.returns
returns c =
    let S = c.requires.decoded in
    let (A, B) = c.requires.totalled in
    let ones = c.args.weighing.now.stored.ones in
    let first = c.first_oftener.ensures.value (signature_of c.args.weighing.now.table.now) ones _ _ A.counted B.counted in
    let none = oftener-none _ _ _ first (number-none _ (sym c.is_some.ensures ∙ c.if-is_some.false)) in
    let s = c.args.left.now.words.now in
    let t = c.args.right.now.words.now in
    let zero = differing S none (omega (arith, c.if-y-x.false, c.if-x-y.false, A.weight, B.weight)) c.if-f-g.false
    (sym c.if-higher.false ∙ c.higher.ensures) in
    let differ = roots-differ _ s 0 t 0 (left-some S) (right-some S) c.if-f-g.false in
    whole-ten _ _ _ none A.weight B.weight (omega (arith, c.if-y-x.false, c.if-x-y.false)) zero (omega arith) (sym differ)
