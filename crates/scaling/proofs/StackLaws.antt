-- A stack of products, and coefficients as the digits of one number.
--     listed-push, listed-first     a number put on the stack, and the one on top
--     row_pushed                    the digits of a row are pushed as the coefficients are
use mathlib.Core.List.{List, [], ◌∷◌, ◌++◌}
use mathlib.Core.Path.{◌≡◌, refl, sym, ap, ap₂, ◌∙◌}
use Prim.Native.Nat.{ℕ, suc, zero, ◌+◌, ◌-◌, ◌*◌, ◌/◌, ◌%◌, ◌≤◌, ◌<◌}
use native.Mathlib.Omega.{arith}
use lib.ListN.{length, get_or, set, drop, length-set}
use lib.Seq.{get_or-set_same, get_or-set_other}
use Rattle.terms.specs.Signature.{Signature, symbol_of, coefficients_of}
use Rattle.symbols.specs.Table.{digits}
use Rattle.scaling.specs.declared.rows.NodeRow.{NodeRow}
use Rattle.scaling.specs.Scaled.{cut, pushed, push_row, two_more, listed, step, row_in, NodeRows}

listed-set : (stack : List ℕ) (n i a : ℕ) → n ≤ i → listed (set stack i a) n ≡ listed stack n
unfolding listed
listed-set stack zero i a h = refl
listed-set stack (suc n) i a h =
    ap₂ ◌∷◌ (get_or-set_other stack i n a 0 (λ e. omega arith)) (listed-set stack n i a (omega arith))

pub listed-push : (stack : List ℕ) (top a : ℕ) → top < length stack →
    listed (set stack top a) (suc top) ≡ a ∷ listed stack top
unfolding listed
listed-push stack top a h =
    ap₂ ◌∷◌ (get_or-set_same stack top a 0 h) (listed-set stack top top a (omega arith))

pub listed-length : (stack : List ℕ) (n : ℕ) → length (listed stack n) ≡ n
unfolding listed
listed-length stack zero = refl
listed-length stack (suc n) = ap suc (listed-length stack n)

pushed-append : (m : ℕ) (cs ds ms : List ℕ) → pushed m (cs ++ ds) ms ≡ pushed m cs (pushed m ds ms)
pushed-append m [] ds ms = refl
pushed-append m (c ∷ cs) ds ms = ap (◌∷◌ (cut (m * c))) (pushed-append m cs ds ms)

pub row_pushed : (m n row : ℕ) (ms : List ℕ) → push_row m n row ms ≡ pushed m (digits n row) ms
unfolding push_row digits
row_pushed m zero row ms = refl
row_pushed m (suc n) row ms =
    row_pushed m n (row / 16) (cut (m * (row % 16)) ∷ ms)
    ∙ sym (pushed-append m (digits n (row / 16)) (row % 16 ∷ []) ms)

-- One more digit.
pub push-more : (m left row : ℕ) (stack : List ℕ) (end a : ℕ) → end < length stack → a ≡ cut (m * (row % 16)) →
    push_row m left (row / 16) (listed (set stack end a) (end + 1)) ≡ push_row m (suc left) row (listed stack end)
unfolding push_row
push-more m left row stack end a h e =
    let q : end + 1 ≡ suc end = omega arith in rw (q, listed-push stack end a h, e)

pub push-none : (m row left : ℕ) (ms : List ℕ) → left ≡ 0 → ms ≡ push_row m left row ms
unfolding push_row
push-none m row left ms e = rw e

-- The products for the two lowest digits are stored; those past the top do not matter.
module _ (m row : ℕ) (stack : List ℕ) (end : ℕ) (h : suc end < length stack) where
  abbrev last : ℕ
  last = cut (m * (row % 16))

  abbrev previous : ℕ
  previous = cut (m * (row / 16 % 16))

  one-stored : listed (set (set stack end last) (suc end) previous) (suc end) ≡ last ∷ listed stack end
  one-stored =
      listed-set (set stack end last) (suc end) (suc end) previous (omega arith)
      ∙ listed-push stack end last (omega arith)

  pub two-stored : listed (two_more m row stack end) (end + 2) ≡ previous ∷ last ∷ listed stack end
  two-stored =
      let e : end + 1 ≡ suc end = omega arith in
      let d : end + 2 ≡ suc (suc end) = omega arith in
      rw (e, d) (listed-push (set stack end last) (suc end) previous (rw length-set h)
      ∙ ap (◌∷◌ previous) (listed-push stack end last (omega arith)))

  pub few-stored : (count : ℕ) → count ≤ 2 →
      listed (two_more m row stack end) (end + count) ≡ push_row m count row (listed stack end)
  unfolding push_row
  few-stored zero l =
      let e : end + 0 ≡ end = omega arith in
      rw e (listed-set (set stack end last) end (end + 1) previous (omega arith)
      ∙ listed-set stack end end last (omega arith))
  few-stored (suc zero) l = let e : end + 1 ≡ suc end = omega arith in rw e one-stored
  few-stored (suc (suc zero)) l = two-stored
  few-stored (suc (suc (suc n))) l = absurd (omega arith)

  pub more-stored : (count : ℕ) → 2 < count →
      push_row m (count - 2) (row / 16 / 16) (listed (two_more m row stack end) (end + 2))
      ≡ push_row m count row (listed stack end)
  unfolding push_row
  more-stored (suc (suc n)) l = let e : suc (suc n) - 2 ≡ n = omega arith in rw (e, two-stored)
  more-stored zero l = absurd (omega arith)
  more-stored (suc zero) l = absurd (omega arith)

pub listed-first : (stack : List ℕ) (top : ℕ) → 0 < top →
    (get_or (listed stack top) 0 0 ≡ get_or stack (top - 1) 0) × (drop 1 (listed stack top) ≡ listed stack (top - 1))
unfolding listed
listed-first stack zero h = absurd (omega arith)
listed-first stack (suc n) h = let e : suc n - 1 ≡ n = omega arith in rw e (refl, refl)

-- One word more, by what is stored for it.
pub step_pushed : (σ : Signature) (rows : List NodeRow) → NodeRows σ rows → (word : ℕ) → word < 272 →
    (stack : List ℕ) (top : ℕ) →
    0 < top →
    push_row (get_or stack (top - 1) 0) ((row_in rows word).arity) ((row_in rows word).row)
    (listed stack (top - 1)) ≡
    step σ (listed stack top) word
step_pushed σ rows N word h stack top p =
    let (e, d) = listed-first stack top p in
    let m = get_or stack (top - 1) 0 in
    let ms = listed stack (top - 1) in
    rw (N.node word h).arity (row_pushed m (symbol_of σ word).arity ((row_in rows word).row) ms
    ∙ ap (λ (cs : List ℕ). pushed m cs ms) (N.node word h).row
    ∙ ap₂ (λ (x : ℕ) (l : List ℕ). pushed x (coefficients_of σ word) l) (sym e) (sym d))

module _ (σ : Signature) (rows : List NodeRow) (N : NodeRows σ rows) (word : ℕ) (h : word < 272) (stack : List ℕ) (top : ℕ)
    (p : 0 < top) (room : top < length stack) where
  abbrev factor : ℕ
  factor = get_or stack (top - 1) 0

  abbrev two : List ℕ
  two = two_more factor ((row_in rows word).row) stack (top - 1)

  -- Its arguments are two or fewer, and more.
  pub few-advanced : (row_in rows word).arity ≤ 2 →
      listed two (top - 1 + (row_in rows word).arity) ≡ step σ (listed stack top) word
  few-advanced l =
      few-stored factor ((row_in rows word).row) stack (top - 1) (omega arith) ((row_in rows word).arity) l
      ∙ step_pushed σ rows N word h stack top p

  pub more-advanced : {l : List ℕ} → 2 < (row_in rows word).arity →
      l ≡ push_row factor ((row_in rows word).arity - 2) ((row_in rows word).row / 16 / 16)
      (listed two (top - 1 + 2)) →
      l ≡ step σ (listed stack top) word
  more-advanced m e =
      e ∙ more-stored factor ((row_in rows word).row) stack (top - 1) (omega arith) ((row_in rows word).arity) m
      ∙ step_pushed σ rows N word h stack top p
