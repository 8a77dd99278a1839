-- Rows after a front, the symbols that they begin with, and the walk over those symbols.
--     prefixed-none, prefixed-append, prefixed-headed    rows after a front
--     prefixed-nothing                                   with no front
--     Next, next-is, next-least, next-end, next_here, next-over      the next symbol, and the search for it
--     get_or-before, get_or-in                               the words before what is stored, and those that are
--     put-row, put-more                                  a row stored at once, and word by word
use mathlib.Core.List.{List, [], ◌∷◌, ◌++◌, append_assoc, flatten}
use mathlib.Core.Path.{◌≡◌, refl, sym, ap, ◌∙◌}
use mathlib.Core.Bool.{true, false}
use Prim.Native.Nat.{ℕ, suc, zero, ◌+◌, ◌-◌, ◌≤◌, ◌<◌}
use native.Mathlib.Omega.{arith}
use lib.Dec.{eqb}
use lib.ListN.{length, take, drop, set, get_or, length-set}
use Rattle.std.proofs.Common.{drop-drop}
use lib.Seq.{sets, sets-eq, take-suc, length-take-le, get_or-set_same, get_or-set_other}
use borrow.Author.Tests.{eqb-true, eqb-false, eq-eqb, ne_eqb}
use Rattle.multisets.proofs.Relations.{by_test}
use Rattle.multisets.proofs.ListLaws.{sets-append}
use Rattle.terms.specs.Signature.{Signature, symbol_of}
use Rattle.terms.specs.Enumeration.{over_numbers, ground_rows}
use Rattle.terms.proofs.EnumerationLaws.{headed}
use Rattle.enumerating.specs.Counts.{row_count}
use Rattle.enumerating.specs.Rows.{prefixed, next_from, count_of}

-- ---- rows after a front

pub prefixed-none : (p : List ℕ) → prefixed p [] ≡ []
unfolding prefixed
prefixed-none p = refl

pub prefixed-append : (p : List ℕ) (l m : List (List ℕ)) → prefixed p (l ++ m) ≡ prefixed p l ++ prefixed p m
unfolding prefixed
prefixed-append p [] m = refl
prefixed-append p (r ∷ l) m =
    ap (λ (x : List ℕ). p ++ (r ++ x)) (prefixed-append p l m)
    ∙ sym (append_assoc p (r ++ prefixed p l) (prefixed p m) ∙ ap (λ (x : List ℕ). p ++ x) (append_assoc r _ _))

pub prefixed-headed : (p : List ℕ) (f : ℕ) (l : List (List ℕ)) →
    prefixed p (headed f l) ≡ prefixed (p ++ (f ∷ [])) l
unfolding prefixed
prefixed-headed p f [] = refl
prefixed-headed p f (r ∷ l) =
    ap (λ (x : List ℕ). p ++ (f ∷ (r ++ x))) (prefixed-headed p f l)
    ∙ sym (append_assoc p (f ∷ []) (r ++ prefixed (p ++ (f ∷ [])) l))

pub prefixed-nothing : (l : List (List ℕ)) → prefixed [] l ≡ flatten l
unfolding prefixed flatten
prefixed-nothing [] = refl
prefixed-nothing (r ∷ l) = ap (λ (x : List ℕ). r ++ x) (prefixed-nothing l)

-- ---- the next symbol

module _ (σ : Signature) (nodes others : ℕ) where
  -- The rows after a symbol, and those of n symbols from f on.
  abbrev pub after : ℕ → List (List ℕ)
  after f = ground_rows σ nodes ((symbol_of σ f).arity + others)

  abbrev pub rows_from : ℕ → ℕ → List (List ℕ)
  rows_from f n = over_numbers (λ (g : ℕ). headed g (after g)) f n

  -- The next symbol, n or fewer numbers on.
  pub record Next (f n r : ℕ) : Type 0 where
    pub least : f ≤ r
    pub within : r ≤ f + n
    pub alive : r < f + n → 0 < length (after r)
    pub same : rows_from f n ≡ rows_from r (f + n - r)

  dead : (l : List (List ℕ)) → eqb (length l) 0 ≡ true → l ≡ []
  dead [] e = refl
  dead (r ∷ l) e = absurd (omega (arith, eqb-true (length (r ∷ l)) 0 e))

  pub next-is : (f n : ℕ) → Next f n (next_from σ nodes others f n)
  unfolding next_from
  next-is f zero =
      let e : f + 0 - f ≡ 0 = omega arith in
      record { least = omega arith; within = omega arith; alive = λ h. absurd (omega arith); same = rw e }
  next-is f (suc n) =
      by_test (eqb (length (after f)) 0) (λ e. rw e (over e (next-is (suc f) n))) λ e. rw e (here e)
    where
      over : eqb (length (after f)) 0 ≡ true → Next (suc f) n (next_from σ nodes others (suc f) n) →
          Next f (suc n) (next_from σ nodes others (suc f) n)
      over e r =
          let k = next_from σ nodes others (suc f) n in
          let d : f + suc n - k ≡ suc f + n - k = omega arith in
          record {
            least = omega (arith, r.least);
            within = omega (arith, r.within);
            alive = λ h. r.alive (omega arith);
            same = rw (dead (after f) e, d) r.same;
          }

      here : eqb (length (after f)) 0 ≡ false → Next f (suc n) f
      here e =
          let d : f + suc n - f ≡ suc n = omega arith in
          record {
            least = omega arith;
            within = omega arith;
            alive = λ h. positive (eqb-false _ _ e);
            same = rw d;
          }
        where
          positive : (length (after f) ≡ 0 → ⊥) → 0 < length (after f)
          positive d = omega arith

  pub next-least : (f n r : ℕ) → r ≡ next_from σ nodes others f n → f ≤ r
  next-least f n r e = omega (arith, (next-is f n).least)

  -- ---- the search for it

  module _ (f : ℕ) where
    pub next-end : count_of σ ≤ f → next_from σ nodes others f (count_of σ - f) ≡ f
    unfolding next_from
    next-end h = let e : count_of σ - f ≡ 0 = omega arith in rw e

    module _ (h : f < count_of σ) (cell : ℕ) (c : cell ≡ row_count σ nodes ((symbol_of σ f).arity + others)) where
      pub next_here : 0 < cell → next_from σ nodes others f (count_of σ - f) ≡ f
      unfolding next_from row_count
      next_here p =
          let e : count_of σ - f ≡ suc (count_of σ - suc f) = omega arith in
          rw (e, ne_eqb (length (after f)) 0 (λ d. omega (arith, c)))

      pub next-over : cell ≡ 0 → next_from σ nodes others f (count_of σ - f)
          ≡ next_from σ nodes others (f + 1) (count_of σ - (f + 1))
      unfolding next_from row_count
      next-over p =
          let e : count_of σ - f ≡ suc (count_of σ - suc f) = omega arith in
          let d : f + 1 ≡ suc f = omega arith in
          let z : length (after f) ≡ 0 = omega (arith, c) in
          rw (e, d, eq-eqb (length (after f)) 0 z)

-- ---- storing a row

pub get_or-before : (l : List ℕ) (at : ℕ) (vs : List ℕ) (i : ℕ) → i < at → get_or (sets l at vs) i 0 ≡ get_or l i 0
get_or-before l at [] i h = refl
get_or-before l at (v ∷ vs) i h =
    get_or-before (set l at v) (suc at) vs i (omega arith) ∙ get_or-set_other l at i v 0 λ e. omega arith

pub get_or-in : (l : List ℕ) (at : ℕ) (vs : List ℕ) (i : ℕ) → i < length vs → at + length vs ≤ length l →
    get_or (sets l at vs) (at + i) 0 ≡ get_or vs i 0
get_or-in l at [] i h r = absurd (omega arith)
get_or-in l at (v ∷ vs) zero h r =
    let e : at + 0 ≡ at = omega arith in
    rw e (get_or-before (set l at v) (suc at) vs at (omega arith) ∙ get_or-set_same l at v 0 (omega arith))
get_or-in l at (v ∷ vs) (suc i) h r =
    let e : at + suc i ≡ suc at + i = omega arith in
    rw e (get_or-in (set l at v) (suc at) vs i (omega arith) (omega (arith, length-set l at v)))

pub put-row : (out row : List ℕ) (at n : ℕ) → at + length row ≤ length out → n ≡ length row →
    take at out ++ (row ++ drop n (drop at out)) ≡ sets out at row
put-row out row at n h e =
    ap (λ l. take at out ++ (row ++ l)) (drop-drop n at out ∙ ap (λ m. drop (at + m) out) e)
    ∙ sym (append_assoc (take at out) row (drop (at + length row) out)) ∙ sym (sets-eq row out at h)

pub put-more : (out₀ out row : List ℕ) (at i : ℕ) → out ≡ sets out₀ at (take i row) → i < length row →
    set out (at + i) (get_or row i 0) ≡ sets out₀ at (take (i + 1) row)
put-more out₀ out row at i e h =
    let d : i + 1 ≡ suc i = omega arith in
    let n : length (take i row) ≡ i = length-take-le i row (omega arith) in
    rw (e, d, take-suc row i 0 h, sets-append out₀ at (take i row) (get_or row i 0 ∷ []), n)
