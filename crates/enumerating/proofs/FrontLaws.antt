-- Rows after another front, column by column.
--     column-next      the column of the next word
--     length-prefixed  rows after fronts that are as long are as long
--     refronted        the same rows after two fronts differ in these alone
--     copy_more        one word more
use mathlib.Core.List.{List, [], ◌∷◌, ◌++◌, Memᴰ}
use mathlib.Core.Path.{◌≡◌, refl, sym, ap, ◌∙◌}
use mathlib.Core.Bool.{cond}
use Prim.Native.Nat.{ℕ, ◌+◌, ◌-◌, ◌%◌, ◌≤◌, ◌<◌}
use native.Mathlib.Nat.{mod-lt, mod-eq_of_lt, mod_self, mod-add-mod, mod-eq-sub-mod}
use native.Mathlib.Omega.{arith}
use lib.Dec.{eqb, leb}
use lib.ListN.{length, take, set, get_or, length-append, get_or-append}
use lib.Seq.{sets, length-take-le, get_or-append-add, get_or-take}
use borrow.Author.Tests.{eqb-true, eqb-false, le-leb, lt-leb}
use Rattle.multisets.proofs.Relations.{by_test, by_order}
use Rattle.enumerating.specs.Rows.{prefixed, Refronted}
use Rattle.enumerating.proofs.RowLaws.{get_or-before, put-more}

pub column-next : (size i column next : ℕ) → 0 < size → column ≡ i % size →
    next ≡ cond (eqb (column + 1) size) 0 (column + 1) → next ≡ (i + 1) % size
column-next size i column next h e n =
    let step : (column + 1) % size ≡ (i + 1) % size = rw e (mod-add-mod i size 1) in
    let below : column < size = rw e (mod-lt i h) in
    by_test (eqb (column + 1) size)
    (λ t. n ∙ rw t (sym (mod_self size) ∙ ap (λ k. k % size) (sym (eqb-true (column + 1) size t)) ∙ step))
    λ t. let d = eqb-false (column + 1) size t in
    let l : column + 1 < size = omega arith in
    n ∙ rw t (sym (mod-eq_of_lt l) ∙ step)

pub length-prefixed : (p q : List ℕ) (rows : List (List ℕ)) → length p ≡ length q →
    length (prefixed p rows) ≡ length (prefixed q rows)
unfolding prefixed
length-prefixed p q [] e = refl
length-prefixed p q (r ∷ rows) e =
    simp length-append (omega (arith, length-prefixed p q rows e))

-- A word past two lists.
past : (a b l : List ℕ) (i : ℕ) → get_or (a ++ (b ++ l)) (length a + (length b + i)) 0 ≡ get_or l i 0
past a b l i = get_or-append-add a (b ++ l) (length b + i) 0 ∙ get_or-append-add b l i 0

-- A word of the second of three lists.
middle : (a b l : List ℕ) (i : ℕ) → i < length b → get_or (a ++ (b ++ l)) (length a + i) 0 ≡ get_or b i 0
middle a b l i h = get_or-append-add a (b ++ l) i 0 ∙ get_or-append b l 0 i h

-- The word in a column of a row after a front, from a word of the same row after another one.
abbrev pub column_word : List ℕ → ℕ → ℕ → ℕ → ℕ
column_word row front column other = cond (leb front column) other (get_or row column 0)

module _ (row : List ℕ) (k size : ℕ) (within : k ≤ length row) (q : List ℕ) (same : length q ≡ k) (some : 0 < size)
  where
    abbrev p : List ℕ
    p = take k row

    module _ (r x y : List ℕ) (i : ℕ) (e : k + length r ≡ size) where
      -- A word of the first row.
      first : i < size → get_or (p ++ (r ++ x)) i 0 ≡ column_word row k i (get_or (q ++ (r ++ y)) i 0)
      first j =
          let long : length p ≡ k = length-take-le k row within in
          by_order i k
          (λ n. rw (lt-leb k i n) (get_or-append p (r ++ x) 0 i (omega arith) ∙ get_or-take k row i 0 n))
          λ n. let a : length p + (i - k) ≡ i = omega arith in
          let b : length q + (i - k) ≡ i = omega arith in
          rw (le-leb k i n)
          (rw a at (middle p r x (i - k) (omega arith)) ∙ sym (rw b at (middle q r y (i - k) (omega arith))))

      -- A word of those after it.
      later : size ≤ i → (c : ℕ) → get_or x (i - size) 0 ≡ column_word row k c (get_or y (i - size) 0) →
          get_or (p ++ (r ++ x)) i 0 ≡ column_word row k c (get_or (q ++ (r ++ y)) i 0)
      later j c h =
          let long : length p ≡ k = length-take-le k row within in
          let a : length p + (length r + (i - size)) ≡ i = omega arith in
          let b : length q + (length r + (i - size)) ≡ i = omega arith in
          rw a at (past p r x (i - size)) ∙ h
          ∙ ap (column_word row k c) (sym (rw b at (past q r y (i - size))))

    refront : (rows : List (List ℕ)) → ((r : List ℕ) → Memᴰ r rows → k + length r ≡ size) → (i : ℕ) →
        i < length (prefixed p rows) →
        get_or (prefixed p rows) i 0 ≡ column_word row k (i % size) (get_or (prefixed q rows) i 0)
    unfolding prefixed
    refront [] h i l = absurd (omega arith)
    refront (r ∷ rows) h i l =
        let e : k + length r ≡ size = h r (Memᴰ.head refl) in
        let long : length p ≡ k = length-take-le k row within in
        by_order i size
        (λ j. let m : i % size ≡ i = mod-eq_of_lt j in rw m (first r (prefixed p rows) (prefixed q rows) i e j))
        λ j. let m : i % size ≡ (i - size) % size = mod-eq-sub-mod j in
        rw m (later r (prefixed p rows) (prefixed q rows) i e j ((i - size) % size)
        (refront rows (λ s n. h s (Memᴰ.tail n)) (i - size)
        (omega (arith, l, length-append p (r ++ prefixed p rows), length-append r (prefixed p rows)))))

    -- The rows after a front, from where they stand after another one.
    pub refronted : (rows : List (List ℕ)) → ((r : List ℕ) → Memᴰ r rows → k + length r ≡ size) →
        (out : List ℕ) (from : ℕ) →
        ((i : ℕ) → i < length (prefixed q rows) → get_or out (from + i) 0 ≡ get_or (prefixed q rows) i 0) →
        Refronted row k size out from (length (prefixed q rows)) (prefixed p rows)
    refronted rows h out from o =
        let long : length p ≡ k = length-take-le k row within in
        record {
          long = length-prefixed p q rows (long ∙ sym same);
          each = λ i l. refront rows h i (omega (arith, length-prefixed p q rows (long ∙ sym same)))
              ∙ ap (column_word row k (i % size)) (sym (o i l));
        }

pub copy_more : (row out₀ out words : List ℕ) (front size from to count i column word : ℕ) → from + count ≤ to →
    i < count → column ≡ i % size → word ≡ column_word row front column (get_or out (from + i) 0) →
    Refronted row front size out₀ from count words → out ≡ sets out₀ to (take i words) →
    set out (to + i) word ≡ sets out₀ to (take (i + 1) words)
copy_more row out₀ out words front size from to count i column word b l c w r o =
    let same : get_or out (from + i) 0 ≡ get_or out₀ (from + i) 0 =
    rw o (get_or-before out₀ to (take i words) (from + i) (omega arith)) in
    let e : word ≡ get_or words i 0 = w ∙ rw (same, c) (sym (r.each i l)) in
    rw e (put-more out₀ out words to i o (omega (arith, r.long)))
