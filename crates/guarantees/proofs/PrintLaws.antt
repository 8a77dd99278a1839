-- The characters of a page can be printed.
--     printed-append, printed-spaces, digits-printed, signed-printed, words-printed     the parts of a line
--     line-even                                                                         a line
use mathlib.Core.List.{List, [], ◌∷◌, ◌++◌, append_assoc, Memᴰ}
use mathlib.Core.Path.{◌≡◌, refl, sym, ap}
use mathlib.Core.Bool.{Bool, true, ◌&&◌, and-eq-true_iff as both}
use Prim.Native.Nat.{ℕ, suc, zero, ◌+◌, ◌-◌, ◌/◌, ◌%◌, ◌^◌, ◌≤◌, ◌<◌}
use native.Mathlib.Omega.{arith}
use lib.Dec.{leb}
use lib.IntN.{ℤ, pos, negsuc}
use lib.ListN.{length, length-append}
use borrow.Author.Tests.{lt-ltb, le-ltb, leb-true}
use Rattle.multisets.proofs.Relations.{by_order}
use Rattle.operations.specs.Text.{digits, decimal, signed_decimal, spaces, right_set, left_set}
use Rattle.operations.specs.Page.{Entry, Fits, mark_words, words_for, columns, page_line}
use Rattle.operations.proofs.PageLaws.{all_marks, all-each, length-line}
use Rattle.guarantees.specs.Pages.{IsLine}

abbrev Printed : List ℕ → Type 0
Printed [] = Unit {0}
Printed (c ∷ text) = ((32 ≤ c) × (c ≤ 126)) × Printed text

printed-member : (text : List ℕ) → Printed text → (c : ℕ) → Memᴰ c text → (32 ≤ c) × (c ≤ 126)
printed-member [] _ c x3 = elim x3 [ ]
printed-member (a ∷ text) (h, k) c (Memᴰ.head e) = rw e h
printed-member (a ∷ text) (h, k) c (Memᴰ.tail m) = printed-member text k c m

printed-append : (s t : List ℕ) → Printed s → Printed t → Printed (s ++ t)
printed-append [] t h k = k
printed-append (c ∷ s) t (h, l) k = (h, printed-append s t l k)

printed-spaces : (n : ℕ) → Printed (spaces n)
printed-spaces zero = tt
printed-spaces (suc n) = ((omega arith, omega arith), printed-spaces n)

digits-printed : (k n : ℕ) → Printed (digits k n)
unfolding digits
digits-printed zero n = tt
digits-printed (suc k) n =
    by_order n 10 (λ s. rw (lt-ltb n 10 s) ((omega arith, omega arith), tt))
    λ s. rw (le-ltb n 10 s)
    (printed-append (digits k (n / 10)) ((48 + n % 10) ∷ []) (digits-printed k (n / 10))
    ((omega arith, omega arith), tt))

signed-printed : (d : ℤ) → Printed (signed_decimal d)
signed-printed (pos n) = digits-printed (suc n) n
signed-printed (negsuc n) = ((omega arith, omega arith), digits-printed (suc (suc n)) (suc n))

-- ---- the words, by one test

abbrev is_printed : List ℕ → Bool
is_printed [] = true
is_printed (c ∷ text) = (leb 32 c && leb c 126) && is_printed text

is_printed→Printed : (text : List ℕ) → is_printed text ≡ true → Printed text
is_printed→Printed [] h = tt
is_printed→Printed (c ∷ text) h =
    let (a, b) = (both (leb 32 c && leb c 126) (is_printed text)).0 h in
    let (l, m) = (both (leb 32 c) (leb c 126)).0 a in
    ((leb-true 32 c l, leb-true c 126 m), is_printed→Printed text b)

abbrev has_printed_words : ℕ → Bool
has_printed_words m = is_printed (words_for m)

all-printed : all_marks has_printed_words (length mark_words) ≡ true
all-printed = refl

words-printed : (e : Entry) → Fits e → Printed (words_for e.mark)
words-printed e h =
    is_printed→Printed (words_for e.mark)
    (all-each has_printed_words (length mark_words) e.mark all-printed h.least h.most)

-- ---- a line

abbrev characters : ℕ → Entry → List ℕ
characters n e =
    right_set (columns 1 4) (decimal n) ++ (spaces (columns 5 5) ++
    (left_set (columns 6 45) (words_for e.mark) ++ (spaces (columns 46 46) ++
    (right_set (columns 47 58) (signed_decimal e.margin) ++ spaces (columns 59 64)))))

printed-right : (width : ℕ) (text : List ℕ) → Printed text → Printed (right_set width text)
printed-right width text h =
    printed-append (spaces (width - length text)) text (printed-spaces (width - length text)) h

printed-left : (width : ℕ) (text : List ℕ) → Printed text → Printed (left_set width text)
printed-left width text h =
    printed-append text (spaces (width - length text)) h (printed-spaces (width - length text))

characters-printed : (n : ℕ) (e : Entry) → Fits e → Printed (characters n e)
characters-printed n e h =
    let words = left_set (columns 6 45) (words_for e.mark) in
    let margin = right_set (columns 47 58) (signed_decimal e.margin) in
    let rest = margin ++ spaces (columns 59 64) in
    printed-append (right_set (columns 1 4) (decimal n)) (spaces (columns 5 5) ++ (words ++ (spaces 1 ++ rest)))
    (printed-right (columns 1 4) (decimal n) (digits-printed (suc n) n))
    (printed-append (spaces (columns 5 5)) (words ++ (spaces 1 ++ rest)) (printed-spaces (columns 5 5))
    (printed-append words (spaces 1 ++ rest) (printed-left (columns 6 45) (words_for e.mark) (words-printed e h))
    (printed-append (spaces (columns 46 46)) rest (printed-spaces (columns 46 46))
    (printed-append margin (spaces (columns 59 64))
    (printed-right (columns 47 58) (signed_decimal e.margin) (signed-printed e.margin))
    (printed-spaces (columns 59 64))))))

line-ended : (n : ℕ) (e : Entry) → page_line n e ≡ characters n e ++ (10 ∷ [])
unfolding page_line
line-ended n e = sym (simp append_assoc)

pub line-even : (n : ℕ) (e : Entry) → n < 10 ^ 4 → Fits e → IsLine (page_line n e)
line-even n e l h =
    let d = line-ended n e in
    record {
      characters = characters n e;
      count = omega (arith, ap length d, length-append (characters n e) (10 ∷ []), length-line n e l h);
      printed = printed-member (characters n e) (characters-printed n e h);
      ended = d;
    }
