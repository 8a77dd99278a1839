-- Pages: their words, how long they are, and that they tell lists apart. What fits on them is in EntryLaws.
--     all-each                          a test of all marks, by computation
--     words-short, words-injective      the table of words, by such tests
--     length-line, length-page          64 characters and byte 10 a line
--     lines-injective                   lists with the same lines
use mathlib.Core.List.Memᴰ
use mathlib.Core.List.{List, [], ◌∷◌, ◌++◌}
use mathlib.Core.List.{tail-eq_of_cons-eq, append_cancel_left}
use mathlib.Core.Path.{◌≡◌, refl, sym, ap, ap₂, ◌∙◌}
use mathlib.Core.Bool.{Bool, true, cond, ◌&&◌, and-eq-true_iff as both}
use Prim.Native.Nat.{ℕ, suc, zero, ◌+◌, ◌*◌, ◌^◌, ◌≤◌, ◌<◌}
use native.Mathlib.Omega.{arith}
use lib.Dec.{eqb, leb}
use lib.IntN.{ℤ}
use lib.ListN.{length, take, drop, length-append}
use lib.Seq.{take_at, drop_at}
use borrow.Author.Tests.{leb-true, eqb-true}
use Rattle.multisets.proofs.Relations.{by_order}
use Rattle.terms.specs.Words.{words}
use Rattle.operations.specs.Text.{decimal, signed_decimal, spaces, right_set, left_set}
use Rattle.operations.specs.Page.{Entry, Fits, AllFit, mark_words, words_for, columns, page_line, lines_from, page}
use Rattle.operations.specs.Paging.{line_bytes}
use Rattle.operations.proofs.DecimalLaws.{decimal-few, spelled, right_set-injective}
use Rattle.operations.proofs.DecimalLaws.{length-right_set, length-left_set}

-- ---- the words

-- A test of the marks from 1 to n.
abbrev pub all_marks : (ℕ → Bool) → ℕ → Bool
all_marks p zero = true
all_marks p (suc n) = p (suc n) && all_marks p n

pub all-each : (p : ℕ → Bool) (n m : ℕ) → all_marks p n ≡ true → 1 ≤ m → m ≤ n → p m ≡ true
all-each p zero m a h l = absurd (omega arith)
all-each p (suc n) m a h l =
    by_order m (suc n) (λ s. all-each p n m ((both (p (suc n)) _).0 a).1 h (omega arith))
    λ s. let e : m ≡ suc n = omega arith in rw e ((both (p (suc n)) _).0 a).0

-- The words for a mark in their columns.
abbrev pub set_words : ℕ → List ℕ
set_words m = left_set (columns 6 45) (words_for m)

-- The mark, of those up to n, whose words in their columns spell that number; 0 where there is none.
abbrev mark_spelled : ℕ → ℕ → ℕ
mark_spelled zero k = 0
mark_spelled (suc n) k = cond (eqb (spelled 0 (set_words (suc n))) k) (suc n) (mark_spelled n k)

abbrev has_own_words : ℕ → Bool
has_own_words m = eqb (mark_spelled (length mark_words) (spelled 0 (set_words m))) m

abbrev has_short_words : ℕ → Bool
has_short_words m = leb (length (words_for m)) (columns 6 45)

all_own : all_marks has_own_words (length mark_words) ≡ true
all_own = refl

all_short : all_marks has_short_words (length mark_words) ≡ true
all_short = refl

pub words-short : (m : ℕ) → 1 ≤ m → m ≤ length mark_words → length (words_for m) ≤ columns 6 45
words-short m h l =
    leb-true (length (words_for m)) (columns 6 45) (all-each has_short_words (length mark_words) m all_short h l)

words-spelled : (m : ℕ) → 1 ≤ m → m ≤ length mark_words →
    mark_spelled (length mark_words) (spelled 0 (set_words m)) ≡ m
words-spelled m h l = eqb-true _ m (all-each has_own_words (length mark_words) m all_own h l)

pub words-injective : (e f : Entry) → Fits e → Fits f → set_words e.mark ≡ set_words f.mark → e.mark ≡ f.mark
words-injective e f h k d =
    sym (words-spelled e.mark h.least h.most)
    ∙ ap (λ (text : List ℕ). mark_spelled (length mark_words) (spelled 0 text)) d
    ∙ words-spelled f.mark k.least k.most

-- ---- lengths

-- A line after its number.
abbrev pub after_number : Entry → List ℕ
after_number e =
    spaces (columns 5 5) ++ (set_words e.mark ++ (spaces (columns 46 46) ++
    (right_set (columns 47 58) (signed_decimal e.margin) ++ (spaces (columns 59 64) ++ (10 ∷ [])))))

length-after : (e : Entry) → Fits e → length (after_number e) ≡ 61
length-after e h =
    let words = set_words e.mark in
    let margin = right_set (columns 47 58) (signed_decimal e.margin) in
    let end = spaces (columns 59 64) ++ (10 ∷ []) in
    omega (
      arith,
      length-append words (spaces (columns 46 46) ++ (margin ++ end)),
      length-append margin end,
      length-left_set (columns 6 45) (words_for e.mark) (words-short e.mark h.least h.most),
      length-right_set (columns 47 58) (signed_decimal e.margin) h.margin,
    )

pub length-line : (n : ℕ) (e : Entry) → n < 10 ^ 4 → Fits e → length (page_line n e) ≡ line_bytes
unfolding page_line
length-line n e l h =
    omega (
      arith,
      length-append (right_set (columns 1 4) (decimal n)) (after_number e),
      length-right_set (columns 1 4) (decimal n) (decimal-few 3 n l),
      length-after e h,
    )

lines-length : (n : ℕ) (es : List Entry) → n + length es ≤ 10 ^ 4 → AllFit es →
    length (lines_from n es) ≡ line_bytes * length es
lines-length n [] l h = refl
lines-length n (e ∷ es) l h =
    omega (
      arith,
      length-append (page_line n e) (lines_from (suc n) es),
      length-line n e (omega arith) (h e (Memᴰ.head refl)),
      lines-length (suc n) es (omega arith) (λ f m. h f (Memᴰ.tail m)),
    )

pub length-page : (es : List Entry) → length es ≤ 10 ^ 4 → AllFit es → length (page es) ≡ line_bytes * length es
length-page es l h = lines-length 0 es (omega arith) h

-- ---- pages told apart

append-split : (a b c d : List ℕ) → length a ≡ length c → a ++ b ≡ c ++ d → (a ≡ c) × (b ≡ d)
append-split a b c d n e = (
  sym (take_at a b (length a) refl) ∙ ap (take (length a)) e ∙ take_at c d (length a) (sym n),
  sym (drop_at a b (length a) refl) ∙ ap (drop (length a)) e ∙ drop_at c d (length a) (sym n),
)

after-injective : (e f : Entry) → Fits e → Fits f → after_number e ≡ after_number f → e ≡ f
after-injective e f h k d =
    let width = columns 47 58 in
    let short : (e : Entry) → Fits e → length (set_words e.mark) ≡ columns 6 45 =
    λ e h. length-left_set (columns 6 45) (words_for e.mark) (words-short e.mark h.least h.most) in
    let (words, rest) = append-split (set_words e.mark) _ (set_words f.mark) _ (short e h ∙ sym (short f k))
    (tail-eq_of_cons-eq d) in
    let (margins, end) = append-split (right_set width (signed_decimal e.margin)) _
    (right_set width (signed_decimal f.margin)) _
    (length-right_set width (signed_decimal e.margin) h.margin
    ∙ sym (length-right_set width (signed_decimal f.margin) k.margin))
    (tail-eq_of_cons-eq rest) in
    ap₂ (λ (m : ℕ) (d : ℤ). record { mark = m; margin = d }) (words-injective e f h k words)
    (right_set-injective width e.margin f.margin margins)

line-injective : (n : ℕ) (e f : Entry) (rest rest' : List ℕ) → Fits e → Fits f →
    page_line n e ++ rest ≡ page_line n f ++ rest' → (e ≡ f) × (rest ≡ rest')
unfolding page_line
line-injective n e f rest rest' h k d =
    let number = right_set (columns 1 4) (decimal n) in
    let same : length (page_line n e) ≡ length (page_line n f) =
    omega (
      arith,
      length-append number (after_number e),
      length-append number (after_number f),
      length-after e h,
      length-after f k,
    ) in
    let (line, others) = append-split (page_line n e) rest (page_line n f) rest' same d in
    (after-injective e f h k (append_cancel_left number (after_number e) (after_number f) line), others)

-- A page with a line is not empty.
no_line : (n : ℕ) (e : Entry) (es : List Entry) → lines_from n (e ∷ es) ≡ [] → ⊥
unfolding page_line
no_line n e es d =
    let number = right_set (columns 1 4) (decimal n) in
    let k = ap length d in
    let z : 0 < length (lines_from n (e ∷ es)) =
    omega (
      arith,
      length-append (page_line n e) (lines_from (suc n) es),
      length-append number (after_number e),
    ) in
    absurd (omega arith)

pub lines-injective : (n : ℕ) (es fs : List Entry) → AllFit es → AllFit fs → lines_from n es ≡ lines_from n fs → es ≡ fs
lines-injective n [] [] h k d = refl
lines-injective n [] (f ∷ fs) h k d = absurd (no_line n f fs (sym d))
lines-injective n (e ∷ es) [] h k d = absurd (no_line n e es d)
lines-injective n (e ∷ es) (f ∷ fs) h k d =
    let (first, rest) = line-injective n e f (lines_from (suc n) es) (lines_from (suc n) fs)
    (h e (Memᴰ.head refl)) (k f (Memᴰ.head refl)) d in
    ap₂ (λ (a : Entry) (l : List Entry). a ∷ l) first
    (lines-injective (suc n) es fs (λ a m. h a (Memᴰ.tail m)) (λ a m. k a (Memᴰ.tail m)) rest)
