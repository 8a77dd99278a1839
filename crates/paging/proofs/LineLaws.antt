-- The lines of a page, as they are put and as they follow from what the walk over the rules stored.
--     last-mark              the mark that is none of the others
--     words_same             the words of a mark, by another that equals it
--     pushed-parts           one line, part by part
--     entry-at, entry-fits   the entry of a mark and a margin
--     lines_next, lines-all  the loop over the lines
use mathlib.Core.List.{List, [], ◌∷◌, ◌++◌, append_assoc, append-nil, Memᴰ}
use mathlib.Core.Path.{◌≡◌, refl, sym, ap, ◌∙◌}
use Prim.Native.Nat.{ℕ, suc, zero, ◌+◌, ◌≤◌, ◌<◌}
use native.Mathlib.Nat.{zero-add}
use native.Mathlib.Omega.{arith}
use lib.IntN.{ℤ, pos}
use lib.ListN.{length, get_or, take}
use lib.Seq.{length-take-le, take-suc, take_all}
use Rattle.operations.specs.Text.{decimal, signed_decimal, spaces, right_set, left_set}
use Rattle.operations.specs.Page.{Entry, Fits, AllFit, words_for, columns, page_line, lines_from, page}
use Rattle.text.specs.declared.Text.{Text}
use Rattle.text.specs.Put.{Pushed}
use Rattle.text.proofs.TextLaws.{pushed-append}
use Rattle.paging.specs.Entries.{entries}

-- None of the marks 1 to k.
abbrev pub NoneOf : ℕ → ℕ → Type 0
NoneOf zero m = Unit {0}
NoneOf (suc k) m = NoneOf k m × (m ≡ suc k → ⊥)

above-none : (k m : ℕ) → 1 ≤ m → NoneOf k m → k < m
above-none zero m h n = h
above-none (suc k) m h n = omega (arith, above-none k m h n.0, n.1)

pub last-mark : (k m : ℕ) → 1 ≤ m → m ≤ suc k → NoneOf k m → m ≡ suc k
last-mark k m h l n = omega (arith, above-none k m h n)

pub words_same : (mark k : ℕ) (text : List ℕ) → mark ≡ k → text ≡ words_for k → text ≡ words_for mark
words_same mark k text e p = rw e p

pub pushed-parts : {a b c d f g h : Text} (n : ℕ) (e : Entry) → Pushed a (right_set (columns 1 4) (decimal n)) b →
    Pushed b (spaces (columns 5 5)) c → Pushed c (left_set (columns 6 45) (words_for e.mark)) d →
    Pushed d (spaces (columns 46 46)) f → Pushed f (right_set (columns 47 58) (signed_decimal e.margin)) g →
    Pushed g (spaces (columns 59 64) ++ (10 ∷ [])) h → Pushed a (page_line n e) h
unfolding page_line
pushed-parts n e p q w s m t =
    pushed-append p (pushed-append q (pushed-append w (pushed-append s (pushed-append m t))))

-- ---- entries

length-entries : (ms : List ℕ) (ds : List ℤ) → length ds ≡ length ms → length (entries ms ds) ≡ length ms
length-entries [] ds h = refl
length-entries (m ∷ ms) [] h = absurd (omega arith)
length-entries (m ∷ ms) (d ∷ ds) h = ap suc (length-entries ms ds (omega arith))

-- What stands past the end of a list.
abbrev blank : Entry
blank = record { mark = 0; margin = pos 0 }

abbrev pub entry_at : List ℕ → List ℤ → ℕ → Entry
entry_at ms ds i = record { mark = get_or ms i 0; margin = get_or ds i (pos 0) }

entry-at : (ms : List ℕ) (ds : List ℤ) (i : ℕ) → i < length ms → length ds ≡ length ms →
    get_or (entries ms ds) i blank ≡ entry_at ms ds i
entry-at [] ds i l h = absurd (omega arith)
entry-at (m ∷ ms) [] i l h = absurd (omega arith)
entry-at (m ∷ ms) (d ∷ ds) zero l h = refl
entry-at (m ∷ ms) (d ∷ ds) (suc i) l h = entry-at ms ds i (omega arith) (omega arith)

member-at : (es : List Entry) (i : ℕ) → i < length es → Memᴰ (get_or es i blank) es
member-at [] i l = absurd (omega arith)
member-at (e ∷ es) zero l = Memᴰ.head refl
member-at (e ∷ es) (suc i) l = Memᴰ.tail (member-at es i (omega arith))

module _ (ms : List ℕ) (ds : List ℤ) (same : length ds ≡ length ms) (fit : AllFit (entries ms ds)) where
  pub entry-fits : (i : ℕ) → i < length ms → Fits (entry_at ms ds i)
  entry-fits i l =
      rw (← entry-at ms ds i l same)
      (fit _ (member-at (entries ms ds) i (omega (arith, length-entries ms ds same))))

-- ---- the loop

lines_snoc : (n : ℕ) (es : List Entry) (e : Entry) →
    lines_from n (es ++ (e ∷ [])) ≡ lines_from n es ++ page_line (length es + n) e
lines_snoc n [] e = rw zero-add (append-nil (page_line n e))
lines_snoc n (f ∷ es) e =
    let k : length es + suc n ≡ suc (length es) + n = omega arith in
    ap (λ (l : List ℕ). page_line n f ++ l) (lines_snoc (suc n) es e ∙ rw k)
    ∙ sym (append_assoc (page_line n f) (lines_from (suc n) es) (page_line (suc (length es) + n) e))

module _ (ms : List ℕ) (ds : List ℤ) (same : length ds ≡ length ms) where
  pub lines_next : {a b c : Text} (i number : ℕ) (e : Entry) → i < length ms → number ≡ i → e ≡ entry_at ms ds i →
      Pushed a (page (take i (entries ms ds))) b → Pushed b (page_line number e) c →
      Pushed a (page (take (i + 1) (entries ms ds))) c
  lines_next i number e h n d p t =
      let es = entries ms ds in
      let long : length es ≡ length ms = length-entries ms ds same in
      let j : i + 1 ≡ suc i = omega arith in
      let z : length (take i es) + 0 ≡ i = omega (arith, length-take-le i es (omega arith)) in
      let s : take (suc i) es ≡ take i es ++ (e ∷ []) =
      take-suc es i blank (omega arith) ∙ rw (entry-at ms ds i h same, ← d) in
      let all : page (take (suc i) es) ≡ page (take i es) ++ page_line i e =
      ap page s ∙ lines_snoc 0 (take i es) e ∙ rw z in
      rw (j, all) (pushed-append p (rw n at t))

  pub lines-all : (i : ℕ) → length ms ≤ i → page (take i (entries ms ds)) ≡ page (entries ms ds)
  lines-all i h = rw (take_all i (entries ms ds) (omega (arith, length-entries ms ds same)))
