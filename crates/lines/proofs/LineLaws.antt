-- The lines that `marker` prints.
--     lines_next      one rule's line more
--     pushed-verdict  the last two lines
use mathlib.Core.List.{List, [], ◌∷◌, ◌++◌, append_assoc, append-nil}
use mathlib.Core.Bool.{cond}
use mathlib.Core.Path.{◌≡◌, sym, ap, ◌∙◌}
use Prim.Native.Nat.{ℕ, suc, ◌+◌, ◌<◌}
use Prim.Native.String.{String}
use native.Mathlib.Nat.{zero-add}
use native.Mathlib.Omega.{arith}
use lib.Dec.{eqb}
use lib.IntN.{ℤ, pos}
use lib.ListN.{length, get_or, take}
use lib.Seq.{length-take-le, take-suc}
use Rattle.operations.specs.Text.{ascii, decimal, signed_decimal, line}
use Rattle.operations.specs.Score.{score_of}
use Rattle.operations.specs.Report.{rule_lines, summary_lines}
use Rattle.text.specs.declared.Text.{Text}
use Rattle.text.specs.Put.{Pushed}
use Rattle.text.proofs.TextLaws.{pushed-append}

-- ---- the lines of rules

abbrev rule_line : ℕ → ℕ → ℤ → List ℕ
rule_line n m d = line (decimal n ∷ decimal m ∷ signed_decimal d ∷ [])

lines_snoc : (n : ℕ) (marks : List ℕ) (margins : List ℤ) (m : ℕ) (d : ℤ) → length margins ≡ length marks →
    rule_lines n (marks ++ (m ∷ [])) (margins ++ (d ∷ [])) ≡ rule_lines n marks margins ++ rule_line (length marks + n) m d
lines_snoc n [] [] m d h = rw zero-add (append-nil (rule_line n m d))
lines_snoc n [] (e ∷ margins) m d h = absurd (omega arith)
lines_snoc n (a ∷ marks) [] m d h = absurd (omega arith)
lines_snoc n (a ∷ marks) (e ∷ margins) m d h =
    let k : length marks + suc n ≡ suc (length marks) + n = omega arith in
    ap (λ (l : List ℕ). rule_line n a e ++ l) (lines_snoc (suc n) marks margins m d (omega arith) ∙ rw k)
    ∙ sym (append_assoc (rule_line n a e) (rule_lines (suc n) marks margins) (rule_line (suc (length marks) + n) m d))

-- The lines of the first i rules, and one more.
pub lines_next : {a b c : Text} (i : ℕ) (marks : List ℕ) (margins : List ℤ) → i < length marks →
    length margins ≡ length marks → Pushed a (rule_lines 0 (take i marks) (take i margins)) b →
    Pushed b (rule_line i (get_or marks i 0) (get_or margins i (pos 0))) c →
    Pushed a (rule_lines 0 (take (i + 1) marks) (take (i + 1) margins)) c
lines_next i marks margins h k p q =
    let j : i + 1 ≡ suc i = omega arith in
    let n : length (take i marks) ≡ i = length-take-le i marks (omega arith) in
    let n' : length (take i margins) ≡ length (take i marks) = length-take-le i margins (omega arith) ∙ sym n in
    let z : length (take i marks) + 0 ≡ i = omega arith in
    rw (
      j,
      take-suc marks i 0 h,
      take-suc margins i (pos 0) (omega arith),
      lines_snoc 0 (take i marks) (take i margins) (get_or marks i 0) (get_or margins i (pos 0)) n',
      z,
    )
    (pushed-append p q)

-- ---- the last two lines

pub pushed-verdict : {a b c : Text} (rules decreasing score : ℕ) (word : String) →
    score ≡ score_of decreasing rules → cond (eqb decreasing rules) "accepted" "returned" ≡ word →
    Pushed a (line (ascii "score" ∷ decimal score ∷ [])) b → Pushed b (line (ascii word ∷ [])) c →
    Pushed a (summary_lines (record { rules = rules; decreasing = decreasing; score = score_of decreasing rules })) c
pushed-verdict rules decreasing score word e w p q = rw (← e, w) (pushed-append p q)
