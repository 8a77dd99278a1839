-- The text that the program `marker` prints for a rule file, as bytes.
-- Renders: 01, "Sample book and cases": "Lines: count; rule number, mark, margin; score; `accepted` or `returned`. Each
-- ends in byte 10. A refused book prints only one line, `refusal`, its number and place"; "The book is accepted if all
-- rules fall."
use Rattle.std.specs.Prelude.{List, [], ◌∷◌, ◌++◌, cond, ℕ, suc, eqb, ℤ}
use Prim.Native.String.{String}
use Rattle.terms.specs.Rewriting.{System}
use Rattle.operations.specs.Text.{ascii, decimal, signed_decimal, line}
use Rattle.format.specs.Reading.{Reading}
use Rattle.format.specs.Reading.Reading.{got, fault}
use Rattle.format.specs.Format.{RuleFile, system_of}
use Rattle.format.specs.Files.{read_bytes}
use Rattle.operations.specs.declared.Summary.{Summary}
use Rattle.operations.specs.Marking.{marks_of, margins_of, summary_of}

abbrev pub verdict : Summary → String
verdict s = cond (eqb s.decreasing s.rules) "accepted" "returned"

-- The lines of rules by their marks and margins, the first of them with that number.
abbrev pub rule_lines : ℕ → List ℕ → List ℤ → List ℕ
rule_lines n [] margins = []
rule_lines n (m ∷ marks) [] = []
rule_lines n (m ∷ marks) (d ∷ margins) =
    line (decimal n ∷ decimal m ∷ signed_decimal d ∷ []) ++ rule_lines (suc n) marks margins

-- The last two lines.
abbrev pub summary_lines : Summary → List ℕ
summary_lines s = line (ascii "score" ∷ decimal s.score ∷ []) ++ line (ascii (verdict s) ∷ [])

abbrev pub marks_text : System → List ℕ
marks_text R =
    let summary = summary_of (marks_of R) in
    line (ascii "rules" ∷ decimal summary.rules ∷ []) ++
    (rule_lines 0 (marks_of R) (margins_of R) ++ summary_lines summary)

abbrev pub refusal_line : ℕ → ℕ → List ℕ
refusal_line code offset = line (ascii "refusal" ∷ decimal code ∷ decimal offset ∷ [])

abbrev pub text_of : Reading RuleFile → List ℕ
text_of (got file at) = marks_text (system_of file)
text_of (fault code offset) = refusal_line code offset

unfoldable pub report : List ℕ → List ℕ
report bytes = text_of (read_bytes bytes)
