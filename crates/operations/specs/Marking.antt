-- What marking the rules of a rule file gives back, the reply and the marks afterwards, for every input.
-- Renders: 01, "Replies and refusals": "Marking (book, marks). The book, then 12", its reply, and "One mark byte a rule
-- is written, the rest unchanged."; 02, order 8, of mark 11: "It counts as falling".
use Rattle.std.specs.Prelude.{List, map, ℕ, ℤ, length, leb}
use Rattle.multisets.specs.Multiset.{choose}
use Rattle.terms.specs.Marks.{is_decreasing}
use Rattle.terms.specs.Order.{mark, margin}
use Rattle.terms.specs.Rewriting.{System, Rule}
use Rattle.format.specs.Errors.{marks_too_short}
use Rattle.format.specs.Format.{system_of}
use Rattle.format.specs.Files.{read_bytes}
use Rattle.operations.specs.declared.Summary.{Summary}
use Rattle.operations.specs.Score.{score_of}
use Rattle.operations.specs.Replies.{Reply, Written, Outcome, ◌>>=◌, ◌>>◌, from_input, demand, outcome}
use Rattle.operations.specs.Replies.Reply.{accepted}

abbrev pub marks_of : System → List ℕ
marks_of R = map (λ (r : Rule). mark R.signature r.left r.right) R.rules

abbrev pub margins_of : System → List ℤ
margins_of R = map (λ (r : Rule). margin R.signature r.left r.right) R.rules

-- The count of the falling rules. 01: of marks 1 to 6.
abbrev pub decreasing_count : List ℕ → ℕ
decreasing_count marks = length (choose is_decreasing marks)

-- 01: N, the count of the falling rules, the score.
abbrev pub summary_of : List ℕ → Summary
summary_of marks =
    let decreasing = decreasing_count marks in
    record { rules = length marks; decreasing = decreasing; score = score_of decreasing (length marks) }

unfoldable pub marked : List ℕ → List ℕ → Outcome Summary
marked bytes marks =
    let reply : Reply (Written Summary) = do
      file ← from_input 0 (read_bytes bytes)
      demand (leb (length file.rules) (length marks)) marks_too_short 1
      accepted (record { value = summary_of (marks_of (system_of file)); front = marks_of (system_of file) })
    in
    outcome reply marks
