-- What putting a rule file's marks and margins on a page gives back, the reply and the page afterwards, for every
-- input; and the text that the program `board` prints.
-- Renders: 02, order 5: "Marks go up on a page", "Error 19: page (input 1) shorter than 65 times N, after the book."
use Rattle.std.specs.Prelude.{List, map, ℕ, ◌*◌, length, leb}
use Rattle.terms.specs.Signature.{Signature}
use Rattle.terms.specs.Order.{mark, margin}
use Rattle.terms.specs.Rewriting.{System, Rule}
use Rattle.format.specs.Errors.{page_too_short}
use Rattle.format.specs.Reading.{Reading}
use Rattle.format.specs.Reading.Reading.{got, fault}
use Rattle.format.specs.Format.{RuleFile, system_of}
use Rattle.format.specs.Files.{read_bytes}
use Rattle.operations.specs.Replies.{Reply, Written, Outcome, ◌>>=◌, ◌>>◌, from_input, demand, outcome}
use Rattle.operations.specs.Replies.Reply.{accepted}
use Rattle.operations.specs.Page.{Entry, page}
use Rattle.operations.specs.Report.{refusal_line}

abbrev pub entry_of : Signature → Rule → Entry
entry_of σ r = record { mark = mark σ r.left r.right; margin = margin σ r.left r.right }

abbrev pub entries_of : System → List Entry
entries_of R = map (entry_of R.signature) R.rules

-- 64 characters and byte 10.
abbrev pub line_bytes : ℕ
line_bytes = 65

unfoldable pub paged : List ℕ → List ℕ → Outcome ℕ
paged bytes output =
    let reply : Reply (Written ℕ) = do
      file ← from_input 0 (read_bytes bytes)
      demand (leb (line_bytes * length file.rules) (length output)) page_too_short 1
      accepted (record { value = line_bytes * length file.rules; front = page (entries_of (system_of file)) })
    in
    outcome reply output

-- The page, or the line that `marker` prints for a refused book.
abbrev pub board_of : Reading RuleFile → List ℕ
board_of (got file at) = page (entries_of (system_of file))
board_of (fault code offset) = refusal_line code offset

unfoldable pub board : List ℕ → List ℕ
board bytes = board_of (read_bytes bytes)
