-- What converting a file of form 1 gives back, the reply and the output afterwards, for every input.
-- Renders: 02, order 4: "Stored ones go through a converter, which renumbers and changes no other bit but the form" and
-- "The converter reads as document 01 did, then gives 16 if its output is too short".
use Rattle.std.specs.Prelude.{List, ℕ, length, leb}
use Rattle.format.specs.Errors.{bytes_too_short}
use Rattle.format.specs.Layout.{first_form}
use Rattle.format.specs.Packing.{packed}
use Rattle.format.specs.Files.{read_bytes_in}
use Rattle.format.specs.Conversion.{converted_file}
use Rattle.operations.specs.Replies.{Reply, Written, Outcome, ◌>>=◌, ◌>>◌, from_input, demand, outcome}
use Rattle.operations.specs.Replies.Reply.{accepted}

-- The book is input 0, the output input 1; a converted book is as long as the book.
unfoldable pub converted : List ℕ → List ℕ → Outcome ℕ
converted bytes output =
    let reply : Reply (Written ℕ) = do
      file ← from_input 0 (read_bytes_in first_form bytes)
      demand (leb (length bytes) (length output)) bytes_too_short 1
      accepted (record { value = length bytes; front = packed (converted_file file) })
    in
    outcome reply output
