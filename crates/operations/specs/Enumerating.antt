-- What counting and listing the ground terms of n nodes under a rule file give back, the reply and the output
-- afterwards, for every input.
-- Renders: 02, order 12: "List them one after another in the caller's words", "as a number up to 65,535 or "more"",
-- "22 n outside 1 to 7, after the book; 23 words (input 1) fewer than n times the number, or the number is "more",
-- after 22."
use mathlib.Core.List.{List, flatten}
use Rattle.std.specs.Prelude.{Bool, cond, ◌&&◌, ℕ, ◌*◌, length, leb, Option, Some, None}
use Rattle.terms.specs.Signature.{Signature}
use Rattle.terms.specs.Enumeration.{ground_terms}
use Rattle.format.specs.Errors.{size_out_of_range, no_room_for_terms}
use Rattle.format.specs.Files.{read_bytes}
use Rattle.operations.specs.Replies.{Reply, Written, Outcome, ◌>>=◌, ◌>>◌, from_input, demand, outcome}
use Rattle.operations.specs.Replies.Reply.{accepted}

-- The most nodes, and the most terms that are counted.
abbrev pub max_size : ℕ
max_size = 7

abbrev pub max_terms : ℕ
max_terms = 65535

abbrev pub is_size : ℕ → Bool
is_size n = leb 1 n && leb n max_size

-- 02: a number up to 65,535, or "more".
abbrev pub term_count : ℕ → Option ℕ
term_count number = cond (leb number max_terms) (Some number) None

-- Counting, under a signature.
unfoldable pub counted_terms : Signature → ℕ → Reply (Option ℕ)
counted_terms σ n = do
  demand (is_size n) size_out_of_range 0
  accepted (term_count (length (ground_terms σ n)))

-- 02: the book, then n.
unfoldable pub counted : List ℕ → ℕ → Reply (Option ℕ)
counted bytes n = do
  file ← from_input 0 (read_bytes bytes)
  counted_terms file.signature n

-- Listing, under a signature.
unfoldable pub listed_terms : Signature → List ℕ → ℕ → Reply (Written ℕ)
listed_terms σ words n =
    let terms = ground_terms σ n in
    do
      demand (is_size n) size_out_of_range 0
      demand (leb (length terms) max_terms) no_room_for_terms 1
      demand (leb (n * length terms) (length words)) no_room_for_terms 1
      accepted (record { value = n * length terms; front = flatten terms })

-- 02: the book, then n, then the room.
unfoldable pub listed : List ℕ → List ℕ → ℕ → Outcome ℕ
listed bytes words n =
    let reply : Reply (Written ℕ) = do
      file ← from_input 0 (read_bytes bytes)
      listed_terms file.signature words n
    in
    outcome reply words
