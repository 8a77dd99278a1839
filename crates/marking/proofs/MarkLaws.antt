-- What marking gives back, by what its bytes read as.
--     mark-fault, mark-short, mark-written     the ends of marking
use Rattle.std.specs.Prelude.{Result, Ok, Err}
use mathlib.Core.List.{List, ◌++◌}
use mathlib.Core.Path.{◌≡◌, refl, sym, ◌∙◌}
use Prim.Native.Nat.{ℕ, ◌≤◌, ◌<◌}
use native.Mathlib.Omega.{arith}
use lib.IntN.{ℤ}
use lib.ListN.{length, take, drop, length-map}
use borrow.Author.Tests.{le-leb, lt-leb}
use Rattle.format.specs.Errors.{number_of, marks_too_short}
use Rattle.format.specs.Format.{system_of}
use Rattle.format.specs.Files.{read_bytes}
use Rattle.operations.specs.Replies.{Error}
use Rattle.operations.specs.Replies.Reply.{accepted, refused}
use Rattle.operations.specs.Score.{score_of}
use Rattle.operations.specs.Marking.{marks_of, marked}
use Rattle.answers.specs.Answer.{Fault}
use Rattle.marking.specs.declared.walk.Marked.{Marked}
use Rattle.marking.specs.Rule.{WholeMarked}
use Rattle.marking.proofs.WalkLaws.{stored-front}

module _ (bytes marks : List ℕ) (x : Result Marked Fault) (before found : List ℕ) (margins₀ margins : List ℤ)
    (all : WholeMarked (read_bytes bytes) x before found margins₀ margins) where
  pub mark-fault : (f : Fault) → x ≡ Err f → (error : Error) →
      error ≡ record { code = number_of f.code; input = 0; offset = f.offset } →
      (refused error ≡ (marked bytes marks).reply) × (marks ≡ (marked bytes marks).output)
  unfolding marked
  mark-fault f e error d = let read = rw e at all in rw (read, d) (refl, refl)

  module _ (m : Marked) (e : x ≡ Ok m) where
    pub mark-short : length marks < m.rules →
        (refused (record { code = marks_too_short; input = 1; offset = 0 }) ≡ (marked bytes marks).reply)
        × (marks ≡ (marked bytes marks).output)
    unfolding marked
    mark-short h =
        let (file, end, read, parts) = rw e at all in
        let no = lt-leb (length file.rules) (length marks) (omega (arith, parts.count)) in
        rw (read, no) (refl, refl)

    pub mark-written : (score : ℕ) (front : List ℕ) → m.rules ≤ length marks → 1023 ≤ length before →
        score ≡ score_of m.decreasing m.rules → front ≡ take m.rules found →
        (accepted (record { rules = m.rules; decreasing = m.decreasing; score = score }) ≡ (marked bytes marks).reply)
        × (front ++ drop m.rules marks ≡ (marked bytes marks).output)
    unfolding marked
    mark-written score front h room q w =
        let (file, end, read, parts) = rw e at all in
        let ms = marks_of (system_of file) in
        let n : length ms ≡ m.rules =
        length-map (system_of file).rules _ ∙ length-map file.rules _ ∙ sym parts.count in
        let kept = stored-front ms before found m.rules n (omega (arith, parts.few)) parts.marks in
        let fits = le-leb (length file.rules) (length marks) (omega (arith, parts.count)) in
        (rw (read, fits, q, n, parts.falling), rw (read, fits, w, kept, n))
