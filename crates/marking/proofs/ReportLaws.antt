-- The text that `marker` prints: of a refusal, and of marked rules.
use Rattle.std.specs.Prelude.{Result, Ok, Err}
use mathlib.Core.List.{List, [], ◌∷◌, ◌++◌}
use mathlib.Core.Path.{◌≡◌}
use Prim.Native.Nat.{ℕ, ◌≤◌}
use lib.IntN.{ℤ}
use lib.ListN.{length, take}
use lib.Seq.{sets}
use Rattle.format.specs.Errors.{number_of}
use Rattle.format.specs.Format.{system_of}
use Rattle.format.specs.Files.{read_bytes}
use Rattle.operations.specs.Text.{ascii, decimal, line}
use Rattle.operations.specs.Score.{score_of}
use Rattle.operations.specs.Marking.{marks_of, margins_of}
use Rattle.operations.specs.Report.{rule_lines, summary_lines, report}
use Rattle.text.specs.Put.{Put}
use Rattle.text.proofs.TextLaws.{put-append, put_first}
use Rattle.answers.specs.Answer.{Fault}
use Rattle.marking.specs.declared.walk.Marked.{Marked}
use Rattle.marking.specs.Rule.{WholeMarked}
use Rattle.marking.proofs.FoundLaws.{length-kept, stored-fronts}

module _ (bytes l : List ℕ) (x : Result Marked Fault) (marks₀ marks : List ℕ) (margins₀ margins : List ℤ)
    (all : WholeMarked (read_bytes bytes) x marks₀ marks margins₀ margins) where
  pub report-refusal : (f : Fault) → x ≡ Err f → (r : ℕ) (out : List ℕ) →
      r ≡ length (line (ascii "refusal" ∷ decimal (number_of f.code) ∷ decimal f.offset ∷ [])) →
      out ≡ sets l 0 (line (ascii "refusal" ∷ decimal (number_of f.code) ∷ decimal f.offset ∷ [])) →
      (r ≡ length (report bytes)) × (out ≡ sets l 0 (report bytes))
  unfolding report
  report-refusal f e r out n w = let read = rw e at all in rw read (n, w)

  pub report-marks : (m : Marked) → x ≡ Ok m → 1023 ≤ length marks₀ →
      1023 ≤ length margins₀ → (start : ℕ) (l₁ : List ℕ) (stop : ℕ) (l₂ : List ℕ) (r : ℕ) (out : List ℕ) →
      Put l 0 (line (ascii "rules" ∷ decimal m.rules ∷ [])) start l₁ →
      Put l₁ start (rule_lines 0 (take m.rules marks) (take m.rules margins)) stop l₂ →
      Put l₂ stop
      (summary_lines (record { rules = m.rules; decreasing = m.decreasing; score = score_of m.decreasing m.rules }))
      r out → (r ≡ length (report bytes)) × (out ≡ sets l 0 (report bytes))
  unfolding report
  report-marks m e room room' start l₁ stop l₂ r out p q v =
      let (file, end, read, parts) = rw e at all in
      let (kept, kept') = stored-fronts file m.rules m.decreasing marks₀ marks margins₀ margins parts room room' in
      let n = (length-kept file m.rules m.decreasing marks₀ marks margins₀ margins parts).0 in
      let head = line (ascii "rules" ∷ decimal m.rules ∷ []) in
      let body = rule_lines 0 (marks_of (system_of file)) (margins_of (system_of file)) in
      let tail =
      summary_lines (record { rules = m.rules; decreasing = m.decreasing; score = score_of m.decreasing m.rules }) in
      let lines : Put l₁ start body stop l₂ = rw (kept, kept') at q in
      rw (read, n, ← parts.falling)
      (put_first l (head ++ (body ++ tail)) r out
      (put-append l 0 head (body ++ tail) start l₁ r out p (put-append l₁ start body tail stop l₂ r out lines v)))
