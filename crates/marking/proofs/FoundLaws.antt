-- What the walk over a rule file found, by its answer.
--     rules-below, decreasing-below        the counts
--     front_below, end_below               a front of what was stored
--     marks-within, margins-within         there are as many marks and margins as rules
--     fronts-same                          of both
--     length-kept, stored-fronts           they are those of the file's rules
use Rattle.std.specs.Prelude.{Result, Ok}
use mathlib.Core.List.{List}
use mathlib.Core.Path.{◌≡◌, sym, ap, ◌∙◌}
use Prim.Native.Nat.{ℕ, ◌+◌, ◌≤◌, ◌<◌}
use native.Mathlib.Omega.{arith}
use lib.IntN.{ℤ}
use lib.ListN.{length, take, length-map}
use lib.Seq.{length-sets}
use borrow.Author.Rules.{rules}
use Rattle.multisets.proofs.ListLaws.{front}
use Rattle.format.specs.Reading.{Reading}
use Rattle.format.specs.Format.{RuleFile, system_of}
use Rattle.operations.specs.Marking.{marks_of, margins_of}
use Rattle.answers.specs.Answer.{Fault}
use Rattle.marking.specs.declared.walk.Marked.{Marked}
use Rattle.marking.specs.Rule.{MarkedAs, WholeMarked}
use Rattle.marking.proofs.WalkLaws.{stored-front}

module _ (file : RuleFile) (rules decreasing : ℕ) (marks₀ marks : List ℕ) (margins₀ margins : List ℤ)
    (m : MarkedAs file rules decreasing marks₀ marks margins₀ margins) where
  pub length-kept : (length (marks_of (system_of file)) ≡ rules) × (length (margins_of (system_of file)) ≡ rules)
  length-kept =
      let n = length-map file.rules _ ∙ sym m.count in
      (length-map (system_of file).rules _ ∙ n, length-map (system_of file).rules _ ∙ n)

  -- The marks and the margins stand first.
  pub stored-fronts : 1023 ≤ length marks₀ → 1023 ≤ length margins₀ →
      (take rules marks ≡ marks_of (system_of file)) × (take rules margins ≡ margins_of (system_of file))
  stored-fronts room room' = (
    stored-front _ marks₀ marks rules length-kept.0 (omega (arith, m.few)) m.marks,
    stored-front _ margins₀ margins rules length-kept.1 (omega (arith, m.few)) m.margins,
  )

module _ (reading : Reading RuleFile) (x : Result Marked Fault) (marks₀ marks : List ℕ) (margins₀ margins : List ℤ)
    (found : WholeMarked reading x marks₀ marks margins₀ margins) (m : Marked) (e : x ≡ Ok m) where
  pub rules-below : (k : ℕ) → 1024 ≤ k → m.rules < k
  rules-below k h = let (file, end, read, parts) = rw e at found in omega (arith, parts.few)

  pub decreasing-below : (k : ℕ) → 1024 ≤ k → m.decreasing < k
  decreasing-below k h = let (file, end, read, parts) = rw e at found in omega (arith, parts.few, parts.most)

  pub marks-within : 1023 ≤ length marks₀ → m.rules ≤ length marks
  marks-within room =
      let (file, end, read, parts) = rw e at found in
      let n : length marks ≡ length marks₀ = ap length parts.marks ∙ simp length-sets in
      omega (arith, parts.few)

  pub margins-within : 1023 ≤ length margins₀ → m.rules ≤ length margins
  margins-within room =
      let (file, end, read, parts) = rw e at found in
      let n : length margins ≡ length margins₀ = ap length parts.margins ∙ simp length-sets in
      omega (arith, parts.few)

  pub front_below : (k : ℕ) → 1024 ≤ k → 1023 ≤ length marks₀ → length (take m.rules marks) < k
  front_below k h room = omega (arith, rules-below k h, front m.rules marks (marks-within room))

  pub end_below : (at k : ℕ) → at + 1024 ≤ k → 1023 ≤ length marks₀ → at + length (take m.rules marks) < k
  end_below at k h room = omega (arith, front_below 1024 (omega arith) room)

  pub fronts-same : 1023 ≤ length marks₀ → 1023 ≤ length margins₀ →
      length (take m.rules margins) ≡ length (take m.rules marks)
  fronts-same room room' = sym (front m.rules margins (margins-within room')) ∙ front m.rules marks (marks-within room)

pub ruleset walked = (
  rules,
  front,
  rules-below,
  decreasing-below,
  marks-within,
  margins-within,
  front_below,
  end_below,
  fronts-same,
)
