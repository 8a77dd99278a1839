-- What the code that reads a side and a rule has to show at each of its ends.
--     fewer-allowed                        one node fewer is allowed
--     terms-none, terms-many, terms-fault, terms-before     reading terms
--     side-read                            a side, from the words where it was read
--     side-within, side-front              its words stand first there, by the answer: the ruleset sides
--     side-stored                          a side that is stored
--     within_wider, left-fault, right-stored    a rule
use Rattle.std.specs.Prelude.{Result, Ok, Err}
use borrow.Author.Rules.{rules}
use Rattle.multisets.proofs.ListLaws.{front}
use mathlib.Core.Path.{◌≡◌, refl, sym, ◌∙◌}
use mathlib.Core.List.{List}
use Prim.Native.Nat.{ℕ, suc, ◌+◌, ◌-◌, ◌≤◌, ◌<◌}
use native.Mathlib.Nat.{add-zero}
use native.Mathlib.Omega.{arith}
use lib.ListN.{length, length-append, set, take, drop}
use lib.Seq.{sets, sets-eq, take-append_seam}
use Rattle.multisets.proofs.ListLaws.{sets-append}
use Rattle.terms.specs.Signature.{Signature}
use Rattle.terms.specs.Words.{first_variable}
use Rattle.terms.specs.FirstUse.{unused_after, unused_after_all}
use Rattle.format.specs.Errors.{too_many_nodes}
use Rattle.format.specs.Layout.{max_nodes}
use Rattle.format.specs.Reading.{Reading, Source}
use Rattle.format.specs.Reading.Reading.{got, fault}
use Rattle.format.specs.Format.{forest_reader, nodes_reader, side_reader, rule_reader}
use Rattle.format.specs.Statements.{Unscaled}
use Rattle.format.proofs.LightLaws.{unscaled-side}
use Rattle.format.proofs.ForestLaws.{before, nothing-owed, none_allowed}
use Rattle.format.specs.Errors.{number_of}
use Rattle.answers.specs.Answer.{Answer, Within, reading, Fault}
use Rattle.bits.specs.declared.BitCursor.{BitCursor}
use Rattle.bits.specs.Cursor.{told}
use Rattle.sides.specs.Side.{ForestRead, SideRead, SideStored, WordsRead, side_words}

-- One node fewer is allowed after a node.
pub fewer-allowed : (count t : ℕ) → count ≤ max_nodes → (count ≡ max_nodes → ⊥) → max_nodes - count ≡ t →
    (max_nodes - (count + 1) < t) × (count + 1 ≤ max_nodes) × (max_nodes - (count + 1) ≡ max_nodes - count - 1)
fewer-allowed count t h n e = omega arith

-- ---- reading terms

module _ (source : Source) (unused : ℕ) (σ : Signature) (count n at : ℕ) (words : List ℕ) (r : Answer) (after : List ℕ)
    (lowest : ℕ) where
  abbrev whole : Reading (List ℕ)
  whole = forest_reader source unused σ (max_nodes - count) n at

  pub terms-none : n ≡ 0 → count ≤ max_nodes → reading r ≡ got count at → after ≡ words → lowest ≡ first_variable + unused →
      ForestRead unused count words r after lowest whole
  terms-none z short e f u =
      rw (z, nothing-owed source unused σ (max_nodes - count) at) (rw add-zero e, omega arith, f, u)

  pub terms-fault : (code offset : ℕ) → whole ≡ fault code offset → reading r ≡ fault code offset →
      ForestRead unused count words r after lowest whole
  terms-fault code offset e f = rw e f

  pub terms-many : 0 < n → count ≡ max_nodes → reading r ≡ fault too_many_nodes at →
      ForestRead unused count words r after lowest whole
  terms-many h full e =
      let z : max_nodes - count ≡ 0 = omega arith in
      terms-fault too_many_nodes at (rw z (none_allowed source unused σ n at h)) e

  after-word : (w : ℕ) (x : Reading (List ℕ)) →
      ForestRead (unused_after unused w) (count + 1) (set words count w) r after lowest x →
      ForestRead unused count words r after lowest (before w x)
  after-word w (got nodes next) (e, l, f, u) =
      let c : count + 1 + length nodes ≡ count + suc (length nodes) = omega arith in
      let s : count + 1 ≡ suc count = omega arith in
      (rw c at e, omega arith, rw s at f, u)
  after-word w (fault code offset) h = h

  pub terms-before : (w m next : ℕ) →
      whole ≡ before w (forest_reader source (unused_after unused w) σ (max_nodes - count - 1) m next) →
      (owed : ℕ) → owed ≡ m →
      ForestRead (unused_after unused w) (count + 1) (set words count w) r after lowest
      (forest_reader source (unused_after unused w) σ (max_nodes - (count + 1)) owed next) →
      ForestRead unused count words r after lowest whole
  terms-before w m next e owed o h =
      let c : max_nodes - (count + 1) ≡ max_nodes - count - 1 = omega arith in
      rw e (after-word w (forest_reader source (unused_after unused w) σ (max_nodes - count - 1) m next)
      (rw (c, o) at h))

pub side-read : (unused : ℕ) (words after : List ℕ) (lowest used : ℕ) (r : Answer) (x : Reading (List ℕ)) →
    length words ≡ max_nodes → used ≡ lowest - first_variable → ForestRead unused 0 words r after lowest x →
    SideRead unused x r after used
side-read unused words after lowest used (Ok (count, next)) (got nodes end) long k (e, l, f, u) =
    let c : 0 + length nodes ≡ count = cc in
    let n : end ≡ next = cc in
    let front : take (length nodes) after ≡ nodes =
    rw (f, sets-eq nodes words 0 (omega arith)) (take-append_seam nodes (drop (0 + length nodes) words)) in
    let long : count ≡ length nodes = omega arith in
    rw (long, n, front) (refl, omega arith)
side-read unused words after lowest used (Err f) (got nodes end) long k (e, l, g, u) =
    let z : ◌≡◌ {A = ℕ} 0 1 = cc in absurd (omega arith)
side-read unused words after lowest used (Ok (count, next)) (fault code offset) long k e =
    let z : ◌≡◌ {A = ℕ} 0 1 = cc in absurd (omega arith)
side-read unused words after lowest used (Err f) (fault code offset) long k e =
    let c : code ≡ number_of f.code = cc in
    let o : offset ≡ f.offset = cc in
    rw (c, o)

-- ---- storing

-- A side that was read stands at the front of the words.
module _ (x : Result (ℕ × BitCursor) Fault) (value : ℕ) (cursor : BitCursor) (e : x ≡ Ok (value, cursor)) (last : ℕ)
    (within : Within max_nodes last (told x)) (words : List ℕ) (long : length words ≡ max_nodes) where
  pub side-within : value ≤ length words
  side-within = omega (arith, (rw e at within).0)

  pub side-front : value ≡ length (take value words)
  side-front = front value words side-within

pub ruleset sides = (rules, side-within, side-front)

pub side-stored : (unused : ℕ) (reading : Reading (List ℕ)) (index : ℕ) (words nodes after : List ℕ)
    (end next used : ℕ) → (reading ≡ got nodes next) × (used ≡ unused_after_all unused nodes) →
    end ≡ index + length nodes → (index + length nodes ≤ length words → after ≡ sets words index nodes) →
    SideStored unused reading index words (Ok (end, next)) after used
side-stored unused reading index words nodes after end next used (read, u) long stored =
    (nodes, read, long, λ room. stored (omega arith), u)

-- ---- a rule

pub within_wider : (last wider limit : ℕ) → last ≤ wider → (r : Answer) → Within last limit r → Within wider limit r
within_wider last wider limit h (Ok (end, next)) (e, n) = (omega arith, n)
within_wider last wider limit h (Err f) w = tt

module _ (source : Source) (unused : ℕ) (σ : Signature) (unscaled : Unscaled σ) (at index : ℕ) (words : List ℕ) where
  light : (n from : ℕ) → side_reader source max_nodes n σ from ≡ nodes_reader source max_nodes n σ from
  light n from = unscaled-side σ unscaled source max_nodes n from (omega arith)

  pub left-fault : (f : Fault) (after : List ℕ) →
      nodes_reader source max_nodes unused σ at ≡ fault (number_of f.code) f.offset →
      WordsRead side_words (rule_reader source unused σ at) index words (Err f) after
  unfolding rule_reader
  left-fault f after e = rw (light unused at, e)

  pub right-stored : (middle next : ℕ) (between : List ℕ) (used : ℕ) →
      SideStored unused (nodes_reader source max_nodes unused σ at) index words (Ok (middle, next)) between used →
      length between ≡ length words → (r : Answer) (after : List ℕ) (last : ℕ) →
      SideStored used (nodes_reader source max_nodes used σ next) middle between r after last →
      WordsRead side_words (rule_reader source unused σ at) index words r after
  unfolding rule_reader
  right-stored middle next between used (left, read, length-left, stored, u) same (Ok (end, next')) after last
      (right, read', length-right, stored', u') = (
        record { left = left; right = right },
        rw (light unused at, read, light (unused_after_all unused left) next, ← u, read'),
        simp length-append (omega arith),
        λ room. stored' (omega arith) ∙
            rw (length-left, stored (omega arith)) (sym (sets-append words index left right)),
      )
  right-stored middle next between used (left, read, length-left, stored, u) same (Err f) after last read' =
      rw (light unused at, read, light (unused_after_all unused left) next, ← u, read')
