-- Laws of `forest_reader`, over any source and signature.
--     nothing-owed, none_allowed                               its ends
--     node-fault, unknown-symbol, out-of-turn, variable-read, symbol-read    its step, by what the source gives
use mathlib.Core.Path.{◌≡◌, refl, ap, ◌∙◌}
use mathlib.Core.List.{List, [], ◌∷◌}
use mathlib.Core.Bool.{Bool, cond, ◌||◌}
use Prim.Native.Nat.{ℕ, suc, zero, ◌+◌, ◌-◌, ◌≤◌, ◌<◌}
use native.Mathlib.Nat.{zero-add}
use native.Mathlib.Omega.{arith}
use lib.ListN.{length}
use lib.Dec.{ltb, leb}
use borrow.Author.Tests.{lt-ltb, le-ltb, le-leb, lt-leb}
use Rattle.terms.specs.Signature.{Signature, symbol_of}
use Rattle.terms.specs.Words.{first_variable}
use Rattle.terms.specs.FirstUse.{unused_after}
use Rattle.format.specs.Errors.{no_such_symbol, too_many_nodes, variable_out_of_turn}
use Rattle.format.specs.Reading.{Reading, Reader, and_then, give, require, Node, Source}
use Rattle.format.specs.Reading.Reading.{got, fault}
use Rattle.format.specs.Format.{forest_reader}

-- How many terms a node calls for.
abbrev pub argument_count : Signature → ℕ → ℕ
argument_count σ w = cond (leb first_variable w) 0 (symbol_of σ w).arity

-- A variable, or a symbol of the signature.
abbrev pub known : Signature → ℕ → Bool
known σ w = leb first_variable w || ltb w (length σ.symbols)

-- A node before the words that a reading gives.
abbrev pub before : ℕ → Reading (List ℕ) → Reading (List ℕ)
before w r = and_then r (λ ws. give (w ∷ ws))

module _ (source : Source) (unused : ℕ) (σ : Signature) where
  pub nothing-owed : (a at : ℕ) → forest_reader source unused σ a 0 at ≡ got [] at
  unfolding forest_reader
  nothing-owed zero at = refl
  nothing-owed (suc a) at = refl

  pub none_allowed : (n at : ℕ) → 0 < n → forest_reader source unused σ 0 n at ≡ fault too_many_nodes at
  unfolding forest_reader
  none_allowed zero at h = absurd (omega arith)
  none_allowed (suc n) at h = refl

  -- ---- a node, then what it calls for and what is owed besides

  -- The terms that a node calls for and those owed besides.
  abbrev pub after_known : ℕ → ℕ → ℕ → Reader (List ℕ)
  after_known a n w next =
      before w (forest_reader source (unused_after unused w) σ a (argument_count σ w + n) next)

  -- The same, but a fault unless the node is known and in turn.
  abbrev after_node : ℕ → ℕ → Node → Reader (List ℕ)
  after_node a n v at =
      and_then (require (known σ v.word) no_such_symbol v.offset at)
      λ u mid. and_then (require (leb v.word (first_variable + unused)) variable_out_of_turn v.offset mid)
      λ u next. after_known a n v.word next

  step-at : (a n at : ℕ) → 0 < a → 0 < n →
      forest_reader source unused σ a n at ≡ and_then (source.node at) (after_node (a - 1) (n - 1))
  unfolding forest_reader
  step-at a n at ha hn =
      let ea : a ≡ suc (a - 1) = omega arith in
      let en : n ≡ suc (n - 1) = omega arith in
      ap (λ (x : ℕ). forest_reader source unused σ x n at) ea
      ∙ ap (λ (x : ℕ). forest_reader source unused σ (suc (a - 1)) x at) en

  -- ---- the step by what the source gives

  module _ (a n at : ℕ) (ha : 0 < a) (hn : 0 < n) where
    pub node-fault : (code offset : ℕ) → source.node at ≡ fault code offset →
        forest_reader source unused σ a n at ≡ fault code offset
    node-fault code offset e = step-at a n at ha hn ∙ rw e

    module _ (v : Node) (next : ℕ) (e : source.node at ≡ got v next) where
      pub unknown-symbol : v.word < first_variable → length σ.symbols ≤ v.word →
          forest_reader source unused σ a n at ≡ fault no_such_symbol v.offset
      unknown-symbol hv hs =
          step-at a n at ha hn ∙
          rw (e, lt-leb first_variable v.word hv, le-ltb v.word (length σ.symbols) hs)

      pub out-of-turn : first_variable + unused < v.word →
          forest_reader source unused σ a n at ≡ fault variable_out_of_turn v.offset
      out-of-turn h =
          step-at a n at ha hn ∙
          rw (e, le-leb first_variable v.word (omega arith), lt-leb v.word (first_variable + unused) h)

      pub variable-read : first_variable ≤ v.word → v.word ≤ first_variable + unused →
          forest_reader source unused σ a n at ≡
          before v.word (forest_reader source (unused_after unused v.word) σ (a - 1) (n - 1) next)
      variable-read hv hu =
          step-at a n at ha hn ∙
          rw (e, le-leb first_variable v.word hv, le-leb v.word (first_variable + unused) hu, zero-add)

      pub symbol-read : v.word < first_variable → v.word < length σ.symbols →
          forest_reader source unused σ a n at ≡
          before v.word
          (forest_reader source (unused_after unused v.word) σ (a - 1) ((symbol_of σ v.word).arity + (n - 1)) next)
      symbol-read hv hs =
          step-at a n at ha hn ∙
          rw (
            e,
            lt-leb first_variable v.word hv,
            lt-ltb v.word (length σ.symbols) hs,
            le-leb v.word (first_variable + unused) (omega arith),
          )
