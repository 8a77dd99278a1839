-- Complete words and well-formed terms: the words of one are complete, and the terms in the others are well formed.
use mathlib.Core.List.{List, [], ◌∷◌, ◌++◌, append-nil, append_assoc}
use mathlib.Core.Path.{◌≡◌, sym, ap, ◌∙◌}
use mathlib.Core.Logic.{inl, inr}
use Prim.Native.Nat.{ℕ, suc, zero, ◌+◌, ◌≤◌, ◌<◌}
use native.Mathlib.Omega.{arith}
use lib.ListN.{length, get_or, take, drop, length-append, get_or-eq_default}
use lib.Seq.{length-take-le}
use borrow.Author.Tests.{lt-ltb, le-ltb}
use Rattle.terms.specs.Signature.{Symbol, Signature, symbol_of}
use Rattle.terms.specs.Term.{Term, Terms, size, row, arguments, WellFormed, WellFormeds}
use Rattle.terms.specs.Term.Term.{var, app}
use Rattle.terms.specs.Term.Terms.{nil, cons}
use Rattle.terms.specs.Words.{first_variable, words, words_of, grow, forest_of, term_of}
use Rattle.terms.proofs.TermLaws.{size-pos, row-arguments}
use Rattle.terms.proofs.WordsLaws.{forest_of-words_of, length-words}
use Rattle.format.specs.Statements.{IsTerm}
use Rattle.subterms.specs.Parts.{IsNode, Complete, part_at}
use Rattle.subterms.proofs.PartLaws.{complete-drop}

module _ (σ : Signature) (few : length σ.symbols ≤ first_variable) where
  no-arity : (w : ℕ) → first_variable ≤ w → (symbol_of σ w).arity ≡ 0
  no-arity w v = ap (λ (s : Symbol). s.arity) (get_or-eq_default σ.symbols _ (omega arith))

  mutual
    complete-words : (t : Term) → WellFormed σ t → (ws : List ℕ) → Complete σ ws → Complete σ (words t ++ ws)
    complete-words (var x) w ws c = (inr (omega arith), omega (arith, no-arity (first_variable + x) (omega arith)), c)
    complete-words (app f ts) w ws c = (
      inl w.0,
      omega (arith, ap length (forest_of-words_of σ few ts w.2 ws), length-append (row ts) (forest_of σ ws), w.1),
      complete-words_of ts w.2 ws c,
    )

    complete-words_of : (ts : Terms) → WellFormeds σ ts → (ws : List ℕ) → Complete σ ws → Complete σ (words_of ts ++ ws)
    complete-words_of nil w ws c = c
    complete-words_of (cons t ts) w ws c =
        rw append_assoc (complete-words t w.0 (words_of ts ++ ws) (complete-words_of ts w.1 ws c))

  pub term-complete : {ws : List ℕ} → IsTerm σ ws → Complete σ ws
  term-complete {ws} p =
      let c = rw append-nil at (complete-words (term_of σ ws) p.well_formed [] tt) in rw (← p.spelled) at c

pub term-size : {σ : Signature} {ws : List ℕ} → IsTerm σ ws → size (term_of σ ws) ≡ length ws
term-size {σ} {ws} p = sym (ap length p.spelled ∙ length-words (term_of σ ws))

pub term-some : {σ : Signature} {ws : List ℕ} → IsTerm σ ws → 0 < length ws
term-some {σ} {ws} p = omega (arith, term-size p, size-pos (term_of σ ws))

module _ (σ : Signature) (few : length σ.symbols ≤ first_variable) where
  pub take-formed : (n : ℕ) (l : List Term) → WellFormeds σ (arguments l) → WellFormeds σ (arguments (take n l))
  take-formed zero l w = tt
  take-formed (suc n) [] w = tt
  take-formed (suc n) (t ∷ l) w = (w.0, take-formed n l w.1)

  drop-formed : (n : ℕ) (l : List Term) → WellFormeds σ (arguments l) → WellFormeds σ (arguments (drop n l))
  drop-formed zero l w = w
  drop-formed (suc n) [] w = tt
  drop-formed (suc n) (t ∷ l) w = drop-formed n l w.1

  grow-formed : (w : ℕ) (ts : List Term) → IsNode σ w → (symbol_of σ w).arity ≤ length ts → WellFormeds σ (arguments ts) →
      WellFormeds σ (arguments (grow σ w ts))
  grow-formed w ts (inl s) a f =
      let n = (symbol_of σ w).arity in
      rw (lt-ltb w first_variable (omega arith))
      ((s, rw row-arguments (length-take-le n ts a), take-formed n ts f), drop-formed n ts f)
  grow-formed w ts (inr v) a f = rw (le-ltb w first_variable v.0) (omega arith, f)

  pub forest-formed : (ws : List ℕ) → Complete σ ws → WellFormeds σ (arguments (forest_of σ ws))
  unfolding forest_of
  forest-formed [] c = tt
  forest-formed (w ∷ ws) c = grow-formed w (forest_of σ ws) c.0 c.1 (forest-formed ws c.2)

  first-formed : (l : List Term) → WellFormeds σ (arguments l) → WellFormed σ (get_or l 0 (var 0))
  first-formed [] w = omega arith
  first-formed (t ∷ l) w = w.0

  pub part-formed : (ws : List ℕ) (i : ℕ) → Complete σ ws → WellFormed σ (part_at σ ws i)
  part-formed ws i c = first-formed (forest_of σ (drop i ws)) (forest-formed (drop i ws) (complete-drop σ ws i c))
