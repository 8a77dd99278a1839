-- The beginning of a search, and its end as a match.
--     start-found                      the part at an offset alone is pending
--     calls-pattern                    how many arguments a pattern calls for
--     found-match, found_none          what is found is a match, and where nothing is found there is none
use mathlib.Core.List.Memᴰ
use mathlib.Core.List.{List, [], ◌∷◌, ◌++◌, append_assoc, append-nil, map, Memᴰ}
use mathlib.Core.Path.{◌≡◌, refl, sym, ap, ◌∙◌, fun_ext, subst}
use mathlib.Core.Bool.{Bool}
use Prim.Native.Nat.{ℕ, ◌+◌, ◌≤◌, ◌<◌}
use native.Mathlib.Omega.{arith}
use lib.ListN.{length, get_or-eq_default}
use Rattle.terms.specs.Signature.{Symbol, Signature, symbol_of, AcBinary}
use Rattle.terms.specs.Term.{Term, Terms, size, sizes, row, WellFormed}
use Rattle.terms.specs.Term.Term.{var, app}
use Rattle.terms.specs.Term.Terms.{nil, cons}
use Rattle.terms.specs.Words.{first_variable, words, words_of}
use Rattle.simplifying.specs.Filling.{Shaped, Shapeds}
use Rattle.simplifying.specs.Matching.{Bindings, unbound, matches}
use Rattle.simplifying.specs.Agenda.{Agenda, agenda, follows}
use Rattle.simplifying.proofs.AgendaLaws.{follows-words}
use Rattle.subterms.specs.Parts.{part_at}
use Rattle.matching.specs.declared.nodes.Node.{Node}
use Rattle.matching.specs.Agenda.{pending_at, ArePending, Pushed}
use Rattle.matching.specs.Bindings.{occurs_before, bindings_at}
use Rattle.matching.specs.Search.{calls_for, Reached, Unreached, Searched, Found}
use Rattle.matching.proofs.AgendaLaws.{whole-pending, whole-piece}

module _ (σ : Signature) (ws ps : List ℕ) {i : ℕ} (h : i < length ws) {old nodes : List Node}
    (P : Pushed old 0 i 0 0 nodes) where
  first-pending : ArePending σ ws nodes 1 0 1
  first-pending =
      let l : 0 < 1 = omega arith in
      rw (P.offset_stored, P.mask_stored) (l, whole-pending σ ws i h, tt)

  first-terms : pending_at σ ws nodes 1 0 ≡ part_at σ ws i ∷ []
  first-terms = rw (P.offset_stored, P.mask_stored, whole-piece σ ws i)

  module _ (offsets masks : List ℕ) where
    start-bindings : bindings_at σ ws ps 0 offsets masks ≡ unbound
    unfolding occurs_before
    start-bindings = fun_ext λ x. refl

    pub start-found : {r : Bool} {others rest : List ℕ} →
        Searched σ ws ps 0 offsets masks (pending_at σ ws nodes 1 0) r others rest → Found σ ws ps i r others rest
    start-found S = record {
      yes = λ y. rw (first-terms, start-bindings) at (S.yes y);
      no = λ y. rw (first-terms, start-bindings) at (S.no y);
      bound = S.bound;
    }

-- ---- matches

module _ (σ : Signature) (binary : AcBinary σ) (few : length σ.symbols ≤ first_variable) (ws : List ℕ) (p t : Term)
    (formed : Shaped σ p) (other : WellFormed σ t) where
  along : follows σ (words p) (agenda (t ∷ []) unbound) ≡ map (agenda []) (matches σ p t unbound)
  along = follows-words σ binary few p t [] unbound formed other

  pub found-match : (offsets masks : List ℕ) → Reached σ ws (words p) 0 (agenda (t ∷ []) unbound) offsets masks →
      Memᴰ (bindings_at σ ws (words p) (length (words p)) offsets masks) (matches σ p t unbound)
  found-match offsets masks (d, n, z) =
      let (b, m, e) = Memᴰ.of_map (agenda []) (matches σ p t unbound) (rw along at n) in
      subst (λ (c : Bindings). Memᴰ c (matches σ p t unbound)) (ap (λ (a : Agenda). a.bindings) e ∙ z) m

  pub found_none : Unreached σ ws (words p) 0 (agenda (t ∷ []) unbound) → (b : Bindings) →
      Memᴰ b (matches σ p t unbound) → ⊥
  found_none u b m = u (agenda [] b) (rw along (Memᴰ.map (agenda []) m))

-- ---- the arguments that a pattern calls for

module _ (σ : Signature) (few : length σ.symbols ≤ first_variable) where
  no_arguments : (x : ℕ) → (symbol_of σ (first_variable + x)).arity ≡ 0
  no_arguments x = ap (λ (s : Symbol). s.arity) (get_or-eq_default σ.symbols _ (omega arith))

  mutual
    calls-words : (t : Term) → Shaped σ t → (ws : List ℕ) → calls_for σ (words t ++ ws) + 1 ≡ size t + calls_for σ ws
    calls-words (var x) s ws = omega (arith, no_arguments x)
    calls-words (app f ts) s ws = omega (arith, calls-words_of ts s.2 ws, s.1)

    calls-words_of : (ts : Terms) → Shapeds σ ts → (ws : List ℕ) →
        calls_for σ (words_of ts ++ ws) + length (row ts) ≡ sizes ts + calls_for σ ws
    calls-words_of nil s ws = omega arith
    calls-words_of (cons t ts) s ws =
        rw append_assoc (omega (arith, calls-words t s.0 (words_of ts ++ ws), calls-words_of ts s.1 ws))

  -- All nodes but the root are called for.
  pub calls-pattern : (p : Term) → Shaped σ p → calls_for σ (words p) + 1 ≡ size p
  calls-pattern p s =
      ap (λ (ws : List ℕ). calls_for σ ws + 1) (sym (append-nil (words p))) ∙ calls-words p s [] ∙ omega arith
