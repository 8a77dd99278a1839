-- Matching along a pattern's words, with an agenda, gives what matching gives.
--     follows-append     words one after another
--     follows-words      a pattern's words take one term from the agenda, and bind what matching binds
use mathlib.Core.List.{List, [], ◌∷◌, ◌++◌, append-nil, map, map-map, flat_map}
use mathlib.Core.Path.{◌≡◌, refl, sym, ap, ◌∙◌}
use Prim.Native.Nat.{ℕ, ◌+◌, ◌-◌, ◌≤◌}
use native.Mathlib.Omega.{arith}
use lib.ListN.{length}
use borrow.Author.Tests.{lt-ltb, le-ltb}
use Rattle.terms.specs.Signature.{Signature, AcBinary}
use Rattle.terms.specs.Term.{Term, Terms, row, WellFormed, WellFormeds}
use Rattle.terms.specs.Term.Term.{var, app}
use Rattle.terms.specs.Term.Terms.{nil, cons}
use Rattle.terms.specs.Words.{first_variable, words, words_of}
use Rattle.multisets.proofs.FlatMapLaws.{flat_map-one, flat_map-map, map-flat_map, flat_map-flat_map, flat_map-agree}
use Rattle.terms.proofs.EquivalenceMeasures.{formed-resp-equivalent}
use Rattle.simplifying.specs.Matching.{Bindings, groupings, bind, matches, matches_in}
use Rattle.simplifying.specs.Agenda.{Agenda, agenda, advance, follows}
use Rattle.simplifying.specs.Filling.{Shaped, Shapeds}
use Rattle.simplifying.proofs.GroupingLaws.{groupings-sound}
use Rattle.simplifying.proofs.FillingLaws.{shaped}

module _ (σ : Signature) where
  pub follows-append : (vs ws : List ℕ) (a : Agenda) → follows σ (vs ++ ws) a ≡ flat_map (follows σ ws) (follows σ vs a)
  unfolding follows flat_map
  follows-append [] ws a = sym (append-nil (follows σ ws a))
  follows-append (v ∷ vs) ws a =
      flat_map-agree (follows σ (vs ++ ws)) (λ (b : Agenda). flat_map (follows σ ws) (follows σ vs b))
      (advance σ v a.pending a.bindings) (λ b m. follows-append vs ws b)
      ∙ sym (flat_map-flat_map (follows σ ws) (follows σ vs) (advance σ v a.pending a.bindings))

  module _ (binary : AcBinary σ) (few : length σ.symbols ≤ first_variable) where
    mutual
      unfolding follows matches

      pub follows-words : (p t : Term) (ts : List Term) (b : Bindings) → Shaped σ p → WellFormed σ t →
          follows σ (words p) (agenda (t ∷ ts) b) ≡ map (agenda ts) (matches σ p t b)
      follows-words (var x) t ts b w v =
          let e : first_variable + x - first_variable ≡ x = omega arith in
          rw (le-ltb (first_variable + x) first_variable (omega arith), e)
          (flat_map-one (map (agenda ts) (bind σ x t b (b x))))
      follows-words (app f ps) t ts b w v =
          rw (lt-ltb f first_variable (omega arith))
          (flat_map-map (follows σ (words_of ps)) (λ (us : Terms). agenda (row us ++ ts) b) (groupings σ f t)
          ∙ flat_map-agree (λ (us : Terms). follows σ (words_of ps) (agenda (row us ++ ts) b))
          (λ (us : Terms). map (agenda ts) (matches_in σ ps us b)) (groupings σ f t) (λ us m.
          let h = (formed-resp-equivalent σ (groupings-sound σ binary f t us v m)).0 v in
          follows-words_of ps us ts b (h.1 ∙ sym w.1) w.2 h.2)
          ∙ sym (map-flat_map (agenda ts) (λ (us : Terms). matches_in σ ps us b) (groupings σ f t)))

      follows-words_of : (ps us : Terms) (ts : List Term) (b : Bindings) → length (row us) ≡ length (row ps) →
          Shapeds σ ps → WellFormeds σ us →
          follows σ (words_of ps) (agenda (row us ++ ts) b) ≡ map (agenda ts) (matches_in σ ps us b)
      follows-words_of nil nil ts b n w v = refl
      follows-words_of nil (cons t us) ts b n w v = absurd (omega arith)
      follows-words_of (cons p ps) nil ts b n w v = absurd (omega arith)
      follows-words_of (cons p ps) (cons t us) ts b n w v =
          follows-append (words p) (words_of ps) (agenda (t ∷ (row us ++ ts)) b)
          ∙ ap (flat_map (follows σ (words_of ps))) (follows-words p t (row us ++ ts) b w.0 v.0)
          ∙ flat_map-map (follows σ (words_of ps)) (agenda (row us ++ ts)) (matches σ p t b)
          ∙ flat_map-agree (λ (c : Bindings). follows σ (words_of ps) (agenda (row us ++ ts) c))
          (λ (c : Bindings). map (agenda ts) (matches_in σ ps us c)) (matches σ p t b) (λ c m.
          follows-words_of ps us ts c (omega arith) w.1 v.1)
          ∙ sym (map-flat_map (agenda ts) (λ (c : Bindings). matches_in σ ps us c) (matches σ p t b))

    pub follows-pattern : (p t : Term) (b : Bindings) → WellFormed σ p → WellFormed σ t →
        map (λ (a : Agenda). a.bindings) (follows σ (words p) (agenda (t ∷ []) b)) ≡ matches σ p t b
    follows-pattern p t b w v =
        ap (map (λ (a : Agenda). a.bindings)) (follows-words p t [] b (shaped σ p w) v)
        ∙ map-map (λ (a : Agenda). a.bindings) (agenda []) (matches σ p t b) ∙ map_same (matches σ p t b)
      where
        map_same : (l : List Bindings) → map (λ (c : Bindings). c) l ≡ l
        map_same [] = refl
        map_same (c ∷ l) = ap (◌∷◌ c) (map_same l)
