-- The result of a match that is found: the part with the right side's instance in its place.
--     found-bound         what a substitution puts for a variable of the left side is its piece
--     found-result        the words of the result
use mathlib.Core.List.{List, [], ◌∷◌}
use mathlib.Core.Path.{◌≡◌, refl, ap, ap₂, ◌∙◌}
use Prim.Native.Nat.{ℕ, ◌+◌, ◌<◌}
use native.Mathlib.Omega.{arith}
use lib.ListN.{length}
use Rattle.multisets.proofs.Relations.{by_test, by_order, eqb-self}
use Rattle.terms.specs.Signature.{Signature}
use Rattle.terms.specs.Term.{Term, Terms, occurrences}
use Rattle.terms.specs.Term.Term.{var, app}
use Rattle.terms.specs.Term.Terms.{nil, cons}
use Rattle.terms.specs.Words.{first_variable, words}
use Rattle.terms.specs.Rewriting.{Substitution, substitute, substitute_in, fill}
use Rattle.terms.proofs.RewritingLaws.{occurrences_in}
use Rattle.simplifying.specs.Filling.{Shaped}
use Rattle.simplifying.specs.Matching.{Bindings, unbound}
use Rattle.simplifying.specs.Agenda.{agenda}
use Rattle.simplifying.specs.Reducts.{substitution_or}
use Rattle.simplifying.proofs.HoleLaws.{Opened}
use Rattle.simplifying.proofs.Theorems.{matches-are-sound}
use Rattle.subterms.specs.Parts.{part_at}
use Rattle.pieces.specs.Pieces.{image_at}
use Rattle.pieces.specs.Results.{result_words}
use Rattle.pieces.specs.Subject.{Subject}
use Rattle.pieces.proofs.NodeLaws.{part-arranged}
use Rattle.pieces.proofs.ResultLaws.{result_words-are}
use Rattle.matching.specs.Bindings.{occurs_before, bindings_at}
use Rattle.matching.specs.Search.{Reached}
use Rattle.matching.proofs.StartLaws.{found-match}

module _ (τ υ : Substitution) where
  mutual
    substitute-same : (t : Term) → ((x : ℕ) → 0 < occurrences x t → τ x ≡ υ x) → substitute τ t ≡ substitute υ t
    substitute-same (var x) h = h x (rw eqb-self (omega arith))
    substitute-same (app f ts) h = ap (app f) (substitute_in-same ts λ x k. h x (omega arith))

    substitute_in-same : (ts : Terms) → ((x : ℕ) → 0 < occurrences_in x ts → τ x ≡ υ x) →
        substitute_in τ ts ≡ substitute_in υ ts
    substitute_in-same nil h = refl
    substitute_in-same (cons t ts) h =
        ap₂ cons (substitute-same t λ x k. h x (omega arith)) (substitute_in-same ts λ x k. h x (omega arith))

module _ {σ : Signature} {ws : List ℕ} (S : Subject σ ws) (p : Term) (formed : Shaped σ p) (i : ℕ)
    (h : i < length ws) (offsets masks : List ℕ)
    (R : Reached σ ws (words p) 0 (agenda (part_at σ ws i ∷ []) unbound) offsets masks) where
  -- What the pattern's variables are bound to.
  abbrev pub found : Bindings
  found = bindings_at σ ws (words p) (length (words p)) offsets masks

  pub found-bound : (x : ℕ) → 0 < occurrences x p →
      image_at σ ws offsets masks x ≡ substitution_or (part_at σ ws i) found x
  found-bound x k =
      let t = part_at σ ws i in
      let e = (part-arranged S i h).0 in
      let m = found-match σ S.admissible.ac_binary S.few ws p t formed e.0 offsets masks R in
      let n = (matches-are-sound σ S.admissible p t e found m).1 x k in
      by_test (occurs_before (words p) (first_variable + x) (length (words p)))
      (λ o. rw o) λ o. absurd (n (rw o))

  pub found-result : (o : Opened S.term i) (r : Term) → Shaped σ r →
      ((x : ℕ) → occurrences x p ≡ 0 → occurrences x r ≡ 0) →
      result_words σ ws offsets masks (words r) i
      ≡ words (fill o.context (substitute (substitution_or (part_at σ ws i) found) r))
  found-result o r s v =
      result_words-are S offsets masks i h o r s
      ∙ ap (λ (u : Term). words (fill o.context u))
      (substitute-same (image_at σ ws offsets masks) (substitution_or (part_at σ ws i) found) r λ x k.
      found-bound x (occurs x k))
    where
      occurs : (x : ℕ) → 0 < occurrences x r → 0 < occurrences x p
      occurs x k = by_order 0 (occurrences x p) (λ l. l) λ l.
          let z : occurrences x p ≡ 0 = omega arith in absurd (omega (arith, v x z))
