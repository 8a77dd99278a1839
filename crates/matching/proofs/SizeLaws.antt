-- How many elements a flattening of a subject has, and how many words a piece of it.
--     elements-few, elements-some     at most half as many elements as words, and one at least
--     piece-short                     no more words than the subject
--     one-stands                      the term at an offset
use mathlib.Core.List.{List, [], ◌∷◌}
use mathlib.Core.Path.{◌≡◌, sym, ap, ◌∙◌, subst}
use mathlib.Core.Bool.{true}
use Prim.Native.Nat.{ℕ, suc, ◌+◌, ◌*◌, ◌^◌, ◌≤◌, ◌<◌}
use native.Mathlib.Omega.{arith}
use lib.Dec.{eqb}
use lib.ListN.{length, get_or}
use borrow.Author.Tests.{eqb-true, eq-eqb, ne_eqb}
use Rattle.multisets.proofs.Relations.{by_test, by_order}
use Rattle.multisets.proofs.MultisetLaws.{sum, sum-append}
use Rattle.terms.specs.Signature.{Signature, symbol_of}
use Rattle.terms.specs.Term.{Term, Terms, size, sizes, row, flattening, flattenings, WellFormed, WellFormeds}
use Rattle.terms.specs.Term.Term.{var, app}
use Rattle.terms.specs.Term.Terms.{nil, cons}
use Rattle.terms.specs.Words.{first_variable, words}
use Rattle.terms.proofs.TermLaws.{size-pos}
use Rattle.terms.proofs.WordsLaws.{length-words}
use Rattle.simplifying.specs.FillingSize.{bunch_size}
use Rattle.simplifying.specs.Masks.{masked}
use Rattle.simplifying.specs.Pieces.{sum_of}
use Rattle.simplifying.proofs.MaskLaws.{masked-part, masked-some}
use Rattle.simplifying.proofs.SearchLaws.{bunch-size, parted-sum}
use Rattle.simplifying.proofs.SumLaws.{sum-some}
use Rattle.subterms.specs.Parts.{part_at, Stands, Complete}
use Rattle.subterms.proofs.PartLaws.{stand-one, stands}
use Rattle.equivalence.proofs.StepLaws.{part_small}
use Rattle.pieces.specs.Pieces.{elements_of, piece_at}
use Rattle.pieces.specs.Subject.{Subject}
use Rattle.pieces.proofs.NodeLaws.{part-arranged, whole-node}
use Rattle.matching.specs.Agenda.{IsPending}

-- A node more for each element.
abbrev nodes : List Term → ℕ
nodes l = sum (λ (t : Term). suc (size t)) l

twice-length : (l : List Term) → 2 * length l ≤ nodes l
twice-length [] = omega arith
twice-length (t ∷ l) = omega (arith, size-pos t, twice-length l)

module _ (σ : Signature) (f : ℕ) (two : (symbol_of σ f).arity ≡ 2) where
  mutual
    flattening-nodes : (t : Term) → WellFormed σ t → nodes (flattening f t) ≡ suc (size t)
    flattening-nodes (var x) w = omega arith
    flattening-nodes (app g ts) w =
        by_test (eqb f g)
        (λ e. let d = eqb-true f g e in
        rw e (omega (arith, flattenings-nodes ts w.2, w.1, ap (λ (n : ℕ). (symbol_of σ n).arity) d)))
        λ e. rw e (omega arith)

    flattenings-nodes : (ts : Terms) → WellFormeds σ ts → nodes (flattenings f ts) ≡ sizes ts + length (row ts)
    flattenings-nodes nil w = omega arith
    flattenings-nodes (cons t ts) w =
        omega (
          arith,
          sum-append (λ (u : Term). suc (size u)) (flattening f t) (flattenings f ts),
          flattening-nodes t w.0,
          flattenings-nodes ts w.1,
        )

module _ {σ : Signature} {ws : List ℕ} (S : Subject σ ws) (c : Complete σ ws) (i : ℕ) (h : i < length ws) where
  module _ (v : get_or ws i 0 < first_variable) (ac : (symbol_of σ (get_or ws i 0)).ac ≡ true) where
    elements-nodes : nodes (elements_of σ ws i) ≡ suc (size (part_at σ ws i))
    elements-nodes =
        let f = get_or ws i 0 in
        let N = whole-node S i h c v in
        let w = subst (WellFormed σ) N.node (part-arranged S i h).0.0 in
        let two = S.admissible.ac_binary f ac in
        sym (ap nodes N.elements) ∙ flattenings-nodes σ f two N.arguments w.2
        ∙ omega (arith, w.1, ap size N.node)

    pub elements-few : 2 * length (elements_of σ ws i) ≤ length ws + 1
    elements-few = omega (arith, elements-nodes, twice-length (elements_of σ ws i), part_small σ ws c i h)

    pub elements-some : 0 < length (elements_of σ ws i)
    elements-some = some (elements_of σ ws i) elements-nodes
      where
        some : (l : List Term) {n : ℕ} → nodes l ≡ suc n → 0 < length l
        some [] e = absurd (omega arith)
        some (t ∷ l) e = omega arith

    sum-short : (mask : ℕ) → 0 < mask → mask < 2 ^ length (elements_of σ ws i) →
        length (words (sum_of (get_or ws i 0) (masked mask (elements_of σ ws i)))) ≤ length ws
    sum-short mask p b =
        let f = get_or ws i 0 in
        let l = masked mask (elements_of σ ws i) in
        let e = ap bunch_size (sum-some f l (masked-some (elements_of σ ws i) mask p b)) in
        omega (
          arith,
          length-words (sum_of f l),
          e,
          bunch-size f l,
          parted-sum (λ (t : Term). suc (size t)) (masked-part (elements_of σ ws i) mask b),
          elements-nodes,
          part_small σ ws c i h,
        )

  pub piece-short : (mask : ℕ) → IsPending σ ws i mask → length (words (piece_at σ ws i mask)) ≤ length ws
  unfolding piece_at
  piece-short mask I =
      by_order 0 mask
      (λ p. rw (ne_eqb mask 0 λ e. omega arith) (sum-short (I.is_piece.sum p).0 (I.ac p) mask p (I.is_piece.sum p
      ).1))
      λ p. let z : mask ≡ 0 = omega arith in
      rw (eq-eqb mask 0 z) (omega (arith, length-words (part_at σ ws i), part_small σ ws c i h))

pub one-stands : {σ : Signature} {ws : List ℕ} {i : ℕ} → i < length ws → Stands σ ws i 1
one-stands {σ} {ws} {i} h = stands σ ws i 1 (stand-one σ ws i h) (omega arith)
