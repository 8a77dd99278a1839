-- The pieces of an arranged expression.
--     opened, part-arranged                its parts
--     elements-arranged                    their elements
--     piece-arranged, piece-node           its pieces: arranged expressions, and the elements of a sum
--     same-pieces                          words that are the same tell AC-equivalence
use mathlib.Core.List.{List, append-nil}
use mathlib.Core.Path.{◌≡◌, sym, ap, ◌∙◌, subst}
use mathlib.Core.Bool.{Bool, true}
use Prim.Native.Nat.{ℕ, ◌+◌, ◌^◌, ◌≤◌, ◌<◌}
use native.Mathlib.Omega.{arith}
use lib.ListN.{length, get_or, take, drop}
use borrow.Author.Tests.{eq-eqb, ne_eqb}
use Rattle.multisets.proofs.Relations.{by_test, by_order, same_test, eqb-self}
use Rattle.terms.specs.Signature.{Signature, symbol_of, IsSymbol}
use Rattle.terms.specs.Term.{Term, Terms, arguments, flattening, flattenings, Expression}
use Rattle.terms.specs.Equivalence.{is_equivalent}
use Rattle.terms.specs.Words.{first_variable, words, term_of}
use Rattle.terms.specs.Rewriting.{fill}
use Rattle.terms.proofs.EquivalenceComplete.{Equivalent→is_equivalent}
use Rattle.terms.proofs.EquivalenceSound.{is_equivalent→Equivalent}
use Rattle.terms.proofs.TermLaws.{flattenings-each}
use Rattle.terms.proofs.FlatteningLaws.{flattenings-roots}
use Rattle.terms.proofs.VariableLaws.{expressions}
use Rattle.simplifying.specs.Canonical.{Arranged}
use Rattle.simplifying.specs.Masks.{masked}
use Rattle.simplifying.specs.Pieces.{sum_of}
use Rattle.simplifying.proofs.HoleLaws.{fill-each, Opened, context-at, part-at}
use Rattle.simplifying.proofs.CanonicalLaws.{arranged-parts, single-of-root}
use Rattle.simplifying.proofs.SumLaws.{IsNode, sum-node}
use Rattle.simplifying.proofs.ArrangedPieces.{ArrangedElements, masked-elements, sum-arranged, words_same, same-words}
use Rattle.subterms.specs.Parts.{part_at, parts_at, Complete}
use Rattle.subterms.proofs.PartLaws.{symbol, stand-one, next}
use Rattle.pieces.specs.Buffer.{Same}
use Rattle.pieces.specs.Pieces.{elements_of, piece_at, IsPiece}
use Rattle.pieces.specs.Subject.{Subject}

module _ {σ : Signature} {ws : List ℕ} (S : Subject σ ws) where
  -- ---- parts

  module _ (i : ℕ) (h : i < length ws) where
    pub opened : (o : Opened S.term i) → Expression σ o.part × Arranged σ o.part × (part_at σ ws i ≡ o.part)
    opened o =
        let e = subst (Expression σ) o.whole S.expression in
        let a = subst (Arranged σ) o.whole S.arranged in
        let x = fill-each (expressions σ) o.context o.part e in (
          x,
          fill-each (arranged-parts σ) o.context o.part a,
          ap (λ (vs : List ℕ). term_of σ (drop i vs)) (S.spelled ∙ ap words o.whole)
              ∙ ap (λ (k : ℕ). term_of σ (drop k (words (fill o.context o.part)))) (sym o.offset)
              ∙ part-at σ S.few o.context o.part x.0,
        )

    pub part-arranged : Expression σ (part_at σ ws i) × Arranged σ (part_at σ ws i)
    part-arranged =
        let (x, a, e) = opened (context-at S.term i (rw S.spelled at h)) in
        (subst (Expression σ) (sym e) x, subst (Arranged σ) (sym e) a)

    -- ---- elements

    module _ (c : Complete σ ws) where
      elements-part : elements_of σ ws i ≡ flattening (get_or ws i 0) (part_at σ ws i)
      elements-part =
          let f = get_or ws i 0 in
          ap (λ (ts : List Term). flattenings f (arguments (take 1 ts))) (next σ ws i c 1 (stand-one σ ws i h) (omega
          arith))
          ∙ append-nil (flattening f (part_at σ ws i))

      module _ (v : get_or ws i 0 < first_variable) where
        abbrev inner : Terms
        inner = arguments (parts_at σ ws (i + 1) (symbol_of σ (get_or ws i 0)).arity)

        inner-elements : flattenings (get_or ws i 0) inner ≡ elements_of σ ws i
        inner-elements = sym (elements-part ∙ ap (flattening (get_or ws i 0)) (symbol σ ws i h v) ∙ rw eqb-self)

        pub whole-node : IsNode (get_or ws i 0) (elements_of σ ws i) (part_at σ ws i)
        whole-node = record {
          arguments = inner;
          node = symbol σ ws i h v;
          elements = inner-elements;
        }

        pub root-symbol : IsSymbol σ (get_or ws i 0)
        root-symbol = (subst (Expression σ) (symbol σ ws i h v) part-arranged.0).0.0

        pub elements-arranged : (symbol_of σ (get_or ws i 0)).ac ≡ true →
            ArrangedElements σ S.admissible (get_or ws i 0) (elements_of σ ws i)
        elements-arranged ac =
            let f = get_or ws i 0 in
            let e = subst (Expression σ) (symbol σ ws i h v) part-arranged.0 in
            let a = subst (Arranged σ) (symbol σ ws i h v) part-arranged.1 in
            subst (ArrangedElements σ S.admissible f) inner-elements (record {
              expressions = λ u m. flattenings-each (expressions σ) u inner f ((expressions σ).inner f inner e) m;
              arranged = λ u m. (
                flattenings-each (arranged-parts σ) u inner f a.1 m,
                single-of-root f u (flattenings-roots f inner u m),
              );
              ascending = (a.0 ac).1;
            })

        -- ---- pieces

        module _ (ac : (symbol_of σ (get_or ws i 0)).ac ≡ true) (mask : ℕ) (p : 0 < mask)
            (b : mask < 2 ^ length (elements_of σ ws i)) where
          abbrev taken : List Term
          taken = masked mask (elements_of σ ws i)

          is_sum : piece_at σ ws i mask ≡ sum_of (get_or ws i 0) taken
          unfolding piece_at
          is_sum = rw (ne_eqb mask 0 λ e. omega arith)

          pub piece-node : 2 ≤ length taken → IsNode (get_or ws i 0) taken (piece_at σ ws i mask)
          piece-node k =
              let f = get_or ws i 0 in
              let E = elements-arranged ac in
              let M = masked-elements σ S.admissible f root-symbol ac (elements_of σ ws i) E mask p b in
              subst (IsNode f taken) (sym is_sum) (sum-node f taken (λ u m. (M.arranged u m).1) k)

          pub sum-piece : Expression σ (piece_at σ ws i mask) × Arranged σ (piece_at σ ws i mask)
          sum-piece =
              let (x, y) = sum-arranged σ S.admissible (get_or ws i 0) root-symbol ac (elements_of σ ws i)
              (elements-arranged ac) mask p b in
              (subst (Expression σ) (sym is_sum) x, subst (Arranged σ) (sym is_sum) y)

  -- The mask of a piece takes elements of an AC symbol's flattening alone.
  abbrev pub AcPiece : ℕ → ℕ → Type 0
  AcPiece i mask = 0 < mask → (symbol_of σ (get_or ws i 0)).ac ≡ true

  pub piece-arranged : Complete σ ws → (i mask : ℕ) → IsPiece σ ws i mask → AcPiece i mask →
      Expression σ (piece_at σ ws i mask) × Arranged σ (piece_at σ ws i mask)
  unfolding piece_at
  piece-arranged c i mask I a =
      by_order 0 mask (λ p. sum-piece i I.inside c (I.sum p).0 (a p) mask p (I.sum p).1)
      λ p. let z : mask ≡ 0 = omega arith in rw (eq-eqb mask 0 z) (part-arranged i I.inside)

  -- ---- the same words

  pub same-pieces : Complete σ ws → (i mask j other : ℕ) → IsPiece σ ws i mask → AcPiece i mask →
      IsPiece σ ws j other → AcPiece j other → (r : Bool) →
      Same r (words (piece_at σ ws i mask)) (words (piece_at σ ws j other)) →
      r ≡ is_equivalent σ (piece_at σ ws i mask) (piece_at σ ws j other)
  same-pieces c i mask j other I a K b r s =
      let (x, y) = piece-arranged c i mask I a in
      let (z, w) = piece-arranged c j other K b in
      let p = piece_at σ ws i mask in
      let q = piece_at σ ws j other in
      same_test r (is_equivalent σ p q) (λ e. Equivalent→is_equivalent σ (words_same σ S.admissible S.few p q x z
      (s.yes e)))
      λ e. by_test r (λ k. k) λ k.
      absurd (s.no k (same-words σ S.admissible S.few p q x z y w
      (is_equivalent→Equivalent σ S.admissible.ac_binary p q x.0 z.0 e)))
