-- Sums of some elements of an arranged expression are arranged expressions, and are told apart by their words.
--     sum-arranged           what a mask takes of the elements of an arranged expression, joined
--     same-words, words_same arranged expressions are AC-equivalent if and only if their words are the same
use mathlib.Core.List.{List, Memᴰ}
use mathlib.Core.Path.{◌≡◌, sym, ap, ◌∙◌, subst}
use mathlib.Core.Bool.{true, true≢false}
use Prim.Native.Nat.{ℕ, ◌^◌, ◌≤◌, ◌<◌}
use lib.ListN.{length}
use Rattle.multisets.specs.Sorting.{Ascending}
use Rattle.multisets.proofs.SortingLaws.{parted-left}
use Rattle.terms.specs.Signature.{Signature, symbol_of, IsSymbol, Admissible}
use Rattle.terms.specs.Term.{Term, Expression}
use Rattle.terms.specs.Equivalence.{Equivalent}
use Rattle.terms.specs.Equivalence.Equivalent.{same}
use Rattle.terms.specs.Words.{first_variable, words, term_of}
use Rattle.terms.specs.Order.{is_greater}
use Rattle.terms.specs.Rewriting.{Expressions}
use Rattle.terms.proofs.WordsLaws.{term_of-words}
use Rattle.simplifying.specs.Canonical.{Arranged}
use Rattle.simplifying.specs.Masks.{masked}
use Rattle.simplifying.specs.Pieces.{masked_sum}
use Rattle.simplifying.proofs.MaskLaws.{masked-part, masked-some}
use Rattle.simplifying.proofs.CanonicalLaws.{Single, arranged-unique}
use Rattle.simplifying.proofs.PieceLaws.{parted-ascending, bunch-arranged}
use Rattle.simplifying.proofs.FillingLaws.{bunch-expression}
use Rattle.simplifying.proofs.SumLaws.{sum-some}

module _ (σ : Signature) (A : Admissible σ) where
  -- The elements of an arranged sum: arranged expressions, none with the root f, smallest first.
  pub record ArrangedElements (f : ℕ) (l : List Term) : Type 0 where
    pub expressions : Expressions σ l
    pub arranged : (u : Term) → Memᴰ u l → Arranged σ u × Single f u
    pub ascending : Ascending (is_greater σ) l

  module _ (f : ℕ) (is_symbol : IsSymbol σ f) (ac : (symbol_of σ f).ac ≡ true) (l : List Term)
      (E : ArrangedElements f l) (m : ℕ) (p : 0 < m) (h : m < 2 ^ length l) where
    pub masked-elements : ArrangedElements f (masked m l)
    masked-elements =
        let q = masked-part l m h in
        record {
          expressions = λ u i. E.expressions u (parted-left q u i);
          arranged = λ u i. E.arranged u (parted-left q u i);
          ascending = (parted-ascending (is_greater σ) q E.ascending).0;
        }

    pub sum-arranged : Expression σ (masked_sum f m l) × Arranged σ (masked_sum f m l)
    sum-arranged =
        let k = masked m l in
        let e = sum-some f k (masked-some l m p h) in (
          bunch-expression σ A f is_symbol ac (λ x. true) (λ x. masked_sum f m l) (λ x q. absurd (true≢false q)) k
              masked-elements.expressions (masked_sum f m l) e,
          rw e at (bunch-arranged σ f k masked-elements.arranged masked-elements.ascending),
        )

  module _ (few : length σ.symbols ≤ first_variable) (s t : Term) (a : Expression σ s) (b : Expression σ t) where
    pub words_same : words s ≡ words t → Equivalent σ s t
    words_same e =
        subst (Equivalent σ s) (sym (term_of-words σ few s a.0) ∙ ap (term_of σ) e ∙ term_of-words σ few t b.0) same

    pub same-words : Arranged σ s → Arranged σ t → Equivalent σ s t → words s ≡ words t
    same-words x y d = ap words (arranged-unique σ A s t a b x y d)
