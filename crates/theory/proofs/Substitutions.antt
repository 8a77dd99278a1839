-- The order is kept by substitutions that put expressions for variables.
--     rows-substitute, flattenings-decrease     mark 3; marks 4 to 6
--     greater-substitute                        the order
use mathlib.Core.List.{[], flat_map}
use mathlib.Core.Path.{◌≡◌, sym, ◌∙◌}
use mathlib.Core.Bool.{true, false≢true}
use Prim.Native.Nat.{ℕ, suc, zero, ◌≤◌, ◌<◌}
use native.Mathlib.Omega.{arith}
use Rattle.multisets.specs.Multiset.{row_greater}
use Rattle.terms.specs.Signature.{Signature, symbol_of, Admissible}
use Rattle.terms.specs.Term.{Term, Terms, row, size, sizes, flattenings, weight, WellFormed, WellFormeds}
use Rattle.terms.specs.Term.Term.{app}
use Rattle.terms.specs.Term.Terms.{nil, cons}
use Rattle.terms.specs.Order.{variables, is_greater}
use Rattle.terms.specs.Rewriting.{Substitution, substitute, substitute_in, ExpressionSubstitution}
use Rattle.multisets.proofs.Relations.{by_order, IsEquivalence, IsStrictOrder}
use Rattle.multisets.proofs.RowLaws.{row_first, first-row}
use Rattle.multisets.proofs.RowLaws.First.{ahead, level as onward}
use Rattle.terms.proofs.TermLaws.{size-pos, flattenings-each, flattenings-smaller, flattenings-formed}
use Rattle.terms.proofs.FlatteningLaws.{flattenings-roots}
use Rattle.terms.proofs.RewritingLaws.{substitute-expression, substitute_in-expressions}
use Rattle.terms.proofs.VariableLaws.{none_oftener-ground, expressions}
use Rattle.terms.proofs.SubstitutionLaws.{flattenings-substitute, is_equivalent-substitute, weight-substitute-le}
use Rattle.terms.proofs.IteratedLaws.{is_power→Iterated, iterated-substitute}
use Rattle.theory.proofs.DecreasesView.{FlattenedDecreases, RootDecreases, Decreases}
use Rattle.theory.proofs.DecreasesView.Decreases.{by_weight, by_root}
use Rattle.theory.proofs.DecreasesView.RootDecreases.{by_precedence, by_row, by_flattening, by_power}
use Rattle.theory.proofs.FormedLaws.{like_formed, like_formed-equivalence, like-formed}
use Rattle.theory.proofs.StrictOrder.{greater_formed, greater_formed-order, formed-view, greater_formed-view}
use Rattle.theory.proofs.FlattenedLaws.{no-variables}
use Rattle.theory.proofs.Contexts.{greater-iterated, greater-roots}
use Rattle.theory.proofs.FlattenedSubstitution.{formed_image, images-formed, flattened-substitute}

module _ (σ : Signature) (A : Admissible σ) (τ : Substitution)
    (images : ExpressionSubstitution σ τ) where
  abbrev E : IsEquivalence (like_formed σ)
  E = like_formed-equivalence σ

  abbrev O : IsStrictOrder (like_formed σ) (greater_formed σ)
  O = greater_formed-order σ A

  -- The order is kept from s down to t.
  abbrev Kept : Term → Term → Type 0
  Kept s t = WellFormed σ s → WellFormed σ t → is_greater σ s t ≡ true →
      is_greater σ (substitute τ s) (substitute τ t) ≡ true

  like-substitute : (s t : Term) → WellFormed σ s → WellFormed σ t → like_formed σ s t ≡ true →
      like_formed σ (substitute τ s) (substitute τ t) ≡ true
  like-substitute s t v w h =
      sym (like-formed σ (substitute τ s) (substitute τ t) (substitute-expression σ τ images s v).0
      (substitute-expression σ τ images t w).0)
      ∙ is_equivalent-substitute σ A.ac_binary τ s t v w (like-formed σ s t v w ∙ h)

  held-substitute : (s t : Term) → Kept s t → greater_formed σ s t ≡ true →
      greater_formed σ (substitute τ s) (substitute τ t) ≡ true
  held-substitute s t h x =
      let (v, w, g) = (greater_formed-view σ s t).0 x in
      (greater_formed-view σ (substitute τ s) (substitute τ t)).1
      ((substitute-expression σ τ images s v).0, (substitute-expression σ τ images t w).0, h v w g)

  rows-substitute : (ss ts : Terms) → ((s t : Term) → size s ≤ sizes ss → Kept s t) → WellFormeds σ ss →
      WellFormeds σ ts → row_greater (like_formed σ) (greater_formed σ) (row ss) (row ts) ≡ true →
      row_greater (like_formed σ) (greater_formed σ) (row (substitute_in τ ss)) (row (substitute_in τ ts)) ≡ true
  unfolding row_greater
  rows-substitute nil ts h v w g = absurd (false≢true g)
  rows-substitute (cons s ss) nil h v w g = absurd (false≢true g)
  rows-substitute (cons s ss) (cons t ts) h (v, vs) (w, ws) g =
      first-row (like_formed σ) E (greater_formed σ) O (row (substitute_in τ ss)) (row (substitute_in τ ts))
      (elim (row_first (like_formed σ) E (greater_formed σ) O (row ss) (row ts) g) [
        | ahead k ↦ ahead (held-substitute s t (h s t (omega arith)) k)
        | onward e k ↦ onward (like-substitute s t v w e)
            (rows-substitute ss ts (λ a b l. h a b (omega arith)) vs ws k)
      ])

  images-of : (f : ℕ) (us : Terms) → WellFormeds σ us →
      flattenings f (substitute_in τ us) ≡ flat_map (formed_image σ τ f) (flattenings f us)
  images-of f us w =
      flattenings-substitute τ f us ∙ images-formed σ τ f (flattenings f us) (flattenings-formed σ us f w)

  images-ground : (f : ℕ) (us : Terms) → WellFormeds σ us → variables (flattenings f (substitute_in τ us)) ≡ []
  images-ground f us w =
      no-variables (flattenings f (substitute_in τ us))
      λ u m. (flattenings-each (expressions σ) u (substitute_in τ us) f (substitute_in-expressions σ τ images us w) m).1

  flattenings-decrease : (f : ℕ) (ss ts : Terms) → (symbol_of σ f).ac ≡ true →
      ((s t : Term) → size s ≤ sizes ss → Kept s t) → WellFormeds σ ss → WellFormeds σ ts →
      FlattenedDecreases σ (like_formed σ) (greater_formed σ) f (flattenings f ss) (flattenings f ts) →
      FlattenedDecreases σ (like_formed σ) (greater_formed σ) f (flattenings f (substitute_in τ ss))
      (flattenings f (substitute_in τ ts))
  flattenings-decrease f ss ts a h v w l =
      rw (images-of f ss v, images-of f ts w)
      (flattened-substitute σ A τ images f a (flattenings f ss) (flattenings f ts)
      (λ u m. (flattenings-roots f ss u m, flattenings-formed σ ss f v u m))
      (λ u m. (flattenings-roots f ts u m, flattenings-formed σ ts f w u m))
      (λ s t m k. held-substitute s t (h s t (flattenings-smaller ss f s m)))
      (rw (images-of f ts w) at (images-ground f ts w)) l)

  root-substitute : {s t : Term} → ((a b : Term) → size a < size s → Kept a b) → WellFormed σ s → WellFormed σ t →
      weight σ (substitute τ t) ≡ weight σ (substitute τ s) → RootDecreases σ (like_formed σ) (greater_formed σ) s t →
      RootDecreases σ (like_formed σ) (greater_formed σ) (substitute τ s) (substitute τ t)
  root-substitute h v w q (by_precedence l) = by_precedence l
  root-substitute h v w q (by_row {ss} {ts} a r) =
      by_row a (rows-substitute ss ts (λ s t l. h s t (omega arith)) v.2 w.2 r)
  root-substitute h v w q (by_flattening {f} {ss} {ts} a l) =
      by_flattening a (flattenings-decrease f ss ts a (λ s t i. h s t (omega arith)) v.2 w.2 l)
  root-substitute h v w q (by_power {f} {x} {ss} e) =
      let d = (substitute-expression σ τ images (app f ss) v).0 in
      greater-roots σ A (substitute τ (app f ss)) (τ x) d (images x).0 q
      (greater-iterated σ A (iterated-substitute τ (is_power→Iterated f x f ss e)) d (images x).0)

  -- What is heavier stays so; at equal weights the roots decide as before.
  decreases-substitute : (s t : Term) → ((a b : Term) → size a < size s → Kept a b) → WellFormed σ s →
      WellFormed σ t → Decreases σ (like_formed σ) (greater_formed σ) s t →
      Decreases σ (like_formed σ) (greater_formed σ) (substitute τ s) (substitute τ t)
  decreases-substitute s t h v w d =
      let o = none_oftener-ground σ (substitute τ s) (substitute τ t) (substitute-expression σ τ images t w).1 in
      let grows = weight-substitute-le σ A τ images s t w in
      elim d [
        | by_weight n l ↦ by_weight o (omega (arith, grows n))
        | by_root b r ↦ by_order (weight σ (substitute τ t)) (weight σ (substitute τ s)) (by_weight o)
            λ l. let q : weight σ (substitute τ t) ≡ weight σ (substitute τ s) =
            omega (arith, b.weights, grows b.none) in
            by_root (record { none = o; weights = q }) (root-substitute h v w q r)
      ]

  greater-to : (n : ℕ) (s t : Term) → size s ≤ n → Kept s t
  greater-to zero s t l v w g = absurd (omega (arith, size-pos s))
  greater-to (suc n) s t l v w g =
      (formed-view σ (substitute τ s) (substitute τ t) (substitute-expression σ τ images s v).0
      (substitute-expression σ τ images t w).0).1
      (decreases-substitute s t (λ a b k. greater-to n a b (omega arith)) v w ((formed-view σ s t v w).0 g))

  pub greater-substitute : (s t : Term) → WellFormed σ s → WellFormed σ t → is_greater σ s t ≡ true →
      is_greater σ (substitute τ s) (substitute τ t) ≡ true
  greater-substitute s t = greater-to (size s) s t (omega arith)
