-- A strict order on a decidable part of a type as a strict order on the type: outside the part nothing is greater.
--     IsStrictOrderOn                             a strict order, up to a likeness, on a part
--     like_within, like_within-view, -same          likeness held to the part; on the part it is the test
--     greater_within, greater_within-view, -same    the order held to the part
--     within-equivalence, within-order            they are an equivalence and a strict order
use mathlib.Core.Logic.{◌↔◌}
use mathlib.Core.Path.{◌≡◌, refl, sym, ◌∙◌}
use mathlib.Core.Bool.{Bool, true, false, ◌&&◌, not, and-eq-true_iff as both, false≢true}
use Rattle.multisets.proofs.Relations.{IsEquivalence, IsStrictOrder}

-- On the elements of P: transitive, irreflexive up to likeness, and the same for like elements.
pub record IsStrictOrderOn {A : Type 0} (P : A → Type 0) (like greater : A → A → Bool) : Type 0 where
  pub transitive : {a b c : A} → P a → P b → P c → greater a b ≡ true → greater b c ≡ true → greater a c ≡ true
  pub irreflexive : {a b : A} → P a → P b → greater a b ≡ true → like a b ≡ true → ⊥
  pub respects : {a a' b b' : A} → P a → P a' → P b → P b' → like a a' ≡ true → like b b' ≡ true →
      greater a b ≡ true →
      greater a' b' ≡ true

abbrev same_truth : Bool → Bool → Bool
same_truth true b = b
same_truth false b = not b

same_truth-path : (a b : Bool) → same_truth a b ≡ true ↔ (a ≡ b)
same_truth-path true b = (sym, sym)
same_truth-path false true = (λ e. absurd (false≢true e), λ e. absurd (false≢true e))
same_truth-path false false = (λ e. refl, λ e. refl)

module _ {A : Type 0} (p : A → Bool) where
  -- Alike, and both in the part or neither.
  unfoldable pub like_within : (A → A → Bool) → A → A → Bool
  like_within like a b = same_truth (p a) (p b) && like a b

  -- Greater, and both in the part.
  unfoldable pub greater_within : (A → A → Bool) → A → A → Bool
  greater_within greater a b = p a && (p b && greater a b)

  pub like_within-view : (like : A → A → Bool) (a b : A) →
      like_within like a b ≡ true ↔ ((p a ≡ p b) × (like a b ≡ true))
  unfolding like_within
  like_within-view like a b = (
    λ e. let h = (both (same_truth (p a) (p b)) _).0 e in ((same_truth-path (p a) (p b)).0 h.0, h.1),
    λ h. (both _ _).1 ((same_truth-path (p a) (p b)).1 h.0, h.1),
  )

  pub like_within-same : (like : A → A → Bool) (a b : A) → p a ≡ true → p b ≡ true → like a b ≡ like_within like a b
  unfolding like_within
  like_within-same like a b h k = rw (h, k)

  pub greater_within-same : (greater : A → A → Bool) (a b : A) → p a ≡ true → p b ≡ true →
      greater a b ≡ greater_within greater a b
  unfolding greater_within
  greater_within-same greater a b h k = rw (h, k)

  -- The test decides P.
  module _ {P : A → Type 0} (decides : (a : A) → p a ≡ true ↔ P a) where
    pub greater_within-view : (greater : A → A → Bool) (a b : A) →
        greater_within greater a b ≡ true ↔ (P a × P b × (greater a b ≡ true))
    unfolding greater_within
    greater_within-view greater a b = (
      λ e. let (h, i) = (both (p a) _).0 e in
          let (k, g) = (both (p b) _).0 i in ((decides a).0 h, (decides b).0 k, g),
      λ h. (both _ _).1 ((decides a).1 h.0, (both _ _).1 ((decides b).1 h.1, h.2)),
    )

    like_within-moves : (like : A → A → Bool) (a b : A) → like_within like a b ≡ true → P a → P b
    like_within-moves like a b e x = (decides b).0 (sym ((like_within-view like a b).0 e).0 ∙ (decides a).1 x)

module _ {A : Type 0} (p : A → Bool) (like : A → A → Bool) (E : IsEquivalence like) where
  pub within-equivalence : IsEquivalence (like_within p like)
  within-equivalence = record {
    reflexive = λ a. (like_within-view p like a a).1 (refl, E.reflexive a);
    symmetric = λ {a} {b} e.
        let (q, h) = (like_within-view p like a b).0 e in (like_within-view p like b a).1 (sym q, E.symmetric h);
    transitive = λ {a} {b} {c} e f.
        let (q, h) = (like_within-view p like a b).0 e in
        let (r, k) = (like_within-view p like b c).0 f in
        (like_within-view p like a c).1 (q ∙ r, E.transitive h k);
  }

  module _ {P : A → Type 0} (decides : (a : A) → p a ≡ true ↔ P a) (greater : A → A → Bool)
      (O : IsStrictOrderOn P like greater) where
    pub within-order : IsStrictOrder (like_within p like) (greater_within p greater)
    within-order = record {
      transitive = λ {a} {b} {c} e f.
          let (u, v, g) = (greater_within-view p decides greater a b).0 e in
          let (_, w, h) = (greater_within-view p decides greater b c).0 f in
          (greater_within-view p decides greater a c).1 (u, w, O.transitive u v w g h);
      irreflexive = λ {a} {b} e f.
          let (u, v, g) = (greater_within-view p decides greater a b).0 e in
          O.irreflexive u v g ((like_within-view p like a b).0 f).1;
      respects = λ {a} {a'} {b} {b'} e f g.
          let (u, v, h) = (greater_within-view p decides greater a b).0 g in
          let u' = like_within-moves p decides like a a' e u in
          let v' = like_within-moves p decides like b b' f v in
          let i = ((like_within-view p like a a').0 e).1 in
          let j = ((like_within-view p like b b').0 f).1 in
          (greater_within-view p decides greater a' b').1 (u', v', O.respects u u' v v' i j h);
    }
