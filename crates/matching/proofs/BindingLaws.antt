-- What a pattern's variables are bound to.
--     occurs_told                                whether a word occurs among the first ones, as `contains` tells
--     occurs-grows                               and then among more of them
--     kept-bindings                              where their pieces are as they were, so is what they are bound to
--     symbol-bindings                            a symbol binds nothing
--     variable-small, bound-piece, piece-room    its number, its piece and the room for that
--     takes-again, takes_first                   a variable that is bound, and one that is not
use mathlib.Core.List.{List, [], ◌∷◌}
use mathlib.Core.Path.{◌≡◌, refl, sym, ap, ◌∙◌, fun_ext}
use mathlib.Core.Bool.{Bool, true, false, false≢true}
use Prim.Native.Nat.{ℕ, suc, zero, ◌+◌, ◌-◌, ◌≤◌, ◌<◌}
use native.Mathlib.Omega.{arith}
use native.Mathlib.Numerals.{add-one}
use lib.Dec.{eqb}
use lib.ListN.{length, get_or, set, length-set, take}
use Rattle.std.specs.List.{list_any}
use Rattle.std.proofs.lemmas.List.Folds.{list_any_more}
use lib.Seq.{get_or-set_same, get_or-set_other}
use borrow.Author.Tests.{eq-eqb, ne_eqb, eqb-true, eqb-false}
use Rattle.multisets.proofs.Relations.{by_test}
use Rattle.terms.specs.Signature.{Signature}
use Rattle.terms.specs.Words.{first_variable, words}
use Rattle.terms.specs.Equivalence.{is_equivalent}
use Rattle.simplifying.specs.Matching.{Bindings, bind_to}
use Rattle.simplifying.specs.Matching.Binding.{free, bound}
use Rattle.simplifying.specs.Agenda.{agenda}
use Rattle.simplifying.proofs.CoverLaws.{advance-free, advance-bound}
use Rattle.pieces.specs.Buffer.{Same}
use Rattle.pieces.specs.Pieces.{piece_at, image_at}
use Rattle.pieces.proofs.NodeLaws.{same-pieces}
use Rattle.matching.proofs.SizeLaws.{piece-short}
use Rattle.matching.specs.Agenda.{IsPending}
use Rattle.matching.specs.Bindings.{occurs_before, Matching, AreBound, bindings_at, KeptBindings, Takes}

-- ---- whether a word occurs

module _ (ps : List ℕ) (w : ℕ) where
  occurs-any : (n : ℕ) → n ≤ length ps → list_any (λ (y : ℕ). eqb y w) (take n ps) ≡ occurs_before ps w n
  unfolding occurs_before
  occurs-any zero h = refl
  occurs-any (suc n) h =
      let e = rw add-one at (list_any_more (λ (y : ℕ). eqb y w) ps n 0 (omega arith)) in
      e ∙ rw (occurs-any n (omega arith))
      (by_test (eqb (get_or ps n 0) w)
      (λ d. rw d (by_test (occurs_before ps w n) (λ b. rw b) (λ b. rw b)))
      λ d. rw d (by_test (occurs_before ps w n) (λ b. rw b) (λ b. rw b)))

  pub occurs_told : {n : ℕ} {r : Bool} → n ≤ length ps → r ≡ list_any (λ (y : ℕ). eqb y w) (take n ps) →
      r ≡ occurs_before ps w n
  occurs_told {n} h e = e ∙ occurs-any n h

  occurs-own : (n : ℕ) → get_or ps n 0 ≡ w → occurs_before ps w (n + 1) ≡ true
  unfolding occurs_before
  occurs-own n e = rw (add-one, eq-eqb (get_or ps n 0) w e)

  occurs-other : (n : ℕ) → (get_or ps n 0 ≡ w → ⊥) → occurs_before ps w (n + 1) ≡ occurs_before ps w n
  unfolding occurs_before
  occurs-other n d = rw (add-one, ne_eqb (get_or ps n 0) w d)

  pub occurs-grows : (n : ℕ) → occurs_before ps w n ≡ true → occurs_before ps w (n + 1) ≡ true
  unfolding occurs_before
  occurs-grows n e = rw add-one (by_test (eqb (get_or ps n 0) w) (λ d. rw d) λ d. rw d e)

-- ---- bindings

module _ (σ : Signature) (ws ps : List ℕ) where
  pub kept-bindings : (n : ℕ) (offsets masks others rest : List ℕ) →
      KeptBindings σ ws ps n offsets masks others rest →
      bindings_at σ ws ps n others rest ≡ bindings_at σ ws ps n offsets masks
  kept-bindings n offsets masks others rest k = fun_ext λ x.
      by_test (occurs_before ps (first_variable + x) n)
      (λ e. let (a, b) = k x e in rw (e, a, b)) λ e. rw e

  pub symbol-bindings : (p : ℕ) → get_or ps p 0 < first_variable → (offsets masks : List ℕ) →
      bindings_at σ ws ps (p + 1) offsets masks ≡ bindings_at σ ws ps p offsets masks
  symbol-bindings p h offsets masks = fun_ext λ x.
      rw (occurs-other ps (first_variable + x) p λ e. omega arith)

  module _ (p : ℕ) (v : first_variable ≤ get_or ps p 0) (offsets masks : List ℕ) where
    abbrev x : ℕ
    x = get_or ps p 0 - first_variable

    own : first_variable + x ≡ get_or ps p 0
    own = omega arith

    again : occurs_before ps (get_or ps p 0) p ≡ true →
        bindings_at σ ws ps (p + 1) offsets masks ≡ bindings_at σ ws ps p offsets masks
    again h = fun_ext λ y.
        by_test (eqb (get_or ps p 0) (first_variable + y))
        (λ e. let d = eqb-true (get_or ps p 0) (first_variable + y) e in
        rw (occurs-own ps (first_variable + y) p d, ← d, h))
        λ e. rw (occurs-other ps (first_variable + y) p (eqb-false (get_or ps p 0) (first_variable + y) e))

    bound-own : occurs_before ps (get_or ps p 0) p ≡ true →
        bindings_at σ ws ps p offsets masks x ≡ bound (image_at σ ws offsets masks x)
    bound-own h = rw (own, h)

    free_own : occurs_before ps (get_or ps p 0) p ≡ false → bindings_at σ ws ps p offsets masks x ≡ free
    free_own h = rw (own, h)

    module _ (i mask : ℕ) (r : x < length offsets) (q : x < length masks) where
      first : bind_to x (piece_at σ ws i mask) (bindings_at σ ws ps p offsets masks)
          ≡ bindings_at σ ws ps (p + 1) (set offsets x i) (set masks x mask)
      first = fun_ext λ y.
          by_test (eqb x y)
          (λ e. let d = eqb-true x y e in
          rw (
            e,
            ← d,
            own,
            occurs-own ps (get_or ps p 0) p refl,
            get_or-set_same offsets x i 0 r,
            get_or-set_same masks x mask 0 q,
          ))
          λ e. let d = eqb-false x y e in
          let g : get_or ps p 0 ≡ first_variable + y → ⊥ = λ z. d (omega arith) in
          let n : y ≡ x → ⊥ = λ z. d (sym z) in
          rw (
            e,
            occurs-other ps (first_variable + y) p g,
            get_or-set_other offsets x y i 0 n,
            get_or-set_other masks x y mask 0 n,
          )

-- ---- a variable

pub piece-room : {σ : Signature} {ws keys ps : List ℕ} → Matching σ ws keys ps → {i mask : ℕ} → IsPending σ ws i mask →
    length (words (piece_at σ ws i mask)) ≤ 48
piece-room M {i} {mask} I =
    omega (arith, piece-short M.subject M.prepared.complete i I.is_piece.inside mask I, M.short)

module _ {σ : Signature} {ws keys ps : List ℕ} (M : Matching σ ws keys ps) {p : ℕ} (h : p < length ps)
    (v : first_variable ≤ get_or ps p 0) {x : ℕ} (e : x ≡ get_or ps p 0 - first_variable) where
  pub variable-small : x < 18
  variable-small = omega (arith, v, M.pattern.nodes p h)

  pub bound-piece : {offsets masks : List ℕ} → AreBound σ ws offsets masks → {j : ℕ} → j ≡ get_or offsets x 0 →
      IsPending σ ws j (get_or masks x 0)
  bound-piece B d = rw d (B.pieces x variable-small)

  module _ {offsets masks : List ℕ} (B : AreBound σ ws offsets masks) {i mask : ℕ} (I : IsPending σ ws i mask) where
    pub takes-again : true ≡ occurs_before ps (get_or ps p 0) p → {j other : ℕ} → j ≡ get_or offsets x 0 →
        other ≡ get_or masks x 0 → (r : Bool) →
        Same r (words (piece_at σ ws j other)) (words (piece_at σ ws i mask)) →
        Takes σ ws ps p offsets masks (piece_at σ ws i mask) r offsets masks
    takes-again o {j} {other} d g r s =
        let J : IsPending σ ws j other = rw (d, g) (B.pieces x variable-small) in
        let t = piece_at σ ws i mask in
        let u = image_at σ ws offsets masks x in
        let q : r ≡ is_equivalent σ u t =
        rw (← d, ← g) (same-pieces M.subject M.prepared.complete j other i mask J.is_piece J.ac I.is_piece
        I.ac r s) in
        let k : bindings_at σ ws ps p offsets masks (get_or ps p 0 - first_variable) ≡ bound u =
        rw e (bound-own σ ws ps p v offsets masks (sym o)) in
        let a = again σ ws ps p v offsets masks (sym o) in
        record {
          yes = λ y ts. advance-bound σ (get_or ps p 0) ts (bindings_at σ ws ps p offsets masks) t v u k
              ∙ rw (sym q ∙ y, a);
          no = λ y ts. advance-bound σ (get_or ps p 0) ts (bindings_at σ ws ps p offsets masks) t v u k
              ∙ rw (sym q ∙ y);
          kept = λ y z. (refl, refl);
          bound = B;
        }

    stored-bound : AreBound σ ws (set offsets x i) (set masks x mask)
    stored-bound = record {
      offset_room = length-set offsets x i ∙ B.offset_room;
      mask_room = length-set masks x mask ∙ B.mask_room;
      pieces = λ y k. by_test (eqb x y)
          (λ q. let d = eqb-true x y q in
          rw (
            ← d,
            get_or-set_same offsets x i 0 (omega (arith, B.offset_room)),
            get_or-set_same masks x mask 0 (omega (
              arith,
              B.mask_room,
            )),
          ) I)
          λ q. let n : y ≡ x → ⊥ = λ z. eqb-false x y q (sym z) in
          rw (get_or-set_other offsets x y i 0 n, get_or-set_other masks x y mask 0 n) (B.pieces y k);
    }

    stored-kept : false ≡ occurs_before ps (get_or ps p 0) p →
        KeptBindings σ ws ps p offsets masks (set offsets x i) (set masks x mask)
    stored-kept o y z =
        by_test (eqb x y)
        (λ q. let d = eqb-true x y q in
        let w : first_variable + y ≡ get_or ps p 0 = omega (arith, v) in
        absurd (false≢true (o ∙ rw w at z)))
        λ q. let n : y ≡ x → ⊥ = λ z. eqb-false x y q (sym z) in
        (get_or-set_other offsets x y i 0 n, get_or-set_other masks x y mask 0 n)

    pub takes_first : false ≡ occurs_before ps (get_or ps p 0) p →
        Takes σ ws ps p offsets masks (piece_at σ ws i mask) true (set offsets x i) (set masks x mask)
    takes_first o =
        let b = bindings_at σ ws ps p offsets masks in
        let t = piece_at σ ws i mask in
        record {
          yes = λ y ts. advance-free σ (get_or ps p 0) ts b t v (free_own σ ws ps p v offsets masks (sym o))
              ∙ rw e (ap (λ (c : Bindings). agenda ts c ∷ []) (first σ ws ps p v offsets masks i mask
              (omega (arith, variable-small, B.offset_room)) (omega (arith, variable-small, B.mask_room))));
          no = λ y ts. absurd (false≢true (sym y));
          kept = stored-kept o;
          bound = stored-bound;
        }
