-- What a search along a pattern's words covers, and what it reaches.
--     advance-free, -bound, -clash, -arguments, -regroupings     one word: what is yet to be matched after it
--     covers-end, covers-word, covers-none, covers_one           what holds of all that is bound at the end
--     covers-masks, reached-mask                                 an AC symbol, by the masks within the mask of its sum
--     reached-word, reached-one                                  one word more is reached
use mathlib.Core.List.Memᴰ
use mathlib.Core.List.{List, [], ◌∷◌, ◌++◌, map, Memᴰ}
use mathlib.Core.Path.{◌≡◌, refl, sym, subst}
use mathlib.Core.Bool.{true, false, cond}
use Prim.Native.Nat.{ℕ, ◌-◌, ◌^◌, ◌≤◌, ◌<◌}
use lib.ListN.{length}
use borrow.Author.Tests.{lt-ltb, le-ltb}
use Rattle.multisets.proofs.Relations.{by_test, eqb-self}
use Rattle.multisets.proofs.FlatMapLaws.{flat_map-member, member-flat_map}
use Rattle.terms.specs.Signature.{Signature, symbol_of}
use Rattle.terms.specs.Term.{Term, Terms, row, flattenings}
use Rattle.terms.specs.Term.Term.{var, app}
use Rattle.terms.specs.Equivalence.{pair, is_equivalent}
use Rattle.terms.specs.Words.{first_variable}
use Rattle.terms.proofs.FlatteningLaws.{NotRoot}
use Rattle.simplifying.specs.Masks.{Within, masked}
use Rattle.simplifying.specs.Matching.{Bindings, bind_to, regroupings, groupings}
use Rattle.simplifying.specs.Matching.Binding.{free, bound}
use Rattle.simplifying.specs.Agenda.{Agenda, agenda, advance, follows}
use Rattle.simplifying.specs.Pieces.{masked_sum, Covers}
use Rattle.simplifying.proofs.SumLaws.{regroupings-divided, divided-regroupings, divided-of}
use Rattle.simplifying.proofs.SumLaws.{divided-bounds}
use Rattle.simplifying.proofs.AgendaLaws.{follows-append}

module _ (σ : Signature) (w : ℕ) (ts : List Term) (b : Bindings) where
  -- ---- one word

  module _ (t : Term) (v : first_variable ≤ w) where
    pub advance-free : b (w - first_variable) ≡ free →
        advance σ w (t ∷ ts) b ≡ agenda ts (bind_to (w - first_variable) t b) ∷ []
    advance-free e = rw (le-ltb w first_variable v, e)

    pub advance-bound : (u : Term) → b (w - first_variable) ≡ bound u →
        advance σ w (t ∷ ts) b ≡ cond (is_equivalent σ u t) (agenda ts b ∷ []) []
    advance-bound u e =
        rw (le-ltb w first_variable v, e)
        (by_test (is_equivalent σ u t) (λ h. rw h) λ h. rw h)

  module _ (h : w < first_variable) where
    pub advance-clash : (t : Term) → NotRoot w t → advance σ w (t ∷ ts) b ≡ []
    unfolding groupings
    advance-clash (var x) n = rw (lt-ltb w first_variable h)
    advance-clash (app g us) n = rw (lt-ltb w first_variable h, n)

    pub advance-arguments : (us : Terms) → (symbol_of σ w).ac ≡ false →
        advance σ w (app w us ∷ ts) b ≡ agenda (row us ++ ts) b ∷ []
    unfolding groupings
    advance-arguments us c = rw (lt-ltb w first_variable h, eqb-self, c)

    pub advance-regroupings : (us : Terms) → (symbol_of σ w).ac ≡ true →
        advance σ w (app w us ∷ ts) b ≡ map (λ (vs : Terms). agenda (row vs ++ ts) b) (regroupings w us)
    unfolding groupings
    advance-regroupings us c = rw (lt-ltb w first_variable h, eqb-self, c)

module _ (σ : Signature) where
  -- ---- what is covered

  module _ (P : Bindings → Type 0) where
    pub covers-end : (a : Agenda) → P a.bindings → Covers σ P [] a
    unfolding follows
    covers-end a h d m = rw (Memᴰ.eq_of_singleton m) h

    module _ (w : ℕ) (ws : List ℕ) (a : Agenda) where
      pub covers-word : ((d : Agenda) → Memᴰ d (advance σ w a.pending a.bindings) → Covers σ P ws d) →
          Covers σ P (w ∷ ws) a
      unfolding follows
      covers-word h d m =
          let (c, i, j) = flat_map-member (follows σ ws) (advance σ w a.pending a.bindings) m in h c i d j

      pub covers-none : advance σ w a.pending a.bindings ≡ [] → Covers σ P (w ∷ ws) a
      covers-none e = covers-word λ d m. absurd (Memᴰ.not-nil (rw e at m))

      pub covers_one : (d : Agenda) → advance σ w a.pending a.bindings ≡ d ∷ [] → Covers σ P ws d →
          Covers σ P (w ∷ ws) a
      covers_one d e h = covers-word λ c m. rw (Memᴰ.eq_of_singleton (rw e at m)) h

    module _ (w : ℕ) (h : w < first_variable) (c : (symbol_of σ w).ac ≡ true) (us : Terms) (m : ℕ) (l : List Term)
        (e : flattenings w us ≡ masked m l) (ws : List ℕ) (ts : List Term) (b : Bindings) where
      pub covers-masks :
          ((a : ℕ) → Within a m → 0 < a → a < m →
          Covers σ P ws (agenda (masked_sum w a l ∷ (masked_sum w (m - a) l ∷ ts)) b)) →
          Covers σ P (w ∷ ws) (agenda (app w us ∷ ts) b)
      covers-masks k = covers-word w ws (agenda (app w us ∷ ts) b) λ d i.
          let j = rw (advance-regroupings σ w ts b h us c) at i in
          let (vs, n, q) = Memᴰ.of_map (λ (vs : Terms). agenda (row vs ++ ts) b) (regroupings w us) j in
          let x = regroupings-divided w us m l e vs n in
          let y = divided-bounds w m l vs x in
          subst (Covers σ P ws) q (subst (λ (us : Terms). Covers σ P ws (agenda (row us ++ ts) b)) (sym x.is_pair)
          (k x.mask x.within y.0 y.1))

  -- ---- what is reached

  module _ (vs : List ℕ) (start a : Agenda) (r : Memᴰ a (follows σ vs start)) (w : ℕ) where
    after-word : (d : Agenda) → Memᴰ d (advance σ w a.pending a.bindings) →
        Memᴰ d (follows σ (w ∷ []) a)
    unfolding follows
    after-word d m = member-flat_map (follows σ []) m (Memᴰ.head refl)

    pub reached-word : (d : Agenda) → Memᴰ d (advance σ w a.pending a.bindings) →
        Memᴰ d (follows σ (vs ++ w ∷ []) start)
    reached-word d m =
        rw (follows-append σ vs (w ∷ []) start) (member-flat_map (follows σ (w ∷ [])) r (after-word d m))

    pub reached-one : (d : Agenda) → advance σ w a.pending a.bindings ≡ d ∷ [] →
        Memᴰ d (follows σ (vs ++ w ∷ []) start)
    reached-one d e = reached-word d (rw e (Memᴰ.head refl))

  pub reached-mask : (vs : List ℕ) (start : Agenda) (w : ℕ) (us : Terms) (ts : List Term) (b : Bindings) →
      Memᴰ (agenda (app w us ∷ ts) b) (follows σ vs start) → w < first_variable → (symbol_of σ w).ac ≡ true →
      (m : ℕ) (l : List Term) → flattenings w us ≡ masked m l → m < 2 ^ length l → (a : ℕ) → Within a m → 0 < a →
      a < m → Memᴰ (agenda (masked_sum w a l ∷ (masked_sum w (m - a) l ∷ ts)) b) (follows σ (vs ++ w ∷ []) start)
  reached-mask vs start w us ts b r h c m l e k a i p q =
      let d = divided-of w m l a k i p q in
      let x = Memᴰ.map (λ (us : Terms). agenda (row us ++ ts) b) (divided-regroupings w us m l e
      (pair (masked_sum w a l) (masked_sum w (m - a) l)) d) in
      reached-word vs start (agenda (app w us ∷ ts) b) r w
      (agenda (masked_sum w a l ∷ (masked_sum w (m - a) l ∷ ts)) b) (rw (advance-regroupings σ w ts b h us c) x)
