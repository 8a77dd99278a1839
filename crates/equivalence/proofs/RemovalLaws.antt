-- Removing the first equivalent term from a list of offsets.
--     remove-none, remove-at                  a removal, by the index of the first that passes
--     equal-none, equal-absent, equal-without one step of the multiset equality
--     removed-none, removed-one               the same for terms at offsets
--     removed-offsets                         what is left are offsets again
use mathlib.Core.List.{List, [], ◌∷◌, map}
use mathlib.Core.Path.{◌≡◌, refl, sym, ap, ◌∙◌}
use mathlib.Core.Bool.{Bool, true, false}
use Prim.Native.Nat.{ℕ, suc, zero, ◌-◌, ◌≤◌, ◌<◌}
use native.Mathlib.Omega.{arith}
use lib.Dec.{eqb}
use lib.ListN.{length, get_or, take}
use lib.Seq.{get_or-take, length-take-le}
use borrow.Author.Tests.{ne_eqb}
use Rattle.multisets.specs.Multiset.{remove, multiset_equal}
use Rattle.multisets.specs.Multiset.Removal.{without, absent}
use Rattle.terms.specs.Term.{Term}
use Rattle.terms.specs.Equivalence.{is_equivalent}
use Rattle.symbols.specs.Table.{signature_of}
use Rattle.subterms.specs.Parts.{part_at}
use Rattle.equivalence.specs.Offsets.{AtOffsets, First, deleted, terms_at}

module _ {A : Type 0} (p : A → Bool) (g : ℕ → A) where
  pub remove-none : (qs : List ℕ) → ((k : ℕ) → k < length qs → p (g (get_or qs k 0)) ≡ false) → remove p (map g qs) ≡
      absent
  remove-none [] h = refl
  remove-none (q ∷ qs) h = rw (h 0 (omega arith), remove-none qs (λ k l. h (suc k) (omega arith)))

  pub remove-at : (qs : List ℕ) (r : ℕ) → r < length qs → ((k : ℕ) → k < r → p (g (get_or qs k 0)) ≡ false) →
      p (g (get_or qs r 0)) ≡ true → remove p (map g qs) ≡ without (map g (deleted r qs))
  remove-at [] r h b f = absurd (omega arith)
  remove-at (q ∷ qs) zero h b f = rw f
  remove-at (q ∷ qs) (suc r) h b f =
      rw (b 0 (omega arith), remove-at qs r (omega arith) (λ k l. b (suc k) (omega arith)) f)

module _ {A : Type 0} (like : A → A → Bool) where
  pub equal-none : (g : ℕ → A) (qs : List ℕ) (m : ℕ) → m ≤ length qs → eqb m 0 ≡ multiset_equal like []
      (map g (take m qs))
  unfolding multiset_equal
  equal-none g qs zero h = refl
  equal-none g [] (suc m) h = absurd (omega arith)
  equal-none g (q ∷ qs) (suc m) h = ne_eqb (suc m) 0 (λ e. omega arith)

  pub equal-absent : (s : A) (ss ts : List A) → remove (like s) ts ≡ absent → multiset_equal like (s ∷ ss) ts ≡ false
  unfolding multiset_equal
  equal-absent s ss ts e = rw e

  pub equal-without : (s : A) (ss ts us : List A) → remove (like s) ts ≡ without us →
      multiset_equal like (s ∷ ss) ts ≡ multiset_equal like ss us
  unfolding multiset_equal
  equal-without s ss ts us e = rw e

pub deleted-inside : (n : ℕ) (l : List ℕ) (k : ℕ) → ((p : ℕ) → p < length l → get_or l p 0 < n) →
    (p : ℕ) → p < length (deleted k l) → get_or (deleted k l) p 0 < n
deleted-inside n [] k h p q = absurd (omega arith)
deleted-inside n (a ∷ l) zero h p q = h (suc p) (omega arith)
deleted-inside n (a ∷ l) (suc k) h zero q = h 0 (omega arith)
deleted-inside n (a ∷ l) (suc k) h (suc p) q = deleted-inside n l k (λ x y. h (suc x) (omega arith)) p (omega arith)

-- The terms at offsets, less the first that is equivalent to x.
module _ (table : List ℕ) (x : Term) {t offsets : List ℕ} {m k : ℕ}
    (P : AtOffsets (signature_of table) t offsets m (terms_at table t offsets m))
    (F : First (λ (k : ℕ). is_equivalent (signature_of table) x (part_at (signature_of table) t (get_or offsets k 0))) m k)
  where
    taken-length : length (take m offsets) ≡ m
    taken-length = length-take-le m offsets (omega (arith, P.room, P.few))

    pub removed-none : k ≡ m → remove (is_equivalent (signature_of table) x) (terms_at table t offsets m) ≡ absent
    removed-none q =
        let σ = signature_of table in
        remove-none (is_equivalent σ x) (part_at σ t) (take m offsets) λ y l.
        rw (get_or-take m offsets y 0 (omega (arith, taken-length))) (F.before y (omega (arith, taken-length)))

    module _ (q : k ≡ m → ⊥) (out : List ℕ) (o : take (m - 1) out ≡ deleted k (take m offsets)) where
      pub removed-one : remove (is_equivalent (signature_of table) x) (terms_at table t offsets m)
          ≡ without (terms_at table t out (m - 1))
      removed-one =
          let σ = signature_of table in
          let l : k < m = omega (arith, F.within) in
          rw o (remove-at (is_equivalent σ x) (part_at σ t) (take m offsets) k (omega (arith, taken-length))
          (λ y z. rw (get_or-take m offsets y 0 (omega arith)) (F.before y z))
          (rw (get_or-take m offsets k 0 l) (F.found l)))

      pub removed-offsets : length out ≡ length offsets →
          AtOffsets (signature_of table) t out (m - 1) (terms_at table t out (m - 1))
      removed-offsets z =
          let l : length (take (m - 1) out) ≡ m - 1 = length-take-le (m - 1) out (omega (arith, P.room, P.few)) in
          record {
            room = z ∙ P.room;
            few = omega (arith, P.few);
            inside = λ x y.
                let u : x < length (deleted k (take m offsets)) = omega (arith, ap length o) in
                let v : get_or out x 0 ≡ get_or (deleted k (take m offsets)) x 0 =
                sym (get_or-take (m - 1) out x 0 y) ∙ ap (λ (l : List ℕ). get_or l x 0) o in
                rw v (deleted-inside (length t) (take m offsets) k
                (λ b c. rw (get_or-take m offsets b 0 (omega (arith, taken-length)))
                (P.inside b (omega (arith, taken-length)))) x u);
            there = refl;
          }
