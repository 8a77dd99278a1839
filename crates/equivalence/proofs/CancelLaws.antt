-- The cancelling of equivalent terms at two lists of offsets: what one step of the scan does.
--     Cancelling                           what is kept and what is still ahead answer for the whole
--     cancelling-kept, cancelling-spent    a term without a partner, and with one
use mathlib.Core.List.{List, [], ◌∷◌, ◌++◌, map, append_assoc}
use mathlib.Core.Path.{◌≡◌, refl, ap, ◌∙◌}
use Prim.Native.Nat.{ℕ, suc, zero, ◌+◌, ◌-◌, ◌≤◌, ◌<◌}
use native.Mathlib.Omega.{arith}
use native.Mathlib.Numerals.{add-one}
use lib.ListN.{length, get_or, take, drop, set, length-set}
use lib.Seq.{get_or-take, length-take-le, drop-cons, take-set-lt, drop-set-lt, get_or-set_same, get_or-set_other}
use Rattle.multisets.specs.Multiset.{Rest, remove, spend, cancel}
use Rattle.multisets.proofs.Relations.{by_order}
use Rattle.terms.specs.Term.{Term}
use Rattle.terms.specs.Equivalence.{is_equivalent}
use Rattle.symbols.specs.Table.{signature_of}
use Rattle.subterms.specs.Parts.{part_at}
use Rattle.equivalence.specs.Offsets.{AtOffsets, First, deleted, alike_at, terms_at, left_at}
use Rattle.equivalence.proofs.OffsetLaws.{offset-added}
use Rattle.equivalence.proofs.RemovalLaws.{removed-none, removed-one, removed-offsets}

drop-taken : {A : Type 0} (l : List A) (n : ℕ) → drop n (take n l) ≡ []
drop-taken l zero = refl
drop-taken [] (suc n) = refl
drop-taken (a ∷ l) (suc n) = drop-taken l n

module _ (table : List ℕ) where
  -- The terms at the offsets from k up to n, and what is left of them and of the terms at m others.
  abbrev rest_from : List ℕ → List ℕ → ℕ → ℕ → List Term
  rest_from ws offsets k n = map (part_at (signature_of table) ws) (drop k (take n offsets))

  abbrev left_from : List ℕ → List ℕ → ℕ → ℕ → List ℕ → List ℕ → ℕ → Rest Term
  left_from s ps k n t qs m = cancel (is_equivalent (signature_of table)) (rest_from s ps k n) (terms_at table t qs m)

pub record Cancelling (table s t ps₀ : List ℕ) (n : ℕ) (qs₀ : List ℕ) (m₀ : ℕ) (ps qs : List ℕ) (k m kept : ℕ) : Type 0
  where
    pub behind : kept ≤ k
    pub within : k ≤ n
    pub fewer : m ≤ m₀
    pub left : AtOffsets (signature_of table) s ps n (terms_at table s ps n)
    pub right : AtOffsets (signature_of table) t qs m (terms_at table t qs m)
    pub same_left : terms_at table s ps kept ++ (left_from table s ps k n t qs m).left ≡ (left_at table s ps₀ n t qs₀ m₀).left
    pub same_right : (left_from table s ps k n t qs m).right ≡ (left_at table s ps₀ n t qs₀ m₀).right

module _ {table s t ps₀ : List ℕ} {n : ℕ} {qs₀ : List ℕ} {m₀ : ℕ} {ps qs : List ℕ} {k m kept : ℕ}
    (C : Cancelling table s t ps₀ n qs₀ m₀ ps qs k m kept) where
  kept-offsets : AtOffsets (signature_of table) s ps kept (terms_at table s ps kept)
  kept-offsets = record {
    room = C.left.room;
    few = omega (arith, C.left.few, C.behind, C.within);
    inside = λ x y. C.left.inside x (omega (arith, C.behind, C.within));
    there = refl;
  }

  module _ (l : k < n) where
    abbrev first : Term
    first = part_at (signature_of table) s (get_or ps k 0)

    rest-cons : rest_from table s ps k n ≡ first ∷ rest_from table s ps (k + 1) n
    rest-cons =
        let b : length (take n ps) ≡ n = length-take-le n ps (omega (arith, C.left.room, C.left.few)) in
        let d : drop k (take n ps) ≡ get_or ps k 0 ∷ drop (k + 1) (take n ps) =
        drop-cons (take n ps) k 0 (omega arith) ∙ rw (add-one, get_or-take n ps k 0 l) in
        ap (map (part_at (signature_of table) s)) d

    left_step : left_from table s ps k n t qs m
        ≡ spend first (cancel (is_equivalent (signature_of table)) (rest_from table s ps (k + 1) n)) (terms_at table t qs m)
        (remove (is_equivalent (signature_of table) first) (terms_at table t qs m))
    left_step = ap (λ (z : List Term). cancel (is_equivalent (signature_of table)) z (terms_at table t qs m)) rest-cons

    -- After the store of an offset that is kept.
    abbrev stored : List ℕ
    stored = set ps kept (get_or ps k 0)

    stored-rest : rest_from table s stored (k + 1) n ≡ rest_from table s ps (k + 1) n
    stored-rest = ap (map (part_at (signature_of table) s))
        (ap (drop (k + 1)) (take-set-lt n ps kept (get_or ps k 0) (omega (arith, C.behind)))
        ∙ drop-set-lt (k + 1) (take n ps) kept (get_or ps k 0) (omega (arith, C.behind)))

    stored-offsets : AtOffsets (signature_of table) s stored n (terms_at table s stored n)
    stored-offsets =
        let P = C.left in
        let h = C.behind in
        record {
          room = length-set ps kept _ ∙ P.room;
          few = P.few;
          inside = λ x y. by_order x kept
              (λ a. rw (get_or-set_other ps kept x (get_or ps k 0) 0 (omega arith)) (P.inside x y))
              λ a. by_order kept x
              (λ b. rw (get_or-set_other ps kept x (get_or ps k 0) 0 (omega arith)) (P.inside x y))
              λ b. let d : x ≡ kept = omega arith in
              rw (d, get_or-set_same ps kept (get_or ps k 0) 0 (omega (arith, P.room, P.few))) (P.inside k l);
          there = refl;
        }

    module _ {r : ℕ} (F : First (λ (x : ℕ). alike_at table s (get_or ps k 0) t (get_or qs x 0)) m r) where
      pub cancelling-kept : r ≡ m → Cancelling table s t ps₀ n qs₀ m₀ (set ps kept (get_or ps k 0)) qs (k + 1) m
          (kept + 1)
      cancelling-kept q =
          let σ = signature_of table in
          let d : terms_at table s stored (kept + 1) ≡ terms_at table s ps kept ++ first ∷ [] =
          (offset-added σ s ps kept (get_or ps k 0) _ kept-offsets (C.left.inside k l)
          (omega (arith, C.left.few, C.behind))).there in
          let e = left_step ∙ ap (spend first (cancel (is_equivalent σ) (rest_from table s ps (k + 1) n))
          (terms_at table t qs m))
          (removed-none table first C.right F q) in
          record {
            behind = omega (arith, C.behind);
            within = omega arith;
            fewer = C.fewer;
            left = stored-offsets;
            right = C.right;
            same_left = rw (d, stored-rest, append_assoc) (rw e at C.same_left);
            same_right = rw stored-rest (rw e at C.same_right);
          }

      pub cancelling-spent : (out : List ℕ) → (r ≡ m → ⊥) → take (m - 1) out ≡ deleted r (take m qs) →
          length out ≡ length qs → Cancelling table s t ps₀ n qs₀ m₀ ps out (k + 1) (m - 1) kept
      cancelling-spent out q o z =
          let σ = signature_of table in
          let e = left_step ∙ ap (spend first (cancel (is_equivalent σ) (rest_from table s ps (k + 1) n))
          (terms_at table t qs m))
          (removed-one table first C.right F q out o) in
          record {
            behind = omega (arith, C.behind);
            within = omega arith;
            fewer = omega (arith, C.fewer);
            left = C.left;
            right = removed-offsets table first C.right F q out o z;
            same_left = rw e at C.same_left;
            same_right = rw e at C.same_right;
          }
