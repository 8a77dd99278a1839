-- Lists of offsets: what taking one out, adding one and searching for one do to the terms there.
--     delete-moved                an element is taken out by moving the others down
--     offset-added                one offset more
--     offsets-length, offsets-own how many they are, and the list as it stands
use mathlib.Core.List.{List, [], ◌∷◌, ◌++◌, map, map-append}
use mathlib.Core.Path.{◌≡◌, refl, sym, ap, subst, ◌∙◌}
use Prim.Native.Nat.{ℕ, suc, zero, ◌+◌, ◌-◌, ◌≤◌, ◌<◌}
use native.Mathlib.Omega.{arith}
use native.Mathlib.Numerals.{add-one}
use native.Mathlib.Nat.{zero-add, suc-add}
use lib.ListN.{length, take, drop, set, length-set, length-map, length-drop}
use lib.Seq.{paste, take-paste, length-take-le, take-suc-set, get_or-set_same, get_or-set_other}
use Rattle.multisets.proofs.Relations.{by_order}
use Rattle.terms.specs.Signature.{Signature}
use Rattle.terms.specs.Term.{Term}
use Rattle.subterms.specs.Parts.{part_at}
use Rattle.equivalence.specs.Offsets.{AtOffsets, deleted}

-- ---- delete

deleted-split : (l : List ℕ) (k n : ℕ) → k < length l →
    deleted k (take (suc (k + n)) l) ≡ take k l ++ take n (drop (suc k) l)
deleted-split [] k n h = absurd (omega arith)
deleted-split (a ∷ l) zero n h = rw zero-add
deleted-split (a ∷ l) (suc k) n h = rw suc-add (ap (◌∷◌ a) (deleted-split l k n (omega arith)))

pub delete-moved : (l out : List ℕ) (k m : ℕ) → k < m → m ≤ length l →
    out ≡ paste l k (drop (k + 1) l) (m - (k + 1)) → take (m - 1) out ≡ deleted k (take m l)
delete-moved l out k m h i e =
    let n = m - (k + 1) in
    let a : m - 1 ≡ k + n = omega arith in
    let b : m ≡ suc (k + (m - suc k)) = omega arith in
    rw (e, a, take-paste l k (drop (k + 1) l) n (omega arith) (omega (arith, length-drop (k + 1) l)), add-one)
    (subst (λ (x : ℕ). take k l ++ take (m - suc k) (drop (suc k) l) ≡ deleted k (take x l)) (sym b)
    (sym (deleted-split l k (m - suc k) (omega arith))))

-- ---- offsets

module _ (σ : Signature) where
  pub offset-added : (ws offsets : List ℕ) (k j : ℕ) (l : List Term) → AtOffsets σ ws offsets k l → j < length ws → k < 64
      →
      AtOffsets σ ws (set offsets k j) (k + 1) (l ++ part_at σ ws j ∷ [])
  offset-added ws offsets k j l h i f =
      let room = h.room in
      let e : take (k + 1) (set offsets k j) ≡ take k offsets ++ j ∷ [] = rw add-one
      (take-suc-set offsets k j (omega arith)) in
      record {
        room = length-set offsets k j ∙ h.room;
        few = omega arith;
        inside = λ p q. by_order p k (λ a. rw (get_or-set_other offsets k p j 0 (omega arith)) (h.inside p a))
            λ a. let d : p ≡ k = omega arith in rw (d, get_or-set_same offsets k j 0 (omega arith)) i;
        there = ap (map (part_at σ ws)) e ∙ map-append (part_at σ ws) (take k offsets) (j ∷ [])
            ∙ ap (λ (x : List Term). x ++ part_at σ ws j ∷ []) h.there;
      }

-- ---- how many they are

pub offsets-length : {σ : Signature} {ws ps : List ℕ} {m : ℕ} {l : List Term} → AtOffsets σ ws ps m l → length l ≡ m
offsets-length {σ} {ws} {ps} {m} P =
    ap length (sym P.there) ∙ length-map (take m ps) (part_at σ ws) ∙ length-take-le m ps
    (omega (arith, P.room, P.few))

-- ---- the list as it stands

pub offsets-own : (σ : Signature) (ws offsets : List ℕ) (m : ℕ) (l : List Term) → AtOffsets σ ws offsets m l →
    AtOffsets σ ws offsets m (map (part_at σ ws) (take m offsets))
offsets-own σ ws offsets m l h = record { room = h.room; few = h.few; inside = h.inside; there = refl }
