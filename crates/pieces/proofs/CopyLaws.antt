-- Words put one after another.
--     store-none, store_then     no word, some words before others
--     put-none, put_then         the same with the offset after them
use mathlib.Core.List.{List, [], ◌∷◌, ◌++◌, append_assoc}
use mathlib.Core.Path.{◌≡◌, refl, sym, ap, ◌∙◌}
use Prim.Native.Nat.{ℕ, suc, ◌+◌, ◌≤◌}
use native.Mathlib.Omega.{arith}
use native.Mathlib.Nat.{add-zero, suc-add, add-suc}
use lib.ListN.{length, length-append, length-drop, set, take, drop}
use lib.Seq.{sets, sets-eq, drop-drop, length-take-le}
use borrow.Rule.Slice.PartMut.{put_mid}
use Rattle.pieces.specs.Buffer.{Stored, Put}

module _ (l : List ℕ) (at : ℕ) where
  pub store-none : length l ≡ 48 → Stored l at [] l
  store-none e = record { stored = refl; room = e }

sets-append : (l : List ℕ) (i : ℕ) (xs ys : List ℕ) → sets l i (xs ++ ys) ≡ sets (sets l i xs) (i + length xs) ys
sets-append l i [] ys = rw add-zero
sets-append l i (x ∷ xs) ys = sets-append (set l i x) (suc i) xs ys ∙ rw (suc-add, add-suc)

pub store_then : (l : List ℕ) (at : ℕ) (vs ws mid out : List ℕ) → Stored l at vs mid →
    Stored mid (at + length vs) ws out → Stored l at (vs ++ ws) out
store_then l at vs ws mid out h k = record {
  stored = k.stored ∙ ap (λ (m : List ℕ). sets m (at + length vs) ws) h.stored ∙ sym (sets-append l at vs ws);
  room = k.room;
}

-- ---- words put one after another

pub put-none : (l : List ℕ) (at : ℕ) → length l ≡ 48 → Put l at [] at l
put-none l at h = record { after = omega arith; there = store-none l at h }

pub put_then : {l : List ℕ} {at : ℕ} {vs us : List ℕ} {n : ℕ} {mid : List ℕ} {r : ℕ} {out : List ℕ} →
    Put l at vs n mid → Put mid n us r out → Put l at (vs ++ us) r out
put_then {l} {at} {vs} {us} {n} {mid} {r} {out} p q =
    let s : Stored mid (at + length vs) us out = rw (← p.after) q.there in
    record {
      after = omega (arith, p.after, q.after, length-append vs us);
      there = store_then l at vs us mid out p.there s;
    }

pub put_extended : {l ws vs : List ℕ} {at k : ℕ} → length l ≡ 48 → at + length ws ≤ 48 → k ≡ length ws → vs ≡ ws →
    Put l at ws (at + length ws) (put_mid at k l vs)
put_extended {l} {ws} {vs} {at} {k} e h d f =
    let rest : drop k (drop at l) ≡ drop (at + length ws) l = rw (d, drop-drop (length ws) at l) in
    record {
      after = omega arith;
      there = record {
        stored = rw (f, rest, sets-eq ws l at (omega arith)) (sym (append_assoc (take at l) ws (drop (at + length ws) l)));
        room = simp (length-append, length-drop) (omega (arith, length-take-le at l (omega arith), ap length f));
      };
    }
