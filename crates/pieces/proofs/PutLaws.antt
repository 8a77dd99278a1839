-- The words of a sum, put word by word: what each end of the walk over the terms shows.
--     forest-words, part-words                     the words of a part are those that stand there
--     Walking, walk-start, -own, -next, -taken     the walk to the first element that a mask takes
--     Counting, counting-start, -last, -more       how many words
--     Summing, summing-start, -last, -more         what is put
use mathlib.Core.List.{List, [], ◌∷◌, ◌++◌, map, append-nil}
use mathlib.Core.Path.{◌≡◌, refl, sym, ap, ◌∙◌}
use Prim.Native.Nat.{ℕ, suc, zero, ◌+◌, ◌-◌, ◌*◌, ◌/◌, ◌%◌, ◌^◌, ◌≤◌, ◌<◌}
use native.Mathlib.Nat.{pow-suc}
use native.Mathlib.Omega.{arith}
use lib.ListN.{length, get_or, take, drop, length-append, length-map, take-append-drop}
use lib.Seq.{take_at}
use borrow.Author.Tests.{lt-ltb, le-ltb}
use Rattle.multisets.proofs.Relations.{by_order}
use Rattle.terms.specs.Signature.{Signature, symbol_of}
use Rattle.terms.specs.Term.{Term, arguments, size}
use Rattle.terms.specs.Words.{first_variable, words, words_of, grow, forest_of}
use Rattle.terms.proofs.TermLaws.{size-pos}
use Rattle.terms.proofs.WordsLaws.{length-words}
use Rattle.simplifying.specs.Masks.{masked}
use Rattle.simplifying.specs.Pieces.{joined_words}
use Rattle.simplifying.proofs.MaskLaws.{masked-none, masked_on, masked_off, masked-some}
use Rattle.simplifying.proofs.HoleLaws.{words_of-append}
use Rattle.simplifying.proofs.SumLaws.{joined-more}
use Rattle.subterms.specs.Parts.{part_at, elements_at, Complete}
use Rattle.subterms.proofs.PartLaws.{stand-one, next}
use Rattle.equivalence.specs.Keys.{Prepared, size_in}
use Rattle.equivalence.proofs.StepLaws.{elements-own, elements-other, prepared-size, part_small}
use Rattle.equivalence.proofs.StepLaws.{step-own, step-next}
use Rattle.pieces.specs.Buffer.{Put}
use Rattle.pieces.specs.Sums.{sum_words, Masked, IsTaken}
use Rattle.pieces.proofs.CopyLaws.{put-none, put_then}

-- ---- the words of a part

module _ (σ : Signature) where
  grown-words : (w : ℕ) (ts : List Term) → words_of (arguments (grow σ w ts)) ≡ w ∷ words_of (arguments ts)
  grown-words w ts =
      let n = (symbol_of σ w).arity in
      by_order w first_variable
      (λ h. rw (lt-ltb w first_variable h) (ap (◌∷◌ w) (sym (words_of-append (take n ts) (drop n ts))
      ∙ ap (λ (us : List Term). words_of (arguments us)) (take-append-drop n ts))))
      λ h.
      let e : first_variable + (w - first_variable) ≡ w = omega arith in
      rw (le-ltb w first_variable h) (ap (λ (v : ℕ). v ∷ words_of (arguments ts)) e)

  pub forest-words : (ws : List ℕ) → words_of (arguments (forest_of σ ws)) ≡ ws
  unfolding forest_of
  forest-words [] = refl
  forest-words (w ∷ ws) = grown-words w (forest_of σ ws) ∙ ap (◌∷◌ w) (forest-words ws)

  pub part-words : (ws : List ℕ) (i : ℕ) → Complete σ ws → i < length ws →
      take (size (part_at σ ws i)) (drop i ws) ≡ words (part_at σ ws i)
  part-words ws i c h =
      let t = part_at σ ws i in
      let e : drop i ws ≡ words t ++ words_of (arguments (forest_of σ (drop (i + size t) ws))) =
      sym (forest-words (drop i ws))
      ∙ ap (λ (ts : List Term). words_of (arguments ts)) (next σ ws i c 1 (stand-one σ ws i h) (omega arith)) in
      ap (take (size t)) e ∙ (take_at (words t) (words_of (arguments (forest_of σ (drop (i + size t) ws)))) (size t)
      (length-words t))

-- ---- the walk

module _ {σ : Signature} {f : ℕ} {ws keys : List ℕ} (P : Prepared σ ws keys) {i n mask : ℕ}
    (M : Masked σ f ws i n mask) (some : 0 < mask) where
  owed-some : 0 < n
  owed-some = go n refl M.bound
    where
      go : (k : ℕ) → k ≡ n → mask < 2 ^ length (elements_at σ f ws i k) → 0 < n
      go zero e h = absurd (omega arith)
      go (suc k) e h = omega arith

  here : i < length ws
  here = omega (arith, owed-some, M.stands.fits)

  module _ (e : get_or ws i 0 ≡ f) where
    own : elements_at σ f ws i n ≡ elements_at σ f ws (i + 1) ((symbol_of σ f).arity + (n - 1))
    own = elements-own σ ws i P.complete f n owed-some M.stands e M.symbol

    masked-own : Masked σ f ws (i + 1) ((symbol_of σ f).arity + (n - 1)) mask
    masked-own = record {
      symbol = M.symbol;
      stands = step-own P M.stands owed-some f e M.symbol refl;
      bound = rw (← own) M.bound;
    }

  module _ (e : get_or ws i 0 ≡ f → ⊥) {w : ℕ} (d : w ≡ size (part_at σ ws i)) where
    others : elements_at σ f ws i n ≡ part_at σ ws i ∷ elements_at σ f ws (i + w) (n - 1)
    others = rw d (elements-other σ ws i P.complete f n owed-some M.stands e)

    half-bound : mask / 2 < 2 ^ length (elements_at σ f ws (i + w) (n - 1))
    half-bound =
        let l = elements_at σ f ws (i + w) (n - 1) in
        let k : length (elements_at σ f ws i n) ≡ suc (length l) = ap length others in
        omega (arith, M.bound, ap (λ (m : ℕ). 2 ^ m) k, pow-suc 2 (length l))

    masked-next : Masked σ f ws (i + w) (n - 1) (mask / 2)
    masked-next = record {
      symbol = M.symbol;
      stands = step-next P M.stands owed-some (d ∙ sym (prepared-size P i here));
      bound = half-bound;
    }

-- The walk over the terms at i has come to those at the offset at: the mask left takes there what the mask took.
pub record Walking (σ : Signature) (f : ℕ) (ws : List ℕ) (i mask at left : ℕ) : Type 0 where
  pub some : 0 < left
  pub ahead : i ≤ at
  pub now : (n : ℕ) → Masked σ f ws i n mask → (m : ℕ) × Masked σ f ws at m left
      × (masked mask (elements_at σ f ws i n) ≡ masked left (elements_at σ f ws at m))

pub walk-start : (σ : Signature) (f : ℕ) (ws : List ℕ) (i mask : ℕ) → 0 < mask → Walking σ f ws i mask i mask
walk-start σ f ws i mask h = record { some = h; ahead = omega arith; now = λ n M. (n, M, refl) }

module _ {σ : Signature} {f : ℕ} {ws keys : List ℕ} (P : Prepared σ ws keys) {i mask at left : ℕ}
    (W : Walking σ f ws i mask at left) where
  pub walk-inside : ((n : ℕ) × Masked σ f ws i n mask) → at < length ws
  walk-inside M = here P (W.now M.0 M.1).1 W.some

  pub walk-own : get_or ws at 0 ≡ f → Walking σ f ws i mask (at + 1) left
  walk-own e = record {
    some = W.some;
    ahead = omega (arith, W.ahead);
    now = λ n M.
        let m = (W.now n M).0 in
        let K = (W.now n M).1 in (
          (symbol_of σ f).arity + (m - 1),
          masked-own P K W.some e,
          (W.now n M).2 ∙ ap (masked left) (own P K W.some e),
        );
  }

  module _ (e : get_or ws at 0 ≡ f → ⊥) where
    pub walk-next : {w : ℕ} → w ≡ size_in keys at → at < length ws → left % 2 ≡ 0 →
        Walking σ f ws i mask (at + w) (left / 2)
    walk-next {w} d h z =
        let s = d ∙ prepared-size P at h in
        record {
          some = omega (arith, W.some);
          ahead = omega (arith, W.ahead);
          now = λ n M.
              let m = (W.now n M).0 in
              let K = (W.now n M).1 in (
                m - 1,
                masked-next P K W.some e s,
                (W.now n M).2 ∙ ap (masked left) (others P K W.some e s)
                    ∙ masked_off left (part_at σ ws at) (elements_at σ f ws (at + w) (m - 1)) z,
              );
        }

    pub walk-taken : left % 2 ≡ 1 → (n : ℕ) → Masked σ f ws i n mask → IsTaken σ f ws i n mask at (left / 2)
    walk-taken z n M =
        let m = (W.now n M).0 in
        let K = (W.now n M).1 in
        record {
          inside = here P K W.some;
          ahead = W.ahead;
          next = m - 1;
          others = masked-next P K W.some e refl;
          first = (W.now n M).2 ∙ ap (masked left) (others P K W.some e refl)
              ∙ masked_on left (part_at σ ws at) (elements_at σ f ws (at + size (part_at σ ws at)) (m - 1)) z;
        }

pub size-some : {σ : Signature} {ws keys : List ℕ} → Prepared σ ws keys → {i : ℕ} → i < length ws → 0 < size_in keys i
size-some {σ} {ws} P {i} h = omega (arith, prepared-size P i h, size-pos (part_at σ ws i))

-- ---- the first element, and those after it

sum_none : (σ : Signature) (f : ℕ) (ws : List ℕ) (i n mask : ℕ) → mask ≡ 0 → sum_words σ f ws i n mask ≡ []
unfolding joined_words
sum_none σ f ws i n mask e =
    rw e (ap (λ (ts : List Term). joined_words f (map words ts)) (masked-none (elements_at σ f ws i n)))

module _ {σ : Signature} {f : ℕ} {ws keys : List ℕ} (P : Prepared σ ws keys) {i n mask r rest : ℕ}
    (T : IsTaken σ f ws i n mask r rest) {e : ℕ} (d : e ≡ r + size_in keys r) where
  sized : e - r ≡ size (part_at σ ws r)
  sized = omega (arith, prepared-size P r T.inside)

  ended : e ≡ r + size (part_at σ ws r)
  ended = omega (arith, prepared-size P r T.inside)

  pub taken-fits : e ≤ length ws
  taken-fits = omega (arith, ended, part_small σ ws P.complete r T.inside)

  pub taken-some : r < e
  taken-some = omega (arith, ended, size-pos (part_at σ ws r))

  own-words : take (e - r) (drop r ws) ≡ words (part_at σ ws r)
  own-words = rw sized (part-words σ ws r P.complete T.inside)

  own-length : length (take (e - r) (drop r ws)) ≡ e - r
  own-length = ap length own-words ∙ length-words (part_at σ ws r) ∙ sym sized

  taken-next : Masked σ f ws e T.next rest
  taken-next = rw ended T.others

  abbrev later : List Term
  later = masked rest (elements_at σ f ws e T.next)

  taken-words : sum_words σ f ws i n mask ≡ joined_words f (take (e - r) (drop r ws) ∷ map words later)
  taken-words = rw (own-words, ended) (ap (λ (l : List Term). joined_words f (map words l)) T.first)

  sum-last : rest ≡ 0 → sum_words σ f ws i n mask ≡ take (e - r) (drop r ws) ++ sum_words σ f ws e T.next rest
  unfolding joined_words
  sum-last z =
      let none : later ≡ [] = rw z (masked-none (elements_at σ f ws e T.next)) in
      taken-words ∙ rw none (sym (append-nil (take (e - r) (drop r ws))))

  sum-more : 0 < rest →
      sum_words σ f ws i n mask ≡ f ∷ (take (e - r) (drop r ws) ++ sum_words σ f ws e T.next rest)
  sum-more h =
      let p = masked-some (elements_at σ f ws e T.next) rest h taken-next.bound in
      taken-words ∙ joined-more f (take (e - r) (drop r ws)) (map words later) (omega (arith, length-map later words))

-- ---- how many words

-- So many words are counted of the sum, and the mask left takes the others.
pub record Counting (σ : Signature) (f : ℕ) (ws : List ℕ) (i n mask at left count : ℕ) : Type 0 where
  pub owed : ℕ
  pub terms : Masked σ f ws at owed left
  pub ahead : i ≤ at
  pub small : count ≤ 2 * (at - i)
  pub whole : count + length (sum_words σ f ws at owed left) ≡ length (sum_words σ f ws i n mask)

module _ {σ : Signature} {f : ℕ} {ws : List ℕ} {i n mask : ℕ} where
  pub counting-start : Masked σ f ws i n mask → Counting σ f ws i n mask i mask 0
  counting-start M = record { owed = n; terms = M; ahead = omega arith; small = omega arith; whole = omega arith }

  module _ {at left count : ℕ} (C : Counting σ f ws i n mask at left count) where
    pub counting-done : left ≡ 0 → count ≡ length (sum_words σ f ws i n mask)
    counting-done z = omega (arith, C.whole, ap length (sum_none σ f ws at C.owed left z))

    pub counting-small : count ≤ 2 * (length ws - i)
    counting-small = omega (arith, C.small, C.ahead, C.terms.stands.fits)

    module _ {keys : List ℕ} (P : Prepared σ ws keys) {r rest : ℕ} (T : IsTaken σ f ws at C.owed left r rest) {w : ℕ}
        (d : w ≡ size_in keys r) where
      pub counting-last : rest ≡ 0 → Counting σ f ws i n mask (r + w) rest (count + w)
      counting-last z =
          let e : r + w ≡ r + size_in keys r = omega arith in
          let us = sum_words σ f ws (r + w) T.next rest in
          record {
            owed = T.next;
            terms = taken-next P T e;
            ahead = omega (arith, C.ahead, T.ahead);
            small = omega (arith, C.small, C.ahead, T.ahead);
            whole =
                omega (
                  arith,
                  C.whole,
                  ap length (sum-last P T e z),
                  length-append (take (r + w - r) (drop r ws)) us,
                  own-length P T e,
                );
          }

      pub counting-more : 0 < rest → Counting σ f ws i n mask (r + w) rest (count + (1 + w))
      counting-more h =
          let e : r + w ≡ r + size_in keys r = omega arith in
          let us = sum_words σ f ws (r + w) T.next rest in
          record {
            owed = T.next;
            terms = taken-next P T e;
            ahead = omega (arith, C.ahead, T.ahead);
            small = omega (arith, C.small, C.ahead, T.ahead, taken-some P T e);
            whole =
                omega (
                  arith,
                  C.whole,
                  ap length (sum-more P T e h),
                  length-append (take (r + w - r) (drop r ws)) us,
                  own-length P T e,
                );
          }

-- ---- what is put

-- Some words of the sum are put, and the mask left takes the others: with them, all are put.
pub record Summing (σ : Signature) (f : ℕ) (ws : List ℕ) (i n mask : ℕ) (first : List ℕ) (start : ℕ) (l : List ℕ)
    (count at left : ℕ) : Type 0 where
  pub owed : ℕ
  pub terms : Masked σ f ws at owed left
  pub room : count + length (sum_words σ f ws at owed left) ≤ 48
  pub whole : (r : ℕ) (out : List ℕ) → Put l count (sum_words σ f ws at owed left) r out →
      Put first start (sum_words σ f ws i n mask) r out

module _ {σ : Signature} {f : ℕ} {ws : List ℕ} {i n mask : ℕ} {first : List ℕ} {start : ℕ} where
  pub summing-start : Masked σ f ws i n mask → start + length (sum_words σ f ws i n mask) ≤ 48 →
      Summing σ f ws i n mask first start first start i mask
  summing-start M h = record { owed = n; terms = M; room = h; whole = λ r out p. p }

  module _ {l : List ℕ} {count at left : ℕ} (S : Summing σ f ws i n mask first start l count at left) where
    pub summing-done : left ≡ 0 → length l ≡ 48 → Put first start (sum_words σ f ws i n mask) count l
    summing-done z h = S.whole count l (rw (sum_none σ f ws at S.owed left z) (put-none l count h))

    module _ {keys : List ℕ} (P : Prepared σ ws keys) {r rest : ℕ} (T : IsTaken σ f ws at S.owed left r rest) {e : ℕ}
        (d : e ≡ r + size_in keys r) where
      module _ (z : rest ≡ 0) where
        pub summing-room-last : count + length (take (e - r) (drop r ws)) ≤ 48
        summing-room-last =
            omega (
              arith,
              S.room,
              ap length (sum-last P T d z),
              length-append (take (e - r) (drop r ws)) (sum_words σ f ws e T.next rest),
            )

        pub summing-last : {k : ℕ} {m : List ℕ} → Put l count (take (e - r) (drop r ws)) k m →
            Summing σ f ws i n mask first start m k e rest
        summing-last {k} {m} p = record {
          owed = T.next;
          terms = taken-next P T d;
          room =
              omega (
                arith,
                S.room,
                p.after,
                ap length (sum-last P T d z),
                length-append (take (e - r) (drop r ws)) (sum_words σ f ws e T.next rest),
              );
          whole = λ r out q. S.whole r out (rw (sum-last P T d z) (put_then p q));
        }

      module _ (h : 0 < rest) where
        pub summing-room-more : count + 1 + length (take (e - r) (drop r ws)) ≤ 48
        summing-room-more =
            omega (
              arith,
              S.room,
              ap length (sum-more P T d h),
              length-append (take (e - r) (drop r ws)) (sum_words σ f ws e T.next rest),
            )

        pub summing-more : {j k : ℕ} {mid m : List ℕ} → Put l count (f ∷ []) j mid →
            Put mid j (take (e - r) (drop r ws)) k m → Summing σ f ws i n mask first start m k e rest
        summing-more {j} {k} {mid} {m} p q = record {
          owed = T.next;
          terms = taken-next P T d;
          room =
              omega (
                arith,
                S.room,
                p.after,
                q.after,
                ap length (sum-more P T d h),
                length-append (take (e - r) (drop r ws)) (sum_words σ f ws e T.next rest),
              );
          whole = λ r out u. S.whole r out (rw (sum-more P T d h) (put_then p (put_then q u)));
        }
