-- The words of a piece, and of an instance of a pattern.
--     whole_words, whole-fits, whole_room, put_whole     a whole part
--     sum-masked, sum-words                              a sum
--     one-element, more-elements                         a sum of one element is a whole part
--     symbol-first, variable-first                       the instance of a pattern, word by word
--     filled_from                                        a pattern's words from an offset on
--     Measured, measured-more, -done                     how many words it has
--     Filling, filling-room, -more, -done                what is put
use mathlib.Core.List.{List, [], ◌∷◌, ◌++◌, flat_map}
use mathlib.Core.Path.{◌≡◌, refl, sym, ap, ◌∙◌}
use Prim.Native.Nat.{ℕ, ◌+◌, ◌-◌, ◌*◌, ◌≤◌, ◌<◌}
use native.Mathlib.Omega.{arith}
use native.Mathlib.Numerals.{add-one}
use lib.Bits.{bit_and}
use lib.ListN.{length, get_or, take, drop, length-append, length-drop, drop_of_length-le}
use lib.Seq.{drop-cons}
use Rattle.std.proofs.lemmas.List.{get_or-drop}
use borrow.Author.Tests.{eq-eqb, ne_eqb, lt-ltb, le-ltb}
use Rattle.terms.specs.Signature.{Signature}
use Rattle.terms.specs.Term.{Term, size}
use Rattle.terms.specs.Words.{first_variable, words}
use Rattle.terms.proofs.WordsLaws.{length-words}
use Rattle.simplifying.specs.Masks.{masked}
use Rattle.simplifying.proofs.MaskLaws.{masked-some, masked-one, masked-two}
use Rattle.simplifying.proofs.PoolingLaws.{empty-list}
use Rattle.simplifying.proofs.SumLaws.{words-sum}
use Rattle.simplifying.specs.Holes.{image_words}
use Rattle.subterms.specs.Parts.{part_at, elements_at}
use Rattle.subterms.proofs.PartLaws.{stand-one, stands}
use Rattle.equivalence.specs.Keys.{Prepared, size_in}
use Rattle.equivalence.proofs.StepLaws.{prepared-size, part_small}
use Rattle.pieces.specs.Buffer.{Put}
use Rattle.pieces.specs.Sums.{sum_words, Masked, IsTaken}
use Rattle.pieces.specs.Pieces.{elements_of, piece_at, image_at, IsPiece, instance_words, Filled, IsNormal}
use Rattle.pieces.proofs.CopyLaws.{put-none, put_then}
use Rattle.pieces.proofs.PutLaws.{part-words}

module _ {σ : Signature} {ws keys : List ℕ} (P : Prepared σ ws keys) {i mask : ℕ} (I : IsPiece σ ws i mask) where
  -- ---- a whole part

  module _ (z : mask ≡ 0) {e : ℕ} (d : e ≡ i + size_in keys i) where
    sized : e - i ≡ size (part_at σ ws i)
    sized = omega (arith, prepared-size P i I.inside)

    whole_words : words (piece_at σ ws i mask) ≡ take (e - i) (drop i ws)
    unfolding piece_at
    whole_words = rw (eq-eqb mask 0 z, sized) (sym (part-words σ ws i P.complete I.inside))

    pub whole-fits : e ≤ length ws
    whole-fits = omega (arith, prepared-size P i I.inside, part_small σ ws P.complete i I.inside)

    pub whole_length : length (words (piece_at σ ws i mask)) ≡ e - i
    unfolding piece_at
    whole_length = rw (eq-eqb mask 0 z) (length-words (part_at σ ws i) ∙ sym sized)

    pub whole_room : (at : ℕ) → at + length (words (piece_at σ ws i mask)) ≤ 48 →
        at + length (take (e - i) (drop i ws)) ≤ 48
    whole_room at h = rw (← whole_words) h

    pub put_whole : {l : List ℕ} {at r : ℕ} {out : List ℕ} → Put l at (take (e - i) (drop i ws)) r out →
        Put l at (words (piece_at σ ws i mask)) r out
    put_whole p = rw whole_words p

  -- ---- a sum

  module _ (some : 0 < mask) where
    pub sum-masked : Masked σ (get_or ws i 0) ws i 1 mask
    sum-masked = record {
      symbol = (I.sum some).0;
      stands = stands σ ws i 1 (stand-one σ ws i I.inside) (omega (arith, I.inside));
      bound = (I.sum some).1;
    }

    pub sum-words : words (piece_at σ ws i mask) ≡ sum_words σ (get_or ws i 0) ws i 1 mask
    unfolding piece_at
    sum-words =
        rw (ne_eqb mask 0 (λ z. omega arith)) (words-sum (get_or ws i 0) (masked mask (elements_of σ ws i))
        (masked-some (elements_of σ ws i) mask some (I.sum some).1))

    alone : (r : ℕ) (ts : List Term) → masked mask (elements_of σ ws i) ≡ part_at σ ws r ∷ ts → ts ≡ [] →
        piece_at σ ws r 0 ≡ piece_at σ ws i mask
    unfolding piece_at
    alone r ts e n = rw (ne_eqb mask 0 (λ z. omega arith), e, n)

    pub one-element : bit_and (mask - 1) mask ≡ 0 → {r rest : ℕ} → IsTaken σ (get_or ws i 0) ws i 1 mask r rest →
        IsNormal σ ws i mask r 0
    one-element h {r} {rest} q =
        let ts = masked rest (elements_at σ (get_or ws i 0) ws (r + size (part_at σ ws r)) q.next) in
        record {
          same = alone r ts q.first (empty-list ts
              (omega (arith, masked-one (elements_of σ ws i) mask some h, ap length q.first)));
          is_piece = record { inside = q.inside; sum = λ p. absurd (omega arith) };
          own = λ p. absurd (omega arith);
          apart = λ p. absurd (omega arith);
        }

    pub more-elements : 0 < bit_and (mask - 1) mask → IsNormal σ ws i mask i mask
    more-elements h = record {
      same = refl;
      is_piece = I;
      own = λ p. refl;
      apart = λ p. masked-two (elements_of σ ws i) mask (I.sum p).1 h;
    }

-- ---- an instance, word by word

module _ (σ : Signature) (ws offsets masks ps : List ℕ) where
  -- The words of the instance of a pattern's words from an offset on.
  abbrev pub instance_from : ℕ → List ℕ
  instance_from k = flat_map (image_words (image_at σ ws offsets masks)) (drop k ps)

  pub instance_end : {k : ℕ} → length ps ≤ k → instance_from k ≡ []
  unfolding flat_map
  instance_end {k} h = rw (drop_of_length-le ps {i = k} h)

module _ {σ : Signature} {ws offsets masks ps : List ℕ} (F : Filled σ ws offsets masks ps) {k : ℕ} (h : k < length ps)
  where
    step : drop k ps ≡ get_or ps k 0 ∷ drop (k + 1) ps
    step = rw add-one (drop-cons ps k 0 h)

    pub symbol-first : get_or ps k 0 < first_variable →
        instance_from σ ws offsets masks ps k ≡ (get_or ps k 0 ∷ []) ++ instance_from σ ws offsets masks ps (k + 1)
    unfolding flat_map
    symbol-first v = rw (step, lt-ltb (get_or ps k 0) first_variable v)

    module _ (v : first_variable ≤ get_or ps k 0) where
      pub variable-small : get_or ps k 0 - first_variable < 18
      variable-small = omega (arith, v, F.pattern.nodes k h)

      module _ {i mask : ℕ} (d : i ≡ get_or offsets (get_or ps k 0 - first_variable) 0)
          (e : mask ≡ get_or masks (get_or ps k 0 - first_variable) 0) where
        pub variable-first : instance_from σ ws offsets masks ps k
            ≡ words (piece_at σ ws i mask) ++ instance_from σ ws offsets masks ps (k + 1)
        unfolding flat_map
        variable-first = rw (step, le-ltb (get_or ps k 0) first_variable v, d, e)

        pub is-piece : IsPiece σ ws i mask
        is-piece = rw (d, e) (F.pieces (get_or ps k 0 - first_variable) variable-small)

-- A pattern's words from an offset on are a pattern of their own.
pub filled_from : {σ : Signature} {ws offsets masks ps : List ℕ} → Filled σ ws offsets masks ps → (from : ℕ) →
    Filled σ ws offsets masks (drop from ps)
filled_from {σ} {ws} {offsets} {masks} {ps} F from = record {
  pieces = F.pieces;
  pattern = record {
    short = omega (arith, F.pattern.short, length-drop from ps);
    nodes = λ k h. rw (get_or-drop from ps k 0) (F.pattern.nodes (from + k) (omega (arith, length-drop from ps)));
  };
}

-- So many words are counted of the instance, and those of the pattern's words from k on are the others.
pub record Measured (σ : Signature) (ws offsets masks ps : List ℕ) (k count : ℕ) : Type 0 where
  pub small : count ≤ 256 * k
  pub whole : count + length (instance_from σ ws offsets masks ps k) ≡ length (instance_words σ ws offsets masks ps)

module _ {σ : Signature} {ws offsets masks ps : List ℕ} {k count : ℕ} (M : Measured σ ws offsets masks ps k count)
  where
    pub measured-done : length ps ≤ k → count ≡ length (instance_words σ ws offsets masks ps)
    measured-done h = omega (arith, M.whole, ap length (instance_end σ ws offsets masks ps h))

    pub measured-more : (vs : List ℕ) → instance_from σ ws offsets masks ps k
        ≡ vs ++ instance_from σ ws offsets masks ps (k + 1) → {n : ℕ} → n ≡ length vs → n ≤ 256 →
        Measured σ ws offsets masks ps (k + 1) (count + n)
    measured-more vs e d h = record {
      small = omega (arith, M.small);
      whole = omega (arith, M.whole, ap length e, length-append vs (instance_from σ ws offsets masks ps (k + 1)));
    }

    pub measured-symbol : Filled σ ws offsets masks ps → k < length ps → get_or ps k 0 < first_variable →
        Measured σ ws offsets masks ps (k + 1) (count + 1)
    measured-symbol F h v = measured-more (get_or ps k 0 ∷ []) (symbol-first F h v) (omega arith) (omega arith)

-- Some words of the instance are put, and those of the pattern's words from k on are the others: with them, all are put.
pub record Filling (σ : Signature) (ws offsets masks ps first : List ℕ) (start : ℕ) (l : List ℕ) (count k : ℕ) : Type 0
  where
    pub room : count + length (instance_from σ ws offsets masks ps k) ≤ 48
    pub whole : (r : ℕ) (out : List ℕ) → Put l count (instance_from σ ws offsets masks ps k) r out →
        Put first start (instance_words σ ws offsets masks ps) r out

module _ {σ : Signature} {ws offsets masks ps first : List ℕ} {start : ℕ} {l : List ℕ} {count k : ℕ}
    (G : Filling σ ws offsets masks ps first start l count k) where
  pub filling-done : length ps ≤ k → length l ≡ 48 →
      Put first start (instance_words σ ws offsets masks ps) count l
  filling-done h e = G.whole count l (rw (instance_end σ ws offsets masks ps h) (put-none l count e))

  pub symbol-room : Filled σ ws offsets masks ps → k < length ps → get_or ps k 0 < first_variable → count < 48
  symbol-room F h v = omega (arith, G.room, ap length (symbol-first F h v))

  module _ (vs : List ℕ) (e : instance_from σ ws offsets masks ps k
      ≡ vs ++ instance_from σ ws offsets masks ps (k + 1)) where
    pub filling-room : count + length vs ≤ 48
    filling-room =
        omega (arith, G.room, ap length e, length-append vs (instance_from σ ws offsets masks ps (k + 1)))

    pub filling-more : {n : ℕ} {m : List ℕ} → Put l count vs n m →
        Filling σ ws offsets masks ps first start m n (k + 1)
    filling-more {n} {m} p = record {
      room =
          omega (
            arith,
            G.room,
            p.after,
            ap length e,
            length-append vs (instance_from σ ws offsets masks ps (k + 1)),
          );
      whole = λ r out q. G.whole r out (rw e (put_then p q));
    }
