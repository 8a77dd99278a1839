-- Moves over prepared words: into a term, past it, and over the elements of a flattening.
--     row_next, stands-next, stands-inner             the first of n terms and those after it
--     elements-own, elements-other                    the first element of a flattening
--     keyed-size, keyed-hash, prepared-size           what the key at an offset tells
--     step-some, step-next, step-own                  where the next terms stand
use mathlib.Core.List.{List, [], ◌∷◌}
use mathlib.Core.Path.{◌≡◌, ap, ◌∙◌}
use Prim.Native.Nat.{ℕ, suc, zero, ◌+◌, ◌-◌, ◌/◌, ◌%◌, ◌≤◌, ◌<◌}
use native.Mathlib.Omega.{arith}
use lib.ListN.{length, get_or, take}
use Rattle.multisets.proofs.Relations.{by_order}
use Rattle.terms.specs.Signature.{Signature, symbol_of}
use Rattle.terms.specs.Term.{Term, size}
use Rattle.terms.proofs.TermLaws.{size-pos}
use Rattle.subterms.specs.Parts.{part_at, parts_at, elements_at, Stands, Complete}
use Rattle.subterms.specs.Parts.{root_word}
use Rattle.equivalence.specs.Keys.{hash, key_of, Prepared, size_in}
use Rattle.subterms.proofs.PartLaws.{total, next-parts, next-stand, variable, symbol}
use Rattle.subterms.proofs.PartLaws.{stand-one, node-range}
use Rattle.subterms.proofs.PartLaws.{inner-stand, own-stand, own-elements, other-elements, stands, size_fits}

pub total-take : (n : ℕ) (l : List Term) → total (take n l) ≤ total l
total-take zero l = omega arith
total-take (suc n) [] = omega arith
total-take (suc n) (t ∷ l) = omega (arith, total-take n l)

module _ (σ : Signature) where
  -- The laws of parts at n - 1.
  module _ (ws : List ℕ) (i : ℕ) (c : Complete σ ws) where
    pub row_next : (n : ℕ) → 0 < n → Stands σ ws i n →
        parts_at σ ws i n ≡ part_at σ ws i ∷ parts_at σ ws (i + size (part_at σ ws i)) (n - 1)
    row_next zero p s = absurd (omega arith)
    row_next (suc n) p s = let d : suc n - 1 ≡ n = omega arith in rw d (next-parts σ ws i c n s.terms)

    pub stands-next : (n w : ℕ) → 0 < n → Stands σ ws i n → w ≡ size (part_at σ ws i) → Stands σ ws (i + w) (n - 1)
    stands-next zero w p s e = absurd (omega arith)
    stands-next (suc n) w p s e =
        let d : suc n - 1 ≡ n = omega arith in
        rw (d, e) (stands σ ws _ n (next-stand σ ws i c n s.terms) (size_fits σ ws i (suc n) c s.terms p))

    pub stands-inner : (f a : ℕ) → i < length ws → get_or ws i 0 ≡ f → a ≡ (symbol_of σ f).arity → Stands σ ws (i + 1) a
    stands-inner f a h e d = rw (d, ← e) (stands σ ws (i + 1) _ (inner-stand σ ws i h c) (omega arith))

    module _ (f : ℕ) where
      pub stands-own : (n a : ℕ) → 0 < n → Stands σ ws i n → get_or ws i 0 ≡ f → f < 256 → a ≡ (symbol_of σ f).arity →
          Stands σ ws (i + 1) (a + (n - 1))
      stands-own zero a p s e v g = absurd (omega arith)
      stands-own (suc n) a p s e v g =
          let d : suc n - 1 ≡ n = omega arith in
          rw (d, g, ← e) (stands σ ws (i + 1) _ (own-stand σ ws i (omega arith) n (rw e v) c s.terms) (omega arith))

      pub elements-own : (n : ℕ) → 0 < n → Stands σ ws i n → get_or ws i 0 ≡ f → f < 256 →
          elements_at σ f ws i n ≡ elements_at σ f ws (i + 1) ((symbol_of σ f).arity + (n - 1))
      elements-own zero p s e v = absurd (omega arith)
      elements-own (suc n) p s e v =
          let d : suc n - 1 ≡ n = omega arith in rw (d, ← e) (own-elements σ ws i (omega arith) n (rw e v))

      pub elements-other : (n : ℕ) → 0 < n → Stands σ ws i n → (get_or ws i 0 ≡ f → ⊥) →
          elements_at σ f ws i n ≡ part_at σ ws i ∷ elements_at σ f ws (i + size (part_at σ ws i)) (n - 1)
      elements-other zero p s e = absurd (omega arith)
      elements-other (suc n) p s e =
          let d : suc n - 1 ≡ n = omega arith in rw d (other-elements σ ws i (omega arith) n c f e s.terms)

-- ---- moves over prepared words

module _ (σ : Signature) (ws : List ℕ) (c : Complete σ ws) (k : ℕ) (h : k < length ws) where
  pub part_small : k + size (part_at σ ws k) ≤ length ws
  part_small = size_fits σ ws k 1 c (stand-one σ ws k h) (omega arith)

  pub part-root : root_word (part_at σ ws k) ≡ get_or ws k 0
  part-root =
      by_order (get_or ws k 0) 256 (λ v. ap root_word (symbol σ ws k h v)) λ v. ap root_word (variable σ ws k h v) ∙ omega
      arith

  module _ (keys : List ℕ) (e : get_or keys k 0 ≡ key_of σ (part_at σ ws k)) (short : length ws ≤ 128) where
    pub keyed-size : size_in keys k ≡ size (part_at σ ws k)
    keyed-size = omega (arith, part_small)

    pub keyed-hash : length σ.symbols ≤ 256 → get_or keys k 0 / 16777216 ≡ hash σ (part_at σ ws k)
    keyed-hash few = omega (arith, part_small, part-root, node-range σ ws c k h few)

    pub keyed-root : length σ.symbols ≤ 256 → get_or keys k 0 / 256 % 65536 ≡ get_or ws k 0
    keyed-root few = omega (arith, part_small, part-root, node-range σ ws c k h few)

module _ {σ : Signature} {ws keys : List ℕ} (P : Prepared σ ws keys) where
  pub prepared-size : (i : ℕ) → i < length ws → size_in keys i ≡ size (part_at σ ws i)
  prepared-size i h = keyed-size σ ws P.complete i h keys (P.keyed i (omega arith) h) P.short

  module _ {i n : ℕ} (s : Stands σ ws i n) (p : 0 < n) where
    pub step-some : 0 < size_in keys i
    step-some = rw (prepared-size i (omega arith)) (size-pos (part_at σ ws i))

    pub step-next : {w : ℕ} → w ≡ size_in keys i → Stands σ ws (i + w) (n - 1)
    step-next {w} e = stands-next σ ws i P.complete n w p s (e ∙ prepared-size i (omega arith))

    pub step-own : (f : ℕ) {a : ℕ} → get_or ws i 0 ≡ f → f < 256 → a ≡ (symbol_of σ f).arity → Stands σ ws (i + 1)
        (a + (n - 1))
    step-own f {a} e v g = stands-own σ ws i P.complete f n a p s e v g
