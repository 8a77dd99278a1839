-- Preparing words: the key at an offset from the keys to its right.
--     offset-more, hash-more     one argument more is gathered
--     keyed-step                 the key at one offset more
use mathlib.Core.List.{List}
use mathlib.Core.Bool.{Bool}
use mathlib.Core.Path.{◌≡◌, refl, sym, ap, ◌∙◌}
use Prim.Native.Nat.{ℕ, suc, zero, ◌+◌, ◌-◌, ◌*◌, ◌/◌, ◌≤◌, ◌<◌}
use native.Mathlib.Omega.{arith}
use lib.ListN.{length, get_or, set, get_or-eq_default}
use lib.Seq.{get_or-set_same, get_or-set_other}
use Rattle.multisets.proofs.Relations.{by_order}
use Rattle.terms.specs.Signature.{Symbol, Signature, symbol_of}
use Rattle.terms.specs.Term.{size, arguments}
use Rattle.symbols.specs.Table.{signature_of}
use Rattle.symbols.proofs.TableLaws.{few-at}
use Rattle.subterms.specs.Parts.{part_at, parts_at, Stand, Complete}
use Rattle.equivalence.specs.Keys.{added, hash, hashes, KeyedFrom, size_in, offset_after}
use Rattle.equivalence.specs.Keys.{hash_after}
use Rattle.subterms.proofs.PartLaws.{total, inside, next-parts, next-stand, variable, symbol, inner-stand}
use Rattle.equivalence.proofs.StepLaws.{part-root, part_small, keyed-size, keyed-hash}

-- ---- gathering

pub offset-more : (keys : List ℕ) (i n : ℕ) → 0 < n → offset_after keys (i + size_in keys i) (n - 1) ≡ offset_after keys i
    n
offset-more keys i zero p = absurd (omega arith)
offset-more keys i (suc n) p = let d : suc n - 1 ≡ n = omega arith in rw d

pub hash-more : (ac : Bool) (f : ℕ) (ws keys : List ℕ) (before i n : ℕ) → 0 < n →
    hash_after ac f ws keys (added ac f before (get_or ws i 0) (get_or keys i 0 / 16777216)) (i + size_in keys i) (n - 1)
    ≡ hash_after ac f ws keys before i n
hash-more ac f ws keys before i zero p = absurd (omega arith)
hash-more ac f ws keys before i (suc n) p = let d : suc n - 1 ≡ n = omega arith in rw d

-- ---- the key at an offset

module _ (σ : Signature) (few : length σ.symbols ≤ 256) (ws keys : List ℕ) (c : Complete σ ws)
    (short : length ws ≤ 128) where
  offset-parts : (n i : ℕ) → Stand σ ws i n → KeyedFrom σ ws keys i → offset_after keys i n ≡ i + total
      (parts_at σ ws i n)
  offset-parts zero i s m = omega arith
  offset-parts (suc n) i s m =
      let h = inside σ ws i (suc n) s (omega arith) in
      let e = keyed-size σ ws c i h keys (m i (omega arith) h) short in
      rw e (omega (
        arith,
        offset-parts n (i + size (part_at σ ws i)) (next-stand σ ws i c n s) (λ k l. m k (omega arith)),
        ap total (next-parts σ ws i c n s),
      ))

  hash-parts : (f n i before : ℕ) → Stand σ ws i n → KeyedFrom σ ws keys i →
      hash_after (symbol_of σ f).ac f ws keys before i n ≡ hashes σ f (arguments (parts_at σ ws i n)) before
  unfolding hash
  hash-parts f zero i before s m = refl
  hash-parts f (suc n) i before s m =
      let h = inside σ ws i (suc n) s (omega arith) in
      let k = m i (omega arith) h in
      rw (
        keyed-size σ ws c i h keys k short,
        keyed-hash σ ws c i h keys k short few,
        ← part-root σ ws c i h,
        next-parts σ ws i c n s,
      )
      (hash-parts f n (i + size (part_at σ ws i)) _ (next-stand σ ws i c n s) λ k l. m k (omega arith))

  module _ (i : ℕ) (h : i < length ws) (m : KeyedFrom σ ws keys (i + 1)) where
    abbrev argument_count : ℕ
    argument_count = (symbol_of σ (get_or ws i 0)).arity

    no-arity : 256 ≤ get_or ws i 0 → argument_count ≡ 0
    no-arity v = ap (λ (s : Symbol). s.arity) (get_or-eq_default σ.symbols _ (omega arith))

    size-inner : size (part_at σ ws i) ≡ suc (total (parts_at σ ws (i + 1) argument_count))
    size-inner =
        by_order (get_or ws i 0) 256 (λ v. ap size (symbol σ ws i h v) ∙ omega arith)
        λ v. ap size (variable σ ws i h v) ∙ rw (no-arity v)

    hash-inner : hash σ (part_at σ ws i) ≡ hashes σ (get_or ws i 0) (arguments (parts_at σ ws (i + 1) argument_count)) 0
    unfolding hash
    hash-inner =
        by_order (get_or ws i 0) 256 (λ v. ap (hash σ) (symbol σ ws i h v))
        λ v. ap (hash σ) (variable σ ws i h v) ∙ rw (no-arity v)

    module _ {a e g : ℕ} {ac : Bool} (d : a ≡ argument_count) (b : ac ≡ (symbol_of σ (get_or ws i 0)).ac)
        (p : e ≡ offset_after keys (i + 1) a) (q : g ≡ hash_after ac (get_or ws i 0) ws keys 0 (i + 1) a) where
      end-here : e ≡ i + size (part_at σ ws i)
      end-here =
          let k : e ≡ offset_after keys (i + 1) argument_count = rw d at p in
          omega (arith, offset-parts argument_count (i + 1) (inner-stand σ ws i h c) m, size-inner)

      hash-here : g ≡ hash σ (part_at σ ws i)
      hash-here =
          (rw (d, b) at q) ∙ hash-parts (get_or ws i 0) argument_count (i + 1) 0 (inner-stand σ ws i h c) m ∙ sym
          hash-inner

      keyed-here : (v : ℕ) → length ws ≤ length keys → v ≡ 16777216 * g + 256 * get_or ws i 0 + (e - i) →
          KeyedFrom σ ws (set keys i v) i
      keyed-here v r z k l u =
          by_order i k (λ y. get_or-set_other keys i k v 0 (omega arith) ∙ m k (omega arith) u)
          λ y. let x : k ≡ i = omega arith in
          rw x (get_or-set_same keys i v 0 (omega arith) ∙ z
          ∙ omega (arith, end-here, hash-here, part-root σ ws c i h))

module _ (table ws keys : List ℕ) (k : ℕ) {a e g : ℕ} {ac : Bool} where
  pub keyed-step : length table ≤ 1025 → Complete (signature_of table) ws → 0 < k → k ≤ length ws → length ws ≤ 128 →
      length ws ≤ length keys → KeyedFrom (signature_of table) ws keys k →
      a ≡ (symbol_of (signature_of table) (get_or ws (k - 1) 0)).arity →
      ac ≡ (symbol_of (signature_of table) (get_or ws (k - 1) 0)).ac →
      e ≡ offset_after keys (k - 1 + 1) a → g ≡ hash_after ac (get_or ws (k - 1) 0) ws keys 0 (k - 1 + 1) a →
      (k - 1 ≤ e) × (e ≤ length ws) × ((v : ℕ) → v ≡ 16777216 * g + 256 * get_or ws (k - 1) 0 + (e - (k - 1)) →
      KeyedFrom (signature_of table) ws (set keys (k - 1) v) (k - 1))
  keyed-step small c p h short r m d b q w =
      let σ = signature_of table in
      let few = few-at table small in
      let m' : KeyedFrom σ ws keys (k - 1 + 1) = λ x y. m x (omega arith) in
      let i : k - 1 < length ws = omega arith in
      let f = end-here σ few ws keys c short (k - 1) i m' d b q w in
      let z = part_small σ ws c (k - 1) i in
      (omega arith, omega arith, λ v y. keyed-here σ few ws keys c short (k - 1) i m' d b q w v r y)
