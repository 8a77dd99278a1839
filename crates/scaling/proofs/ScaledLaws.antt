-- Words counted with the products above them: what is counted and what is called for together stay what the term is.
--     conserved                  the sum over the first words and the terms that are called for
--     whole                      the sum over all words of a term
--     part-pending, part-scaled  the words of a part
use mathlib.Core.List.Memᴰ
use mathlib.Core.List.{List, [], ◌∷◌, ◌++◌}
use mathlib.Core.Path.{◌≡◌, refl, sym, ap, ◌∙◌}
use Prim.Native.Nat.{ℕ, suc, zero, ◌+◌, ◌*◌, ◌≤◌, ◌<◌}
use native.Mathlib.Nat.{mul_assoc, mul-add, mul-zero, le-mul_of_pos_right}
use native.Mathlib.Omega.{arith}
use lib.ListN.{length, get_or, take, drop, length-drop, get_or-eq_default}
use lib.Seq.{take-add, drop-drop}
use borrow.Author.Tests.{lt-ltb, le-ltb}
use Rattle.multisets.proofs.Relations.{by_order}
use Rattle.terms.specs.Signature.{Symbol, Signature, AllPositive, symbol_of, coefficients_of}
use Rattle.terms.specs.Term.{Term, size, arguments, measure, measures}
use Rattle.terms.specs.Words.{first_variable, grow, forest_of}
use Rattle.subterms.specs.Parts.{part_at, Complete}
use Rattle.subterms.proofs.PartLaws.{total, total-append, complete-drop, next, stand-one}
use Rattle.weights.specs.Nodes.{node}
use Rattle.scaling.specs.Scaled.{limit, pushed, step, pending, pending_at, scaled_sum}
use Rattle.scaling.specs.Scaled.{Scaling}
use Rattle.scaling.proofs.NearLaws.{Near, near_add, near-to, near-trans, near-product, cut-le, cut-pos}
use Rattle.scaling.proofs.NearLaws.Near.{exactly}

-- ---- products

pub length-pushed : (m : ℕ) (cs ms : List ℕ) → length (pushed m cs ms) ≡ length cs + length ms
length-pushed m [] ms = omega arith
length-pushed m (c ∷ cs) ms = omega (arith, length-pushed m cs ms)

drop-pushed : (m : ℕ) (cs ms : List ℕ) (n : ℕ) → drop (length cs + n) (pushed m cs ms) ≡ drop n ms
drop-pushed m [] ms n = let e : 0 + n ≡ n = omega arith in rw e
drop-pushed m (c ∷ cs) ms n =
    let e : suc (length cs) + n ≡ suc (length cs + n) = omega arith in
    rw e (drop-pushed m cs ms n)

-- Each is positive, and cut off at the limit.
abbrev pub Within : List ℕ → Type 0
Within [] = Unit {0}
Within (m ∷ ms) = (0 < m) × (m ≤ limit) × Within ms

within-pushed : (m : ℕ) (cs ms : List ℕ) → 0 < m → AllPositive cs → Within ms → Within (pushed m cs ms)
within-pushed m [] ms p q W = W
within-pushed m (c ∷ cs) ms p q W = (
  cut-pos (m * c) (omega (arith, le-mul_of_pos_right m (q c (Memᴰ.head refl)))),
  cut-le (m * c),
  within-pushed m cs ms p (λ k n. q k (Memᴰ.tail n)) W,
)

module _ (σ : Signature) where
  pub pending-append : (ms l m : List ℕ) → pending σ ms (l ++ m) ≡ pending σ (pending σ ms l) m
  unfolding pending
  pending-append ms [] m = refl
  pending-append ms (u ∷ l) m = pending-append (step σ ms u) l m

  module _ (v w : ℕ → ℕ) where
    abbrev pub μ : Term → ℕ
    μ = measure (coefficients_of σ) v w

    -- The terms that are called for, each times its product.
    abbrev pub dot : List ℕ → List Term → ℕ
    dot [] ts = 0
    dot (m ∷ ms) [] = 0
    dot (m ∷ ms) (t ∷ ts) = m * μ t + dot ms ts

    pub dot-empty : (ms : List ℕ) → length ms ≡ 0 → (ts : List Term) → dot ms ts ≡ 0
    dot-empty [] h ts = refl
    dot-empty (m ∷ ms) h ts = absurd (omega arith)

    pub dot-first : (ms : List ℕ) (t : Term) (ts : List Term) → 0 < length ms →
        dot ms (t ∷ ts) ≡ get_or ms 0 0 * μ t + dot (drop 1 ms) ts
    dot-first [] t ts h = absurd (omega arith)
    dot-first (m ∷ ms) t ts h = refl

module _ (σ : Signature) (S : Scaling σ) where
  no-coefficients : (u : ℕ) → first_variable ≤ u → coefficients_of σ u ≡ []
  no-coefficients u h =
      ap (λ (s : Symbol). s.coefficients) (get_or-eq_default σ.symbols _ (omega (arith, S.few)))

  no-arity : (u : ℕ) → first_variable ≤ u → (symbol_of σ u).arity ≡ 0
  no-arity u h = ap (λ (s : Symbol). s.arity) (get_or-eq_default σ.symbols _ (omega (arith, S.few)))

  pub length-grow : (u : ℕ) (ts : List Term) → (symbol_of σ u).arity ≤ length ts →
      length (grow σ u ts) + (symbol_of σ u).arity ≡ suc (length ts)
  length-grow u ts h =
      by_order u first_variable
      (λ l. rw (lt-ltb u first_variable l, length-drop (symbol_of σ u).arity ts) (omega arith))
      λ l. rw (le-ltb u first_variable l) (omega (arith, no-arity u l))

  length-step : (m u : ℕ) (ms : List ℕ) (ts : List Term) → (symbol_of σ u).arity ≤ length ts →
      suc (length ms) ≡ length (grow σ u ts) → length (step σ (m ∷ ms) u) ≡ length ts
  length-step m u ms ts h e =
      omega (arith, length-pushed m (coefficients_of σ u) ms, S.full u, length-grow u ts h)

  -- ---- what is called for

  -- After the words of n terms they are not called for any more.
  after-pending : (ws ms : List ℕ) (n : ℕ) → Complete σ ws → n ≤ length (forest_of σ ws) →
      pending σ ms (take (total (take n (forest_of σ ws))) ws) ≡ drop n ms
  unfolding forest_of pending
  after-pending [] ms zero c h = refl
  after-pending [] ms (suc n) c h = absurd (omega arith)
  after-pending (w ∷ ws) ms zero c h = refl
  after-pending (w ∷ ws) ms (suc n) c h =
      let a = (symbol_of σ w).arity in
      let ts = forest_of σ ws in
      let l : suc n ≤ length (grow σ w ts) = h in
      let d : drop (a + n) (step σ ms w) ≡ drop (suc n) ms =
      ap (λ (b : ℕ). drop (b + n) (step σ ms w)) (sym (S.full w))
      ∙ drop-pushed (get_or ms 0 0) (coefficients_of σ w) (drop 1 ms) n ∙ drop-drop n 1 ms
      ∙ (let q : 1 + n ≡ suc n = omega arith in rw q) in
      let m : a + n ≤ length ts = omega (arith, length-grow w ts c.1) in
      let k : total (take (suc n) (grow σ w ts)) ≡ suc (total (take (a + n) ts)) =
      by_order w first_variable
      (λ v. rw (lt-ltb w first_variable v, take-add) (omega (arith, total-append (take a ts) (take n (drop a ts)))))
      λ v. let z : a + n ≡ n = omega (arith, no-arity w v) in rw (le-ltb w first_variable v, z) (omega arith) in
      rw k (after-pending ws (step σ ms w) (a + n) c.2 m ∙ d)

  module _ (ws : List ℕ) (i : ℕ) (c : Complete σ ws) (h : i < length ws) where
    abbrev p : Term
    p = part_at σ ws i

    pub part-pending : pending_at σ ws (i + size p) ≡ drop 1 (pending_at σ ws i)
    part-pending =
        let us = drop i ws in
        let s = stand-one σ ws i h in
        let e = next σ ws i c 1 s (omega arith) in
        let k : total (take 1 (forest_of σ us)) ≡ size p = ap (λ (l : List Term). total (take 1 l)) e ∙ omega arith in
        ap (pending σ (1 ∷ [])) (take-add i (size p) ws)
        ∙ pending-append σ (1 ∷ []) (take i ws) (take (size p) us)
        ∙ ap (λ (n : ℕ). pending σ (pending_at σ ws i) (take n us)) (sym k)
        ∙ after-pending us (pending_at σ ws i) 1 (complete-drop σ ws i c) s

  -- ---- what is counted

  module _ (v w : ℕ → ℕ) where
    dot-pushed : (m : ℕ) (cs ms : List ℕ) (ts : List Term) → length cs ≤ length ts →
        Near (dot σ v w (pushed m cs ms) ts)
        (m * measures (coefficients_of σ) v w (arguments (take (length cs) ts)) cs + dot σ v w ms (drop (length cs) ts))
    dot-pushed m [] ms ts h = exactly (omega (arith, mul-zero m))
    dot-pushed m (c ∷ cs) ms [] h = absurd (omega arith)
    dot-pushed m (c ∷ cs) ms (t ∷ ts) h =
        let M = measures (coefficients_of σ) v w (arguments (take (length cs) ts)) cs in
        near-to _ _ refl (omega (arith, mul-add m (c * μ σ v w t) M, mul_assoc m c (μ σ v w t)))
        (near-product (m * c) (μ σ v w t) (dot-pushed m cs ms ts (omega arith)))

    dot-step : (m u : ℕ) (ms : List ℕ) (ts : List Term) → (symbol_of σ u).arity ≤ length ts →
        Near (m * node v w u + dot σ v w (step σ (m ∷ ms) u) ts) (dot σ v w (m ∷ ms) (grow σ u ts))
    dot-step m u ms ts h =
        by_order u first_variable
        (λ l.
        let n = near_add (m * w u) (dot-pushed m (coefficients_of σ u) ms ts (omega (arith, S.full u))) in
        let a = (symbol_of σ u).arity in
        let M = measures (coefficients_of σ) v w (arguments (take a ts)) (coefficients_of σ u) in
        rw (lt-ltb u first_variable l)
        (near-to _ _ refl (omega (arith, mul-add m (w u) M)) (rw (S.full u) at n)))
        λ l. rw (le-ltb u first_variable l, no-coefficients u l) (exactly refl)

    pub record Conserved (ms l rest : List ℕ) : Type 0 where
      pub near : Near (scaled_sum σ v w ms l + dot σ v w (pending σ ms l) (forest_of σ rest))
          (dot σ v w ms (forest_of σ (l ++ rest)))
      pub lengths : length (pending σ ms l) ≡ length (forest_of σ rest)
      pub within : Within (pending σ ms l)

    pub conserved : (l rest ms : List ℕ) → Complete σ (l ++ rest) → length ms ≡ length (forest_of σ (l ++ rest)) →
        Within ms → Conserved ms l rest
    unfolding scaled_sum pending forest_of
    conserved [] rest ms c e W = record { near = exactly (omega arith); lengths = e; within = W }
    conserved (u ∷ l) rest [] c e W =
        absurd (omega (arith, length-grow u (forest_of σ (l ++ rest)) c.1, c.1))
    conserved (u ∷ l) rest (m ∷ ms) c e W =
        let ts = forest_of σ (l ++ rest) in
        let C = conserved l rest (step σ (m ∷ ms) u) c.2 (length-step m u ms ts c.1 e)
        (within-pushed m (coefficients_of σ u) ms W.0 (S.positive u) W.2) in
        record {
          near = near-trans (near-to _ _ (omega arith) refl (near_add (m * node v w u) C.near))
              (dot-step m u ms ts c.1);
          lengths = C.lengths;
          within = C.within;
        }
