-- The words of a term by offset: sums and products before an offset, and those of a part.
--     one-term, at_offset             what is counted and called for at an offset
--     whole, part-scaled, scaled-le   all words, the words of a part, the first words
--     factor-within                   the product above a word
--     pending_at-suc, scaled_to-suc     one word more
--     count-light                     a variable counts at most as much as the term weighs
use mathlib.Core.List.{List, [], ◌∷◌, ◌++◌, append-nil}
use mathlib.Core.Bool.{cond}
use mathlib.Core.Path.{◌≡◌, refl, sym, ap, ◌∙◌}
use Prim.Native.Nat.{ℕ, suc, ◌+◌, ◌-◌, ◌*◌, ◌≤◌, ◌<◌}
use native.Mathlib.Nat.{one-mul}
use native.Mathlib.Omega.{arith}
use lib.Dec.{eqb}
use lib.ListN.{length, get_or, take, drop, take-append-drop}
use lib.Seq.{take-suc, drop-length}
use Rattle.multisets.proofs.Relations.{by_test}
use Rattle.terms.specs.Signature.{Signature, scale, others, symbol_of, coefficients_of}
use Rattle.terms.specs.Term.{Term, Terms, size, measure, measures, weight, variable_coefficient}
use Rattle.terms.specs.Term.Term.{var, app}
use Rattle.terms.specs.Term.Terms.{nil, cons}
use Rattle.terms.specs.Words.{forest_of, term_of}
use Rattle.terms.proofs.MeasureLaws.{scale-add}
use Rattle.terms.proofs.WordsLaws.{forest_of-words}
use Rattle.format.specs.Statements.{IsTerm}
use Rattle.subterms.specs.Parts.{part_at, Complete}
use Rattle.subterms.proofs.PartLaws.{next, stand-one}
use Rattle.subterms.proofs.FormedLaws.{term-complete}
use Rattle.weights.specs.Nodes.{node}
use Rattle.scaling.specs.Scaled.{limit, step, pending, pending_at, factor_at, scaled_sum, scaled_to, Scaling}
use Rattle.scaling.proofs.NearLaws.{Near, near-to, exact}
use Rattle.scaling.proofs.ScaledLaws.{Within, pending-append, part-pending, μ, dot, dot-empty, dot-first}
use Rattle.scaling.proofs.ScaledLaws.{conserved}

within_first : (ms : List ℕ) → 0 < length ms → Within ms → (0 < get_or ms 0 0) × (get_or ms 0 0 ≤ limit)
within_first [] h W = absurd (omega arith)
within_first (m ∷ ms) h W = (W.0, W.1)

-- ---- one word more

module _ (σ : Signature) (ws : List ℕ) (k : ℕ) (h : k < length ws) where
  pub pending_at-suc : pending_at σ ws (suc k) ≡ step σ (pending_at σ ws k) (get_or ws k 0)
  unfolding pending
  pending_at-suc =
      ap (pending σ (1 ∷ [])) (take-suc ws k 0 h) ∙ pending-append σ (1 ∷ []) (take k ws) (get_or ws k 0 ∷ [])

  module _ (v w : ℕ → ℕ) where
    scaled_sum-append : (ms l m : List ℕ) →
        scaled_sum σ v w ms (l ++ m) ≡ scaled_sum σ v w ms l + scaled_sum σ v w (pending σ ms l) m
    unfolding scaled_sum pending
    scaled_sum-append ms [] m = omega arith
    scaled_sum-append ms (u ∷ l) m = omega (arith, scaled_sum-append (step σ ms u) l m)

    pub scaled_to-suc :
        scaled_to σ v w ws (suc k) ≡ scaled_to σ v w ws k + factor_at σ ws k * node v w (get_or ws k 0)
    unfolding scaled_sum
    scaled_to-suc =
        ap (scaled_sum σ v w (1 ∷ [])) (take-suc ws k 0 h)
        ∙ scaled_sum-append (1 ∷ []) (take k ws) (get_or ws k 0 ∷ []) ∙ omega arith

-- ---- a term

module _ {σ : Signature} (S : Scaling σ) {ws : List ℕ} (p : IsTerm σ ws) where
  pub one-term : forest_of σ ws ≡ term_of σ ws ∷ []
  unfolding forest_of
  one-term =
      ap (forest_of σ) p.spelled
      ∙ rw append-nil at (forest_of-words σ S.few (term_of σ ws) p.well_formed [])

  complete : Complete σ ws
  complete = term-complete σ S.few p

  module _ (v w : ℕ → ℕ) where
    pub record AtOffset (k : ℕ) : Type 0 where
      pub near : Near (scaled_to σ v w ws k + dot σ v w (pending_at σ ws k) (forest_of σ (drop k ws)))
          (μ σ v w (term_of σ ws))
      pub lengths : length (pending_at σ ws k) ≡ length (forest_of σ (drop k ws))
      pub within : Within (pending_at σ ws k)

    pub at_offset : (k : ℕ) → AtOffset k
    at_offset k =
        let C = conserved σ S v w (take k ws) (drop k ws) (1 ∷ []) (rw take-append-drop complete)
        (rw (take-append-drop, one-term)) (omega arith, omega arith, tt) in
        record {
          near = near-to _ _ refl (rw (take-append-drop, one-term) (omega (arith, one-mul (μ σ v w (term_of σ ws)))))
              C.near;
          lengths = C.lengths;
          within = C.within;
        }

    pub whole : Near (scaled_to σ v w ws (length ws)) (μ σ v w (term_of σ ws))
    unfolding forest_of
    whole =
        let A = at_offset (length ws) in
        let n : length (pending_at σ ws (length ws)) ≡ 0 = A.lengths ∙ rw (drop-length ws) in
        near-to _ _ (rw (drop-length ws) (omega (arith, dot-empty σ v w (pending_at σ ws (length ws)) n []))) refl
        A.near

    module _ (light : μ σ v w (term_of σ ws) < limit) where
      pub scaled-le : (k : ℕ) → scaled_to σ v w ws k < limit
      scaled-le k = omega (arith, exact (at_offset k).near light)

      pub part-scaled : (i : ℕ) → i < length ws →
          scaled_to σ v w ws (i + size (part_at σ ws i)) ≡
          scaled_to σ v w ws i + factor_at σ ws i * μ σ v w (part_at σ ws i)
      part-scaled i h =
          let t = part_at σ ws i in
          let e = i + size t in
          let A = at_offset i in
          let F = next σ ws i complete 1 (stand-one σ ws i h) (omega arith) in
          let n : 0 < length (pending_at σ ws i) = omega (arith, A.lengths, ap length F) in
          let a = exact A.near light in
          let b = exact (at_offset e).near light in
          let d : dot σ v w (pending_at σ ws i) (forest_of σ (drop i ws)) ≡
          factor_at σ ws i * μ σ v w t + dot σ v w (pending_at σ ws e) (forest_of σ (drop e ws)) =
          ap (dot σ v w (pending_at σ ws i)) F
          ∙ dot-first σ v w (pending_at σ ws i) t (forest_of σ (drop e ws)) n
          ∙ ap (λ (ms : List ℕ). factor_at σ ws i * μ σ v w t + dot σ v w ms (forest_of σ (drop e ws)))
          (sym (part-pending σ S ws i complete h)) in
          omega arith

  pub factor-within : (k : ℕ) → k < length ws → (0 < factor_at σ ws k) × (factor_at σ ws k ≤ limit)
  factor-within k h =
      let A = at_offset (λ x. 0) (λ f. 0) k in
      let F = next σ ws k complete 1 (stand-one σ ws k h) (omega arith) in
      within_first (pending_at σ ws k) (omega (arith, A.lengths, ap length F)) A.within

-- ---- variables

scale-mono : (ks : List ℕ) (m n : ℕ) → m ≤ n → scale ks m ≤ scale ks n
scale-mono ks m n h =
    let e : m + (n - m) ≡ n = omega arith in
    omega (arith, ap (scale ks) e, scale-add ks m (n - m))

module _ (c : ℕ → List ℕ) (v v' w w' : ℕ → ℕ) (h : (x : ℕ) → v x ≤ v' x) (k : (f : ℕ) → w f ≤ w' f) where
  mutual
    measure-mono : (t : Term) → measure c v w t ≤ measure c v' w' t
    measure-mono (var x) = h x
    measure-mono (app f ts) = omega (arith, k f, measures-mono ts (c f))

    measures-mono : (ts : Terms) (ks : List ℕ) → measures c v w ts ks ≤ measures c v' w' ts ks
    measures-mono nil ks = omega arith
    measures-mono (cons t ts) ks =
        omega (
          arith,
          scale-mono ks (measure c v w t) (measure c v' w' t) (measure-mono t),
          measures-mono ts (others ks),
        )

pub count-light : (σ : Signature) → 0 < σ.w0 → (x : ℕ) (t : Term) → variable_coefficient σ x t ≤ weight σ t
count-light σ p x =
    measure-mono (coefficients_of σ) (λ y. cond (eqb x y) 1 0) (λ y. σ.w0) (λ f. 0) (λ f. (symbol_of σ f).weight)
    (λ y. by_test (eqb x y) (λ e. rw e (omega arith)) λ e. rw e (omega arith)) λ f. omega arith
