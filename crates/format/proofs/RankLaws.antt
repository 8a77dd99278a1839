-- Symbols of arity 1 that weigh 0, by their ranks, and where their weights stand.
--     outranks-false, outranks-none     no symbol has a higher rank
--     Ranked, ranked-of, of-ranked      none of them is outranked
--     outranked-le                      the first of them that is outranked, if there is one, is a symbol
--     weight-plain                      the same without coefficients
--     symbols-placed                    where the weights of symbols stand, and that they end after them
use mathlib.Core.Path.{◌≡◌, refl, sym, ap, ◌∙◌}
use mathlib.Core.List.{List, [], ◌∷◌, ◌++◌, append-nil, append_assoc}
use mathlib.Core.Bool.{Bool, false, cond, false≢true, true≢false, ◌&&◌, ◌||◌, not, and-eq-true_iff as both}
use Prim.Native.Nat.{ℕ, suc, zero, ◌+◌, ◌*◌, ◌≤◌, ◌<◌}
use native.Mathlib.Nat.{zero-mul, suc-mul}
use native.Mathlib.Omega.{arith}
use lib.ListN.{length, get_or}
use lib.Dec.{eqb, ltb, leb}
use borrow.Author.Tests.{eqb-true, ltb-false, le-ltb}
use Rattle.multisets.proofs.Relations.{by_test}
use Rattle.terms.specs.Signature.{Symbol}
use Rattle.format.specs.Layout.{weight_width, arity_width, ac_width, rank_width, coefficient_width}
use Rattle.format.specs.Forms.{has_coefficients, least_weight_in}
use Rattle.format.specs.Reading.{Source}
use Rattle.format.specs.Reading.Reading.{got}
use Rattle.format.specs.Symbols.{held_by, is_coefficient, outranks, outranked_from, coefficients_reader}
use Rattle.format.specs.Symbols.{coefficients_in}
use Rattle.format.specs.Symbols.{symbol_reader, symbols_reader, weight_after, symbol_moves, weight_offset}
use Rattle.format.proofs.ReadingLaws.{HoldsOf, holds-got, holds-map, holds_then, holds-require}

-- What a signature says of a number that is no symbol's.
abbrev pub absent : Symbol
absent = record { arity = 0; ac = false; weight = 0; precedence = 0; coefficients = [] }

pub outranks-false : (ss : List Symbol) (rank : ℕ) → outranks ss rank ≡ false → (g : ℕ) → g < length ss →
    (get_or ss g absent).precedence ≤ rank
outranks-false [] rank e g h = absurd (omega arith)
outranks-false (s ∷ ss) rank e zero h =
    by_test (ltb rank s.precedence) (λ t. absurd (true≢false (rw t at e))) λ t. ltb-false rank s.precedence t
outranks-false (s ∷ ss) rank e (suc g) h =
    by_test (ltb rank s.precedence) (λ t. absurd (true≢false (rw t at e)))
    λ t. outranks-false ss rank (rw t at e) g (omega arith)

pub outranks-none : (ss : List Symbol) (rank : ℕ) →
    ((g : ℕ) → g < length ss → (get_or ss g absent).precedence ≤ rank) → outranks ss rank ≡ false
outranks-none [] rank h = refl
outranks-none (s ∷ ss) rank h =
    rw (le-ltb rank s.precedence (h 0 (omega arith))) (outranks-none ss rank λ g l. h (suc g) (omega arith))

abbrev pub Ranked : List Symbol → List Symbol → Type 0
Ranked all ss =
    (f : ℕ) → f < length ss → (get_or ss f absent).arity ≡ 1 → (get_or ss f absent).weight ≡ 0 →
    outranks all (get_or ss f absent).precedence ≡ false

module _ (all : List Symbol) where
  pub ranked-of : (ss : List Symbol) → outranked_from all ss ≡ length ss → Ranked all ss
  ranked-of [] e f h u z = absurd (omega arith)
  ranked-of (s ∷ ss) e zero h u z =
      by_test (eqb s.arity 1 && (eqb s.weight 0 && outranks all s.precedence))
      (λ t. let n : 0 ≡ suc (length ss) = rw t at e in absurd (omega arith))
      λ t. rw (u, z) at t
  ranked-of (s ∷ ss) e (suc f) h u z =
      by_test (eqb s.arity 1 && (eqb s.weight 0 && outranks all s.precedence))
      (λ t. let n : 0 ≡ suc (length ss) = rw t at e in absurd (omega arith))
      λ t.
      let n : suc (outranked_from all ss) ≡ suc (length ss) = rw t at e in
      ranked-of ss (omega arith) f (omega arith) u z

  pub of-ranked : (ss : List Symbol) → Ranked all ss → outranked_from all ss ≡ length ss
  of-ranked [] h = refl
  of-ranked (s ∷ ss) h =
      let rest = of-ranked ss (λ f l. h (suc f) (omega arith)) in
      by_test (eqb s.arity 1 && (eqb s.weight 0 && outranks all s.precedence))
      (λ t.
      let (u, v) = (both (eqb s.arity 1) _).0 t in
      let (z, o) = (both (eqb s.weight 0) _).0 v in
      absurd (false≢true (sym (h 0 (omega arith) (eqb-true s.arity 1 u) (eqb-true s.weight 0 z)) ∙ o)))
      λ t. rw (t, rest)

  pub outranked-le : (ss : List Symbol) → outranked_from all ss ≤ length ss
  outranked-le [] = omega arith
  outranked-le (s ∷ ss) =
      by_test (eqb s.arity 1 && (eqb s.weight 0 && outranks all s.precedence)) (λ t. rw t (omega arith))
      λ t. rw t (omega (arith, outranked-le ss))

-- ---- where weights stand

-- Without coefficients all symbols are as long.
pub weight-plain : (source : Source) (form : ℕ) → has_coefficients form ≡ false → (start : ℕ) (ss : List Symbol)
    (f : ℕ) →
    f < length ss → weight_offset source form start ss f
    ≡ start + f * (weight_after source + source.moves weight_width + source.moves rank_width) + weight_after source
weight-plain source form none start [] f h = absurd (omega arith)
weight-plain source form none start (s ∷ ss) zero h =
    omega (arith, zero-mul (weight_after source + source.moves weight_width + source.moves rank_width))
weight-plain source form none start (s ∷ ss) (suc f) h =
    let span = weight_after source + source.moves weight_width + source.moves rank_width in
    weight-plain source form none (start + symbol_moves source form s) ss f (omega arith)
    ∙ rw none (omega (arith, suc-mul f span))

module _ (source : Source)
    (moves : (width at v next : ℕ) → source.field width at ≡ got v next → next ≡ at + source.moves width)
    (form w0 : ℕ) where
  all_end : (ac : Bool) (n at : ℕ) →
      HoldsOf (λ ks end. end ≡ at + n * source.moves coefficient_width) (coefficients_reader source ac n at)
  unfolding coefficients_reader HoldsOf
  all_end ac zero at = omega (arith, zero-mul (source.moves coefficient_width))
  all_end ac (suc n) at =
      holds_then _ (source.field coefficient_width at) _ λ k mid e.
      holds-require _ (is_coefficient ac k) _ at mid _ λ ok.
      holds_then _ (coefficients_reader source ac n mid) _ λ ks end r.
      omega (
        arith,
        moves coefficient_width at k mid e,
        holds-got _ _ ks end (all_end ac n mid) r,
        suc-mul n (source.moves coefficient_width),
      )

  coefficients-end : (ac : Bool) (arity at : ℕ) →
      HoldsOf (λ ks end. end ≡ at + cond (has_coefficients form) (arity * source.moves coefficient_width) 0)
      (coefficients_in source form ac arity at)
  unfolding HoldsOf
  coefficients-end ac arity at =
      by_test (has_coefficients form) (λ e. rw e (all_end ac arity at)) λ e. rw e (omega arith)

  symbol_end : (earlier : List Symbol) (at : ℕ) →
      HoldsOf (λ s end. (end ≡ at + symbol_moves source form s) × (next : ℕ)
      × (source.field weight_width (at + weight_after source) ≡ got s.weight next))
      (symbol_reader source form w0 earlier at)
  unfolding symbol_reader HoldsOf
  symbol_end earlier at =
      holds_then _ (source.field arity_width at) _ λ arity at₁ e₁.
      holds_then _ (source.field ac_width at₁) _ λ ac at₂ e₂.
      holds-require _ (eqb ac 0 || eqb arity 2) _ at at₂ _ λ binary.
      holds_then _ (source.field weight_width at₂) _ λ weight at₃ e₃.
      holds-require _ (leb (least_weight_in form w0 arity) weight) _ at₂ at₃ _ λ weighs.
      holds_then _ (source.field rank_width at₃) _ λ rank at₄ e₄.
      holds-require _ (not (held_by earlier rank)) _ at₃ at₄ _ λ fresh.
      holds_then _ (coefficients_in source form (eqb ac 1) arity at₄) _ λ ks end e₅.
      let m₁ = moves arity_width at arity at₁ e₁ in
      let m₂ = moves ac_width at₁ ac at₂ e₂ in
      let here : at₂ ≡ at + weight_after source = omega arith in (
        omega (
          arith,
          moves weight_width at₂ weight at₃ e₃,
          moves rank_width at₃ rank at₄ e₄,
          holds-got _ _ ks end (coefficients-end (eqb ac 1) arity at₄) e₅,
        ),
        at₃,
        rw here at e₃,
      )

  -- The weights of symbols that begin at an offset stand where they are said to stand.
  abbrev Placed : ℕ → List Symbol → Type 0
  Placed at ss =
      (f : ℕ) → f < length ss → (next : ℕ)
      × (source.field weight_width (weight_offset source form at ss f) ≡ got (get_or ss f absent).weight next)

  placed-more : (at mid : ℕ) (s : Symbol) (ss : List Symbol) → mid ≡ at + symbol_moves source form s →
      (next : ℕ) × (source.field weight_width (at + weight_after source) ≡ got s.weight next) → Placed mid ss →
      Placed at (s ∷ ss)
  placed-more at mid s ss m first later zero h = first
  placed-more at mid s ss m first later (suc f) h = rw m at (later f (omega arith))

  -- So many symbols after the earlier ones, and that they end after their weights.
  pub symbols-placed : (n : ℕ) (earlier : List Symbol) (at : ℕ) →
      HoldsOf (λ all end. (ss : List Symbol) × (all ≡ earlier ++ ss) × (length ss ≡ n) × (at ≤ end)
      × ((f : ℕ) → f < n → weight_offset source form at ss f ≤ end) × Placed at ss)
      (symbols_reader source form w0 n earlier at)
  unfolding symbols_reader HoldsOf
  symbols-placed zero earlier at =
      ([], sym (append-nil earlier), refl, omega arith, λ f h. absurd (omega arith), λ f h. absurd (omega arith))
  symbols-placed (suc n) earlier at =
      holds_then _ (symbol_reader source form w0 earlier at) _ λ s mid e.
      let (m, next, first) = holds-got _ _ s mid (symbol_end earlier at) e in
      let up_to = earlier ++ (s ∷ []) in
      holds-map _ _ (symbols_reader source form w0 n up_to mid) (symbols-placed n up_to mid)
      λ all end (ss, a, k, later, weights, placed). (
        s ∷ ss,
        a ∙ append_assoc earlier (s ∷ []) ss,
        ap suc k,
        omega arith,
        further at mid end n s ss m later weights,
        placed-more at mid s ss m (next, first) placed,
      )
    where
      further : (at mid end n : ℕ) (s : Symbol) (ss : List Symbol) → mid ≡ at + symbol_moves source form s →
          mid ≤ end → ((f : ℕ) → f < n → weight_offset source form mid ss f ≤ end) → (f : ℕ) → f < suc n →
          weight_offset source form at (s ∷ ss) f ≤ end
      further at mid end n s ss m later weights zero h = omega arith
      further at mid end n s ss m later weights (suc f) h = rw m at (weights f (omega arith))
