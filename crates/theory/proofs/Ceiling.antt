-- The ceiling: how many steps a derivation can have that decreases throughout.
--     words-below            an expression's words are symbols
--     words-prefix           different expressions have different words
--     descending-ceiling     a list of expressions of bounded weights that descends is bounded
--     step_count-ceiling      fewer than (K + 1) ^ (2 W - 1) steps
use mathlib.Core.List.Memᴰ
use mathlib.Core.List.{List, [], ◌++◌, append_assoc, Memᴰ}
use mathlib.Core.Logic.{⊎_elim}
use mathlib.Core.Path.{◌≡◌, refl, sym, ap, ap₂, ◌∙◌}
use mathlib.Core.Bool.{true}
use Prim.Native.Nat.{ℕ, suc, ◌-◌, ◌*◌, ◌^◌, ◌≤◌, ◌<◌}
use native.Mathlib.Omega.{arith}
use lib.ListN.{length}
use Rattle.terms.specs.Signature.{Signature, symbol_of, NoZeroWeightUnary, Admissible}
use Rattle.terms.specs.Term.{Term, Terms, row, weight, WellFormeds, Expression}
use Rattle.terms.specs.Term.Term.{var, app}
use Rattle.terms.specs.Term.Terms.{nil, cons}
use Rattle.terms.specs.Words.{words, words_of}
use Rattle.terms.specs.Order.{is_greater}
use Rattle.terms.specs.Rewriting.{System, WellFormedRules, AllDecreasing, Derivation, step_count, along}
use Rattle.terms.specs.Rewriting.{StronglySorted}
use Rattle.terms.proofs.EquivalenceLaws.{is_equivalent-equivalence}
use Rattle.terms.proofs.WordsLaws.{length-words}
use Rattle.terms.proofs.VariableLaws.{Grounds, not-ground, expressions}
use Rattle.terms.proofs.WeightLaws.{nodes-le-weight}
use Rattle.theory.proofs.StrictOrder.{is_greater-order}
use Rattle.theory.proofs.Steps.{along-descends, along-expressions, length-along}
use Rattle.theory.proofs.Digits.{DigitsBelow, number_to, number_to-lt, number_to-injective}
use Rattle.theory.proofs.Pigeonhole.{sorted-within, pigeonhole}

module _ (σ : Signature) where
  mutual
    pub words-below : (t : Term) → Expression σ t → DigitsBelow (length σ.symbols) (words t)
    words-below (var x) e v m = absurd (not-ground x e.1)
    words-below (app f ts) e v (Memᴰ.head q) = rw q e.0.0
    words-below (app f ts) e v (Memᴰ.tail m) = words_of-below ts ((expressions σ).inner f ts e) v m

    words_of-below : (ts : Terms) → WellFormeds σ ts × Grounds ts → DigitsBelow (length σ.symbols) (words_of ts)
    words_of-below nil e v m = absurd (Memᴰ.not-nil m)
    words_of-below (cons t ts) e v m =
        ⊎_elim (λ k. words-below t ((expressions σ).head t ts e) v k)
        (λ k. words_of-below ts ((expressions σ).tail t ts e) v k) (Memᴰ.append_cases (words t) m)

  -- An expression is read off the front of a list of words in one way only.
  mutual
    words-prefix : (s t : Term) (xs ys : List ℕ) → Expression σ s → Expression σ t → words s ++ xs ≡ words t ++ ys →
        (s ≡ t) × (xs ≡ ys)
    words-prefix (var x) t xs ys d e h = absurd (not-ground x d.1)
    words-prefix (app f ss) (var y) xs ys d e h = absurd (not-ground y e.1)
    words-prefix (app f ss) (app g ts) xs ys d e h =
        let p : f ≡ g = cc h in
        let q : words_of ss ++ xs ≡ words_of ts ++ ys = cc h in
        let n : length (row ss) ≡ length (row ts) =
        d.0.1 ∙ ap (λ (k : ℕ). (symbol_of σ k).arity) p ∙ sym e.0.1 in
        let (r, z) = words_of-prefix ss ts xs ys n ((expressions σ).inner f ss d) ((expressions σ).inner g ts e) q in
        (ap₂ app p r, z)

    words_of-prefix : (ss ts : Terms) (xs ys : List ℕ) → length (row ss) ≡ length (row ts) →
        WellFormeds σ ss × Grounds ss → WellFormeds σ ts × Grounds ts → words_of ss ++ xs ≡ words_of ts ++ ys →
        (ss ≡ ts) × (xs ≡ ys)
    words_of-prefix nil nil xs ys n d e h = (refl, h)
    words_of-prefix nil (cons t ts) xs ys n d e h = absurd (omega arith)
    words_of-prefix (cons s ss) nil xs ys n d e h = absurd (omega arith)
    words_of-prefix (cons s ss) (cons t ts) xs ys n d e h =
        let (p, q) =
        words-prefix s t (words_of ss ++ xs) (words_of ts ++ ys) ((expressions σ).head s ss d) ((expressions σ).head t ts e)
        (sym (append_assoc (words s) (words_of ss) xs) ∙ h ∙ append_assoc (words t) (words_of ts) ys) in
        let (r, z) =
        words_of-prefix ss ts xs ys (omega arith) ((expressions σ).tail s ss d) ((expressions σ).tail t ts e) q in
        (ap₂ cons p r, z)

module _ (σ : Signature) (A : Admissible σ) (heavy : NoZeroWeightUnary σ) (W : ℕ) where
  -- An expression of weight at most W.
  abbrev Light : Term → Type 0
  Light u = Expression σ u × (weight σ u ≤ W)

  -- An expression's words, filled up, as a number.
  abbrev number : Term → ℕ
  number u = number_to (length σ.symbols) (2 * W - 1) (words u)

  words-short : (u : Term) → Light u → length (words u) ≤ 2 * W - 1
  words-short u (e, l) = omega (arith, length-words u, nodes-le-weight σ A heavy u e.0)

  numbers-differ : (s t : Term) → Light s → Light t → is_greater σ s t ≡ true → number s ≡ number t → ⊥
  numbers-differ s t b c g e =
      let w =
      number_to-injective (length σ.symbols) (2 * W - 1) (words s) (words t) (words-short s b) (words-short t c)
      (words-below σ s b.0) (words-below σ t c.0) e in
      let (p, _) = words-prefix σ s t [] [] b.0 c.0 (ap (λ (l : List ℕ). l ++ []) w) in
      (is_greater-order σ A).irreflexive b.0.0 c.0.0 g (rw p ((is_equivalent-equivalence σ).reflexive t))

  pub descending-ceiling : (l : List Term) → ((u : Term) → Memᴰ u l → Light u) →
      StronglySorted (λ (s t : Term). is_greater σ s t ≡ true) l →
      length l ≤ suc (length σ.symbols) ^ (2 * W - 1)
  descending-ceiling l b d =
      pigeonhole number (suc (length σ.symbols) ^ (2 * W - 1)) l
      (λ u m. number_to-lt (length σ.symbols) (2 * W - 1) (words u) (words-below σ u (b u m).0))
      (sorted-within l (λ s t m k. numbers-differ s t (b s m) (b t k)) d)

pub step_count-ceiling : (R : System) → Admissible R.signature → NoZeroWeightUnary R.signature →
    WellFormedRules R → AllDecreasing R → {s t : Term} (d : Derivation R s t) → Expression R.signature s →
    step_count R d < suc (length R.signature.symbols) ^ (2 * weight R.signature s - 1)
step_count-ceiling R A heavy W D {s} d e =
    let σ = R.signature in
    let h =
    descending-ceiling σ A heavy (weight σ s) (along R d) (along-expressions R A W D d e) (along-descends R A W D d) in
    omega (arith, length-along R d)
