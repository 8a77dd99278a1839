-- Operations on terms do not tell like inputs apart.
--     like-reads          like inputs read alike: to AC-equivalent terms, or to the same fault
--     comparison-like     AC-equivalent terms compare alike
--     oftener-like        AC-equivalent terms have the same variable test
--     fingerprints-like   like terms have the same fingerprint
--     terms-like          two like terms read alike under one signature
--     replies-agree       what does not tell AC-equivalent terms apart replies the same
use mathlib.Core.List.{List}
use mathlib.Core.Logic.{◌↔◌}
use mathlib.Core.Path.{◌≡◌, refl, ap, ◌∙◌}
use mathlib.Core.Bool.{true}
use Prim.Native.Nat.{ℕ, ◌≤◌}
use native.Mathlib.Omega.{arith}
use lib.ListN.{length}
use Rattle.multisets.proofs.Relations.{by_order, by_test, same_test}
use Rattle.terms.specs.Signature.{Signature, Admissible}
use Rattle.terms.specs.Term.{Term, size, WellFormed}
use Rattle.terms.specs.Words.{first_variable, words, term_of}
use Rattle.terms.specs.Equivalence.{Equivalent, is_equivalent}
use Rattle.terms.specs.Equivalence.Equivalent.{same, back, then}
use Rattle.terms.proofs.WordsLaws.{term_of-words}
use Rattle.terms.specs.Fingerprint.{fingerprint}
use Rattle.terms.specs.Oftener.{first_oftener}
use Rattle.terms.proofs.OftenerLaws.{first_oftener-same}
use Rattle.terms.proofs.Theorems.{measures-respect-equivalence, test-decides, fingerprint-respects-equivalence}
use Rattle.theory.proofs.Theorems.{order-invariant}
use Rattle.format.specs.Layout.{max_nodes}
use Rattle.format.specs.Reading.{Reading}
use Rattle.format.specs.Reading.Reading.{got, fault}
use Rattle.format.specs.Files.{read_term}
use Rattle.operations.specs.Replies.{Reply, ◌>>=◌, from_input}
use Rattle.operations.specs.Replies.Reply.{accepted, refused}
use Rattle.format.specs.Statements.{IsTerm}
use Rattle.format.specs.Format.{is_light}
use Rattle.format.proofs.LightLaws.{light-same}
use Rattle.format.proofs.Theorems.{read-term-well-formed, well-formed-reads}
use Rattle.operations.specs.Replies.{Error}
use Rattle.operations.specs.Inputs.{Inputs, read_terms}
use Rattle.operations.specs.Hashing.{fingerprinted_term}
use Rattle.operations.specs.Comparing.{relation, comparison}
use Rattle.guarantees.specs.Guarantees.{Like}
use Rattle.guarantees.specs.Guarantees.Like.{same_words, equal_terms}

module _ (σ : Signature) (A : Admissible σ) where
  -- Both give well-formed terms that are AC-equivalent, or the same fault.
  pub data Alike : Reading (List ℕ) → Reading (List ℕ) → Type 0 where
    terms : {ws vs : List ℕ} {n m : ℕ} → WellFormed σ (term_of σ ws) → WellFormed σ (term_of σ vs) →
        Equivalent σ (term_of σ ws) (term_of σ vs) → Alike (got ws n) (got vs m)
    faults : {code offset : ℕ} → Alike (fault code offset) (fault code offset)

  reading-alike : (r : Reading (List ℕ)) → ((ws : List ℕ) (n : ℕ) → r ≡ got ws n → IsTerm σ ws) → Alike r r
  reading-alike (got ws n) h = let t = h ws n refl in terms t.well_formed t.well_formed same
  reading-alike (fault code offset) h = faults

  module _ (few : length σ.symbols ≤ first_variable) where
    terms-alike : (s t : Term) → WellFormed σ s → WellFormed σ t → Equivalent σ s t →
        Alike (read_term σ (words s)) (read_term σ (words t))
    terms-alike s t v w d =
        let m = measures-respect-equivalence σ A.ac_ones s t d in
        let e : size s ≡ size t = m.size in
        let same = light-same σ s t m.weight m.variable_coefficients in
        by_order max_nodes (size t)
        (λ h. rw ((well-formed-reads σ few s v).2 (omega arith), (well-formed-reads σ few t w).2 h) faults)
        λ h. by_test (is_light σ t)
        (λ light. rw (
          ((well-formed-reads σ few s v).0 (omega arith) (same ∙ light)).0,
          ((well-formed-reads σ few t w).0 h light).0,
        )
        (terms {ws = words s} {vs = words t} (rw (term_of-words σ few s v) v) (rw (term_of-words σ few t w) w)
        (rw (term_of-words σ few s v, term_of-words σ few t w) d)))
        λ heavy. rw (
          (well-formed-reads σ few s v).1 (omega arith) (same ∙ heavy),
          (well-formed-reads σ few t w).1 h heavy,
        )
        faults

    pub like-reads : {left left' : List ℕ} → Like σ left left' → Alike (read_term σ left) (read_term σ left')
    like-reads (same_words {ws = left}) =
        reading-alike (read_term σ left) λ ws n e. ((read-term-well-formed σ left ws n).1 e).2
    like-reads (equal_terms {s} {t} v w d) = terms-alike s t v w d

  -- ---- the comparison of AC-equivalent terms

  module _ (s s' t t' : Term) (v : WellFormed σ s) (v' : WellFormed σ s') (w : WellFormed σ t) (w' : WellFormed σ t')
      (d : Equivalent σ s s') (e : Equivalent σ t t') where
    equivalent-like : is_equivalent σ s t ≡ is_equivalent σ s' t'
    equivalent-like = same_test (is_equivalent σ s t) (is_equivalent σ s' t')
        (λ h. (decides v' w').1 (then (back d) (then ((decides v w).0 h) e)))
        λ h. (decides v w).1 (then d (then ((decides v' w').0 h) (back e)))
      where
        decides : {a b : Term} → WellFormed σ a → WellFormed σ b → (is_equivalent σ a b ≡ true) ↔ Equivalent σ a b
        decides {a} {b} x y = test-decides σ A.ac_binary a b x y

    pub comparison-like : comparison σ s t ≡ comparison σ s' t'
    unfolding relation
    comparison-like =
        rw (
          order-invariant σ A s t v w s' t' d e,
          order-invariant σ A t s w v t' s' e d,
          equivalent-like,
          (measures-respect-equivalence σ A.ac_ones s s' d).weight,
          (measures-respect-equivalence σ A.ac_ones t t' e).weight,
        )

pub oftener-like : (σ : Signature) → Admissible σ → (s s' t t' : Term) → WellFormed σ s → WellFormed σ s' →
    WellFormed σ t → WellFormed σ t' → Equivalent σ s s' → Equivalent σ t t' →
    first_oftener σ s t ≡ first_oftener σ s' t'
oftener-like σ A s s' t t' v v' w w' d e =
    first_oftener-same σ s t s' t' (λ x. (measures-respect-equivalence σ A.ac_ones s s' d).variable_coefficients x)
    λ x. (measures-respect-equivalence σ A.ac_ones t t' e).variable_coefficients x

-- ---- the fingerprint of one term

pub fingerprints-like : (σ : Signature) (A : Admissible σ) → length σ.symbols ≤ first_variable →
    (term term' : List ℕ) → Like σ term term' → fingerprinted_term σ term ≡ fingerprinted_term σ term'
unfolding fingerprinted_term
fingerprints-like σ A few term term' p = go (like-reads σ A few p)
  where
    go : {r r' : Reading (List ℕ)} → Alike σ A r r' →
        (◌>>=◌ (from_input 1 r) λ (t : List ℕ). accepted (fingerprint σ (term_of σ t)))
        ≡ (◌>>=◌ (from_input 1 r') λ (t : List ℕ). accepted (fingerprint σ (term_of σ t)))
    go (terms v v' d) = ap accepted (fingerprint-respects-equivalence σ _ _ d)
    go faults = refl

-- ---- operations on two terms

-- AC-equivalent terms under one signature, or the same refusal.
pub data AlikeInputs : Reply Inputs → Reply Inputs → Type 0 where
  alike : {σ : Signature} {s s' t t' : Term} → Admissible σ → WellFormed σ s → WellFormed σ s' → WellFormed σ t →
      WellFormed σ t' → Equivalent σ s s' → Equivalent σ t t' →
      AlikeInputs (accepted (record { signature = σ; left = s; right = t }))
      (accepted (record { signature = σ; left = s'; right = t' }))
  refusals : {e : Error} → AlikeInputs (refused e) (refused e)

-- What an operation makes of the readings of its two terms.
abbrev from_readings : Signature → Reading (List ℕ) → Reading (List ℕ) → Reply Inputs
from_readings σ r q =
    ◌>>=◌ (from_input 1 r) λ s. ◌>>=◌ (from_input 2 q) λ t.
    accepted (record { signature = σ; left = term_of σ s; right = term_of σ t })

readings-alike : (σ : Signature) (A : Admissible σ) → {r r' q q' : Reading (List ℕ)} → Alike σ A r r' →
    Alike σ A q q' → AlikeInputs (from_readings σ r q) (from_readings σ r' q')
readings-alike σ A (terms v v' d) (terms w w' e) = alike A v v' w w' d e
readings-alike σ A (terms v v' d) faults = refusals
readings-alike σ A faults (terms w w' e) = refusals
readings-alike σ A faults faults = refusals

pub terms-like : (σ : Signature) (A : Admissible σ) → length σ.symbols ≤ first_variable →
    (left left' right right' : List ℕ) → Like σ left left' → Like σ right right' →
    AlikeInputs (read_terms read_term σ left right) (read_terms read_term σ left' right')
unfolding read_terms
terms-like σ A few left left' right right' p q =
    readings-alike σ A (like-reads σ A few p) (like-reads σ A few q)

-- An operation that does not tell AC-equivalent terms apart replies the same.
pub replies-agree : {A : Type 0} (answer : Inputs → A) → ((σ : Signature) → Admissible σ → (s s' t t' : Term) →
    WellFormed σ s → WellFormed σ s' → WellFormed σ t → WellFormed σ t' → Equivalent σ s s' → Equivalent σ t t' →
    answer (record { signature = σ; left = s; right = t }) ≡ answer (record { signature = σ; left = s'; right = t' })) →
    {r r' : Reply Inputs} → AlikeInputs r r' →
    (◌>>=◌ r λ (i : Inputs). accepted (answer i)) ≡ (◌>>=◌ r' λ (i : Inputs). accepted (answer i))
replies-agree answer agrees (alike {σ} {s} {s'} {t} {t'} A v v' w w' d e) =
    ap accepted (agrees σ A s s' t t' v v' w w' d e)
replies-agree answer agrees refusals = refl
