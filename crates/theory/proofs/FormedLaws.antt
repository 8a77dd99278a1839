-- The test of AC-equivalence, and an order of terms, held to well-formed terms.
--     like_formed, like_formed-equivalence, -root   the test held, and its laws
--     like-formed                                 on well-formed terms it is the test
--     Formed, equal-formed                        and so for lists of them as multisets
--     alike-of-test                               what AC-equivalent terms have in common
--     greater_within-lowest, mark-formed           an order held; the marks over the tests held
use mathlib.Core.List.{List}
use mathlib.Core.Path.{◌≡◌, sym, ◌∙◌}
use mathlib.Core.Bool.{Bool, true, false, false≢true}
use Prim.Native.Nat.{ℕ}
use Rattle.multisets.specs.Multiset.{multiset_equal}
use Rattle.terms.specs.Signature.{Signature, Admissible}
use Rattle.terms.specs.Term.{Term, WellFormed}
use Rattle.terms.specs.Term.Term.{var, app}
use Rattle.terms.specs.Equivalence.{is_equivalent}
use Rattle.terms.specs.Order.{decreasing_mark}
use Rattle.multisets.proofs.Relations.{IsEquivalence}
use Rattle.multisets.proofs.Agreement.{multiset_equal-agree}
use Rattle.multisets.proofs.Restriction.{like_within, greater_within, like_within-view, like_within-same}
use Rattle.multisets.proofs.Restriction.{greater_within-same, greater_within-view, within-equivalence}
use Rattle.terms.proofs.TermLaws.{Each, formed-parts, AgreeOn, each-agree}
use Rattle.terms.proofs.FormedTest.{is_formed, formed-decides}
use Rattle.terms.proofs.EquivalenceLaws.{arguments_alike-agree, is_equivalent-equivalence, symbol-of-is_equivalent}
use Rattle.terms.proofs.EquivalenceLaws.{arguments-of-is_equivalent}
use Rattle.terms.proofs.OrderLaws.{decreasing_mark-agree}
use Rattle.terms.proofs.IteratedLaws.{power-resp-equivalent}
use Rattle.terms.proofs.Theorems.{test-decides, measures-respect-equivalence}
use Rattle.theory.proofs.RootTests.{KeepsRoots, is_equivalent-root}
use Rattle.theory.proofs.MarkInvariance.{SameRoot, Alike}
use Rattle.theory.proofs.MarkInvariance.SameRoot.{same_variable, same_symbol}

module _ (σ : Signature) where
  abbrev pub like_formed : Term → Term → Bool
  like_formed = like_within (is_formed σ) (is_equivalent σ)

  pub like_formed-equivalence : IsEquivalence like_formed
  like_formed-equivalence = within-equivalence (is_formed σ) (is_equivalent σ) (is_equivalent-equivalence σ)

  pub like_formed-root : KeepsRoots like_formed
  like_formed-root s t e = is_equivalent-root σ s t ((like_within-view (is_formed σ) (is_equivalent σ) s t).0 e).1

  pub like-formed : AgreeOn (WellFormed σ) (WellFormed σ) (is_equivalent σ) like_formed
  like-formed a b v w =
      like_within-same (is_formed σ) (is_equivalent σ) a b ((formed-decides σ a).1 v) ((formed-decides σ b).1 w)

  pub greater-formed : (greater : Term → Term → Bool) →
      AgreeOn (WellFormed σ) (WellFormed σ) greater (greater_within (is_formed σ) greater)
  greater-formed greater a b v w =
      greater_within-same (is_formed σ) greater a b ((formed-decides σ a).1 v) ((formed-decides σ b).1 w)

  abbrev pub Formed : List Term → Type 0
  Formed = Each (WellFormed σ)

  pub equal-formed : (l m : List Term) → Formed l → Formed m →
      multiset_equal (is_equivalent σ) l m ≡ multiset_equal like_formed l m
  equal-formed l m v w = multiset_equal-agree (is_equivalent σ) like_formed l m (each-agree like-formed v w)

  -- ---- AC-equivalent terms

  same_root : (s t : Term) → WellFormed σ s → WellFormed σ t → is_equivalent σ s t ≡ true → SameRoot σ like_formed s t
  same_root (var x) (var y) v w e = let p : x ≡ y = cc (is_equivalent-root σ (var x) (var y) e) in rw p same_variable
  same_root (var x) (app g ts) v w e =
      absurd (let z : false ≡ true = cc (is_equivalent-root σ (var x) (app g ts) e) in false≢true z)
  same_root (app f ss) (var y) v w e =
      absurd (let z : false ≡ true = cc (is_equivalent-root σ (app f ss) (var y) e) in false≢true z)
  same_root (app f ss) (app g ts) v w e =
      let p = symbol-of-is_equivalent σ f g ss ts e in
      rw (← p) (same_symbol (sym (arguments_alike-agree σ (WellFormed σ) (WellFormed σ) (is_equivalent σ) like_formed
      like-formed f ss ts (formed-parts σ (app f ss) v) (formed-parts σ (app f ts) (rw (← p) at w)))
      ∙ arguments-of-is_equivalent σ f g ss ts e))

  pub alike-of-test : Admissible σ → {s t : Term} → WellFormed σ s → WellFormed σ t → is_equivalent σ s t ≡ true →
      Alike σ like_formed s t
  alike-of-test A {s} {t} v w e =
      let d = (test-decides σ A.ac_binary s t v w).0 e in
      let i = measures-respect-equivalence σ A.ac_ones s t d in
      record {
        weights = i.weight;
        oftenness = i.variable_coefficients;
        powers = λ f x. power-resp-equivalent f x σ d;
        roots = same_root s t v w e;
      }

  -- ---- an order

  module _ (greater : Term → Term → Bool) where
    pub greater_within-lowest : ((x : ℕ) (t : Term) → WellFormed σ t → greater (var x) t ≡ true → ⊥) →
        (x : ℕ) (t : Term) → greater_within (is_formed σ) greater (var x) t ≡ true → ⊥
    greater_within-lowest lowest x t e =
        let (v, w, g) = (greater_within-view (is_formed σ) (formed-decides σ) greater (var x) t).0 e in lowest x t w g

    pub mark-formed : (s t : Term) → WellFormed σ s → WellFormed σ t →
        decreasing_mark σ (is_equivalent σ) greater s t ≡
        decreasing_mark σ like_formed (greater_within (is_formed σ) greater) s t
    mark-formed s t v w =
        decreasing_mark-agree σ (WellFormed σ) (WellFormed σ) (is_equivalent σ) like_formed like-formed greater
        (greater_within (is_formed σ) greater) (greater-formed greater) s t (formed-parts σ s v) (formed-parts σ t w)
