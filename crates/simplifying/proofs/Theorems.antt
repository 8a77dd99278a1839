-- The theorems of specs/Statements.antt and specs/MatchingStatements.antt.
use mathlib.Core.Path.{sym}
use Prim.Native.Nat.{ℕ}
use native.Mathlib.Omega.{arith}
use Rattle.terms.specs.Signature.{Signature}
use Rattle.terms.specs.Equivalence.Equivalent.{back, then}
use Rattle.terms.specs.Rewriting.{System}
use Rattle.terms.proofs.EquivalenceMeasures.{expression-resp-equivalent}
use Rattle.terms.proofs.Theorems.{measures-respect-equivalence}
use Rattle.simplifying.specs.Canonical.{canonical}
use Rattle.simplifying.specs.Matching.{unbound}
use Rattle.simplifying.specs.Simplifying.{least_reduct}
use Rattle.simplifying.specs.Simplifying.Simplification.{normal, stuck}
use Rattle.simplifying.specs.MatchingStatements.{MatchesSound, MatchesComplete, MatchesNoLarger}
use Rattle.simplifying.specs.MatchingStatements.{MatchesArranged, AgendaAgrees}
use Rattle.simplifying.specs.Statements.{CanonicalForm, CanonicalOnly, CanonicalDecides, ReductsSound}
use Rattle.simplifying.specs.Statements.{ReductsComplete, LeastReductExact, LeastReductInvariant}
use Rattle.simplifying.specs.Statements.{SimplifiedExact, SimplifiedInvariant, SimplifiedNormal, SimplifiedStuck}
use Rattle.simplifying.proofs.CanonicalLaws.{canonical-equivalent, canonical-arranged, canonical-expression}
use Rattle.simplifying.proofs.CanonicalLaws.{arranged-unique, canonical-unique}
use Rattle.simplifying.proofs.MatchingLaws.{matches-sound, matches-complete}
use Rattle.simplifying.proofs.PieceLaws.{matches-arranged}
use Rattle.simplifying.proofs.AgendaLaws.{follows-pattern}
use Rattle.simplifying.proofs.ResultLaws.{matches-size}
use Rattle.simplifying.proofs.ReductSound.{reducts-sound}
use Rattle.simplifying.proofs.ReductComplete.{reducts-complete}
use Rattle.simplifying.proofs.SimplifyingLaws.{reduces-unique, least_reduct-says, least_reduct-resp}
use Rattle.simplifying.proofs.SimplifyingLaws.{simplified-says, simplified-resp, simplifies-unique}
use Rattle.simplifying.proofs.SimplifyingLaws.{simplified-ends}

module _ (σ : Signature) where
  pub canonical-form : CanonicalForm σ
  canonical-form A t e =
      let d = canonical-equivalent σ A.ac_binary t e.0 in
      let i = measures-respect-equivalence σ A.ac_ones (canonical σ t) t d in
      record {
        equivalent = d;
        expression = canonical-expression σ A t e;
        arranged = canonical-arranged σ A t e;
        same_size = i.size;
        same_weight = i.weight;
      }

  pub canonical-only : CanonicalOnly σ
  canonical-only A t u e d a =
      arranged-unique σ A u (canonical σ t) (expression-resp-equivalent σ (back d) e) (canonical-expression σ A t e) a
      (canonical-arranged σ A t e) (then d (back (canonical-equivalent σ A.ac_binary t e.0)))

  pub canonical-decides : CanonicalDecides σ
  canonical-decides A s t v w = (
    canonical-unique σ A s t v,
    λ q. then (back (canonical-equivalent σ A.ac_binary s v.0))
        (rw (sym q) at (canonical-equivalent σ A.ac_binary t w.0)),
  )

  pub matches-are-sound : MatchesSound σ
  matches-are-sound A p t e b m =
      let h = matches-sound σ A.ac_binary p t unbound b e (λ x. tt) m in
      (λ τ a. (h.agrees τ a).1, λ x n f. omega (arith, (h.binds x f).1))

  pub matches-are-complete : MatchesComplete σ
  matches-are-complete A p t w τ q = matches-complete σ A.ac_binary p t unbound τ w q λ x. tt

  pub matches-no-larger : MatchesNoLarger σ
  matches-no-larger A p t e b = matches-size σ A.ac_binary p t b e

  pub matches-are-arranged : MatchesArranged σ
  matches-are-arranged p t a b m x u q = rw q at (matches-arranged σ p t unbound b a (λ x. tt) m x)

  pub agenda-agrees : AgendaAgrees σ
  agenda-agrees A few p t w v b = follows-pattern σ A.ac_binary few p t b w v

module _ (R : System) where
  pub reducts-are-sound : ReductsSound R
  reducts-are-sound A W D s e t = reducts-sound R A s t e

  pub reducts-are-complete : ReductsComplete R
  reducts-are-complete A W D s e t = reducts-complete R A W D s t e

  module _ (limit : ℕ) where
    pub least-reduct-exact : LeastReductExact R limit
    least-reduct-exact A W D s e o = (
      λ q. rw q at (least_reduct-says R limit A W D s e),
      reduces-unique R limit A W s (least_reduct R limit s) o (least_reduct-says R limit A W D s e),
    )

    pub least-reduct-invariant : LeastReductInvariant R limit
    least-reduct-invariant A W D s e t = least_reduct-resp R limit A W D s t e

    pub simplified-exact : SimplifiedExact R limit
    simplified-exact heavy A W D s e o = (
      λ q. rw q at (simplified-says R limit A W D heavy s e),
      simplifies-unique R limit A W (simplified-says R limit A W D heavy s e),
    )

    pub simplified-invariant : SimplifiedInvariant R limit
    simplified-invariant A W D s e t = simplified-resp R limit A s t e

    pub simplified-normal : SimplifiedNormal R limit
    simplified-normal heavy A W D s e t = simplified-ends R limit A W D heavy s e (normal t)

    pub simplified-stuck : SimplifiedStuck R limit
    simplified-stuck heavy A W D s e = simplified-ends R limit A W D heavy s e stuck
