-- Splitting a list of elements by their roots, and joining two lists of offsets.
--     split-start, split-variable, -above, -below, -level   one step of the splitting
--     joined-more                                   one step of the joining
use mathlib.Core.List.{List, [], ◌∷◌, ◌++◌, map, append_assoc, append-nil, map-append}
use mathlib.Core.Path.{◌≡◌, refl, ap, ◌∙◌}
use mathlib.Core.Bool.{Bool, true, false, cond}
use Prim.Native.Nat.{ℕ, ◌+◌, ◌≤◌, ◌<◌}
use native.Mathlib.Omega.{arith}
use native.Mathlib.Numerals.{add-one}
use lib.ListN.{length, get_or, take, set}
use lib.Seq.{take-suc}
use borrow.Author.Tests.{lt-ltb, le-ltb}
use Rattle.multisets.specs.Multiset.{choose}
use Rattle.multisets.proofs.Relations.{by_test}
use Rattle.terms.specs.Signature.{symbol_of}
use Rattle.terms.specs.Term.{Term, is_var}
use Rattle.terms.specs.Equivalence.{is_equivalent}
use Rattle.terms.specs.Order.{variables as variables_of, high_part, low_part, root_above, root_below}
use Rattle.symbols.specs.Table.{signature_of}
use Rattle.subterms.specs.Parts.{part_at}
use Rattle.equivalence.specs.Offsets.{AtOffsets, terms_at, left_at}
use Rattle.subterms.proofs.PartLaws.{variable, symbol}
use Rattle.equivalence.proofs.OffsetLaws.{offset-added, offsets-length}
use Rattle.extensions.proofs.MeasureLaws.{cancel-length}

choose-last : {A : Type 0} (q : A → Bool) (l : List A) (x : A) →
    choose q (l ++ x ∷ []) ≡ choose q l ++ cond (q x) (x ∷ []) []
choose-last q [] x = by_test (q x) (λ e. rw e) λ e. rw e
choose-last q (a ∷ l) x = by_test (q a) (λ e. rw (e, choose-last q l x)) λ e. rw (e, choose-last q l x)

-- ---- splitting

-- The first k offsets are split.
pub record Splitting (table : List ℕ) (f : ℕ) (t offsets above below vars : List ℕ) (k a b v : ℕ) : Type 0 where
  pub aboves : a ≤ k
  pub belows : b ≤ k
  pub variables : v ≤ k
  pub high : AtOffsets (signature_of table) t above a (high_part (signature_of table) f (terms_at table t offsets k))
  pub low : AtOffsets (signature_of table) t below b (low_part (signature_of table) f (terms_at table t offsets k))
  pub vars_in : AtOffsets (signature_of table) t vars v (variables_of (terms_at table t offsets k))

pub split-start : (table : List ℕ) (f : ℕ) (t offsets above below vars : List ℕ) → length above ≡ 64 →
    length below ≡ 64 → length vars ≡ 64 → Splitting table f t offsets above below vars 0 0 0 0
split-start table f t offsets above below vars d e h = record {
  aboves = omega arith;
  belows = omega arith;
  variables = omega arith;
  high = none d;
  low = none e;
  vars_in = none h;
}
  where
    none : {l : List ℕ} → length l ≡ 64 → AtOffsets (signature_of table) t l 0 []
    none e = record { room = e; few = omega arith; inside = λ k h. absurd (omega arith); there = refl }

module _ (table t offsets : List ℕ) (k : ℕ) (r : length offsets ≡ 64) (l : k < 64) where
  abbrev here : Term
  here = part_at (signature_of table) t (get_or offsets k 0)

  terms-more : terms_at table t offsets (k + 1) ≡ terms_at table t offsets k ++ here ∷ []
  terms-more =
      rw add-one (ap (map (part_at (signature_of table) t)) (take-suc offsets k 0 (omega arith))
      ∙ map-append (part_at (signature_of table) t) (take k offsets) (get_or offsets k 0 ∷ []))

  module _ (q : Term → Bool) (out : List ℕ) (a : ℕ)
      (O : AtOffsets (signature_of table) t out a (choose q (terms_at table t offsets k))) where
    chosen : q here ≡ true → get_or offsets k 0 < length t → a ≤ k →
        AtOffsets (signature_of table) t (set out a (get_or offsets k 0)) (a + 1)
        (choose q (terms_at table t offsets (k + 1)))
    chosen e h s =
        rw (terms-more, choose-last, e)
        (offset-added (signature_of table) t out a (get_or offsets k 0) _ O h (omega arith))

    passed : q here ≡ false → AtOffsets (signature_of table) t out a (choose q (terms_at table t offsets (k + 1)))
    passed e = rw (terms-more, choose-last, e, append-nil) O

module _ {table : List ℕ} {f : ℕ} {t offsets above below vars : List ℕ} {k a b v m : ℕ}
    (S : Splitting table f t offsets above below vars k a b v)
    (P : AtOffsets (signature_of table) t offsets m (terms_at table t offsets m)) (l : k < m) where
  few : k < 64
  few = omega (arith, P.few)

  abbrev at : ℕ
  at = get_or offsets k 0

  pub split-variable : 256 ≤ get_or t at 0 → Splitting table f t offsets above below (set vars v at) (k + 1) a b (v + 1)
  split-variable h =
      let σ = signature_of table in
      let d = variable σ t at (P.inside k l) h in
      record {
        aboves = omega (arith, S.aboves);
        belows = omega (arith, S.belows);
        variables = omega (arith, S.variables);
        high = passed table t offsets k P.room few (root_above σ f) above a S.high (rw d);
        low = passed table t offsets k P.room few (root_below σ f) below b S.low (rw d);
        vars_in = chosen table t offsets k P.room few is_var vars v S.vars_in (rw d) (P.inside k l) S.variables;
      }

  module _ (h : get_or t at 0 < 256) where
    abbrev rank : ℕ
    rank = (symbol_of (signature_of table) f).precedence

    abbrev own_rank : ℕ
    own_rank = (symbol_of (signature_of table) (get_or t at 0)).precedence

    pub split-above : rank < own_rank → Splitting table f t offsets (set above a at) below vars (k + 1) (a + 1) b v
    split-above u =
        let σ = signature_of table in
        let d = symbol σ t at (P.inside k l) h in
        record {
          aboves = omega (arith, S.aboves);
          belows = omega (arith, S.belows);
          variables = omega (arith, S.variables);
          high = chosen table t offsets k P.room few (root_above σ f) above a S.high
              (rw d (lt-ltb rank own_rank u))
              (P.inside k l) S.aboves;
          low = passed table t offsets k P.room few (root_below σ f) below b S.low
              (rw d (le-ltb own_rank rank (omega arith)));
          vars_in = passed table t offsets k P.room few is_var vars v S.vars_in (rw d);
        }

    pub split_below : own_rank < rank → Splitting table f t offsets above (set below b at) vars (k + 1) a (b + 1) v
    split_below u =
        let σ = signature_of table in
        let d = symbol σ t at (P.inside k l) h in
        record {
          aboves = omega (arith, S.aboves);
          belows = omega (arith, S.belows);
          variables = omega (arith, S.variables);
          high = passed table t offsets k P.room few (root_above σ f) above a S.high
              (rw d (le-ltb rank own_rank (omega arith)));
          low = chosen table t offsets k P.room few (root_below σ f) below b S.low (rw d (lt-ltb own_rank rank u))
              (P.inside k l) S.belows;
          vars_in = passed table t offsets k P.room few is_var vars v S.vars_in (rw d);
        }

    pub split_level : own_rank ≡ rank → Splitting table f t offsets above below vars (k + 1) a b v
    split_level u =
        let σ = signature_of table in
        let d = symbol σ t at (P.inside k l) h in
        record {
          aboves = omega (arith, S.aboves);
          belows = omega (arith, S.belows);
          variables = omega (arith, S.variables);
          high = passed table t offsets k P.room few (root_above σ f) above a S.high
              (rw d (le-ltb rank own_rank (omega arith)));
          low = passed table t offsets k P.room few (root_below σ f) below b S.low
              (rw d (le-ltb own_rank rank (omega arith)));
          vars_in = passed table t offsets k P.room few is_var vars v S.vars_in (rw d);
        }

-- ---- joining

-- One more of the offsets qs after those in ps.
pub joined-more : (table : List ℕ) {t ps : List ℕ} (qs : List ℕ) {k x : ℕ} (l : List Term) → x < length qs → k < 64 → get_or qs x 0 < length t →
    AtOffsets (signature_of table) t ps k (l ++ terms_at table t qs x) →
    AtOffsets (signature_of table) t (set ps k (get_or qs x 0)) (k + 1) (l ++ terms_at table t qs (x + 1))
joined-more table {t} {ps} qs {k} {x} l a b c g =
    let σ = signature_of table in
    let e : terms_at table t qs (x + 1) ≡ terms_at table t qs x ++ part_at σ t (get_or qs x 0) ∷ [] =
    rw add-one (ap (map (part_at σ t)) (take-suc qs x 0 a) ∙ map-append (part_at σ t) (take x qs) (get_or qs x 0 ∷ [])) in
    rw (e, ← append_assoc) (offset-added σ t ps k (get_or qs x 0) _ g c b)

-- What is left is no more than what was there.
pub surplus-few : (table s svars : List ℕ) (a : ℕ) {t tvars out : List ℕ} {b r : ℕ} →
    AtOffsets (signature_of table) t tvars b (terms_at table t tvars b) →
    AtOffsets (signature_of table) t out r (left_at table s svars a t tvars b).right → r ≤ b
surplus-few table s svars a {t} {tvars} {out} {b} P Q =
    omega (
      arith,
      offsets-length P,
      offsets-length Q,
      cancel-length (is_equivalent (signature_of table)) (terms_at table s svars a)
          (terms_at table t tvars b),
    )
