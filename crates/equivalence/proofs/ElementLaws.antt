-- Listing the elements of a flattening, and how many there are.
--     elements-few                     an AC symbol's flattening has at most 64 elements
--     Listing                          what is listed and what is ahead make up the whole
--     listing-own, listing-other       one step of the scan
use mathlib.Core.List.{List, ◌∷◌, ◌++◌, append_assoc}
use mathlib.Core.Path.{◌≡◌, refl, ap}
use Prim.Native.Nat.{ℕ, ◌+◌, ◌-◌, ◌*◌, ◌≤◌, ◌<◌}
use native.Mathlib.Omega.{arith}
use lib.Dec.{eqb}
use lib.ListN.{length, get_or, set, length-append}
use borrow.Author.Tests.{eqb-true}
use Rattle.multisets.proofs.Relations.{by_test}
use Rattle.terms.specs.Signature.{Signature, symbol_of}
use Rattle.terms.specs.Term.{Term, Terms, size, sizes, row, arguments, flattening, flattenings, WellFormed, WellFormeds}
use Rattle.terms.specs.Term.Term.{var, app}
use Rattle.terms.specs.Term.Terms.{nil, cons}
use Rattle.symbols.specs.Table.{signature_of}
use Rattle.symbols.proofs.TableLaws.{few-at}
use Rattle.subterms.specs.Parts.{part_at, parts_at, elements_at, Stands}
use Rattle.equivalence.specs.Keys.{Prepared, size_in}
use Rattle.equivalence.specs.Offsets.{AtOffsets, terms_at}
use Rattle.subterms.proofs.PartLaws.{symbol}
use Rattle.subterms.proofs.FormedLaws.{part-formed}
use Rattle.equivalence.proofs.OffsetLaws.{offset-added, offsets-length}
use Rattle.equivalence.proofs.StepLaws.{elements-own, elements-other, prepared-size, part_small}
use Rattle.equivalence.proofs.StepLaws.{step-next}
use Rattle.equivalence.proofs.StepLaws.{step-own}

-- ---- how many elements

module _ (σ : Signature) (f : ℕ) (two : (symbol_of σ f).arity ≡ 2) where
  mutual
    flattening-few : (t : Term) → WellFormed σ t → 2 * length (flattening f t) ≤ size t + 1
    flattening-few (var x) w = omega arith
    flattening-few (app g ts) w =
        by_test (eqb f g)
        (λ e. let d = eqb-true f g e in
        rw e (omega (arith, flattenings-few ts w.2, w.1, ap (λ (n : ℕ). (symbol_of σ n).arity) d)))
        λ e. rw e (omega arith)

    flattenings-few : (ts : Terms) → WellFormeds σ ts → 2 * length (flattenings f ts) ≤ sizes ts + length (row ts)
    flattenings-few nil w = omega arith
    flattenings-few (cons t ts) w =
        simp length-append (omega (arith, flattening-few t w.0, flattenings-few ts w.1))

pub elements-few : (table : List ℕ) {t keys : List ℕ} (P : Prepared (signature_of table) t keys) (j f : ℕ) {n : ℕ} →
    length table ≤ 1025 → j < length t → get_or t j 0 ≡ f → f < 256 → (symbol_of (signature_of table) f).arity ≡ 2 →
    n ≡ (symbol_of (signature_of table) f).arity → length (elements_at (signature_of table) f t (j + 1) n) ≤ 64
elements-few table {t} P j f small h e v two d =
    let σ = signature_of table in
    let w = rw (symbol σ t j h (rw e v), e) at (part-formed σ (few-at table small) t j P.complete) in
    let z = rw (symbol σ t j h (rw e v), e) at (part_small σ t P.complete j h) in
    let u = arguments (parts_at σ t (j + 1) (symbol_of σ f).arity) in
    rw d (omega (arith, flattenings-few σ f two u w.2, w.1, P.short))

-- ---- the scan

pub record Listing (table : List ℕ) (f : ℕ) (t : List ℕ) (j n : ℕ) (offsets : List ℕ) (at owed k : ℕ) : Type 0 where
  pub terms : Stands (signature_of table) t at owed
  pub listed : AtOffsets (signature_of table) t offsets k (terms_at table t offsets k)
  pub same : terms_at table t offsets k ++ elements_at (signature_of table) f t at owed
      ≡ elements_at (signature_of table) f t j n

module _ {table : List ℕ} {f : ℕ} {t : List ℕ} {j n : ℕ} {offsets : List ℕ} {at owed k : ℕ} {keys : List ℕ}
    (P : Prepared (signature_of table) t keys) (L : Listing table f t j n offsets at owed k) where
  module _ (p : 0 < owed) where
    pub listing-own : {a : ℕ} → get_or t at 0 ≡ f → f < 256 → a ≡ (symbol_of (signature_of table) f).arity →
        Listing table f t j n offsets (at + 1) (a + (owed - 1)) k
    listing-own {a} e v d = record {
      terms = step-own P L.terms p f e v d;
      listed = L.listed;
      same = rw d (rw (elements-own (signature_of table) t at P.complete f owed p L.terms e v) at L.same);
    }

    module _ (e : get_or t at 0 ≡ f → ⊥) where
      next-elements : {w : ℕ} → w ≡ size_in keys at → terms_at table t offsets k
          ++ part_at (signature_of table) t at ∷ elements_at (signature_of table) f t (at + w) (owed - 1)
          ≡ elements_at (signature_of table) f t j n
      next-elements d =
          rw (d, prepared-size P at (omega (arith, L.terms.fits)))
          (rw (elements-other (signature_of table) t at P.complete f owed p L.terms e) at L.same)

      pub listing-room : length (elements_at (signature_of table) f t j n) ≤ 64 → k < 64
      listing-room few =
          let q = ap length (next-elements refl) in
          omega (arith, rw length-append at q, offsets-length L.listed)

      pub listing-other : {w : ℕ} → w ≡ size_in keys at → length (elements_at (signature_of table) f t j n) ≤ 64 →
          Listing table f t j n (set offsets k at) (at + w) (owed - 1) (k + 1)
      listing-other d few =
          let u = offset-added (signature_of table) t offsets k at (terms_at table t offsets k) L.listed
          (omega (arith, L.terms.fits)) (listing-room few) in
          record {
            terms = step-next P L.terms p d;
            listed = record { room = u.room; few = u.few; inside = u.inside; there = refl };
            same = rw (u.there, append_assoc) (next-elements d);
          }
