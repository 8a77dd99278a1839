-- Node counts, by which the comparison ends: of what is chosen, of what is left, of the terms inside and after.
--     choose-sum, cancel-within          what is chosen and what is left is no more
--     joined-sum, above-variables        the joined high part
--     elements-sum                       the elements of a flattening
--     next-total                         the terms after a term
--     part_nodes, row_nodes, offset_nodes   what falls
--     inner-rows, -nodes, -elements      the arguments of two terms with the same root
use mathlib.Core.List.{List, [], ◌∷◌, map}
use mathlib.Core.Path.{◌≡◌, refl, sym, ap, ◌∙◌}
use mathlib.Core.Bool.{Bool, true, false, false≢true}
use Prim.Native.Nat.{ℕ, suc, zero, ◌+◌, ◌-◌, ◌≤◌, ◌<◌}
use native.Mathlib.Omega.{arith}
use lib.Dec.{eqb}
use lib.ListN.{length, get_or, take}
use lib.Seq.{get_or-take, length-take-le}
use Rattle.multisets.specs.Multiset.{Removal, Rest, choose, keep, remove, spend, cancel}
use Rattle.multisets.specs.Multiset.Removal.{without, absent}
use Rattle.multisets.proofs.Relations.{by_test}
use Rattle.multisets.proofs.MultisetLaws.{sum, sum-append, sum_one}
use Rattle.terms.specs.Signature.{Signature, symbol_of}
use Rattle.terms.specs.Term.{Term, Terms, size, sizes, arguments, is_var, flattening, flattenings}
use Rattle.terms.specs.Term.Term.{var, app}
use Rattle.terms.specs.Term.Terms.{nil, cons}
use Rattle.terms.specs.Equivalence.{is_equivalent}
use Rattle.terms.specs.Order.{variables, root_above, high_part, joined_high}
use Rattle.symbols.specs.Table.{signature_of}
use Rattle.subterms.specs.Parts.{part_at, parts_at, elements_at, Stands}
use Rattle.equivalence.specs.Keys.{Prepared, BothPrepared, size_in}
use Rattle.equivalence.specs.Offsets.{AtOffsets, terms_at}
use Rattle.subterms.proofs.PartLaws.{total, symbol}
use Rattle.equivalence.proofs.StepLaws.{row_next, prepared-size}
use Rattle.equivalence.proofs.AlikeLaws.{ac-small, inner-left, inner-right}
use Rattle.equivalence.proofs.ElementLaws.{elements-few}

-- ---- what is chosen, and what is left

module _ {A : Type 0} (w : A → ℕ) where
  pub choose-sum : (p : A → Bool) (l : List A) → sum w (choose p l) ≤ sum w l
  choose-sum p [] = omega arith
  choose-sum p (a ∷ l) =
      let h = choose-sum p l in by_test (p a) (λ e. rw e (omega arith)) λ e. rw e (omega arith)

  choose-apart : (p q : A → Bool) → ((a : A) → p a ≡ true → q a ≡ false) → (l : List A) →
      sum w (choose p l) + sum w (choose q l) ≤ sum w l
  choose-apart p q d [] = omega arith
  choose-apart p q d (a ∷ l) =
      let h = choose-apart p q d l in
      by_test (p a) (λ e. rw (e, d a e) (omega arith))
      λ e. by_test (q a) (λ f. rw (e, f) (omega arith)) λ f. rw (e, f) (omega arith)

  abbrev Fewer : List A → Removal A → Type 0
  Fewer l (without m) = sum w m ≤ sum w l
  Fewer l absent = Unit {0}

  remove-fewer : (p : A → Bool) (l : List A) → Fewer l (remove p l)
  remove-fewer p [] = tt
  remove-fewer p (a ∷ l) = by_test (p a) (λ e. rw e (omega arith)) λ e. rw e (go (remove p l) (remove-fewer p l))
    where
      go : (r : Removal A) → Fewer l r → Fewer (a ∷ l) (keep a r)
      go (without m) h = omega arith
      go absent h = tt

  abbrev Within : List A → List A → Rest A → Type 0
  Within ss ts r = (sum w r.left ≤ sum w ss) × (sum w r.right ≤ sum w ts)

  pub cancel-within : (like : A → A → Bool) (ss ts : List A) → Within ss ts (cancel like ss ts)
  cancel-within like [] ts = omega arith
  cancel-within like (s ∷ ss) ts =
      go (remove (like s) ts) (remove-fewer (like s) ts) (cancel like ss) (cancel-within like ss)
    where
      go : (r : Removal A) → Fewer ts r → (f : List A → Rest A) → ((us : List A) → Within ss us (f us)) →
          Within (s ∷ ss) ts (spend s f ts r)
      go (without us) h f k = omega (arith, k us)
      go absent h f k = omega (arith, k ts)

  sum-at : (g : ℕ → A) (qs : List ℕ) (r : ℕ) → r < length qs → w (g (get_or qs r 0)) ≤ sum w (map g qs)
  sum-at g [] r h = absurd (omega arith)
  sum-at g (q ∷ qs) zero h = omega arith
  sum-at g (q ∷ qs) (suc r) h = omega (arith, sum-at g qs r (omega arith))

pub cancel-length : {A : Type 0} (like : A → A → Bool) (ss ts : List A) → length (cancel like ss ts).right ≤ length ts
cancel-length like ss ts =
    omega (arith, (cancel-within (λ a. 1) like ss ts).1, sum_one (cancel like ss ts).right, sum_one ts)

mutual
  flat-sum : (f : ℕ) (t : Term) → sum size (flattening f t) ≤ size t
  flat-sum f (var x) = omega arith
  flat-sum f (app g ts) = by_test (eqb f g) (λ e. rw e (omega (arith, flat-sums f ts))) λ e. rw e (omega arith)

  flat-sums : (f : ℕ) (ts : Terms) → sum size (flattenings f ts) ≤ sizes ts
  flat-sums f nil = omega arith
  flat-sums f (cons t ts) =
      omega (arith, sum-append size (flattening f t) (flattenings f ts), flat-sum f t, flat-sums f ts)

above-no-variable : (σ : Signature) (f : ℕ) (a : Term) → root_above σ f a ≡ true → is_var a ≡ false
above-no-variable σ f (var x) e = absurd (false≢true e)
above-no-variable σ f (app g ts) e = refl

pub above-variables : (σ : Signature) (f : ℕ) (ts : List Term) →
    length (high_part σ f ts) + length (variables ts) ≤ length ts
above-variables σ f ts =
    omega (
      arith,
      choose-apart (λ a. 1) (root_above σ f) is_var (above-no-variable σ f) ts,
      sum_one (high_part σ f ts),
      sum_one (variables ts),
      sum_one ts,
    )

module _ (σ : Signature) (f : ℕ) (xs ys : List Term) where
  high-apart : (w : Term → ℕ) → sum w (high_part σ f ys) + sum w
      (cancel (is_equivalent σ) (variables xs) (variables ys)).right ≤ sum w ys
  high-apart w =
      omega (
        arith,
        choose-apart w (root_above σ f) is_var (above-no-variable σ f) ys,
        (cancel-within w (is_equivalent σ) (variables xs) (variables ys)).1,
      )

  pub joined-sum : sum size (joined_high σ (is_equivalent σ) f xs ys) ≤ sum size ys
  joined-sum = omega (
    arith,
    high-apart size,
    sum-append size (high_part σ f ys)
        (cancel (is_equivalent σ) (variables xs) (variables ys)).right,
  )

module _ (σ : Signature) (f : ℕ) (ws : List ℕ) (i n : ℕ) where
  pub elements-sum : sum size (elements_at σ f ws i n) ≤ total (parts_at σ ws i n)
  elements-sum = flat-sums f (arguments (parts_at σ ws i n))

module _ {σ : Signature} {ws ps : List ℕ} {m : ℕ} {l : List Term} (P : AtOffsets σ ws ps m l) where
  pub offset-size : (k : ℕ) → k < m → size (part_at σ ws (get_or ps k 0)) ≤ sum size l
  offset-size k h =
      let e = length-take-le m ps (omega (arith, P.room, P.few)) in
      rw (← P.there, ← get_or-take m ps k 0 h) (sum-at size (part_at σ ws) (take m ps) k (omega arith))

-- ---- inside a term, and after it

module _ {σ : Signature} {ws keys : List ℕ} (P : Prepared σ ws keys) where
  inner-total : (i n : ℕ) → i < length ws → get_or ws i 0 < 256 → n ≡ (symbol_of σ (get_or ws i 0)).arity →
      size (part_at σ ws i) ≡ 1 + total (parts_at σ ws (i + 1) n)
  inner-total i n h v e = rw e (ap size (symbol σ ws i h v))

  module _ {i n w : ℕ} (s : Stands σ ws i n) (p : 0 < n) (e : w ≡ size_in keys i) where
    pub next-total : (total (parts_at σ ws i n) ≡ size (part_at σ ws i) + total (parts_at σ ws (i + w) (n - 1))) ×
        (w ≡ size (part_at σ ws i))
    next-total =
        let d : w ≡ size (part_at σ ws i) = e ∙ prepared-size P i (omega arith) in
        (rw d (ap total (row_next σ ws i P.complete n p s)), d)

-- ---- the measures

module _ (table s t : List ℕ) where
  abbrev pub part_nodes : ℕ → ℕ → ℕ
  part_nodes i j = size (part_at (signature_of table) s i) + size (part_at (signature_of table) t j)

  abbrev pub row_nodes : ℕ → ℕ → ℕ → ℕ
  row_nodes i j n = total (parts_at (signature_of table) s i n) + total (parts_at (signature_of table) t j n)

  abbrev pub offset_nodes : List ℕ → ℕ → List ℕ → ℕ → ℕ
  offset_nodes ps n qs m = sum size (terms_at table s ps n) + sum size (terms_at table t qs m)

-- The arguments of two terms with the same root.
module _ {table s skeys t tkeys : List ℕ} (S : BothPrepared table s skeys t tkeys) (i j : ℕ)
    (h : i < length s) (k : j < length t)
    (e : get_or s i 0 ≡ get_or t j 0) {n : ℕ} (d : n ≡ (symbol_of (signature_of table) (get_or s i 0)).arity) where
  pub inner-rows : Stands (signature_of table) s (i + 1) n × Stands (signature_of table) t (j + 1) n
  inner-rows = (inner-left S i j h k e d, inner-right S i j h k e d)

  pub inner-nodes : get_or s i 0 < 256 → part_nodes table s t i j ≡ row_nodes table s t (i + 1) (j + 1) n + 2
  inner-nodes v =
      omega (arith, inner-total S.left i n h v d, inner-total S.right j n k (rw e at v) (rw e at d))

  pub inner-elements : (symbol_of (signature_of table) (get_or s i 0)).ac ≡ true → (get_or s i 0 < 256)
      × (length (elements_at (signature_of table) (get_or s i 0) s (i + 1) n) ≤ 64)
      × (length (elements_at (signature_of table) (get_or s i 0) t (j + 1) n) ≤ 64)
  inner-elements ac =
      let v = ac-small table S.small (get_or s i 0) ac in (
        v,
        elements-few table S.left i _ S.small h refl v (S.binary _ ac) d,
        elements-few table S.right j _ S.small k (sym e) v (S.binary _ ac) d,
      )
