-- What the functions of the AC-equivalence test show at each of their ends.
--     keys-roots, equivalent-keys, -leaves, -elements, -rows   the roots
--     rows_none, -unlike, -more, -one                          the arguments in their order
--     cancelled-none, -own, -absent, -more                     a flattening against a list
--     Going, RowGoing                                          the invariants of the scans
use mathlib.Core.List.{List}
use mathlib.Core.Path.{◌≡◌, refl, sym, ap, ap₂, ◌∙◌}
use mathlib.Core.Bool.{Bool, true, false, ◌&&◌, false≢true}
use Prim.Native.Nat.{ℕ, suc, ◌+◌, ◌-◌, ◌/◌, ◌%◌, ◌≤◌, ◌<◌}
use native.Mathlib.Omega.{arith}
use lib.Dec.{eqb}
use lib.ListN.{length, get_or, take, get_or-eq_default}
use borrow.Author.Tests.{ne_eqb}
use Rattle.terms.specs.Signature.{Symbol, Signature, symbol_of}
use Rattle.terms.specs.Term.{Term, Terms, size, sizes, WellFormed}
use Rattle.terms.specs.Term.Term.{var, app}
use Rattle.terms.specs.Term.Terms.{nil, cons}
use Rattle.terms.specs.Words.{first_variable}
use Rattle.multisets.specs.Multiset.{row_equal, multiset_equal}
use Rattle.terms.specs.Equivalence.{is_equivalent_to, is_equivalent}
use Rattle.multisets.proofs.Relations.{by_test, by_order, eqb-self}
use Rattle.terms.proofs.TermLaws.{row-arguments, size-pos}
use Rattle.terms.proofs.EquivalenceLaws.{is_equivalent-app, is_equivalent-equivalence, is_equivalent_to-depth}
use Rattle.symbols.specs.Table.{signature_of}
use Rattle.subterms.specs.Parts.{part_at, parts_at, elements_at, Stands}
use Rattle.equivalence.specs.Offsets.{AtOffsets, First, deleted, alike_at, rows_alike, elements_alike, terms_at}
use Rattle.subterms.specs.Parts.{root_word}
use Rattle.equivalence.specs.Keys.{BothPrepared, size_in}
use Rattle.symbols.proofs.TableLaws.{few-at}
use Rattle.subterms.proofs.PartLaws.{variable, symbol}
use Rattle.terms.proofs.EquivalenceSound.{is_equivalent→Equivalent}
use Rattle.subterms.proofs.FormedLaws.{part-formed}
use Rattle.equivalence.proofs.StepLaws.{row_next, elements-own, elements-other, stands-inner, prepared-size}
use Rattle.equivalence.proofs.StepLaws.{part-root, keyed-root}
use Rattle.equivalence.proofs.KeyLaws.{key-of-equivalent}
use Rattle.equivalence.proofs.RemovalLaws.{equal-none, equal-absent, equal-without, removed-none, removed-one}

-- ---- the roots

module _ (σ : Signature) where
  var-var : (x y : ℕ) → is_equivalent σ (var x) (var y) ≡ eqb x y
  unfolding is_equivalent is_equivalent_to
  var-var x y = refl

  pub var-app : (x g : ℕ) (ts : Terms) → is_equivalent σ (var x) (app g ts) ≡ false
  unfolding is_equivalent is_equivalent_to
  var-app x g ts = refl

  pub app-var : (f : ℕ) (ss : Terms) (y : ℕ) → is_equivalent σ (app f ss) (var y) ≡ false
  unfolding is_equivalent_to
  app-var f ss y = is_equivalent_to-depth σ (suc (sizes ss)) (app f ss) (var y) (omega arith)

  module _ (s : List ℕ) (i : ℕ) (t : List ℕ) (j : ℕ) (h : i < length s) (k : j < length t) where
    pub roots-differ : (get_or s i 0 ≡ get_or t j 0 → ⊥) → is_equivalent σ (part_at σ s i) (part_at σ t j) ≡ false
    roots-differ d =
        by_order (get_or s i 0) first_variable
        (λ a. by_order (get_or t j 0) first_variable
        (λ b. rw (symbol σ s i h a, symbol σ t j k b, is_equivalent-app σ, ne_eqb _ _ d))
        (λ b. rw (symbol σ s i h a, variable σ t j k b) (app-var _ _ _)))
        λ a. by_order (get_or t j 0) first_variable
        (λ b. rw (variable σ s i h a, symbol σ t j k b) (var-app _ _ _))
        λ b. rw (variable σ s i h a, variable σ t j k b) (var-var _ _
        ∙ ne_eqb (get_or s i 0 - first_variable) (get_or t j 0 - first_variable) (λ e. d (omega arith)))

    module _ (f : ℕ) (e : get_or s i 0 ≡ f) (g : get_or t j 0 ≡ f) where
      roots-elements : f < 256 → (symbol_of σ f).ac ≡ true →
          is_equivalent σ (part_at σ s i) (part_at σ t j)
          ≡ multiset_equal (is_equivalent σ) (elements_at σ f s (i + 1) (symbol_of σ f).arity)
          (elements_at σ f t (j + 1) (symbol_of σ f).arity)
      roots-elements v a = ap₂ (is_equivalent σ) (rw e at (symbol σ s i h (rw e v))) (rw g at (symbol σ t j k (rw g v)))
          ∙ rw (is_equivalent-app σ, eqb-self f, a)

      roots-rows : length σ.symbols ≤ 256 → (symbol_of σ f).ac ≡ false →
          is_equivalent σ (part_at σ s i) (part_at σ t j)
          ≡ row_equal (is_equivalent σ) (parts_at σ s (i + 1) (symbol_of σ f).arity)
          (parts_at σ t (j + 1) (symbol_of σ f).arity)
      unfolding row_equal
      roots-rows few a =
          by_order f 256
          (λ v. ap₂ (is_equivalent σ) (rw e at (symbol σ s i h (rw e v))) (rw g at (symbol σ t j k (rw g v)))
          ∙ rw (is_equivalent-app σ, eqb-self f, a, row-arguments, row-arguments))
          λ v.
          let z : (symbol_of σ f).arity ≡ 0 =
          ap (λ (s : Symbol). s.arity) (get_or-eq_default σ.symbols _ (omega arith)) in
          ap₂ (is_equivalent σ) (rw e at (variable σ s i h (rw e v))) (rw g at (variable σ t j k (rw g v)))
          ∙ var-var _ _ ∙ rw (z, eqb-self)

-- Terms of one node are told by their roots.
leaves-same : (σ : Signature) → length σ.symbols ≤ first_variable → (s t : Term) → WellFormed σ s → WellFormed σ t →
    size s ≡ 1 → size t ≡ 1 → root_word s ≡ root_word t → s ≡ t
leaves-same σ few (var x) (var y) v w a b e = ap var (omega arith)
leaves-same σ few (var x) (app g ts) v w a b e = absurd (omega (arith, w.0))
leaves-same σ few (app f ss) (var y) v w a b e = absurd (omega (arith, v.0))
leaves-same σ few (app f nil) (app g nil) v w a b e = rw e
leaves-same σ few (app f (cons s ss)) (app g ts) v w a b e = absurd (omega (arith, size-pos s))
leaves-same σ few (app f nil) (app g (cons t ts)) v w a b e = absurd (omega (arith, size-pos t))

pub ac-small : (table : List ℕ) → length table ≤ 1025 → (f : ℕ) → (symbol_of (signature_of table) f).ac ≡ true → f < 256
ac-small table h f a =
    let σ = signature_of table in
    by_order f 256 (λ v. v) λ v.
    let z : (symbol_of σ f).ac ≡ false =
    ap (λ (s : Symbol). s.ac) (get_or-eq_default σ.symbols _ (omega (arith, few-at table h))) in
    absurd (false≢true (sym z ∙ a))

-- ---- the ends

module _ {table s skeys t tkeys : List ℕ} (S : BothPrepared table s skeys t tkeys) where
  module _ (i j : ℕ) (h : i < length s) (k : j < length t) where
    pub keys-roots : get_or skeys i 0 ≡ get_or tkeys j 0 → get_or s i 0 ≡ get_or t j 0
    keys-roots e =
        let σ = signature_of table in
        let few = few-at table S.small in
        sym (keyed-root σ s S.left.complete i h skeys (S.left.keyed i (omega arith) h) S.left.short few)
        ∙ ap (λ (key : ℕ). key / 256 % 65536) e
        ∙ keyed-root σ t S.right.complete j k tkeys (S.right.keyed j (omega arith) k) S.right.short few

    pub equivalent-keys : (get_or skeys i 0 ≡ get_or tkeys j 0 → ⊥) → false ≡ alike_at table s i t j
    equivalent-keys d =
        let σ = signature_of table in
        let few = few-at table S.small in
        sym (by_test (alike_at table s i t j)
        (λ e. absurd (d (S.left.keyed i (omega arith) h
        ∙ key-of-equivalent σ (is_equivalent→Equivalent σ S.binary _ _
        (part-formed σ few s i S.left.complete) (part-formed σ few t j S.right.complete) e)
        ∙ sym (S.right.keyed j (omega arith) k))))
        λ e. e)

    pub equivalent-leaves : size_in skeys i ≡ 1 → get_or skeys i 0 ≡ get_or tkeys j 0 →
        true ≡ alike_at table s i t j
    equivalent-leaves one e =
        let σ = signature_of table in
        let few = few-at table S.small in
        let a : size (part_at σ s i) ≡ 1 = sym (prepared-size S.left i h) ∙ one in
        let b : size (part_at σ t j) ≡ 1 =
        sym (prepared-size S.right j k) ∙ sym (ap (λ (key : ℕ). key % 256) e) ∙ one in
        let same = leaves-same σ few (part_at σ s i) (part_at σ t j) (part-formed σ few s i S.left.complete)
        (part-formed σ few t j S.right.complete) a b
        (part-root σ s S.left.complete i h ∙ keys-roots e ∙ sym (part-root σ t S.right.complete j k)) in
        rw same (sym ((is_equivalent-equivalence σ).reflexive (part_at σ t j)))

    module _ (e : get_or s i 0 ≡ get_or t j 0) {n : ℕ} (d : n ≡ (symbol_of (signature_of table) (get_or s i 0)).arity) where
      pub inner-left : Stands (signature_of table) s (i + 1) n
      inner-left = stands-inner (signature_of table) s i S.left.complete (get_or s i 0) n h refl d

      pub inner-right : Stands (signature_of table) t (j + 1) n
      inner-right = stands-inner (signature_of table) t j S.right.complete (get_or s i 0) n k (sym e) d

      pub equivalent-elements : {r : Bool} → (symbol_of (signature_of table) (get_or s i 0)).ac ≡ true →
          r ≡ elements_alike table (get_or s i 0) s (i + 1) n (elements_at (signature_of table) (get_or s i 0) t (j + 1) n) →
          r ≡ alike_at table s i t j
      equivalent-elements a q =
          (rw d at q)
          ∙ sym (roots-elements (signature_of table) s i t j h k (get_or s i 0) refl (sym e)
          (ac-small table S.small _ a) a)

      pub equivalent-rows : {r : Bool} → (symbol_of (signature_of table) (get_or s i 0)).ac ≡ false →
          r ≡ rows_alike table s (i + 1) t (j + 1) n → r ≡ alike_at table s i t j
      equivalent-rows a q =
          (rw d at q)
          ∙ sym (roots-rows (signature_of table) s i t j h k (get_or s i 0) refl (sym e) (few-at table S.small) a)

  module _ {i j n : ℕ} (a : Stands (signature_of table) s i n) (b : Stands (signature_of table) t j n) where
    pub rows_none : n ≡ 0 → true ≡ rows_alike table s i t j n
    unfolding row_equal
    rows_none e = rw e

    rows_step : 0 < n → rows_alike table s i t j n
        ≡ (alike_at table s i t j && rows_alike table s (i + size (part_at (signature_of table) s i)) t
        (j + size (part_at (signature_of table) t j)) (n - 1))
    unfolding row_equal
    rows_step p =
        let σ = signature_of table in
        ap₂ (row_equal (is_equivalent σ)) (row_next σ s i S.left.complete n p a)
        (row_next σ t j S.right.complete n p b)

    pub rows-unlike : 0 < n → false ≡ alike_at table s i t j → false ≡ rows_alike table s i t j n
    rows-unlike p e = rw (rows_step p, ← e)

    pub rows_more : {w v : ℕ} {r : Bool} → 0 < n → true ≡ alike_at table s i t j → w ≡ size_in skeys i →
        v ≡ size_in tkeys j →
        r ≡ rows_alike table s (i + w) t (j + v) (n - 1) → r ≡ rows_alike table s i t j n
    rows_more p e d g h =
        (rw (d, g, prepared-size S.left i (omega arith), prepared-size S.right j (omega arith)) at h)
        ∙ rw (rows_step p, ← e)

    pub rows-one : {r : Bool} → n ≡ 1 → r ≡ alike_at table s i t j → r ≡ rows_alike table s i t j n
    unfolding row_equal
    rows-one {r} e q =
        let d : n - 1 ≡ 0 = omega arith in
        rw (rows_step (omega arith), d, ← q) (by_test r (λ z. rw z) λ z. rw z)

  module _ (f : ℕ) {i n : ℕ} (a : Stands (signature_of table) s i n) {offsets : List ℕ} {m : ℕ}
      (P : AtOffsets (signature_of table) t offsets m (terms_at table t offsets m)) where
    pub cancelled-none : n ≡ 0 → eqb m 0 ≡ elements_alike table f s i n (terms_at table t offsets m)
    cancelled-none e =
        let σ = signature_of table in
        rw e (equal-none (is_equivalent σ) (part_at σ t) offsets m (omega (arith, P.room, P.few)))

    pub cancelled-own : {x : ℕ} {r : Bool} → 0 < n → get_or s i 0 ≡ f → f < 256 →
        x ≡ (symbol_of (signature_of table) f).arity →
        r ≡ elements_alike table f s (i + 1) (x + (n - 1)) (terms_at table t offsets m) →
        r ≡ elements_alike table f s i n (terms_at table t offsets m)
    cancelled-own p e v d h = rw (elements-own (signature_of table) s i S.left.complete f n p a e v, ← d) h

    module _ {k : ℕ} (p : 0 < n) (e : get_or s i 0 ≡ f → ⊥)
        (F : First (λ (k : ℕ). alike_at table s i t (get_or offsets k 0)) m k) where
      pub cancelled-absent : k ≡ m → false ≡ elements_alike table f s i n (terms_at table t offsets m)
      cancelled-absent q =
          let σ = signature_of table in
          rw (elements-other σ s i S.left.complete f n p a e)
          (sym (equal-absent (is_equivalent σ) _ _ _ (removed-none table (part_at σ s i) P F q)))

      pub cancelled-more : (k ≡ m → ⊥) → (out : List ℕ) → take (m - 1) out ≡ deleted k (take m offsets) →
          {w : ℕ} {r : Bool} → w ≡ size_in skeys i →
          r ≡ elements_alike table f s (i + w) (n - 1) (terms_at table t out (m - 1)) →
          r ≡ elements_alike table f s i n (terms_at table t offsets m)
      cancelled-more q out o d h =
          let σ = signature_of table in
          (rw (d, prepared-size S.left i (omega arith)) at h) ∙ rw
          (elements-other σ s i S.left.complete f n p a e)
          (sym (equal-without (is_equivalent σ) _ _ _ _ (removed-one table (part_at σ s i) P F q out o)))

-- The invariants of the two scans: what is still ahead answers for the whole.
pub record Going (table : List ℕ) (f : ℕ) (s t : List ℕ) (i n : ℕ) (offsets₀ : List ℕ) (m : ℕ) (offsets : List ℕ)
    (at owed left : ℕ) : Type 0 where
  pub ahead : i ≤ at
  pub terms : Stands (signature_of table) s at owed
  pub rest : AtOffsets (signature_of table) t offsets left (terms_at table t offsets left)
  pub same : elements_alike table f s at owed (terms_at table t offsets left)
      ≡ elements_alike table f s i n (terms_at table t offsets₀ m)

pub record RowGoing (table s t : List ℕ) (i j n at to left : ℕ) : Type 0 where
  pub ahead : i ≤ at
  pub here : Stands (signature_of table) s at left
  pub there : Stands (signature_of table) t to left
  pub same : rows_alike table s at t to left ≡ rows_alike table s i t j n
