-- The terms that stand at a place of a list of words: their sizes, the place after them, what is inside them.
use mathlib.Core.List.{List, [], ◌∷◌, ◌++◌, append_assoc}
use mathlib.Core.Path.{◌≡◌, refl, sym, ap, ◌∙◌}
use mathlib.Core.Logic.{inl, inr}
use Prim.Native.Nat.{ℕ, suc, zero, ◌+◌, ◌-◌, ◌≤◌, ◌<◌}
use native.Mathlib.Omega.{arith}
use native.Mathlib.Numerals.{add-one}
use lib.Dec.{ltb}
use lib.ListN.{length, get_or, take, drop, take-append-drop, length-drop}
use lib.Seq.{take-add, drop-drop, drop-cons, drop-nil}
use borrow.Author.Tests.{lt-ltb, le-ltb, ne_eqb}
use Rattle.terms.specs.Signature.{Signature, symbol_of}
use Rattle.terms.specs.Term.{Term, size, sizes, arguments, flattening, flattenings}
use Rattle.terms.specs.Term.Term.{var, app}
use Rattle.terms.specs.Words.{first_variable, grow, forest_of}
use Rattle.multisets.proofs.Relations.{by_test, by_order, eqb-self}
use Rattle.terms.proofs.TermLaws.{size-pos}
use Rattle.subterms.specs.Parts.{part_at, parts_at, elements_at, IsNode, Stand, Stands, Complete}

-- ---- lists of terms as arguments

abbrev pub total : List Term → ℕ
total l = sizes (arguments l)

pub total-append : (l m : List Term) → total (l ++ m) ≡ total l + total m
total-append [] m = omega arith
total-append (t ∷ l) m = omega (arith, total-append l m)

pub flat_append : (f : ℕ) (l m : List Term) →
    flattenings f (arguments (l ++ m)) ≡ flattenings f (arguments l) ++ flattenings f (arguments m)
flat_append f [] m = refl
flat_append f (t ∷ l) m = rw append_assoc (ap (◌++◌ (flattening f t)) (flat_append f l m))

module _ (σ : Signature) where
  pub complete-drop : (ws : List ℕ) (i : ℕ) → Complete σ ws → Complete σ (drop i ws)
  complete-drop ws zero c = c
  complete-drop [] (suc i) c = tt
  complete-drop (w ∷ ws) (suc i) c = complete-drop ws i c.2

  -- After the words of the first n terms come the others.
  after : (ws : List ℕ) (n : ℕ) → Complete σ ws → n ≤ length (forest_of σ ws) →
      forest_of σ (drop (total (take n (forest_of σ ws))) ws) ≡ drop n (forest_of σ ws)
  unfolding forest_of
  after [] n c h = simp drop-nil
  after (w ∷ ws) zero c h = refl
  after (w ∷ ws) (suc n) c h =
      by_test (ltb w first_variable)
      (λ e.
      let a = (symbol_of σ w).arity in
      let ts = forest_of σ ws in
      let k : total (take (suc n) (grow σ w ts)) ≡ suc (total (take (a + n) ts)) =
      rw (e, take-add) (omega (arith, total-append (take a ts) (take n (drop a ts)))) in
      let l : suc n ≤ length (grow σ w ts) = h in
      let m : a + n ≤ length ts = omega (arith, rw (e, length-drop) at l, c.1) in
      rw k (after ws (a + n) c.2 m ∙ rw e (sym (drop-drop n a ts))))
      λ e.
      let ts = forest_of σ ws in
      let k : total (take (suc n) (grow σ w ts)) ≡ suc (total (take n ts)) = rw e (omega arith) in
      let l : suc n ≤ length (grow σ w ts) = h in
      let m : n ≤ length ts = omega (arith, rw e at l) in
      rw k (after ws n c.2 m ∙ rw e)

  -- ---- the term at a place, and those after it

  pub inside : (ws : List ℕ) (i n : ℕ) → Stand σ ws i n → 0 < n → i < length ws
  unfolding forest_of
  inside [] zero n s p = omega arith
  inside [] (suc i) n s p = omega arith
  inside (w ∷ ws) zero n s p = omega arith
  inside (w ∷ ws) (suc i) n s p = omega (arith, inside ws i n s p)

  first : (ts : List Term) (n : ℕ) → 0 < n → n ≤ length ts → ts ≡ get_or ts 0 (var 0) ∷ drop 1 ts
  first [] n p h = absurd (omega arith)
  first (t ∷ ts) n p h = refl

  module _ (ws : List ℕ) (i : ℕ) (c : Complete σ ws) where
    pub next : (n : ℕ) → Stand σ ws i n → 0 < n →
        forest_of σ (drop i ws) ≡ part_at σ ws i ∷ forest_of σ (drop (i + size (part_at σ ws i)) ws)
    next n s p =
        let us = drop i ws in
        let ts = forest_of σ us in
        let e : ts ≡ part_at σ ws i ∷ drop 1 ts = first ts n p s in
        let k : total (take 1 ts) ≡ size (part_at σ ws i) = ap (λ (l : List Term). total (take 1 l)) e ∙ omega arith in
        let a = after us 1 (complete-drop ws i c) (omega arith) in
        e ∙ ap (◌∷◌ (part_at σ ws i)) (sym a ∙ ap (λ (m : ℕ). forest_of σ (drop m us)) k ∙ ap (forest_of σ)
        (drop-drop (size (part_at σ ws i)) i ws))

    pub next-parts : (n : ℕ) → Stand σ ws i (suc n) →
        parts_at σ ws i (suc n) ≡ part_at σ ws i ∷ parts_at σ ws (i + size (part_at σ ws i)) n
    next-parts n s = ap (take (suc n)) (next (suc n) s (omega arith))

    pub next-stand : (n : ℕ) → Stand σ ws i (suc n) → Stand σ ws (i + size (part_at σ ws i)) n
    next-stand n s = omega (arith, ap length (next (suc n) s (omega arith)))

  -- ---- what is inside the term at a place

  grow-some : (w : ℕ) (ts : List Term) → 0 < length (grow σ w ts)
  grow-some w ts = by_test (ltb w first_variable) (λ e. rw e (omega arith)) λ e. rw e (omega arith)

  module _ (ws : List ℕ) (i : ℕ) (h : i < length ws) where
    pub grown : forest_of σ (drop i ws) ≡ grow σ (get_or ws i 0) (forest_of σ (drop (i + 1) ws))
    unfolding forest_of
    grown = ap (forest_of σ) (drop-cons ws i 0 h) ∙ rw add-one

    pub variable : first_variable ≤ get_or ws i 0 → part_at σ ws i ≡ var (get_or ws i 0 - first_variable)
    variable v = ap (λ (l : List Term). get_or l 0 (var 0)) grown ∙ rw (le-ltb (get_or ws i 0) first_variable v)

    pub symbol : get_or ws i 0 < first_variable →
        part_at σ ws i ≡ app (get_or ws i 0) (arguments (parts_at σ ws (i + 1) (symbol_of σ (get_or ws i 0)).arity))
    symbol v = ap (λ (l : List Term). get_or l 0 (var 0)) grown ∙ rw (lt-ltb (get_or ws i 0) first_variable v)

    pub stand-one : Stand σ ws i 1
    stand-one = rw grown (omega (arith, grow-some (get_or ws i 0) (forest_of σ (drop (i + 1) ws))))

    pub inner-stand : Complete σ ws → Stand σ ws (i + 1) (symbol_of σ (get_or ws i 0)).arity
    inner-stand c = let k = rw (drop-cons ws i 0 h) at (complete-drop ws i c) in rw add-one k.1

    -- The element that is not f's own.
    whole : (f : ℕ) → (get_or ws i 0 ≡ f → ⊥) → flattening f (part_at σ ws i) ≡ part_at σ ws i ∷ []
    whole f d =
        by_order (get_or ws i 0) first_variable
        (λ v. rw (symbol v, ne_eqb f (get_or ws i 0) λ e. d (sym e)))
        λ v. rw (variable v)

    module _ (n : ℕ) where
      pub own-stand : get_or ws i 0 < first_variable → Complete σ ws → Stand σ ws i (suc n) →
          Stand σ ws (i + 1) ((symbol_of σ (get_or ws i 0)).arity + n)
      own-stand v c s =
          let l : suc n ≤ length (grow σ (get_or ws i 0) (forest_of σ (drop (i + 1) ws))) = rw grown at s in
          omega (arith, inner-stand c, rw (lt-ltb (get_or ws i 0) first_variable v, length-drop) at l)

      pub own-elements : get_or ws i 0 < first_variable →
          elements_at σ (get_or ws i 0) ws i (suc n)
          ≡ elements_at σ (get_or ws i 0) ws (i + 1) ((symbol_of σ (get_or ws i 0)).arity + n)
      own-elements v =
          let f = get_or ws i 0 in
          let a = (symbol_of σ f).arity in
          let ts = forest_of σ (drop (i + 1) ws) in
          ap (λ (l : List Term). flattenings f (arguments (take (suc n) l))) grown
          ∙ rw (lt-ltb f first_variable v, eqb-self f)
          (sym (flat_append f (take a ts) (take n (drop a ts)))
          ∙ ap (λ (l : List Term). flattenings f (arguments l)) (sym (take-add a n ts)))

      pub other-elements : Complete σ ws → (f : ℕ) → (get_or ws i 0 ≡ f → ⊥) → Stand σ ws i (suc n) →
          elements_at σ f ws i (suc n) ≡ part_at σ ws i ∷ elements_at σ f ws (i + size (part_at σ ws i)) n
      other-elements c f d s =
          ap (λ (l : List Term). flattenings f (arguments l)) (next-parts ws i c n s)
          ∙ ap (λ (l : List Term). l ++ elements_at σ f ws (i + size (part_at σ ws i)) n) (whole f d)

  -- ---- sizes: each word is a node

  total-grow : (w : ℕ) (ts : List Term) → total (grow σ w ts) ≡ suc (total ts)
  total-grow w ts =
      let a = (symbol_of σ w).arity in
      by_test (ltb w first_variable)
      (λ e. rw e (omega (arith, total-append (take a ts) (drop a ts), ap total (take-append-drop a ts))))
      λ e. rw e (omega arith)

  pub total-forest : (ws : List ℕ) → total (forest_of σ ws) ≡ length ws
  unfolding forest_of
  total-forest [] = refl
  total-forest (w ∷ ws) = total-grow w (forest_of σ ws) ∙ ap suc (total-forest ws)

  length-total : (ts : List Term) → length ts ≤ total ts
  length-total [] = omega arith
  length-total (t ∷ ts) = omega (arith, size-pos t, length-total ts)

  pub stands : (ws : List ℕ) (i n : ℕ) → Stand σ ws i n → i ≤ length ws → Stands σ ws i n
  stands ws i n s h = record {
    fits = omega (arith, length-total (forest_of σ (drop i ws)), total-forest (drop i ws), length-drop i ws);
    terms = s;
  }

  pub size_fits : (ws : List ℕ) (i n : ℕ) → Complete σ ws → Stand σ ws i n → 0 < n → i + size (part_at σ ws i) ≤ length
      ws
  size_fits ws i n c s p =
      omega (arith, ap total (next ws i c n s p), total-forest (drop i ws), length-drop i ws, inside ws i n s p)

-- ---- the words

pub node-range : (σ : Signature) (ws : List ℕ) → Complete σ ws → (k : ℕ) → k < length ws → length σ.symbols ≤ 256 →
    get_or ws k 0 < 272
node-range σ ws c k h few = let d = rw (drop-cons ws k 0 h) at (complete-drop σ ws k c) in go few d.0
  where
    go : length σ.symbols ≤ 256 → IsNode σ (get_or ws k 0) → get_or ws k 0 < 272
    go few (inl a) = omega arith
    go few (inr a) = omega arith
