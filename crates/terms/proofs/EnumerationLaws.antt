-- The enumeration of ground terms: what is in it, and its order.
--     before-irrefl                             no words stand before themselves
--     in-over, of-over, over_none               what numbers give, one after another
--     sorted-append, sorted-over                what is sorted
--     spelled-row, spelled-term, term-enumerated   the rows are the words of ground terms, all of them
--     rows-sorted                               the rows are in order
--     rows_none, rows-symbol                    no row has more terms than nodes; the rows that each symbol begins
--     length-row, length-terms                  a row has a word for each node, and so have all terms together
use mathlib.Core.List.Memᴰ
use mathlib.Core.List.{List, [], ◌∷◌, ◌++◌, map, append_assoc, append-nil, Memᴰ}
use mathlib.Core.List.{flatten}
use mathlib.Core.Logic.{⊎_elim}
use mathlib.Core.Path.{◌≡◌, refl, sym, ap, ◌∙◌}
use Prim.Native.Nat.{ℕ, suc, zero, ◌+◌, ◌*◌, ◌≤◌, ◌<◌}
use native.Mathlib.Nat.{mul-suc, mul-zero}
use native.Mathlib.Omega.{arith}
use lib.ListN.{length, length-append}
use Rattle.terms.specs.Signature.{Signature, symbol_of, IsSymbol}
use Rattle.terms.specs.Term.{Term, Terms, row, size, sizes, Ground, WellFormed, WellFormeds, Expression}
use Rattle.terms.specs.Term.Term.{var, app}
use Rattle.terms.specs.Term.Terms.{nil, cons}
use Rattle.terms.specs.Words.{words, words_of}
use Rattle.terms.specs.Rewriting.{StronglySorted}
use Rattle.terms.specs.Enumeration.{over_numbers, ground_rows, ground_terms, Before}
use Rattle.terms.specs.EnumerationStatements.{Spelled}
use Rattle.terms.specs.Enumeration.Before.{first, later}
use Rattle.multisets.proofs.Relations.{by_order}
use Rattle.terms.proofs.WordsLaws.{length-words_of}
use Rattle.terms.proofs.VariableLaws.{Grounds, not-ground}

-- ---- words before words

abbrev pub headed : ℕ → List (List ℕ) → List (List ℕ)
headed f rows = map (λ (ws : List ℕ). f ∷ ws) rows

before-apart : {vs ws : List ℕ} → Before vs ws → vs ≡ ws → ⊥
before-apart (first {v = v} {w = w} h) e = let d : v ≡ w = cc in omega arith
before-apart (later b) e = before-apart b cc

pub before-irrefl : (ws : List ℕ) → Before ws ws → ⊥
before-irrefl ws b = before-apart b refl

heads-before : (f g : ℕ) (vs ws : List ℕ) (l m : List (List ℕ)) → f < g → Memᴰ vs (headed f l) →
    Memᴰ ws (headed g m) → Before vs ws
heads-before f g vs ws l m h i j =
    let (a, k, e) = Memᴰ.of_map _ l i in
    let (b, n, d) = Memᴰ.of_map _ m j in
    rw (← e, ← d) (first h)

sorted-headed : (f : ℕ) (l : List (List ℕ)) → StronglySorted Before l → StronglySorted Before (headed f l)
sorted-headed f [] s = tt
sorted-headed f (vs ∷ l) s = (
  λ ws m. let (us, k, e) = Memᴰ.of_map _ l m in rw (← e) (later (s.0 us k)),
  sorted-headed f l s.1,
)

-- ---- what numbers give

module _ {A : Type 0} (g : ℕ → List A) where
  pub in-over : (f n x : ℕ) → f ≤ x → x < f + n → (a : A) → Memᴰ a (g x) → Memᴰ a (over_numbers g f n)
  in-over f zero x h k a m = absurd (omega arith)
  in-over f (suc n) x h k a m =
      by_order f x (λ l. Memᴰ.append_right (g f) (in-over (suc f) n x (omega arith) (omega arith) a m))
      λ l. let e : x ≡ f = omega arith in Memᴰ.append_left _ (rw e at m)

  -- The number that gave it.
  pub record Given (f n : ℕ) (a : A) : Type 0 where
    pub number : ℕ
    pub least : f ≤ number
    pub below : number < f + n
    pub member : Memᴰ a (g number)

  pub of-over : (f n : ℕ) (a : A) → Memᴰ a (over_numbers g f n) → Given f n a
  of-over f zero a m = absurd (Memᴰ.not-nil m)
  of-over f (suc n) a m =
      ⊎_elim (λ k. record { number = f; least = omega arith; below = omega arith; member = k })
      (λ k. wider (of-over (suc f) n a k)) (Memᴰ.append_cases (g f) m)
    where
      wider : Given (suc f) n a → Given f (suc n) a
      wider r = record {
        number = r.number;
        least = omega (arith, r.least);
        below = omega (arith, r.below);
        member = r.member;
      }

pub over_none : {A : Type 0} (g : ℕ → List A) → ((f : ℕ) → g f ≡ []) → (f n : ℕ) → over_numbers g f n ≡ []
over_none g h f zero = refl
over_none g h f (suc n) = rw (h f) (over_none g h (suc f) n)

module _ {A : Type 0} (R : A → A → Type 0) where
  pub sorted-append : (l m : List A) → StronglySorted R l → StronglySorted R m →
      ((a b : A) → Memᴰ a l → Memᴰ b m → R a b) → StronglySorted R (l ++ m)
  sorted-append [] m p q h = q
  sorted-append (a ∷ l) m p q h = (
    λ b k. ⊎_elim (p.0 b) (h a b (Memᴰ.head refl)) (Memᴰ.append_cases l k),
    sorted-append l m p.1 q λ x y i j. h x y (Memᴰ.tail i) j,
  )

  pub sorted-over : (g : ℕ → List A) → ((x : ℕ) → StronglySorted R (g x)) →
      ((x y : ℕ) (a b : A) → x < y → Memᴰ a (g x) → Memᴰ b (g y) → R a b) →
      (f n : ℕ) → StronglySorted R (over_numbers g f n)
  sorted-over g s h f zero = tt
  sorted-over g s h f (suc n) =
      sorted-append (g f) (over_numbers g (suc f) n) (s f) (sorted-over g s h (suc f) n)
      λ a b i j. let r = of-over g (suc f) n b j in
      h f r.number a b (omega (arith, r.least)) i r.member

-- ---- words one after another

length-flatten : (n : ℕ) (l : List (List ℕ)) → ((r : List ℕ) → Memᴰ r l → length r ≡ n) →
    length (flatten l) ≡ n * length l
unfolding flatten
length-flatten n [] h = sym (mul-zero n)
length-flatten n (r ∷ l) h =
    omega (
      arith,
      length-append r (flatten l),
      h r (Memᴰ.head refl),
      length-flatten n l (λ s m. h s (Memᴰ.tail m)),
      mul-suc n (length l),
    )

-- ---- rows of ground terms

-- A row of ground terms with these words.
pub record SpelledRow (σ : Signature) (nodes count : ℕ) (ws : List ℕ) : Type 0 where
  pub terms : Terms
  pub spelled : ws ≡ words_of terms
  pub many : length (row terms) ≡ count
  pub sized : sizes terms ≡ nodes
  pub formed : WellFormeds σ terms
  pub ground : Grounds terms

-- A row cut in two.
record Cut (σ : Signature) (m n : ℕ) (ts : Terms) : Type 0 where
  left : Terms
  right : Terms
  spelled : words_of ts ≡ words_of left ++ words_of right
  lefts : length (row left) ≡ m
  rights : length (row right) ≡ n
  sized : sizes ts ≡ sizes left + sizes right
  left_formed : WellFormeds σ left
  right_formed : WellFormeds σ right
  left_ground : Grounds left
  right_ground : Grounds right

module _ (σ : Signature) where
  cut : (m n : ℕ) (ts : Terms) → length (row ts) ≡ m + n → WellFormeds σ ts → Grounds ts → Cut σ m n ts
  cut zero n ts e w g = record {
    left = nil;
    right = ts;
    spelled = refl;
    lefts = refl;
    rights = omega arith;
    sized = omega arith;
    left_formed = tt;
    right_formed = w;
    left_ground = λ x. refl;
    right_ground = g;
  }
  cut (suc m) n nil e w g = absurd (omega arith)
  cut (suc m) n (cons t ts) e w g =
      let r = cut m n ts (omega arith) w.1 (λ x. omega (arith, g x)) in
      record {
        left = cons t r.left;
        right = r.right;
        spelled = ap (λ (l : List ℕ). words t ++ l) r.spelled ∙ sym (append_assoc (words t) _ _);
        lefts = ap suc r.lefts;
        rights = r.rights;
        sized = omega (arith, r.sized);
        left_formed = (w.0, r.left_formed);
        right_formed = r.right_formed;
        left_ground = λ x. omega (arith, g x, r.left_ground x);
        right_ground = r.right_ground;
      }

  spelled-node : (f nodes others : ℕ) (ws : List ℕ) → IsSymbol σ f →
      SpelledRow σ nodes ((symbol_of σ f).arity + others) ws → SpelledRow σ (suc nodes) (suc others) (f ∷ ws)
  spelled-node f nodes others ws s r =
      let c = cut (symbol_of σ f).arity others r.terms r.many r.formed r.ground in
      record {
        terms = cons (app f c.left) c.right;
        spelled = ap (◌∷◌ f) (r.spelled ∙ c.spelled);
        many = ap suc c.rights;
        sized = omega (arith, r.sized, c.sized);
        formed = ((s, c.lefts, c.left_formed), c.right_formed);
        ground = λ x. omega (arith, c.left_ground x, c.right_ground x);
      }

  pub spelled-row : (nodes count : ℕ) (ws : List ℕ) → Memᴰ ws (ground_rows σ nodes count) →
      SpelledRow σ nodes count ws
  unfolding ground_rows
  spelled-row zero zero ws m = record {
    terms = nil;
    spelled = Memᴰ.eq_of_singleton m;
    many = refl;
    sized = refl;
    formed = tt;
    ground = λ x. refl;
  }
  spelled-row zero (suc others) ws m = absurd (Memᴰ.not-nil m)
  spelled-row (suc nodes) zero ws m = absurd (Memᴰ.not-nil m)
  spelled-row (suc nodes) (suc others) ws m =
      let r = of-over _ 0 (length σ.symbols) ws m in
      let f = r.number in
      let (vs, k, e) = Memᴰ.of_map _ _ r.member in
      rw (← e) (spelled-node f nodes others vs (omega (arith, r.below))
      (spelled-row nodes ((symbol_of σ f).arity + others) vs k))

  mutual
    unfolding ground_rows

    term_in : (t : Term) → WellFormed σ t → Ground t → (nodes others : ℕ) (ws : List ℕ) →
        Memᴰ ws (ground_rows σ nodes others) →
        Memᴰ (words t ++ ws) (ground_rows σ (size t + nodes) (suc others))
    term_in (var x) w g nodes others ws m = absurd (not-ground x g)
    term_in (app f ts) w g nodes others ws m =
        let e : 1 + sizes ts + nodes ≡ suc (sizes ts + nodes) = omega arith in
        let k = terms-in ts w.2 (λ x. omega (arith, g x)) nodes others ws m in
        rw e (in-over _ 0 (length σ.symbols) f (omega arith) (omega (arith, w.0)) _
        (Memᴰ.map (λ (vs : List ℕ). f ∷ vs) (rw w.1 at k)))

    terms-in : (ts : Terms) → WellFormeds σ ts → Grounds ts → (nodes others : ℕ) (ws : List ℕ) →
        Memᴰ ws (ground_rows σ nodes others) →
        Memᴰ (words_of ts ++ ws) (ground_rows σ (sizes ts + nodes) (length (row ts) + others))
    terms-in nil w g nodes others ws m =
        let e : 0 + nodes ≡ nodes = omega arith in
        let d : 0 + others ≡ others = omega arith in
        rw (e, d) m
    terms-in (cons t ts) w g nodes others ws m =
        let e : size t + sizes ts + nodes ≡ size t + (sizes ts + nodes) = omega arith in
        let d : suc (length (row ts)) + others ≡ suc (length (row ts) + others) = omega arith in
        let k = terms-in ts w.1 (λ x. omega (arith, g x)) nodes others ws m in
        rw (append_assoc, e, d) (term_in t w.0 (λ x. omega (arith, g x)) (sizes ts + nodes)
        (length (row ts) + others) (words_of ts ++ ws) k)

  ground-in : (t : Term) → Expression σ t → Memᴰ (words t) (ground_terms σ (size t))
  unfolding ground_rows
  ground-in t x =
      let e : size t + 0 ≡ size t = omega arith in
      rw (append-nil, e) at (term_in t x.0 x.1 0 0 [] (Memᴰ.head refl))

  pub term-enumerated : (n : ℕ) (ws : List ℕ) → Spelled σ n ws → Memᴰ ws (ground_terms σ n)
  term-enumerated n ws s = rw (s.spelled, ← s.nodes) (ground-in s.term s.expression)

  pub spelled-term : (n : ℕ) (ws : List ℕ) → Memᴰ ws (ground_terms σ n) → Spelled σ n ws
  spelled-term n ws m = go (spelled-row n 1 ws m)
    where
      go : SpelledRow σ n 1 ws → Spelled σ n ws
      go r = one r.terms r.spelled r.many r.sized r.formed r.ground
        where
          one : (ts : Terms) → ws ≡ words_of ts → length (row ts) ≡ 1 → sizes ts ≡ n → WellFormeds σ ts → Grounds ts →
              Spelled σ n ws
          one nil e k z w g = absurd (omega arith)
          one (cons t nil) e k z w g = record {
            term = t;
            spelled = e ∙ append-nil _;
            expression = (w.0, λ x. omega (arith, g x));
            nodes = omega arith;
          }
          one (cons t (cons u ts)) e k z w g = absurd (omega arith)

  -- ---- the order

  pub rows-sorted : (nodes count : ℕ) → StronglySorted Before (ground_rows σ nodes count)
  unfolding ground_rows
  rows-sorted zero zero = (λ b m. absurd (Memᴰ.not-nil m), tt)
  rows-sorted zero (suc others) = tt
  rows-sorted (suc nodes) zero = tt
  rows-sorted (suc nodes) (suc others) =
      let rest : ℕ → List (List ℕ) = λ f. ground_rows σ nodes ((symbol_of σ f).arity + others) in
      sorted-over Before (λ f. headed f (rest f))
      (λ f. sorted-headed f (rest f) (rows-sorted nodes ((symbol_of σ f).arity + others)))
      (λ f g vs ws h i j. heads-before f g vs ws (rest f) (rest g) h i j) 0 (length σ.symbols)

  -- ---- how many

  -- A row has at least a node for each of its terms.
  pub rows_none : (nodes count : ℕ) → nodes < count → ground_rows σ nodes count ≡ []
  unfolding ground_rows
  rows_none zero zero h = absurd (omega arith)
  rows_none zero (suc others) h = refl
  rows_none (suc nodes) zero h = absurd (omega arith)
  rows_none (suc nodes) (suc others) h =
      over_none _ (λ f. ap (headed f) (rows_none nodes ((symbol_of σ f).arity + others) (omega arith))) 0
      (length σ.symbols)

  -- Of rows with a node there are those that each symbol begins.
  pub rows-symbol : (nodes others : ℕ) → ground_rows σ (suc nodes) (suc others)
      ≡ over_numbers (λ f. headed f (ground_rows σ nodes ((symbol_of σ f).arity + others))) 0 (length σ.symbols)
  unfolding ground_rows
  rows-symbol nodes others = refl

  -- Each row has a word for each node.
  pub length-row : (nodes count : ℕ) (ws : List ℕ) → Memᴰ ws (ground_rows σ nodes count) → length ws ≡ nodes
  length-row nodes count ws m =
      let r = spelled-row nodes count ws m in
      ap length r.spelled ∙ length-words_of r.terms ∙ r.sized

  pub length-terms : (n : ℕ) → length (flatten (ground_terms σ n)) ≡ n * length (ground_terms σ n)
  length-terms n = length-flatten n (ground_terms σ n) (length-row n 1)
