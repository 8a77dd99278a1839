-- The multiset extension of an order, by counts: it is a strict order, and what it is unchanged by.
--     Covering, CoversList, Dominates, Exchange  what the extension says: by elements, by surpluses, by parts
--     multiset_greater-equal, -counts             equal lists are not above; the test says it by surpluses
--     climb                                      a highest element in surplus, at or above a given one
--     multiset_greater-order                      transitive, irreflexive, compatible
--     multiset_greater-mono                       lists added to both sides and taken away
--     multiset-covered, multiset-part            above or equal: where what is lacking is covered; a part
--     multiset_greater-exchange, -lists           the existential form of the articles
--     multiset_greater-one                        one element above all of a list
-- That it is total where the order is stands in Totality.
use mathlib.Core.List.{List, [], ◌∷◌, ◌++◌, Memᴰ}
use mathlib.Core.Path.{◌≡◌, sym, ap, ◌∙◌}
use mathlib.Core.Logic.{◌↔◌, ◌⊎◌, inl, inr}
use mathlib.Core.Bool.{Bool, true, false, not, false≢true, and-eq-true_iff as both}
use Prim.Native.Nat.{◌+◌, ◌≤◌, ◌<◌}
use native.Mathlib.Omega.{arith}
use borrow.Author.Tests.{not-false}
use Rattle.multisets.specs.Multiset.{some, every, is_empty, covers, cancel, multiset_equal, multiset_greater}
use Rattle.multisets.proofs.Relations.{by_test, by_order, same_test, IsEquivalence, IsStrictOrder}
use Rattle.multisets.proofs.Relations.{greater-resp-left}
use Rattle.multisets.proofs.MultisetLaws.{bit, count, count-append, count-resp, is_empty_sum, cancel-difference}
use Rattle.multisets.proofs.MultisetLaws.{multiset_equal-counts, multiset_equal-equivalence, nonempty-counts}
use Rattle.multisets.proofs.MultisetLaws.{count-here, count→member, some-counts, every-counts}

module _ {A : Type 0} (greater : A → A → Bool) where
  -- Something is on the left, and above each thing on the right stands something on the left.
  pub record Covering (Left Right : A → Type 0) : Type 0 where
    pub top : (s : A) × Left s
    pub over : (t : A) → Right t → (s : A) × Left s × (greater s t ≡ true)

  -- Something on the left at or above x.
  abbrev pub AtOrAbove : (A → Type 0) → A → Type 0
  AtOrAbove Left x = (s : A) × Left s × ((y : A) → greater x y ≡ true → greater s y ≡ true)

  covering-rise : {L L' R R' : A → Type 0} → ((x : A) → L x → AtOrAbove L' x) → ((t : A) → R' t → R t) →
      Covering L R → Covering L' R'
  covering-rise f g d = record {
    top = let (s, k, up) = f d.top.0 d.top.1 in (s, k);
    over = λ t n. let (x, l, e) = d.over t (g t n) in let (s, k, up) = f x l in (s, k, up t e);
  }

  covering-mono : {L L' R R' : A → Type 0} → ((s : A) → L s → L' s) → ((t : A) → R' t → R t) →
      Covering L R → Covering L' R'
  covering-mono f g = covering-rise (λ x l. (x, f x l, λ y e. e)) g

module _ {A : Type 0} (like : A → A → Bool) where
  -- In surplus in the first list.
  abbrev pub Surplus : List A → List A → A → Type 0
  Surplus ss ts a = count like a ts < count like a ss

  module _ (greater : A → A → Bool) where
    -- By elements.
    abbrev pub CoversList : List A → List A → Type 0
    CoversList xs ys = Covering greater (λ (s : A). 0 < count like s xs) (λ (t : A). 0 < count like t ys)

    -- By surpluses.
    abbrev pub Dominates : List A → List A → Type 0
    Dominates ss ts = Covering greater (Surplus ss ts) (Surplus ts ss)

    -- The multiset extension by parts: something is exchanged for what it covers.
    pub record Exchange (ss ts : List A) : Type 0 where
      pub common : List A
      pub left : List A
      pub right : List A
      pub from_left : (a : A) → count like a ss ≡ count like a common + count like a left
      pub from_right : (a : A) → count like a ts ≡ count like a common + count like a right
      pub covers : CoversList left right

    -- Of any order.
    pub multiset_greater-equal : (ss ts : List A) → multiset_equal like ss ts ≡ true →
        multiset_greater like greater ss ts ≡ false
    unfolding multiset_equal multiset_greater
    multiset_greater-equal ss ts e = rw ((both (is_empty (cancel like ss ts).left) _).0 e).0

  module _ (E : IsEquivalence like) where
    module _ (greater : A → A → Bool) (O : IsStrictOrder like greater) where
      above-counts : (xs : List A) (t : A) →
          some (λ (s : A). greater s t) xs ≡ true ↔ ((s : A) × (0 < count like s xs) × (greater s t ≡ true))
      above-counts xs t = some-counts like E (λ s. greater s t) (λ a b e. greater-resp-left like E greater O e t) xs

      pub covers-counts : (xs ys : List A) → covers greater xs ys ≡ true ↔ CoversList greater xs ys
      covers-counts xs ys = (
        λ e. record {
          top = (nonempty-counts like E xs).0 ((both _ _).0 e).0;
          over = λ t n. (above-counts xs t).0 (all.0 ((both (not (is_empty xs)) _).0 e).1 t n);
        },
        λ h. (both _ _).1 ((nonempty-counts like E xs).1 h.top, all.1 λ t n. (above-counts xs t).1 (h.over t n)),
      )
        where
          covered : A → Bool
          covered t = some (λ (s : A). greater s t) xs

          below-same : (b c : A) → like b c ≡ true → covered b ≡ true → covered c ≡ true
          below-same b c e h =
              let w = (above-counts xs b).0 h in
              (above-counts xs c).1 (w.0, w.1, O.respects (E.reflexive w.0) e w.2)

          all : every covered ys ≡ true ↔ ((t : A) → 0 < count like t ys → covered t ≡ true)
          all = every-counts like E covered
              (λ b c e. same_test (covered b) (covered c) (below-same b c e) (below-same c b (E.symmetric e))) ys

      pub multiset_greater-counts : (ss ts : List A) →
          multiset_greater like greater ss ts ≡ true ↔ Dominates greater ss ts
      unfolding multiset_greater
      multiset_greater-counts ss ts =
          let c = (cancel-difference like E ss ts).counts in
          let rest = covers-counts (cancel like ss ts).left (cancel like ss ts).right in (
            λ e. covering-mono greater (λ s k. omega (arith, c s)) (λ t k. omega (arith, c t)) (rest.0 e),
            λ d. rest.1 (covering-mono greater (λ s k. omega (arith, c s)) (λ t k. omega (arith, c t)) d),
          )

      -- More on the left and less on the right keeps it: so equality, the same added to both sides, and the same taken
      -- from both.
      pub multiset_greater-mono : (ss ts ss' ts' : List A) →
          ((a : A) → count like a ss + count like a ts' ≤ count like a ss' + count like a ts) →
          multiset_greater like greater ss ts ≡ true → multiset_greater like greater ss' ts' ≡ true
      multiset_greater-mono ss ts ss' ts' h e =
          (multiset_greater-counts ss' ts').1
          (covering-mono greater (λ s k. omega (arith, h s)) (λ t k. omega (arith, h t))
          ((multiset_greater-counts ss ts).0 e))

      -- From an element in surplus, one at or above it that is highest of those in l.
      pub record Peak (ss ts l : List A) (x : A) : Type 0 where
        pub element : A
        pub surplus : count like element ts < count like element ss
        pub reach : (y : A) → greater x y ≡ true → greater element y ≡ true
        pub highest : (z : A) → 0 < count like z l → count like z ts < count like z ss → greater z element ≡ true → ⊥

      module _ {ss ts l : List A} {x : A} (a : A) (m : Peak ss ts l x) where
        climb-on : greater a m.element ≡ true → Surplus ss ts a → Peak ss ts (a ∷ l) x
        climb-on up k = record {
          element = a;
          surplus = k;
          reach = λ y g. O.transitive up (m.reach y g);
          highest = λ z n q g. by_test (like z a) (O.irreflexive g)
              λ f. m.highest z (omega (arith, ap bit f)) q (O.transitive g up);
        }

        climb-past : (greater a m.element ≡ true → Surplus ss ts a → ⊥) → Peak ss ts (a ∷ l) x
        climb-past stuck = record {
          element = m.element;
          surplus = m.surplus;
          reach = m.reach;
          highest = λ z n q g. by_test (like z a)
              (λ f. stuck (O.respects f (E.reflexive m.element) g)
              (omega (arith, count-resp like E f ts, count-resp like E f ss)))
              λ f. m.highest z (omega (arith, ap bit f)) q g;
        }

      pub climb : (ss ts l : List A) (x : A) → Surplus ss ts x → Peak ss ts l x
      climb ss ts [] x k = record { element = x; surplus = k; reach = λ y g. g; highest = λ z m _ _. omega arith }
      climb ss ts (a ∷ l) x k =
          let m = climb ss ts l x k in
          by_test (greater a m.element)
          (λ e. by_order (count like a ts) (count like a ss) (λ h. climb-on a m e h)
          λ h. climb-past a m λ _ i. omega arith)
          λ e. climb-past a m λ f _. false≢true (sym e ∙ f)

      -- Through a list in the middle: from its lack, and from its surplus.
      module _ (ms ns ps : List A) (d : Dominates greater ms ns) (e : Dominates greater ns ps) where
        rise : (x : A) → Surplus ms ns x → AtOrAbove greater (Surplus ms ps) x
        rise x k =
            let m = climb ms ns ms x k in
            let p = m.element in
            by_order (count like p ps) (count like p ms) (λ h. (p, h, m.reach))
            λ h. let (z, i, g) = e.over p (omega arith) in
            by_order (count like z ms) (count like z ns)
            (λ n. let (w, j, f) = d.over z n in absurd (m.highest w (omega arith) j (O.transitive f g)))
            λ n. (z, omega arith, λ y f. O.transitive g (m.reach y f))

        lift : (z : A) → Surplus ns ps z → AtOrAbove greater (Surplus ms ps) z
        lift z k =
            by_order (count like z ms) (count like z ns)
            (λ h. let (x, i, f) = d.over z h in let (s, j, up) = rise x i in (s, j, λ y g. up y (O.transitive f g)))
            λ h. (z, omega arith, λ y g. g)

        dominates-trans : Dominates greater ms ps
        dominates-trans = record {
          top = let (s, k, up) = lift e.top.0 e.top.1 in (s, k);
          over = λ t k. by_order (count like t ms) (count like t ns)
              (λ h. let (x, i, f) = d.over t h in let (s, j, up) = rise x i in (s, j, up t f))
              λ h. let (z, i, f) = e.over t (omega arith) in let (s, j, up) = lift z i in (s, j, up t f);
        }

      pub multiset_greater-order : IsStrictOrder (multiset_equal like) (multiset_greater like greater)
      multiset_greater-order = record {
        transitive = λ {a = l} {b = m} {c = n} e f.
            (multiset_greater-counts l n).1
            (dominates-trans l m n ((multiset_greater-counts l m).0 e) ((multiset_greater-counts m n).0 f));
        irreflexive = λ {a = l} {b = m} e f.
            let d = (multiset_greater-counts l m).0 e in
            omega (arith, (multiset_equal-counts like E l m).0 f d.top.0);
        respects = λ {a = l} {a' = l'} {b = m} {b' = m'} e f.
            multiset_greater-mono l m l' m'
            λ a. omega (arith, (multiset_equal-counts like E l l').0 e a, (multiset_equal-counts like E m m').0 f a);
      }

      -- Where each that is lacking has one in surplus above it: above, or equal.
      pub multiset-covered : (ss ts : List A) →
          ((t : A) → Surplus ts ss t → (s : A) × Surplus ss ts s × (greater s t ≡ true)) →
          (multiset_greater like greater ss ts ≡ true) ⊎ (multiset_equal like ss ts ≡ true)
      multiset-covered ss ts over =
          let l = (cancel like ss ts).left in
          let c = (cancel-difference like E ss ts).counts in
          by_test (not (is_empty l))
          (λ e. let (s, k) = (nonempty-counts like E l).0 e in
          inl ((multiset_greater-counts ss ts).1 (record { top = (s, omega (arith, c s)); over = over })))
          λ e. let none : (a : A) → count like a l ≡ 0 =
          λ a. is_empty_sum (λ b. bit (like a b)) l (not-false (is_empty l) e) in
          inr ((multiset_equal-counts like E ss ts).1 λ a. by_order (count like a ss) (count like a ts)
          (λ k. let (s, j, g) = over a k in absurd (omega (arith, c s, none s))) λ k. omega (arith, c a, none a))

      pub multiset-part : (ss ts : List A) → ((a : A) → count like a ts ≤ count like a ss) →
          (multiset_greater like greater ss ts ≡ true) ⊎ (multiset_equal like ss ts ≡ true)
      multiset-part ss ts h = multiset-covered ss ts λ t k. absurd (omega (arith, h t))

      -- What is exchanged has a highest element, which is in surplus.
      exchange-rise : (ss ts : List A) (x : Exchange greater ss ts) (s : A) → 0 < count like s x.left →
          AtOrAbove greater (Surplus ss ts) s
      exchange-rise ss ts x s k =
          let m = climb x.left [] x.left s k in
          let p = m.element in
          by_order (count like p x.right) (count like p x.left)
          (λ h. (p, omega (arith, x.from_left p, x.from_right p), m.reach))
          λ h. let (w, j, f) = x.covers.over p (omega arith) in absurd (m.highest w j j f)

      -- What is cancelled is common, and what is left is exchanged.
      cancel-parts : (ss ts : List A) (a : A) → let r = cancel like ss ts in
          let common = (cancel like ss r.left).left in
          (count like a ss ≡ count like a common + count like a r.left) ×
          (count like a ts ≡ count like a common + count like a r.right)
      cancel-parts ss ts a =
          let r = cancel like ss ts in
          omega (arith, (cancel-difference like E ss ts).counts a, (cancel-difference like E ss r.left).counts a)

      exchange-of-cancel : (ss ts : List A) → multiset_greater like greater ss ts ≡ true → Exchange greater ss ts
      unfolding multiset_greater
      exchange-of-cancel ss ts e = let r = cancel like ss ts in record {
        common = (cancel like ss r.left).left;
        left = r.left;
        right = r.right;
        from_left = λ a. (cancel-parts ss ts a).0;
        from_right = λ a. (cancel-parts ss ts a).1;
        covers = (covers-counts r.left r.right).0 e;
      }

      pub multiset_greater-exchange : (ss ts : List A) →
          multiset_greater like greater ss ts ≡ true ↔ Exchange greater ss ts
      multiset_greater-exchange ss ts = (
        exchange-of-cancel ss ts,
        λ x. (multiset_greater-counts ss ts).1 (covering-rise greater (exchange-rise ss ts x)
            (λ t k. omega (arith, x.from_left t, x.from_right t)) x.covers),
      )

      pub multiset_greater-lists : (zs zs' xs ys : List A) → multiset_equal like zs zs' ≡ true →
          CoversList greater xs ys →
          multiset_greater like greater (zs ++ xs) (zs' ++ ys) ≡ true
      multiset_greater-lists zs zs' xs ys e h = (multiset_greater-exchange (zs ++ xs) (zs' ++ ys)).1 (record {
        common = zs;
        left = xs;
        right = ys;
        covers = h;
        from_left = λ a. count-append like a zs xs;
        from_right = λ a. omega (arith, (multiset_equal-counts like E zs zs').0 e a, count-append like a zs' ys);
      })

      pub multiset_greater-one : (s : A) (l : List A) → ((t : A) → Memᴰ t l → greater s t ≡ true) →
          multiset_greater like greater (s ∷ []) l ≡ true
      multiset_greater-one s l h =
          multiset_greater-lists [] [] (s ∷ []) l ((multiset_equal-equivalence like E).reflexive []) (record {
            top = (s, count-here like E s []);
            over = λ t n. let (u, m, e) = count→member like E t l n in
                (s, count-here like E s [], O.respects (E.reflexive s) (E.symmetric e) (h u m));
          })
