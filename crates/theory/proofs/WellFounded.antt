-- The order is well founded on well-formed terms, with a unary symbol of weight 0 or without.
--     flat-accessible     flattenings whose elements are accessible
--     reached             every well-formed term is accessible
--     accessible-among    the same, as it is stated, among the terms of a kind
-- By the weight, then by the root's precedence: an argument is lighter than its term, or stands under the highest
-- symbol, so that the terms with lower roots have lighter arguments alone; then by the arguments.
use mathlib.Core.List.{List, [], ◌∷◌, ◌++◌, Memᴰ}
use mathlib.Core.Logic.{⊎_elim}
use mathlib.Core.Path.{◌≡◌, refl, sym, ap, ◌∙◌}
use mathlib.Core.Bool.{Bool, true, false, false≢true}
use mathlib.Core.WellFounded.Acc
use mathlib.Core.WellFounded.{Acc}
use Prim.Native.Nat.{ℕ, suc, zero, ◌≤◌, ◌<◌}
use native.Mathlib.Omega.{arith}
use lib.ListN.{length}
use Rattle.multisets.specs.Multiset.{cancel, multiset_equal, multiset_greater, row_greater}
use Rattle.terms.specs.Signature.{Signature, symbol_of, IsSymbol, Admissible}
use Rattle.terms.specs.Term.{Term, Terms, row, size, flattenings, weight, WellFormed}
use Rattle.terms.specs.Term.Term.{var, app}
use Rattle.terms.specs.Term.Terms.{nil, cons}
use Rattle.terms.specs.Order.{variables, root_above, root_below, high_part, low_part, high_equal, low_greater}
use Rattle.theory.specs.TerminationStatements.{AccessibleAmong}
use Rattle.multisets.proofs.Relations.{by_test, by_order, eqb-self, IsEquivalence, IsStrictOrder}
use Rattle.multisets.proofs.MultisetLaws.{count-append, multiset_equal-counts, multiset_equal-equivalence}
use Rattle.multisets.proofs.MultisetOrder.{multiset_greater-mono, multiset-part, multiset_greater-order}
use Rattle.multisets.proofs.Accessibility.{Accessible, AllAccessible, AccessibleList, multiset-accessible}
use Rattle.multisets.proofs.Accessibility.{RowBelow, AccessibleRow, row-accessible}
use Rattle.terms.proofs.TermLaws.{size-pos, row-smaller, flattenings-smaller, each-choose, formed-parts}
use Rattle.terms.proofs.WeightLaws.{variable-lightest, weight-argument, weight-argument-le, flattening-lighter}
use Rattle.theory.proofs.DecreasesView.{FlattenedDecreases, RootDecreases, Decreases}
use Rattle.theory.proofs.DecreasesView.Decreases.{by_weight, by_root}
use Rattle.theory.proofs.DecreasesView.FlattenedDecreases.{by_high, by_length, by_low}
use Rattle.theory.proofs.DecreasesView.RootDecreases.{by_precedence, by_row, by_flattening, by_power}
use Rattle.theory.proofs.FormedLaws.{like_formed, like_formed-equivalence}
use Rattle.theory.proofs.StrictOrder.{greater_formed, greater_formed-order, formed-view, greater_formed-view}

-- ---- flattenings

module _ (σ : Signature) (like : Term → Term → Bool) (E : IsEquivalence like) (greater : Term → Term → Bool)
    (O : IsStrictOrder like greater) (f : ℕ) where
  -- Below, and of accessible elements.
  abbrev FlatBelow : List Term → List Term → Type 0
  FlatBelow ts ss = FlattenedDecreases σ like greater f ss ts × AllAccessible greater ts

  abbrev AccessibleFlat : List Term → Type 0
  AccessibleFlat = Acc FlatBelow

  abbrev HighEqual : List Term → List Term → Type 0
  HighEqual l ts = multiset_equal like l (high_part σ f ts) ≡ true

  -- The high part falls, or it stays and the length falls, or that stays too and the low part falls.
  data Falls (ss ts : List Term) : Type 0 where
    high : multiset_greater like greater (high_part σ f ss) (high_part σ f ts) ≡ true → Falls ss ts
    shorter : HighEqual (high_part σ f ss) ts → length ts < length ss → Falls ss ts
    low : HighEqual (high_part σ f ss) ts → length ts ≡ length ss → low_greater σ like greater f ss ts ≡ true →
        Falls ss ts

  module _ (ss ts : List Term) where
    high-or-level : high_equal σ like f ss ts ≡ true → (HighEqual (high_part σ f ss) ts → Falls ss ts) → Falls ss ts
    high-or-level e k =
        let vs = (cancel like (variables ss) (variables ts)).right in
        ⊎_elim high k (multiset-part like E greater O (high_part σ f ss) (high_part σ f ts) λ a. omega (
          arith,
          (multiset_equal-counts like E (high_part σ f ss) (high_part σ f ts ++ vs)).0 e a,
          count-append like a (high_part σ f ts) vs,
        ))

    falls : FlattenedDecreases σ like greater f ss ts → Falls ss ts
    falls (by_high g) =
        let vs = (cancel like (variables ss) (variables ts)).right in
        high (multiset_greater-mono like E greater O (high_part σ f ss) (high_part σ f ts ++ vs) (high_part σ f ss)
        (high_part σ f ts) (λ a. omega (arith, count-append like a (high_part σ f ts) vs)) g)
    falls (by_length e k) = high-or-level e λ d. shorter d k
    falls (by_low e k g) = high-or-level e λ d. low d k g

  abbrev ListReached : List Term → Type 0
  ListReached = AccessibleList like E greater O

  abbrev M : IsEquivalence (multiset_equal like)
  M = multiset_equal-equivalence like E

  -- Lists with the high part l, where those with a lower one are accessible.
  module _ (l : List Term) (lower : (m : List Term) → multiset_greater like greater l m ≡ true → (ts : List Term) →
      HighEqual m ts → AllAccessible greater ts → AccessibleFlat ts) where
    by-low : (n : ℕ) → ((ts : List Term) → length ts < n → HighEqual l ts → AllAccessible greater ts →
        AccessibleFlat ts) → {m : List Term} → ListReached m → (ss : List Term) → low_part σ f ss ≡ m →
        length ss ≡ n → HighEqual l ss → AccessibleFlat ss
    by-low n less (Acc.intro m x) ss q k e =
        Acc.intro ss λ ts d. go ts d.1 (falls ss ts d.0) λ g i j. by-low n less (x (low_part σ f ts) g) ts refl i j
      where
        go : (ts : List Term) → AllAccessible greater ts → Falls ss ts →
            (multiset_greater like greater m (low_part σ f ts) ≡ true → length ts ≡ n → HighEqual l ts →
            AccessibleFlat ts) → AccessibleFlat ts
        go ts y (high g) next =
            let same = M.reflexive (high_part σ f ts) in
            lower (high_part σ f ts) ((multiset_greater-order like E greater O).respects (M.symmetric e) same g) ts same y
        go ts y (shorter d h) next = less ts (omega arith) (M.transitive e d) y
        go ts y (low d h g) next = next (rw (← q) g) (h ∙ k) (M.transitive e d)

    accessible_by_length : (n : ℕ) (ss : List Term) → length ss < n → HighEqual l ss → AllAccessible greater ss → AccessibleFlat ss
    accessible_by_length zero ss h e y = absurd (omega arith)
    accessible_by_length (suc n) ss h e y =
        by-low (length ss) (λ ts k. accessible_by_length n ts (omega arith))
        (multiset-accessible like E greater O (low_part σ f ss) (each-choose (root_below σ f) ss y)) ss refl refl e

  accessible_by_high : {l : List Term} → ListReached l → (ss : List Term) → HighEqual l ss → AllAccessible greater ss →
      AccessibleFlat ss
  accessible_by_high (Acc.intro l x) ss e y =
      accessible_by_length l (λ m g ts d z. accessible_by_high (x m g) ts d z) (suc (length ss)) ss (omega arith) e y

  flat-accessible : (ss : List Term) → AllAccessible greater ss → AccessibleFlat ss
  flat-accessible ss y =
      accessible_by_high (multiset-accessible like E greater O (high_part σ f ss) (each-choose (root_above σ f) ss y)) ss
      (M.reflexive (high_part σ f ss)) y

-- ---- terms

module _ (σ : Signature) (A : Admissible σ) where
  abbrev E : IsEquivalence (like_formed σ)
  E = like_formed-equivalence σ

  abbrev O : IsStrictOrder (like_formed σ) (greater_formed σ)
  O = greater_formed-order σ A

  abbrev Reached : Term → Type 0
  Reached = Accessible (greater_formed σ)

  abbrev AllReached : List Term → Type 0
  AllReached = AllAccessible (greater_formed σ)

  -- Nothing is below a variable.
  variable-reached : (x : ℕ) → Reached (var x)
  variable-reached x =
      Acc.intro (var x) λ t g. let (v, w, h) = (greater_formed-view σ (var x) t).0 g in
      absurd (go t w ((formed-view σ (var x) t v w).0 h))
    where
      go : (t : Term) → WellFormed σ t → Decreases σ (like_formed σ) (greater_formed σ) (var x) t → ⊥
      go t w (by_root _ x3) = elim x3 [ ]
      go t w (by_weight o h) = omega (arith, variable-lightest σ A x t w)

  argument-formed : (f : ℕ) (ts : Terms) → WellFormed σ (app f ts) → (a : Term) → Memᴰ a (row ts) → WellFormed σ a
  argument-formed f ts w a = (formed-parts σ (app f ts) w).0 a

  -- Terms of weight W, where the lighter ones are accessible.
  module _ (W : ℕ) (lighter : (t : Term) → WellFormed σ t → weight σ t < W → Reached t) where
    -- The arguments of f in a term of weight W.
    abbrev Level : ℕ → Terms → Type 0
    Level f ts = WellFormed σ (app f ts) × (weight σ (app f ts) ≡ W)

    -- ---- one root, where the terms with a lower root are accessible

    module _ (f : ℕ) (lower : (g : ℕ) (us : Terms) → Level g us →
        (symbol_of σ g).precedence < (symbol_of σ f).precedence → Reached (app g us)) where
      -- What is below a term with the root f, and has that root and its weight.
      data SameRoot (ss ts : Terms) : Type 0 where
        rows : (symbol_of σ f).ac ≡ false → row_greater (like_formed σ) (greater_formed σ) (row ss) (row ts) ≡ true →
            SameRoot ss ts
        flats : (symbol_of σ f).ac ≡ true →
            FlattenedDecreases σ (like_formed σ) (greater_formed σ) f (flattenings f ss) (flattenings f ts) →
            SameRoot ss ts

      below : (ss : Terms) → Level f ss → ((ts : Terms) → Level f ts → SameRoot ss ts → Reached (app f ts)) →
          Reached (app f ss)
      below ss (v, e) next =
          Acc.intro (app f ss) λ t g. let (_, w, h) = (greater_formed-view σ (app f ss) t).0 g in
          go t w ((formed-view σ (app f ss) t v w).0 h)
        where
          by-root : (t : Term) → WellFormed σ t → weight σ t ≡ W →
              RootDecreases σ (like_formed σ) (greater_formed σ) (app f ss) t → Reached t
          by-root (app g ts) w k (by_precedence i) = lower g ts (w, k) i
          by-root (app f ts) w k (by_row c g) = next ts (w, k) (rows c g)
          by-root (app f ts) w k (by_flattening c d) = next ts (w, k) (flats c d)
          by-root (var x) w k (by_power p) = variable-reached x

          go : (t : Term) → WellFormed σ t → Decreases σ (like_formed σ) (greater_formed σ) (app f ss) t → Reached t
          go t w (by_weight o h) = lighter t w (omega arith)
          go t w (by_root b r) = by-root t w (b.weights ∙ e) r

      -- The one argument that is not lighter stands alone, so that it is compared itself.
      one_below : (ss : Terms) (a : Term) → length (row ss) ≡ 1 →
          row_greater (like_formed σ) (greater_formed σ) (row ss) (a ∷ []) ≡ true → AllReached (row ss) → Reached a
      unfolding row_greater
      one_below nil a n g y = absurd (omega arith)
      one_below (cons s nil) a n g y =
          Acc.inv (y s (Memᴰ.head refl)) (by_test (like_formed σ s a) (λ e. absurd (false≢true (rw e at g)))
          λ e. rw e at g)
      one_below (cons s (cons r ss)) a n g y = absurd (omega arith)

      arguments-below : (ss ts : Terms) → Level f ss → Level f ts →
          row_greater (like_formed σ) (greater_formed σ) (row ss) (row ts) ≡ true → AllReached (row ss) →
          AllReached (row ts)
      arguments-below ss ts (v, d) (w, e) g y a m =
          ⊎_elim (λ h. lighter a (argument-formed f ts w a m) (omega arith))
          (λ h. let (z, q) = h in one_below ss a (v.1 ∙ z.unary) (rw q at g) y) (weight-argument σ A f ts w a m)

      by_rows : {l : List Term} → AccessibleRow (like_formed σ) E (greater_formed σ) O l → (ss : Terms) → row ss ≡ l →
          (symbol_of σ f).ac ≡ false → Level f ss → AllReached (row ss) → Reached (app f ss)
      by_rows (Acc.intro l x) ss q c v y =
          below ss v λ ts w r. go ts w r λ b z. by_rows (x (row ts) b) ts refl c w z
        where
          go : (ts : Terms) → Level f ts → SameRoot ss ts →
              (RowBelow (like_formed σ) E (greater_formed σ) O (row ts) l → AllReached (row ts) → Reached (app f ts)) →
              Reached (app f ts)
          go ts w (rows c' g) next =
              let z = arguments-below ss ts v w g y in
              let n : length (row ts) ≡ length l = w.0.1 ∙ sym v.0.1 ∙ ap length q in
              next (rw (← q) g, n, z) z
          go ts w (flats c' d) next = absurd (false≢true (sym c ∙ c'))

      elements-reached : (symbol_of σ f).ac ≡ true → (ts : Terms) → Level f ts → AllReached (flattenings f ts)
      elements-reached c ts (w, e) a m =
          ⊎_elim (λ q. absurd (omega (arith, flattenings-smaller ts f a m, ap size q)))
          (λ h. lighter a ((formed-parts σ (app f ts) w).1 f a m) (omega arith))
          (flattening-lighter σ A f (A.ac_binary f c) (app f ts) w a (rw eqb-self m))

      by-flats : {l : List Term} → AccessibleFlat σ (like_formed σ) E (greater_formed σ) O f l → (ss : Terms) →
          flattenings f ss ≡ l → (symbol_of σ f).ac ≡ true → Level f ss → Reached (app f ss)
      by-flats (Acc.intro l x) ss q c v =
          below ss v λ ts w r. go ts w r λ b. by-flats (x (flattenings f ts) b) ts refl c w
        where
          go : (ts : Terms) → Level f ts → SameRoot ss ts →
              (FlatBelow σ (like_formed σ) E (greater_formed σ) O f (flattenings f ts) l → Reached (app f ts)) →
              Reached (app f ts)
          go ts w (rows c' g) next = absurd (false≢true (sym c' ∙ c))
          go ts w (flats c' d) next = next (rw (← q) d, elements-reached c ts w)

      one-root : (ss : Terms) → Level f ss → AllReached (row ss) → Reached (app f ss)
      one-root ss v y =
          by_test (symbol_of σ f).ac
          (λ c. by-flats (flat-accessible σ (like_formed σ) E (greater_formed σ) O f (flattenings f ss)
          (elements-reached c ss v)) ss refl c v)
          λ c. by_rows (row-accessible (like_formed σ) E (greater_formed σ) O (row ss) y) ss refl c v y

    -- ---- all roots

    -- A term with a root below another has lighter arguments alone.
    lower-arguments : (f g : ℕ) (us : Terms) → IsSymbol σ f → Level g us →
        (symbol_of σ g).precedence < (symbol_of σ f).precedence → AllReached (row us)
    lower-arguments f g us i (w, e) h a m =
        ⊎_elim (λ k. lighter a (argument-formed g us w a m) (omega arith))
        (λ k. absurd (omega (arith, A.zero_weight_highest g f w.0 i k.0))) (weight-argument σ A g us w a m)

    -- By the precedence of the root, where the arguments are accessible; then by the size, so that they are.
    by-precedence : (p f : ℕ) (ss : Terms) → (symbol_of σ f).precedence < p → Level f ss → AllReached (row ss) →
        Reached (app f ss)
    by-precedence zero f ss h v y = absurd (omega arith)
    by-precedence (suc p) f ss h v y =
        one-root f (λ g us w k. by-precedence p g us (omega arith) w (lower-arguments f g us v.0.0 w k)) ss v y

    by_size : (n : ℕ) (t : Term) → size t ≤ n → WellFormed σ t → weight σ t ≡ W → Reached t
    by_size zero t h w e = absurd (omega (arith, size-pos t))
    by_size (suc n) (var x) h w e = variable-reached x
    by_size (suc n) (app f ss) h w e =
        by-precedence (suc (symbol_of σ f).precedence) f ss (omega arith) (w, e) λ a m.
        by_order (weight σ a) W (lighter a (argument-formed f ss w a m))
        λ k. by_size n a (omega (arith, row-smaller ss a m)) (argument-formed f ss w a m)
        (omega (arith, weight-argument-le σ A f ss a m))

  by-weight : (n : ℕ) (t : Term) → weight σ t < n → WellFormed σ t → Reached t
  by-weight zero t h w = absurd (omega arith)
  by-weight (suc n) t h w =
      by_size (weight σ t) (λ u v k. by-weight n u (omega arith) v) (size t) t (omega arith) w refl

  pub reached : (t : Term) → WellFormed σ t → Reached t
  reached t = by-weight (suc (weight σ t)) t (omega arith)

  -- Among the terms of a kind that are all well formed.
  among : {P : Term → Type 0} → ((t : Term) → P t → WellFormed σ t) → {s : Term} → Reached s → P s →
      AccessibleAmong σ P s
  among {P} formed (Acc.intro s x) p =
      Acc.intro s λ t d. let (q, g) = d in
      among formed (x t ((greater_formed-view σ s t).1 (formed s p, formed t q, g))) q

  pub accessible-among : (P : Term → Type 0) → ((t : Term) → P t → WellFormed σ t) → (s : Term) → P s →
      AccessibleAmong σ P s
  accessible-among P formed s p = among formed (reached s (formed s p)) p
