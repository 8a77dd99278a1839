-- Renumbering node words by first use.
--     has-append, has_last, some-append          what a list has, joined
--     place-lt, place-append, -new, -injective   the place of an element of a list
--     by_word, rename_word-symbol, -variable       one word, by cases
--     by_sight, see-symbol, see-known, see-new    what is seen after one word
--     seen-word                                  each variable of the words is seen
--     renumber_from, renumber-at-once             the renumbering in one pass
--     renumbered-in_order, in_order-renumbered     it gives words in order, and changes none that are
--     in_order-append                             words one after the other
-- That it does not see a renaming is in FirstUseRenamed; of rules, in RuleRenumbering.
use mathlib.Core.List.Memᴰ
use mathlib.Core.List.{List, [], ◌∷◌, ◌++◌, map, Memᴰ}
use mathlib.Core.List.{append-nil}
use mathlib.Core.Path.{◌≡◌, refl, sym, ap, ap₂, ◌∙◌}
use mathlib.Core.Bool.{Bool, true, false, cond, ◌&&◌, ◌||◌, and-eq-true_iff as both, false≢true, true≢false}
use Prim.Native.Nat.{ℕ, suc, zero, ◌+◌, ◌-◌, ◌≤◌, ◌<◌}
use native.Mathlib.Omega.{arith}
use lib.Dec.{eqb, leb}
use lib.ListN.{length, length-append}
use borrow.Author.Tests.{eqb-true, ne_eqb, lt-ltb, le-ltb, le-leb, leb-true}
use Rattle.multisets.specs.Multiset.{some}
use Rattle.terms.specs.Words.{first_variable}
use Rattle.terms.specs.FirstUse.{unused_after, unused_after_all, in_order_from, in_order, see, see_all, place_in}
use Rattle.terms.specs.FirstUse.{rename_word, renumbered}
use Rattle.multisets.proofs.Relations.{by_test, by_order, eqb-self}

-- ---- places

-- The number is in the list.
abbrev pub Has : List ℕ → ℕ → Type 0
Has l x = some (eqb x) l ≡ true

pub has-append : (l m : List ℕ) (x : ℕ) → Has l x → Has (l ++ m) x
has-append [] m x h = absurd (false≢true h)
has-append (y ∷ l) m x h =
    by_test (eqb x y) (λ e. rw e) λ e. rw e (has-append l m x (rw e at h))

pub has_last : (l : List ℕ) (x : ℕ) → Has (l ++ (x ∷ [])) x
has_last [] x = rw eqb-self
has_last (y ∷ l) x = by_test (eqb x y) (λ e. rw e) λ e. rw e (has_last l x)

pub some-append : (p : ℕ → Bool) (l m : List ℕ) → some p (l ++ m) ≡ (some p l || some p m)
some-append p [] m = refl
some-append p (y ∷ l) m = by_test (p y) (λ e. rw e) λ e. rw e (some-append p l m)

pub place-lt : (l : List ℕ) (x : ℕ) → Has l x → place_in l x < length l
unfolding place_in
place-lt [] x h = absurd (false≢true h)
place-lt (y ∷ l) x h =
    by_test (eqb x y) (λ e. rw e (omega arith)) λ e. rw e (omega (arith, place-lt l x (rw e at h)))

pub place-append : (l m : List ℕ) (x : ℕ) → Has l x → place_in (l ++ m) x ≡ place_in l x
unfolding place_in
place-append [] m x h = absurd (false≢true h)
place-append (y ∷ l) m x h = by_test (eqb x y) (λ e. rw e) λ e. rw e (ap suc (place-append l m x (rw e at h)))

pub place-new : (l : List ℕ) (x : ℕ) → some (eqb x) l ≡ false → place_in (l ++ (x ∷ [])) x ≡ length l
unfolding place_in
place-new [] x h = rw eqb-self
place-new (y ∷ l) x h =
    by_test (eqb x y) (λ e. absurd (true≢false (rw e at h))) λ e. rw e (ap suc (place-new l x (rw e at h)))

pub place-injective : (l : List ℕ) (x y : ℕ) → Has l x → place_in l x ≡ place_in l y → x ≡ y
unfolding place_in
place-injective [] x y h e = absurd (false≢true h)
place-injective (z ∷ l) x y h e =
    by_test (eqb x z) (λ p. by_test (eqb y z) (λ q. eqb-true x z p ∙ sym (eqb-true y z q))
    λ q. absurd (let k = rw (p, q) at e in omega arith))
    λ p. by_test (eqb y z) (λ q. absurd (let k = rw (p, q) at e in omega arith))
    λ q. place-injective l x y (rw p at h) (let k = rw (p, q) at e in omega arith)

-- ---- one word

pub by_word {ℓ} : {P : Type ℓ} (w : ℕ) → (w < first_variable → P) → ((x : ℕ) → w ≡ first_variable + x → P) → P
by_word w f g = by_order w first_variable f λ h. g (w - first_variable) (omega arith)

pub rename_word-symbol : (ρ : ℕ → ℕ) (w : ℕ) → w < first_variable → rename_word ρ w ≡ w
unfolding rename_word
rename_word-symbol ρ w h = rw (lt-ltb w first_variable h)

pub rename_word-variable : (ρ : ℕ → ℕ) (x : ℕ) → rename_word ρ (first_variable + x) ≡ first_variable + ρ x
unfolding rename_word
rename_word-variable ρ x =
    let back : first_variable + x - first_variable ≡ x = omega arith in
    rw (le-ltb (first_variable + x) first_variable (omega arith), back)

pub see-symbol : (seen : List ℕ) (w : ℕ) → w < first_variable → see seen w ≡ seen
unfolding see
see-symbol seen w h = rw (lt-ltb w first_variable h)

see-variable : (seen : List ℕ) (x : ℕ) →
    see seen (first_variable + x) ≡ cond (some (eqb x) seen) seen (seen ++ (x ∷ []))
unfolding see
see-variable seen x =
    let back : first_variable + x - first_variable ≡ x = omega arith in
    rw (le-ltb (first_variable + x) first_variable (omega arith), back)

pub see-known : (seen : List ℕ) (x : ℕ) → Has seen x → see seen (first_variable + x) ≡ seen
see-known seen x h = see-variable seen x ∙ rw h

pub see-new : (seen : List ℕ) (x : ℕ) → some (eqb x) seen ≡ false → see seen (first_variable + x) ≡ seen ++ (x ∷ [])
see-new seen x h = see-variable seen x ∙ rw h

-- A symbol, a variable seen before, a new one.
pub by_sight {ℓ} : {P : Type ℓ} (seen : List ℕ) (w : ℕ) → (w < first_variable → P) →
    ((x : ℕ) → w ≡ first_variable + x → Has seen x → P) →
    ((x : ℕ) → w ≡ first_variable + x → some (eqb x) seen ≡ false → P) → P
by_sight seen w f g h = by_word w f λ x e. by_test (some (eqb x) seen) (g x e) (h x e)

see-extends : (seen : List ℕ) (w : ℕ) → (more : List ℕ) × (see seen w ≡ seen ++ more)
see-extends seen w =
    by_sight seen w (λ h. ([], see-symbol seen w h ∙ sym (append-nil seen)))
    (λ x e h. ([], rw e (see-known seen x h) ∙ sym (append-nil seen)))
    λ x e h. (x ∷ [], rw e (see-new seen x h))

see-has : (seen : List ℕ) (w x : ℕ) → Has seen x → Has (see seen w) x
see-has seen w x h = let (more, e) = see-extends seen w in rw e (has-append seen more x h)

see-place : (seen : List ℕ) (w x : ℕ) → Has seen x → place_in (see seen w) x ≡ place_in seen x
see-place seen w x h = let (more, e) = see-extends seen w in rw e (place-append seen more x h)

see-word : (seen : List ℕ) (x : ℕ) → Has (see seen (first_variable + x)) x
see-word seen x =
    by_test (some (eqb x) seen) (λ h. rw (see-known seen x h) h) λ h. rw (see-new seen x h) (has_last seen x)

-- ---- many words

see_all-has : (ws seen : List ℕ) (x : ℕ) → Has seen x → Has (see_all seen ws) x
unfolding see_all
see_all-has [] seen x h = h
see_all-has (w ∷ ws) seen x h = see_all-has ws (see seen w) x (see-has seen w x h)

see_all-place : (ws seen : List ℕ) (x : ℕ) → Has seen x → place_in (see_all seen ws) x ≡ place_in seen x
unfolding see_all
see_all-place [] seen x h = refl
see_all-place (w ∷ ws) seen x h =
    see_all-place ws (see seen w) x (see-has seen w x h) ∙ see-place seen w x h

pub seen-word : (ws seen : List ℕ) (x : ℕ) → Memᴰ (first_variable + x) ws → Has (see_all seen ws) x
unfolding see_all
seen-word [] seen x m = absurd (Memᴰ.not-nil m)
seen-word (w ∷ ws) seen x (Memᴰ.head e) = see_all-has ws (see seen w) x (rw (← e) (see-word seen x))
seen-word (w ∷ ws) seen x (Memᴰ.tail m) = seen-word ws (see seen w) x m

-- ---- in one pass

-- Each word is renumbered by what is seen with it.
unfoldable pub renumber_from : List ℕ → List ℕ → List ℕ
renumber_from seen [] = []
renumber_from seen (w ∷ ws) = rename_word (place_in (see seen w)) w ∷ renumber_from (see seen w) ws

renumber-word : (ws seen : List ℕ) (w : ℕ) →
    rename_word (place_in (see seen w)) w ≡ rename_word (place_in (see_all (see seen w) ws)) w
renumber-word ws seen w =
    by_word w (λ h. rename_word-symbol (place_in (see seen w)) w h
    ∙ sym (rename_word-symbol (place_in (see_all (see seen w) ws)) w h))
    λ x e. rw e (rename_word-variable (place_in (see seen (first_variable + x))) x
    ∙ ap (◌+◌ first_variable) (sym (see_all-place ws (see seen (first_variable + x)) x (see-word seen x)))
    ∙ sym (rename_word-variable (place_in (see_all (see seen (first_variable + x)) ws)) x))

pub renumber-at-once : (ws seen : List ℕ) → renumber_from seen ws ≡ map (rename_word (place_in (see_all seen ws))) ws
unfolding renumber_from see_all
renumber-at-once [] seen = refl
renumber-at-once (w ∷ ws) seen = ap₂ ◌∷◌ (renumber-word ws seen w) (renumber-at-once ws (see seen w))

-- ---- words in order

pub in_order-append : (n : ℕ) (l m : List ℕ) →
    in_order_from n (l ++ m) ≡ (in_order_from n l && in_order_from (unused_after_all n l) m)
unfolding in_order_from
in_order-append n [] m = refl
in_order-append n (w ∷ l) m =
    by_test (leb w (first_variable + n)) (λ e. rw e (in_order-append (unused_after n w) l m)) λ e. rw e

in_order-symbol : (n w : ℕ) (ws : List ℕ) → w < first_variable → in_order_from n (w ∷ ws) ≡ in_order_from n ws
unfolding in_order_from
in_order-symbol n w ws h =
    rw (le-leb w (first_variable + n) (omega arith), ne_eqb w (first_variable + n) λ e. omega arith)

in_order-old : (n x : ℕ) (ws : List ℕ) → x < n → in_order_from n ((first_variable + x) ∷ ws) ≡ in_order_from n ws
unfolding in_order_from
in_order-old n x ws h =
    rw (
      le-leb (first_variable + x) (first_variable + n) (omega arith),
      ne_eqb (first_variable + x) (first_variable + n) λ e. omega arith,
    )

in_order-next : (n : ℕ) (ws : List ℕ) → in_order_from n ((first_variable + n) ∷ ws) ≡ in_order_from (suc n) ws
unfolding in_order_from
in_order-next n ws = rw (le-leb (first_variable + n) (first_variable + n) (omega arith), eqb-self (first_variable + n))

in_order-le : (n x : ℕ) (ws : List ℕ) → in_order_from n ((first_variable + x) ∷ ws) ≡ true → x ≤ n
unfolding in_order_from
in_order-le n x ws h = omega (arith, leb-true (first_variable + x) (first_variable + n) ((both _ _).0 h).0)

renumber_from-in_order : (ws seen : List ℕ) → in_order_from (length seen) (renumber_from seen ws) ≡ true
unfolding renumber_from in_order_from
renumber_from-in_order [] seen = refl
renumber_from-in_order (w ∷ ws) seen =
    by_sight seen w
    (λ h. rw (see-symbol seen w h, rename_word-symbol (place_in seen) w h)
    (in_order-symbol (length seen) w (renumber_from seen ws) h ∙ renumber_from-in_order ws seen))
    (λ x e h. rw (e, see-known seen x h, rename_word-variable (place_in seen) x)
    (in_order-old (length seen) (place_in seen x) (renumber_from seen ws) (place-lt seen x h)
    ∙ renumber_from-in_order ws seen))
    λ x e h. let q : length (seen ++ (x ∷ [])) ≡ suc (length seen) = omega (arith, length-append seen (x ∷ [])) in
    rw (e, see-new seen x h, rename_word-variable (place_in (seen ++ (x ∷ []))) x, place-new seen x h)
    (in_order-next (length seen) (renumber_from (seen ++ (x ∷ [])) ws)
    ∙ rw q at (renumber_from-in_order ws (seen ++ (x ∷ []))))

-- The numbers below n, in order.
abbrev up_to : ℕ → List ℕ
up_to zero = []
up_to (suc n) = up_to n ++ (n ∷ [])

up_to-has : (n x : ℕ) → x < n → Has (up_to n) x
up_to-has zero x h = absurd (omega arith)
up_to-has (suc n) x h =
    by_order x n (λ k. has-append (up_to n) (n ∷ []) x (up_to-has n x k))
    λ k. let e : x ≡ n = omega arith in rw e (has_last (up_to n) n)

up_to-lacks : (n x : ℕ) → n ≤ x → some (eqb x) (up_to n) ≡ false
up_to-lacks zero x h = refl
up_to-lacks (suc n) x h =
    some-append (eqb x) (up_to n) (n ∷ []) ∙ rw (up_to-lacks n x (omega arith), ne_eqb x n λ e. omega arith)

up_to-length : (n : ℕ) → length (up_to n) ≡ n
up_to-length zero = refl
up_to-length (suc n) = omega (arith, length-append (up_to n) (n ∷ []), up_to-length n)

up_to-place : (n x : ℕ) → x < n → place_in (up_to n) x ≡ x
up_to-place zero x h = absurd (omega arith)
up_to-place (suc n) x h =
    by_order x n (λ k. place-append (up_to n) (n ∷ []) x (up_to-has n x k) ∙ up_to-place n x k)
    λ k. let e : x ≡ n = omega arith in rw e (place-new (up_to n) n (up_to-lacks n n (omega arith)) ∙ up_to-length n)

in_order-unchanged : (ws : List ℕ) (n : ℕ) → in_order_from n ws ≡ true → renumber_from (up_to n) ws ≡ ws
unfolding renumber_from
in_order-unchanged [] n h = refl
in_order-unchanged (w ∷ ws) n h =
    by_word w (λ l. rw (see-symbol (up_to n) w l, rename_word-symbol (place_in (up_to n)) w l)
    (ap (◌∷◌ w) (in_order-unchanged ws n (sym (in_order-symbol n w ws l) ∙ h))))
    λ x e. let k = rw e at h in
    by_order x n
    (λ l. rw (
      e,
      see-known (up_to n) x (up_to-has n x l),
      rename_word-variable (place_in (up_to n)) x,
      up_to-place n x l,
    ) (ap (◌∷◌ (first_variable + x)) (in_order-unchanged ws n (sym (in_order-old n x ws l) ∙ k))))
    λ l. let q : x ≡ n = omega (arith, in_order-le n x ws k) in
    rw (
      e,
      q,
      see-new (up_to n) n (up_to-lacks n n (omega arith)),
      rename_word-variable (place_in (up_to (suc n))) n,
      up_to-place (suc n) n (omega arith),
    ) (ap (◌∷◌ (first_variable + n)) (in_order-unchanged ws (suc n) (sym (in_order-next n ws) ∙ rw q at k)))

pub renumbered-in_order : (ws : List ℕ) → in_order (renumbered ws) ≡ true
renumbered-in_order ws = rw (← renumber-at-once ws []) (renumber_from-in_order ws [])

pub in_order-renumbered : (ws : List ℕ) → in_order ws ≡ true → renumbered ws ≡ ws
in_order-renumbered ws h = sym (renumber-at-once ws []) ∙ in_order-unchanged ws 0 h
