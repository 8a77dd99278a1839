-- An element of a flattening stands in a place, and a rule whose left side has another root than f is tried there.
--     element_place       the place of an element, and what comes of another term there
--     beside-element      a rule beside a rest under a symbol that is not the root of its left side: at an element
use mathlib.Core.List.Memᴰ
use mathlib.Core.List.{List, [], ◌∷◌, ◌++◌}
use mathlib.Core.Logic.{⊎_elim}
use mathlib.Core.Path.{◌≡◌, refl, sym, ap, ◌∙◌}
use mathlib.Core.Bool.{true}
use Prim.Native.Nat.{ℕ, suc}
use lib.ListN.{length}
use lib.Dec.{eqb}
use borrow.Author.Tests.{eqb-true}
use Rattle.multisets.proofs.Relations.{by_test}
use Rattle.multisets.proofs.MultisetLaws.{Takes, here, later, takes-member}
use Rattle.multisets.proofs.SortingLaws.{takes-append}
use Rattle.terms.specs.Signature.{Signature, symbol_of, Admissible}
use Rattle.terms.specs.Term.{Term, Terms, row, arguments, flattening, flattenings, WellFormed, WellFormeds}
use Rattle.terms.specs.Term.Term.{var, app}
use Rattle.terms.specs.Term.Terms.{nil, cons}
use Rattle.terms.specs.Equivalence.Equivalent.{same}
use Rattle.terms.specs.Bunch.{Bunch, join, bunch_of}
use Rattle.terms.specs.Bunch.Bunch.{full}
use Rattle.terms.specs.Rewriting.{Context, fill}
use Rattle.terms.specs.Rewriting.Context.{hole, inside}
use Rattle.terms.proofs.EquivalenceSound.{SameBunch, both_full, same_refl, same-sym, same-trans, join-resp, join-regroup}
use Rattle.terms.proofs.EquivalenceSound.{join-exchange, bunch-append, bunch-two, flattening-joined, flattenings-joined}
use Rattle.terms.proofs.TermLaws.{row-arguments, arguments-row}

takes_one : {a b : Term} {m : List Term} → Takes a (b ∷ []) m → (a ≡ b) × (m ≡ [])
takes_one (later x4) = elim x4 [ ]
takes_one here = (refl, refl)

module _ (σ : Signature) (A : Admissible σ) (f : ℕ) (ac : (symbol_of σ f).ac ≡ true) where
  -- The place of an element a in a term or a row, m being the others.
  pub record Placed (t a : Term) (m : List Term) : Type 0 where
    pub context : Context
    pub whole : t ≡ fill context a
    pub others : (b : Term) → SameBunch σ (full (fill context b)) (join f (full b) (bunch_of f m))

  pub record PlacedIn (ts : Terms) (a : Term) (m : List Term) : Type 0 where
    pub before : List Term
    pub context : Context
    pub after : List Term
    pub whole : row ts ≡ before ++ (fill context a ∷ after)
    pub others : (b : Term) →
        SameBunch σ (bunch_of f (before ++ (fill context b ∷ after))) (join f (full b) (bunch_of f m))

  -- What is put there stands beside the elements before it and after it.
  put-left : {c d : Bunch} (b : Term) (m n : List Term) → SameBunch σ c (join f (full b) (bunch_of f m)) →
      SameBunch σ d (bunch_of f n) → SameBunch σ (join f c d) (join f (full b) (bunch_of f (m ++ n)))
  put-left b m n h k =
      same-trans σ (join-resp σ f h k) (same-trans σ (join-regroup σ f ac (full b) (bunch_of f m) (bunch_of f n))
      (join-resp σ f (same_refl σ (full b)) (same-sym σ (bunch-append σ f ac m n))))

  put_right : {c d : Bunch} (b : Term) (m n : List Term) → SameBunch σ c (bunch_of f m) →
      SameBunch σ d (join f (full b) (bunch_of f n)) → SameBunch σ (join f c d) (join f (full b) (bunch_of f (m ++ n)))
  put_right b m n h k =
      same-trans σ (join-resp σ f h k) (same-trans σ (join-exchange σ f ac (bunch_of f m) (full b) (bunch_of f n))
      (join-resp σ f (same_refl σ (full b)) (same-sym σ (bunch-append σ f ac m n))))

  alone : (t a : Term) (m : List Term) → Takes a (t ∷ []) m → Placed t a m
  alone t a m k =
      let (p, q) = takes_one k in
      record { context = hole; whole = sym p; others = λ b. rw q (both_full same) }

  length-among : (ss ts : List Term) (s t : Term) → length (ss ++ (s ∷ ts)) ≡ length (ss ++ (t ∷ ts))
  length-among [] ts s t = refl
  length-among (u ∷ ss) ts s t = ap suc (length-among ss ts s t)

  -- In the arguments of f.
  placed-own : (ts : Terms) (a : Term) (m : List Term) → length (row ts) ≡ 2 → PlacedIn ts a m → Placed (app f ts) a m
  placed-own ts a m n p = record {
    context = inside f p.before p.context p.after;
    whole = ap (app f) (sym (arguments-row ts) ∙ ap arguments p.whole);
    others = λ b.
        let us = p.before ++ (fill p.context b ∷ p.after) in
        let k : length (row (arguments us)) ≡ 2 = ap length (row-arguments us)
        ∙ length-among p.before p.after (fill p.context b) (fill p.context a)
        ∙ ap length (sym p.whole) ∙ n in
        let e : bunch_of f us ≡ full (app f (arguments us)) =
        ap (bunch_of f) (sym (row-arguments us)) ∙ bunch-two f (arguments us) k in
        rw (← e) (p.others b);
  }

  mutual
    pub element_place : (t a : Term) (m : List Term) → WellFormed σ t → Takes a (flattening f t) m → Placed t a m
    element_place (var x) a m w k = alone (var x) a m k
    element_place (app g ts) a m w k =
        by_test (eqb f g)
        (λ e. let p = eqb-true f g e in
        rw (← p) (placed-own ts a m (rw (← p) at w.1 ∙ A.ac_binary f ac) (element-place-in ts a m w.2 (rw e at
        k))))
        λ e. alone (app g ts) a m (rw e at k)

    pub element-place-in : (ts : Terms) (a : Term) (m : List Term) → WellFormeds σ ts → Takes a (flattenings f ts) m →
        PlacedIn ts a m
    element-place-in nil a m w k = absurd (Memᴰ.not-nil (takes-member k))
    element-place-in (cons t ts) a m w k =
        ⊎_elim
        (λ (n, x, q). let p = element_place t a n w.0 x in record {
          before = [];
          context = p.context;
          after = row ts;
          whole = ap (λ (u : Term). u ∷ row ts) p.whole;
          others = λ b. rw q (put-left b n (flattenings f ts) (p.others b)
              (same-sym σ (flattenings-joined σ f ac A.ac_binary ts w.1)));
        })
        (λ (n, x, q). let p = element-place-in ts a n w.1 x in record {
          before = t ∷ p.before;
          context = p.context;
          after = p.after;
          whole = ap (◌∷◌ t) p.whole;
          others = λ b. rw q (put_right b (flattening f t) n
              (same-sym σ (flattening-joined σ f ac A.ac_binary t w.0)) (p.others b));
        })
        (takes-append (flattening f t) (flattenings f ts) k)
