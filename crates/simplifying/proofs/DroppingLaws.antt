-- An element less makes a filling smaller: where a variable is dropped, one element for each variable that is kept is
-- enough.
--     parted-takes      an element less on one side is one less of the whole
--     filling-less      a filling by one element less that is at most the filling
use mathlib.Core.List.Memᴰ
use mathlib.Core.List.{List, [], ◌∷◌, ◌++◌}
use mathlib.Core.Path.{◌≡◌, refl, sym, ◌∙◌, subst}
use mathlib.Core.Bool.{Bool, true, false}
use Prim.Native.Nat.{ℕ, ◌+◌, ◌<◌}
use native.Mathlib.Omega.{arith}
use lib.ListN.{length}
use Rattle.multisets.specs.Sorting.{Parted}
use Rattle.multisets.specs.Sorting.Parted.{parted, on_left, on_right}
use Rattle.terms.specs.Signature.{Signature, symbol_of, IsSymbol, Admissible}
use Rattle.terms.specs.Term.{Term, Terms, row, arguments, Expression}
use Rattle.terms.specs.Term.Term.{var, app}
use Rattle.terms.specs.Term.Terms.{cons}
use Rattle.terms.specs.Equivalence.{pair}
use Rattle.terms.specs.Equivalence.Equivalent.{same}
use Rattle.terms.specs.Bunch.{bunch_of}
use Rattle.terms.specs.Bunch.Bunch.{full}
use Rattle.terms.specs.Rewriting.{Substitution, Expressions}
use Rattle.multisets.proofs.Relations.{by_order}
use Rattle.multisets.proofs.MultisetLaws.{Takes, takes-within}
use Rattle.multisets.proofs.MultisetLaws.Takes.{here, later}
use Rattle.multisets.proofs.SortingLaws.{parted-left, parted-right}
use Rattle.terms.proofs.TermLaws.{arguments-row}
use Rattle.theory.proofs.Contexts.{greater-argument}
use Rattle.simplifying.specs.Filling.{Filling, Fillings, Shaped, Shapeds, AtMost, RowAtMost}
use Rattle.simplifying.specs.FillingSize.{shared_count, shared_counts}
use Rattle.simplifying.specs.Filling.Filling.{own, taken, node}
use Rattle.simplifying.specs.Filling.Fillings.{none, each}
use Rattle.simplifying.proofs.CanonicalLaws.{joined, bunch-joined}
use Rattle.simplifying.proofs.LeastLaws.{at-most-same, at-most-below, before-expression, row-at-most}
use Rattle.simplifying.proofs.FillingLaws.{full-inj, bunch-expression, fillings-length, filling-expression}
use Rattle.simplifying.proofs.FillingLaws.{fillings-expressions}

module _ {A : Type 0} where
  parted-length : {l m n : List A} → Parted l m n → length l ≡ length m + length n
  parted-length parted = omega arith
  parted-length (on_left p) = omega (arith, parted-length p)
  parted-length (on_right p) = omega (arith, parted-length p)

  parted-takes-left : {a : A} {l m n k : List A} → Parted l m n → Takes a m k →
      (j : List A) × Takes a l j × Parted j k n
  parted-takes-left parted x = elim x [ ]
  parted-takes-left (on_left {l} p) here = (l, here, p)
  parted-takes-left (on_left {a = b} p) (later x) =
      let (j, y, q) = parted-takes-left p x in (b ∷ j, later y, on_left q)
  parted-takes-left (on_right {a = b} p) x =
      let (j, y, q) = parted-takes-left p x in (b ∷ j, later y, on_right q)

  parted-takes-right : {a : A} {l m n k : List A} → Parted l m n → Takes a n k →
      (j : List A) × Takes a l j × Parted j m k
  parted-takes-right parted x = elim x [ ]
  parted-takes-right (on_right {l} p) here = (l, here, p)
  parted-takes-right (on_right {a = b} p) (later x) =
      let (j, y, q) = parted-takes-right p x in (b ∷ j, later y, on_right q)
  parted-takes-right (on_left {a = b} p) x =
      let (j, y, q) = parted-takes-right p x in (b ∷ j, later y, on_left q)

module _ (σ : Signature) (A : Admissible σ) (f : ℕ) (is_symbol : IsSymbol σ f) (ac : (symbol_of σ f).ac ≡ true)
    (shared : ℕ → Bool) (τ : Substitution) (images : (x : ℕ) → shared x ≡ false → Expression σ (τ x)) where
  -- A filling by one element less that is at most t.
  pub record Less (p : Term) (l : List Term) (t : Term) : Type 0 where
    pub element : Term
    pub fewer : List Term
    pub takes : Takes element l fewer
    pub result : Term
    pub filling : Filling f shared τ p fewer result
    pub at_most : AtMost σ result t

  record LessRow (g : ℕ) (ps : Terms) (l : List Term) (ts : Terms) : Type 0 where
    element : Term
    fewer : List Term
    takes : Takes element l fewer
    results : Terms
    fillings : Fillings f shared τ ps fewer results
    at_most : RowAtMost σ g results ts

  taken-less : (x : ℕ) (l : List Term) (t : Term) → shared x ≡ true → bunch_of f l ≡ full t → Expressions σ l →
      1 < length l → Less (var x) l t
  taken-less x [] t s q h n = absurd (omega arith)
  taken-less x (a ∷ []) t s q h n = absurd (omega arith)
  taken-less x (a ∷ (b ∷ l)) t s q h n =
      let u = joined f a (b ∷ l) in
      let v = joined f b l in
      let d = bunch-expression σ A f is_symbol ac shared τ images (a ∷ (b ∷ l)) h u (bunch-joined f a (b ∷ l)) in
      let e = bunch-expression σ A f is_symbol ac shared τ images (b ∷ l) (λ w m. h w (Memᴰ.tail m)) v
      (bunch-joined f b l) in
      record {
        element = a;
        fewer = b ∷ l;
        takes = here;
        result = v;
        filling = taken s (bunch-joined f b l);
        at_most = subst (λ (z : Term). AtMost σ v z) (full-inj (sym (bunch-joined f a (b ∷ l)) ∙ q))
            (at-most-below σ A v u e d
            (greater-argument σ A f (pair a v) v d.0 (Memᴰ.tail (Memᴰ.head refl))));
      }

  row_same : (g : ℕ) (ts : Terms) → Expressions σ (row ts) → RowAtMost σ g ts ts
  row_same g ts h us b c =
      let x = before-expression σ A g us ts b h in
      at-most-same σ A (app g (arguments (us ++ row ts))) (app g (arguments (us ++ row ts))) x x same

  module _ (g : ℕ) {p t : Term} {ps ts : Terms} {l m n : List Term} (q : Parted l m n)
      (k : Filling f shared τ p m t) (ks : Fillings f shared τ ps n ts) (shape : Shapeds σ (cons p ps))
      (h : Expressions σ l) where
    first-formed : Expression σ t
    first-formed =
        filling-expression σ A f is_symbol ac shared τ images k shape.0 λ u i. h u (parted-left q u i)

    later-formed : Expressions σ (row ts)
    later-formed =
        fillings-expressions σ A f is_symbol ac shared τ images ks shape.1 λ u i. h u (parted-right q u i)

    less-first : Less p m t → LessRow g (cons p ps) l (cons t ts)
    less-first s =
        let (j, y, r) = parted-takes-left q s.takes in
        record {
          element = s.element;
          fewer = j;
          takes = y;
          results = cons s.result ts;
          fillings = each r s.filling ks;
          at_most = row-at-most σ A g s.result t ts ts
              (filling-expression σ A f is_symbol ac shared τ images s.filling shape.0
              λ u i. h u (parted-left q u (takes-within s.takes i)))
              first-formed later-formed later-formed s.at_most (row_same g ts later-formed);
        }

    less-later : LessRow g ps n ts → LessRow g (cons p ps) l (cons t ts)
    less-later s =
        let (j, y, r) = parted-takes-right q s.takes in
        record {
          element = s.element;
          fewer = j;
          takes = y;
          results = cons t s.results;
          fillings = each r k s.fillings;
          at_most = row-at-most σ A g t t s.results ts first-formed first-formed
              (fillings-expressions σ A f is_symbol ac shared τ images s.fillings shape.1
              λ u i. h u (parted-right q u (takes-within s.takes i)))
              later-formed (at-most-same σ A t t first-formed first-formed same) s.at_most;
        }

  less-node : (g : ℕ) (ps ts : Terms) (l : List Term) → Shaped σ (app g ps) → Fillings f shared τ ps l ts →
      LessRow g ps l ts → Less (app g ps) l (app g ts)
  less-node g ps ts l shape k s = record {
    element = s.element;
    fewer = s.fewer;
    takes = s.takes;
    result = app g s.results;
    filling = node s.fillings;
    at_most = rw (arguments-row s.results, arguments-row ts) at (s.at_most [] (
      shape.0,
      omega (arith, shape.1, fillings-length σ A f is_symbol ac shared τ images s.fillings),
      λ u i. absurd (Memᴰ.not-nil i),
    ) (
      shape.0,
      omega (arith, shape.1, fillings-length σ A f is_symbol ac shared τ images k),
      λ u i. absurd (Memᴰ.not-nil i),
    ));
  }

  mutual
    -- Where there are more elements than shared variables, one of them can go.
    pub filling-less : {p t : Term} {l : List Term} → Filling f shared τ p l t → Shaped σ p → Expressions σ l →
        shared_count shared p < length l → Less p l t
    filling-less (own s q) shape h n = absurd (omega arith)
    filling-less (taken {x} {l} {t} s q) shape h n = taken-less x l t s q h (rw s at n)
    filling-less (node {g} {ps} {ts} {l} ks) shape h n =
        less-node g ps ts l shape ks (fillings-less g ks shape.2 h n)

    fillings-less : (g : ℕ) {ps ts : Terms} {l : List Term} → Fillings f shared τ ps l ts → Shapeds σ ps →
        Expressions σ l → shared_counts shared ps < length l → LessRow g ps l ts
    fillings-less g none shape h n = absurd (omega arith)
    fillings-less g (each {p} {m} q k ks) shape h n =
        by_order (shared_count shared p) (length m)
        (λ z. less-first g q k ks shape h (filling-less k shape.0 (λ u i. h u (parted-left q u i)) z))
        λ z. less-later g q k ks shape h (fillings-less g ks shape.1 (λ u i. h u (parted-right q u i))
        (omega (arith, n, parted-length q)))
