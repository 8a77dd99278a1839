-- The parts of a term, its arguments and the elements of its flattenings: they are smaller than it, and well formed
-- where it is.
--     row-arguments, arguments-row, among-member            a symbol's arguments as a list and back
--     Hereditary, row-each, flattening-each                 a property that goes down to the parts holds of them
--     row-smaller, flattenings-smaller, flattenings-formed  two such properties
--     Each, Parts, AgreeOn, each-agree                      what holds of a list, of all parts; tests that agree
--     depth, without-depth                                  a test by depth: from the size on it does not matter
use mathlib.Core.List.Memᴰ
use mathlib.Core.List.{List, [], ◌∷◌, ◌++◌, Memᴰ}
use mathlib.Core.Logic.{⊎_elim}
use mathlib.Core.Path.{◌≡◌, refl, sym, ap, ◌∙◌}
use mathlib.Core.Bool.{Bool}
use Prim.Native.Nat.{ℕ, suc, zero, ◌≤◌, ◌<◌}
use native.Mathlib.Omega.{arith}
use lib.Dec.{eqb}
use Rattle.multisets.specs.Multiset.{choose}
use Rattle.terms.specs.Signature.{Signature}
use Rattle.terms.specs.Term.{Term, Terms, row, arguments, size, sizes, flattening, flattenings, WellFormed}
use Rattle.terms.specs.Term.{WellFormeds}
use Rattle.terms.specs.Term.Term.{var, app}
use Rattle.terms.specs.Term.Terms.{nil, cons}
use Rattle.multisets.proofs.Relations.{by_test}
use Rattle.multisets.proofs.MultisetMaps.{choose-member}
use Rattle.multisets.proofs.Agreement.{Agree}

pub row-arguments : (l : List Term) → row (arguments l) ≡ l
row-arguments [] = refl
row-arguments (t ∷ l) = ap (◌∷◌ t) (row-arguments l)

pub arguments-row : (ts : Terms) → arguments (row ts) ≡ ts
arguments-row nil = refl
arguments-row (cons t ts) = ap (cons t) (arguments-row ts)

-- An argument among others.
pub among-member : (ss ts : List Term) (t : Term) → Memᴰ t (row (arguments (ss ++ (t ∷ ts))))
among-member ss ts t = rw row-arguments (Memᴰ.append_right ss (Memᴰ.head refl))

pub size-pos : (t : Term) → 0 < size t
size-pos (var x) = omega arith
size-pos (app f ts) = omega arith

-- A property of terms, with one of rows of terms, that goes down to the parts.
pub record Hereditary (P : Term → Type 0) (Q : Terms → Type 0) : Type 0 where
  pub inner : (f : ℕ) (ts : Terms) → P (app f ts) → Q ts
  pub head : (t : Term) (ts : Terms) → Q (cons t ts) → P t
  pub tail : (t : Term) (ts : Terms) → Q (cons t ts) → Q ts

module _ {P : Term → Type 0} {Q : Terms → Type 0} (d : Hereditary P Q) (u : Term) where
  pub row-each : (ts : Terms) → Q ts → Memᴰ u (row ts) → P u
  row-each nil q m = absurd (Memᴰ.not-nil m)
  row-each (cons t ts) q (Memᴰ.head e) = rw e (d.head t ts q)
  row-each (cons t ts) q (Memᴰ.tail m) = row-each ts (d.tail t ts q) m

  mutual
    pub flattening-each : (t : Term) (f : ℕ) → P t → Memᴰ u (flattening f t) → P u
    flattening-each (var x) f p m = rw (Memᴰ.eq_of_singleton m) p
    flattening-each (app g ts) f p m =
        by_test (eqb f g) (λ e. flattenings-each ts f (d.inner g ts p) (rw e at m))
        λ e. rw (Memᴰ.eq_of_singleton (rw e at m)) p

    pub flattenings-each : (ts : Terms) (f : ℕ) → Q ts → Memᴰ u (flattenings f ts) → P u
    flattenings-each nil f q m = absurd (Memᴰ.not-nil m)
    flattenings-each (cons t ts) f q m =
        ⊎_elim (λ k. flattening-each t f (d.head t ts q) k) (λ k. flattenings-each ts f (d.tail t ts q) k)
        (Memᴰ.append_cases (flattening f t) m)

pub small : (n : ℕ) → Hereditary (λ (t : Term). size t ≤ n) (λ (ts : Terms). sizes ts ≤ n)
small n = record { inner = λ f ts h. omega arith; head = λ t ts h. omega arith; tail = λ t ts h. omega arith }

pub formed : (σ : Signature) → Hereditary (WellFormed σ) (WellFormeds σ)
formed σ = record { inner = λ f ts w. w.2; head = λ t ts w. w.0; tail = λ t ts w. w.1 }

pub row-smaller : (ts : Terms) (u : Term) → Memᴰ u (row ts) → size u ≤ sizes ts
row-smaller ts u = row-each (small (sizes ts)) u ts (omega arith)

pub flattenings-smaller : (ts : Terms) (f : ℕ) (u : Term) → Memᴰ u (flattenings f ts) → size u ≤ sizes ts
flattenings-smaller ts f u = flattenings-each (small (sizes ts)) u ts f (omega arith)

pub flattenings-formed : (σ : Signature) (ts : Terms) (f : ℕ) → WellFormeds σ ts → (u : Term) →
    Memᴰ u (flattenings f ts) → WellFormed σ u
flattenings-formed σ ts f w u = flattenings-each (formed σ) u ts f w

-- ---- tests of parts

abbrev pub Each : (Term → Type 0) → List Term → Type 0
Each P l = (a : Term) → Memᴰ a l → P a

pub each-choose : {P : Term → Type 0} (p : Term → Bool) (l : List Term) → Each P l → Each P (choose p l)
each-choose p l h a m = h a (choose-member p l m).0

-- The arguments of a term, and the elements of their flattenings.
abbrev pub Parts : (Term → Type 0) → Term → Type 0
Parts P (var x) = Unit {0}
Parts P (app g ts) = Each P (row ts) × ((f : ℕ) → Each P (flattenings f ts))

pub smaller-parts : (s : Term) → Parts (λ (a : Term). size a < size s) s
smaller-parts (var x) = tt
smaller-parts (app f ts) = (
  λ a m. omega (arith, row-smaller ts a m),
  λ g a m. omega (arith, flattenings-smaller ts g a m),
)

pub any-parts : (t : Term) → Parts (λ (b : Term). Unit {0}) t
any-parts (var x) = tt
any-parts (app f ts) = (λ a m. tt, λ g a m. tt)

pub formed-parts : (σ : Signature) (t : Term) → WellFormed σ t → Parts (WellFormed σ) t
formed-parts σ (var x) w = tt
formed-parts σ (app f ts) w = (λ a. row-each (formed σ) a ts w.2, λ g. flattenings-formed σ ts g w.2)

pub parts-both : (P Q : Term → Type 0) (t : Term) → Parts P t → Parts Q t → Parts (λ (a : Term). P a × Q a) t
parts-both P Q (var x) p q = tt
parts-both P Q (app f ts) p q = (λ a m. (p.0 a m, q.0 a m), λ g a m. (p.1 g a m, q.1 g a m))

-- Two tests that agree where P holds on the left and Q on the right.
abbrev pub AgreeOn : (Term → Type 0) → (Term → Type 0) → (Term → Term → Bool) → (Term → Term → Bool) → Type 0
AgreeOn P Q test test' = (a b : Term) → P a → Q b → test a b ≡ test' a b

pub each-agree : {P Q : Term → Type 0} {test test' : Term → Term → Bool} → AgreeOn P Q test test' →
    {l m : List Term} → Each P l → Each Q m → Agree l m test test'
each-agree k p q a b i j = k a b (p a i) (q b j)

-- ---- tests by depth

-- A step that asks its test only of smaller terms on the left.
abbrev pub AsksSmaller : ((Term → Term → Bool) → Term → Term → Bool) → Type 0
AsksSmaller step =
    (test test' : Term → Term → Bool) (s t : Term) → ((a b : Term) → size a < size s → test a b ≡ test' a b) →
    step test s t ≡ step test' s t

module _ (step : (Term → Term → Bool) → Term → Term → Bool) (asks : AsksSmaller step) (to : ℕ → Term → Term → Bool)
    (next : (n : ℕ) (s t : Term) → to (suc n) s t ≡ step (to n) s t) where
  pub depth : (n m : ℕ) (s t : Term) → size s ≤ n → size s ≤ m → to n s t ≡ to m s t
  depth zero m s t h k = absurd (omega (arith, size-pos s))
  depth (suc n) zero s t h k = absurd (omega (arith, size-pos s))
  depth (suc n) (suc m) s t h k =
      next n s t ∙ asks (to n) (to m) s t (λ a b l. depth n m a b (omega arith) (omega arith)) ∙ sym (next m s t)

  pub without-depth : (s t : Term) → to (size s) s t ≡ step (λ a b. to (size a) a b) s t
  without-depth s t =
      depth (size s) (suc (size s)) s t (omega arith) (omega arith)
      ∙ next (size s) s t
      ∙ asks (to (size s)) (λ a b. to (size a) a b) s t λ a b l. depth (size s) (size a) a b (omega arith) (omega arith)
