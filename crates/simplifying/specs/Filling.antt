-- A list of terms shared out among variables of a pattern, and the least term that comes of it.
-- Renders: 02, request 14: "Of all results of one step, AC regrouping allowed .. take the smallest".
use Rattle.std.specs.Prelude.{List, [], ◌++◌, ◌≡◌, Bool, true, false, ℕ, ◌+◌, length}
use Rattle.multisets.specs.Sorting.{Parted}
use Rattle.terms.specs.Signature.{Signature, symbol_of, IsSymbol}
use Rattle.terms.specs.Term.{Term, Terms, row, arguments}
use Rattle.terms.specs.Term.Term.{var, app}
use Rattle.terms.specs.Term.Terms.{nil, cons}
use Rattle.terms.specs.Bunch.{bunch_of}
use Rattle.terms.specs.Bunch.Bunch.{full}
use Rattle.terms.specs.Equivalence.{pair}
use Rattle.terms.specs.Order.{is_greater}
use Rattle.terms.specs.Rewriting.{Substitution, Expressions}

-- Each shared variable takes a part of the list that is not empty, joined under f, and the parts make up the list; what
-- is put for the others is given.
module _ (f : ℕ) (shared : ℕ → Bool) (τ : Substitution) where
  mutual
    pub data Filling : Term → List Term → Term → Type 0 where
      own : {x : ℕ} {t : Term} → shared x ≡ false → τ x ≡ t → Filling (var x) [] t
      taken : {x : ℕ} {l : List Term} {t : Term} → shared x ≡ true → bunch_of f l ≡ full t → Filling (var x) l t
      node : {g : ℕ} {ps ts : Terms} {l : List Term} → Fillings ps l ts → Filling (app g ps) l (app g ts)

    pub data Fillings : Terms → List Term → Terms → Type 0 where
      none : Fillings nil [] nil
      each : {p t : Term} {ps ts : Terms} {l m n : List Term} → Parted l m n → Filling p m t → Fillings ps n ts →
          Fillings (cons p ps) l (cons t ts)

module _ (σ : Signature) where
  -- Of two expressions the first is below the second or AC-equivalent to it.
  abbrev pub AtMost : Term → Term → Type 0
  AtMost s t = is_greater σ s t ≡ false

  -- Each symbol is one of the signature's, with as many arguments as its arity; any number stands for a variable.
  abbrev mutual
    pub Shaped : Term → Type 0
    Shaped (var x) = Unit {0}
    Shaped (app g ts) = IsSymbol σ g × (length (row ts) ≡ (symbol_of σ g).arity) × Shapeds ts

    pub Shapeds : Terms → Type 0
    Shapeds nil = Unit {0}
    Shapeds (cons t ts) = Shaped t × Shapeds ts

  -- Arguments before a row, with which it makes up those of g.
  abbrev pub Before : ℕ → List Term → Terms → Type 0
  Before g us ts = IsSymbol σ g × (length us + length (row ts) ≡ (symbol_of σ g).arity) × Expressions σ us

  -- As the last arguments of g, whichever come before them.
  abbrev pub RowAtMost : ℕ → Terms → Terms → Type 0
  RowAtMost g ss ts =
      (us : List Term) → Before g us ss → Before g us ts →
      AtMost (app g (arguments (us ++ row ss))) (app g (arguments (us ++ row ts)))

  module _ (f : ℕ) (shared : ℕ → Bool) (τ : Substitution) where
    abbrev pub LeastFilling : Term → List Term → Term → Type 0
    LeastFilling p l t = Filling f shared τ p l t × ((u : Term) → Filling f shared τ p l u → AtMost t u)

    abbrev pub LeastRow : ℕ → Terms → List Term → Terms → Type 0
    LeastRow g ps l ts = Fillings f shared τ ps l ts × ((us : Terms) → Fillings f shared τ ps l us → RowAtMost g ts us)

-- The first constant.
abbrev mutual
  pub leftmost : Term → Term
  leftmost (var x) = var x
  leftmost (app g ts) = leftmost_of (app g ts) ts

  pub leftmost_of : Term → Terms → Term
  leftmost_of t nil = t
  leftmost_of t (cons u us) = leftmost u

-- A shared variable, or such sums under f.
pub data SumOf (f : ℕ) (shared : ℕ → Bool) : Term → Type 0 where
  one : {x : ℕ} → shared x ≡ true → SumOf f shared (var x)
  two : {s t : Term} → SumOf f shared s → SumOf f shared t → SumOf f shared (app f (pair s t))
