-- Keys: AC-equivalent terms have the same, and a key tells the size, the root and the hash of its term.
--     hash-resp-equivalent, key-of-equivalent   AC-equivalent terms have one hash, and one key
--     key-size, key-hash                        what a key tells
--     hash_after-parts                           the hash by the keys of the arguments
use mathlib.Core.Path.{◌≡◌, refl, sym, ◌∙◌}
use mathlib.Core.Bool.{true, cond}
use Prim.Native.Nat.{ℕ, ◌+◌, ◌%◌}
use native.Mathlib.Omega.{arith}
use native.Mathlib.Nat.{add_assoc, zero-add}
use lib.Dec.{eqb}
use Rattle.terms.specs.Signature.{Signature, symbol_of}
use Rattle.terms.specs.Term.{Term, Terms}
use Rattle.terms.specs.Term.Term.{app}
use Rattle.terms.specs.Equivalence.{Equivalent, Equivalents, pair}
use Rattle.terms.specs.Equivalence.Equivalent.{same, back, then, under, exchange, regroup}
use Rattle.terms.specs.Equivalence.Equivalents.{none, each}
use Rattle.terms.proofs.EquivalenceMeasures.{plain-resp-equivalent}
use Rattle.multisets.proofs.Relations.{eqb-self}
use Rattle.subterms.specs.Parts.{root_word}
use Rattle.equivalence.specs.Keys.{mixed, added, hash, hashes, key_of}

-- ---- AC-equivalent terms

-- What an argument adds for an AC symbol.
abbrev part : ℕ → ℕ → ℕ → ℕ
part f word hash = cond (eqb word f) hash (mixed word hash)

added-ac : (f before word hash : ℕ) → added true f before word hash ≡ (before + part f word hash) % 4294967296
unfolding added
added-ac f before word hash = refl

sum_left : (a b : ℕ) → (a % 4294967296 + b) % 4294967296 ≡ (a + b) % 4294967296
sum_left a b = omega arith

sum-right : (a b : ℕ) → (a + b % 4294967296) % 4294967296 ≡ (a + b) % 4294967296
sum-right a b = omega arith

regrouped : (a b c : ℕ) → ((0 + ((0 + a) % 4294967296 + b) % 4294967296) % 4294967296 + c) % 4294967296
    ≡ ((0 + a) % 4294967296 + ((0 + b) % 4294967296 + c) % 4294967296) % 4294967296
regrouped a b c = simp (zero-add, sum_left, sum-right) (rw add_assoc)

module _ (σ : Signature) where
  root_word-resp-equivalent : {s t : Term} → Equivalent σ s t → root_word s ≡ root_word t
  root_word-resp-equivalent same = refl
  root_word-resp-equivalent (back d) = sym (root_word-resp-equivalent d)
  root_word-resp-equivalent (then d e) = root_word-resp-equivalent d ∙ root_word-resp-equivalent e
  root_word-resp-equivalent (under d) = refl
  root_word-resp-equivalent (exchange a) = refl
  root_word-resp-equivalent (regroup a) = refl

  module _ (f : ℕ) (a : (symbol_of σ f).ac ≡ true) where
    hash-pair : (s t : Term) → hash σ (app f (pair s t))
        ≡ ((0 + part f (root_word s) (hash σ s)) % 4294967296 + part f (root_word t) (hash σ t)) % 4294967296
    unfolding hash
    hash-pair s t = rw (a, added-ac, added-ac)

  mutual
    unfolding hash

    pub hash-resp-equivalent : {s t : Term} → Equivalent σ s t → hash σ s ≡ hash σ t
    hash-resp-equivalent same = refl
    hash-resp-equivalent (back d) = sym (hash-resp-equivalent d)
    hash-resp-equivalent (then d e) = hash-resp-equivalent d ∙ hash-resp-equivalent e
    hash-resp-equivalent (under {f} d) = hashes-resp-equivalents d f 0
    hash-resp-equivalent (exchange {f} {s} {t} a) = hash-pair f a s t ∙ omega arith ∙ sym (hash-pair f a t s)
    hash-resp-equivalent (regroup {f} {s} {t} {u} a) =
        hash-pair f a (app f (pair s t)) u
        ∙ rw (eqb-self f, hash-pair f a s t, hash-pair f a t u) (regrouped _ _ _)
        ∙ sym (hash-pair f a s (app f (pair t u)))

    hashes-resp-equivalents : {ss ts : Terms} → Equivalents σ ss ts → (f before : ℕ) →
        hashes σ f ss before ≡ hashes σ f ts before
    hashes-resp-equivalents none f before = refl
    hashes-resp-equivalents (each {s} {t} d r) f before =
        rw (hash-resp-equivalent d, root_word-resp-equivalent d) (hashes-resp-equivalents r f _)

  pub key-of-equivalent : {s t : Term} → Equivalent σ s t → key_of σ s ≡ key_of σ t
  key-of-equivalent d =
      rw (hash-resp-equivalent d, root_word-resp-equivalent d, plain-resp-equivalent σ (λ x. 1) (λ f. 1) d)
