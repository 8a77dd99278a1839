-- Entries: what the stack has of a term, its root and a number of 32 bits that its fingerprint is made of.
use Rattle.std.specs.Prelude.{ℕ, ◌+◌, ◌*◌, cond, List, ◌∷◌, ◌==◌, take, drop}
use Rattle.terms.specs.Signature.{Signature, symbol_of}
use Rattle.terms.specs.Term.{Term, row, flattenings}
use Rattle.terms.specs.Term.Term.{var, app}
use Rattle.terms.specs.Words.{first_variable}
use Rattle.terms.specs.Fingerprint.{bag_factor, wrapped, in_row, in_bag, fingerprint}
use Rattle.subterms.specs.Parts.{root_word}
use Rattle.hashing.specs.declared.Entry.{Entry}

module _ (σ : Signature) where
  -- Of an AC symbol the sum of its multiset is kept, of others the fingerprint.
  abbrev pub kept_of : Term → ℕ
  kept_of (var x) = first_variable + x + 1
  kept_of (app f ts) =
      cond (symbol_of σ f).ac (wrapped (in_bag (fingerprint σ) (flattenings f ts)))
      (in_row (fingerprint σ) (f + 1) (row ts))

  abbrev pub term_entry : Term → Entry
  term_entry t = record { root = root_word t; kept = kept_of t }

  -- The fingerprint of the term that has the entry.
  abbrev pub fingerprint_in : Entry → ℕ
  fingerprint_in entry =
      cond (symbol_of σ entry.root).ac (wrapped (bag_factor * (entry.root + 1) + entry.kept)) entry.kept

  -- What that term adds to the sum of a multiset for f.
  abbrev pub added_in : ℕ → Entry → ℕ
  added_in f entry = cond (f == entry.root) entry.kept (fingerprint_in entry)

  -- What is kept of a node with the entries of its arguments.
  abbrev pub kept_by : ℕ → List Entry → ℕ
  kept_by word entries =
      cond (symbol_of σ word).ac (wrapped (in_bag (added_in word) entries)) (in_row fingerprint_in (word + 1) entries)

  -- The entries once a node has taken off those of its arguments and put its own.
  abbrev pub put_by : ℕ → List Entry → List Entry
  put_by word entries =
      record { root = word; kept = kept_by word (take (symbol_of σ word).arity entries) }
      ∷ drop (symbol_of σ word).arity entries
