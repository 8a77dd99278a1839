-- The key of a term: its size, the word of its root and a hash, in one number. AC-equivalent terms have equal keys.
use Rattle.std.specs.Prelude.{List, ◌≡◌, Bool, cond, ℕ, suc, zero, ◌+◌, ◌*◌, ◌/◌, ◌%◌, ◌≤◌, ◌<◌, eqb, length, get_or}
use Rattle.terms.specs.Signature.{Signature, symbol_of, AcBinary}
use Rattle.terms.specs.Term.{Term, Terms, size}
use Rattle.terms.specs.Term.Term.{var, app}
use Rattle.terms.specs.Term.Terms.{nil, cons}
use Rattle.symbols.specs.Table.{signature_of}
use Rattle.subterms.specs.Parts.{root_word, Complete, part_at}

-- 32 bits from the middle of the square.
unfoldable pub middle_square : ℕ → ℕ
middle_square x = x * x / 65536 % 4294967296

-- A hash from the word of a root and the hash of its arguments.
abbrev pub mixed : ℕ → ℕ → ℕ
mixed word hash = middle_square ((hash + (word + 1) * 2654435769) % 4294967296)

-- What an argument with that root and hash adds to what stands before it, under the symbol f: an AC symbol's own
-- flattening is summed up, and the arguments of another symbol count by their order.
unfoldable pub added : Bool → ℕ → ℕ → ℕ → ℕ → ℕ
added ac f before word hash =
    cond ac ((before + cond (eqb word f) hash (mixed word hash)) % 4294967296)
    ((31 * before + mixed word hash) % 4294967296)

module _ (σ : Signature) where
  unfoldable mutual
    pub hash : Term → ℕ
    hash (var x) = 0
    hash (app f ts) = hashes f ts 0

    pub hashes : ℕ → Terms → ℕ → ℕ
    hashes f nil before = before
    hashes f (cons t ts) before = hashes f ts (added (symbol_of σ f).ac f before (root_word t) (hash t))

  abbrev pub key_of : Term → ℕ
  key_of t = 16777216 * hash t + 256 * root_word t + size t

  -- keys has the key of the term that starts at each offset from i on.
  abbrev pub KeyedFrom : List ℕ → List ℕ → ℕ → Type 0
  KeyedFrom ws keys i = (k : ℕ) → i ≤ k → k < length ws → get_or keys k 0 ≡ key_of (part_at σ ws k)

  pub record Prepared (ws keys : List ℕ) : Type 0 where
    pub complete : Complete σ ws
    pub short : length ws ≤ 128
    pub room : length ws ≤ length keys
    pub keyed : KeyedFrom ws keys 0

-- What both sides of a comparison are.
pub record BothPrepared (table s skeys t tkeys : List ℕ) : Type 0 where
  pub small : length table ≤ 1025
  pub binary : AcBinary (signature_of table)
  pub left : Prepared (signature_of table) s skeys
  pub right : Prepared (signature_of table) t tkeys

-- The size of the term at an offset, by its key.
abbrev pub size_in : List ℕ → ℕ → ℕ
size_in keys i = get_or keys i 0 % 256

-- The offset after n terms at i, by their keys.
abbrev pub offset_after : List ℕ → ℕ → ℕ → ℕ
offset_after keys i zero = i
offset_after keys i (suc n) = offset_after keys (i + size_in keys i) n

-- What those terms add, as arguments of f, to what stands before them.
module _ (ac : Bool) (f : ℕ) (ws keys : List ℕ) where
  abbrev pub hash_after : ℕ → ℕ → ℕ → ℕ
  hash_after before i zero = before
  hash_after before i (suc n) = hash_after (added ac f before (get_or ws i 0) (get_or keys i 0 / 16777216))
      (i + size_in keys i) n
