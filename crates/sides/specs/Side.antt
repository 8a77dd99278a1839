-- What the answers of reading terms, a side and a rule stand for, and the words that are stored.
use Rattle.std.specs.Prelude.{◌≡◌, List, [], ◌∷◌, ◌++◌, ℕ, ◌+◌, ◌≤◌, length, take, Ok, Err}
use Rattle.std.proofs.lemmas.List.Edits.{sets}
use Rattle.terms.specs.Words.{first_variable}
use Rattle.terms.specs.FirstUse.{unused_after_all}
use Rattle.format.specs.Layout.{max_nodes}
use Rattle.format.specs.Reading.{Reading}
use Rattle.format.specs.Reading.Reading.{got, fault}
use Rattle.format.specs.Format.{Sides}
use Rattle.format.specs.Errors.{number_of}
use Rattle.answers.specs.Answer.{Answer, reading}

-- The answer to a reading of terms, the words before and after, where so many words stand before the nodes, and the
-- word of the lowest unused variable afterwards. A fault leaves open which words were stored before it, and that
-- variable.
abbrev pub ForestRead : ℕ → ℕ → List ℕ → Answer → List ℕ → ℕ → Reading (List ℕ) → Type 0
ForestRead unused count before answer after lowest (got nodes next) =
    (reading answer ≡ got (count + length nodes) next) × (count + length nodes ≤ max_nodes)
    × (after ≡ sets before count nodes) × (lowest ≡ first_variable + unused_after_all unused nodes)
ForestRead unused count before answer after lowest (fault code offset) = reading answer ≡ fault code offset

-- What was read as a side, the answer, which says how many words it has, and afterwards the words and the lowest unused
-- variable.
abbrev pub SideRead : ℕ → Reading (List ℕ) → Answer → List ℕ → ℕ → Type 0
SideRead unused r (Ok (count, next)) words used =
    (r ≡ got (take count words) next) × (used ≡ unused_after_all unused (take count words))
SideRead unused r (Err f) words used = r ≡ fault (number_of f.code) f.offset

-- What was read, the index of its words, the answer, and the words before and after: those that were read stand from
-- the index on, where there is room for all of them.
abbrev pub WordsRead : {A : Type 0} → (A → List ℕ) → Reading A → ℕ → List ℕ → Answer → List ℕ → Type 0
WordsRead {A} words_of r index before (Ok (end, next)) after =
    (a : A) × (r ≡ got a next) × (end ≡ index + length (words_of a))
    × (end ≤ length before → after ≡ sets before index (words_of a))
WordsRead words_of r index before (Err f) after = r ≡ fault (number_of f.code) f.offset

-- The same of a side, and the lowest unused variable afterwards.
abbrev pub SideStored : ℕ → Reading (List ℕ) → ℕ → List ℕ → Answer → List ℕ → ℕ → Type 0
SideStored unused r index before (Ok (end, next)) after used =
    (nodes : List ℕ) × (r ≡ got nodes next) × (end ≡ index + length nodes)
    × (end ≤ length before → after ≡ sets before index nodes) × (used ≡ unused_after_all unused nodes)
SideStored unused r index before (Err f) after used = r ≡ fault (number_of f.code) f.offset

abbrev pub side_words : Sides → List ℕ
side_words r = r.left ++ r.right

abbrev pub rules_words : List Sides → List ℕ
rules_words [] = []
rules_words (r ∷ rs) = side_words r ++ rules_words rs
