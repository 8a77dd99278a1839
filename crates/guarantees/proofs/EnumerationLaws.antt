-- Counting and listing by the enumeration of ground terms.
--     reads-back                                  the words of the terms read as those terms
--     counts-number, counts-more, lists-terms     what each replies and writes
use Rattle.std.specs.Prelude.{Some, None}
use mathlib.Core.List.{List, [], ◌∷◌, ◌++◌, map, flatten, Memᴰ}
use mathlib.Core.Path.{◌≡◌, refl, ap}
use Prim.Native.Nat.{ℕ, ◌*◌, ◌≤◌, ◌<◌}
use lib.ListN.{length, drop}
use borrow.Author.Tests.{le-leb, lt-leb}
use Rattle.terms.specs.Signature.{Signature}
use Rattle.terms.specs.Words.{first_variable, words, forest_of}
use Rattle.terms.specs.Enumeration.{ground_terms}
use Rattle.terms.specs.EnumerationStatements.{Spelled}
use Rattle.terms.proofs.WordsLaws.{forest_of-words}
use Rattle.terms.proofs.EnumerationLaws.{length-terms, spelled-term}
use Rattle.format.specs.Reading.Reading.{got}
use Rattle.format.specs.Format.{RuleFile}
use Rattle.format.specs.Files.{read_bytes}
use Rattle.operations.specs.Replies.Reply.{accepted}
use Rattle.operations.specs.Enumerating.{max_size, max_terms, counted_terms, counted, listed_terms, listed}

module _ (σ : Signature) (few : length σ.symbols ≤ first_variable) (n : ℕ) where
  rows-read : (rows : List (List ℕ)) → ((ws : List ℕ) → Memᴰ ws rows → Spelled σ n ws) →
      map words (forest_of σ (flatten rows)) ≡ rows
  unfolding flatten forest_of
  rows-read [] s = refl
  rows-read (ws ∷ rows) s =
      let r = s ws (Memᴰ.head refl) in
      rw (r.spelled, forest_of-words σ few r.term r.expression.0 (flatten rows))
      (ap (λ l. words r.term ∷ l) (rows-read rows λ vs m. s vs (Memᴰ.tail m)))

  pub reads-back : map words (forest_of σ (flatten (ground_terms σ n))) ≡ ground_terms σ n
  reads-back = rows-read (ground_terms σ n) (spelled-term σ n)

module _ (bytes : List ℕ) (file : RuleFile) (end : ℕ) (r : read_bytes bytes ≡ got file end) (n : ℕ) (h : 1 ≤ n)
    (l : n ≤ max_size) where
  abbrev terms : List (List ℕ)
  terms = ground_terms file.signature n

  pub counts-number : length terms ≤ max_terms → counted bytes n ≡ accepted (Some (length terms))
  unfolding counted counted_terms
  counts-number k = rw (r, le-leb 1 n h, le-leb n max_size l, le-leb (length terms) max_terms k)

  pub counts-more : max_terms < length terms → counted bytes n ≡ accepted None
  unfolding counted counted_terms
  counts-more k = rw (r, le-leb 1 n h, le-leb n max_size l, lt-leb (length terms) max_terms k)

  pub lists-terms : (words : List ℕ) → length terms ≤ max_terms → n * length terms ≤ length words → listed bytes words n
      ≡ record { reply = accepted (n * length terms); output = flatten terms ++ drop (n * length terms) words }
  unfolding listed listed_terms
  lists-terms words k m =
      rw (
        r,
        le-leb 1 n h,
        le-leb n max_size l,
        le-leb (length terms) max_terms k,
        le-leb (n * length terms) (length words) m,
        length-terms file.signature n,
      )
