-- The ends of counting and listing, by what their inputs are.
--     size-range                                          the sizes that are not refused
--     count-refused, count-done                           counting under a signature
--     list-outside, list-more, list-short, list-none, list-ready, list_done     listing under a signature
--     book-refused, book-counted, book-unlisted, book-listed         the file, and then either
use mathlib.Core.List.{List, [], ◌∷◌, ◌++◌, flatten}
use mathlib.Core.Path.{◌≡◌, refl, sym, ap, ◌∙◌}
use mathlib.Core.Bool.{true, false, and-eq-true_iff as both}
use Prim.Native.Nat.{ℕ, ◌+◌, ◌-◌, ◌*◌, ◌≤◌, ◌<◌}
use native.Mathlib.Nat.{mul-zero, mul-le-mul}
use native.Mathlib.Omega.{arith}
use lib.Dec.{leb}
use lib.ListN.{length, take, drop, replicate}
use lib.Seq.{sets, sets-eq}
use Rattle.std.specs.Prelude.{Option, None}
use Rattle.enumerating.specs.declared.walk.Block.{Block}
use borrow.Author.Tests.{le-leb, lt-leb, leb-true}
use Rattle.multisets.proofs.Relations.{by_order}
use Rattle.terms.specs.Signature.{Signature}
use Rattle.terms.specs.Enumeration.{ground_terms}
use Rattle.terms.proofs.EnumerationLaws.{length-terms}
use Rattle.format.specs.Errors.{size_out_of_range, no_room_for_terms}
use Rattle.format.specs.Files.{read_bytes}
use Rattle.operations.specs.Replies.{Error, Reply, from_input, outcome}
use Rattle.operations.specs.Replies.Reply.{accepted, refused}
use Rattle.operations.specs.Enumerating.{is_size, term_count, counted_terms, counted, listed_terms, listed}
use Rattle.symbols.specs.Table.{signature_of}
use Rattle.inputs.specs.Inputs.{BookAt}
use Rattle.enumerating.specs.Counts.{capped, row_count}
use Rattle.enumerating.specs.Rows.{prefixed}
use Rattle.enumerating.specs.Walk.{Ready, Walked}
use Rattle.enumerating.proofs.RowLaws.{prefixed-nothing}
use Rattle.enumerating.proofs.BlockLaws.{blocks-none}

pub size-range : (n : ℕ) → is_size n ≡ true → (1 ≤ n) × (n ≤ 7)
size-range n e =
    let (h, l) = (both (leb 1 n) _).0 e in (leb-true 1 n h, leb-true n 7 l)

-- An error at offset 0.
abbrev at : ℕ → ℕ → Error
at code input = record { code = code; input = input; offset = 0 }

empty : {A : Type 0} (l : List A) → length l ≡ 0 → l ≡ []
empty [] e = refl
empty (a ∷ l) e = absurd (omega arith)

term-count : (number : ℕ) → term_count (capped number) ≡ term_count number
term-count number =
    by_order number 65536 (λ h. let e : capped number ≡ number = omega arith in ap term_count e)
    λ h. let e : capped number ≡ 65536 = omega arith in ap term_count e ∙ rw (lt-leb number 65535 (omega arith))

module _ (σ : Signature) (n : ℕ) where
  pub count-refused : is_size n ≡ false → refused (at size_out_of_range 0) ≡ counted_terms σ n
  unfolding counted_terms
  count-refused h = rw h

  pub count-done : is_size n ≡ true → (cell : ℕ) → cell ≡ row_count σ n 1 → (r : Option ℕ) → r ≡ term_count cell →
      accepted r ≡ counted_terms σ n
  unfolding counted_terms row_count
  count-done h cell c r e =
      rw h (ap accepted (e ∙ ap term_count c ∙ term-count (length (ground_terms σ n))))

  -- ---- listing

  module _ (words : List ℕ) where
    abbrev pub Gives : Reply ℕ → List ℕ → Type 0
    Gives r out =
        (r ≡ (outcome (listed_terms σ words n) words).reply) × (out ≡ (outcome (listed_terms σ words n) words).output)

    refuses : (e : Error) → listed_terms σ words n ≡ refused e → Gives (refused e) words
    refuses e d = rw d (refl, refl)

    pub list-outside : is_size n ≡ false → Gives (refused (at size_out_of_range 0)) words
    unfolding listed_terms
    list-outside h = refuses (at size_out_of_range 0) (rw h)

    module _ (h : is_size n ≡ true) (cell : ℕ) (c : cell ≡ row_count σ n 1) where
      pub list-more : 65535 < cell → Gives (refused (at no_room_for_terms 1)) words
      unfolding listed_terms row_count
      list-more m =
          refuses (at no_room_for_terms 1)
          (rw (h, lt-leb (length (ground_terms σ n)) 65535 (omega (arith, c))))

      module _ (m : cell ≤ 65535) where
        number : cell ≡ length (ground_terms σ n)
        unfolding row_count
        number = omega (arith, c)

        pub list-short : length words < n * cell → Gives (refused (at no_room_for_terms 1)) words
        unfolding listed_terms
        list-short s =
            refuses (at no_room_for_terms 1)
            (rw (
              h,
              le-leb (length (ground_terms σ n)) 65535 (omega (arith, number)),
              lt-leb (n * length (ground_terms σ n)) (length words) (rw number at s),
            ))

        pub list-none : cell ≡ 0 → Gives (accepted 0) words
        unfolding listed_terms flatten
        list-none z =
            let e : ground_terms σ n ≡ [] = empty (ground_terms σ n) (omega (arith, number)) in
            rw (h, e, mul-zero n, le-leb 0 (length words) (omega arith)) (refl, refl)

        module _ (s : n * cell ≤ length words) (row : List ℕ) (long : length row ≡ n) where
          front : prefixed (take (n - n) row) (ground_terms σ n) ≡ flatten (ground_terms σ n)
          front = let e : n - n ≡ 0 = omega arith in rw e (prefixed-nothing (ground_terms σ n))

          words_count : length (flatten (ground_terms σ n)) ≡ n * cell
          words_count = length-terms σ n ∙ ap (λ k. n * k) (sym number)

          pub list-ready : Ready σ (replicate 64 None) n 1 row (length row) words 0
          list-ready = rw long (record {
            known = blocks-none σ n words;
            many = refl;
            within = omega arith;
            small = (size-range n h).1;
            few = (size-range n h).0;
            owed = λ e. absurd (omega arith);
            long = long;
            room = omega (arith, ap length front, words_count);
            fits = omega (arith, ap length front, words_count, mul-le-mul (size-range n h).1 m);
          })

          pub list_done : (r : ℕ) (blocks : List (Option Block)) (row' out : List ℕ) → Walked σ n 1 row (length row) words 0 r blocks row' out →
              Gives (accepted r) out
          unfolding listed_terms
          list_done r blocks row' out w =
              let d : Walked σ n 1 row n words 0 r blocks row' out = rw long at w in
              let all = flatten (ground_terms σ n) in
              let k : r ≡ n * length (ground_terms σ n) =
              omega (arith, d.end, ap length front, words_count, ap (λ k. n * k) number) in
              let z : 0 + length all ≡ length all = omega arith in
              let o : out ≡ all ++ drop (length all) words =
              d.stored ∙ ap (sets words 0) front ∙ (rw z at (sets-eq all words 0 (omega (arith, words_count)))) in
              rw (
                h,
                le-leb (length (ground_terms σ n)) 65535 (omega (arith, number)),
                le-leb (n * length (ground_terms σ n)) (length words) (rw number at s),
              ) (ap accepted k, o)

-- ---- the file, and then either

module _ (bytes : List ℕ) (n : ℕ) where
  pub book-refused : (e : Error) → from_input 0 (read_bytes bytes) ≡ refused e → refused e ≡ counted bytes n
  unfolding counted
  book-refused e f = rw f

  module _ (table : List ℕ) (k : ℕ) (b : BookAt table (read_bytes bytes) k) where
    pub book-counted : (r : Reply (Option ℕ)) → r ≡ counted_terms (signature_of (take k table)) n → r ≡ counted bytes n
    unfolding counted
    book-counted r e = e ∙ rw (b.read, b.signature)

    pub book-listed : (words : List ℕ) (r : Reply ℕ) (out : List ℕ) →
        Gives (signature_of (take k table)) n words r out →
        (r ≡ (listed bytes words n).reply) × (out ≡ (listed bytes words n).output)
    unfolding listed
    book-listed words r out e = rw (b.read, ← b.signature) e

  pub book-unlisted : (words : List ℕ) (e : Error) → from_input 0 (read_bytes bytes) ≡ refused e →
      (refused e ≡ (listed bytes words n).reply) × (words ≡ (listed bytes words n).output)
  unfolding listed
  book-unlisted words e f = rw f (refl, refl)
