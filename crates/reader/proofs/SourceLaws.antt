-- Laws of the two sources.
--     read-packed, read-words    the two sources as the format has them
--     tested-fault, tested-less, tested-got, tested-field, tested-then     a field that is tested
--     source-short               a source has no more bytes than a file may have
--     field_fits                 a field that is read is within its width
--     reached-start, reached-field, reached-entry, reached-symbols     where fields end, and symbols, which fit
--     reached-le                 an offset of one of the first fields is no further than a file's bits
--     entry-stands, form-stands, w0-stands    what was read among words stands there
--     room-le, room-same, room-table    room for a table
use mathlib.Core.Path.{◌≡◌, refl}
use mathlib.Core.List.{List, [], ◌∷◌, flat_map}
use mathlib.Core.Bool.{Bool, true, false}
use Prim.Native.Nat.{ℕ, ◌+◌, ◌*◌, ◌%◌, ◌^◌, ◌≤◌, ◌<◌}
use native.Mathlib.Omega.{arith}
use lib.Dec.{eqb}
use lib.ListN.{length, get_or}
use Rattle.terms.specs.Signature.{Symbol}
use Rattle.format.specs.Layout.{form_number, arity_width, ac_width, weight_width, rank_width, max_bytes}
use Rattle.format.specs.Reading.{Reading, Reader, Source, and_then, require, bit_source, word_source}
use Rattle.format.specs.Reading.Reading.{got, fault}
use Rattle.format.specs.Symbols.{ones, symbols_reader}
use Rattle.format.specs.Files.{read_bytes_in, read_words}
use Rattle.format.specs.Forms.{has_coefficients}
use Rattle.format.specs.Packing.{item_word, symbol_items}
use Rattle.format.specs.Packing.Item.{field}
use Rattle.format.proofs.ReadingLaws.{holds-got}
use Rattle.format.proofs.SpellingLaws.{AllFit, spells→coded}
use Rattle.format.proofs.CodingLaws.{word-coding, bit-coding}
use Rattle.format.proofs.FormatLaws.{symbols-read}
use Rattle.symbols.specs.Table.{symbol_in, table_words}
use Rattle.symbols.proofs.EntryLaws.{table-next}
use Rattle.reader.specs.declared.source.Source as code
use Rattle.reader.specs.declared.source.Source.TheVariants.{Book, Sheet}
use Rattle.reader.specs.Source.{Input, input_of, source_of, bytes_of, Reached, InSheet, table_of, Room, tested}
use Rattle.reader.specs.Source.{read_source}
use Rattle.reader.specs.Source.Input.{from_bytes, from_words}

pub read-packed : (form : ℕ) (bytes : List ℕ) → read_source form (from_bytes bytes) ≡ read_bytes_in form bytes
unfolding read_source read_bytes_in source_of
read-packed form bytes = refl

pub read-words : (words : List ℕ) → read_source form_number (from_words words) ≡ read_words words
unfolding read_source read_words source_of
read-words words = refl

-- ---- a field that is tested

module _ (source : Source) (width : ℕ) (ok : ℕ → Bool) (error at : ℕ) where
  pub tested-fault : (code offset : ℕ) → source.field width at ≡ fault code offset →
      tested source width ok error at ≡ fault code offset
  unfolding tested
  tested-fault code offset e = rw e

  pub tested-less : (v next : ℕ) → source.field width at ≡ got v next → ok v ≡ false →
      tested source width ok error at ≡ fault error at
  unfolding tested
  tested-less v next e f = rw (e, f)

  pub tested-got : (v next : ℕ) → source.field width at ≡ got v next → ok v ≡ true →
      tested source width ok error at ≡ got v next
  unfolding tested
  tested-got v next e f = rw (e, f)

  pub tested-field : (v next : ℕ) → tested source width ok error at ≡ got v next →
      (source.field width at ≡ got v next) × (ok v ≡ true)
  unfolding tested
  tested-field v next e = go (source.field width at) refl e
    where
      tests : (w m : ℕ) (b : Bool) → ok w ≡ b → and_then (require b error at m) (λ _. got w) ≡ got v next →
          (got w m ≡ got v next) × (ok v ≡ true)
      tests w m true o p = let q : w ≡ v = cc in (p, rw q at o)
      tests w m false o p = let z : ◌≡◌ {A = ℕ} 0 1 = cc in absurd (omega arith)

      go : (r : Reading ℕ) → source.field width at ≡ r →
          and_then r (λ w m. and_then (require (ok w) error at m) (λ _. got w)) ≡ got v next →
          (r ≡ got v next) × (ok v ≡ true)
      go (got w m) f p = tests w m (ok w) refl p
      go (fault code offset) f p = let z : ◌≡◌ {A = ℕ} 0 1 = cc in absurd (omega arith)

  pub tested-then : {B : Type 0} (k : ℕ → Reader B) →
      and_then (source.field width at) (λ v next. and_then (require (ok v) error at next) (λ _. k v))
      ≡ and_then (tested source width ok error at) k
  unfolding tested
  tested-then k = go (source.field width at)
    where
      tests : (v next : ℕ) (b : Bool) →
          and_then (require b error at next) (λ _. k v) ≡ and_then (and_then (require b error at next) (λ _. got v)) k
      tests v next true = refl
      tests v next false = refl

      go : (r : Reading ℕ) → and_then r (λ v next. and_then (require (ok v) error at next) (λ _. k v))
          ≡ and_then (and_then r (λ v next. and_then (require (ok v) error at next) (λ _. got v))) k
      go (got v next) = tests v next (ok v)
      go (fault code offset) = refl

-- ---- where fields end

-- A source has no more bytes than a file may have.
pub source-short : (s : code.Source) → length (bytes_of (input_of s)) ≤ max_bytes
source-short (Book b) = b.short
source-short (Sheet words) = omega arith

pub field_fits : (input : Input) (width at v next : ℕ) →
    (source_of input).field width at ≡ got v next → v < 2 ^ width
unfolding source_of
field_fits (from_bytes bytes) width at v next e = ((bit-coding bytes).read→code (field width v) at next e).0
field_fits (from_words words) width at v next e = ((word-coding words).read→code (field width v) at next e).0

pub reached-start : (input : Input) → Reached input 0 0
unfolding Reached
reached-start (from_bytes bytes) = omega arith
reached-start (from_words words) = (refl, omega arith)

pub reached-le : (input : Input) (fields at : ℕ) → fields ≤ 8 * max_bytes →
    length (bytes_of input) ≤ max_bytes → Reached input fields at → at ≤ 8 * max_bytes
unfolding Reached
reached-le (from_bytes bytes) fields at few short h = omega arith
reached-le (from_words words) fields at few short h = omega arith

pub reached-field : (input : Input) (fields width at v next : ℕ) →
    Reached input fields at → (source_of input).field width at ≡ got v next →
    Reached input (fields + 1) next
unfolding source_of Reached
reached-field (from_bytes bytes) fields width at v next h e = ((bit-coding bytes).read→code (field width v) at next e).2
reached-field (from_words words) fields width at v next h e =
    let (f, n, l, a) = (word-coding words).read→code (field width v) at next e in
    (omega arith, l)

-- ---- what stands among words

word_stands : (words : List ℕ) (width at v next : ℕ) → (source_of (from_words words)).field width at ≡ got v next →
    get_or words at 0 ≡ v
unfolding source_of
word_stands words width at v next e = ((word-coding words).read→code (field width v) at next e).3.0

pub w0-stands : (input : Input) (width at v next : ℕ) → Reached input 2 at →
    (source_of input).field width at ≡ got v next → InSheet input (λ words. get_or words 2 0 ≡ v)
unfolding Reached
w0-stands (from_bytes bytes) width at v next h e = tt
w0-stands (from_words words) width at v next h e = rw h.0 at (word_stands words width at v next e)

pub form-stands : (input : Input) (width v next : ℕ) →
    (source_of input).field width 0 ≡ got v next → InSheet input (λ words. get_or words 0 0 ≡ v)
form-stands (from_bytes bytes) width v next e = tt
form-stands (from_words words) width v next e = word_stands words width 0 v next e

-- The four fields of a symbol.
module _ (input : Input) (number at arity n₁ ac n₂ weight n₃ rank n₄ : ℕ)
    (start : Reached input (table_words number) at)
    (e₁ : (source_of input).field arity_width at ≡ got arity n₁)
    (e₂ : (source_of input).field ac_width n₁ ≡ got ac n₂)
    (e₃ : (source_of input).field weight_width n₂ ≡ got weight n₃)
    (e₄ : (source_of input).field rank_width n₃ ≡ got rank n₄) where
  abbrev reach : (fields width at v next : ℕ) → Reached input fields at →
      (source_of input).field width at ≡ got v next → Reached input (fields + 1) next
  reach = reached-field input

  abbrev r₁ : Reached input (table_words number + 1) n₁
  r₁ = reach _ _ _ _ _ start e₁

  abbrev r₂ : Reached input (table_words number + 1 + 1) n₂
  r₂ = reach _ _ _ _ _ r₁ e₂

  abbrev r₃ : Reached input (table_words number + 1 + 1 + 1) n₃
  r₃ = reach _ _ _ _ _ r₂ e₃

  pub reached-entry : Reached input (table_words (number + 1)) n₄
  reached-entry = rw (table-next number) (reach _ _ _ _ _ r₃ e₄)

pub entry-stands : (input : Input) (number at arity n₁ ac n₂ weight n₃ rank n₄ : ℕ) →
    Reached input (table_words number) at →
    (source_of input).field arity_width at ≡ got arity n₁ → (source_of input).field ac_width n₁ ≡ got ac n₂ →
    (source_of input).field weight_width n₂ ≡ got weight n₃ → (source_of input).field rank_width n₃ ≡ got rank n₄ →
    InSheet input (λ words. symbol_in false words number
    ≡ record { arity = arity; ac = eqb ac 1; weight = weight; precedence = rank; coefficients = ones arity })
unfolding Reached table_words
entry-stands (from_bytes bytes) number at arity n₁ ac n₂ weight n₃ rank n₄ start e₁ e₂ e₃ e₄ = tt
entry-stands (from_words words) number at arity n₁ ac n₂ weight n₃ rank n₄ start e₁ e₂ e₃ e₄ =
    let reach = reached-field (from_words words) in
    let r₁ = reach _ _ _ _ _ start e₁ in
    let r₂ = reach _ _ _ _ _ r₁ e₂ in
    let r₃ = reach _ _ _ _ _ r₂ e₃ in
    let small : arity % 8 ≡ arity = omega (arith, field_fits (from_words words) _ _ _ _ e₁) in
    let mark : ac % 2 ≡ ac = omega (arith, field_fits (from_words words) _ _ _ _ e₂) in
    let a₁ : 4 * number + 4 ≡ at = omega (arith, start.0) in
    let a₂ : 4 * number + 5 ≡ n₁ = omega (arith, r₁.0) in
    let a₃ : 4 * number + 6 ≡ n₂ = omega (arith, r₂.0) in
    let a₄ : 4 * number + 7 ≡ n₃ = omega (arith, r₃.0) in
    rw (
      a₁,
      a₂,
      a₃,
      a₄,
      word_stands words _ at arity n₁ e₁,
      word_stands words _ n₁ ac n₂ e₂,
      word_stands words _ n₂ weight n₃ e₃,
      word_stands words _ n₃ rank n₄ e₄,
      small,
      mark,
    )

-- ---- room

pub room-le : (input : Input) (m n : ℕ) (table : List ℕ) → m ≤ n → Room input n table → Room input m table
room-le (from_bytes bytes) m n table h r = omega arith
room-le (from_words words) m n table h r = tt

pub room-same : (input : Input) (n : ℕ) (table other : List ℕ) → length other ≡ length table → Room input n table →
    Room input n other
room-same (from_bytes bytes) n table other e r = omega arith
room-same (from_words words) n table other e r = tt

pub room-table : (input : Input) (table : List ℕ) (n at : ℕ) → Room input n table →
    Reached input n at → n ≤ length (table_of input table)
unfolding Reached
room-table (from_bytes bytes) table n at r h = r
room-table (from_words words) table n at r h = omega arith

-- A symbol takes four words.
length-coded : (form : ℕ) → has_coefficients form ≡ false → (ss : List Symbol) →
    length (flat_map (λ i. item_word i ∷ []) (flat_map (symbol_items form) ss))
    ≡ 4 * length ss
unfolding flat_map
length-coded form none [] = refl
length-coded form none (s ∷ ss) = rw none (omega (arith, length-coded form none ss))

pub reached-symbols : (input : Input) (fields form w0 n at : ℕ) → has_coefficients form ≡ false →
    (ss : List Symbol) (next : ℕ) → Reached input fields at →
    symbols_reader (source_of input) form w0 n [] at ≡ got ss next →
    Reached input (fields + 4 * n) next × AllFit (flat_map (symbol_items form) ss)
unfolding source_of Reached
reached-symbols (from_bytes bytes) fields form w0 n at none ss next h e =
    let (all, same, count, oks, spelt) =
    holds-got _ _ ss next (symbols-read (bit_source bytes) (field_fits (from_bytes bytes)) form w0 n [] at) e in
    let (fit, ends, last, agree) = spells→coded (bit-coding bytes) spelt h in (last, rw same fit)
reached-symbols (from_words words) fields form w0 n at none ss next h e =
    let (all, same, count, oks, spelt) =
    holds-got _ _ ss next (symbols-read (word_source words) (field_fits (from_words words)) form w0 n [] at) e in
    let (fit, ends, last, agree) = spells→coded (word-coding words) spelt h.1 in
    ((omega (arith, length-coded form none all), last), rw same fit)
