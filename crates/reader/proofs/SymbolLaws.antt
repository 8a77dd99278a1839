-- Laws of reading the symbols.
--     taken_none, taken-put                the marks before the first symbol, and with one rank more
--     symbol-parts                         a symbol by its four fields, the last two with their tests
--     arity-unread, mark-unread, mark-refused, weight-unread, rank-unread     a symbol that is refused, by the answers
--                                          to its fields
--     symbols-fault, symbols-past          reading some symbols by reading one
--     symbols-done, symbols-headed         reading so many by a loop, and the header
--     table-unread, table-outranked, table-ranked     all symbols, by the first that is outranked
--     stored_same, stored_more, stored-none   what is stored of a packed file
use Rattle.std.specs.Prelude.{Result, Ok, Err}
use mathlib.Core.Path.{◌≡◌, refl, sym, ◌∙◌}
use mathlib.Core.List.{List, [], ◌∷◌, ◌++◌, map}
use mathlib.Core.Bool.{Bool, true, false, ◌||◌, not}
use Prim.Native.Nat.{ℕ, suc, ◌+◌, ◌-◌, ◌≤◌, ◌<◌}
use native.Mathlib.Omega.{arith}
use lib.ListN.{length, set, replicate, get_or-replicate}
use lib.Seq.{sets, get_or-set_same, get_or-set_other}
use lib.Dec.{eqb, leb}
use borrow.Author.Tests.{eqb-true, eqb-false, eq-eqb, ne_eqb}
use Rattle.multisets.proofs.Relations.{by_test}
use Rattle.multisets.proofs.ListLaws.{sets-append}
use Rattle.terms.specs.Signature.{Symbol}
use Rattle.format.specs.Errors.{ac_not_binary, weight_inadmissible, rank_taken}
use Rattle.format.specs.Layout.{form_number, arity_width, ac_width, weight_width, rank_width}
use Rattle.format.specs.Forms.{least_weight_in}
use Rattle.format.specs.Reading.{Reading, Reader, ◌>>=◌, ◌>>◌, give, here, require, Source}
use Rattle.format.specs.Reading.Reading.{got, fault}
use Rattle.format.specs.Symbols.{held_by, first_outranked, weight_offset, coefficients_in}
use Rattle.format.specs.Symbols.{symbol_reader, symbols_reader, symbol_table_reader}
use Rattle.format.specs.Packing.{item_word, symbol_items}
use Rattle.format.proofs.ReadingLaws.{and_then-same}
use Rattle.format.proofs.RankLaws.{outranked-le}
use Rattle.reader.specs.Source.{Input, Stored, tested}
use Rattle.reader.specs.Source.Input.{from_bytes, from_words}
use Rattle.symbols.specs.Table.{table_words, symbols_words}
use Rattle.symbols.proofs.EntryLaws.{entries-more}
use Rattle.answers.specs.Answer.{reading, Fault}
use Rattle.bits.specs.declared.BitCursor.{BitCursor}
use Rattle.reader.specs.Symbol.{TakenBy, SymbolsRead}
use Rattle.reader.proofs.SourceLaws.{tested-then}

not-true : (b : Bool) → not b ≡ true → b ≡ false
not-true false e = refl
not-true true e = sym e

pub not-false : (b : Bool) → not b ≡ false → b ≡ true
not-false true e = refl
not-false false e = sym e

-- ---- the marks

or-true : (b : Bool) → (b || true) ≡ true
or-true true = refl
or-true false = refl

or-false : (b : Bool) → (b || false) ≡ b
or-false true = refl
or-false false = refl

held-append : (ss : List Symbol) (s : Symbol) (rank : ℕ) →
    held_by (ss ++ (s ∷ [])) rank ≡ (held_by ss rank || eqb rank s.precedence)
held-append [] s rank = by_test (eqb rank s.precedence) (λ e. rw e) λ e. rw e
held-append (t ∷ ss) s rank =
    by_test (eqb rank t.precedence) (λ e. rw e) λ e. rw e (held-append ss s rank)

pub taken_none : TakenBy [] (replicate 256 false)
taken_none rank h = get_or-replicate 256 rank false false h

pub taken-put : (ss : List Symbol) (s : Symbol) (taken : List Bool) → length taken ≡ 256 → s.precedence < 256 →
    TakenBy ss taken → TakenBy (ss ++ (s ∷ [])) (set taken s.precedence true)
taken-put ss s taken n small h rank b =
    by_test (eqb rank s.precedence)
    (λ e.
    rw (
      held-append ss s rank,
      e,
      eqb-true rank s.precedence e,
      get_or-set_same taken s.precedence true false (omega
          arith),
    )
    (sym (or-true (held_by ss s.precedence))))
    λ e.
    rw (
      held-append ss s rank,
      e,
      get_or-set_other taken s.precedence rank true false (eqb-false rank s.precedence
          e),
      h rank b,
    )
    (sym (or-false (held_by ss rank)))

-- ---- reading

module _ (source : Source) (form w0 : ℕ) (earlier : List Symbol) where
  abbrev pub parts_reader : Reader Symbol
  parts_reader = do
    arity_offset ← here
    arity ← source.field arity_width
    ac ← source.field ac_width
    require (eqb ac 0 || eqb arity 2) ac_not_binary arity_offset
    weight ← tested source weight_width (leb (least_weight_in form w0 arity)) weight_inadmissible
    rank ← tested source rank_width (λ (rank : ℕ). not (held_by earlier rank)) rank_taken
    coefficients ← coefficients_in source form (eqb ac 1) arity
    give (record { arity = arity; ac = eqb ac 1; weight = weight; precedence = rank; coefficients = coefficients })

  pub symbol-parts : (at : ℕ) → symbol_reader source form w0 earlier at ≡ parts_reader at
  unfolding symbol_reader
  symbol-parts at =
      and_then-same (source.field arity_width at) _ _ λ arity n₁.
      and_then-same (source.field ac_width n₁) _ _ λ ac n₂.
      and_then-same (require (eqb ac 0 || eqb arity 2) ac_not_binary at n₂) _ _ λ u n.
      tested-then source weight_width (leb (least_weight_in form w0 arity)) weight_inadmissible n _
      ∙ and_then-same (tested source weight_width (leb (least_weight_in form w0 arity)) weight_inadmissible n) _ _ λ
      weight
      n₃.
      tested-then source rank_width (λ (rank : ℕ). not (held_by earlier rank)) rank_taken n₃ _

module _ (source : Source) (form w0 count number : ℕ) (more : number < count) (earlier : List Symbol)
    (at : ℕ) where
  abbrev whole : Reading (List Symbol)
  whole = symbols_reader source form w0 (count - number) earlier at

  pub symbols-fault : (code offset : ℕ) → symbol_reader source form w0 earlier at ≡ fault code offset →
      whole ≡ fault code offset
  unfolding symbols_reader
  symbols-fault code offset e =
      let n : count - number ≡ suc (count - (number + 1)) = omega arith in
      rw (n, e)

  pub symbols-past : (s : Symbol) (next : ℕ) → symbol_reader source form w0 earlier at ≡ got s next →
      whole ≡ symbols_reader source form w0 (count - (number + 1)) (earlier ++ (s ∷ [])) next
  unfolding symbols_reader
  symbols-past s next e =
      let n : count - number ≡ suc (count - (number + 1)) = omega arith in
      rw (n, e)

pub symbols-done : (source : Source) (form w0 n : ℕ) (ss : List Symbol) (at : ℕ) → n ≡ 0 →
    symbols_reader source form w0 n ss at ≡ got ss at
unfolding symbols_reader
symbols-done source form w0 n ss at e = rw e

module _ (source : Source) (form w0 count at : ℕ) where
  pub table-unread : (code offset : ℕ) → symbols_reader source form w0 count [] at ≡ fault code offset →
      symbol_table_reader source form w0 count at ≡ fault code offset
  unfolding symbol_table_reader
  table-unread code offset e = rw e

  module _ (ss : List Symbol) (next : ℕ) (e : symbols_reader source form w0 count [] at ≡ got ss next) (low : ℕ)
      (first : low ≡ first_outranked ss) where
    pub table-outranked : low < length ss → (offset : ℕ) → offset ≡ weight_offset source form at ss low →
        symbol_table_reader source form w0 count at ≡ fault weight_inadmissible offset
    unfolding symbol_table_reader
    table-outranked h offset o =
        rw (e, ← first, ne_eqb low (length ss) (λ p. omega arith), o)

    pub table-ranked : length ss ≤ low → symbol_table_reader source form w0 count at ≡ got ss next
    unfolding symbol_table_reader
    table-ranked h = rw (e, eq-eqb (first_outranked ss) (length ss) (omega (arith, outranked-le ss ss)))

-- The symbols are stored after the header.
pub symbols-headed : (bytes : List ℕ) (form count w0 rules : ℕ) (reading : Reading (List Symbol)) (r : Result
    (Bool × BitCursor) Fault)
    (ss : List Symbol) (table headed after : List ℕ) → headed ≡ sets table 0 (form ∷ count ∷ w0 ∷ rules ∷ []) →
    SymbolsRead reading (λ (ss : List Symbol). Stored (from_bytes bytes) 4 (symbols_words ss) headed after) r ss →
    SymbolsRead reading
    (λ (ss : List Symbol). Stored (from_bytes bytes) 0 (form ∷ count ∷ w0 ∷ rules ∷ symbols_words ss) table after) r ss
symbols-headed bytes form count w0 rules reading (Ok (weightless, next)) ss table headed after e (read, known, put) = (
  read,
  known,
  put ∙ rw e (sym (sets-append table 0 (form ∷ count ∷ w0 ∷ rules ∷ []) (symbols_words ss))),
)
symbols-headed bytes form count w0 rules reading (Err f) ss table headed after e read = read

pub stored_same : (input : Input) (index : ℕ) (words other before after : List ℕ) → words ≡ other →
    Stored input index words before after → Stored input index other before after
stored_same (from_bytes bytes) index words other before after e stored = rw e at stored
stored_same (from_words ws) index words other before after e stored = tt

-- The entries before are stored, and one more.
pub stored_more : (input : Input) (table before after : List ℕ) (n : ℕ) (ss : List Symbol) (s : Symbol) →
    n ≡ length ss → Stored input 4 (symbols_words ss) table before →
    Stored input (table_words n) (map item_word (symbol_items form_number s)) before after →
    Stored input 4 (symbols_words (ss ++ (s ∷ []))) table after
stored_more (from_bytes bytes) table before after n ss s e f g = entries-more table before after n ss s e f g
stored_more (from_words words) table before after n ss s e f g = tt

pub stored-none : (input : Input) (table : List ℕ) → Stored input 4 (symbols_words []) table table
stored-none (from_bytes bytes) table = refl
stored-none (from_words words) table = tt

-- ---- a symbol, by what its fields read

module _ (source : Source) (form w0 : ℕ) (earlier : List Symbol) (at : ℕ) where
  abbrev symbol : Reading Symbol
  symbol = symbol_reader source form w0 earlier at

  pub arity-unread : (code offset : ℕ) → fault code offset ≡ source.field arity_width at → symbol ≡ fault code offset
  arity-unread code offset e = symbol-parts source form w0 earlier at ∙ rw (sym e)

  module _ (arity n : ℕ) (e : got arity n ≡ source.field arity_width at) where
    pub mark-unread : (code offset : ℕ) → fault code offset ≡ source.field ac_width n → symbol ≡ fault code offset
    mark-unread code offset f = symbol-parts source form w0 earlier at ∙ rw (sym e, sym f)

    module _ (ac m : ℕ) (f : got ac m ≡ source.field ac_width n) (b : Bool) (binary : b ≡
        (eqb ac 0 || eqb arity 2)) where
      pub mark-refused : not b ≡ true → symbol ≡ fault ac_not_binary at
      mark-refused wrong =
          symbol-parts source form w0 earlier at ∙ rw (sym e, sym f, sym binary ∙ not-true b wrong)

      abbrev tested_weight : Reading ℕ
      tested_weight = tested source weight_width (leb (least_weight_in form w0 arity)) weight_inadmissible m

      pub weight-unread : not b ≡ false → (code offset : ℕ) → fault code offset ≡ tested_weight →
          symbol ≡ fault code offset
      weight-unread right code offset g =
          symbol-parts source form w0 earlier at
          ∙ rw (sym e, sym f, sym binary ∙ not-false b right, sym g)

      pub rank-unread : not b ≡ false → (weight o : ℕ) → got weight o ≡ tested_weight → (code offset : ℕ) →
          fault code offset ≡ tested source rank_width (λ (rank : ℕ). not (held_by earlier rank)) rank_taken o →
          symbol ≡ fault code offset
      rank-unread right weight o g code offset h =
          symbol-parts source form w0 earlier at
          ∙ rw (sym e, sym f, sym binary ∙ not-false b right, sym g, sym h)
