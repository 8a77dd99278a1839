-- The words of entries in a table, and in a sheet.
--     table-le, table_more, table-next, table-start, table-entries, table-some     how many words a table has
--     symbols-stand                      one symbol more that stands
--     symbols-put, scaled-put, form-put  one symbol more that was stored, without and with coefficients, and the form
--     signature-front                    the signature of a table's front part
--     length-symbols_words, entry-words   how many words the symbols take in a sheet, and those of an entry
--     entries-more                       the entries stored one by one
--     front-form, front-weight, front-words    form, w0, and all words, of a table where a sheet's front was stored
use mathlib.Core.Path.{◌≡◌, refl, sym, ap, ◌∙◌}
use mathlib.Core.List.{List, [], ◌∷◌, ◌++◌, map}
use mathlib.Core.Bool.{Bool, true, false}
use Prim.Native.Nat.{ℕ, suc, zero, ◌+◌, ◌-◌, ◌*◌, ◌/◌, ◌%◌, ◌^◌, ◌≤◌, ◌<◌}
use native.Mathlib.Nat.{add-zero}
use native.Mathlib.Numerals.{add-one}
use native.Mathlib.Omega.{arith}
use lib.ListN.{length, length-append, get_or, take, drop, get_or-append}
use lib.Dec.{eqb}
use lib.Seq.{sets, sets-eq, get_or-take, get_or-append-add, length-take-le, take-append_seam}
use Rattle.multisets.proofs.ListLaws.{sets-append}
use Rattle.terms.specs.Signature.{Symbol, Signature}
use Rattle.format.specs.Layout.{form_number}
use Rattle.format.specs.Packing.{item_word, symbol_items}
use Rattle.format.specs.Forms.{has_coefficients}
use Rattle.format.specs.Symbols.{ones}
use Rattle.symbols.specs.Table.{digits, scaled_words, symbol_in, symbols_in, form_of, symbols_at, signature_of}
use Rattle.symbols.specs.Table.{weight_of}
use Rattle.symbols.specs.Table.{table_words, max_table_words, symbols_words, front_words}

-- Words copied to the part of a list from an index on.
-- ---- in a table

pub table-le : (n : ℕ) → n < 256 → table_words n ≤ max_table_words
unfolding table_words
table-le n h = omega arith

pub table_more : (m n : ℕ) → m < n → table_words (m + 1) ≤ table_words n
unfolding table_words
table_more m n h = omega arith

pub table-next : (n : ℕ) → table_words (n + 1) ≡ table_words n + 1 + 1 + 1 + 1
unfolding table_words
table-next n = omega arith

pub table-start : table_words 0 ≡ 4
unfolding table_words
table-start = refl

pub table-entries : (n : ℕ) → table_words n ≡ 4 + 4 * n
unfolding table_words
table-entries n = refl

pub table-some : (n : ℕ) → 4 ≤ table_words n
unfolding table_words
table-some n = omega arith

module _ (scaled : Bool) where
  symbols-same : (l m : List ℕ) (n f : ℕ) →
      ((j : ℕ) → 3 < j → j < 4 * (f + n) + 4 → get_or l j 0 ≡ get_or m j 0) → symbols_in scaled l f n ≡ symbols_in scaled m
      f n
  symbols-same l m zero f h = refl
  symbols-same l m (suc n) f h =
      rw (
        h (4 * f + 4) (omega arith) (omega arith),
        h (4 * f + 5) (omega arith) (omega arith),
        h (4 * f + 6) (omega arith) (omega arith),
        h (4 * f + 7) (omega arith) (omega arith),
        symbols-same l m n (suc f) (λ j a b. h j a (omega arith)),
      )

  symbols-snoc : (l : List ℕ) (f n : ℕ) →
      symbols_in scaled l f (suc n) ≡ symbols_in scaled l f n ++ (symbol_in scaled l (f + n) ∷ [])
  symbols-snoc l f zero = rw add-zero
  symbols-snoc l f (suc n) =
      let e : suc f + n ≡ f + suc n = omega arith in
      ap (λ (ss : List Symbol). symbol_in scaled l f ∷ ss) (rw e at (symbols-snoc l (suc f) n))

  pub symbols-stand : (l : List ℕ) (n : ℕ) (s : Symbol) → symbol_in scaled l n ≡ s →
      symbols_in scaled l 0 (n + 1) ≡ symbols_in scaled l 0 n ++ (s ∷ [])
  symbols-stand l n s e =
      let z : 0 + n ≡ n = omega arith in
      rw (add-one n) (symbols-snoc l 0 n ∙ rw (z, e))

-- Words stored from an index on, and the words before them.
module _ (l : List ℕ) (i : ℕ) (vs : List ℕ) (h : i + length vs ≤ length l) where
  front : length (take i l) ≡ i
  front = length-take-le i l (omega arith)

  sets-at : (j k : ℕ) → j ≡ i + k → k < length vs → get_or (sets l i vs) j 0 ≡ get_or vs k 0
  sets-at j k e s =
      let here : get_or (take i l ++ vs) (i + k) 0 ≡ get_or vs k 0 = rw front at (get_or-append-add (take i l) vs k 0) in
      let inside : i + k < length (take i l ++ vs) = rw length-append (omega (arith, front)) in
      rw (sets-eq vs l i h, e) (get_or-append (take i l ++ vs) (drop (i + length vs) l) 0 (i + k) inside ∙ here)

  sets-before : (j : ℕ) → j < i → get_or (sets l i vs) j 0 ≡ get_or l j 0
  sets-before j s =
      let inside : j < length (take i l ++ vs) = rw length-append (omega (arith, front)) in
      rw (sets-eq vs l i h)
      (get_or-append (take i l ++ vs) (drop (i + length vs) l) 0 j inside
      ∙ get_or-append (take i l) vs 0 j (omega (arith, front)) ∙ get_or-take i l j 0 s)

-- The symbol of an entry's four words.
abbrev symbol_of_words : Bool → ℕ → ℕ → ℕ → ℕ → Symbol
symbol_of_words scaled a b c d = symbol_in scaled (0 ∷ 0 ∷ 0 ∷ 0 ∷ a ∷ b ∷ c ∷ d ∷ []) 0

module _ (table : List ℕ) (f : ℕ) (room : table_words (f + 1) ≤ length table) where
  words-put : (scaled : Bool) (a b c d : ℕ) →
      symbols_in scaled (sets table (table_words f) (a ∷ b ∷ c ∷ d ∷ [])) 0 (f + 1)
      ≡ symbols_in scaled table 0 f ++ (symbol_of_words scaled a b c d ∷ [])
  unfolding table_words
  words-put scaled a b c d =
      let vs : List ℕ = a ∷ b ∷ c ∷ d ∷ [] in
      let put : List ℕ = sets table (4 + 4 * f) vs in
      let at : (j k : ℕ) → j ≡ 4 + 4 * f + k → k < 4 → get_or put j 0 ≡ get_or vs k 0 =
      sets-at table (4 + 4 * f) vs (omega arith) in
      let before : symbols_in scaled put 0 f ≡ symbols_in scaled table 0 f =
      symbols-same scaled put table f 0 (λ j x y. sets-before table (4 + 4 * f) vs (omega arith) j (omega arith)) in
      let number : 0 + f ≡ f = omega arith in
      rw (add-one f)
      (symbols-snoc scaled put 0 f
      ∙ rw (
        before,
        number,
        at (4 * f + 4) 0 (omega arith) (omega arith),
        at (4 * f + 5) 1 (omega arith) (omega arith),
        at (4 * f + 6) 2 (omega arith) (omega arith),
        at (4 * f + 7) 3 (omega arith) (omega arith),
      ))

  pub form-put : (vs : List ℕ) → length vs ≡ 4 → form_of (sets table (table_words f) vs) ≡ form_of table
  unfolding table_words
  form-put vs n = sets-before table (4 + 4 * f) vs (omega arith) 0 (omega arith)

  module _ (arity ac weight rank : ℕ) (small : arity < 8) (mark : ac < 2) where
    pub symbols-put : symbols_in false (sets table (table_words f) (arity ∷ ac ∷ weight ∷ rank ∷ [])) 0 (f + 1)
        ≡ symbols_in false table 0 f
        ++ (record { arity = arity; ac = eqb ac 1; weight = weight; precedence = rank; coefficients = ones arity } ∷ [])
    symbols-put =
        let e : arity % 8 ≡ arity = omega arith in
        let m : ac % 2 ≡ ac = omega arith in
        words-put false arity ac weight rank ∙ rw (e, m)

    pub scaled-put : (row : ℕ) → row < 2 ^ 28 →
        symbols_in true (sets table (table_words f) (scaled_words arity ac weight rank row)) 0 (f + 1)
        ≡ symbols_in true table 0 f
        ++ (record {
          arity = arity;
          ac = eqb ac 1;
          weight = weight;
          precedence = rank;
          coefficients = digits arity row;
        } ∷ [])
    scaled-put row fits =
        let first : ℕ = 8 * (row / 32768) + arity in
        let second : ℕ = 2 * (row % 32768) + ac in
        let a : first % 8 ≡ arity = omega arith in
        let q : first / 8 ≡ row / 32768 = omega arith in
        let m : second % 2 ≡ ac = omega arith in
        let h : second / 2 ≡ row % 32768 = omega arith in
        let r : 32768 * (row / 32768) + row % 32768 ≡ row = omega arith in
        words-put true first second weight rank ∙ rw (a, q, m, h, r)

pub signature-front : (table : List ℕ) (n : ℕ) → table_words n ≤ length table →
    signature_of (take (table_words n) table) ≡ record { w0 = weight_of table; symbols = symbols_at table 0 n }
unfolding signature_of table_words
signature-front table n h =
    let front : List ℕ = take (4 + 4 * n) table in
    let scaled = has_coefficients (form_of table) in
    let count : (length front - 1) / 4 ≡ n = omega (arith, length-take-le (4 + 4 * n) table h) in
    let same : (j : ℕ) → j < 4 + 4 * n → get_or front j 0 ≡ get_or table j 0 =
    λ j b. get_or-take (4 + 4 * n) table j 0 b in
    rw (
      count,
      same 0 (omega arith),
      same 2 (omega arith),
      symbols-same scaled front table n 0 (λ j a b. same j (omega arith)),
    )

-- ---- in a sheet

pub length-symbols_words : (ss : List Symbol) → length (symbols_words ss) ≡ 4 * length ss
length-symbols_words [] = refl
length-symbols_words (s ∷ ss) = omega (arith, length-symbols_words ss)

symbols_words-snoc : (ss : List Symbol) (s : Symbol) →
    symbols_words (ss ++ (s ∷ [])) ≡ symbols_words ss ++ map item_word (symbol_items form_number s)
symbols_words-snoc [] s = refl
symbols_words-snoc (t ∷ ss) s =
    ap (λ (ws : List ℕ). map item_word (symbol_items form_number t) ++ ws) (symbols_words-snoc ss s)

pub entry-words : (arity ac weight rank : ℕ) (ks : List ℕ) → ac < 2 →
    let s : Symbol = record { arity = arity; ac = eqb ac 1; weight = weight; precedence = rank; coefficients = ks } in
    arity ∷ ac ∷ weight ∷ rank ∷ [] ≡ map item_word (symbol_items form_number s)
entry-words arity zero weight rank ks h = refl
entry-words arity (suc zero) weight rank ks h = refl
entry-words arity (suc (suc n)) weight rank ks h = absurd (omega arith)

-- ---- a sheet's front in a table

pub entries-more : (table before after : List ℕ) (n : ℕ) (ss : List Symbol) (s : Symbol) → n ≡ length ss →
    before ≡ sets table 4 (symbols_words ss) → after ≡ sets before (table_words n)
    (map item_word (symbol_items form_number s)) →
    after ≡ sets table 4 (symbols_words (ss ++ (s ∷ [])))
unfolding table_words
entries-more table before after n ss s e f g =
    let put = map item_word (symbol_items form_number s) in
    let i : 4 + 4 * n ≡ 4 + length (symbols_words ss) = omega (arith, length-symbols_words ss) in
    g ∙ rw (f, i, symbols_words-snoc ss s) (sym (sets-append table 4 (symbols_words ss) put))

module _ (table after : List ℕ) (form : ℕ) (σ : Signature) (rules : ℕ)
    (room : table_words (length σ.symbols) ≤ length table) (e : after ≡ sets table 0 (front_words form σ rules)) where
  fits : 0 + length (front_words form σ rules) ≤ length table
  unfolding table_words
  fits = omega (arith, length-symbols_words σ.symbols)

  pub front-form : form_of after ≡ form
  front-form = rw e (sets-at table 0 (front_words form σ rules) fits 0 0 refl (omega arith))

  pub front-weight : weight_of after ≡ σ.w0
  front-weight = rw e (sets-at table 0 (front_words form σ rules) fits 2 2 refl (omega arith))

  pub front-words : take (table_words (length σ.symbols)) after ≡ front_words form σ rules
  unfolding table_words
  front-words =
      let n : 4 + 4 * length σ.symbols ≡ length (front_words form σ rules) =
      omega (arith, length-symbols_words σ.symbols) in
      rw (e, sets-eq (front_words form σ rules) table 0 fits, n) (take-append_seam (front_words form σ rules) _)
