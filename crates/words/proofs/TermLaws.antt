-- Laws of reading terms from words.
--     before-stop, past_end, fewer-left, some-owed, all-allowed, none_left    where reading stops
--     terms-none, terms-refused               no term, no node allowed
--     terms-missing, terms-wide, terms-unknown, terms-out    a word that is missing, too wide, no symbol, out of turn
--     node-faulty, node-good, terms-ended     a node by its error, and reading that stops before it
--     terms-node                              a node, then the terms owed after it
--     terms-end                               the words read are no more than the nodes allowed
--     forest-front                            the nodes read are words in a row
--     front-fault, front-whole, front_read, front-longer   the term at the front
use Rattle.std.specs.Prelude.{Ok, Err}
use mathlib.Core.List.{List, ◌∷◌}
use mathlib.Core.Path.{◌≡◌, refl, sym, ap}
use mathlib.Core.Bool.{cond, ◌||◌}
use Prim.Native.Nat.{ℕ, suc, zero, min, ◌+◌, ◌-◌, ◌≤◌, ◌<◌}
use native.Mathlib.Numerals.{add-one}
use native.Mathlib.Omega.{arith}
use lib.ListN.{length, get_or, take, drop}
use lib.Seq.{drop-cons}
use lib.Dec.{eqb, leb, ltb}
use borrow.Author.Tests.{lt-ltb, le-ltb, lt-leb, le-leb, ltb-true, eq-eqb, ne_eqb, eqb-true, eqb-false}
use Rattle.multisets.proofs.Relations.{by_test, by_order}
use Rattle.terms.specs.Signature.{Signature, symbol_of}
use Rattle.terms.specs.Words.{first_variable}
use Rattle.terms.specs.FirstUse.{unused_after, unused_after_all}
use Rattle.format.specs.Errors.{number_of, field_missing, no_such_symbol, too_many_nodes, word_too_wide, words_left_over, variable_out_of_turn}
use Rattle.format.specs.Layout.{max_nodes}
use Rattle.format.specs.Reading.{Reading, Node, word_source, word_below}
use Rattle.format.specs.Reading.Reading.{got, fault}
use Rattle.format.specs.Forms.{all_used}
use Rattle.format.specs.Format.{forest_reader, nodes_reader, side_reader}
use Rattle.format.specs.Statements.{Unscaled}
use Rattle.format.proofs.LightLaws.{unscaled-side}
use Rattle.format.specs.Files.{read_first_term, read_term}
use Rattle.format.proofs.ForestLaws.{before, nothing-owed, none_allowed, node-fault, out-of-turn}
use Rattle.format.proofs.SideLaws.{forest-short}
use Rattle.symbols.specs.Arities.{Arities}
use Rattle.format.specs.declared.ErrorCode.{ErrorCode}
use Rattle.format.specs.declared.ErrorCode.TheVariants.{TooManyNodes, FieldMissing, WordTooWide, NoSuchSymbol, VariableOutOfTurn}
use Rattle.answers.specs.Answer.{answered, end_of}
use Rattle.answers.proofs.CellLaws.{node-read, node-unknown}
use Rattle.words.specs.declared.Extent.{Extent}
use Rattle.words.specs.declared.Extent.TheVariants as extent
use Rattle.words.specs.Terms.{node_check, reader_of}

-- ---- reading terms node by node

-- Where reading stops, at the limit or at the end of the words.
module _ (at limit long stop : ℕ) (e : stop ≡ min limit long) where
  pub before-stop : at < stop → (at < long) × (0 < limit - at) × (at + 1 ≤ limit) × (limit - (at + 1) ≡ limit - at - 1)
  before-stop h = omega arith

  pub past_end : stop ≤ at → at ≤ limit → (at ≡ limit → ⊥) → (long ≤ at) × (0 < limit - at)
  past_end h l n = omega arith

pub fewer-left : (at limit t : ℕ) → 0 < limit - at → limit - at ≡ t → limit - (at + 1) < t
fewer-left at limit t h e = omega arith

pub some-owed : (n : ℕ) → (n ≡ 0 → ⊥) → 0 < n
some-owed n h = omega arith

pub all-allowed : (at most : ℕ) → at + most - at ≡ most
all-allowed at most = omega arith

pub none_left : (at limit : ℕ) → at ≡ limit → limit - at ≡ 0
none_left at limit e = omega arith

-- The answer to reading from words: the lowest unused variable after them, and the end.
abbrev read : List ℕ → Signature → ℕ → ℕ → ℕ → ℕ → Reading ℕ
read words σ unused a n at = answered (unused_after_all unused) (forest_reader (word_source words) unused σ a n at)

answered-before : (unused w : ℕ) (r : Reading (List ℕ)) →
    answered (unused_after_all unused) (before w r) ≡ answered (unused_after_all (unused_after unused w)) r
answered-before unused w (got ws at) = refl
answered-before unused w (fault code offset) = refl

module _ (words : List ℕ) (unused : ℕ) (σ : Signature) where
  pub terms-none : (a n at v : ℕ) → n ≡ 0 → v ≡ unused → got v at ≡ read words σ unused a n at
  terms-none a n at v e u = rw (e, u, nothing-owed (word_source words) unused σ a at)

  pub terms-refused : (a n at : ℕ) → a ≡ 0 → 0 < n → fault too_many_nodes at ≡ read words σ unused a n at
  terms-refused a n at e h = rw (e, none_allowed (word_source words) unused σ n at h)

  module _ (a n at : ℕ) (ha : 0 < a) (hn : 0 < n) where
    pub terms-missing : length words ≤ at → fault field_missing at ≡ read words σ unused a n at
    unfolding word_below
    terms-missing h =
        rw (node-fault (word_source words) unused σ a n at ha hn field_missing at (rw (le-ltb at (length words) h)))

    module _ (i : at < length words) where
      pub terms-wide : 272 ≤ get_or words at 0 → fault word_too_wide at ≡ read words σ unused a n at
      unfolding word_below
      terms-wide h =
          rw (node-fault (word_source words) unused σ a n at ha hn word_too_wide at
          (rw (lt-ltb at (length words) i, le-ltb (get_or words at 0) 272 h)))

      module _ (small : get_or words at 0 < 272) (cells : List ℕ) (table : Arities σ cells) where
        abbrev here : Node
        here = record { word = get_or words at 0; offset = at }

        node-here : (word_source words).node at ≡ got here (at + 1)
        unfolding word_below
        node-here = rw (lt-ltb at (length words) i, lt-ltb (get_or words at 0) 272 small)

        pub terms-unknown : get_or cells (get_or words at 0) 0 ≡ 0 → fault no_such_symbol at ≡ read words σ unused a n at
        terms-unknown none =
            rw (node-unknown (word_source words) unused σ cells table a n at ha hn here (at + 1) node-here small none)

        pub terms-out : first_variable + unused < get_or words at 0 →
            fault variable_out_of_turn at ≡ read words σ unused a n at
        terms-out h = rw (out-of-turn (word_source words) unused σ a n at ha hn here (at + 1) node-here h)

        pub terms-node : 0 < get_or cells (get_or words at 0) 0 → get_or words at 0 ≤ first_variable + unused →
            (owed : ℕ) → owed ≡ get_or cells (get_or words at 0) 0 - 1 + (n - 1) →
            read words σ (unused_after unused (get_or words at 0)) (a - 1) owed (at + 1) ≡ read words σ unused a n at
        terms-node some turn owed f =
            rw (
              f,
              node-read (word_source words) unused σ cells table a n at ha hn here (at + 1) node-here small some turn,
            ) (sym (answered-before unused (get_or words at 0) (forest_reader (word_source words)
            (unused_after unused (get_or words at 0)) σ (a - 1) (get_or cells (get_or words at 0) 0 - 1 + (n - 1)) (at + 1))))

      -- The error of a node, and what holds where there is none.
      module _ (cells : List ℕ) (table : Arities σ cells) (lowest : ℕ) (u : lowest ≡ first_variable + unused) where
        abbrev w : ℕ
        w = get_or words at 0

        pub node-faulty : (code : ErrorCode) → node_check cells lowest w ≡ Err code →
            fault (number_of code) at ≡ read words σ unused a n at
        node-faulty code c =
            by_order w 272
            (λ small. by_test (eqb (get_or cells w 0) 0)
            (λ z. let e : Err NoSuchSymbol ≡ Err code = rw (lt-leb 272 w small, z) at c in
            let f : NoSuchSymbol ≡ code = cc in
            rw (← f) (terms-unknown small cells table (eqb-true (get_or cells w 0) 0 z)))
            λ z. by_order lowest w
            (λ out. let e : Err VariableOutOfTurn ≡ Err code = rw (lt-leb 272 w small, z, lt-ltb lowest w out) at c in
            let f : VariableOutOfTurn ≡ code = cc in
            rw (← f) (terms-out small cells table (omega arith)))
            λ turn. let e : Ok tt ≡ Err code = rw (lt-leb 272 w small, z, le-ltb lowest w turn) at c in absurd (cc))
            λ wide. let e : Err WordTooWide ≡ Err code = rw (le-leb 272 w wide) at c in
            let f : WordTooWide ≡ code = cc in
            rw (← f) (terms-wide wide)

-- Reading that stops before a node.
pub terms-ended : (words : List ℕ) (unused : ℕ) (σ : Signature) (limit n at stop : ℕ) → stop ≡ min limit
    (length words) →
    stop ≤ at → at ≤ limit → 0 < n → (code : ErrorCode) → code ≡ cond (eqb at limit) TooManyNodes FieldMissing →
    fault (number_of code) at ≡ read words σ unused (limit - at) n at
terms-ended words unused σ limit n at stop e h l hn code c =
    by_test (eqb at limit)
    (λ z. rw (c, z) (terms-refused words unused σ (limit - at) n at
    (none_left at limit (eqb-true at limit z)) hn))
    λ z. let (ends, some) = past_end at limit (length words) stop e h l (eqb-false at limit z) in
    rw (c, z) (terms-missing words unused σ (limit - at) n at some hn ends)

-- A node word without an error.
pub node-good : (cells : List ℕ) (lowest w : ℕ) → node_check cells lowest w ≡ Ok tt →
    (w < 272) × (0 < get_or cells w 0) × (w ≤ lowest)
node-good cells lowest w e =
    by_order w 272
    (λ small. by_test (eqb (get_or cells w 0) 0)
    (λ z. let d : Err NoSuchSymbol ≡ Ok tt = rw (lt-leb 272 w small, z) at e in absurd (cc))
    λ z. let some = eqb-false (get_or cells w 0) 0 z in
    by_order lowest w
    (λ out. let d : Err VariableOutOfTurn ≡ Ok tt = rw (lt-leb 272 w small, z, lt-ltb lowest w out) at e in absurd (cc))
    λ turn. (small, omega (arith, some), turn))
    λ wide. let d : Err WordTooWide ≡ Ok tt = rw (le-leb 272 w wide) at e in absurd (cc)

-- ---- the nodes are words in a row

-- The words read stand in a row from an offset on.
abbrev pub Front : List ℕ → ℕ → Reading (List ℕ) → Type 0
Front words at (got xs next) =
    (xs ≡ take (length xs) (drop at words)) × (next ≡ at + length xs) × (length xs ≤ length words - at)
Front words at (fault code offset) = Unit {0}

front-before : (words : List ℕ) (at : ℕ) → at < length words → (r : Reading (List ℕ)) → Front words (at + 1) r →
    Front words at (before (get_or words at 0) r)
front-before words at h (got xs next) (f, g, l) = (
  rw (drop-cons words at 0 h) (ap (λ (ys : List ℕ). get_or words at 0 ∷ ys) (rw add-one at f)),
  omega arith,
  omega
      arith,
)
front-before words at h (fault code offset) f = tt

module _ (words : List ℕ) (σ : Signature) where
  pub forest-front : (unused a n at : ℕ) → Front words at (forest_reader (word_source words) unused σ a n at)
  unfolding forest_reader word_below
  forest-front unused zero zero at = (refl, omega arith, omega arith)
  forest-front unused zero (suc n) at = tt
  forest-front unused (suc a) zero at = (refl, omega arith, omega arith)
  forest-front unused (suc a) (suc n) at =
      let w = get_or words at 0 in
      let known = leb first_variable w || ltb w (length σ.symbols) in
      let k = cond (leb first_variable w) 0 (symbol_of σ w).arity + n in
      by_test (ltb at (length words))
      (λ i. by_test (ltb w 272)
      (λ b. by_test known
      (λ e. by_test (leb w (first_variable + unused))
      (λ t. rw (i, b, e, t)
      (front-before words at (ltb-true at (length words) i)
      (forest_reader (word_source words) (unused_after unused w) σ a k (at + 1))
      (forest-front (unused_after unused w) a k (at + 1))))
      λ t. rw (i, b, e, t) tt)
      λ e. rw (i, b, e) tt)
      λ b. rw (i, b) tt)
      λ i. rw i tt

  pub terms-end : (unused a n at value end : ℕ) → read words σ unused a n at ≡ got value end → end ≤ at + a
  terms-end unused a n at value end =
      go (forest_reader (word_source words) unused σ a n at) refl (forest-front unused a n at)
    where
      go : (r : Reading (List ℕ)) → forest_reader (word_source words) unused σ a n at ≡ r → Front words at r →
          answered (unused_after_all unused) r ≡ got value end → end ≤ at + a
      go (got xs next) e (f, g, l) p =
          let q : next ≡ end = cc in
          rw (← q) (omega (arith, forest-short (word_source words) unused σ a n at xs next e))
      go (fault code offset) e f p = let z : ◌≡◌ {A = ℕ} 0 1 = cc in absurd (omega arith)

  -- ---- the term at the front

  abbrev first : Reading (List ℕ)
  first = side_reader (word_source words) max_nodes all_used σ 0

  abbrev answer : Reading (List ℕ) → Reading ℕ
  answer = answered (unused_after_all all_used)

  -- No term is too heavy under a signature without coefficients.
  pub front-light : Unscaled σ → answer first ≡ answer (nodes_reader (word_source words) max_nodes all_used σ 0)
  front-light plain = ap answer (unscaled-side σ plain (word_source words) max_nodes all_used 0 (omega arith))

  pub front-fault : (x : Extent) (code offset : ℕ) → answer first ≡ fault code offset →
      fault code offset ≡ end_of (reader_of x σ words)
  unfolding read_first_term read_term
  front-fault x code offset p = go x first refl p
    where
      go : (x : Extent) (r : Reading (List ℕ)) → first ≡ r → answer r ≡ fault code offset →
          fault code offset ≡ end_of (reader_of x σ words)
      go x (got xs next) e p = let z : ◌≡◌ {A = ℕ} 0 1 = cc in absurd (omega arith)
      go extent.Whole (fault k o) e p = rw e (sym p)
      go extent.Front (fault k o) e p = rw e (sym p)

  module _ (value end : ℕ) (p : answer first ≡ got value end) where
    first_ends : (xs : List ℕ) × (first ≡ got xs end)
    first_ends = go first p
      where
        go : (r : Reading (List ℕ)) → answer r ≡ got value end → (xs : List ℕ) × (r ≡ got xs end)
        go (got xs next) p = (xs, cc)
        go (fault code offset) p = let z : ◌≡◌ {A = ℕ} 0 1 = cc in absurd (omega arith)

    pub front_read : got 0 end ≡ end_of (read_first_term σ words)
    unfolding read_first_term
    front_read = let (xs, f) = first_ends in rw f

    pub front-whole : end ≡ length words → got 0 end ≡ end_of (read_term σ words)
    unfolding read_term
    front-whole e = let (xs, f) = first_ends in rw (f, eq-eqb end (length words) e)

    pub front-longer : ¬ (end ≡ length words) → fault words_left_over end ≡ end_of (read_term σ words)
    unfolding read_term
    front-longer e = let (xs, f) = first_ends in rw (f, ne_eqb end (length words) e)
