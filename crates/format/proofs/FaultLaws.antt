-- A fault lies within the input, or at its end.
--     Within, within-fault, within-got     the next offset, or the fault's, is no further than the limit
--     node-within-got, node-within-fault   the same of a node
--     BoundedSource, whole-within          what is asked of a source, and what then holds of reading a file
--     words-bounded, bits-bounded, bits-within, bits-node     the two sources
--     bytes-fault, fault-small, words-fault, term-fault, first-fault
use mathlib.Core.Path.{◌≡◌, ap, ◌∙◌}
use mathlib.Core.List.{List, [], ◌∷◌, ◌++◌}
use mathlib.Core.Bool.{Bool, true, false, cond, ◌||◌, not}
use Prim.Native.Nat.{ℕ, suc, zero, ◌+◌, ◌*◌, ◌^◌, ◌≤◌, ◌<◌}
use native.Mathlib.Omega.{arith}
use lib.ListN.{length, get_or}
use lib.Dec.{eqb, ltb, leb}
use borrow.Author.Tests.{eqb-false, leb-true, ltb-true, lt-leb}
use Rattle.multisets.proofs.Relations.{by_test, by_order}
use Rattle.terms.specs.Term.{variable_count}
use Rattle.terms.specs.Words.{first_variable, term_of}
use Rattle.terms.specs.FirstUse.{unused_after, unused_after_all}
use Rattle.terms.specs.Signature.{Symbol, Signature}
use Rattle.format.specs.Errors.{file_too_long}
use Rattle.format.specs.Layout.{form_width, symbol_count_width, weight_width, rule_count_width, arity_width}
use Rattle.format.specs.Layout.{ac_width, rank_width, coefficient_width, tag_width, symbol_width, variable_width}
use Rattle.format.specs.Layout.{max_nodes, max_bytes}
use Rattle.format.specs.Layout.{form_number}
use Rattle.format.specs.Reading.{Reading, Reader, and_then, require, Node, Source, is_padding}
use Rattle.format.specs.Reading.{bit_field, bit_source, word_below, word_source}
use Rattle.format.specs.Reading.Reading.{got, fault}
use Rattle.format.specs.Forms.{is_taken, has_coefficients, all_used, unused_of, least_weight_in}
use Rattle.format.specs.Symbols.{held_by, is_coefficient, first_outranked, coefficients_reader, coefficients_in}
use Rattle.format.specs.Symbols.{symbol_reader, symbols_reader, symbol_table_reader}
use Rattle.format.specs.Format.{is_light, nodes_reader, forest_reader, side_reader, rule_reader, rules_reader}
use Rattle.format.specs.Format.{body_reader, file_reader}
use Rattle.format.specs.Files.{whole_reader, read_bytes_in, read_words, read_first_term, read_term}
use Rattle.format.specs.Packing.{Item}
use Rattle.format.proofs.ReadingLaws.{HoldsOf}
use Rattle.format.proofs.ForestLaws.{known, argument_count}
use Rattle.format.proofs.CodingLaws.{word-coding, bit-coding, length-bits_of}
use Rattle.format.proofs.RankLaws.{outranked-le, symbols-placed}

module _ (limit : ℕ) where
  unfoldable pub Within : {A : Type 0} → Reading A → Type 0
  Within (got a at) = at ≤ limit
  Within (fault code offset) = offset ≤ limit

  pub within-fault : {A : Type 0} (r : Reading A) (code offset : ℕ) → Within r → r ≡ fault code offset → offset ≤ limit
  unfolding Within
  within-fault r code offset h e = rw e at h

  pub within-got : {A : Type 0} (r : Reading A) (a : A) (next : ℕ) → Within r → r ≡ got a next → next ≤ limit
  unfolding Within
  within-got r a next h e = rw e at h

  within-then : {A B : Type 0} (r : Reading A) (k : A → Reader B) → Within r →
      ((a : A) (next : ℕ) → next ≤ limit → Within (k a next)) → Within (and_then r k)
  unfolding Within
  within-then (got a at) k h f = f a at h
  within-then (fault code offset) k h f = h

  within_both : {A B : Type 0} (P : A → ℕ → Type 0) (r : Reading A) (k : A → Reader B) → Within r → HoldsOf P r →
      ((a : A) (next : ℕ) → next ≤ limit → P a next → Within (k a next)) → Within (and_then r k)
  unfolding Within HoldsOf
  within_both P (got a at) k h p f = f a at h p
  within_both P (fault code offset) k h p f = h

  within-require : {B : Type 0} (ok : Bool) (code offset at : ℕ) (k : Unit {0} → Reader B) → offset ≤ limit →
      Within (k tt at) → Within (and_then (require ok code offset at) k)
  unfolding Within
  within-require true code offset at k h f = f
  within-require false code offset at k h f = h

  -- A test at the end of a file.
  within_end : (ok : Bool) (code at : ℕ) → at ≤ limit → Within (require ok code at at)
  unfolding Within
  within_end true code at h = h
  within_end false code at h = h

  -- A node's next offset and its number's.
  unfoldable pub NodeWithin : Reading Node → Type 0
  NodeWithin (got v at) = (v.offset ≤ limit) × (at ≤ limit)
  NodeWithin (fault code offset) = offset ≤ limit

  pub node-within-got : (r : Reading Node) (v : Node) (next : ℕ) → NodeWithin r → r ≡ got v next →
      (v.offset ≤ limit) × (next ≤ limit)
  unfolding NodeWithin
  node-within-got r v next h e = rw e at h

  pub node-within-fault : (r : Reading Node) (code offset : ℕ) → NodeWithin r → r ≡ fault code offset → offset ≤ limit
  unfolding NodeWithin
  node-within-fault r code offset h e = rw e at h

  node-then : {B : Type 0} (r : Reading Node) (k : Node → Reader B) → NodeWithin r →
      ((v : Node) (next : ℕ) → v.offset ≤ limit → next ≤ limit → Within (k v next)) → Within (and_then r k)
  unfolding Within NodeWithin
  node-then (got v at) k h f = f v at h.0 h.1
  node-then (fault code offset) k h f = h

  node-after : {A : Type 0} (r : Reading A) (k : A → Reader Node) → Within r →
      ((a : A) (next : ℕ) → next ≤ limit → NodeWithin (k a next)) → NodeWithin (and_then r k)
  unfolding Within NodeWithin
  node-after (got a at) k h f = f a at h
  node-after (fault code offset) k h f = h

  pub record BoundedSource (source : Source) : Type 0 where
    pub field : (width at : ℕ) → at ≤ limit → Within (source.field width at)
    pub moves : (width at v next : ℕ) → source.field width at ≡ got v next → next ≡ at + source.moves width
    pub node : (at : ℕ) → at ≤ limit → NodeWithin (source.node at)
    pub end : (at : ℕ) → at ≤ limit → Within (source.end at)

  module _ (source : Source) (b : BoundedSource source) where
    forest-within : (unused : ℕ) (σ : Signature) (a n at : ℕ) → at ≤ limit →
        Within (forest_reader source unused σ a n at)
    unfolding forest_reader Within
    forest-within unused σ zero zero at h = h
    forest-within unused σ zero (suc n) at h = h
    forest-within unused σ (suc a) zero at h = h
    forest-within unused σ (suc a) (suc n) at h =
        node-then (source.node at) _ (b.node at h) λ v next o l.
        within-require (known σ v.word) _ v.offset next _ o
        (within-require (leb v.word (first_variable + unused)) _ v.offset next _ o
        (let after = unused_after unused v.word in
        let owed = argument_count σ v.word + n in
        within-then (forest_reader source after σ a owed next) _ (forest-within after σ a owed next l) λ ws end e. e))

    side-within : (most unused : ℕ) (σ : Signature) (at : ℕ) → at ≤ limit →
        Within (side_reader source most unused σ at)
    unfolding side_reader Within
    side-within most unused σ at h =
        within-then (nodes_reader source most unused σ at) _ (forest-within unused σ most 1 at h) λ ws end l.
        within-require (is_light σ (term_of σ ws)) _ at end _ h l

    rule-within : (unused : ℕ) (σ : Signature) (at : ℕ) → at ≤ limit → Within (rule_reader source unused σ at)
    unfolding rule_reader Within
    rule-within unused σ at h =
        within-then (side_reader source max_nodes unused σ at) _
        (side-within max_nodes unused σ at h) λ left at₁ h₁.
        let after = unused_after_all unused left in
        within-then (side_reader source max_nodes after σ at₁) _ (side-within max_nodes after σ at₁ h₁)
        λ right end e. e

    pub rules-within : (unused : ℕ) (σ : Signature) (n at : ℕ) → at ≤ limit →
        Within (rules_reader source unused σ n at)
    unfolding rules_reader Within
    rules-within unused σ zero at h = h
    rules-within unused σ (suc n) at h =
        within-then (rule_reader source unused σ at) _ (rule-within unused σ at h) λ r mid l.
        within-then (rules_reader source unused σ n mid) _ (rules-within unused σ n mid l) λ rest end e. e

    all-within : (ac : Bool) (n at : ℕ) → at ≤ limit → Within (coefficients_reader source ac n at)
    unfolding coefficients_reader Within
    all-within ac zero at h = h
    all-within ac (suc n) at h =
        within-then (source.field coefficient_width at) _ (b.field coefficient_width at h) λ k mid l.
        within-require (is_coefficient ac k) _ at mid _ h
        (within-then (coefficients_reader source ac n mid) _ (all-within ac n mid l) λ ks end e. e)

    coefficients-within : (form : ℕ) (ac : Bool) (arity at : ℕ) → at ≤ limit →
        Within (coefficients_in source form ac arity at)
    unfolding Within
    coefficients-within form ac arity at h =
        by_test (has_coefficients form) (λ e. rw e (all-within ac arity at h)) λ e. rw e h

    symbol-within : (form w0 : ℕ) (earlier : List Symbol) (at : ℕ) → at ≤ limit →
        Within (symbol_reader source form w0 earlier at)
    unfolding symbol_reader Within
    symbol-within form w0 earlier at h =
        within-then (source.field arity_width at) _ (b.field arity_width at h) λ arity at₁ h₁.
        within-then (source.field ac_width at₁) _ (b.field ac_width at₁ h₁) λ ac at₂ h₂.
        within-require (eqb ac 0 || eqb arity 2) _ at at₂ _ h
        (within-then (source.field weight_width at₂) _ (b.field weight_width at₂ h₂) λ weight at₃ h₃.
        within-require (leb (least_weight_in form w0 arity) weight) _ at₂ at₃ _ h₂
        (within-then (source.field rank_width at₃) _ (b.field rank_width at₃ h₃) λ rank at₄ h₄.
        within-require (not (held_by earlier rank)) _ at₃ at₄ _ h₃
        (within-then (coefficients_in source form (eqb ac 1) arity at₄) _
        (coefficients-within form (eqb ac 1) arity at₄ h₄) λ ks end e. e)))

    pub symbols-within : (form w0 n : ℕ) (earlier : List Symbol) (at : ℕ) → at ≤ limit →
        Within (symbols_reader source form w0 n earlier at)
    unfolding symbols_reader Within
    symbols-within form w0 zero earlier at h = h
    symbols-within form w0 (suc n) earlier at h =
        within-then (symbol_reader source form w0 earlier at) _ (symbol-within form w0 earlier at h) λ s mid l.
        symbols-within form w0 n (earlier ++ (s ∷ [])) mid l

    pub table-within : (form w0 n at : ℕ) → at ≤ limit → Within (symbol_table_reader source form w0 n at)
    unfolding symbol_table_reader Within
    table-within form w0 n at h =
        within_both _ (symbols_reader source form w0 n [] at) _ (symbols-within form w0 n [] at h)
        (symbols-placed source b.moves form w0 n [] at) λ ss end l (new, same, count, later, weights, placed).
        by_test (eqb (first_outranked ss) (length ss)) (λ t. rw t l)
        λ t. rw t (omega (
          arith,
          rw (← same) at (weights (first_outranked ss) (omega (
            arith,
            outranked-le ss ss,
            eqb-false (first_outranked ss) (length ss) t,
            ap length same,
          ))),
        ))

    body-within : (form w0 k n at : ℕ) → at ≤ limit → Within (body_reader source form w0 k n at)
    unfolding body_reader Within
    body-within form w0 k n at h =
        within-then (symbol_table_reader source form w0 k at) _ (table-within form w0 k at h) λ ss mid l.
        let σ : Signature = record { w0 = w0; symbols = ss } in
        within-then (rules_reader source (unused_of form) σ n mid) _ (rules-within (unused_of form) σ n mid l)
        λ rs end e. e

    file-within : (form at : ℕ) → at ≤ limit → Within (file_reader form source at)
    unfolding file_reader Within
    file-within form at h =
        within-then (source.field form_width at) _ (b.field form_width at h) λ read at₁ h₁.
        within-require (is_taken form read) _ at at₁ _ h
        (within-then (source.field symbol_count_width at₁) _ (b.field symbol_count_width at₁ h₁) λ k at₂ h₂.
        within-require (ltb 0 k) _ at₁ at₂ _ h₁
        (within-then (source.field weight_width at₂) _ (b.field weight_width at₂ h₂) λ w0 at₃ h₃.
        within-require (ltb 0 w0) _ at₂ at₃ _ h₂
        (within-then (source.field rule_count_width at₃) _ (b.field rule_count_width at₃ h₃) λ n at₄ h₄.
        body-within read w0 k n at₄ h₄)))

    pub whole-within : (form at : ℕ) → at ≤ limit → Within (whole_reader form source at)
    unfolding whole_reader Within
    whole-within form at h =
        within-then (file_reader form source at) _ (file-within form at h) λ file end l.
        within-then (source.end end) _ (b.end end l) λ u next e. e

-- ---- the two sources

module _ (words : List ℕ) where
  below-within : (bound at : ℕ) → at ≤ length words → Within (length words) (word_below words bound at)
  unfolding Within word_below
  below-within bound at h =
      by_test (ltb at (length words))
      (λ e.
      let l = ltb-true at (length words) e in
      by_test (ltb (get_or words at 0) bound) (λ f. rw (e, f) (omega arith)) λ f. rw (e, f) h)
      λ e. rw e h

  words-node : (at : ℕ) → at ≤ length words → NodeWithin (length words) ((word_source words).node at)
  unfolding NodeWithin
  words-node at h =
      let bound = first_variable + variable_count in
      node-after (length words) (word_below words bound at) _ (below-within bound at h) λ w next l. (h, l)

  pub words-bounded : BoundedSource (length words) (word_source words)
  words-bounded = record {
    field = λ width. below-within (2 ^ width);
    moves = λ width at v next e. ((word-coding words).read→code (Item.field width v) at next e).1;
    node = words-node;
    end = λ at. within_end (length words) (eqb at (length words)) _ at;
  }

  pub words-fault : (code offset : ℕ) → read_words words ≡ fault code offset → offset ≤ length words
  unfolding read_words
  words-fault code offset =
      within-fault (length words) (read_words words) code offset
      (whole-within (length words) (word_source words) words-bounded form_number 0 (omega arith))

  term-within : (σ : Signature) → Within (length words) (read_term σ words)
  unfolding read_term Within
  term-within σ =
      within-then (length words) (side_reader (word_source words) max_nodes all_used σ 0) _
      (side-within (length words) (word_source words) words-bounded max_nodes all_used σ 0 (omega arith)) λ ws end h.
      within-require (length words) (eqb end (length words)) _ end end _ h h

  pub term-fault : (σ : Signature) (code offset : ℕ) → read_term σ words ≡ fault code offset → offset ≤ length words
  term-fault σ code offset = within-fault (length words) (read_term σ words) code offset (term-within σ)

  pub first-fault : (σ : Signature) (code offset : ℕ) → read_first_term σ words ≡ fault code offset →
      offset ≤ length words
  unfolding read_first_term
  first-fault σ code offset = within-fault (length words) (read_first_term σ words) code offset
      (side-within (length words) (word_source words) words-bounded max_nodes all_used σ 0 (omega arith))

module _ (bytes : List ℕ) where
  abbrev bit_count : ℕ
  bit_count = 8 * length bytes

  pub bits-within : (width at : ℕ) → at ≤ bit_count → Within bit_count (bit_field bytes width at)
  unfolding Within bit_field
  bits-within width at h =
      by_test (leb (at + width) bit_count) (λ e. rw e (leb-true (at + width) bit_count e)) λ e. rw e h

  pub bits-node : (at : ℕ) → at ≤ bit_count → NodeWithin bit_count ((bit_source bytes).node at)
  unfolding NodeWithin
  bits-node at h =
      node-after bit_count (bit_field bytes tag_width at) _ (bits-within tag_width at h) λ tag at₁ h₁.
      let width = cond (eqb tag 0) symbol_width variable_width in
      node-after bit_count (bit_field bytes width at₁) _ (bits-within width at₁ h₁) λ number next l. (h₁, l)

  pub bits-bounded : BoundedSource bit_count (bit_source bytes)
  bits-bounded = record {
    field = bits-within;
    moves = λ width at v next e.
        ((bit-coding bytes).read→code (Item.field width v) at next e).1 ∙ rw (length-bits_of width v);
    node = bits-node;
    end = λ at. within_end bit_count (is_padding bytes at) _ at;
  }

  bytes-within : (form : ℕ) → Within bit_count (read_bytes_in form bytes)
  unfolding read_bytes_in Within
  bytes-within form =
      by_test (leb (length bytes) max_bytes)
      (λ e. rw e (whole-within bit_count (bit_source bytes) bits-bounded form 0 (omega arith)))
      λ e. rw e (omega arith)

  pub bytes-fault : (form code offset : ℕ) → read_bytes_in form bytes ≡ fault code offset → offset ≤ 8 * length bytes
  bytes-fault form code offset = within-fault bit_count (read_bytes_in form bytes) code offset (bytes-within form)

  -- It lies within 32,768 bytes.
  pub fault-small : (form code offset : ℕ) → read_bytes_in form bytes ≡ fault code offset → offset < 10 ^ 9
  unfolding read_bytes_in
  fault-small form code offset e =
      by_order max_bytes (length bytes)
      (λ h. let d : fault file_too_long 0 ≡ fault code offset = rw (lt-leb (length bytes) max_bytes h) at e in
      let z : 0 ≡ offset = cc in omega arith)
      λ h. omega (arith, bytes-fault form code offset e)
