-- A search along a pattern's words.
--     pending-below                       what is pending below an index is so below a greater one
--     word_at, calls-next                 the word at an offset and those after it
--     searched-end, step-one, step-none   no word is left; one word, with one way on and with none
--     taken-all, taken_own, dividing      the elements of a piece, by their mask
--     searched-clash, searched-arguments  a symbol that is not the piece's root, and one that is, but not AC
--     searched-divided                    an AC symbol, by the masks within the mask of its sum
use mathlib.Core.List.{List, [], ◌∷◌, ◌++◌, Memᴰ}
use mathlib.Core.Path.{◌≡◌, refl, sym, ap, ◌∙◌}
use mathlib.Core.Bool.{Bool, true, false, false≢true}
use Prim.Native.Nat.{ℕ, suc, zero, ◌+◌, ◌-◌, ◌^◌, ◌≤◌, ◌<◌}
use native.Mathlib.Omega.{arith}
use native.Mathlib.Numerals.{add-one}
use lib.Bits.{bit_and, and_self}
use lib.ListN.{length, get_or, drop, drop_of_length-le}
use lib.Seq.{drop-cons}
use lib.Pow.{pow_pos}
use borrow.Author.Tests.{eq-eqb, ne_eqb}
use Rattle.multisets.proofs.Relations.{by_order}
use Rattle.multisets.proofs.FlatMapLaws.{member-flat_map}
use Rattle.terms.specs.Signature.{Signature, symbol_of}
use Rattle.terms.specs.Term.{Term, Terms, arguments, flattenings}
use Rattle.terms.specs.Term.Term.{var, app}
use Rattle.terms.specs.Words.{first_variable}
use Rattle.terms.proofs.TermLaws.{row-arguments}
use Rattle.terms.proofs.FlatteningLaws.{NotRoot}
use Rattle.simplifying.specs.Masks.{Within, masked}
use Rattle.simplifying.specs.Matching.{Bindings}
use Rattle.simplifying.specs.Agenda.{Agenda, agenda, advance, follows}
use Rattle.simplifying.specs.Pieces.{masked_sum}
use Rattle.simplifying.proofs.AgendaLaws.{follows-append}
use Rattle.simplifying.proofs.CoverLaws.{advance-clash, advance-arguments, covers-none, covers_one, covers-masks}
use Rattle.simplifying.proofs.CoverLaws.{reached-mask}
use Rattle.simplifying.proofs.MaskLaws.{masked-all, within-and, within-next}
use Rattle.simplifying.proofs.SumLaws.{IsNode}
use Rattle.subterms.specs.Parts.{parts_at}
use Rattle.subterms.proofs.PartLaws.{symbol, variable}
use Rattle.pieces.specs.Pieces.{elements_of, piece_at}
use Rattle.pieces.proofs.NodeLaws.{whole-node, piece-node}
use Rattle.matching.specs.declared.nodes.Node.{Node}
use Rattle.matching.specs.Agenda.{IsPending, ArePending}
use Rattle.matching.specs.Bindings.{Matching, AreBound, bindings_at, KeptBindings}
use Rattle.matching.specs.Search.{calls_for, Reached, Searched, divided, Dividing, Divided}
use Rattle.matching.proofs.BindingLaws.{occurs-grows, symbol-bindings}

pub pending-below : (σ : Signature) (ws : List ℕ) (nodes : List Node) (n k f g : ℕ) → ArePending σ ws nodes n k f →
    f ≤ g → ArePending σ ws nodes n k g
pending-below σ ws nodes zero k f g a h = tt
pending-below σ ws nodes (suc n) k f g (l, p, a) h = (omega arith, p, a)

-- ---- the words

module _ (ps : List ℕ) (p : ℕ) (h : p < length ps) where
  word_at : drop p ps ≡ get_or ps p 0 ∷ drop (p + 1) ps
  word_at = rw add-one (drop-cons ps p 0 h)

  pub calls-next : (σ : Signature) →
      calls_for σ (drop p ps) ≡ (symbol_of σ (get_or ps p 0)).arity + calls_for σ (drop (p + 1) ps)
  calls-next σ = ap (calls_for σ) word_at

follows_next : (σ : Signature) (w : ℕ) (ws : List ℕ) (a c d : Agenda) →
    Memᴰ c (advance σ w a.pending a.bindings) → Memᴰ d (follows σ ws c) →
    Memᴰ d (follows σ (w ∷ ws) a)
unfolding follows
follows_next σ w ws a c d m n = member-flat_map (follows σ ws) m n

follows-none : (σ : Signature) (ws : List ℕ) (a : Agenda) → ws ≡ [] → Memᴰ a (follows σ ws a)
unfolding follows
follows-none σ ws a e = rw e (Memᴰ.head refl)

-- ---- one word

module _ (σ : Signature) (ws ps : List ℕ) (p : ℕ) (offsets masks : List ℕ) where
  abbrev b : Bindings
  b = bindings_at σ ws ps p offsets masks

  pub searched-end : (ts : List Term) → p ≡ length ps → AreBound σ ws offsets masks →
      Searched σ ws ps p offsets masks ts true offsets masks
  searched-end ts e B = record {
    yes = λ y. (
      agenda ts b,
      follows-none σ (drop p ps) (agenda ts b) (drop_of_length-le ps {i = p} (omega arith)),
      ap (λ (n : ℕ). bindings_at σ ws ps n offsets masks) e,
    );
    no = λ y. absurd (false≢true (sym y));
    kept = λ x h. (refl, refl);
    bound = B;
  }

  module _ (h : p < length ps) (ts : List Term) (others rest : List ℕ)
      (k : KeptBindings σ ws ps p offsets masks others rest) where
    pub step-none : advance σ (get_or ps p 0) ts b ≡ [] → AreBound σ ws others rest →
        Searched σ ws ps p offsets masks ts false others rest
    step-none e B = record {
      yes = λ y. absurd (false≢true y);
      no = λ y. rw (word_at ps p h) (covers-none σ (λ c. ⊥) (get_or ps p 0) (drop (p + 1) ps) (agenda ts b) e);
      kept = k;
      bound = B;
    }

    kept_then : (others' rest' : List ℕ) → KeptBindings σ ws ps (p + 1) others rest others' rest' →
        KeptBindings σ ws ps p offsets masks others' rest'
    kept_then others' rest' g x o =
        let (c, d) = k x o in
        let (e, f) = g x (occurs-grows ps (first_variable + x) p o) in (e ∙ c, f ∙ d)

    pub step-one : (us : List Term) →
        advance σ (get_or ps p 0) ts b ≡ agenda us (bindings_at σ ws ps (p + 1) others rest) ∷ [] →
        (r : Bool) (others' rest' : List ℕ) → Searched σ ws ps (p + 1) others rest us r others' rest' →
        Searched σ ws ps p offsets masks ts r others' rest'
    step-one us e r others' rest' S =
        let d = agenda us (bindings_at σ ws ps (p + 1) others rest) in
        record {
          yes = λ y. let (c, m, q) = S.yes y in (
            c,
            rw (word_at ps p h) (follows_next σ (get_or ps p 0) (drop (p + 1) ps) (agenda ts b) d c
                (rw e (Memᴰ.head refl)) m),
            q,
          );
          no = λ y. rw (word_at ps p h) (covers_one σ (λ c. ⊥) (get_or ps p 0) (drop (p + 1) ps) (agenda ts b) d e
              (S.no y));
          kept = kept_then others' rest' S.kept;
          bound = S.bound;
        }

-- ---- a symbol

module _ {σ : Signature} {ws keys ps : List ℕ} (M : Matching σ ws keys ps) {i mask : ℕ} (I : IsPending σ ws i mask)
  where
    -- The mask of a piece's elements.
    pub record TakenBy (m : ℕ) : Type 0 where
      pub bound : m < 2 ^ length (elements_of σ ws i)
      pub node : IsNode (get_or ws i 0) (masked m (elements_of σ ws i)) (piece_at σ ws i mask)

    module _ (v : get_or ws i 0 < first_variable) where
      whole : mask ≡ 0 → IsNode (get_or ws i 0) (elements_of σ ws i) (piece_at σ ws i mask)
      unfolding piece_at
      whole z = rw (eq-eqb mask 0 z) (whole-node M.subject i I.is_piece.inside M.prepared.complete v)

      pub taken-all : mask ≡ 0 → (m : ℕ) → m ≡ 2 ^ length (elements_of σ ws i) - 1 → TakenBy m
      taken-all z m e =
          let l = elements_of σ ws i in
          let q = pow_pos (length l) in
          record { bound = omega arith; node = rw (e, masked-all l) (whole z) }

      pub taken_own : (mask ≡ 0 → ⊥) → TakenBy mask
      taken_own d =
          let p : 0 < mask = omega (arith, d) in
          record {
            bound = (I.is_piece.sum p).1;
            node = piece-node M.subject i I.is_piece.inside M.prepared.complete v (I.ac p) mask p
                (I.is_piece.sum p).1 (I.apart p);
          }

      rooted : (us : Terms) × (piece_at σ ws i mask ≡ app (get_or ws i 0) us)
      rooted =
          by_order 0 mask (λ p. let N = (taken_own (λ e. omega arith)).node in (N.arguments, N.node))
          λ p. let N = whole (omega arith) in (N.arguments, N.node)

    root-variable : first_variable ≤ get_or ws i 0 → (us : ℕ) × (piece_at σ ws i mask ≡ var us)
    unfolding piece_at
    root-variable v =
        by_order 0 mask (λ p. absurd (omega (arith, (I.is_piece.sum p).0)))
        λ p. let z : mask ≡ 0 = omega arith in
        (get_or ws i 0 - first_variable, rw (eq-eqb mask 0 z) (variable σ ws i I.is_piece.inside v))

    not_root : (w : ℕ) → (get_or ws i 0 ≡ w → ⊥) → NotRoot w (piece_at σ ws i mask)
    not_root w d =
        by_order (get_or ws i 0) first_variable
        (λ v. let (us, e) = rooted v in rw e (ne_eqb w (get_or ws i 0) λ q. d (sym q)))
        λ v. let (x, e) = root-variable v in rw e tt

    pub dividing : {p : ℕ} → p < length ps → get_or ps p 0 < first_variable → get_or ws i 0 ≡ get_or ps p 0 →
        true ≡ (symbol_of σ (get_or ps p 0)).ac → {m : ℕ} → TakenBy m → {a : ℕ} → a ≡ bit_and (m - 1) m → a < m →
        Dividing σ ws ps p i m a
    dividing h w e c {m} T q y = record {
      symbol = w;
      word = h;
      inside = I.is_piece.inside;
      root = rw e w;
      ac = rw e (sym c);
      bound = T.bound;
      within = rw q (within-and (m - 1) m);
      below = y;
    }

    module _ {p : ℕ} (h : p < length ps) (w : get_or ps p 0 < first_variable) (offsets masks : List ℕ)
        (ts : List Term) where
      abbrev bs : Bindings
      bs = bindings_at σ ws ps p offsets masks

      abbrev t : Term
      t = piece_at σ ws i mask

      same_kept : KeptBindings σ ws ps p offsets masks offsets masks
      same_kept x o = (refl, refl)

      pub searched-clash : AreBound σ ws offsets masks → (get_or ws i 0 ≡ get_or ps p 0 → ⊥) →
          Searched σ ws ps p offsets masks (t ∷ ts) false offsets masks
      searched-clash B d =
          step-none σ ws ps p offsets masks h (t ∷ ts) offsets masks same_kept
          (advance-clash σ (get_or ps p 0) ts bs w t (not_root (get_or ps p 0) d)) B

      module _ (e : get_or ws i 0 ≡ get_or ps p 0) where
        root-symbol : get_or ws i 0 < first_variable
        root-symbol = rw e w

        arguments-of : (symbol_of σ (get_or ps p 0)).ac ≡ false →
            t ≡ app (get_or ps p 0) (arguments (parts_at σ ws (i + 1) (symbol_of σ (get_or ps p 0)).arity))
        unfolding piece_at
        arguments-of c =
            by_order 0 mask (λ q. absurd (false≢true (sym c ∙ rw e at (I.ac q))))
            λ q. let z : mask ≡ 0 = omega arith in
            rw (eq-eqb mask 0 z, ← e) (symbol σ ws i I.is_piece.inside root-symbol)

        pub searched-arguments : false ≡ (symbol_of σ (get_or ps p 0)).ac → (n : ℕ) → n ≡ (symbol_of σ (get_or ps p 0)).arity →
            (us : List Term) → us ≡ parts_at σ ws (i + 1) n ++ ts → (r : Bool) (others rest : List ℕ) →
            Searched σ ws ps (p + 1) offsets masks us r others rest →
            Searched σ ws ps p offsets masks (t ∷ ts) r others rest
        searched-arguments c n a us q r others rest S =
            let k = parts_at σ ws (i + 1) (symbol_of σ (get_or ps p 0)).arity in
            let x : advance σ (get_or ps p 0) (t ∷ ts) bs ≡ agenda us (bindings_at σ ws ps (p + 1) offsets masks) ∷ [] =
            rw (arguments-of (sym c), symbol-bindings σ ws ps p w offsets masks, q, a)
            (advance-arguments σ (get_or ps p 0) ts bs w (arguments k) (sym c)
            ∙ rw (row-arguments k)) in
            step-one σ ws ps p offsets masks h (t ∷ ts) offsets masks same_kept us x r others rest S

        -- ---- an AC symbol

        module _ (c : true ≡ (symbol_of σ (get_or ps p 0)).ac) {m : ℕ} (T : TakenBy m) where
          abbrev l : List Term
          l = elements_of σ ws i

          is_sum : (x : ℕ) → 0 < x → piece_at σ ws i x ≡ masked_sum (get_or ps p 0) x l
          unfolding piece_at
          is_sum x q = rw (ne_eqb x 0 (λ z. omega arith), e)

          abbrev us : Terms
          us = T.node.arguments

          is-node : t ≡ app (get_or ps p 0) us
          is-node = T.node.node ∙ ap (λ (f : ℕ). app f us) e

          elements : flattenings (get_or ps p 0) us ≡ masked m l
          elements = ap (λ (f : ℕ). flattenings f us) (sym e) ∙ T.node.elements

          pub searched-divided : (a : ℕ) → a ≡ bit_and (m - 1) m → (r : Bool) (others rest : List ℕ) →
              Divided σ ws ps p i m a offsets masks ts r others rest →
              Searched σ ws ps p offsets masks (t ∷ ts) r others rest
          searched-divided a q r others rest D = record {
            yes = λ y. found (D.yes y);
            no = λ y. rw (word_at ps p h, is-node) (covers-masks σ (λ d. ⊥) (get_or ps p 0) w (sym c) us m l elements
                (drop (p + 1) ps) ts bs λ x i k j.
                rw (← is_sum x k, ← is_sum (m - x) (omega arith)) (D.no y x i k (rw q (within-next m m x (and_self m) i
                j))));
            kept = D.kept;
            bound = D.bound;
          }
            where
              continued : (x : ℕ) → Within x m → 0 < x → x < m → {d : Agenda} →
                  Memᴰ d (follows σ (drop (p + 1) ps)
                  (agenda (masked_sum (get_or ps p 0) x l ∷ (masked_sum (get_or ps p 0) (m - x) l ∷ ts)) bs)) →
                  Memᴰ d (follows σ (get_or ps p 0 ∷ drop (p + 1) ps) (agenda (app (get_or ps p 0) us ∷ ts) bs))
              continued x i k j {d} n =
                  let s = agenda (app (get_or ps p 0) us ∷ ts) bs in
                  rw (follows-append σ (get_or ps p 0 ∷ []) (drop (p + 1) ps) s)
                  (member-flat_map (follows σ (drop (p + 1) ps))
                  (reached-mask σ [] s (get_or ps p 0) us ts bs (follows-none σ [] s refl) w (sym c) m l elements
                  T.bound x i k j) n)

              found : (x : ℕ) × Within x m × (0 < x) × (x < m)
                  × Reached σ ws ps (p + 1) (agenda (divided σ ws ps i m x ts) bs) others rest →
                  Reached σ ws ps p (agenda (t ∷ ts) bs) others rest
              found (x, i, k, j, R) = let (d, n, z) = R in (
                d,
                rw (word_at ps p h, is-node)
                    (continued x i k j (rw (is_sum x k, is_sum (m - x) (omega arith)) at n)),
                z,
              )
