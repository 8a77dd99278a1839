-- What a search along a pattern's words asks, from one word to the next.
--     first-pending                       the first of the pieces that are pending
--     searching-rest, searching-variable  the pieces after it, for the same word and for the next
--     searching-more                      pieces before them, for the next word
--     searched-variable, searched-refused the first piece is a variable's, or is not
--     searched-empty                      no piece is pending
--     searching-again, pending-again      after a search that found nothing
--     two-arguments, two-fit              an AC symbol calls for two pieces
--     root-small .. mask-small            a symbol that is the root of a piece: its elements and their masks
use mathlib.Core.List.{List, [], ◌∷◌}
use mathlib.Core.Path.{◌≡◌, refl, sym}
use mathlib.Core.Bool.{Bool, true, false}
use Prim.Native.Nat.{ℕ, suc, zero, ◌+◌, ◌-◌, ◌^◌, ◌≤◌, ◌<◌}
use native.Mathlib.Omega.{arith}
use lib.ListN.{length, get_or}
use native.Mathlib.Nat.{pow-suc}
use lib.Pow.{pow_pos, pow_mono}
use Rattle.terms.specs.Signature.{Signature, symbol_of}
use Rattle.terms.specs.Term.{Term}
use Rattle.terms.specs.Words.{first_variable}
use Rattle.subterms.specs.Parts.{Stands}
use Rattle.equivalence.proofs.StepLaws.{stands-inner}
use Rattle.pieces.specs.Pieces.{elements_of, piece_at}
use Rattle.matching.specs.declared.nodes.Node.{Node}
use Rattle.matching.specs.Agenda.{IsPending, offset_in, mask_in, next_in, pending_at, ArePending, KeptNodes}
use Rattle.matching.specs.Agenda.{Extended}
use Rattle.matching.specs.Bindings.{Matching, AreBound, Takes}
use Rattle.matching.specs.Search.{Searching, Searched}
use Rattle.matching.proofs.SizeLaws.{elements-few, elements-some}
use Rattle.matching.proofs.AgendaLaws.{kept-pending}
use Rattle.matching.proofs.FollowLaws.{pending-below, calls-next, step-none, step-one}

-- The first piece that is pending, and those after it.
pub record FirstPending (σ : Signature) (ws : List ℕ) (nodes : List Node) (owed head free : ℕ) : Type 0 where
  pub below : head < free
  pub piece : IsPending σ ws (offset_in nodes head) (mask_in nodes head)
  pub others : ArePending σ ws nodes (owed - 1) (next_in nodes head) free
  pub terms : pending_at σ ws nodes owed head ≡
      piece_at σ ws (offset_in nodes head) (mask_in nodes head) ∷ pending_at σ ws nodes (owed - 1) (next_in nodes head)

pub first-pending : {σ : Signature} {ws : List ℕ} {nodes : List Node} (owed head free : ℕ) → (owed ≡ 0 → ⊥) →
    ArePending σ ws nodes owed head free → FirstPending σ ws nodes owed head free
first-pending zero head free d a = absurd (d refl)
first-pending {σ} {ws} {nodes} (suc n) head free d (l, p, a) =
    let e : suc n - 1 ≡ n = omega arith in
    record {
      below = l;
      piece = p;
      others = rw e (pending-below σ ws nodes n (next_in nodes head) head free a (omega arith));
      terms = rw e;
    }

module _ {σ : Signature} {ws ps : List ℕ} {p : ℕ} {offsets masks : List ℕ} {nodes : List Node} {free head owed : ℕ}
    (S : Searching σ ws ps p offsets masks nodes free head owed) where
  pub first_of : (owed ≡ 0 → ⊥) → FirstPending σ ws nodes owed head free
  first_of d = first-pending owed head free d S.pending

  pub first_piece : (owed ≡ 0 → ⊥) → {i : ℕ} → i ≡ offset_in nodes head → IsPending σ ws i (mask_in nodes head)
  first_piece d e = rw e (first_of d).piece

  module _ (d : owed ≡ 0 → ⊥) {i next : ℕ} (e : i ≡ offset_in nodes head) (f : next ≡ next_in nodes head) where
    abbrev t : Term
    t = piece_at σ ws i (mask_in nodes head)

    abbrev ts : List Term
    ts = pending_at σ ws nodes (owed - 1) next

    these : pending_at σ ws nodes owed head ≡ t ∷ ts
    these = rw (e, f) (first_of d).terms

    pub searched-first : {r : Bool} {others rest : List ℕ} →
        Searched σ ws ps p offsets masks (t ∷ ts) r others rest →
        Searched σ ws ps p offsets masks (pending_at σ ws nodes owed head) r others rest
    searched-first X = rw these X

    module _ (h : p < length ps) {r : Bool} {others rest : List ℕ}
        (T : Takes σ ws ps p offsets masks t r others rest) where
      pub searched-variable : r ≡ true → {r' : Bool} {others' rest' : List ℕ} →
          Searched σ ws ps (p + 1) others rest ts r' others' rest' →
          Searched σ ws ps p offsets masks (pending_at σ ws nodes owed head) r' others' rest'
      searched-variable y {r'} {others'} {rest'} X =
          searched-first (step-one σ ws ps p offsets masks h (t ∷ ts) others rest T.kept ts (T.yes y ts) r' others'
          rest' X)

      pub searched-refused : r ≡ false →
          Searched σ ws ps p offsets masks (pending_at σ ws nodes owed head) false others rest
      searched-refused y =
          searched-first (step-none σ ws ps p offsets masks h (t ∷ ts) others rest T.kept (T.no y ts) T.bound)

  pub word-inside : (p ≡ length ps → ⊥) → p < length ps
  word-inside d = omega (arith, d, S.inside)

  pub searching-rest : (owed ≡ 0 → ⊥) → {next : ℕ} → next ≡ next_in nodes head → next < 65536 →
      Searching σ ws ps p offsets masks nodes free next (owed - 1)
  searching-rest d {next} e h = record {
    inside = S.inside;
    bound = S.bound;
    room = S.room;
    first = h;
    fits = S.fits;
    pending = rw e (first_of d).others;
  }

  pub searching-variable : (owed ≡ 0 → ⊥) → {next : ℕ} → next ≡ next_in nodes head → next < 65536 →
      p < length ps → {others rest : List ℕ} → AreBound σ ws others rest →
      Searching σ ws ps (p + 1) others rest nodes free next (owed - 1)
  searching-variable d {next} e h k B = record {
    inside = omega arith;
    bound = B;
    room = S.room;
    first = h;
    fits = omega (arith, S.fits, calls-next ps p k σ);
    pending = rw e (first_of d).others;
  }

  pub searching-more : p < length ps → {n : ℕ} → n ≡ (symbol_of σ (get_or ps p 0)).arity → {new : List Node} {r : ℕ}
      {ts : List Term} → Extended σ ws nodes free n head new r ts → {after left : ℕ} →
      (after ≡ free + n) × (left ≡ n + owed) → r < 65536 → Searching σ ws ps (p + 1) offsets masks new after r left
  searching-more k {n} e X (a, o) h = record {
    inside = omega arith;
    bound = S.bound;
    room = X.kept.room;
    first = h;
    fits = omega (arith, S.fits, calls-next ps p k σ);
    pending = rw (a, o) (X.pending owed S.pending);
  }

  pub searched-empty : p < length ps → owed ≡ 0 →
      Searched σ ws ps p offsets masks (pending_at σ ws nodes owed head) false offsets masks
  searched-empty k e =
      rw e (step-none σ ws ps p offsets masks k [] offsets masks (λ x o. (refl, refl)) refl S.bound)

  -- Where later nodes change, and the variables that occur before are as they were.
  pub searching-again : {others rest : List ℕ} {new : List Node} → AreBound σ ws others rest → KeptNodes nodes free new →
      Searching σ ws ps p others rest new free head owed
  searching-again {others} {rest} {new} B K = record {
    inside = S.inside;
    bound = B;
    room = K.room;
    first = S.first;
    fits = S.fits;
    pending = (kept-pending σ ws nodes new owed head free K.same S.pending).0;
  }

  pub pending-again : {new : List Node} → KeptNodes nodes free new →
      pending_at σ ws new owed head ≡ pending_at σ ws nodes owed head
  pending-again {new} K = (kept-pending σ ws nodes new owed head free K.same S.pending).1

  -- An AC symbol calls for two arguments.
  module _ {keys : List ℕ} (M : Matching σ ws keys ps) (h : p < length ps)
      (ac : (symbol_of σ (get_or ps p 0)).ac ≡ true) where
    pub two-arguments : 2 ≡ (symbol_of σ (get_or ps p 0)).arity
    two-arguments = sym (M.subject.admissible.ac_binary (get_or ps p 0) ac)

    pub two-fit : free + 2 ≤ 32
    two-fit = omega (arith, S.fits, calls-next ps p h σ, two-arguments)

-- A symbol that is the root of a piece.
module _ {σ : Signature} {ws keys ps : List ℕ} (M : Matching σ ws keys ps) {i mask : ℕ} (I : IsPending σ ws i mask)
    (p : ℕ) (w : get_or ps p 0 < first_variable) (e : get_or ws i 0 ≡ get_or ps p 0) where
  pub root-small : get_or ws i 0 < first_variable
  root-small = rw e w

  pub inner-stands : {n : ℕ} → n ≡ (symbol_of σ (get_or ps p 0)).arity → Stands σ ws (i + 1) n
  inner-stands {n} d = stands-inner σ ws i M.prepared.complete (get_or ps p 0) n I.is_piece.inside e d

  module _ (c : true ≡ (symbol_of σ (get_or ps p 0)).ac) where
    root-ac : (symbol_of σ (get_or ws i 0)).ac ≡ true
    root-ac = rw e (sym c)

    pub few-elements : length (elements_of σ ws i) ≤ 15
    few-elements =
        omega (
          arith,
          elements-few M.subject M.prepared.complete i I.is_piece.inside root-small root-ac,
          M.short,
        )

    pub all-some : {m : ℕ} → m ≡ 2 ^ length (elements_of σ ws i) - 1 → 0 < m
    all-some {m} d =
        omega (
          arith,
          more (length (elements_of σ ws i))
              (elements-some M.subject M.prepared.complete i I.is_piece.inside root-small root-ac),
        )
      where
        more : (n : ℕ) → 0 < n → 2 ≤ 2 ^ n
        more zero h = absurd (omega arith)
        more (suc n) h = omega (arith, pow-suc 2 n, pow_pos n)

    pub mask-small : (m : ℕ) → m < 2 ^ length (elements_of σ ws i) → m < 65536
    mask-small m h =
        let k : length (elements_of σ ws i) ≤ 16 = omega (arith, few-elements) in
        omega (arith, pow_mono {i = length (elements_of σ ws i)} {j = 16} k)
