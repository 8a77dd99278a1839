-- The walk over the symbols that a row may begin with.
--     Walking                                   what is stored, and what is left to store
--     walking-begun, walking-on, walking-more, walking-end     from the first such symbol to past the last one
--     leaf_room, leaf-done                      the row that is complete
--     copy-ready, copy_done                     the rows that are stored already
--     ready_call, Walks, walks-begun, walks_more, walks-end     the rows after a symbol, in the words of the code
use mathlib.Core.List.{List, [], ◌∷◌, ◌++◌, append-nil}
use mathlib.Core.Path.{◌≡◌, refl, sym, ap, ◌∙◌}
use Prim.Native.Nat.{ℕ, suc, zero, ◌+◌, ◌-◌, ◌*◌, ◌≤◌, ◌<◌}
use native.Mathlib.Omega.{arith}
use Rattle.std.specs.Prelude.{Option, None, Some}
use lib.ListN.{length, take, set, get_or, length-append, length-set}
use lib.Seq.{sets, length-sets, take-suc-set, length-take-le, take-take, take-set-le, take_all}
use Rattle.multisets.proofs.Relations.{by_order}
use Rattle.multisets.proofs.ListLaws.{sets-append}
use Rattle.terms.specs.Signature.{Signature, symbol_of}
use Rattle.terms.specs.Enumeration.{ground_rows}
use Rattle.terms.proofs.EnumerationLaws.{rows_none, rows-symbol, length-row}
use Rattle.enumerating.specs.declared.walk.Block.{Block}
use Rattle.enumerating.specs.Rows.{prefixed, Refronted, next_from, count_of}
use Rattle.enumerating.specs.Walk.{HasRows, Blocks, Ready, Walked}
use Rattle.enumerating.proofs.RowLaws.{prefixed-append, prefixed-headed, prefixed-none, after, rows_from, next-is}
use Rattle.enumerating.proofs.FrontLaws.{length-prefixed, refronted}
use Rattle.enumerating.proofs.BlockLaws.{blocks-kept, blocks-put, block-stored}

module _ (σ : Signature) (nodes others : ℕ) (p : List ℕ) where
  -- The words of all rows, of those from a symbol on, and of those that begin with it.
  abbrev pub whole : List ℕ
  whole = prefixed p (ground_rows σ (suc nodes) (suc others))

  abbrev pub rest : ℕ → List ℕ
  rest f = prefixed p (rows_from σ nodes others f (count_of σ - f))

  abbrev pub chunk : ℕ → List ℕ
  chunk f = prefixed (p ++ (f ∷ [])) (after σ nodes others f)

  rest_all : rest 0 ≡ whole
  rest_all = let e : count_of σ - 0 ≡ count_of σ = omega arith in rw (e, rows-symbol σ nodes others)

  rest-step : (f : ℕ) → f < count_of σ → rest f ≡ chunk f ++ rest (f + 1)
  rest-step f h =
      let e : count_of σ - f ≡ suc (count_of σ - suc f) = omega arith in
      let d : f + 1 ≡ suc f = omega arith in
      rw (e, d, prefixed-append, prefixed-headed)

  rest-none : (f : ℕ) → count_of σ ≤ f → rest f ≡ []
  rest-none f h = let e : count_of σ - f ≡ 0 = omega arith in rw e (prefixed-none p)

  module _ (at : ℕ) (out₀ : List ℕ) where
    pub record Walking (f next : ℕ) (out : List ℕ) : Type 0 where
      pub within : f ≤ count_of σ
      pub place : next + length (rest f) ≡ at + length whole
      pub stored : sets out next (rest f) ≡ sets out₀ at whole
      pub long : length out ≡ length out₀

    pub walking-begun : Walking 0 at out₀
    walking-begun = record {
      within = omega arith;
      place = ap (λ l. at + length l) rest_all;
      stored = ap (sets out₀ at) rest_all;
      long = refl;
    }

    -- On to the next symbol.
    pub walking-on : (f next : ℕ) (out : List ℕ) → Walking f next out → (r : ℕ) →
        r ≡ next_from σ nodes others f (count_of σ - f) →
        Walking r next out × (r < count_of σ → 0 < length (after σ nodes others r))
    walking-on f next out w r e =
        let n = next-is σ nodes others f (count_of σ - f) in
        let d : f + (count_of σ - f) ≡ count_of σ = omega (arith, w.within) in
        let same : rest f ≡ rest r = ap (prefixed p) (rw (d, ← e) at n.same) in (
          record {
            within = rw (d, ← e) at n.within;
            place = rw (← same) w.place;
            stored = rw (← same) w.stored;
            long = w.long;
          },
          rw (d, ← e) at n.alive,
        )

    module _ (f next : ℕ) (out : List ℕ) (w : Walking f next out) (h : f < count_of σ) where
      -- The rows that begin with the symbol end with the others at the latest.
      walking-within : next + length (chunk f) ≤ at + length whole
      walking-within = omega (arith, w.place, ap length (rest-step f h), length-append (chunk f) (rest (f + 1)))

      pub walking-room : at + length whole ≤ length out₀ → next + length (chunk f) ≤ length out
      walking-room r = omega (arith, walking-within, w.long)

      pub walking-fits : at + length whole < 4294967296 → next + length (chunk f) < 4294967296
      walking-fits r = omega (arith, walking-within)

      pub walking-more : (next' : ℕ) (out' : List ℕ) → next' ≡ next + length (chunk f) →
          out' ≡ sets out next (chunk f) → Walking (f + 1) next' out'
      walking-more next' out' n o = record {
        within = omega arith;
        place = omega (arith, w.place, ap length (rest-step f h), length-append (chunk f) (rest (f + 1)));
        stored = rw (o, n) (sym (sets-append out next (chunk f) (rest (f + 1)))
            ∙ ap (sets out next) (sym (rest-step f h)) ∙ w.stored);
        long = ap length o ∙ length-sets out next (chunk f) ∙ w.long;
      }

    pub walking-end : (f next : ℕ) (out : List ℕ) → Walking f next out → count_of σ ≤ f →
        (next ≡ at + length whole) × (out ≡ sets out₀ at whole)
    walking-end f next out w h = (
      omega (arith, w.place, ap length (rest-none f h)),
      rw (rest-none f h) at w.stored,
    )

unowed : (σ : Signature) (nodes called : ℕ) → called ≡ 0 → 0 < length (ground_rows σ nodes called) → nodes ≡ 0
unfolding ground_rows
unowed σ zero called e a = refl
unowed σ (suc nodes) called e a = absurd (omega (arith, ap (λ n. length (ground_rows σ (suc nodes) n)) e))

leaf : (σ : Signature) (p : List ℕ) (nodes terms : ℕ) → nodes ≡ 0 → terms ≤ nodes →
    prefixed p (ground_rows σ nodes terms) ≡ p
unfolding prefixed ground_rows
leaf σ p nodes terms e h = let d : terms ≡ 0 = omega arith in rw (e, d) (append-nil p)

-- The walk, with the row, whose front is kept, and the blocks so far.
pub record Walks (σ : Signature) (nodes terms : ℕ) (row₀ : List ℕ) (size : ℕ) (out₀ : List ℕ) (at f next : ℕ)
    (blocks : List (Option Block)) (row out : List ℕ) : Type 0 where
  pub walking : Walking σ (nodes - 1) (terms - 1) (take (size - nodes) row₀) at out₀ f next out
  pub kept : take (size - nodes) row ≡ take (size - nodes) row₀
  pub long : length row ≡ size
  pub known : Blocks σ size blocks out next
  pub many : length blocks ≡ 64

module _ {σ : Signature} {blocks₀ : List (Option Block)} {nodes terms : ℕ} {row₀ : List ℕ} {size : ℕ} {out₀ : List ℕ}
    {at : ℕ} (r : Ready σ blocks₀ nodes terms row₀ size out₀ at) where
  abbrev front₀ : List ℕ
  front₀ = take (size - nodes) row₀

  abbrev stored : List ℕ
  stored = prefixed front₀ (ground_rows σ nodes terms)

  front_long : length front₀ ≡ size - nodes
  front_long = length-take-le (size - nodes) row₀ (omega (arith, r.small, r.long))

  -- ---- the row is complete

  leaf-stored : nodes ≡ 0 → stored ≡ row₀
  leaf-stored e =
      let d : size - nodes ≡ size = omega arith in
      leaf σ front₀ nodes terms e r.few ∙ ap (λ n. take n row₀) d ∙ take_all size row₀ (omega (arith, r.long))

  pub leaf_room : nodes ≡ 0 → at + size ≤ length out₀
  leaf_room e = omega (arith, r.room, ap length (leaf-stored e), r.long)

  -- What is stored at once, without a change to the row or the blocks.
  stored-at-once : (next : ℕ) (out : List ℕ) → next ≡ at + length stored → out ≡ sets out₀ at stored →
      Walked σ nodes terms row₀ size out₀ at next blocks₀ row₀ out
  stored-at-once next out e o = record {
    end = e;
    stored = o;
    kept = refl;
    long = r.long;
    known = rw o (blocks-kept σ size blocks₀ out₀ at r.known stored next (omega arith));
    many = r.many;
  }

  pub leaf-done : nodes ≡ 0 → (out : List ℕ) → out ≡ sets out₀ at row₀ →
      Walked σ nodes terms row₀ size out₀ at (at + size) blocks₀ row₀ out
  leaf-done e out o =
      stored-at-once (at + size) out (omega (arith, ap length (leaf-stored e), r.long))
      (o ∙ ap (sets out₀ at) (sym (leaf-stored e)))

  module _ (h : 0 < nodes) where
    -- There is a term for the nodes.
    pub some-terms : 0 < terms
    some-terms = go terms r.owed
      where
        go : (k : ℕ) → (k ≡ 0 → nodes ≡ 0) → 0 < k
        go zero o = absurd (omega (arith, o refl))
        go (suc k) o = omega arith

    pub few-terms : (nodes < 8) × (terms < 8)
    few-terms = omega (arith, r.within, r.small, r.few)

    -- ---- the rows are stored already

    module _ (k : Block) (i : get_or blocks₀ (8 * nodes + terms) None ≡ Some k) where
      b : HasRows σ size out₀ at nodes terms k
      b = r.known nodes terms few-terms.0 few-terms.1 k i

      block-length : length (prefixed b.front (ground_rows σ nodes terms)) ≡ length stored
      block-length = length-prefixed b.front front₀ (ground_rows σ nodes terms) (b.long ∙ sym front_long)

      pub copy-ready : (k.start ≤ k.end) × (k.start + (k.end - k.start) ≤ at) × (at + (k.end - k.start) ≤ length out₀)
      copy-ready = omega (arith, b.last, b.within, block-length, r.room)

      pub copy_done : (out : List ℕ) →
          ((words : List ℕ) → Refronted row₀ (size - nodes) size out₀ k.start (k.end - k.start) words →
          out ≡ sets out₀ at words) →
          Walked σ nodes terms row₀ size out₀ at (at + (k.end - k.start)) blocks₀ row₀ out
      copy_done out o =
          let rows = ground_rows σ nodes terms in
          let count : length (prefixed b.front rows) ≡ k.end - k.start = omega (arith, b.last) in
          stored-at-once (at + (k.end - k.start)) out (omega (arith, block-length)) (o stored (rw count at (refronted row₀
          (size - nodes) size (omega (arith, r.small, r.long)) b.front b.long (omega (arith, r.within)) rows
          (λ s m. omega (arith, length-row σ nodes terms s m, r.within)) out₀ k.start b.words)))

    -- ---- the walk over the symbols that come next

    pub walks-begun : Walks σ nodes terms row₀ size out₀ at 0 at blocks₀ row₀ out₀
    walks-begun = record {
      walking = walking-begun σ (nodes - 1) (terms - 1) front₀ at out₀;
      kept = refl;
      long = r.long;
      known = r.known;
      many = r.many;
    }

    whole_is : whole σ (nodes - 1) (terms - 1) front₀ ≡ stored
    whole_is =
        let d : suc (nodes - 1) ≡ nodes = omega arith in
        let e : suc (terms - 1) ≡ terms = omega (arith, some-terms) in
        rw (d, e)

    module _ (from next : ℕ) (blocks : List (Option Block)) (row out : List ℕ)
        (w : Walks σ nodes terms row₀ size out₀ at from next blocks row out) (f : ℕ)
        (e : f ≡ next_from σ (nodes - 1) (terms - 1) from (count_of σ - from)) (l : f < count_of σ) (called : ℕ)
        (n : called ≡ (symbol_of σ f).arity + (terms - 1)) where
      on : Walking σ (nodes - 1) (terms - 1) front₀ at out₀ f next out
          × (f < count_of σ → 0 < length (after σ (nodes - 1) (terms - 1) f))
      on = walking-on σ (nodes - 1) (terms - 1) front₀ at out₀ from next out w.walking f e

      abbrev longer : List ℕ
      longer = set row (size - nodes) f

      -- The front with the symbol after it.
      front-more : take (size - (nodes - 1)) longer ≡ front₀ ++ (f ∷ [])
      front-more =
          let e : size - (nodes - 1) ≡ suc (size - nodes) = omega (arith, r.within) in
          rw e (take-suc-set row (size - nodes) f (omega (arith, w.long, r.small))
          ∙ ap (λ p. p ++ (f ∷ [])) w.kept)

      called-rows : prefixed (take (size - (nodes - 1)) longer) (ground_rows σ (nodes - 1) called)
          ≡ chunk σ (nodes - 1) (terms - 1) front₀ f
      called-rows = rw (front-more, n)

      pub ready_call : Ready σ blocks (nodes - 1) called (set row (size - nodes) f) size out next
      ready_call =
          let alive : 0 < length (ground_rows σ (nodes - 1) called) = rw n (on.1 l) in
          record {
            known = w.known;
            many = w.many;
            within = omega (arith, r.within);
            small = r.small;
            few = by_order (nodes - 1) called
                (λ k. absurd (omega (arith, ap length (rows_none σ (nodes - 1) called k)))) λ k. k;
            owed = λ e. unowed σ (nodes - 1) called e alive;
            long = length-set row (size - nodes) f ∙ w.long;
            room = rw called-rows (walking-room σ (nodes - 1) (terms - 1) front₀ at out₀ f next out on.0 l
                (rw whole_is r.room));
            fits = rw called-rows (walking-fits σ (nodes - 1) (terms - 1) front₀ at out₀ f next out on.0 l
                (rw whole_is r.fits));
          }

      pub walks_more : (next' : ℕ) (blocks' : List (Option Block)) (row' out' : List ℕ) →
          Walked σ (nodes - 1) called (set row (size - nodes) f) size out next next' blocks' row' out' →
          Walks σ nodes terms row₀ size out₀ at (f + 1) next' blocks' row' out'
      walks_more next' blocks' row' out' d = record {
        walking = walking-more σ (nodes - 1) (terms - 1) front₀ at out₀ f next out on.0 l next' out'
            (d.end ∙ ap (λ b. next + length b) called-rows) (d.stored ∙ ap (sets out next) called-rows);
        kept =
            let i : size - nodes ≤ size - (nodes - 1) = omega arith in
            sym (take-take (size - nodes) (size - (nodes - 1)) row' i) ∙ ap (take (size - nodes)) d.kept
            ∙ take-take (size - nodes) (size - (nodes - 1)) longer i
            ∙ take-set-le (size - nodes) row (size - nodes) f (omega arith) ∙ w.kept;
        long = d.long;
        known = d.known;
        many = d.many;
      }

    pub walks-end : (from next : ℕ) (blocks : List (Option Block)) (row out : List ℕ) →
        Walks σ nodes terms row₀ size out₀ at from next blocks row out →
        next_from σ (nodes - 1) (terms - 1) from (count_of σ - from) ≡ count_of σ →
        Walked σ nodes terms row₀ size out₀ at next
        (set blocks (8 * nodes + terms) (Some (record { start = at; end = next }))) row out
    walks-end from next blocks row out w n =
        let on =
        walking-on σ (nodes - 1) (terms - 1) front₀ at out₀ from next out w.walking (count_of σ) (sym n) in
        let (e, o) =
        walking-end σ (nodes - 1) (terms - 1) front₀ at out₀ (count_of σ) next out on.0 (omega arith) in
        let e' : next ≡ at + length stored = rw whole_is at e in
        let o' : out ≡ sets out₀ at stored = rw whole_is at o in
        let new = block-stored σ size out₀ at nodes terms front₀ front_long r.room next out e' o' in
        record {
          end = e';
          stored = o';
          kept = w.kept;
          long = w.long;
          known = blocks-put σ size blocks out next w.known w.many nodes terms few-terms.0 few-terms.1 _ new;
          many = simp length-set w.many;
        }
