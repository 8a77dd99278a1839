-- The rows that are stored already.
--     blocks-none, blocks-kept, blocks-put      none, as many, and one more
--     block-stored                              rows just stored
use mathlib.Core.List.{List}
use mathlib.Core.Path.{◌≡◌, sym, ◌∙◌}
use Prim.Native.Nat.{ℕ, ◌+◌, ◌-◌, ◌*◌, ◌≤◌, ◌<◌}
use native.Mathlib.Omega.{arith}
use Rattle.std.specs.Prelude.{Option, None, Some}
use lib.Dec.{eqb}
use lib.ListN.{length, set, replicate, get_or-replicate}
use lib.Seq.{sets, get_or-set_same, get_or-set_other}
use borrow.Author.Tests.{eqb-true, eqb-false}
use Rattle.multisets.proofs.Relations.{by_test}
use Rattle.terms.specs.Signature.{Signature}
use Rattle.terms.specs.Enumeration.{ground_rows}
use Rattle.enumerating.specs.declared.walk.Block.{Block}
use Rattle.enumerating.specs.Rows.{prefixed}
use Rattle.enumerating.specs.Walk.{HasRows, Blocks}
use Rattle.enumerating.proofs.RowLaws.{get_or-before, get_or-in}

module _ (σ : Signature) (size : ℕ) where
  pub blocks-none : (out : List ℕ) → Blocks σ size (replicate 64 None) out 0
  blocks-none out nodes terms h k b e =
      let n = get_or-replicate {A = Option Block} 64 (8 * nodes + terms) None None (omega arith) in cc

  -- What is stored after the blocks changes none of them.
  pub blocks-kept : (blocks : List (Option Block)) (out : List ℕ) (at : ℕ) → Blocks σ size blocks out at →
      (vs : List ℕ) (next : ℕ) → at ≤ next → Blocks σ size blocks (sets out at vs) next
  blocks-kept blocks out at k vs next h nodes terms i j b e =
      let r = k nodes terms i j b e in
      record {
        front = r.front;
        long = r.long;
        last = r.last;
        within = omega (arith, r.within);
        words = λ n l. get_or-before out at vs _ (omega (arith, r.last, r.within)) ∙ r.words n l;
      }

  -- The rows after a front, stored where they belong.
  pub block-stored : (out₀ : List ℕ) (at nodes terms : ℕ) (front : List ℕ) → length front ≡ size - nodes →
      at + length (prefixed front (ground_rows σ nodes terms)) ≤ length out₀ → (next : ℕ) (out : List ℕ) →
      next ≡ at + length (prefixed front (ground_rows σ nodes terms)) →
      out ≡ sets out₀ at (prefixed front (ground_rows σ nodes terms)) →
      HasRows σ size out next nodes terms (record { start = at; end = next })
  block-stored out₀ at nodes terms front l r next out e o = record {
    front = front;
    long = l;
    last = sym e;
    within = omega arith;
    words = λ i h. rw o (get_or-in out₀ at (prefixed front (ground_rows σ nodes terms)) i h r);
  }

  pub blocks-put : (blocks : List (Option Block)) (out : List ℕ) (limit : ℕ) → Blocks σ size blocks out limit →
      length blocks ≡ 64 → (nodes terms : ℕ) → nodes < 8 → terms < 8 → (new : Block) →
      HasRows σ size out limit nodes terms new → Blocks σ size (set blocks (8 * nodes + terms) (Some new)) out limit
  blocks-put blocks out limit k many nodes terms h l new r m n i j b =
      by_test (eqb (8 * m + n) (8 * nodes + terms))
      (λ e. let t = eqb-true (8 * m + n) (8 * nodes + terms) e in
      let d : m ≡ nodes = omega arith in
      let g : n ≡ terms = omega arith in
      rw (d, g, get_or-set_same blocks (8 * nodes + terms) (Some new) None (omega arith))
      λ s. let c : new ≡ b = cc in rw (← c) r)
      λ e. rw (get_or-set_other blocks (8 * nodes + terms) (8 * m + n) (Some new) None
      (eqb-false (8 * m + n) (8 * nodes + terms) e))
      (k m n i j b)
