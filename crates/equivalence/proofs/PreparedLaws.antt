-- What Keyed and Pair hold of their values, out of the truncation: that words are complete is told by tests, and the
-- rest are equations and orders.
use mathlib.Core.List.{List, [], ◌∷◌}
use mathlib.Core.Logic.{∥∥₁_elim, ∥∥₁_map}
use mathlib.Core.HLevel.{×_prop}
use Rattle.std.proofs.Common.{ℕ, length, inl, inr, arith}
use Rattle.std.specs.Coded.{Coded-set, coded_ℕ, le_prop}
use Rattle.multisets.proofs.Relations.{by_order}
use Rattle.terms.specs.Signature.{Signature}
use Rattle.subterms.specs.Parts.{Complete, IsNode}
use Rattle.equivalence.specs.Keys.{Prepared, BothPrepared}

node : (σ : Signature) (w : ℕ) → ∥ IsNode σ w ∥₁ → IsNode σ w
node σ w h =
    by_order w (length σ.symbols) (λ a. inl a) λ a. inr
    (∥∥₁_elim h (×_prop le_prop le_prop) (λ x. elim x [ inl b ↦ absurd (omega arith) | inr b ↦ b ]))

complete : (σ : Signature) (ws : List ℕ) → ∥ Complete σ ws ∥₁ → Complete σ ws
complete σ [] h = tt
complete σ (w ∷ ws) h =
    (node σ w (∥∥₁_map h (λ x. x.0)), ∥∥₁_elim h le_prop (λ x. x.1), complete σ ws (∥∥₁_map h (λ x. x.2)))

pub prepared-kept : {σ : Signature} {ws keys : List ℕ} → ∥ Prepared σ ws keys ∥₁ → Prepared σ ws keys
prepared-kept {σ} {ws} h =
    record {
      complete = complete σ ws (∥∥₁_map h (λ x. x.complete));
      short = ∥∥₁_elim h le_prop (λ x. x.short);
      room = ∥∥₁_elim h le_prop (λ x. x.room);
      keyed = λ k i j. ∥∥₁_elim h (Coded-set coded_ℕ _ _) (λ x. x.keyed k i j);
    }

pub both-kept : {table s skeys t tkeys : List ℕ} → ∥ BothPrepared table s skeys t tkeys ∥₁ →
    BothPrepared table s skeys t tkeys
both-kept h =
    record {
      small = ∥∥₁_elim h le_prop (λ x. x.small);
      binary = λ f a. ∥∥₁_elim h (Coded-set coded_ℕ _ _) (λ x. x.binary f a);
      left = prepared-kept (∥∥₁_map h (λ x. x.left));
      right = prepared-kept (∥∥₁_map h (λ x. x.right));
    }
