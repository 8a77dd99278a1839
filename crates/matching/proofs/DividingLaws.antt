-- A search by the masks that divide a sum, from the greatest down.
--     dividing-next                   the next mask
--     divided-found, divided-next     the first mask gives a match; it gives none
use mathlib.Core.List.{List}
use mathlib.Core.Path.{◌≡◌, sym, ◌∙◌}
use mathlib.Core.Bool.{Bool, true, false, false≢true}
use Prim.Native.Nat.{ℕ, ◌+◌, ◌-◌, ◌<◌}
use native.Mathlib.Omega.{arith}
use lib.Bits.{bit_and}
use Rattle.multisets.proofs.Relations.{by_order}
use Rattle.terms.specs.Signature.{Signature}
use Rattle.terms.specs.Term.{Term}
use Rattle.terms.specs.Words.{first_variable}
use Rattle.simplifying.proofs.MaskLaws.{within-and, within-next}
use Rattle.matching.specs.Bindings.{bindings_at, KeptBindings}
use Rattle.matching.specs.Search.{Searched, divided, Dividing, Divided}
use Rattle.matching.proofs.BindingLaws.{occurs-grows, kept-bindings, symbol-bindings}

module _ {σ : Signature} {ws ps : List ℕ} {p i m a : ℕ} (G : Dividing σ ws ps p i m a) where
  pub dividing-next : {next : ℕ} → next ≡ bit_and (a - 1) m → next < a → Dividing σ ws ps p i m next
  dividing-next {next} e h = record {
    symbol = G.symbol;
    word = G.word;
    inside = G.inside;
    root = G.root;
    ac = G.ac;
    bound = G.bound;
    within = rw e (within-and (a - 1) m);
    below = omega (arith, G.below);
  }

module _ (σ : Signature) (ws ps : List ℕ) {p i m a : ℕ} (G : Dividing σ ws ps p i m a) (offsets masks : List ℕ)
    (ts : List Term) where
  module _ (z : a ≡ 0 → ⊥) (us : List Term) (u : us ≡ divided σ ws ps i m a ts) where
    sides : bindings_at σ ws ps (p + 1) offsets masks ≡ bindings_at σ ws ps p offsets masks
    sides = symbol-bindings σ ws ps p G.symbol offsets masks

    kept-before : (others rest : List ℕ) → KeptBindings σ ws ps (p + 1) offsets masks others rest →
        KeptBindings σ ws ps p offsets masks others rest
    kept-before others rest k x o = k x (occurs-grows ps (first_variable + x) p o)

    pub divided-found : (r : Bool) (others rest : List ℕ) → r ≡ true →
        Searched σ ws ps (p + 1) offsets masks us r others rest →
        Divided σ ws ps p i m a offsets masks ts true others rest
    divided-found r others rest y S = record {
      yes = λ q. (a, G.within, omega (arith, z), G.below, rw (u, sides) at (S.yes y));
      no = λ q. absurd (false≢true (sym q));
      kept = kept-before others rest S.kept;
      bound = S.bound;
    }

    pub divided-next : (r : Bool) (others rest : List ℕ) → r ≡ false →
        Searched σ ws ps (p + 1) offsets masks us r others rest → (next : ℕ) → next ≡ bit_and (a - 1) m →
        (vs : List Term) → vs ≡ ts → (r' : Bool) (others' rest' : List ℕ) →
        Divided σ ws ps p i m next others rest vs r' others' rest' →
        Divided σ ws ps p i m a offsets masks ts r' others' rest'
    divided-next r others rest y S next q vs g r' others' rest' D =
        let k = kept-before others rest S.kept in
        let e = kept-bindings σ ws ps p offsets masks others rest k in
        record {
          yes = λ o. rw (e, g) at (D.yes o);
          no = λ o x w h j. by_order x a
              (λ n. rw (e, g) at (D.no o x w h (rw q (within-next a m x G.within w n))))
              λ n. let d : x ≡ a = omega arith in rw d (rw (u, sides) at (S.no y));
          kept = λ x o. let (c, d) = k x o in let (e, f) = D.kept x o in (e ∙ c, f ∙ d);
          bound = D.bound;
        }
