-- The stack of entries has those of the terms that words spell, and a node takes off its arguments'.
--     Stacked                              what the stack has
--     stack-none, node-fits, node-stacked  past the last word; one word more to the left
--     stack-some, stack-end                at the first word its top tells the whole term's fingerprint
use Rattle.std.proofs.Common.{◌≡◌, ℕ, zero, suc, ◌+◌, ◌-◌, ◌<◌, ◌≤◌, List, [], ◌∷◌, ◌++◌, map, length, get_or, take, drop, sym, refl, ap, ◌∙◌, append_assoc, arith, length-append, le-ltb, lt-ltb}
use lib.ListN.{length-map}
use mathlib.Core.List.{append-nil}
use lib.Seq.{drop-append_seam}
use Rattle.std.proofs.lemmas.List.{get_or-map}
use Rattle.multisets.proofs.Relations.{by_order}
use Rattle.terms.specs.Signature.{Signature, symbol_of}
use Rattle.terms.specs.Term.{Term, arguments}
use Rattle.terms.specs.Term.Term.{var, app}
use Rattle.terms.specs.Words.{first_variable, grow, forest_of, term_of}
use Rattle.terms.specs.Fingerprint.{fingerprint}
use Rattle.format.specs.Statements.{IsTerm}
use Rattle.subterms.proofs.PartLaws.{complete-drop, stands, stand-one}
use Rattle.subterms.proofs.FormedLaws.{term-complete, term-some}
use Rattle.hashing.specs.declared.Entry.{Entry}
use Rattle.hashing.specs.Entries.{term_entry, fingerprint_in, put_by}
use Rattle.hashing.proofs.EntryLaws.{past-last, fingerprint_in-entry, kept_by-symbol}

-- ---- lists

take-map : (e : Term → Entry) (n : ℕ) (l : List Term) → take n (map e l) ≡ map e (take n l)
take-map e zero l = refl
take-map e (suc n) [] = refl
take-map e (suc n) (t ∷ l) = ap (◌∷◌ (e t)) (take-map e n l)

drop-map : (e : Term → Entry) (n : ℕ) (l : List Term) → drop n (map e l) ≡ map e (drop n l)
drop-map e zero l = refl
drop-map e (suc n) [] = refl
drop-map e (suc n) (t ∷ l) = drop-map e n l

-- The entries are those of the terms that the words to the right of the others spell.
pub record Stacked (σ : Signature) (words left : List ℕ) (entries : List Entry) : Type 0 where
  pub right : List ℕ
  pub split : words ≡ left ++ right
  pub stand : entries ≡ map (term_entry σ) (forest_of σ right)

module _ (σ : Signature) (few : length σ.symbols ≤ first_variable) where
  -- ---- a node

  put-var : (w : ℕ) (ts : List Term) → first_variable ≤ w →
      put_by σ w (map (term_entry σ) ts) ≡ term_entry σ (var (w - first_variable)) ∷ map (term_entry σ) ts
  put-var w ts h =
      let e : first_variable + (w - first_variable) ≡ w = omega arith in
      rw (past-last σ few w h, e)

  put-app : (w : ℕ) (ts : List Term) →
      put_by σ w (map (term_entry σ) ts)
      ≡ term_entry σ (app w (arguments (take (symbol_of σ w).arity ts)))
      ∷ map (term_entry σ) (drop (symbol_of σ w).arity ts)
  put-app w ts =
      rw (
        take-map (term_entry σ) (symbol_of σ w).arity ts,
        drop-map (term_entry σ) (symbol_of σ w).arity ts,
        kept_by-symbol σ few w (take (symbol_of σ w).arity ts),
      )

  put-entries : (w : ℕ) (ts : List Term) → put_by σ w (map (term_entry σ) ts) ≡ map (term_entry σ) (grow σ w ts)
  put-entries w ts =
      by_order w first_variable (λ h. rw (lt-ltb w first_variable h) (put-app w ts))
      λ h. rw (le-ltb w first_variable h) (put-var w ts h)

-- ---- what the loop keeps

pub stack-none : (σ : Signature) (words : List ℕ) → Stacked σ words words []
unfolding forest_of
stack-none σ words = record { right = []; split = sym (append-nil words); stand = refl }

module _ {σ : Signature} {words : List ℕ} (few : length σ.symbols ≤ first_variable) (p : IsTerm σ words) where
  few_terms : (left right : List ℕ) → words ≡ left ++ right →
      length left + length (forest_of σ right) ≤ length words
  few_terms left right e =
      let d : drop (length left) words ≡ right = rw e (drop-append_seam left right) in
      (rw d at (stands σ words (length left) (length (forest_of σ (drop (length left) words))) (omega arith)
      (omega (arith, ap length e, length-append left right)))).fits

  module _ (left : List ℕ) (w : ℕ) (entries : List Entry) (h : Stacked σ words (left ++ w ∷ []) entries) where
    many : length entries ≡ length (forest_of σ h.right)
    many = ap length h.stand ∙ length-map (forest_of σ h.right) (term_entry σ)

    rejoined : words ≡ left ++ (w ∷ h.right)
    rejoined = h.split ∙ append_assoc left (w ∷ []) h.right

    pub node-fits : ((symbol_of σ w).arity ≤ length entries) × (length entries < length words)
    node-fits =
        let d : drop (length left) words ≡ w ∷ h.right = rw rejoined (drop-append_seam left (w ∷ h.right)) in
        let k = rw d at (complete-drop σ words (length left) (term-complete σ few p)) in (
          omega (arith, k.1, many),
          omega (
            arith,
            many,
            few_terms (left ++ w ∷ []) h.right h.split,
            length-append left (w ∷ []),
          ),
        )

    pub node-stacked : Stacked σ words left (put_by σ w entries)
    unfolding forest_of
    node-stacked = record {
      right = w ∷ h.right;
      split = rejoined;
      stand = rw h.stand (put-entries σ few w (forest_of σ h.right));
    }

  module _ (entries : List Entry) (h : Stacked σ words [] entries) where
    terms-some : 0 < length (forest_of σ h.right)
    terms-some = rw h.split at (stand-one σ words 0 (term-some p))

    pub stack-some : 0 < length entries
    stack-some = omega (arith, terms-some, ap length h.stand, length-map (forest_of σ h.right) (term_entry σ))

    pub stack-end : (d : Entry) → fingerprint_in σ (get_or entries 0 d) ≡ fingerprint σ (term_of σ words)
    stack-end d =
        ap (fingerprint_in σ)
        (ap (λ (l : List Entry). get_or l 0 d) h.stand
        ∙ get_or-map (term_entry σ) (forest_of σ h.right) 0 (var 0) d
        terms-some)
        ∙ fingerprint_in-entry σ few (term_of σ h.right) ∙ ap (λ (ws : List ℕ). fingerprint σ (term_of σ ws)) (sym h.split)
