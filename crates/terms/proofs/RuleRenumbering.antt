-- Rules renumbered by first use, through their node words.
--     rename-agree, rename-rename           renamings that agree on a term's variables, one after another
--     occurs-word, word-occurs              a variable of a term and its node word
--     words-rename, rule_words-renumbered    the node words of a renamed term, of a renumbered rule
--     renumbering-one_to_one                  renumbering is one to one on the rule's variables
--     in_order-renumbered_rule                a rule in order is unchanged
--     renumbered_rule-in_order, -renamed      a renumbered rule is in order; the same from each renaming of the rule
use mathlib.Core.List.Memᴰ
use mathlib.Core.List.{List, [], ◌∷◌, ◌++◌, map, map-append, Memᴰ}
use mathlib.Core.Logic.{⊎_elim}
use mathlib.Core.Path.{◌≡◌, refl, sym, ap, ap₂, ◌∙◌}
use mathlib.Core.Bool.{true}
use Prim.Native.Nat.{ℕ, ◌+◌, ◌≤◌, ◌<◌}
use native.Mathlib.Omega.{arith}
use lib.Dec.{eqb}
use lib.ListN.{length, get_or, drop}
use borrow.Author.Tests.{eqb-true}
use Rattle.terms.specs.Signature.{Signature}
use Rattle.terms.specs.Term.{Term, Terms, occurrences, WellFormed, WellFormeds}
use Rattle.terms.specs.Term.Term.{var, app}
use Rattle.terms.specs.Term.Terms.{nil, cons}
use Rattle.terms.specs.Words.{first_variable, words, words_of}
use Rattle.terms.specs.Rewriting.{Rule}
use Rattle.terms.specs.Renaming.{rename, renames, OccursIn, OneToOneOn}
use Rattle.terms.specs.FirstUse.{in_order, first_uses, place_in, rename_word, rename_rule, rule_words}
use Rattle.terms.specs.FirstUse.{renumbered_rule}
use Rattle.multisets.proofs.Relations.{by_test, by_order, eqb-self}
use Rattle.terms.proofs.RewritingLaws.{occurrences_in}
use Rattle.terms.proofs.FirstUseLaws.{rename_word-symbol, rename_word-variable, place-injective, seen-word}
use Rattle.terms.proofs.FirstUseLaws.{renumbered-in_order, in_order-renumbered}
use Rattle.terms.proofs.FirstUseRenamed.{see_all-among, place-rename, see_all-rename}

-- ---- renamings of one term

mutual
  pub rename-agree : (ρ ρ' : ℕ → ℕ) (t : Term) → ((x : ℕ) → 0 < occurrences x t → ρ x ≡ ρ' x) →
      rename ρ t ≡ rename ρ' t
  rename-agree ρ ρ' (var x) h = ap var (h x (rw eqb-self (omega arith)))
  rename-agree ρ ρ' (app f ts) h = ap (app f) (renames-agree ρ ρ' ts λ x o. h x (omega arith))

  renames-agree : (ρ ρ' : ℕ → ℕ) (ts : Terms) → ((x : ℕ) → 0 < occurrences_in x ts → ρ x ≡ ρ' x) →
      renames ρ ts ≡ renames ρ' ts
  renames-agree ρ ρ' nil h = refl
  renames-agree ρ ρ' (cons t ts) h =
      ap₂ cons (rename-agree ρ ρ' t λ x o. h x (omega arith)) (renames-agree ρ ρ' ts λ x o. h x (omega arith))

mutual
  pub rename-rename : (ρ ρ' : ℕ → ℕ) (t : Term) → rename ρ' (rename ρ t) ≡ rename (λ (x : ℕ). ρ' (ρ x)) t
  rename-rename ρ ρ' (var x) = refl
  rename-rename ρ ρ' (app f ts) = ap (app f) (renames-renames ρ ρ' ts)

  renames-renames : (ρ ρ' : ℕ → ℕ) (ts : Terms) → renames ρ' (renames ρ ts) ≡ renames (λ (x : ℕ). ρ' (ρ x)) ts
  renames-renames ρ ρ' nil = refl
  renames-renames ρ ρ' (cons t ts) = ap₂ cons (rename-rename ρ ρ' t) (renames-renames ρ ρ' ts)

mutual
  rename-self : (t : Term) → rename (λ (x : ℕ). x) t ≡ t
  rename-self (var x) = refl
  rename-self (app f ts) = ap (app f) (renames-self ts)

  renames-self : (ts : Terms) → renames (λ (x : ℕ). x) ts ≡ ts
  renames-self nil = refl
  renames-self (cons t ts) = ap₂ cons (rename-self t) (renames-self ts)

-- ---- variables and words

mutual
  pub occurs-word : (x : ℕ) (t : Term) → 0 < occurrences x t → Memᴰ (first_variable + x) (words t)
  occurs-word x (var y) h =
      by_test (eqb x y) (λ e. Memᴰ.head (ap (◌+◌ first_variable) (eqb-true x y e)))
      λ e. absurd (let k = rw e at h in omega arith)
  occurs-word x (app f ts) h = Memᴰ.tail (occurs-word_of x ts (omega arith))

  occurs-word_of : (x : ℕ) (ts : Terms) → 0 < occurrences_in x ts → Memᴰ (first_variable + x) (words_of ts)
  occurs-word_of x nil h = absurd (omega arith)
  occurs-word_of x (cons t ts) h =
      by_order 0 (occurrences x t) (λ l. Memᴰ.append_left (words_of ts) (occurs-word x t l))
      λ l. Memᴰ.append_right (words t) (occurs-word_of x ts (omega arith))

pub occurs-rule_word : (x : ℕ) (r : Rule) → OccursIn r.left r.right x →
    Memᴰ (first_variable + x) (rule_words r)
occurs-rule_word x r o =
    by_order 0 (occurrences x r.left)
    (λ l. Memᴰ.append_left (words r.right) (occurs-word x r.left l))
    λ l. Memᴰ.append_right (words r.left) (occurs-word x r.right (omega arith))

pub renumbering-one_to_one : (r : Rule) → OneToOneOn (place_in (first_uses (rule_words r))) r.left r.right
renumbering-one_to_one r x y o p =
    place-injective (first_uses (rule_words r)) x y (seen-word (rule_words r) [] x (occurs-rule_word x r o))

-- ---- rules in order

map-fixed : (f : ℕ → ℕ) (l : List ℕ) {a : ℕ} → map f l ≡ l → Memᴰ a l → f a ≡ a
map-fixed f [] e m = absurd (Memᴰ.not-nil m)
map-fixed f (b ∷ l) e (Memᴰ.head q) = rw q (ap (λ (m : List ℕ). get_or m 0 0) e)
map-fixed f (b ∷ l) e (Memᴰ.tail m) = map-fixed f l (ap (λ (m : List ℕ). drop 1 m) e) m

abbrev rule : Term → Term → Rule
rule s t = record { left = s; right = t }

pub in_order-renumbered_rule : (r : Rule) → in_order (rule_words r) ≡ true → renumbered_rule r ≡ r
in_order-renumbered_rule r h =
    ap₂ rule (rename-agree ρ (λ x. x) r.left (λ x o. fixed x (omega arith)) ∙ rename-self r.left)
    (rename-agree ρ (λ x. x) r.right (λ x o. fixed x (omega arith)) ∙ rename-self r.right)
  where
    ρ : ℕ → ℕ
    ρ = place_in (first_uses (rule_words r))

    fixed : (x : ℕ) → OccursIn r.left r.right x → ρ x ≡ x
    fixed x o =
        omega (
          arith,
          rename_word-variable ρ x,
          map-fixed (rename_word ρ) (rule_words r) (in_order-renumbered (rule_words r) h) (occurs-rule_word x r o),
        )

-- ---- rules over at most 256 symbols

module _ (σ : Signature) (few : length σ.symbols ≤ first_variable) where
  mutual
    pub word-occurs : (x : ℕ) (t : Term) → WellFormed σ t → Memᴰ (first_variable + x) (words t) →
        0 < occurrences x t
    word-occurs x (var y) w m =
        let e : first_variable + x ≡ first_variable + y = Memᴰ.eq_of_singleton m in
        let q : x ≡ y = omega arith in
        rw (q, eqb-self) (omega arith)
    word-occurs x (app f ts) w (Memᴰ.head e) = absurd (omega (arith, w.0))
    word-occurs x (app f ts) w (Memᴰ.tail m) = omega (arith, word-occurs_in x ts w.2 m)

    word-occurs_in : (x : ℕ) (ts : Terms) → WellFormeds σ ts → Memᴰ (first_variable + x) (words_of ts) →
        0 < occurrences_in x ts
    word-occurs_in x nil w m = absurd (Memᴰ.not-nil m)
    word-occurs_in x (cons t ts) w m =
        ⊎_elim (λ k. omega (arith, word-occurs x t w.0 k)) (λ k. omega (arith, word-occurs_in x ts w.1 k))
        (Memᴰ.append_cases (words t) m)

  module _ (ρ : ℕ → ℕ) where
    mutual
      pub words-rename : (t : Term) → WellFormed σ t → words (rename ρ t) ≡ map (rename_word ρ) (words t)
      words-rename (var x) w = ap (λ (v : ℕ). v ∷ []) (sym (rename_word-variable ρ x))
      words-rename (app f ts) w =
          ap₂ ◌∷◌ (sym (rename_word-symbol ρ f (omega (arith, w.0)))) (words_of-renames ts w.2)

      words_of-renames : (ts : Terms) → WellFormeds σ ts → words_of (renames ρ ts) ≡ map (rename_word ρ) (words_of ts)
      words_of-renames nil w = refl
      words_of-renames (cons t ts) w =
          ap₂ ◌++◌ (words-rename t w.0) (words_of-renames ts w.1)
          ∙ sym (map-append (rename_word ρ) (words t) (words_of ts))

  module _ (r : Rule) (v : WellFormed σ r.left) (w : WellFormed σ r.right) where
    pub rule_word-occurs : (x : ℕ) → Memᴰ (first_variable + x) (rule_words r) → OccursIn r.left r.right x
    rule_word-occurs x m =
        ⊎_elim (λ k. omega (arith, word-occurs x r.left v k)) (λ k. omega (arith, word-occurs x r.right w k))
        (Memᴰ.append_cases (words r.left) m)

    pub rule_words-rename : (ρ : ℕ → ℕ) → rule_words (rename_rule ρ r) ≡ map (rename_word ρ) (rule_words r)
    rule_words-rename ρ =
        ap₂ ◌++◌ (words-rename ρ r.left v) (words-rename ρ r.right w)
        ∙ sym (map-append (rename_word ρ) (words r.left) (words r.right))

    pub renumbered_rule-in_order : in_order (rule_words (renumbered_rule r)) ≡ true
    renumbered_rule-in_order =
        ap in_order (rule_words-rename (place_in (first_uses (rule_words r)))) ∙ renumbered-in_order (rule_words r)

    module _ (ρ : ℕ → ℕ) (one : OneToOneOn ρ r.left r.right) where
      first_uses-rename : first_uses (rule_words (rename_rule ρ r)) ≡ map ρ (first_uses (rule_words r))
      first_uses-rename =
          ap first_uses (rule_words-rename ρ) ∙
          see_all-rename ρ (OccursIn r.left r.right) one (rule_words r) []
          (λ x m. absurd (Memᴰ.not-nil m)) rule_word-occurs

      place-renamed : (x : ℕ) → OccursIn r.left r.right x →
          place_in (first_uses (rule_words (rename_rule ρ r))) (ρ x) ≡ place_in (first_uses (rule_words r)) x
      place-renamed x o =
          ap (λ (l : List ℕ). place_in l (ρ x)) first_uses-rename
          ∙ place-rename ρ (OccursIn r.left r.right) one (first_uses (rule_words r)) x o
          (see_all-among (OccursIn r.left r.right) (rule_words r) [] (λ y m. absurd (Memᴰ.not-nil m))
          rule_word-occurs)

      side-renamed : (t : Term) → ((x : ℕ) → 0 < occurrences x t → OccursIn r.left r.right x) →
          rename (place_in (first_uses (rule_words (rename_rule ρ r)))) (rename ρ t) ≡
          rename (place_in (first_uses (rule_words r))) t
      side-renamed t h =
          rename-rename ρ (place_in (first_uses (rule_words (rename_rule ρ r)))) t
          ∙ rename-agree (λ x. place_in (first_uses (rule_words (rename_rule ρ r))) (ρ x))
          (place_in (first_uses (rule_words r))) t λ x o. place-renamed x (h x o)

      pub renumbered_rule-renamed : renumbered_rule (rename_rule ρ r) ≡ renumbered_rule r
      renumbered_rule-renamed =
          ap₂ rule (side-renamed r.left λ x o. omega arith) (side-renamed r.right λ x o. omega arith)
